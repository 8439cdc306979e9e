-- The entry: budget and height, and how the files read, say which case of the entry's definition holds.
-- Assumes nothing.
use Prim.Native.Nat.{ℕ, suc, ◌≤◌, ◌<◌}
use mathlib.Core.Path.{◌≡◌, refl, sym, ap, ◌∙◌}
use mathlib.Core.List.{List}
use native.Mathlib.Omega.{arith}
use lib.ListN.{length}
use borrow.Author.Tests.{lt-ltb, le-ltb}
use Rattle.words.specs.Kept.{Kept}
use Rattle.format.specs.Limits.{least_height, most_height, most_search_steps}
use Rattle.format.specs.declared.refusals.Cause.TheVariants.{BudgetTooLarge, HeightOutside}
use Rattle.format.specs.Refusals.{number}
use Rattle.reading.specs.Waiting.{reading_room}
use Rattle.tables.specs.declared.repeats.Repeat.TheVariants as K
use Rattle.tables.specs.Tables.{Table}
use Rattle.index.specs.Build.{RulesIndexed, DefinitionsIndexed}
use Rattle.index.proofs.IndexKept.{indexed_before}
use Rattle.files.specs.declared.jobs.JobParts.{JobParts}
use Rattle.files.specs.Jobs.{Job}
use Rattle.search.specs.Answer.{search}
use Rattle.answers.specs.declared.Answer.{Answer}
use Rattle.answers.specs.Answers as said
use Rattle.entries.specs.Outcomes.{Outcome, refusal, no_file}
use Rattle.entries.specs.LentSpace.{Written}
use Rattle.entries.specs.Search.{search_end, search_outcome}
use Rattle.entries.specs.Left.{kept, left_in}
use Rattle.entries.proofs.LeftLaws.{refuses}
use Rattle.tactics.specs.Entry.{on_job}
use Rattle.tactics.proofs.EntryLaws.{BothRead, both_outcome}
use Rattle.search_machine.specs.Layout.{definitions_place, rules_place, space_end}
use Rattle.search_machine.specs.Step.{TableIndexed}
use Rattle.searcher.specs.Jobs.{JobGiven, JobRan}

-- what follows the reading
abbrev pub searches : (below budget : ℕ) → Table → Job → Outcome (List ℕ)
searches d b T j = search_end j (search T (suc d) b j.term j.goals)

-- reading the job leaves the indexes
pub indexed_read : (t : List ℕ) (first : ℕ) (w v : List ℕ) → length v ≡ length w → Kept w v 0 reading_room → RulesIndexed t first w rules_place → DefinitionsIndexed t first w definitions_place → TableIndexed t first v
indexed_read t first w v e k r d = record {
  rules = (r.0, r.1, indexed_before K.Rule t r.0 w v rules_place 0 reading_room e k (omega arith) r.2);
  definitions = (d.0, d.1, indexed_before K.Tactic t d.0 w v definitions_place 0 reading_room e k (omega arith) d.2);
}

-- the limits
module _ (t s : List ℕ) (h b : ℕ) where
  too_large : most_search_steps < b → search_outcome t s h b ≡ refusal BudgetTooLarge no_file 0 0
  unfolding search_outcome
  too_large x = rw (lt-ltb most_search_steps b x)

  too_low : b ≤ most_search_steps → h < least_height → search_outcome t s h b ≡ refusal HeightOutside no_file 0 0
  unfolding search_outcome
  too_low x y = rw (le-ltb most_search_steps b x, lt-ltb h least_height y)

  too_high : b ≤ most_search_steps → least_height ≤ h → most_height < h → search_outcome t s h b ≡ refusal HeightOutside no_file 0 0
  unfolding search_outcome
  too_high x y z = rw (le-ltb most_search_steps b x, le-ltb h least_height y, lt-ltb most_height h z)

  pub too_large_end : (o : List ℕ) (r : Answer) → most_search_steps < b → r ≡ said.refusal (number BudgetTooLarge) no_file 0 0 → kept r o ≡ left_in o (search_outcome t s h b)
  too_large_end o r x q = refuses BudgetTooLarge (number BudgetTooLarge) no_file 0 0 r o refl q ∙ ap (left_in o) (sym (too_large x))

  pub too_low_end : (o : List ℕ) (r : Answer) → b ≤ most_search_steps → h < least_height → r ≡ said.refusal (number HeightOutside) no_file 0 0 → kept r o ≡ left_in o (search_outcome t s h b)
  too_low_end o r x y q = refuses HeightOutside (number HeightOutside) no_file 0 0 r o refl q ∙ ap (left_in o) (sym (too_low x y))

  pub too_high_end : (o : List ℕ) (r : Answer) → b ≤ most_search_steps → least_height ≤ h → most_height < h → r ≡ said.refusal (number HeightOutside) no_file 0 0 → kept r o ≡ left_in o (search_outcome t s h b)
  too_high_end o r x y z q = refuses HeightOutside (number HeightOutside) no_file 0 0 r o refl q ∙ ap (left_in o) (sym (too_high x y z))

  -- a height is one more than the levels below
  pub height_end : (d : ℕ) (o : List ℕ) (x : Written) → suc d ≡ h → x ≡ left_in o (search_outcome t s (suc d) b) → x ≡ left_in o (search_outcome t s h b)
  height_end d o x e q = q ∙ ap (λ (i : ℕ). left_in o (search_outcome t s i b)) e

module _ (t s : List ℕ) (d b : ℕ) (fits : b ≤ most_search_steps) (high : d < most_height) where
  within : search_outcome t s (suc d) b ≡ on_job t s (searches d b)
  unfolding search_outcome
  within = rw (le-ltb most_search_steps b fits, le-ltb (suc d) least_height (omega arith), le-ltb most_height (suc d) (omega (arith, high)))

  -- within the limits, what the reading leaves is what the entry leaves
  pub read_end : (o : List ℕ) (x : Written) → x ≡ left_in o (on_job t s (searches d b)) → x ≡ left_in o (search_outcome t s (suc d) b)
  read_end o x e = e ∙ ap (left_in o) (sym within)

  module _ (definitions first : ℕ) (parts : JobParts) (q : BothRead t s definitions first parts) where
    pub job_given : (w : List ℕ) → space_end ≤ length w → TableIndexed t first w → JobGiven t first s parts d b w
    job_given w h x = record {
      few_levels = high;
      budget_fits = fits;
      space = h;
      table_small = q.table_small;
      table = q.table;
      table_stands = q.table_stands;
      indexed = x;
      the_job = q.the_job;
      job_stands = q.job_stands;
      parts_are = q.parts_are;
    }

    pub job_end : (o : List ℕ) (r : Answer) (v : List ℕ) → JobRan t first s parts d b o r v → kept r v ≡ left_in o (search_outcome t s (suc d) b)
    job_end o r v h = read_end o (kept r v) (h q.table q.the_job q.table_stands q.job_stands q.parts_are ∙ ap (left_in o) (sym (both_outcome t s (searches d b) q.table q.the_job q.table_reads q.job_reads)))
