-- The last state of a job in the files that were read: what the code was told of them makes it one, and it says which of the entry's outcomes the run comes to.
-- Assumes nothing.
use Prim.Native.Nat.{ℕ, ◌≤◌}
use mathlib.Core.Path.{◌≡◌, refl, sym, subst}
use mathlib.Core.List.{List}
use native.Mathlib.Omega.{arith}
use lib.ListN.{length}
use Rattle.std.specs.Prelude.{Result, Ok, Err}
use Rattle.format.specs.Limits.{most_steps}
use Rattle.files.specs.declared.jobs.JobParts.{JobParts}
use Rattle.evaluation.specs.Machine as M
use Rattle.answers.specs.declared.Answer.{Answer}
use Rattle.entries.specs.Run.{begins, run_end, run_result}
use Rattle.entries.specs.Left.{kept, left_in}
use Rattle.arities.specs.Layout.{space_end}
use Rattle.arities.specs.Arities.{arities}
use Rattle.tactics.specs.Memory.{Same}
use Rattle.tactics.specs.Entry.{FilesRefused}
use Rattle.tactics.proofs.JobLaws.{term_place_lem}
use Rattle.tactics.proofs.EntryLaws.{BothRead}
use Rattle.machine.specs.declared.state.Mode.TheVariants as is
use Rattle.machine.specs.declared.state.State.{State}
use Rattle.machine.specs.Shows.{Shows}
use Rattle.machine.proofs.KeepLaws.{runs_kept}
use Rattle.runner.specs.declared.last.Reached as told
use Rattle.runner.specs.Jobs.{FinishGiven, Finishes, JobGiven, JobRan}
use Rattle.runner.specs.LastState.{Reached, Reaches}
use Rattle.runner.proofs.RunLaws.{known_same, if_running}

-- from what the code was told
module _ (t s : List ℕ) (b : ℕ) (fits : b ≤ most_steps) (definitions first : ℕ) (parts : JobParts) (q : BothRead t s definitions first parts) where
  pub job_given : (w : List ℕ) → space_end ≤ length w → JobGiven t first definitions s parts b w
  job_given w h = record {
    budget_fits = fits;
    space = h;
    table_small = q.table_small;
    table = q.table;
    table_stands = q.table_stands;
    unique = q.unique;
    count_is = q.count_is;
    the_job = q.the_job;
    job_stands = q.job_stands;
    parts_are = q.parts_are;
  }

  pub reached : (v : List ℕ) (r : State) → JobRan t first definitions s parts b v r → Reached t s b v r first parts.term
  reached v r h = record {
    table = q.table;
    table_reads = q.table_reads;
    table_small = q.table_small;
    table_stands = q.table_stands;
    known = h.known q.table q.table_stands q.unique q.count_is;
    job = q.the_job;
    job_reads = q.job_reads;
    job_stands = q.job_stands;
    term_is = term_place_lem s q.the_job q.job_stands parts q.parts_are;
    few_steps = h.few_steps;
    shows = h.shows q.table q.the_job q.table_stands q.unique q.count_is q.job_stands q.parts_are;
  }

-- by how a reader answered
pub by_result : {A B : Type 0} (r : Result A B) (P : Type 0) → ((a : A) → r ≡ Ok a → P) → ((b : B) → r ≡ Err b → P) → P
by_result (Ok a) P f g = f a refl
by_result (Err b) P f g = g b refl

-- what the code tells
module _ (t s : List ℕ) (b : ℕ) (w : List ℕ) where
  pub refused_reaches : (r : Result told.Reached Answer) (a : Answer) → r ≡ Err a → FilesRefused t s a → Reaches t s b w r
  unfolding Reaches
  refused_reaches r a e f = subst (λ (x : Result told.Reached Answer). Reaches t s b w x) (sym e) f

  pub reached_reaches : (x : told.Reached) → Reached t s b w x.state x.first x.term → Reaches t s b w (Ok x)
  unfolding Reaches
  reached_reaches x q = q

-- from what the code tells
module _ (t s : List ℕ) (b : ℕ) (w : List ℕ) (r : Result told.Reached Answer) (h : Reaches t s b w r) where
  pub is_refused : (a : Answer) → r ≡ Err a → FilesRefused t s a
  unfolding Reaches
  is_refused a e = subst (λ (x : Result told.Reached Answer). Reaches t s b w x) e h

  pub is_reached : (x : told.Reached) → r ≡ Ok x → Reached t s b w x.state x.first x.term
  unfolding Reaches
  is_reached x e = subst (λ (y : Result told.Reached Answer). Reaches t s b w y) e h

-- the end of the run
module _ (t s : List ℕ) (b : ℕ) (w : List ℕ) (x : State) (first term : ℕ) (q : Reached t s b w x first term) where
  pub finish_given : b ≤ most_steps → space_end ≤ length w → FinishGiven s term w x
  finish_given h l = record {
    few_steps = omega (arith, h, q.few_steps);
    space = l;
    the_job = q.job;
    job_stands = q.job_stands;
    term_is = q.term_is;
    table = t;
    control = (M.run q.table b (begins q.job)).control;
    shows = q.shows.shows;
  }

  pub finish_end : (o : List ℕ) (r : Answer) (v : List ℕ) → Finishes s w x o r v → kept r v ≡ left_in o (run_result q.job (M.run q.table b (begins q.job)))
  unfolding run_result
  finish_end o r v h =
      let σ = M.run q.table b (begins q.job) in
      subst (λ (n : ℕ). kept r v ≡ left_in o (run_end q.job n σ.control)) q.shows.steps_are (h t q.job σ.control q.job_stands q.shows.shows)

-- a run that halted stands as before after a write behind all that a run uses
unfoldable pub reached_kept : (t s : List ℕ) (b : ℕ) (w v : List ℕ) (x : State) (first term : ℕ) → Reached t s b w x first term → x.mode ≡ is.Running → b ≤ most_steps → length v ≡ length w → Same 0 space_end w v
    → Reached t s b v x first term
unfolding Shows
reached_kept t s b w v x first term q m h len same = record {
  table = q.table;
  table_reads = q.table_reads;
  table_small = q.table_small;
  table_stands = q.table_stands;
  known = known_same w v (arities q.table) (λ i l r. same i (omega arith) r) q.known;
  job = q.job;
  job_reads = q.job_reads;
  job_stands = q.job_stands;
  term_is = q.term_is;
  few_steps = q.few_steps;
  shows = record {
    steps_are = q.shows.steps_are;
    shows = if_running t s w x (λ κ. Shows t s v x κ) m (λ π u g k r. runs_kept t s w v x π u g k len same (omega (arith, h, q.few_steps)) r) (M.run q.table b (begins q.job)).control q.shows.shows;
  };
}
