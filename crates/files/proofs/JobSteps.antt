-- Reading a job file: what is known in each state, that each turn keeps it, and what the last state tells.
-- Assumes nothing.
use mathlib.Core.Path.{◌≡◌, refl, sym, ap, subst, ◌∙◌}
use Rattle.std.specs.Prelude.{Ok, Err}
use mathlib.Core.Bool.{Bool, true, false, cond}
use mathlib.Core.List.{List}
use Prim.Native.Nat.{ℕ}
use lib.Dec.{eqb}
use lib.ListN.{length}
use borrow.Author.Tests.{eqb-true, eqb-false}
use Rattle.format.specs.GoalsRead as G
use Rattle.format.specs.declared.refusals.Cause.TheVariants.{LengthWrong}
use Rattle.format.specs.Tags.{tactic_kind}
use Rattle.parts.specs.declared.state.Mode.TheVariants as M
use Rattle.parts.specs.declared.state.Part.TheVariants as P
use Rattle.parts.specs.declared.state.State.{State}
use Rattle.parts.specs.States.{refusing, refusal_of, behind_list, behind_job, behind_part, behind_term, begun_file}
use Rattle.parts.proofs.AskLaws.{high_of_job}
use Rattle.reading.specs.Reading.{Reading, Step, Reaches}
use Rattle.reading.proofs.ReachLaws.{holds_on}
use Rattle.files.specs.Jobs.{read_job}
use Rattle.files.specs.Shapes.{job_parts, job_shape, told_job}
use Rattle.files.proofs.ListSteps.{stated, ListStep, stops, reads, First, Begins, long, first, begins, first_step}
use Rattle.files.proofs.TermSteps.{InTerm, Turn, goes_on, refuses, leaves, term_begun, term_turn}
use Rattle.files.proofs.JobLaws.{stated_refused, tactic_refused, bytes_left, job_read}

module _ (s : List ℕ) (base : ℕ) where
  -- in front of the term stands the list of the stated goals
  abbrev Front : (goals from : ℕ) → Type 0
  Front n to = stated s ≡ G.Read n to

  -- by how far it was read
  data Known (w : List ℕ) (x : State) : Type 0 where
    is_refused : x.mode ≡ M.Refused → job_shape (read_job s) ≡ Err (refusal_of x) → Known w x
    in_goals : First s P.JobGoals x → Known w x
    in_term : InTerm s P.JobTerm tactic_kind Front base w x → Known w x
    is_read : x.mode ≡ M.Gave → job_shape (read_job s) ≡ Ok (job_parts x.goals x.from) → Known w x

  module _ (w : List ℕ) (x : State) (h : Reading s w base x) (w' : List ℕ) (r : State) where
    behind_goals : First s P.JobGoals x → w' ≡ w → ListStep s x (stated s) r → Known w' r
    unfolding behind_list
    behind_goals f v (stops m e) = is_refused m (stated_refused s _ _ e)
    behind_goals f v (reads n close e q) = in_term (rw (v, q, f.part_is) (term_begun s P.JobTerm tactic_kind Front base w x h P.JobGoals refl f n close e))

    behind_term_lem : InTerm s P.JobTerm tactic_kind Front base w x → Turn s P.JobTerm tactic_kind Front base x w' r → Known w' r
    unfolding behind_term behind_part behind_job
    behind_term_lem t (goes_on u) = in_term u
    behind_term_lem t (refuses m e) = is_refused m (tactic_refused s _ _ t.front _ _ e)
    behind_term_lem t (leaves y b q) = subst (Known w') (sym (q ∙ ap (behind_part s y) b.part_is)) (go (eqb y.at (length s)) refl)
      where
        go : (c : Bool) → eqb y.at (length s) ≡ c → Known w' (cond c y (refusing y LengthWrong y.at))
        go true e = is_read b.mode_is (job_read s _ _ b.front _ _ b.term (eqb-true y.at (length s) e))
        go false e = is_refused refl (bytes_left s _ _ b.front _ _ b.term (eqb-false y.at (length s) e))

  keeps : (w : List ℕ) (x : State) (w' : List ℕ) (r : State) → Reading s w base x → x.mode ≡ M.Reads → Step s w base x w' r → Known w x → Known w' r
  keeps w x w' r h m step (is_refused z e) = cc
  keeps w x w' r h m step (in_goals f) =
      let l = first_step s w base P.JobGoals refl x h f w' r step in
      behind_goals w x h w' r f l.0 l.1
  keeps w x w' r h m step (in_term t) = behind_term_lem w x h w' r t (term_turn s P.JobTerm tactic_kind Front base w x h refl high_of_job t w' r step)
  keeps w x w' r h m step (is_read z e) = cc

  begins_known : (w : List ℕ) (x : State) → Begins s P.JobGoals x → Known w x
  begins_known w x (long m e) = is_refused m (stated_refused s _ _ e)
  begins_known w x (first f) = in_goals f

  tells : (w : List ℕ) (x : State) → Known w x → (x.mode ≡ M.Reads → ⊥) → told_job x ≡ job_shape (read_job s)
  tells w x (is_refused m e) n = rw m (sym e)
  tells w x (in_goals f) n = absurd (n f.mode_is)
  tells w x (in_term t) n = absurd (n t.mode_is)
  tells w x (is_read m e) n = rw m (sym e)

  -- from the first state on
  pub job_told : (w : List ℕ) → Reading s w base (begun_file s P.JobGoals) → (w' : List ℕ) (r : State) → Reaches s base w (begun_file s P.JobGoals) w' r → (r.mode ≡ M.Reads → ⊥) → told_job r ≡ job_shape (read_job s)
  job_told w h w' r reaches n = tells w' r (holds_on s base Known keeps w _ h (begins_known w _ (begins s P.JobGoals)) w' r reaches) n
