-- The steps of a saved state run again: its step count, the limit for both budgets, and 30 for a run that ends within those steps.
-- Assumes nothing.
use Prim.Native.Nat.{ℕ, ◌+◌, ◌≤◌, ◌<◌}
use mathlib.Core.Path.{◌≡◌, sym, ap, subst, ◌∙◌}
use mathlib.Core.Bool.{Bool, true, false}
use mathlib.Core.List.{List}
use mathlib.Core.Option.{Option}
use native.Mathlib.Omega.{arith}
use lib.Dec.{ltb}
use lib.ListN.{length}
use borrow.Author.Tests.{lt-ltb, le-ltb, ltb-true, ltb-false}
use Rattle.std.specs.Prelude as std
use Rattle.std.specs.Prelude.{Ok, Err}
use Rattle.words.specs.Word.{word}
use Rattle.format.specs.Limits.{most_steps}
use Rattle.format.specs.declared.refusals.Cause.TheVariants.{BudgetTooLarge, StateNotGenuine}
use Rattle.format.specs.Refusals.{number}
use Rattle.answers.specs.declared.Answer.{Answer}
use Rattle.answers.specs.Answers as said
use Rattle.entries.specs.Outcomes.{refusal}
use Rattle.entries.specs.Halting.{unbegun, steps_of, is_saved, genuine, going_on, resume_outcome}
use Rattle.entries.proofs.HaltingLaws.{both_read, not_genuine}
use Rattle.machine.specs.declared.state.Mode.TheVariants as is
use Rattle.machine.specs.declared.state.State.{State}
use Rattle.runner.specs.declared.last.Reached as told
use Rattle.runner.specs.LastState.{Reached, Reaches}
use Rattle.halting.specs.Again.{Refuses, RanAgain, Again}
use Rattle.halting.proofs.HaltLaws.{keeps}
use Rattle.halting.proofs.ComesLaws.{limit_refuses, files_refuse}

-- the step count of a saved state
pub none_held : (s : List ℕ) (r : ℕ) → length s < 2 → r ≡ 0 → r ≡ steps_of s
unfolding steps_of
none_held s r h e = rw (lt-ltb (length s) 2 h) e

pub some_held : (s : List ℕ) (r : ℕ) → 2 ≤ length s → r ≡ word s 0 → r ≡ steps_of s
unfolding steps_of
some_held s r h e = rw (le-ltb (length s) 2 h) e

-- the limit
module _ (saved : List ℕ) (n c : ℕ) (e : n ≡ steps_of saved) (r : Bool) (told : r ≡ ltb most_steps (n + c)) where
  pub over : r ≡ true → most_steps < steps_of saved + c
  over q = omega (arith, e, ltb-true most_steps (n + c) (sym told ∙ q))

  pub within : r ≡ false → steps_of saved + c ≤ most_steps
  within q = omega (arith, e, ltb-false most_steps (n + c) (sym told ∙ q))

-- a state that is not genuine
module _ (t s saved : List ℕ) (c : ℕ) (fits : steps_of saved + c ≤ most_steps) (w : List ℕ) (x : State) (first term : ℕ) (q : Reached t s (steps_of saved) w x first term) where
  pub not_genuine_is_30 : genuine q.table q.job saved ≡ false → resume_outcome t s saved c ≡ unbegun (refusal StateNotGenuine 0 0 0)
  unfolding resume_outcome
  not_genuine_is_30 g = both_read t s (steps_of saved + c) (going_on saved c) fits q.table q.job q.table_reads q.job_reads ∙ not_genuine q.table q.job saved c g

  -- a run that has ended has no saved state
  ended_not_genuine : (x.mode ≡ is.Running → ⊥) → genuine q.table q.job saved ≡ false
  unfolding genuine is_saved
  ended_not_genuine n = ap (λ (o : Option (List ℕ)). is_saved o saved) ((keeps t s (steps_of saved) w x first term q (omega (arith, fits))).ended n)

  ended_is_30 : (x.mode ≡ is.Running → ⊥) → resume_outcome t s saved c ≡ unbegun (refusal StateNotGenuine 0 0 0)
  ended_is_30 n = not_genuine_is_30 (ended_not_genuine n)

module _ (t s saved : List ℕ) (c : ℕ) (v : List ℕ) where
  pub limit_again : (a : Answer) → most_steps < steps_of saved + c → a ≡ said.refusal (number BudgetTooLarge) 0 0 0 → Again t s saved c v (Err a)
  unfolding Again resume_outcome
  limit_again a l q = limit_refuses t s (steps_of saved + c) (going_on saved c) a l q

  -- what comes of the files and of the steps
  pub run_again : steps_of saved + c ≤ most_steps → (n : ℕ) → n ≡ steps_of saved → (r : std.Result told.Reached Answer) → Reaches t s n v r → Again t s saved c v r
  unfolding Again Reaches resume_outcome
  run_again fits n e (Err a) h = files_refuse t s (steps_of saved + c) (going_on saved c) fits a h
  run_again fits n e (Ok r) h =
      let q : Reached t s (steps_of saved) v r.state r.first r.term = subst (λ (i : ℕ). Reaches t s i v (Ok r)) e h in
      record { within = fits; reached = q; ended = ended_is_30 t s saved c fits v r.state r.first r.term q }

-- from what the code tells
module _ (t s saved : List ℕ) (c : ℕ) (v : List ℕ) (r : std.Result told.Reached Answer) (h : Again t s saved c v r) where
  pub again_refused : (a : Answer) → r ≡ Err a → Refuses a (resume_outcome t s saved c)
  unfolding Again
  again_refused a e = subst (λ (x : std.Result told.Reached Answer). Again t s saved c v x) e h

  pub ran_again : (x : told.Reached) → r ≡ Ok x → RanAgain t s saved c v x
  unfolding Again
  ran_again x e = subst (λ (y : std.Result told.Reached Answer). Again t s saved c v y) e h
