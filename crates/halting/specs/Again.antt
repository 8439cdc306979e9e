-- The steps of a saved state run again: a refusal, or the last state of the run, whose bytes are to be compared.
use Rattle.std.specs.Prelude.{ℕ, ◌+◌, ◌≤◌, ◌≡◌, List, Result, Ok, Err}
use Rattle.format.specs.Limits.{most_steps}
use Rattle.format.specs.declared.refusals.Cause.{Cause}
use Rattle.format.specs.declared.refusals.Cause.TheVariants.{StateNotGenuine}
use Rattle.format.specs.Refusals.{number}
use Rattle.answers.specs.declared.Answer.{Answer}
use Rattle.answers.specs.Answers as said
use Rattle.entries.specs.Outcomes.{refusal}
use Rattle.entries.specs.Halting.{HaltingOutcome, unbegun, steps_of, resume_outcome}
use Rattle.machine.specs.declared.state.Mode.TheVariants as is
use Rattle.runner.specs.declared.last.Reached as told
use Rattle.runner.specs.LastState.{Reached}

-- a refusal without steps
pub record Refuses (a : Answer) (o : HaltingOutcome) : Type 0 where
  pub cause : Cause
  pub file : ℕ
  pub place : ℕ
  pub answer_is : a ≡ said.refusal (number cause) file place 0
  pub outcome_is : o ≡ unbegun (refusal cause file place 0)

-- the last state after the steps of the saved one; a run that has ended by then has no saved state, so that the outcome is the refusal 30
pub record RanAgain (table job saved : List ℕ) (budget : ℕ) (w : List ℕ) (r : told.Reached) : Type 0 where
  pub within : steps_of saved + budget ≤ most_steps
  pub reached : Reached table job (steps_of saved) w r.state r.first r.term
  pub ended : (r.state.mode ≡ is.Running → ⊥) → resume_outcome table job saved budget ≡ unbegun (refusal StateNotGenuine 0 0 0)

unfoldable pub Again : (table job saved : List ℕ) → (budget : ℕ) → List ℕ → Result told.Reached Answer → Type 0
Again table job saved budget w (Err a) = Refuses a (resume_outcome table job saved budget)
Again table job saved budget w (Ok r) = RanAgain table job saved budget w r
