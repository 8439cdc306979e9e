-- A run that may halt: what it has come to, and what is known of its state and of the work space.
use Rattle.std.specs.Prelude as std
use Rattle.std.specs.Prelude.{ℕ, ◌≡◌, List, length, None, Some}
use Rattle.std.proofs.Math.Option.{Option, none, some}
use Rattle.answers.specs.declared.Answer.{Answer}
use Rattle.entries.specs.SavedState.{saved_size, saved_contents, zeros_to}
use Rattle.entries.specs.Halting.{HaltingOutcome}
use Rattle.entries.specs.Left.{kept, left_in}
use Rattle.machine.specs.declared.state.Mode.TheVariants as is
use Rattle.machine.specs.declared.state.State.{State}
use Rattle.runner.specs.Jobs.{Finishes}
use Rattle.saver.specs.Save.{Halts}
use Rattle.halting.specs.declared.halted.Halted.{Halted}

-- an answer without a run
abbrev pub refused_call : Answer → Halted
refused_call a = record { answer = a; state = None }

-- the answer of a run in its last state
pub record Answered (s : State) (job w out : List ℕ) (h : Halted) (v : List ℕ) : Type 0 where
  pub state_is : h.state ≡ Some s
  pub finishes : Finishes job w s out h.answer v

-- a halted run, and the bytes that are saved of it
pub record HaltsWith (w : List ℕ) (s : State) (saved : Option (List ℕ)) : Type 0 where
  pub halts : Halts w s
  pub saved_is : saved ≡ some (zeros_to saved_size (saved_contents s.steps halts.place halts.goals halts.frames))

-- what is to be saved of a state: nothing, unless a term is to begin in it
pub record Keeps (w : List ℕ) (s : State) (saved : Option (List ℕ)) : Type 0 where
  pub ended : (s.mode ≡ is.Running → ⊥) → saved ≡ none
  pub halted : s.mode ≡ is.Running → HaltsWith w s saved

-- the same of the last state of a run, if there was one
unfoldable pub KeepsLast : List ℕ → std.Option State → Option (List ℕ) → Type 0
KeepsLast w None saved = saved ≡ none
KeepsLast w (Some s) saved = Keeps w s saved

-- the answer and the output space are those of the outcome, and so is what is to be saved
pub record Comes (o : HaltingOutcome) (out v : List ℕ) (h : Halted) (u : List ℕ) : Type 0 where
  pub answer_is : kept h.answer u ≡ left_in out o.outcome
  pub keeps : KeepsLast v h.state o.saved
