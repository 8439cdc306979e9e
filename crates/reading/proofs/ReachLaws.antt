-- Any number of turns of the reading: what holds all along holds at their end, and outside the room of the reading every byte is as it was.
-- Assumes nothing.
use mathlib.Core.Path.{◌≡◌}
use mathlib.Core.List.{List}
use Prim.Native.Nat.{ℕ, ◌+◌}
use native.Mathlib.Omega.{arith}
use Rattle.words.specs.Kept.{Kept}
use Rattle.words.proofs.KeptLaws.{kept_both, kept_same}
use Rattle.std.specs.Prelude as std
use Rattle.format.specs.declared.headers.Header as read
use Rattle.format.specs.declared.refusals.Refusal.{Refusal}
use Rattle.format.specs.Headers.{header_at}
use Rattle.format.specs.Shapes.{header_shape}
use Rattle.parts.specs.declared.state.Mode.TheVariants as M
use Rattle.parts.specs.declared.state.State.{State}
use Rattle.parts.specs.States.{low_of, high_of, full_of}
use Rattle.reading.specs.Waiting.{reading_room}
use Rattle.reading.specs.Reading.{Reading, header_of, ReadsOn, Step, Reaches, none, more}

module _ (s : List ℕ) (base : ℕ) (w : List ℕ) (x : State) where
  pub reaches_reading : (w' : List ℕ) (y : State) → Reaches s base w x w' y → Reading s w base x → Reading s w' base y
  reaches_reading _ _ none h = h
  reaches_reading _ _ (more v y w' r before reads step) h = step.reading

  pub reaches_kept : (w' : List ℕ) (y : State) → Reaches s base w x w' y → Kept w w' base (base + reading_room)
  reaches_kept _ _ none = kept_same w base (base + reading_room)
  reaches_kept _ _ (more v y w' r before reads step) =
      kept_both w v w' base (base + reading_room) base (base + reading_room) base (base + reading_room) (reaches_kept v y before) step.kept (omega arith) (omega arith) (omega arith) (omega arith)

-- what each turn keeps holds at the end of any number of turns
module _ (s : List ℕ) (base : ℕ) (P : List ℕ → State → Type 0) (keeps : (v : List ℕ) (y : State) (w' : List ℕ) (r : State) → Reading s v base y → y.mode ≡ M.Reads → Step s v base y w' r → P v y → P w' r) where
  pub holds_on : (w : List ℕ) (x : State) → Reading s w base x → P w x → (w' : List ℕ) (y : State) → Reaches s base w x w' y → P w' y
  holds_on w x h p _ _ none = p
  holds_on w x h p _ _ (more v y w' r before m step) = keeps v y w' r (reaches_reading s base w x v y before h) m step (holds_on w x h p v y before)

-- what is known before a turn, from the header that was read
pub reads_at : (s w : List ℕ) (base : ℕ) (x : State) (h : std.Result read.Header Refusal) → Reading s w base x → x.mode ≡ M.Reads → h ≡ header_shape (header_at s x.at x.end (low_of x) (high_of x.part) (full_of s x)) → ReadsOn s w base x h
unfolding header_of
reads_at s w base x h reading mode header = record { reading = reading; mode_is = mode; header_is = header }
