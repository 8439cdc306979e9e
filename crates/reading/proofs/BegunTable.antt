-- The first state of a table: what holds all along holds in it.
-- Assumes nothing.
use mathlib.Core.Path.{refl}
use mathlib.Core.List.{List}
use Prim.Native.Nat.{ℕ, ◌+◌, ◌≤◌}
use native.Mathlib.Omega.{arith}
use lib.ListN.{length}
use Rattle.parts.specs.declared.state.Part.TheVariants as P
use Rattle.parts.specs.States.{blank_state, begun_table}
use Rattle.reading.specs.Waiting.{reading_room}
use Rattle.reading.specs.Reading.{Reading}
use Rattle.reading.proofs.StepLaws.{fresh_next}

pub begun_table_lem : (s w : List ℕ) (base : ℕ) → base + reading_room ≤ length w → Reading s w base (begun_table s)
unfolding begun_table blank_state
begun_table_lem s w base room = (fresh_next s w base room (blank_state P.Fields) 0 refl (omega arith) (omega arith) P.Fields refl (omega arith)).0
