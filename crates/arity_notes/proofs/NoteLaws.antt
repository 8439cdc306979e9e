-- Where notes stand: within the notes of their file, which lie apart.
-- Assumes nothing.
use Prim.Native.Nat.{ℕ, zero, suc, ◌+◌, ◌≤◌, ◌<◌}
use mathlib.Core.Path.{◌≡◌, refl}
use native.Mathlib.Omega.{arith}
use Rattle.input_arities.specs.Threads.{slot}
use Rattle.arity_notes.specs.Regions.{table_notes, job_notes, notes_room, definitions_place}
use Rattle.arity_notes.specs.Notes.{notes_of}

pub notes_table : (file : ℕ) → file ≡ 0 → notes_of file ≡ table_notes
unfolding notes_of
notes_table zero e = refl
notes_table (suc f) e = absurd (omega (arith, e))

pub notes_job : (file : ℕ) → (file ≡ 0 → ⊥) → notes_of file ≡ job_notes
unfolding notes_of
notes_job zero n = absurd (n refl)
notes_job (suc f) n = refl

pub notes_place : (file : ℕ) → (table_notes ≤ notes_of file) × (notes_of file + notes_room ≤ definitions_place)
unfolding notes_of
notes_place zero = (omega arith, omega arith)
notes_place (suc f) = (omega arith, omega arith)

-- a field that begins within a file has its two bytes in the room of the file's notes
pub slot_inside : (at : ℕ) → at + 3 < 65536 → slot at + 2 ≤ notes_room
unfolding slot
slot_inside at h = omega arith
