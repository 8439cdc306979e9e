-- `writing::write_term` meets its contract: every turn of the loop writes the next field. The invariant: what is written and what is still to be written make the text of the file's term.
-- Assumes nothing.
use mathlib.Core.Path.{◌≡◌}
use Prim.Native.Nat.{◌-◌}
use lib.ListN.{length}
use Rattle.format.specs.Terms.{Term}
use Rattle.files.specs.Standing.{TermFileStands}
use Rattle.notation.specs.Written.{written}
use Rattle.text_writer.specs.Writing.{Going}
use Rattle.text_writer.proofs.writing.write_term.Given as goal

abbrev pub invariant-loop-x : goal.invariant-loop-x
invariant-loop-x l = (length l.work ≡ length l.initial.work) × ((t : Term) → TermFileStands l.s t → Going l.s (written t) l.work l.x)

abbrev pub decreases-loop-x : goal.decreases-loop-x
decreases-loop-x l = length l.s - l.x.at
