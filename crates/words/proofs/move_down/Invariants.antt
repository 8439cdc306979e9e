-- `move_down` meets its contract: each turn of the loop moves one byte more, from the first on; what is still to be moved lies behind what was written.
-- Assumes nothing.
use mathlib.Core.Path.{◌≡◌}
use lib.ListN.{drop}
use lib.Seq.{paste}
use Rattle.words.proofs.move_down.Given as goal

abbrev pub invariant-loop-i : goal.invariant-loop-i
invariant-loop-i l = l.s ≡ paste l.initial.s l.to (drop l.from l.initial.s) l.i
