-- `move_up` meets its contract: each turn of the loop moves one byte more, from the last on.
-- Assumes nothing.
use Prim.Native.Nat.{◌+◌, ◌-◌}
use mathlib.Core.Path.{◌≡◌}
use lib.ListN.{drop}
use lib.Seq.{paste}
use Rattle.words.proofs.move_up.Given as goal

abbrev pub invariant-loop-i : goal.invariant-loop-i
invariant-loop-i l = l.s ≡ paste l.initial.s (l.to + l.i) (drop (l.from + l.i) l.initial.s) (l.n - l.i)
