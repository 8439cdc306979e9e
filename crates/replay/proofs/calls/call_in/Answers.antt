-- `calls::call_in` meets its contract: the part that it lends is within the output space.
-- Assumes nothing.
use mathlib.Core.Path.{sym}
use lib.Seq.{length-take-le}
use borrow.Author.Rules.{rules}
use Rattle.replay.proofs.calls.call_in.Goals as goal

pub slice_bounds-call_agrees-end-2 : goal.slice_bounds-call_agrees-end-2
slice_bounds-call_agrees-end-2 c = sym (length-take-le _ _ (search rules))
