-- `scan::scan_text` meets its contract: the invariant: the scan of the whole text is that of the rest from where it stands, and the marks before are in the list.
-- Assumes nothing.
use mathlib.Core.Path.{◌≡◌}
use Prim.Native.Nat.{◌-◌}
use lib.ListN.{length}
use Rattle.text_reader.specs.Places.{Standing}
use Rattle.text_reader.proofs.scan.scan_text.Given as goal

abbrev pub invariant-loop-here : goal.invariant-loop-here
invariant-loop-here l = Standing l.text l.work l.here × (length l.work ≡ length l.initial.work)

abbrev pub decreases-loop-here : goal.decreases-loop-here
decreases-loop-here l = length l.text - l.here.at
