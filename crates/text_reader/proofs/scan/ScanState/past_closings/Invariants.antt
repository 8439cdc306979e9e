-- `ScanState::past_closings` meets its contract: the invariant: the scan stands at the place reached.
-- Assumes nothing.
use Rattle.text_reader.specs.Places.{Standing, moved_to}
use Rattle.text_reader.proofs.scan.ScanState.past_closings.Given as goal

abbrev pub invariant-loop-at : goal.invariant-loop-at
invariant-loop-at l = Standing l.text l.work (moved_to l.self l.at l.depth l.count)
