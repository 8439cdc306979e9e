-- `ScanState::past_openings` meets its contract: each turn goes past a blank or a bracket.
-- Assumes nothing.
use native.Mathlib.Omega.{arith}
use Rattle.text_reader.proofs.PlaceLaws.{blank_stands, opening_stands_here}
use Rattle.text_reader.proofs.scan.ScanState.past_openings.Goals as goal
use Rattle.text_reader.proofs.scan.ScanState.past_openings.Goals.{in-40, in-32}

pub loop-at-preserved : goal.loop-at-preserved
loop-at-preserved c =
    let x = c.loop-at.invariant in
    let t = c.loop-at-test.true in
    let listed = x.listed.counted in
    elim c.match-text-at.branch [
      | in-40 w ↦ rw (w.work-is, w.depth-is, w.count-is) (opening_stands_here _ _ c.args.self _ _ _ x t c.requires.1 w.in-40.is (omega (arith, c.requires.0.room, c.loop-at.auto.work)))
      | in-32 w ↦ rw (w.work-is, w.depth-is, w.count-is) (blank_stands _ _ c.args.self _ _ _ x t w.in-32.is)
    ]
