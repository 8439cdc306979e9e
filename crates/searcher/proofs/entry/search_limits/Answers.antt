-- `entry::search_limits` meets its contract: by budget and height.
-- Assumes nothing.
use native.Mathlib.Omega.{arith}
use Rattle.searcher.proofs.EntryLaws.{too_large_end, too_low_end, too_high_end, height_end}
use Rattle.searcher.proofs.entry.search_limits.Goals as goal
use Rattle.searcher.proofs.entry.search_limits.Goals.{then-height-lt1-via-then-height-lt1, then-height-lt1-via-else-height-lt1+then-height-gt64}

pub returns-then-budget-gt4096 : goal.returns-then-budget-gt4096
returns-then-budget-gt4096 c = let a = c.args in too_large_end a.table.now a.job.now a.height a.budget a.out.now _ (omega (arith, c.if-budget-gt4096.true)) c.refused.ensures

pub returns-then-height-lt1 : goal.returns-then-height-lt1
returns-then-height-lt1 c =
    let a = c.args in
    let q = c.refused-then-height-lt1.ensures in
    elim c.then-height-lt1.branch [
      | then-height-lt1-via-then-height-lt1 w ↦ too_low_end a.table.now a.job.now a.height a.budget a.out.now _ (omega arith) (omega (arith, w.if-height-lt1.true)) q
      | then-height-lt1-via-else-height-lt1+then-height-gt64 w ↦ too_high_end a.table.now a.job.now a.height a.budget a.out.now _ (omega arith) (omega (arith, w.if-height-lt1.false)) (omega (arith, w.if-height-gt64.true)) q
    ]

pub returns : goal.returns
returns c = let a = c.args in height_end a.table.now a.job.now a.height a.budget _ a.out.now _ (omega arith) c.search_files.ensures
