-- `scan::scan_text` meets its contract: the invariant: the scan of the whole text is that of the rest from where it stands, and the marks before are in the list.
-- Assumes nothing.
use Rattle.std.proofs.lemmas.Result.{err_from_is_err_and}
use Rattle.text_reader.proofs.PlaceLaws.{refused_shape, end_due, end_open, end_read}
use Rattle.text_reader.proofs.scan.scan_text.Goals as goal
use Rattle.text_reader.proofs.scan.scan_text.Goals.{then-here-via-then-here, then-here-via-else-here+then-here-ne0}

pub returns-in_err-here-clause-value : goal.returns-in_err-here-clause-value
returns-in_err-here-clause-value c = let p = err_from_is_err_and c.from_residual.result c.from_residual.ensures.1 in rw (p.1, p.2) (refused_shape _ _ _ c.in_err-here.ensures)

pub returns-then-here-clause-value : goal.returns-then-here-clause-value
returns-then-here-clause-value c =
    rw c.new.ensures
    (elim c.then-here.branch [
      | then-here-via-then-here w ↦ refused_shape _ _ _ (end_due _ _ _ c.loop-here.invariant.0 c.loop-here-test.false w.if-here.true)
      | then-here-via-else-here+then-here-ne0 w ↦ refused_shape _ _ _ (end_open _ _ _ c.loop-here.invariant.0 c.loop-here-test.false w.if-here.false w.if-here-ne0.true)
    ])

pub returns-clause-value : goal.returns-clause-value
returns-clause-value c = end_read _ _ _ c.loop-here.invariant.0 c.loop-here-test.false c.if-here.false c.if-here-ne0.false
