-- `ScanState::label` meets its contract: one law for each answer; the value is judged before the closing bracket.
-- Assumes nothing.
use Rattle.std.proofs.lemmas.Result.{err_from_is_err_and}
use Rattle.text_reader.proofs.PlaceLaws.{label_unread, label_short, label_refused, label_ok}
use Rattle.text_reader.proofs.scan.ScanState.label.Goals as goal
use Rattle.text_reader.proofs.scan.ScanState.label.Goals.{then-text-next-via-then-text-next, then-text-next-via-else-text-next+then-text-next-ne93}

pub returns-in_err-value : goal.returns-in_err-value
returns-in_err-value c = let p = err_from_is_err_and c.from_residual.result c.from_residual.ensures.1 in rw (p.1, p.2) (label_unread _ _ _ c.requires.0 _ c.requires.1 c.requires.2 c.in_err-value.ensures)

pub returns-then-text-next : goal.returns-then-text-next
returns-then-text-next c =
    let n = c.in_ok-value.ensures in
    rw c.new.ensures
    (elim c.then-text-next.branch [
      | then-text-next-via-then-text-next w ↦ label_short _ _ _ c.requires.0 _ _ n.0 c.requires.1 c.requires.2 n.1 n.2 w.if-text-next.true
      | then-text-next-via-else-text-next+then-text-next-ne93 w ↦ label_refused _ _ _ c.requires.0 _ _ n.0 c.requires.1 c.requires.2 n.1 n.2 w.if-text-next.false w.if-text-next-ne93.true
    ])

pub returns : goal.returns
returns c =
    let n = c.in_ok-value.ensures in
    label_ok _ _ _ c.requires.0 _ _ n.0 c.requires.1 c.requires.2 _ _ _ n.1 n.2 c.if-text-next.false c.if-text-next-ne93.false c.store16.ensures c.complete.ensures.work_after c.complete.ensures.value
