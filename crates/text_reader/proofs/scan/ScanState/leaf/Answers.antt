-- `ScanState::leaf` meets its contract: one law for each answer.
-- Assumes nothing.
use mathlib.Core.Path.{refl}
use Rattle.std.proofs.lemmas.Result.{err_from_is_err_and}
use Rattle.text_reader.proofs.PlaceLaws.{leaf_unread, leaf_ok}
use Rattle.text_reader.proofs.scan.ScanState.leaf.Goals as goal

pub returns-in_err-value : goal.returns-in_err-value
returns-in_err-value c = let p = err_from_is_err_and c.from_residual.result c.from_residual.ensures.1 in rw (p.1, p.2) (leaf_unread _ _ _ c.requires.0 _ _ _ c.requires.1 refl c.requires.2 c.in_err-value.ensures)

pub returns : goal.returns
returns c =
    let n = c.in_ok-value.ensures in
    leaf_ok _ _ _ c.requires.0 _ _ n.0 _ _ c.requires.1 refl c.requires.2 _ _ _ n.1 n.2 c.store16.ensures c.complete.ensures.work_after c.complete.ensures.value
