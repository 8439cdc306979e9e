-- `ScanState::two_bytes` meets its contract: one law for each answer.
-- Assumes nothing.
use mathlib.Core.Path.{refl}
use Rattle.text_reader.proofs.PlaceLaws.{two_bytes_short, two_bytes_refused, two_bytes_ok}
use Rattle.text_reader.proofs.scan.ScanState.two_bytes.Goals as goal
use Rattle.text_reader.proofs.scan.ScanState.two_bytes.Goals.{then-text-from-via-then-text-from, then-text-from-via-else-text-from+then-text-from-2}

pub returns-then-text-from : goal.returns-then-text-from
returns-then-text-from c =
    rw c.new.ensures
    (elim c.then-text-from.branch [
      | then-text-from-via-then-text-from w ↦ two_bytes_short _ _ _ c.requires.0 _ _ _ c.requires.1 refl c.requires.2 w.if-text-from.true
      | then-text-from-via-else-text-from+then-text-from-2 w ↦ two_bytes_refused _ _ _ c.requires.0 _ _ _ c.requires.1 refl c.requires.2 w.if-text-from.false w.if-text-from-2.true
    ])

pub returns : goal.returns
returns c = two_bytes_ok _ _ _ c.requires.0 _ _ _ c.requires.1 refl c.requires.2 _ _ c.if-text-from.false c.if-text-from-2.false c.complete.ensures.work_after c.complete.ensures.value
