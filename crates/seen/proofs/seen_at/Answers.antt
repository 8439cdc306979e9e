-- `seen::seen_at` meets its contract, by the half.
-- Assumes nothing.
use Rattle.seen.specs.Seen.{seen_at}
use Rattle.seen.proofs.SeenLaws.{low_half, high_half}
use Rattle.seen.proofs.seen_at.Goals as goal

pub returns-then-value-lt-SEEN_ROOM : goal.returns-then-value-lt-SEEN_ROOM
unfolding seen_at
returns-then-value-lt-SEEN_ROOM c = low_half _ _ c.if-value-lt-SEEN_ROOM.true

pub returns-else-value-lt-SEEN_ROOM : goal.returns-else-value-lt-SEEN_ROOM
unfolding seen_at
returns-else-value-lt-SEEN_ROOM c = high_half _ _ c.if-value-lt-SEEN_ROOM.false
