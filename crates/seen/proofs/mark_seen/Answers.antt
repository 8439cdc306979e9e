-- `seen::mark_seen` meets its contract, by the half.
-- Assumes nothing.
use mathlib.Core.Path.{ap}
use Prim.Native.Nat.{ℕ, ◌+◌, ◌%◌}
use native.Mathlib.Omega.{arith}
use lib.ListN.{set}
use Rattle.seen.specs.Layout.{seen_room}
use Rattle.seen.specs.Seen.{put_seen}
use Rattle.seen.proofs.SeenLaws.{low-put, high_put, low_room, high_room}
use Rattle.seen.proofs.mark_seen.Goals as goal

pub overflow_add-w : goal.overflow_add-w
overflow_add-w c = omega (arith, c.requires.1, low_room c.args.w.now c.args.base c.args.value c.args.mark c.if-value-lt-SEEN_ROOM.true c.requires.2, c.slice_known-1.given (c.args.base + c.args.value % seen_room))

pub returns-then-value-lt-SEEN_ROOM : goal.returns-then-value-lt-SEEN_ROOM
unfolding put_seen
returns-then-value-lt-SEEN_ROOM c = ap (λ (b : ℕ). set c.args.w.now (c.args.base + c.args.value % seen_room) b) (low-put _ _ _ c.if-value-lt-SEEN_ROOM.true)

pub overflow_add-w-else-value-lt-SEEN_ROOM : goal.overflow_add-w-else-value-lt-SEEN_ROOM
overflow_add-w-else-value-lt-SEEN_ROOM c = omega (arith, c.requires.1, high_room c.args.w.now c.args.base c.args.value c.args.mark c.if-value-lt-SEEN_ROOM.false c.requires.2, c.slice_known-1.given (c.args.base + c.args.value % seen_room))

pub returns-else-value-lt-SEEN_ROOM : goal.returns-else-value-lt-SEEN_ROOM
unfolding put_seen
returns-else-value-lt-SEEN_ROOM c = ap (λ (b : ℕ). set c.args.w.now (c.args.base + c.args.value % seen_room) b) (high_put _ _ _ c.if-value-lt-SEEN_ROOM.false)
