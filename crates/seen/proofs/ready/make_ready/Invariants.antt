-- `ready::make_ready` meets its contract. The invariant: each of the fields has its byte set to 0, or is still ahead.
-- Assumes nothing.
use mathlib.Core.Path.{◌≡◌}
use mathlib.Core.List.{List}
use Prim.Native.Nat.{ℕ, ◌+◌, ◌-◌}
use lib.ListN.{length}
use Rattle.words.specs.Kept.{Kept}
use Rattle.tables.specs.Search.{Headers}
use Rattle.seen.specs.Layout.{seen_room}
use Rattle.seen.proofs.ReadyLaws.{Ahead}
use Rattle.seen.proofs.ready.make_ready.Given as goal

abbrev pub invariant-loop-at : goal.invariant-loop-at
invariant-loop-at l = (length l.w ≡ length l.initial.w) × Kept l.initial.w l.w l.base (l.base + seen_room) × ((ps : List ℕ) → Headers l.kind l.s l.from ps l.to → Ahead l.kind l.s l.base l.to ps l.w l.at)

abbrev pub decreases-loop-at : goal.decreases-loop-at
decreases-loop-at l = l.to - l.at
