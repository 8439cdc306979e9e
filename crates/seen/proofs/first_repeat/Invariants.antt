-- `seen::first_repeat` meets its contract. The invariant: the table has the headers seen, and the first clash of all is the first from here on.
-- Assumes nothing.
use mathlib.Core.Path.{◌≡◌}
use mathlib.Core.List.{List}
use Prim.Native.Nat.{ℕ, ◌+◌, ◌-◌}
use lib.ListN.{length}
use Rattle.words.specs.Kept.{Kept}
use Rattle.tables.specs.declared.repeats.Repeat.{Repeat}
use Rattle.tables.specs.Search.{Headers}
use Rattle.tables.specs.Within.{Every}
use Rattle.index.proofs.TurnLaws.{Turn}
use Rattle.seen.specs.Layout.{seen_room}
use Rattle.seen.specs.Seen.{Markable, Seen}
use Rattle.seen.proofs.first_repeat.Given as goal

abbrev pub T : (kind : Repeat) → (s w ps : List ℕ) → (base to at : ℕ) → Type 0
T kind s w ps base to at = Turn kind s (Markable kind s) to ps (λ seen. Seen kind s ps seen w base) at

abbrev pub invariant-loop-at : goal.invariant-loop-at
invariant-loop-at l = (length l.w ≡ length l.initial.w) × Kept l.initial.w l.w l.base (l.base + seen_room) × ((ps : List ℕ) → Headers l.kind l.s l.from ps l.to → Every (Markable l.kind l.s) ps → T l.kind l.s l.w ps l.base l.to l.at)

abbrev pub decreases-loop-at : goal.decreases-loop-at
decreases-loop-at l = l.to - l.at
