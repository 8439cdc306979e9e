-- `tree::first_clash` meets its contract. The invariant: the index has the headers seen, and the first clash of all is the first from here on.
-- Assumes nothing.
use mathlib.Core.Path.{◌≡◌}
use mathlib.Core.List.{List}
use Prim.Native.Nat.{ℕ, ◌+◌, ◌*◌, ◌-◌}
use lib.ListN.{length}
use Rattle.words.specs.Kept.{Kept}
use Rattle.tables.specs.declared.repeats.Repeat.{Repeat}
use Rattle.tables.specs.Within.{Every}
use Rattle.tables.specs.Search.{Headers}
use Rattle.index.specs.Layout.{heads_room}
use Rattle.index.specs.Keys.{Tagged}
use Rattle.index.specs.Index.{Tree}
use Rattle.index.proofs.TurnLaws.{Turn}
use Rattle.index.proofs.tree.first_clash.Given as goal

abbrev pub T : (kind : Repeat) → (s w ps : List ℕ) → (base to at count : ℕ) → Type 0
T kind s w ps base to at count = Turn kind s (Tagged kind s) to ps (λ seen. Tree kind s seen w base count) at

abbrev pub invariant-loop-at : goal.invariant-loop-at
invariant-loop-at l = (length l.w ≡ length l.initial.w) × Kept l.initial.w l.w l.base (l.base + heads_room + l.count * 5) × ((ps : List ℕ) → Headers l.kind l.s l.from ps l.to → Every (Tagged l.kind l.s) ps → T l.kind l.s l.w ps l.base l.to l.at l.count)

abbrev pub decreases-loop-at : goal.decreases-loop-at
decreases-loop-at l = l.to - l.at
