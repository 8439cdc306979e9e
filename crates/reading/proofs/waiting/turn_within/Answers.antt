-- `waiting::turn_within` meets its contract. The invariant: whatever came to the state before the loop comes to this one.
-- Assumes nothing.
use mathlib.Core.Path.{◌≡◌}
use mathlib.Core.Bool.{true, false}
use Rattle.std.proofs.Common.{rules}
use Rattle.parts.specs.declared.state.Mode.TheVariants.{Gave}
use Rattle.reading.proofs.TurnLaws.{turned_whole, turned_on}
use Rattle.reading.proofs.waiting.turn_within.Goals as goal

pub returns-else-r-ne0 : goal.returns-else-r-ne0
returns-else-r-ne0 c =
    let gave : c.loop-r.r.mode ≡ Gave = search rules in
    λ high b. turned_whole _ _ _ _ _ _ _ (c.loop-r.invariant.0 high _ _ (c.enter-r.ensures _ high b)) gave c.if-r-ne0.false

pub returns-after-loop-r : goal.returns-after-loop-r
returns-after-loop-r c =
    λ high b. turned_on _ _ _ _ _ _ _ (c.loop-r.invariant.0 high _ _ (c.enter-r.ensures _ high b)) (λ z. let e : false ≡ true = rw z at c.loop-r-test.ensures in cc)
