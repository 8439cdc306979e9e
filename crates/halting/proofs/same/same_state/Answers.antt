-- `same::same_state` meets its contract: by the size of the saved bytes, by their comparison with the contents, and by whether all others are zero.
-- Assumes nothing.
use Prim.Native.Nat.{◌-◌}
use mathlib.Core.Path.{refl, ap, ◌∙◌}
use native.Mathlib.Omega.{arith}
use lib.ListN.{drop, length-drop}
use lib.Seq.{take_all}
use Rattle.arities.specs.Layout.{space_end}
use Rattle.halting.specs.SavedBytes.{all_zero}
use Rattle.halting.proofs.StateLaws.{size_end, same_end, other_end}
use Rattle.halting.proofs.same.same_state.Goals as goal

pub returns-then-not-right_size : goal.returns-then-not-right_size
returns-then-not-right_size c =
    let a = c.args in
    size_end a.work.now a.end a.saved.now c.requires.0 c.requires.1 _ (λ q. c.if-not-right_size.true q) refl

pub returns-then-eq : goal.returns-then-eq
returns-then-eq c =
    let a = c.args in
    same_end a.work.now a.end a.saved.now c.requires.0 c.requires.1 c.if-not-right_size.false _ c.eq.ensures c.if-eq.true _
    (c.all_zero.ensures ∙ ap all_zero (take_all _ (drop (a.end - space_end) a.saved.now) (omega (arith, length-drop (a.end - space_end) a.saved.now))))

pub returns-else-eq : goal.returns-else-eq
returns-else-eq c =
    let a = c.args in
    other_end a.work.now a.end a.saved.now c.requires.0 c.requires.1 c.if-not-right_size.false _ c.eq.ensures c.if-eq.false
