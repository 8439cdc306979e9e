-- `TermState::on_sign` meets its contract: the sign takes what binds as tight, and its frame comes below the others.
-- Assumes nothing.
use mathlib.Core.Path.{ap, ◌∙◌}
use Prim.Native.Nat.{◌-◌}
use native.Mathlib.Omega.{arith}
use Rattle.notation.specs.Signs.{rank_tag}
use Rattle.text_reader.proofs.StoreLaws.{rank_tag_lem, reduced_as, had_lengths, shown_sign, sign_below}
use Rattle.text_reader.proofs.term.TermState.on_sign.Goals as goal

pub overflow_sub-low : goal.overflow_sub-low
overflow_sub-low c = let l = c.reduce-here.ensures.low_le_low in omega (arith, l.0, c.requires.0)

pub push-requires : goal.push-requires
push-requires c =
    let q = c.requires in
    let p = q.3 in
    let y = c.reduce-here.ensures.shown_had p.0 p.1 p.2 p.3 in
    let l = c.reduce-here.ensures.low_le_low in
    let h = had_lengths _ _ _ _ _ _ _ y in
    (omega (arith, l.0, l.1, q.0, q.1), omega (arith, h.0, h.1, q.2, c.reduce-here.auto.out))

pub returns : goal.returns
returns c =
    let q = c.requires in
    let l = c.reduce-here.ensures.low_le_low in
    let low = c.reduce-here.result.low - 3 in
    record { shown_due = (λ s t fs k x h. shown_sign s _ _ _ _ _ _ _ _ low _ (reduced_as _ _ t fs _ _ _ _ _ (c.rank_of-least.ensures.value ∙ ap rank_tag k ∙ rank_tag_lem s) (c.reduce-here.ensures.shown_had t fs x h)) k (omega (arith, l.0, q.0)) (omega (arith, l.0, l.1, q.0, q.1)) c.push.ensures); low_bound = (omega (arith, l.0, q.0), sign_below c.args.work.now _ low _ _ (omega (arith, l.0, l.1, q.0, q.1)) c.push.ensures) }
