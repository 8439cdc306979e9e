-- `term::write_term` meets its contract. The invariant: the state of the marks from the place on is held, and the marks before it stand as they did.
-- Assumes nothing.
use mathlib.Core.Path.{refl, ◌∙◌}
use native.Mathlib.Omega.{arith}
use Rattle.text_reader.proofs.WholeLaws.{shown_start, ready_at, all, all_shown, all_ahead, all_written, from_start, marks_kept}
use Rattle.text_reader.proofs.term.write_term.Goals as goal

pub loop-at-init : goal.loop-at-init
loop-at-init c = (omega arith, refl, refl, λ ms p. (p.stand, shown_start _ _ _ _ p _ _ refl))

pub on_mark-held-requires : goal.on_mark-held-requires
on_mark-held-requires c =
    let p = c.requires in
    let l = c.loop-at.invariant in
    let k = l.3 p.0 p.1 in
    (p.0, ready_at _ _ _ _ p.1 _ _ _ _ _ _ c.loop-at-test.true l.0 l.2 l.1 k.0 k.1)

pub loop-at-preserved : goal.loop-at-preserved
loop-at-preserved c =
    let l = c.loop-at.invariant in
    let t = c.loop-at-test.true in (
      omega (arith, l.0),
      c.on_mark-held.auto.work ∙ l.1,
      c.on_mark-held.auto.out ∙ l.2,
      λ ms p.
          let k = l.3 ms p in
          (marks_kept _ _ ms _ _ (omega (arith, l.0)) c.on_mark-held.ensures.same_below k.0, c.on_mark-held.ensures.shown ms (ready_at _ _ _ _ p _ _ _ _ _ _ t l.0 l.2 l.1 k.0 k.1)),
    )

pub reduce-requires : goal.reduce-requires
reduce-requires c =
    let p = c.requires in
    let l = c.loop-at.invariant in
    let x = from_start _ _ _ _ _ _ _ c.loop-at-test.false (l.3 p.0 p.1).1 in
    let a = all _ _ _ _ p.1 _ _ _ _ _ l.2 x in
    (omega (arith, p.1.space, l.1), omega (arith, p.1.short, l.2), (a.value, a.frames, all_shown _ _ _ _ p.1 _ _ _ _ _ l.2 x, all_ahead _ _ _ _ p.1 _ _ _ _ _ l.2 x))

pub shape_of-work : goal.shape_of-work
shape_of-work c = c.loop-at.invariant.1

pub shape_of-out : goal.shape_of-out
shape_of-out c = c.reduce.auto.out ∙ c.loop-at.invariant.2

pub returns : goal.returns
returns c = λ ms p.
    let l = c.loop-at.invariant in
    let x = from_start _ _ _ _ _ _ _ c.loop-at-test.false (l.3 ms p).1 in
    let a = all _ _ _ _ p _ _ _ _ _ l.2 x in
    let y = c.reduce.ensures.shown_had a.value a.frames (all_shown _ _ _ _ p _ _ _ _ _ l.2 x) (all_ahead _ _ _ _ p _ _ _ _ _ l.2 x) in
    all_written _ _ _ _ p _ _ _ _ _ l.2 x _ _ _ _ c.reduce.auto.out y
