-- `Fields::list` meets its contract: once the arities of the fields from a place on are listed, so are all.
-- Assumes nothing.
use mathlib.Core.Path.{refl, ◌∙◌}
use Prim.Native.Nat.{◌<◌}
use native.Mathlib.Omega.{arith}
use Rattle.input_arities.proofs.ThreadLaws.{width_three}
use Rattle.input_arities.proofs.ListLaws.{Listing, There, there, listing_start, listing_next, listing_end}
use Rattle.input_arities.proofs.Fields.list.Goals as goal

pub loop-place-init : goal.loop-place-init
loop-place-init c = (refl, λ t o x. listing_start _ _ _ t _ o x)

pub list_one-next-requires : goal.list_one-next-requires
list_one-next-requires c =
    let left : c.loop-place.place < c.args.self.now.end = omega (arith, c.loop-place-test.true) in
    let state : Listing c.args.self.now.s.now c.args.self.now.at c.args.self.now.end c.requires.0 c.args.work.now c.loop-place.work c.loop-place.place c.loop-place.next = let p = c.requires in c.loop-place.invariant.1 p.0 p.1 p.2 in
    let here : There c.args.self.now.s.now c.args.self.now.at c.args.self.now.end c.requires.0 c.args.work.now c.requires.1 c.loop-place.work c.loop-place.place c.loop-place.next state = there _ _ _ c.requires.0 _ c.requires.1 _ _ _ state left in
    (here.term, here.rest, here.listable c.loop-place.invariant.0)

pub next_at-place-requires : goal.next_at-place-requires
next_at-place-requires c =
    let left : c.loop-place.place < c.args.self.now.end = omega (arith, c.loop-place-test.true) in
    let state : Listing c.args.self.now.s.now c.args.self.now.at c.args.self.now.end c.requires.0 c.args.work.now c.loop-place.work c.loop-place.place c.loop-place.next = let p = c.requires in c.loop-place.invariant.1 p.0 p.1 p.2 in
    let here : There c.args.self.now.s.now c.args.self.now.at c.args.self.now.end c.requires.0 c.args.work.now c.requires.1 c.loop-place.work c.loop-place.place c.loop-place.next state = there _ _ _ c.requires.0 _ c.requires.1 _ _ _ state left in
    (here.term, here.stands, omega (arith, here.inside, c.requires.1.small))

pub loop-place-smaller : goal.loop-place-smaller
loop-place-smaller c =
    let left : c.loop-place.place < c.args.self.now.end = omega (arith, c.loop-place-test.true) in
    let state : Listing c.args.self.now.s.now c.args.self.now.at c.args.self.now.end c.requires.0 c.args.work.now c.loop-place.work c.loop-place.place c.loop-place.next = let p = c.requires in c.loop-place.invariant.1 p.0 p.1 p.2 in
    let here : There c.args.self.now.s.now c.args.self.now.at c.args.self.now.end c.requires.0 c.args.work.now c.requires.1 c.loop-place.work c.loop-place.place c.loop-place.next state = there _ _ _ c.requires.0 _ c.requires.1 _ _ _ state left in
    omega (arith, c.next_at-place.ensures here.term here.stands, width_three here.term, left)

pub loop-place-preserved : goal.loop-place-preserved
loop-place-preserved c =
    let left : c.loop-place.place < c.args.self.now.end = omega (arith, c.loop-place-test.true) in (
      c.list_one-next.auto.work ∙ c.loop-place.invariant.0,
      λ t o x.
          let l = c.loop-place.invariant.1 t o x in
          let y = there _ _ _ t _ o _ _ _ l left in
          let m = c.list_one-next.ensures y.term y.rest (y.listable c.loop-place.invariant.0) in
          listing_next _ _ _ t _ o _ _ _ l y _ _ m.0 m.1 _ (c.next_at-place.ensures y.term y.stands),
    )

pub shape_of-work : goal.shape_of-work
shape_of-work c = c.loop-place.invariant.0

pub returns : goal.returns
returns c = λ t o x. listing_end _ _ _ t _ o _ _ _ (c.loop-place.invariant.1 t o x) (omega (arith, c.loop-place-test.false))
