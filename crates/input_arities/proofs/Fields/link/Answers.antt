-- `Fields::link` meets its contract: the links up to a place, and the next place.
-- Assumes nothing.
use mathlib.Core.Path.{refl, ◌∙◌}
use Prim.Native.Nat.{◌+◌, ◌≤◌}
use native.Mathlib.Omega.{arith}
use Rattle.format.specs.Terms.{Term, size}
use Rattle.format.specs.Standing.{Stands}
use Rattle.format.proofs.StandsLaws.{known}
use Rattle.input_arities.specs.Threads.{slot}
use Rattle.input_arities.proofs.ThreadLaws as law
use Rattle.input_arities.proofs.Fields.link.Goals as goal

pub next_at-next-requires : goal.next_at-next-requires
next_at-next-requires c = (c.requires.0, c.requires.1.stands, omega (arith, c.requires.1.ends, c.requires.1.small))

pub loop-next-init : goal.loop-next-init
loop-next-init c = (refl, λ t o. law.linking_start _ _ _ t _ o _ c.next_at-next.ensures)

pub note-requires : goal.note-requires
note-requires c =
    let there : (u : Term) × Stands c.args.self.now.s.now c.loop-next.next u × (c.loop-next.next + size u ≤ c.args.self.now.end) × (c.args.self.now.at ≤ c.loop-next.next) × (slot c.loop-next.next + 2 ≤ slot c.args.self.now.end) × (c.loop-next.place + 3 ≤ c.loop-next.next) = law.link_there _ _ _ c.requires.0 _ c.requires.1 _ _ _ (c.loop-next.invariant.1 c.requires.0 c.requires.1) c.loop-next-test.true in
    let o = c.requires.1 in
    (omega (arith, there.4, o.slots, o.space, c.loop-next.invariant.0), omega (arith, there.5, there.2, o.small))

pub next_at-next-requires-in-loop-next : goal.next_at-next-requires-in-loop-next
next_at-next-requires-in-loop-next c =
    let there : (u : Term) × Stands c.args.self.now.s.now c.loop-next.next u × (c.loop-next.next + size u ≤ c.args.self.now.end) × (c.args.self.now.at ≤ c.loop-next.next) × (slot c.loop-next.next + 2 ≤ slot c.args.self.now.end) × (c.loop-next.place + 3 ≤ c.loop-next.next) = law.link_there _ _ _ c.requires.0 _ c.requires.1 _ _ _ (c.loop-next.invariant.1 c.requires.0 c.requires.1) c.loop-next-test.true in
    (there.0, there.1, omega (arith, there.2, c.requires.1.small))

pub loop-next-smaller : goal.loop-next-smaller
loop-next-smaller c =
    let there : (u : Term) × Stands c.args.self.now.s.now c.loop-next.next u × (c.loop-next.next + size u ≤ c.args.self.now.end) × (c.args.self.now.at ≤ c.loop-next.next) × (slot c.loop-next.next + 2 ≤ slot c.args.self.now.end) × (c.loop-next.place + 3 ≤ c.loop-next.next) = law.link_there _ _ _ c.requires.0 _ c.requires.1 _ _ _ (c.loop-next.invariant.1 c.requires.0 c.requires.1) c.loop-next-test.true in
    omega (arith, c.next_at-next-in-loop-next.ensures there.0 there.1, law.width_three there.0, there.2, (known _ _ _ there.1).three)

pub loop-next-preserved : goal.loop-next-preserved
loop-next-preserved c = (c.note.auto.work ∙ c.loop-next.invariant.0, λ t o. law.linking_next _ _ _ t _ o _ _ _ (c.loop-next.invariant.1 t o) c.loop-next-test.true _ c.note.ensures c.loop-next.invariant.0 _ c.next_at-next-in-loop-next.ensures)

pub shape_of-work : goal.shape_of-work
shape_of-work c = c.loop-next.invariant.0

pub returns : goal.returns
returns c = λ t o. law.linking_end _ _ _ t _ o _ _ _ (c.loop-next.invariant.1 t o) c.loop-next-test.false
