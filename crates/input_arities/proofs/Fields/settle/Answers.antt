-- `Fields::settle` meets its contract: the fields behind a place have their own arities, the others their links.
-- Assumes nothing.
use mathlib.Core.Path.{◌≡◌, refl, sym, subst, ◌∙◌}
use mathlib.Core.List.{List}
use Prim.Native.Nat.{ℕ, ◌+◌, ◌≤◌}
use native.Mathlib.Omega.{arith}
use lib.ListN.{length}
use Rattle.format.specs.Terms.{Term, size}
use Rattle.format.specs.Standing.{Stands}
use Rattle.input_arities.proofs.ThreadLaws.{Settling, arity_le, slot_rises}
use Rattle.input_arities.specs.Threads.{slot}
use Rattle.input_arities.proofs.ThreadLaws as law
use Rattle.input_arities.proofs.Fields.settle.Goals as goal

-- at the first field
moved : (at : ℕ) (t : Term) (w₀ w : List ℕ) (i j : ℕ) → i ≡ j → Settling at t w₀ w i → Settling at t w₀ w j
moved at t w₀ w i j e x = subst (Settling at t w₀ w) e x

pub loop-place-init : goal.loop-place-init
loop-place-init c = (refl, λ t w o x. law.settling_start _ _ _ t _ o w _ x)

pub noted-before-requires : goal.noted-before-requires
noted-before-requires c =
    let state : Settling c.args.self.now.at c.requires.0 c.args.work.now c.loop-place.work c.loop-place.place = let p = c.requires in c.loop-place.invariant.1 p.0 p.1 p.2 p.3 in
    let there : Stands c.args.self.now.s.now c.loop-place.place state.term × (c.loop-place.place + size state.term ≤ c.args.self.now.end) × (c.args.self.now.at ≤ c.loop-place.place) × (slot c.loop-place.place + 2 ≤ slot c.args.self.now.end) = law.settle_there _ _ _ c.requires.0 _ c.requires.2 _ _ state in
    omega (arith, there.3, c.requires.2.slots, c.requires.2.space, c.loop-place.invariant.0)

pub arity_of-arity-requires : goal.arity_of-arity-requires
arity_of-arity-requires c =
    let state : Settling c.args.self.now.at c.requires.0 c.args.work.now c.loop-place.work c.loop-place.place = let p = c.requires in c.loop-place.invariant.1 p.0 p.1 p.2 p.3 in
    let there : Stands c.args.self.now.s.now c.loop-place.place state.term × (c.loop-place.place + size state.term ≤ c.args.self.now.end) × (c.args.self.now.at ≤ c.loop-place.place) × (slot c.loop-place.place + 2 ≤ slot c.args.self.now.end) = law.settle_there _ _ _ c.requires.0 _ c.requires.2 _ _ state in
    let below : slot (c.loop-place.place + size state.term) ≤ length c.loop-place.work = omega (arith, slot_rises (c.loop-place.place + size state.term) c.args.self.now.end there.1, c.requires.2.slots, c.requires.2.space, c.loop-place.invariant.0) in
    (state.term, state.rest, there.0, state.owns, below, omega (arith, there.1, c.requires.2.small))

pub note-requires : goal.note-requires
note-requires c =
    let state : Settling c.args.self.now.at c.requires.0 c.args.work.now c.loop-place.work c.loop-place.place = let p = c.requires in c.loop-place.invariant.1 p.0 p.1 p.2 p.3 in
    let there : Stands c.args.self.now.s.now c.loop-place.place state.term × (c.loop-place.place + size state.term ≤ c.args.self.now.end) × (c.args.self.now.at ≤ c.loop-place.place) × (slot c.loop-place.place + 2 ≤ slot c.args.self.now.end) = law.settle_there _ _ _ c.requires.0 _ c.requires.2 _ _ state in
    (omega (arith, there.3, c.requires.2.slots, c.requires.2.space, c.loop-place.invariant.0), omega (arith, c.arity_of-arity.ensures state.term state.rest there.0 state.owns, arity_le state.term, there.1, c.requires.2.small))

pub loop-place-smaller : goal.loop-place-smaller
loop-place-smaller c =
    let state : Settling c.args.self.now.at c.requires.0 c.args.work.now c.loop-place.work c.loop-place.place = let p = c.requires in c.loop-place.invariant.1 p.0 p.1 p.2 p.3 in
    omega (arith, c.noted-before.ensures, law.settling_less _ _ _ c.requires.0 _ c.requires.2 _ _ state c.loop-place-test.true)

pub loop-place-preserved : goal.loop-place-preserved
loop-place-preserved c = (
  c.note.auto.work ∙ c.loop-place.invariant.0,
  λ t w o x.
      let l = c.loop-place.invariant.1 t w o x in
      let z = law.settle_there _ _ _ t _ o _ _ l in
      subst (Settling c.args.self.now.at t c.args.work.now c.note.new.work) (sym c.noted-before.ensures)
      (law.settling_back _ _ _ t _ o _ _ l _ _ c.note.ensures (c.arity_of-arity.ensures l.term l.rest z.0 l.owns) c.loop-place.invariant.0 c.loop-place-test.true),
)

pub arity_of-arity-requires-2 : goal.arity_of-arity-requires-2
arity_of-arity-requires-2 c =
    let state : Settling c.args.self.now.at c.requires.0 c.args.work.now c.loop-place.work c.loop-place.place = let p = c.requires in c.loop-place.invariant.1 p.0 p.1 p.2 p.3 in
    let last : Settling c.args.self.now.at c.requires.0 c.args.work.now c.loop-place.work c.args.self.now.at = moved _ _ _ _ _ _ c.loop-place-test.false state in
    let last-there : Stands c.args.self.now.s.now c.args.self.now.at last.term × (c.args.self.now.at + size last.term ≤ c.args.self.now.end) × (c.args.self.now.at ≤ c.args.self.now.at) × (slot c.args.self.now.at + 2 ≤ slot c.args.self.now.end) = law.settle_there _ _ _ c.requires.0 _ c.requires.2 _ _ last in
    (last.term, last.rest, last-there.0, last.owns, omega (arith, slot_rises (c.args.self.now.at + size last.term) c.args.self.now.end last-there.1, c.requires.2.slots, c.requires.2.space, c.loop-place.invariant.0), omega (arith, last-there.1, c.requires.2.small))

pub note-requires-2 : goal.note-requires-2
note-requires-2 c =
    let state : Settling c.args.self.now.at c.requires.0 c.args.work.now c.loop-place.work c.loop-place.place = let p = c.requires in c.loop-place.invariant.1 p.0 p.1 p.2 p.3 in
    let last : Settling c.args.self.now.at c.requires.0 c.args.work.now c.loop-place.work c.args.self.now.at = moved _ _ _ _ _ _ c.loop-place-test.false state in
    let last-there : Stands c.args.self.now.s.now c.args.self.now.at last.term × (c.args.self.now.at + size last.term ≤ c.args.self.now.end) × (c.args.self.now.at ≤ c.args.self.now.at) × (slot c.args.self.now.at + 2 ≤ slot c.args.self.now.end) = law.settle_there _ _ _ c.requires.0 _ c.requires.2 _ _ last in
    (omega (arith, last-there.3, c.requires.2.slots, c.requires.2.space, c.loop-place.invariant.0), omega (arith, c.arity_of-arity-2.ensures last.term last.rest last-there.0 last.owns, arity_le last.term, last-there.1, c.requires.2.small))

pub shape_of-work : goal.shape_of-work
shape_of-work c = c.note-2.auto.work ∙ c.loop-place.invariant.0

pub returns : goal.returns
returns c =
    λ t w o x.
    let l = moved _ t _ _ _ _ c.loop-place-test.false (c.loop-place.invariant.1 t w o x) in
    let z = law.settle_there _ _ _ t _ o _ _ l in
    law.settled _ _ _ t _ o _ _ l _ _ c.note-2.ensures (c.arity_of-arity-2.ensures l.term l.rest z.0 l.owns) c.loop-place.invariant.0 refl
