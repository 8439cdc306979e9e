-- `lookup::find_body` meets its contract. The invariant: what the search finds in the definitions of a table is what it finds in those from here on.
-- Assumes nothing.
use mathlib.Core.Path.{◌≡◌, refl, sym, ap, ◌∙◌}
use Prim.Native.Nat.{ℕ}
use native.Mathlib.Omega.{arith}
use lib.ListN.{length}
use borrow.Author.Tests.{eqb-true, eqb-false}
use Rattle.tables.specs.Lookup.{find_body}
use Rattle.tables.specs.Found.{BodyStands, BodyPlaced}
use Rattle.tables.proofs.LookupLaws.{DefinitionBounds, definition_bounds, no_body, this_body}
use Rattle.tables.proofs.PlaceLaws.{rules_end, this_place, next_place}
use Rattle.tables.specs.Places.{body_place_in, body_place}
use Rattle.tables.specs.Repeats.{rules_size}
use Rattle.tables.proofs.lookup.find_body.Goals as goal
use Rattle.tables.proofs.lookup.find_body.Goals.{In-loop-at}

-- the field of the definition at the place
here : (c : In-loop-at) → DefinitionBounds c.args.table.now c.loop-at.at (length c.args.table.now)
here c = let i = c.loop-at.invariant c.requires.0 c.requires.1 in definition_bounds _ i.0 _ _ i.1 c.loop-at-test.true

pub loop-at-init : goal.loop-at-init
unfolding find_body body_place
loop-at-init c = λ T st.
    let q : rules_size T.rules ≡ c.args.first = omega (arith, rules_end _ 0 T.rules _ st.rules_stand) in
    (T.definitions, st.definitions_stand, refl, ap (λ (x : ℕ). body_place_in x T.definitions c.args.tactic) q)

pub overflow_add-at : goal.overflow_add-at
overflow_add-at c = omega (arith, here (goal.at.overflow_add-at c).In-loop-at)

pub value_at-requires : goal.value_at-requires
value_at-requires c = omega (arith, here (goal.at.value_at-requires c).In-loop-at)

pub overflow_add-result : goal.overflow_add-result
overflow_add-result c = omega (arith, here (goal.at.overflow_add-result c).In-loop-at)

pub returns-then-eq : goal.returns-then-eq
unfolding BodyStands BodyPlaced
returns-then-eq c = λ T st.
    let i = c.loop-at.invariant T st in
    let b = this_body _ _ i.0 _ _ i.1 c.loop-at-test.true (eqb-true _ _ (sym c.if-eq.ensures) ∙ c.value_at.ensures) in
    ((b.0, i.2 ∙ b.1, b.2), sym (i.3 ∙ this_place _ _ i.0 _ _ i.1 c.loop-at-test.true (eqb-true _ _ (sym c.if-eq.ensures) ∙ c.value_at.ensures)))

pub overflow_add-at-in-loop-at : goal.overflow_add-at-in-loop-at
overflow_add-at-in-loop-at c = omega (arith, here (goal.at.overflow_add-at-in-loop-at c).In-loop-at)

pub load16-len-requires : goal.load16-len-requires
load16-len-requires c = omega (arith, here (goal.at.load16-len-requires c).In-loop-at)

pub overflow_add-at-in-loop-at-2 : goal.overflow_add-at-in-loop-at-2
overflow_add-at-in-loop-at-2 c = omega (arith, here (goal.at.overflow_add-at-in-loop-at-2 c).In-loop-at, c.load16-len.ensures)

pub overflow_add-at-in-loop-at-3 : goal.overflow_add-at-in-loop-at-3
overflow_add-at-in-loop-at-3 c = omega (arith, here (goal.at.overflow_add-at-in-loop-at-3 c).In-loop-at, c.load16-len.ensures)

pub loop-at-smaller : goal.loop-at-smaller
loop-at-smaller c = omega (arith, c.loop-at-test.true)

pub loop-at-preserved : goal.loop-at-preserved
loop-at-preserved c = λ T st.
    let i = c.loop-at.invariant T st in
    let n = next_place _ _ i.0 _ _ i.1 c.loop-at-test.true (λ e. eqb-false _ _ (sym c.if-eq.ensures) (e ∙ sym c.value_at.ensures)) in
    (n.0, rw c.load16-len.ensures n.1, i.2 ∙ n.2, rw c.load16-len.ensures (i.3 ∙ n.3))

pub returns : goal.returns
unfolding BodyStands BodyPlaced
returns c = λ T st.
    let i = c.loop-at.invariant T st in
    (i.2 ∙ no_body _ _ i.0 _ _ i.1 c.loop-at-test.false, tt)
