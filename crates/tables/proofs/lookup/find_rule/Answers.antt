-- `lookup::find_rule` meets its contract. The invariant: what the search finds in the rules of a table is what it finds in those from here on, with the rules passed counted.
-- Assumes nothing.
use mathlib.Core.Path.{refl, sym, ◌∙◌}
use native.Mathlib.Omega.{arith}
use Rattle.tables.specs.Lookup.{find_rule}
use Rattle.tables.specs.Found.{rule_found, FoundInside}
use Rattle.tables.proofs.LookupLaws.{RuleBounds, rule_bounds, no_rule, this_rule, next_rule}
use Rattle.tables.proofs.lookup.find_rule.Goals as goal
use Rattle.tables.proofs.lookup.find_rule.Goals.{In-loop-at}

-- the field of the rule at the place
here : (c : In-loop-at) → RuleBounds c.args.table.now c.loop-at.at c.args.first
here c = let i = c.loop-at.invariant.0 c.requires.0 c.requires.1 in rule_bounds _ i.0 _ _ i.1 c.loop-at-test.true

pub loop-at-init : goal.loop-at-init
unfolding find_rule
loop-at-init c = (λ T st. (T.rules, st.rules_stand, refl), omega arith)

pub overflow_add-at : goal.overflow_add-at
overflow_add-at c = omega (arith, here (goal.at.overflow_add-at c).In-loop-at)

pub load16-len-requires : goal.load16-len-requires
load16-len-requires c = omega (arith, here (goal.at.load16-len-requires c).In-loop-at)

pub carries-requires : goal.carries-requires
carries-requires c = (here (goal.at.carries-requires c).In-loop-at).seven

pub overflow_add-result : goal.overflow_add-result
overflow_add-result c = omega (arith, here (goal.at.overflow_add-result c).In-loop-at)

pub overflow_sub-result : goal.overflow_sub-result
overflow_sub-result c = omega (arith, here (goal.at.overflow_sub-result c).In-loop-at, c.load16-len.ensures)

pub returns-then-carries : goal.returns-then-carries
unfolding rule_found FoundInside
returns-then-carries c =
    let b = here (goal.at.returns-then-carries c).In-loop-at in
    let len = c.load16-len.ensures in
    record {
      found = λ T st.
          let i = c.loop-at.invariant.0 T st in
          rw len (i.2 ∙ this_rule _ _ _ _ i.0 _ _ i.1 c.loop-at-test.true (sym c.carries.ensures ∙ c.if-carries.true));
      inside = (omega (arith, b, len), omega (arith, b, len));
    }

pub overflow_add-at-in-loop-at : goal.overflow_add-at-in-loop-at
overflow_add-at-in-loop-at c = omega (arith, here (goal.at.overflow_add-at-in-loop-at c).In-loop-at, c.load16-len.ensures)

pub overflow_add-at-in-loop-at-2 : goal.overflow_add-at-in-loop-at-2
overflow_add-at-in-loop-at-2 c = omega (arith, here (goal.at.overflow_add-at-in-loop-at-2 c).In-loop-at, c.load16-len.ensures)

pub overflow_add-number : goal.overflow_add-number
overflow_add-number c = omega (arith, here (goal.at.overflow_add-number c).In-loop-at, c.loop-at.invariant.1)

pub loop-at-smaller : goal.loop-at-smaller
loop-at-smaller c = omega (arith, c.loop-at-test.true)

pub loop-at-preserved : goal.loop-at-preserved
loop-at-preserved c = (
  λ T st.
      let i = c.loop-at.invariant.0 T st in
      let n = next_rule _ _ _ c.loop-at.number i.0 _ _ i.1 c.loop-at-test.true (sym c.carries.ensures ∙ c.if-carries.false) in
      (n.0, rw c.load16-len.ensures n.1, i.2 ∙ n.2),
  omega (arith, c.loop-at.invariant.1),
)

pub returns : goal.returns
unfolding rule_found FoundInside
returns c = record {
  found = λ T st.
      let i = c.loop-at.invariant.0 T st in
      i.2 ∙ no_rule _ _ _ _ i.0 _ _ i.1 c.loop-at-test.false;
  inside = tt;
}
