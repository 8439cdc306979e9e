-- `leaf::use_rule` meets its contract: the look-up by the index finds the rule that the definition finds, and its premises become new nodes.
-- Assumes nothing.
use mathlib.Core.Path.{sym, subst, ap, ◌∙◌}
use Prim.Native.Nat.{ℕ}
use native.Mathlib.Omega.{arith}
use Rattle.words.specs.Word.{word}
use Rattle.words.proofs.KeptLaws.{kept_same}
use Rattle.format.specs.Goals.{goals_at}
use Rattle.format.proofs.GoalsLaws.{length-goals_at}
use Rattle.tables.specs.Found.{rule_found, FoundInside}
use Rattle.nodes.specs.Space.{cell_place, planted}
use Rattle.nodes.proofs.LeafLaws.{atomic_count, found_by, kept-planted, atomic_missing, atomic_gives}
use Rattle.nodes.proofs.leaf.use_rule.Goals as goal

pub returns-then-n-ne1 : goal.returns-then-n-ne1
returns-then-n-ne1 c = (_, kept_same _ _ _, λ T st. atomic_count T _ _ _ _ _ c.if-n-ne1.true)

pub value_at-goal-requires : goal.value_at-goal-requires
value_at-goal-requires c = omega (arith, c.load16-node.ensures, c.requires.4 c.if-n-ne1.false, c.requires.3.space)

pub returns-in_default : goal.returns-in_default
unfolding rule_found
returns-in_default c =
    let e = c.if-n-ne1.false in (
      _,
      kept_same _ _ _,
      λ T st. atomic_missing T _ _ _ _ _ e (c.requires.4 e)
          (sym (found_by T _ _ _ _ c.value_at-name.ensures (c.value_at-goal.ensures ∙ ap (λ (x : ℕ). word c.args.work.now (cell_place x)) c.load16-node.ensures)) ∙ c.find_rule.ensures.found T st ∙ ap (rule_found c.args.table.now) c.in_default.is),
    )

pub grow-requires : goal.grow-requires
unfolding FoundInside
grow-requires c =
    let there = c.requires.4 c.if-n-ne1.false in
    let inside = subst (FoundInside c.args.table.now) c.in-Some.is c.find_rule.ensures.inside in
    let r = c.requires.3 in
    (omega (arith, there.0, c.load16-node.ensures), omega (arith, there.1, inside.0), inside.1, omega (arith, r.apart, r.below, inside.0), r.space)

pub overflow_add-result : goal.overflow_add-result
unfolding FoundInside
overflow_add-result c =
    let there = c.requires.4 c.if-n-ne1.false in
    let inside = subst (FoundInside c.args.table.now) c.in-Some.is c.find_rule.ensures.inside in
    omega (arith, there.1, inside.0)

pub returns : goal.returns
unfolding FoundInside rule_found
returns c =
    let e = c.if-n-ne1.false in
    let there = c.requires.4 e in
    let found = c.in-Some.is in
    let inside = subst (FoundInside c.args.table.now) found c.find_rule.ensures.inside in
    let h = goals_at c.args.table.now c.in-Some.rule.place c.in-Some.rule.count in
    let l = length-goals_at c.in-Some.rule.count c.args.table.now c.in-Some.rule.place in (
      planted c.args.work.now c.load16-node.result c.value_at-name.result.0 c.args.next h,
      kept-planted _ _ _ _ h (omega (arith, there.0, c.load16-node.ensures)) (omega (arith, there.1, l, inside.0)),
      (λ T st. atomic_gives T _ _ _ _ _ e there _ h (sym (found_by T _ _ _ _ c.value_at-name.ensures (c.value_at-goal.ensures ∙ ap (λ (x : ℕ). word c.args.work.now (cell_place x)) c.load16-node.ensures)) ∙ c.find_rule.ensures.found T st ∙ ap (rule_found c.args.table.now) found) (omega (arith, l, inside.0)) c.requires.3 _ _ _ c.load16-node.ensures c.value_at-name.ensures c.grow.ensures _ l),
    )
