-- `leaf::take_rule` meets its contract: the rule found is put into the set, and its premises are copied behind the goals given.
-- Assumes nothing.
use mathlib.Core.Path.{sym, subst, ap, ◌∙◌}
use native.Mathlib.Omega.{arith}
use Rattle.tables.specs.Found.{rule_found, FoundInside, FindsRule}
use Rattle.index.proofs.FindLaws.{number_few}
use Rattle.input_arities.specs.Layout.{arities_end}
use Rattle.checker.proofs.LeafLaws.{looked_up_lem, atomic_not_one, atomic_missing, atomic_copied}
use Rattle.checker.proofs.leaf.take_rule.Goals as goal

pub returns-then-n-ne1 : goal.returns-then-n-ne1
returns-then-n-ne1 c = λ T st. atomic_not_one T _ _ _ _ c.if-n-ne1.true

pub find_rule-requires : goal.find_rule-requires
find_rule-requires c = (c.requires.0, c.requires.5.index)

pub put-requires : goal.put-requires
put-requires c = (c.requires.6, omega (arith, number_few _ _ _ arities_end c.requires.5.index c.requires.0.0 c.requires.0.1 _ _ c.in-Some.rule (subst (FindsRule c.args.table.now c.args.first _ _) c.in-Some.is c.find_rule.ensures)))

pub overflow_mul-rule : goal.overflow_mul-rule
unfolding FoundInside
overflow_mul-rule c = omega (arith, (subst (FoundInside c.args.table.now) c.in-Some.is c.find_rule.ensures.inside).0)

pub copy_in-requires : goal.copy_in-requires
unfolding FoundInside
copy_in-requires c =
    let inside = subst (FoundInside c.args.table.now) c.in-Some.is c.find_rule.ensures.inside in
    (inside.1, omega (arith, inside.0, c.requires.2, c.requires.3, c.requires.4, c.put.auto.w))

pub returns-in_default : goal.returns-in_default
unfolding rule_found
returns-in_default c =
    λ T st. atomic_missing T _ _ _ _ c.if-n-ne1.false
    (sym (looked_up_lem T _ _ _ _ c.value_at-name.ensures c.value_at-goal.ensures) ∙ c.find_rule.ensures.found T st ∙ ap (rule_found _) c.in_default.is)

pub returns : goal.returns
unfolding FoundInside rule_found
returns c =
    let inside = subst (FoundInside c.args.table.now) c.in-Some.is c.find_rule.ensures.inside in
    λ T st. atomic_copied T _ _ _ _ _ _ _ _ _ _ c.put.auto.w c.put.ensures.kept c.put.ensures.more c.copy_in.ensures c.if-n-ne1.false (sym (looked_up_lem T _ _ _ _ c.value_at-name.ensures c.value_at-goal.ensures) ∙ c.find_rule.ensures.found T st ∙ ap (rule_found _) c.in-Some.is) inside.0 inside.1 c.requires.2 c.requires.3 c.requires.4
