-- `walk::is_rule_of` meets its contract: the rule carries the name and the goal that stand in the use.
-- Assumes nothing.
use mathlib.Core.Path.{◌∙◌}
use Rattle.format.specs.Values.{rule_name, goal}
use Rattle.tables.specs.Found.{is_carried}
use Rattle.index.specs.Keys.{second_of, is_key}
use Rattle.derivation.proofs.walk.is_rule_of.Goals as goal

pub returns : goal.returns
unfolding is_carried is_key second_of
returns c =
    let a = c.args in
    let n = c.value_at-name.ensures in
    let g = c.value_at-on.ensures in
    c.carries.ensures ∙ (λ i. is_carried a.table.now a.rule (rule_name (n i)) (goal (g i)))
