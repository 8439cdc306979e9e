-- `begin_atomic` meets its contract: by the number of goals and what the look-up finds.
-- Assumes nothing.
use mathlib.Core.Path.{refl}
use Rattle.search_machine.proofs.BeginLaws.{rule_fails, rule_missing_lem, rule_used}
use Rattle.tactics.proofs.FoundLaws.{rule_inside}
use Rattle.search_machine.proofs.state.State.begin_atomic.Goals as goal

pub returns-then-self-ne1-clause-begun : goal.returns-then-self-ne1-clause-begun
returns-then-self-ne1-clause-begun c = (rule_fails c.args.work.now c.args.self c.requires.0 c.args.table.now c.args.first c.args.name _ c.if-self-ne1.true c.fail.ensures).0

pub use_rule-requires : goal.use_rule-requires
use_rule-requires c = let i = rule_inside _ _ _ _ _ c.in-Some.ensures c.in-Some.rule refl in (c.requires.0, i.0, i.1)

pub returns-in-None-clause-begun : goal.returns-in-None-clause-begun
returns-in-None-clause-begun c =
    (rule_missing_lem c.args.work.now c.args.self c.requires.0 c.args.table.now c.args.first c.args.name c.value_at-goal.result _ c.if-self-ne1.false c.value_at-goal.ensures c.in-None.ensures _ refl c.fail-in-None.ensures).0

pub returns-in-Some-clause-begun : goal.returns-in-Some-clause-begun
returns-in-Some-clause-begun c =
    let u = c.use_rule.ensures in
    (rule_used c.args.work.now c.args.self c.requires.0 c.args.table.now c.args.first c.args.name c.value_at-goal.result _ c.if-self-ne1.false c.value_at-goal.ensures c.in-Some.ensures _ refl _ _ u.begun u.stays).0
