-- `begin_assert` meets its contract: by the number of goals and the goal.
-- Assumes nothing.
use Rattle.search_machine.proofs.BeginLaws.{assert_many, assert_other, assert_keeps}
use Rattle.std.proofs.lemmas.Bool.Decides.{nat_tests}
use native.Mathlib.Omega.{arith}
use Rattle.search_machine.proofs.state.State.begin_assert.Goals as goal

pub returns-then-self-ne1-clause-begun : goal.returns-then-self-ne1-clause-begun
returns-then-self-ne1-clause-begun c = (assert_many c.args.work.now c.args.self c.requires c.args.goal.0 _ c.if-self-ne1.true c.fail.ensures).0

pub returns-then-ne-clause-begun : goal.returns-then-ne-clause-begun
returns-then-ne-clause-begun c = (assert_other c.args.work.now c.args.self c.requires c.args.goal.0 _ (λ e. grind (arith, nat_tests, e, c.if-ne.ensures, c.value_at.ensures)) c.fail-then-ne.ensures).0

pub returns-clause-begun : goal.returns-clause-begun
returns-clause-begun c = (assert_keeps c.args.work.now c.args.self c.requires c.args.goal.0 _ _ c.if-self-ne1.false (grind (arith, nat_tests, c.if-ne.ensures, c.value_at.ensures)) c.leaf.ensures.written c.leaf.ensures.state).0

pub returns-clause-stays : goal.returns-clause-stays
returns-clause-stays c = (assert_keeps c.args.work.now c.args.self c.requires c.args.goal.0 _ _ c.if-self-ne1.false (grind (arith, nat_tests, c.if-ne.ensures, c.value_at.ensures)) c.leaf.ensures.written c.leaf.ensures.state).1
