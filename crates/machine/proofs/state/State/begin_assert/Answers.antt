-- `begin_assert` meets its contract: by the number of goals and the goal, then by the fields held.
-- Assumes nothing.
use mathlib.Core.Path.{◌≡◌, sym, ◌∙◌}
use native.Mathlib.Omega.{arith}
use Rattle.std.proofs.lemmas.Bool.Decides.{nat_tests}
use Rattle.machine.proofs.BeginLaws.{assert_many_end, assert_other_end, assert_ends, keep_grown}
use Rattle.machine.proofs.state.State.begin_assert.Goals.{then-self-ne1-via-then-self-ne1, then-self-ne1-via-else-self-ne1+then-ne}
use Rattle.machine.proofs.state.State.begin_assert.Goals as goal

pub returns-then-self-ne1-clause-begun : goal.returns-then-self-ne1-clause-begun
returns-then-self-ne1-clause-begun c =
    let a = c.args in
    elim c.then-self-ne1.branch [
      | then-self-ne1-via-then-self-ne1 w ↦ assert_many_end a.work.now a.self c.requires.room a.goal.0 _ w.if-self-ne1.true c.lose.ensures
      | then-self-ne1-via-else-self-ne1+then-ne w ↦
          let differ : a.goal.0 ≡ w.value_at.result.0 → ⊥ = grind (arith, nat_tests, w.if-ne.true, w.ne.ensures) in
          assert_other_end a.work.now a.self c.requires.room a.goal.0 _ (λ e. differ (sym (w.value_at.ensures ∙ e))) c.lose.ensures
    ]

pub returns-clause-begun : goal.returns-clause-begun
returns-clause-begun c =
    let a = c.args in
    let same : a.goal.0 ≡ c.value_at.result.0 = grind (arith, nat_tests, c.if-ne.false, c.ne.ensures) in
    assert_ends a.work.now a.self c.requires.room a.goal.0 c.if-self-ne1.false (sym (same ∙ c.value_at.ensures)) _ _ c.keep.ensures

pub returns-clause-grown : goal.returns-clause-grown
returns-clause-grown c = keep_grown c.args.work.now c.args.self c.requires.room 17 _ _ c.keep.ensures
