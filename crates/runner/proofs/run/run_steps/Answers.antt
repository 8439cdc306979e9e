-- `run::run_steps` meets its contract: what is left of the run comes to the same, and every turn uses up a step. Assumes nothing.
use mathlib.Core.Path.{◌≡◌, subst}
use Rattle.std.proofs.Common.{rules, arith, ℕ, ◌-◌, ◌+◌}
use Rattle.machine.specs.declared.state.Mode.TheVariants as is
use Rattle.runner.proofs.RunLaws.{Way, way_start, ran_end, ran_out, given, way_next}
use Rattle.runner.proofs.run.run_steps.Goals as goal

pub loop-init : goal.loop-init
loop-init c =
    let a = c.args in
    let all : a.budget ≡ a.budget - 0 = omega arith in
    (omega arith, subst (λ (n : ℕ). Way a.table.now a.first a.job.now a.work.now a.from a.budget a.work.now a.from n) all (way_start _ _ _ _ _ _))

pub returns-then-ne : goal.returns-then-ne
returns-then-ne c = ran_end _ _ _ _ _ _ _ _ _ c.loop.invariant.1 (λ m. search rules)

pub step-s-requires : goal.step-s-requires
step-s-requires c =
    let m : c.loop.s.mode ≡ is.Running = search rules in
    given _ _ _ _ _ _ _ _ _ c.loop.invariant.1 (omega (arith, c.loop-test.true)) m c.requires

pub loop-preserved : goal.loop-preserved
loop-preserved c =
    let a = c.args in
    let m : c.loop.s.mode ≡ is.Running = search rules in
    let s = c.step-s in
    let fewer : a.budget - c.loop.counter - 1 ≡ a.budget - (c.loop.counter + 1) = omega arith in (
      omega (arith, c.loop-test.true),
      subst (λ (n : ℕ). Way a.table.now a.first a.job.now a.work.now a.from a.budget s.new.work s.result n) fewer (way_next _ _ _ _ _ _ _ _ _ c.loop.invariant.1 (omega (arith, c.loop-test.true)) m _ _ s.ensures.steps s.ensures.grown),
    )

pub returns : goal.returns
returns c = ran_out _ _ _ _ _ _ _ _ _ c.loop.invariant.1 (omega (arith, c.loop-test.false))
