-- `unwind` meets its contract: what is left to unwind comes to the same; every turn takes a frame off.
-- Assumes nothing.
use mathlib.Core.Path.{◌≡◌}
use Rattle.std.proofs.Common.{rules}
use Rattle.machine.specs.declared.state.Mode.TheVariants as is
use Rattle.machine.proofs.UnwindLaws.{start-here, start_fewer, waits, at_end, few_next, way_next, found}
use Rattle.machine.proofs.state.State.unwind.Goals as goal

pub loop-s-init : goal.loop-s-init
loop-s-init c = (start-here c.args.work.now c.args.self, start_fewer c.args.work.now c.args.self)

pub pop-s-requires : goal.pop-s-requires
pop-s-requires c =
    let l = c.loop-s in
    waits c.args.work.now c.args.self l.work l.s l.invariant.0 l.invariant.1 c.requires c.loop-s-test.true

pub returns-then-eq-clause-unwound : goal.returns-then-eq-clause-unwound
returns-then-eq-clause-unwound c =
    let l = c.loop-s in
    let r = c.pop-s in
    let running : r.result.mode ≡ is.Running = search rules in
    found c.args.work.now c.args.self l.work l.s l.invariant.0 l.invariant.1 c.loop-s-test.true _ r.result r.ensures.popped r.ensures.smaller running

pub loop-s-preserved : goal.loop-s-preserved
loop-s-preserved c =
    let l = c.loop-s in
    let r = c.pop-s in
    let ended : r.result.mode ≡ is.Running → ⊥ = search rules in (
      way_next c.args.work.now c.args.self l.work l.s l.invariant.0 l.invariant.1 c.loop-s-test.true _ r.result r.ensures.popped r.ensures.smaller ended,
      few_next c.args.work.now c.args.self l.work l.s l.invariant.0 l.invariant.1 c.loop-s-test.true _ r.result r.ensures.popped r.ensures.smaller,
    )

pub returns-clause-unwound : goal.returns-clause-unwound
returns-clause-unwound c =
    let l = c.loop-s in
    at_end c.args.work.now c.args.self l.work l.s l.invariant.0 l.invariant.1 c.loop-s-test.false
