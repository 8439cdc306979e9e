-- A turn keeps what holds, and what holds at the end are all frames: GatherLaws. Assumes nothing.
use Rattle.saver.proofs.GatherLaws.{gather_at_given, gather_next, gather_all}
use Rattle.saver.proofs.gather.gather.Goals as goal

pub gather_at-g-requires : goal.gather_at-g-requires
gather_at-g-requires c =
    let l = c.loop-at in
    gather_at_given c.args.work.now c.args.frames.now c.args.top c.args.inside l.frames l.n l.at l.held l.invariant c.loop-at-test.true

pub loop-at-preserved : goal.loop-at-preserved
loop-at-preserved c =
    let l = c.loop-at in
    let g = c.gather_at-g in
    let p = c.push-n in
    gather_next c.args.work.now c.args.frames.now c.args.top c.args.inside l.frames l.n l.at l.held l.invariant c.loop-at-test.true g.result g.ensures p.result p.ensures.0 p.new.frames p.ensures.1

pub returns : goal.returns
returns c =
    let l = c.loop-at in
    gather_all c.args.work.now c.args.frames.now c.args.top c.args.inside l.frames l.n l.at l.held l.invariant c.loop-at-test.false
