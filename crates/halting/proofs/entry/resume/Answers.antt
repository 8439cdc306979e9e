-- `resume` meets its contract: what finishing is given, and what it leaves, are EntryLaws'. Assumes nothing.
use Rattle.format.specs.Refusals.{number}
use Rattle.halting.proofs.EndLaws.{hand_given}
use Rattle.halting.proofs.EntryLaws.{spaces, resume_short, resume_end}
use Rattle.halting.proofs.entry.resume.Goals as goal

pub returns-then-too_short : goal.returns-then-too_short
unfolding number
returns-then-too_short c =
    let a = c.args in
    let x = resume_short a.work.now a.frames.now a.out.now a.state.now c.too_short.result c.too_short.ensures a.table.now a.job.now a.saved.now a.budget c.if-too_short.true c.refused.result c.refused.ensures in
    record { answer = x.0; work = x.1.0; frames = x.1.1.0; out = x.1.1.1.0; state = x.1.1.1.1 }

pub finish-requires : goal.finish-requires
finish-requires c =
    let a = c.args in
    hand_given a.work.now a.frames.now _ _ (spaces _ _ a.out.now _ _ c.too_short.ensures c.if-too_short.false) _ _ _ _ c.second_run-h.ensures c.second_run-h.auto.work _ c.second_run-h.auto.frames

pub returns : goal.returns
returns c =
    let a = c.args in
    let f = c.finish in
    let x =
    resume_end a.work.now a.frames.now _ a.state.now _ c.too_short.ensures c.if-too_short.false _ _ _ c.second_run-h.auto.work _ c.second_run-h.auto.frames _ _ _ _ f.ensures.value f.ensures.work_after f.ensures.frames_after f.ensures.state_after
    _ _ _ _ c.second_run-h.ensures in
    record { answer = x.0; work = x.1.0; frames = x.1.1.0; out = x.1.1.1.0; state = x.1.1.1.1 }
