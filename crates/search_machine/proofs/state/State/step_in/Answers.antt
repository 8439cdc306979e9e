-- `step_in` meets its contract: counted, begun, unwound.
-- Assumes nothing.
use Rattle.search_machine.proofs.StepLaws.{stood, unwinding, steps_on}
use Rattle.search_machine.proofs.state.State.step_in.Goals as goal

pub counted-s-requires : goal.counted-s-requires
counted-s-requires c = c.requires.steps_left

pub begin-r-requires : goal.begin-r-requires
begin-r-requires c =
    let a = c.args in
    let p = c.requires in
    (stood a.table.now a.first a.src.now a.work.now a.self p c.counted-s.result c.counted-s.ensures, (p.table, p.table_stands), p.indexed)

pub unwind-requires : goal.unwind-requires
unwind-requires c =
    let a = c.args in
    let p = c.requires in
    unwinding a.table.now a.first a.src.now a.work.now a.self p c.counted-s.result c.counted-s.ensures _ c.begin-r.result c.begin-r.ensures.begun c.begin-r.ensures.stays

pub returns-clause-steps : goal.returns-clause-steps
returns-clause-steps c =
    let a = c.args in
    let p = c.requires in
    (steps_on a.table.now a.first a.src.now a.work.now a.self p c.counted-s.result c.counted-s.ensures _ c.begin-r.result c.begin-r.ensures.begun c.begin-r.ensures.stays _ c.unwind.result c.unwind.ensures.unwound c.unwind.ensures.stays).0
