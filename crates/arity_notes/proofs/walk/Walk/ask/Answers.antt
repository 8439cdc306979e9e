-- `ask` meets its contract: by the tag, one law for each form.
-- Assumes nothing.
use native.Mathlib.Omega.{arith}
use Rattle.arity_notes.proofs.AskLaws.{given_room, given_five, given_tactic, ask_sequence, ask_tensor, ask_alternation, ask_defined, ask_empty, ask_one}
use Rattle.arity_notes.proofs.walk.Walk.ask.Goals as goal

pub bounds-src-at : goal.bounds-src-at
bounds-src-at c =
    let room = given_room c.args.table.now c.args.first c.args.src.now c.args.base c.args.work.now c.args.self c.args.at c.requires.1 c.requires.0 in
    omega (arith, room.0)

pub returns-in-19 : goal.returns-in-19
returns-in-19 c = ask_sequence c.args.table.now c.args.first c.args.src.now c.args.base c.args.work.now c.args.self c.args.at c.requires.1 c.in-19.is _ c.go.ensures

pub wait-requires : goal.wait-requires
wait-requires c =
    let room = given_room c.args.table.now c.args.first c.args.src.now c.args.base c.args.work.now c.args.self c.args.at c.requires.1 c.requires.0 in
    (omega (arith, room.1, room.2), omega (arith, room.1))

pub returns-in-20 : goal.returns-in-20
returns-in-20 c = ask_tensor c.args.table.now c.args.first c.args.src.now c.args.base c.args.work.now c.args.self c.args.at c.requires.1 c.in-20.is _ _ c.wait.ensures.written c.wait.ensures.next

pub wait-requires-in-22 : goal.wait-requires-in-22
wait-requires-in-22 c =
    let room = given_room c.args.table.now c.args.first c.args.src.now c.args.base c.args.work.now c.args.self c.args.at c.requires.1 c.requires.0 in
    (omega (arith, room.1, room.2), omega (arith, room.1))

pub returns-in-22 : goal.returns-in-22
returns-in-22 c = ask_alternation c.args.table.now c.args.first c.args.src.now c.args.base c.args.work.now c.args.self c.args.at c.requires.1 c.in-22.is _ _ c.wait-in-22.ensures.written c.wait-in-22.ensures.next

pub value_at-requires : goal.value_at-requires
value_at-requires c = omega (arith, given_five c.args.table.now c.args.first c.args.src.now c.args.base c.args.work.now c.args.self c.args.at c.requires.1 c.requires.0 c.in-24.is)

pub ask_tactic-requires : goal.ask_tactic-requires
ask_tactic-requires c = given_tactic c.args.table.now c.args.first c.args.src.now c.args.base c.args.work.now c.args.self c.args.at c.requires.1 c.value_at.result.0 c.value_at.ensures c.in-24.is c.requires.0

pub returns-in-24 : goal.returns-in-24
returns-in-24 c = ask_defined c.args.table.now c.args.first c.args.src.now c.args.base c.args.work.now c.args.self c.args.at c.requires.1 c.in-24.is c.value_at.result.0 c.value_at.ensures _ _ c.ask_tactic.ensures

pub returns-in-21 : goal.returns-in-21
returns-in-21 c = ask_empty c.args.table.now c.args.first c.args.src.now c.args.base c.args.work.now c.args.self c.args.at c.requires.1 c.in-21.is _ c.tell.ensures

pub returns-in_default : goal.returns-in_default
returns-in_default c = ask_one c.args.table.now c.args.first c.args.src.now c.args.base c.args.work.now c.args.self c.args.at c.requires.1 (λ e. omega (arith, e)) (λ e. omega (arith, e)) (λ e. omega (arith, e)) (λ e. omega (arith, e)) (λ e. omega (arith, e)) _ c.tell-in_default.ensures
