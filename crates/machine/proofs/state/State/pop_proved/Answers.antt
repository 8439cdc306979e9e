-- `pop_proved` meets its contract: by the kind of the frame, one law for each.
-- Assumes nothing.
use native.Mathlib.Omega.{arith}
use Rattle.machine.specs.Popping.{Closing}
use Rattle.machine.proofs.WaitingLaws.{waiting_top, waiting-fits, loaded}
use Rattle.machine.proofs.PopLaws.{chosen_end, closes}
use Rattle.machine.proofs.JoinLaws.{joins}
use Rattle.machine.proofs.state.State.pop_proved.Goals as goal

pub load_frame-f-requires : goal.load_frame-f-requires
load_frame-f-requires c = let p = c.requires.1 in omega (arith, waiting_top c.args.work.now c.args.self p, p.space)

pub turn-requires : goal.turn-requires
turn-requires c = (loaded c.args.work.now c.args.self c.requires.1 _ c.requires.0 c.load_frame-f.ensures, c.in-2.is)

pub turn_beside-requires : goal.turn_beside-requires
turn_beside-requires c = (loaded c.args.work.now c.args.self c.requires.1 _ c.requires.0 c.load_frame-f.ensures, c.in-4.is)

pub join-requires : goal.join-requires
join-requires c =
    let l = loaded c.args.work.now c.args.self c.requires.1 _ c.requires.0 c.load_frame-f.ensures in
    (l, c.in-5.is, joins c.args.work.now c.args.self _ l c.in-5.is)

pub leave-requires : goal.leave-requires
leave-requires c = (waiting-fits c.args.work.now c.args.self c.requires.1).frames_high

pub returns-in-6-clause-popped : goal.returns-in-6-clause-popped
returns-in-6-clause-popped c =
    let a = c.args in
    chosen_end a.work.now a.self c.load_frame-f.result c.load_frame-f.ensures _ c.requires.0 c.in-6.is c.leave.ensures

pub close-requires : goal.close-requires
close-requires c =
    let l = loaded c.args.work.now c.args.self c.requires.1 _ c.requires.0 c.load_frame-f.ensures in
    let n : Closing c.load_frame-f.result.kind = (λ e. omega (arith, e), λ e. omega (arith, e), λ e. omega (arith, e), λ e. omega (arith, e)) in
    (l, n, closes c.args.work.now c.args.self _ l n)
