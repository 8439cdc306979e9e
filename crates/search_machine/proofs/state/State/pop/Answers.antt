-- `pop` meets its contract: by the kind of the node.
-- Assumes nothing.
use mathlib.Core.Path.{sym, ◌∙◌}
use native.Mathlib.Omega.{arith}
use Rattle.search_machine.proofs.PopLaws.{wait_room, wait_node, tensor_left_room, tensor_right_room, pop_sequence_left, pop_tensor_left, pop_over, pop_join}
use Rattle.search_machine.proofs.state.State.pop.Goals as goal

pub load16-requires : goal.load16-requires
load16-requires c = omega (arith, wait_node c.args.work.now c.args.self c.requires)

pub pop_sequence_left-requires : goal.pop_sequence_left-requires
pop_sequence_left-requires c = wait_room c.args.work.now c.args.self c.requires

pub returns-in-1-clause-popped : goal.returns-in-1-clause-popped
returns-in-1-clause-popped c = (pop_sequence_left c.args.work.now c.args.self c.requires (sym c.load16.ensures ∙ c.in-1.is) _ c.pop_sequence_left.ensures).0

pub pop_tensor_left-requires : goal.pop_tensor_left-requires
pop_tensor_left-requires c =
    let w = c.args.work.now in
    let s = c.args.self in
    (wait_room w s c.requires, tensor_left_room w s c.requires (sym c.load16.ensures ∙ c.in-2.is))

pub returns-in-2-clause-popped : goal.returns-in-2-clause-popped
returns-in-2-clause-popped c = (pop_tensor_left c.args.work.now c.args.self c.requires (sym c.load16.ensures ∙ c.in-2.is) _ c.pop_tensor_left.result c.pop_tensor_left.ensures.written c.pop_tensor_left.ensures.state).0

pub returns-in-2-clause-stays : goal.returns-in-2-clause-stays
returns-in-2-clause-stays c = (pop_tensor_left c.args.work.now c.args.self c.requires (sym c.load16.ensures ∙ c.in-2.is) _ c.pop_tensor_left.result c.pop_tensor_left.ensures.written c.pop_tensor_left.ensures.state).1.0

pub overflow_add-link : goal.overflow_add-link
overflow_add-link c = omega (arith, wait_node c.args.work.now c.args.self c.requires)

pub load16-left-requires : goal.load16-left-requires
load16-left-requires c = omega (arith, wait_node c.args.work.now c.args.self c.requires)

pub returns-then-left-self-gt256-clause-popped : goal.returns-then-left-self-gt256-clause-popped
returns-then-left-self-gt256-clause-popped c =
    (pop_over c.args.work.now c.args.self c.requires (λ e. grind (arith, c.load16.ensures)) (λ e. grind (arith, c.load16.ensures)) _ (omega (arith, c.if-left-self-gt256.true, c.load16-left.ensures)) c.fail.ensures).0

pub join-requires : goal.join-requires
join-requires c =
    let w = c.args.work.now in
    let s = c.args.self in
    let r = tensor_right_room w s c.requires (λ e. grind (arith, c.load16.ensures)) (λ e. grind (arith, c.load16.ensures)) in
    (wait_room w s c.requires, r.goals_inside, omega (arith, c.if-left-self-gt256.false, c.load16-left.ensures), r.arena_fits)

pub returns-clause-popped : goal.returns-clause-popped
returns-clause-popped c =
    (pop_join c.args.work.now c.args.self c.requires (λ e. grind (arith, c.load16.ensures)) (λ e. grind (arith, c.load16.ensures)) (omega (arith, c.if-left-self-gt256.false, c.load16-left.ensures)) _ c.join.result c.join.ensures).0

pub returns-clause-smaller : goal.returns-clause-smaller
returns-clause-smaller c =
    (pop_join c.args.work.now c.args.self c.requires (λ e. grind (arith, c.load16.ensures)) (λ e. grind (arith, c.load16.ensures)) (omega (arith, c.if-left-self-gt256.false, c.load16-left.ensures)) _ c.join.result c.join.ensures).1.1
