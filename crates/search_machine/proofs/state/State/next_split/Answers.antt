-- `next_split` meets its contract: the choice with one goal more on the left, then the left term.
-- Assumes nothing.
use mathlib.Core.Path.{ap}
use native.Mathlib.Omega.{arith}
use Rattle.search_machine.specs.declared.nodes.Node.{Node}
use Rattle.search_machine.proofs.BackLaws.{next_room, next_made}
use Rattle.search_machine.proofs.state.State.next_split.Goals as goal

pub overflow_sub-n : goal.overflow_sub-n
overflow_sub-n c = omega (arith, ap (λ (n : Node). n.count) c.load_node-n.ensures, c.requires.1)

pub overflow_cast-n : goal.overflow_cast-n
overflow_cast-n c = omega (arith, ap (λ (n : Node). n.count) c.load_node-n.ensures, c.requires.0.few)

pub overflow_add-n : goal.overflow_add-n
overflow_add-n c = omega (arith, ap (λ (n : Node). n.left) c.load_node-n.ensures, c.requires.0.few)

pub overflow_cast-n-2 : goal.overflow_cast-n-2
overflow_cast-n-2 c = omega (arith, ap (λ (n : Node). n.left) c.load_node-n.ensures, c.requires.0.few)

pub part-requires : goal.part-requires
part-requires c = next_room c.args.work.now c.args.self c.load_node-n.result c.load_node-n.ensures c.return_to-s.result c.store16.new.s c.store16-2.new.s c.store16.ensures c.store16-2.ensures c.return_to-s.ensures c.requires.0

pub returns : goal.returns
returns c =
    let a = c.args in
    next_made a.work.now a.self c.load_node-n.result c.load_node-n.ensures c.return_to-s.result c.store16.new.s c.store16-2.new.s c.store16.ensures c.store16-2.ensures c.return_to-s.ensures _ c.part.result c.part.ensures.written c.part.ensures.state
