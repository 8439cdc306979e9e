-- `last_split` meets its contract: back at the choice before it, then the left term.
-- Assumes nothing.
use Rattle.search_machine.proofs.BackLaws.{last_room, last_made}
use Rattle.search_machine.proofs.state.State.last_split.Goals as goal

pub part-requires : goal.part-requires
part-requires c = last_room c.args.work.now c.args.self c.load_node-n.result c.load_node-n.ensures c.return_to-s.result c.requires c.return_to-s.ensures

pub returns : goal.returns
returns c =
    let a = c.args in
    last_made a.work.now a.self c.load_node-n.result c.load_node-n.ensures c.return_to-s.result _ c.part.result c.return_to-s.ensures c.part.ensures.written c.part.ensures.state
