-- `begin_tensor` meets its contract: its field, the splits behind the first one as a choice, then the left term.
-- Assumes nothing.
use Rattle.search_machine.proofs.TensorLaws.{tensor_first, split_place, tensor_part, tensor_last, tensor_more}
use Rattle.search_machine.proofs.state.State.begin_tensor.Goals as goal

pub part-requires : goal.part-requires
part-requires c = let a = c.args in let p = c.requires in tensor_first a.work.now a.self p.0 a.down p.2 a.right p.1 c.note-s.result c.note-s.new.work c.note-s.ensures.state c.note-s.auto.work

pub returns-then-count-eq0 : goal.returns-then-count-eq0
returns-then-count-eq0 c = let a = c.args in let p = c.requires in let r = tensor_last a.work.now a.self p.0 a.down p.2 a.right p.1 c.if-count-eq0.true c.note-s.result c.note-s.new.work _ _ c.note-s.ensures.state c.note-s.ensures.written c.part.ensures.written c.part.ensures.state in record { begun = r.0; stays = r.1 }

pub offer-t-requires : goal.offer-t-requires
offer-t-requires c = let a = c.args in let p = c.requires in split_place a.work.now a.self p.0 a.down p.2 a.right p.1 c.note-s.result c.note-s.new.work c.note-s.ensures.state c.note-s.auto.work

pub part-requires-2 : goal.part-requires-2
part-requires-2 c = let a = c.args in let p = c.requires in tensor_part a.work.now a.self p.0 a.down p.2 a.right p.1 c.if-count-eq0.false c.note-s.result c.offer-t.result c.note-s.new.work c.offer-t.new.work c.note-s.ensures.state c.note-s.ensures.written c.offer-t.ensures.written c.offer-t.ensures.state

pub returns : goal.returns
returns c = let a = c.args in let p = c.requires in let r = tensor_more a.work.now a.self p.0 a.down p.2 a.right p.1 c.if-count-eq0.false c.note-s.result c.offer-t.result c.note-s.new.work c.offer-t.new.work _ _ c.note-s.ensures.state c.note-s.ensures.written c.offer-t.ensures.written c.offer-t.ensures.state c.part-2.ensures.written c.part-2.ensures.state in record { begun = r.0; stays = r.1 }
