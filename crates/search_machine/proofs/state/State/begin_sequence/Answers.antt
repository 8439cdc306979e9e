-- `begin_sequence` meets its contract: its field and a node, then the left term.
-- Assumes nothing.
use Rattle.search_machine.proofs.BeginLaws.{sequence_again, sequence_place}
use Rattle.search_machine.proofs.state.State.begin_sequence.Goals as goal

pub push-t-requires : goal.push-t-requires
push-t-requires c = let a = c.args in let p = c.requires in sequence_place a.work.now a.self p.0 a.down p.2 a.right p.1 c.note-s.result c.note-s.new.work c.note-s.ensures.state c.note-s.auto.work

pub returns : goal.returns
returns c = let a = c.args in let p = c.requires in let r = sequence_again a.work.now a.self p.0 a.down p.2 a.right c.note-s.result c.push-t.result c.note-s.new.work c.push-t.new.work _ c.note-s.ensures.state c.note-s.ensures.written c.push-t.ensures.written c.push-t.ensures.state c.enter.ensures in record { begun = r.0; stays = r.1 }
