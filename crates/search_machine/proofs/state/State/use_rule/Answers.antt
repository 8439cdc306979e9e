-- `use_rule` meets its contract: the premises copied, then the field.
-- Assumes nothing.
use Rattle.search_machine.proofs.BeginLaws.{use_does, use_room}
use Rattle.search_machine.proofs.state.State.use_rule.Goals as goal

pub leaf-requires : goal.leaf-requires
leaf-requires c = let a = c.args in let p = c.requires in use_room a.work.now a.self p.0 a.table.now a.rule.place a.rule.count p.1 p.2 c.hold-s.result c.copy_in.new.dst c.hold-s.ensures c.copy_in.auto.dst

pub returns : goal.returns
returns c = let a = c.args in let p = c.requires in let r = use_does a.work.now a.self p.0 a.table.now a.rule.place a.rule.count p.1 p.2 a.name.0 c.hold-s.result c.copy_in.new.dst _ _ c.hold-s.ensures c.copy_in.ensures c.leaf.ensures.written c.leaf.ensures.state in record { begun = r.0; stays = r.1 }
