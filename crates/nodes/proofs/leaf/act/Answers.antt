-- `leaf::act` meets its contract: the tag says which term it is.
-- Assumes nothing.
use native.Mathlib.Omega.{arith}
use Rattle.words.proofs.KeptLaws.{kept_same}
use Rattle.format.proofs.StandsLaws.{known}
use Rattle.nodes.proofs.LeafLaws.{other_refused, some_atomic, some_id, atomic_takes, id_takes, empty_takes}
use Rattle.nodes.proofs.leaf.act.Goals as goal

pub bounds-proof-at : goal.bounds-proof-at
bounds-proof-at c = omega (arith, (known _ _ _ c.requires.0.3).inside, (known _ _ _ c.requires.0.3).three)

pub use_rule-requires : goal.use_rule-requires
use_rule-requires c =
    let a = some_atomic c.requires.0.0 _ _ _ _ _ c.in-16.is c.requires.0.1 c.requires.0.3 c.requires.0.4 c.requires.0.5 in
    ((c.requires.0.0, c.requires.0.2), c.requires.1, a.inside, a.room, a.node_room)

pub returns-in-16 : goal.returns-in-16
returns-in-16 c =
    let u = c.use_rule.ensures in
    (u.0, u.1, λ T t ts st. atomic_takes T _ _ _ _ _ _ _ _ c.in-16.is (u.2 T ts) t st)

pub keep_node-requires : goal.keep_node-requires
keep_node-requires c = some_id c.requires.0.0 _ _ _ c.args.next _ c.in-17.is c.requires.0.1 c.requires.0.3 c.requires.0.4

pub returns-in-17 : goal.returns-in-17
returns-in-17 c = (_, kept_same _ _ _, λ T t ts st. id_takes T _ _ _ _ _ _ _ _ c.in-17.is (c.keep_node.ensures T _) t st)

pub returns-in-21 : goal.returns-in-21
returns-in-21 c = (_, kept_same _ _ _, λ T t ts st. empty_takes T _ _ _ _ _ _ _ _ c.in-21.is (c.take_nothing.ensures T _ _) t st)

pub returns-in_default : goal.returns-in_default
returns-in_default c = (_, kept_same _ _ _, λ T t ts st. other_refused T _ _ _ _ _ (λ e. omega arith) (λ e. omega arith) (λ e. omega arith) c.requires.2 t st)
