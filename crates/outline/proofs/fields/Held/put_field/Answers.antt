-- `fields::Held::put_field` meets its contract: one law for each kind of field, known by its tag.
-- Assumes nothing.
use native.Mathlib.Omega.{arith}
use Rattle.outline.proofs.HeldLaws.{bounds}
use Rattle.outline.proofs.TagLaws.{is_atomic, is_label, is_pair, is_plain}
use Rattle.outline.proofs.PutLaws.{plain_done, atomic_done, label_done, pair-done, plain_around, atomic_around, label_around, pair_around, label_small, pair_small}
use Rattle.outline.proofs.fields.Held.put_field.Goals as goal

pub put_atomic-requires : goal.put_atomic-requires
put_atomic-requires c =
    let g = c.requires.2 in
    let r = bounds _ _ _ _ _ _ _ g in
    (omega (arith, r.before), omega (arith, r.within, g.inside), omega (arith, r.below), omega (arith, r.under, g.room, g.inside))

pub returns-in-16-clause-shown : goal.returns-in-16-clause-shown
returns-in-16-clause-shown c =
    let e = c.put_atomic.ensures in
    λ count end g ts x. atomic_done _ _ _ _ _ _ _ g _ _ ts _ _ _ (is_atomic _ _ _ g.more x c.in-16.is) c.load16.ensures e.written e.held.0 e.held.1 e.held.2

pub returns-in-16-clause-around : goal.returns-in-16-clause-around
returns-in-16-clause-around c =
    let e = c.put_atomic.ensures in
    (omega (arith, e.held.0), atomic_around _ _ _ _ _ _ _ c.requires.2 _ _ _ _ e.written e.held.0 e.held.1)

pub put_label-requires : goal.put_label-requires
put_label-requires c =
    let g = c.requires.2 in
    let r = bounds _ _ _ _ _ _ _ g in
    (omega (arith, r.before), omega (arith, r.within, g.inside), label_small _ _ _ _ _ _ _ g _ (is_label _ _ _ g.more g.built c.in-18.is))

pub returns-in-18-clause-shown : goal.returns-in-18-clause-shown
returns-in-18-clause-shown c =
    let e = c.put_label.ensures in
    λ count end g ts x. label_done _ _ _ _ _ _ _ g _ _ ts _ _ _ (is_label _ _ _ g.more x c.in-18.is) c.load16-in-18.ensures e.written e.held.0 e.held.1 e.held.2

pub returns-in-18-clause-around : goal.returns-in-18-clause-around
returns-in-18-clause-around c =
    let e = c.put_label.ensures in
    (omega (arith, e.held.0), label_around _ _ _ _ _ _ _ c.requires.2 _ _ _ _ e.written e.held.0)

pub put_pair-requires : goal.put_pair-requires
put_pair-requires c =
    let g = c.requires.2 in
    let r = bounds _ _ _ _ _ _ _ g in
    let k = pair_small _ _ _ _ _ _ _ g _ (is_pair _ _ _ g.more g.built (omega arith) (omega arith)) in
    (omega (arith, r.before), omega (arith, r.within, g.inside), omega (arith, k.1, g.room, g.inside), k.0)

pub returns-in-19-clause-shown : goal.returns-in-19-clause-shown
returns-in-19-clause-shown c =
    let e = c.put_pair.ensures in
    λ count end g ts x. pair-done _ _ _ _ _ _ _ g _ _ ts _ _ _ (is_pair _ _ _ g.more x (omega arith) (omega arith)) e.written e.held.0 e.held.1 e.held.2

pub returns-in-19-clause-around : goal.returns-in-19-clause-around
returns-in-19-clause-around c =
    let e = c.put_pair.ensures in
    (omega (arith, e.held.0), pair_around _ _ _ _ _ _ _ c.requires.2 _ _ _ _ e.written e.held.0)

pub put_plain-requires : goal.put_plain-requires
put_plain-requires c =
    let g = c.requires.2 in
    let r = bounds _ _ _ _ _ _ _ g in
    (omega (arith, r.before), omega (arith, r.within, g.inside), omega (arith, r.below), omega (arith, r.under, g.room, g.inside))

pub returns-in_default-clause-shown : goal.returns-in_default-clause-shown
returns-in_default-clause-shown c =
    let e = c.put_plain.ensures in
    λ count end g ts x. plain_done _ _ _ _ _ _ _ g _ _ ts _ _ _ (is_plain _ _ _ g.more x (λ e. grind arith) (λ e. grind arith) (λ e. grind arith) (λ e. grind arith)) e.written e.held.0 e.held.1 e.held.2

pub returns-in_default-clause-around : goal.returns-in_default-clause-around
returns-in_default-clause-around c =
    let e = c.put_plain.ensures in
    (omega (arith, e.held.0), plain_around _ _ _ _ _ _ _ c.requires.2 _ _ _ _ e.written e.held.0 e.held.1)
