-- `entry::write_found` meets its contract: the text is in the work space before the output space is touched.
-- Assumes nothing.
use mathlib.Core.Path.{ap, ◌∙◌}
use native.Mathlib.Omega.{arith}
use Rattle.format.specs.Refusals.{number}
use Rattle.notation.specs.Written.{written}
use Rattle.entries.specs.LentSpace.{Written}
use Rattle.entries.proofs.LeftLaws.{no_room}
use Rattle.text_writer.proofs.EntryLaws.{text_few, copied}
use Rattle.text_writer.proofs.entry.write_found.Goals as goal

pub returns-then-out-len : goal.returns-then-out-len
unfolding number
returns-then-out-len c =
    let o = c.args.out.now in
    let l = c.if-out-len.true in record { answer = (λ t st. c.refused.ensures ∙ ap (λ (x : Written). x.answer) (no_room (written t) 0 o (omega (arith, (c.write_term-len.ensures t st).0, l)))); out = (λ t st. ap (λ (x : Written). x.out) (no_room (written t) 0 o (omega (arith, (c.write_term-len.ensures t st).0, l)))) }

pub copy_in-requires : goal.copy_in-requires
copy_in-requires c =
    let p = c.requires in
    (omega (arith, (c.write_term-len.ensures p.1.0 p.1.1).0, text_few _ p.1.0 p.1.1, c.write_term-len.auto.work, p.0), omega (arith, c.if-out-len.false))

pub wrote-requires : goal.wrote-requires
wrote-requires c = let p = c.requires in (omega (arith, (c.write_term-len.ensures p.1.0 p.1.1).0, text_few _ p.1.0 p.1.1), omega arith)

pub returns : goal.returns
returns c =
    let o = c.args.out.now in
    let l = c.if-out-len.false in
    record { answer = (λ t st. c.wrote.ensures ∙ ap (λ (x : Written). x.answer) (copied _ o _ (written t) (c.write_term-len.ensures t st) l)); out = (λ t st. c.copy_in.ensures ∙ ap (λ (x : Written). x.out) (copied _ o _ (written t) (c.write_term-len.ensures t st) l)) }
