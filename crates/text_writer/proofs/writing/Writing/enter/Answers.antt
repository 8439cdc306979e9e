-- `Writing::enter` meets its contract: one law for each kind of term.
-- Assumes nothing.
use mathlib.Core.Path.{sym, ◌∙◌}
use native.Mathlib.Omega.{arith}
use Rattle.text_writer.proofs.TurnLaws.{plain_bounds, pair_room, pair_law, label_room, label_law, leaf_room, leaf_law}
use Rattle.text_writer.proofs.writing.Writing.enter.Goals as goal

pub begin_pair-requires : goal.begin_pair-requires
begin_pair-requires c = let p = c.requires in let b = plain_bounds _ _ _ _ p in let m = pair_room _ _ _ _ p (sym c.is_pair.ensures ∙ c.if-is_pair.true) in (omega (arith, b.before, b.file), m.0, m.1)

pub returns-then-is_pair : goal.returns-then-is_pair
returns-then-is_pair c = λ p. pair_law _ _ _ _ p (sym c.is_pair.ensures ∙ c.if-is_pair.true) _ c.begin_pair.ensures.work_after _ c.begin_pair.ensures.value

pub put_label-requires : goal.put_label-requires
put_label-requires c = let p = c.requires in let b = plain_bounds _ _ _ _ p in (label_room _ _ _ _ p c.if-tag-eq-LABEL.true, b.file, b.short, omega (arith, b.room))

pub returns-then-tag-eq-LABEL : goal.returns-then-tag-eq-LABEL
returns-then-tag-eq-LABEL c = λ p. label_law _ _ _ _ p c.if-tag-eq-LABEL.true _ c.put_label.ensures.work_after _ c.put_label.ensures.value

pub put_leaf-requires : goal.put_leaf-requires
put_leaf-requires c = let p = c.requires in let b = plain_bounds _ _ _ _ p in (leaf_room _ _ _ _ p (sym c.is_pair.ensures ∙ c.if-is_pair.false) c.if-tag-eq-LABEL.false, b.file, b.short, omega (arith, b.room))

pub resume-requires : goal.resume-requires
resume-requires c = let p = c.requires in (_, p.whole, p.frames, (leaf_law _ _ _ _ p (sym c.is_pair.ensures ∙ c.if-is_pair.false) c.if-tag-eq-LABEL.false _ c.put_leaf.ensures.work_after _ c.put_leaf.ensures.value).0)

pub returns : goal.returns
returns c = λ p. let l = leaf_law _ _ _ _ p (sym c.is_pair.ensures ∙ c.if-is_pair.false) c.if-tag-eq-LABEL.false _ c.put_leaf.ensures.work_after _ c.put_leaf.ensures.value in let g = c.resume.ensures _ p.whole p.frames l.0 in (g.0, omega (arith, l.1, g.1))
