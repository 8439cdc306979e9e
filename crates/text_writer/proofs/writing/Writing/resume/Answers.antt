-- `Writing::resume` meets its contract: behind the brackets the stack is empty, or a pair stands on top.
-- Assumes nothing.
use Rattle.text_writer.proofs.ResumeLaws.{rest_bounds, ends_law, pair_sign_room, right_law, not_zero}
use Rattle.text_writer.proofs.writing.Writing.resume.Goals as goal

pub returns-then-y-eq0 : goal.returns-then-y-eq0
returns-then-y-eq0 c = λ s whole fs r. ends_law s whole _ _ _ (c.close_brackets-y.ensures s whole fs r) c.if-y-eq0.true

pub take_up-requires : goal.take_up-requires
take_up-requires c = let p = c.requires in let k = c.close_brackets-y.ensures p.0 p.1 p.2 p.3 in let b = rest_bounds _ _ _ _ _ k.rests in let n = not_zero c.if-y-eq0.false in (pair_sign_room _ _ _ _ _ k n, b.frames, n)

pub returns : goal.returns
returns c = λ s whole fs r. right_law s whole _ _ _ (c.close_brackets-y.ensures s whole fs r) (not_zero c.if-y-eq0.false) _ c.take_up.ensures.work_after _ c.take_up.ensures.value
