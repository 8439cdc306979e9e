-- `Writing::close_brackets` meets its contract: every turn of the loop closes the bracket on top. The invariant: for every file, text and frames that follow at first, some of the frames follow now.
-- Assumes nothing.
use mathlib.Core.Path.{refl, ap, sym, subst, ◌∙◌}
use native.Mathlib.Omega.{arith}
use Rattle.text_writer.specs.declared.writing.Writing.{Writing}
use Rattle.text_writer.specs.Writing.{Settled}
use Rattle.text_writer.proofs.ResumeLaws.{rest_bounds, settled-start, settled_top, settled_next}
use Rattle.text_writer.proofs.writing.Writing.close_brackets.Goals as goal

pub loop-work-init : goal.loop-work-init
loop-work-init c = (refl, λ s whole fs r. settled-start s whole _ _ fs r _ refl)

pub bracket_on_top-requires : goal.bracket_on_top-requires
bracket_on_top-requires c = let p = c.requires in let k = c.loop-work.invariant.1 p.0 p.1 p.2 p.3 in (rest_bounds _ _ _ _ _ k.rests).frames

pub close_bracket-y-requires : goal.close_bracket-y-requires
close_bracket-y-requires c = let p = c.requires in let k = c.loop-work.invariant.1 p.0 p.1 p.2 p.3 in let b = rest_bounds _ _ _ _ _ k.rests in (b.short, omega (arith, b.room), settled_top _ _ _ _ _ _ k (sym c.loop-work-test.ensures))

pub loop-work-smaller : goal.loop-work-smaller
loop-work-smaller c = let p = c.requires in let k = c.loop-work.invariant.1 p.0 p.1 p.2 p.3 in omega (arith, settled_top _ _ _ _ _ _ k (sym c.loop-work-test.ensures), ap (λ (z : Writing). z.top) c.close_bracket-y.ensures.value)

pub loop-work-preserved : goal.loop-work-preserved
loop-work-preserved c = (c.close_bracket-y.auto.work ∙ c.loop-work.invariant.0, λ s whole fs r. settled_next s whole _ _ _ _ (c.loop-work.invariant.1 s whole fs r) (sym c.loop-work-test.ensures) _ c.close_bracket-y.ensures.work_after _ c.close_bracket-y.ensures.value _ refl)

pub returns : goal.returns
returns c = λ s whole fs r. subst (Settled s whole _ _ _) (sym c.loop-work-test.ensures) (c.loop-work.invariant.1 s whole fs r)
