-- `Writing::turn` meets its contract: the term needs brackets or not.
-- Assumes nothing.
use mathlib.Core.Path.{refl, sym, ap, ◌∙◌}
use native.Mathlib.Omega.{arith}
use Rattle.text_writer.specs.declared.writing.Writing.{Writing}
use Rattle.text_writer.proofs.TurnLaws.{bounds, bracket_plain, plain_law}
use Rattle.text_writer.proofs.writing.Writing.turn.Goals as goal

pub bounds-s-self : goal.bounds-s-self
bounds-s-self c = let p = c.requires in omega (arith, (bounds _ _ _ _ _ _ _ p.3).inside)

pub open_bracket-requires : goal.open_bracket-requires
open_bracket-requires c = let p = c.requires in let b = bounds _ _ _ _ _ _ _ p.3 in (b.short, omega (arith, b.frames, b.room))

pub enter-requires : goal.enter-requires
enter-requires c = let p = c.requires in bracket_plain _ _ _ _ _ _ p.3 _ refl (sym c.wraps.ensures ∙ c.if-wraps.true) _ c.open_bracket.ensures.work_after _ c.open_bracket.ensures.value

pub returns-then-wraps : goal.returns-then-wraps
returns-then-wraps c = λ whole t fs d. let g = c.enter.ensures (bracket_plain _ whole _ _ t fs d _ refl (sym c.wraps.ensures ∙ c.if-wraps.true) _ c.open_bracket.ensures.work_after _ c.open_bracket.ensures.value) in (g.0, omega (arith, g.1, ap (λ (z : Writing). z.at) c.open_bracket.ensures.value))

pub enter-requires-2 : goal.enter-requires-2
enter-requires-2 c = let p = c.requires in plain_law _ _ _ _ _ _ p.3 _ refl (sym c.wraps.ensures ∙ c.if-wraps.false)

pub returns : goal.returns
returns c = λ whole t fs d. c.enter-2.ensures (plain_law _ whole _ _ t fs d _ refl (sym c.wraps.ensures ∙ c.if-wraps.false))
