-- `term::reduces_more` meets its contract: the frame at the place says whether it is a sign that binds as tight.
-- Assumes nothing.
use mathlib.Core.Path.{refl, ap, ◌∙◌}
use lib.Dec.{leb}
use native.Mathlib.Omega.{arith}
use Rattle.text_reader.proofs.StoreLaws.{reduced_none, reduced_bracket, reduced_sign}
use Rattle.text_reader.proofs.term.reduces_more.Goals as goal

pub returns-then-low-ge-FRAMES_END : goal.returns-then-low-ge-FRAMES_END
returns-then-low-ge-FRAMES_END c = λ total fs st. reduced_none _ total _ _ fs st c.if-low-ge-FRAMES_END.true

pub returns-in-0 : goal.returns-in-0
returns-in-0 c = λ total fs st. reduced_bracket _ total _ _ _ fs st refl c.in-0.is

pub returns-in_default : goal.returns-in_default
returns-in_default c = λ total fs st. ap (leb _) c.rank_of.ensures.value ∙ reduced_sign _ total _ _ _ fs st c.if-low-ge-FRAMES_END.false refl (λ z. omega (arith, z))
