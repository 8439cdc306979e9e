-- `seen::mark_of` meets its contract, by the number.
-- Assumes nothing.
use mathlib.Core.Path.{sym, ap, ◌∙◌}
use Prim.Native.Nat.{ℕ, ◌/◌}
use native.Mathlib.Omega.{arith}
use Rattle.seen.proofs.SeenLaws.{mark_nine, mark_seven}
use Rattle.seen.proofs.mark_of.Goals as goal

pub returns-in-Label : goal.returns-in-Label
returns-in-Label c = sym (mark_nine _ _ _ c.in-Label.is)

pub overflow_cast-result : goal.overflow_cast-result
overflow_cast-result c = omega (arith, c.load16.ensures, c.requires.1.fits, mark_seven c.args.kind c.args.s.now c.args.at c.in_default.not-Label)

pub returns-in_default : goal.returns-in_default
returns-in_default c = ap (λ (k : ℕ). k / 2) c.load16.ensures ∙ sym (mark_seven _ _ _ c.in_default.not-Label)
