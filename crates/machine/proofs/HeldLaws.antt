-- A finished term by the fields that are held with it: it leaves its field, or ends the run.
-- Assumes nothing.
use Prim.Native.Nat.{ℕ, ◌+◌, ◌≤◌, ◌<◌}
use mathlib.Core.Path.{◌≡◌, ap}
use mathlib.Core.Bool.{Bool, cond}
use mathlib.Core.List.{List}
use borrow.Author.Tests.{le-leb, lt-leb}
use Rattle.format.specs.declared.values.Goal.{Goal}
use Rattle.format.specs.Limits.{most_held}
use Rattle.format.specs.declared.refusals.Cause.TheVariants.{FieldsTooMany}
use Rattle.format.specs.Terms.{Term, fields}
use Rattle.evaluation.specs.Outcomes.{proved, ended, within}

pub within-fits : (outside : ℕ) (p : Term) (g : List Goal) → outside + fields p ≤ most_held → within outside p g ≡ proved p g
within-fits outside p g h = ap (λ (b : Bool). cond b (proved p g) (ended FieldsTooMany)) (le-leb (outside + fields p) most_held h)

pub within_over : (outside : ℕ) (p : Term) (g : List Goal) → most_held < outside + fields p → within outside p g ≡ ended FieldsTooMany
within_over outside p g h = ap (λ (b : Bool). cond b (proved p g) (ended FieldsTooMany)) (lt-leb (outside + fields p) most_held h)
