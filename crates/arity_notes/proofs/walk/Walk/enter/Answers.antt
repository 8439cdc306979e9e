-- `enter` meets its contract: the mark, then what waits.
-- Assumes nothing.
use Prim.Native.Nat.{ℕ}
use mathlib.Core.Path.{ap, ◌∙◌}
use mathlib.Core.List.{List}
use Rattle.tactics.specs.Numbers.{put_header}
use Rattle.arity_notes.proofs.walk.Walk.enter.Goals as goal

pub returns : goal.returns
returns c = record { written = c.wait.ensures.written ∙ ap (λ (y : List ℕ). put_header y c.args.self.top 5 c.args.number.0) c.store16.ensures; next = c.wait.ensures.next }
