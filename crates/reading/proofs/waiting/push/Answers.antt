-- `push` meets its contract: the two values are stored behind one another.
-- Assumes nothing.
use mathlib.Core.Path.{ap, ◌∙◌}
use mathlib.Core.List.{List}
use Prim.Native.Nat.{ℕ, ◌+◌}
use Rattle.words.specs.Word.{put_word}
use Rattle.reading.specs.Waiting.{put_waiting}
use Rattle.reading.proofs.waiting.push.Goals as goal

pub shape_of-work : goal.shape_of-work
shape_of-work c = c.store16-2.auto.s ∙ c.store16.auto.s

pub returns : goal.returns
unfolding put_waiting
returns c = c.store16-2.ensures ∙ ap (λ (w : List ℕ). put_word w (c.args.low + 2) c.args.left) c.store16.ensures
