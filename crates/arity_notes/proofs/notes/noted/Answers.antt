-- `notes::noted` meets its contract: the place that it computes is the slot.
-- Assumes nothing.
use Prim.Native.Nat.{ℕ, ◌+◌}
use mathlib.Core.Path.{ap, ◌∙◌}
use native.Mathlib.Omega.{arith}
use Rattle.words.specs.Word.{word}
use Rattle.input_arities.specs.Threads.{slot}
use Rattle.arity_notes.proofs.NoteLaws.{notes_place, slot_inside}
use Rattle.arity_notes.proofs.notes.noted.Goals as goal

pub overflow_add-base : goal.overflow_add-base
overflow_add-base c = omega (arith, c.requires, c.notes_of-base.ensures, notes_place c.args.file)

pub load16-requires : goal.load16-requires
unfolding slot
load16-requires c = omega (arith, c.requires.0, c.requires.1, c.notes_of-base.ensures, (notes_place c.args.file).1, slot_inside c.args.right (omega (arith, c.requires.0)))

pub returns : goal.returns
unfolding slot
returns c = c.load16.ensures ∙ ap (λ (b : ℕ). word c.args.work.now (b + slot c.args.right)) c.notes_of-base.ensures
