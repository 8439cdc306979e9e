-- `input_arities::list_one` meets its contract: a tensor's left arity is listed, and nothing of another field.
-- Assumes nothing.
use mathlib.Core.Path.{ap, ◌∙◌}
use Prim.Native.Nat.{ℕ}
use native.Mathlib.Omega.{arith}
use Rattle.words.specs.Word.{put_word}
use Rattle.format.proofs.StandsLaws.{known}
use Rattle.input_arities.proofs.ListLaws.{one_other, left_of_lem, one_tensor}
use Rattle.input_arities.proofs.list_one.Goals as goal

pub bounds-s-at : goal.bounds-s-at
bounds-s-at c = omega (arith, known _ _ _ c.requires.2.stands)

pub returns-then-s-at-ne-TENSOR : goal.returns-then-s-at-ne-TENSOR
returns-then-s-at-ne-TENSOR c = λ t g x. one_other _ _ _ _ c.if-s-at-ne-TENSOR.true t g x

pub noted-left-requires : goal.noted-left-requires
noted-left-requires c = omega (arith, (left_of_lem _ _ _ _ c.if-s-at-ne-TENSOR.false _ _ c.requires.2).inside, c.requires.2.space)

pub overflow_cast-left : goal.overflow_cast-left
overflow_cast-left c = omega (arith, c.noted-left.ensures, (left_of_lem _ _ _ _ c.if-s-at-ne-TENSOR.false _ _ c.requires.2).small, c.requires.2.small)

pub store16-requires : goal.store16-requires
store16-requires c = omega (arith, (left_of_lem _ _ _ _ c.if-s-at-ne-TENSOR.false _ _ c.requires.2).next_inside, c.requires.2.space)

pub returns : goal.returns
returns c = λ t g x. one_tensor _ _ _ _ c.if-s-at-ne-TENSOR.false _ (c.store16.ensures ∙ ap (λ (k : ℕ). put_word c.args.work.now c.args.next k) c.noted-left.ensures) t g x
