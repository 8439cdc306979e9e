-- `input_arities::arity_of` meets its contract: the tag says which term it is, and what is noted of its inner terms is their arity.
-- Assumes nothing.
use Rattle.std.proofs.Common.{◌≡◌, ℕ, ◌+◌, ◌<◌, sym, subst, ap₂, ◌∙◌, arith}
use Rattle.format.proofs.StandsLaws.{known}
use Rattle.input_arities.specs.Threads.{slot}
use Rattle.input_arities.proofs.ThreadLaws.{inner_sequence, inner_tensor, arity_le, arity_sequence, arity_tensor, arity_one, arity_none}
use Rattle.input_arities.proofs.arity_of.Goals as goal

next_room : (a b : ℕ) {n : ℕ} → a ≡ b → slot b + 1 < n → slot a + 1 < n
next_room a b {n} e h = subst (λ (k : ℕ). slot k + 1 < n) (sym e) h

pub bounds-s-at : goal.bounds-s-at
bounds-s-at c = omega (arith, known _ _ _ c.requires.2)

pub noted-requires : goal.noted-requires
noted-requires c = omega (arith, (inner_sequence _ _ c.in-19.is _ c.requires.2).left, c.requires.4)

pub noted-requires-in-20 : goal.noted-requires-in-20
noted-requires-in-20 c = omega (arith, (inner_tensor _ _ c.in-20.is _ c.requires.2).left, c.requires.4)

pub second_at-requires : goal.second_at-requires
second_at-requires c = omega (arith, (inner_tensor _ _ c.in-20.is _ c.requires.2).six)

pub noted-requires-in-20-2 : goal.noted-requires-in-20-2
noted-requires-in-20-2 c = next_room _ _ c.second_at.ensures (omega (arith, (inner_tensor _ _ c.in-20.is _ c.requires.2).right, c.requires.4))

pub overflow_add-result : goal.overflow_add-result
overflow_add-result c =
    let e = arity_tensor _ _ _ c.in-20.is _ c.second_at.ensures c.requires.0 c.requires.1 c.requires.2 c.requires.3 in
    omega (arith, e, c.noted-in-20.ensures, c.noted-in-20-2.ensures, arity_le c.requires.0, c.requires.5)

pub returns-in-16 : goal.returns-in-16
returns-in-16 c = λ t g st x. arity_one _ _ (omega arith) t st

pub returns-in-19 : goal.returns-in-19
returns-in-19 c = λ t g st x. c.noted.ensures ∙ arity_sequence _ _ _ c.in-19.is t g st x

pub returns-in-20 : goal.returns-in-20
returns-in-20 c = λ t g st x. ap₂ (λ (a b : ℕ). a + b) c.noted-in-20.ensures c.noted-in-20-2.ensures ∙ arity_tensor _ _ _ c.in-20.is _ c.second_at.ensures t g st x

pub returns-in_default : goal.returns-in_default
returns-in_default c = λ t g st x. arity_none _ _ (λ e. omega arith) t st

pub returns-in_default-2 : goal.returns-in_default-2
returns-in_default-2 c = λ t g st x. arity_none _ _ (λ e. omega arith) t st
