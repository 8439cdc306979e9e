-- The arity of a term that stands in a file, by its tag: what the code finds for the inner terms makes it up.
-- Assumes nothing.
use Prim.Native.Nat.{ℕ, ◌+◌, ◌≤◌}
use mathlib.Core.Path.{◌≡◌, refl, sym, ap, subst, ◌∙◌}
use mathlib.Core.List.{List}
use mathlib.Core.Option.{Option}
use native.Mathlib.Omega.{arith}
use lib.ListN.{length, get_or}
use Rattle.words.specs.Word.{word}
use Rattle.format.specs.declared.values.TacticNo.{TacticNo}
use Rattle.format.specs.Values.{tactic_no}
use Rattle.format.specs.Terms.{Term, atomic, id, label, sequence, tensor, empty, alternation, assert, defined, size}
use Rattle.format.specs.Standing.{Stands}
use Rattle.format.proofs.StandsLaws.{tag_of, known}
use Rattle.format.proofs.ByTag.{Two, by_tag}
use Rattle.evaluation.specs.TacticArity.{sum_arity, common_arity, arity_in}
use Rattle.arities.specs.Arities.{arity_code, Pair}

module _ (src : List ℕ) (at : ℕ) where
  -- the inner terms of a sequence, of a tensor and of an alternation
  abbrev pub Inner : Type 0
  Inner = (t : Term) × (u : Term) × Pair src at t u

  pub pair_of : (t u : Term) → Two src at t u → Pair src at t u
  pair_of t u w = (w.first, subst (λ (i : ℕ). Stands src i u) w.behind w.second)

  module _ (t : Term) (st : Stands src at t) where
    pub inner_19 : get_or src at 0 ≡ 19 → Inner
    inner_19 e = by_tag src at (λ x. Inner) 19 (λ a b w. (a, b, pair_of a b w)) e t st

    pub inner_20 : get_or src at 0 ≡ 20 → Inner
    inner_20 e = by_tag src at (λ x. Inner) 20 (λ a b w. (a, b, pair_of a b w)) e t st

    pub inner_22 : get_or src at 0 ≡ 22 → Inner
    inner_22 e = by_tag src at (λ x. Inner) 22 (λ a b w. (a, b, pair_of a b w)) e t st

    pub five_24 : get_or src at 0 ≡ 24 → at + 5 ≤ length src
    five_24 e = by_tag src at (λ x. at + 5 ≤ length src) 24 (λ d v. v.inside) e t st

  -- where the second of them stands
  pub right_place : (t u : Term) → Pair src at t u → (at + 6 + word src (at + 4) ≡ at + 3 + size t) × (at + 9 + word src (at + 4) ≤ length src)
  right_place t u p =
      let k = known src (at + 3) t p.0 in
      let l = known src (at + 3 + size t) u p.1 in
      let e : at + 3 + 1 ≡ at + 4 = omega arith in
      let f : 3 + word src (at + 4) ≡ size t = ap (λ (j : ℕ). 3 + word src j) (sym e) ∙ k.length_is in
      (omega (arith, f), omega (arith, f, l.inside, l.three))

  module _ (given : TacticNo → Option ℕ) (t : Term) (st : Stands src at t) where
    pub arity_21 : get_or src at 0 ≡ 21 → 1 ≡ arity_code (arity_in given t)
    unfolding arity_in
    arity_21 e = by_tag src at (λ x. 1 ≡ arity_code (arity_in given x)) 21 refl e t st

    pub arity_24 : get_or src at 0 ≡ 24 → (n number : ℕ) → number ≡ word src (at + 3) → n ≡ arity_code (given (tactic_no number)) → n ≡ arity_code (arity_in given t)
    unfolding arity_in
    arity_24 e n number m q = by_tag src at (λ x. n ≡ arity_code (arity_in given x)) 24 (λ d v. q ∙ ap (λ (x : ℕ). arity_code (given (tactic_no x))) (m ∙ v.value_is)) e t st

    pub arity_19 : get_or src at 0 ≡ 19 → (n : ℕ) → ((u : Term) → Stands src (at + 3) u → n ≡ arity_code (arity_in given u)) → n ≡ arity_code (arity_in given t)
    unfolding arity_in
    arity_19 e n q = by_tag src at (λ x. n ≡ arity_code (arity_in given x)) 19 (λ a b w. q a w.first) e t st

    module _ (l r x n : ℕ) (p : (u : Term) → Stands src (at + 3) u → l ≡ arity_code (arity_in given u)) (z : (a b : Term) → Pair src at a b → x ≡ at + 3 + size a) (q : (u : Term) → Stands src x u → r ≡ arity_code (arity_in given u)) where
      -- of both inner terms
      both : (f : Option ℕ → Option ℕ → Option ℕ) → ((a b : Option ℕ) → l ≡ arity_code a → r ≡ arity_code b → n ≡ arity_code (f a b))
          → (a b : Term) → Pair src at a b → n ≡ arity_code (f (arity_in given a) (arity_in given b))
      both f g a b h = g (arity_in given a) (arity_in given b) (p a h.0) (q b (subst (λ (y : ℕ). Stands src y b) (sym (z a b h)) h.1))

      pub arity_20 : get_or src at 0 ≡ 20 → ((a b : Option ℕ) → l ≡ arity_code a → r ≡ arity_code b → n ≡ arity_code (sum_arity a b)) → n ≡ arity_code (arity_in given t)
      unfolding arity_in
      arity_20 e f = by_tag src at (λ y. n ≡ arity_code (arity_in given y)) 20 (λ a b w. both sum_arity f a b (pair_of a b w)) e t st

      pub arity_22 : get_or src at 0 ≡ 22 → ((a b : Option ℕ) → l ≡ arity_code a → r ≡ arity_code b → n ≡ arity_code (common_arity a b)) → n ≡ arity_code (arity_in given t)
      unfolding arity_in
      arity_22 e f = by_tag src at (λ y. n ≡ arity_code (arity_in given y)) 22 (λ a b w. both common_arity f a b (pair_of a b w)) e t st

    pub arity_one : (get_or src at 0 ≡ 21 → ⊥) → (get_or src at 0 ≡ 24 → ⊥) → (get_or src at 0 ≡ 19 → ⊥) → (get_or src at 0 ≡ 20 → ⊥) → (get_or src at 0 ≡ 22 → ⊥) → 2 ≡ arity_code (arity_in given t)
    unfolding arity_in tag_of
    arity_one n₁ n₂ n₃ n₄ n₅ = go t (known src at t st).tag_is
      where
        go : (x : Term) → get_or src at 0 ≡ tag_of x → 2 ≡ arity_code (arity_in given x)
        go (atomic a) e = refl
        go id e = refl
        go (label l u) e = refl
        go (sequence a b) e = absurd (n₃ e)
        go (tensor a b) e = absurd (n₄ e)
        go empty e = absurd (n₁ e)
        go (alternation a b) e = absurd (n₅ e)
        go (assert γ) e = refl
        go (defined d) e = absurd (n₂ e)
