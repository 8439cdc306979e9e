-- The forms of a term on goals that lie in bytes: by their number, and by the first of them.
-- Assumes nothing.
use Prim.Native.Nat.{ℕ, zero, suc}
use mathlib.Core.Path.{◌≡◌, refl, sym, ap, subst}
use mathlib.Core.List.{List}
use mathlib.Core.Option.{Option, none, some}
use native.Mathlib.Omega.{arith}
use borrow.Author.Tests.{eq-eqb, ne_eqb}
use Rattle.words.specs.Word.{word}
use Rattle.format.specs.declared.values.Goal.{Goal}
use Rattle.format.specs.Goals.{goals_at}
use Rattle.tables.specs.Tables.{Table}
use Rattle.tables.specs.Lookup.{matches}
use Rattle.evaluation.specs.Outcomes.{on_one, one_goal, no_goal, assert_gives}

-- what the forms on one goal and on none give for the goals in bytes
module _ (w : List ℕ) (at : ℕ) where
  pub one_at : (f : Goal → Option (List Goal)) (γ : Goal) (n : ℕ) → n ≡ 1 → γ.0 ≡ word w at → on_one f (goals_at w at n) ≡ f γ
  unfolding goals_at
  one_at f γ zero e q = absurd (omega arith)
  one_at f γ (suc zero) e q = ap f (λ i. record { 0 = sym q i })
  one_at f γ (suc (suc n)) e q = absurd (omega arith)

  pub not_one_at : (f : Goal → Option (List Goal)) (n : ℕ) → (n ≡ 1 → ⊥) → on_one f (goals_at w at n) ≡ none
  unfolding goals_at
  not_one_at f zero e = refl
  not_one_at f (suc zero) e = absurd (e refl)
  not_one_at f (suc (suc n)) e = refl

  pub same_one : (n : ℕ) → n ≡ 1 → one_goal (goals_at w at n) ≡ some (goals_at w at n)
  unfolding goals_at
  same_one zero e = absurd (omega arith)
  same_one (suc zero) e = refl
  same_one (suc (suc n)) e = absurd (omega arith)

  pub none_at : (n : ℕ) → n ≡ 0 → no_goal (goals_at w at n) ≡ some (goals_at w at n)
  unfolding goals_at
  none_at zero e = refl
  none_at (suc n) e = absurd (omega arith)

  pub not_none_at : (n : ℕ) → (n ≡ 0 → ⊥) → no_goal (goals_at w at n) ≡ none
  unfolding goals_at
  not_none_at zero e = absurd (e refl)
  not_none_at (suc n) e = refl

  pub assert_at : (T : Table) (γ : Goal) (n : ℕ) → n ≡ 1 → word w at ≡ γ.0 → assert_gives T γ (goals_at w at n) ≡ some (goals_at w at n)
  unfolding goals_at matches
  assert_at T γ zero e q = absurd (omega arith)
  assert_at T γ (suc zero) e q = rw (eq-eqb γ.0 (word w at) (sym q))
  assert_at T γ (suc (suc n)) e q = absurd (omega arith)

  pub assert_not_at : (T : Table) (γ : Goal) (n : ℕ) → (word w at ≡ γ.0 → ⊥) → assert_gives T γ (goals_at w at n) ≡ none
  unfolding goals_at matches
  assert_not_at T γ zero q = refl
  assert_not_at T γ (suc zero) q = rw (ne_eqb γ.0 (word w at) (λ e. q (sym e)))
  assert_not_at T γ (suc (suc n)) q = refl

-- what a form gives to goals that have a name, by the goals in bytes
module _ (w : List ℕ) (at n : ℕ) where
  pub by_none : {A B : Type 0} (o : List Goal → Option A) (f : Option A → B) (g : List Goal) → goals_at w at n ≡ g → o (goals_at w at n) ≡ none → f (o g) ≡ f none
  by_none o f g h e = ap f (subst (λ (x : List Goal). o x ≡ none) h e)

  pub by_same : {B : Type 0} (o : List Goal → Option (List Goal)) (f : Option (List Goal) → B) (g : List Goal) → goals_at w at n ≡ g → o (goals_at w at n) ≡ some (goals_at w at n) → f (o g) ≡ f (some g)
  by_same o f g h e = ap f (subst (λ (x : List Goal). o x ≡ some x) h e)
