-- The labels around a term: the walk of the term inside them is the walk of the whole, where they are on one value.
-- Assumes nothing.
use mathlib.Core.Path.{◌≡◌, refl, sym, ◌∙◌}
use mathlib.Core.Bool.{true, false, not}
use mathlib.Core.List.{List, [], ◌∷◌}
use Prim.Native.Nat.{ℕ, ◌+◌, ◌≤◌}
use native.Mathlib.Omega.{arith}
use lib.Dec.{eqb}
use lib.ListN.{length, get_or}
use borrow.Author.Tests.{eqb-true, eqb-false, not-true, not-false}
use Rattle.format.specs.declared.values.Label.{Label}
use Rattle.format.specs.declared.refusals.Cause.TheVariants.{GoalCountWrong}
use Rattle.format.specs.Results.{refused}
use Rattle.format.specs.Terms.{Term, atomic, id, label, sequence, tensor, empty, alternation, assert, defined, size, fields}
use Rattle.format.specs.Standing.{Stands}
use Rattle.format.proofs.StandsLaws.{tag_of, known}
use Rattle.format.proofs.ByTag.{by_tag}
use Rattle.hitac.specs.Hiproofs.{atomics}
use Rattle.input_arities.specs.Arities.{arities}
use Rattle.walks.specs.Walks.{Act, on_one_value, walk_of}
use Rattle.walks.specs.Labels.{bare, bare_at, label_count_wrong}

apart : false ≡ true → ⊥
apart e = let z : ◌≡◌ {A = ℕ} 0 1 = cc in omega arith

-- the term inside the labels is no label
pub bare_tag : (t : Term) → tag_of (bare t) ≡ 18 → ⊥
unfolding bare tag_of
bare_tag (atomic a) e = omega (arith, e)
bare_tag id e = omega (arith, e)
bare_tag (label l t) e = bare_tag t e
bare_tag (sequence t u) e = omega (arith, e)
bare_tag (tensor t u) e = omega (arith, e)
bare_tag empty e = omega (arith, e)
bare_tag (alternation t u) e = omega (arith, e)
bare_tag (assert γ) e = omega (arith, e)
bare_tag (defined n) e = omega (arith, e)

-- what passes a label on its way in passes all the labels around a term
pub inside_labels : (P : (at : ℕ) → Term → Type 0) → ((at : ℕ) (l : Label) (t : Term) → P at (label l t) → P (at + 5) t) → (t : Term) (at : ℕ) → P at t → P (bare_at at t) (bare t)
unfolding bare bare_at
inside_labels P f (atomic a) at x = x
inside_labels P f id at x = x
inside_labels P f (label l t) at x = inside_labels P f t (at + 5) (f at l t x)
inside_labels P f (sequence t u) at x = x
inside_labels P f (tensor t u) at x = x
inside_labels P f empty at x = x
inside_labels P f (alternation t u) at x = x
inside_labels P f (assert γ) at x = x
inside_labels P f (defined n) at x = x

pub bare-behind : (t : Term) (at : ℕ) → at ≤ bare_at at t
bare-behind t at = inside_labels (λ i u. at ≤ i) (λ i l u h. omega arith) t at (omega arith)

pub bare_stands : (s : List ℕ) (t : Term) (at : ℕ) → Stands s at t → Stands s (bare_at at t) (bare t)
unfolding Stands
bare_stands s = inside_labels (λ i u. Stands s i u) (λ i l u st. by_label i l u st)
  where
    by_label : (i : ℕ) (l : Label) (u : Term) → Stands s i (label l u) → Stands s (i + 5) u
    by_label i l u st = st.2

-- its end, atomics, fields and arities
pub same_end : (t : Term) (at : ℕ) → bare_at at t + size (bare t) ≡ at + size t
unfolding size
same_end t at = inside_labels (λ i u. i + size u ≡ at + size t) (λ i l u e. by_label i l u e) t at refl
  where
    by_label : (i : ℕ) (l : Label) (u : Term) → i + size (label l u) ≡ at + size t → i + 5 + size u ≡ at + size t
    by_label i l u e = omega (arith, e)

pub same_uses : (t : Term) → atomics (bare t) ≡ atomics t
unfolding atomics
same_uses t = inside_labels (λ i u. atomics u ≡ atomics t) (λ i l u e. by_label l u e) t 0 refl
  where
    by_label : (l : Label) (u : Term) → atomics (label l u) ≡ atomics t → atomics u ≡ atomics t
    by_label l u e = e

pub fewer_fields_lem : (t : Term) → fields (bare t) ≤ fields t
unfolding fields
fewer_fields_lem t = inside_labels (λ i u. fields u ≤ fields t) (λ i l u e. by_label l u e) t 0 (omega arith)
  where
    by_label : (l : Label) (u : Term) → fields (label l u) ≤ fields t → fields u ≤ fields t
    by_label l u e = omega (arith, e)

pub same_arities : (t : Term) (xs : List ℕ) → arities (bare t) xs ≡ arities t xs
unfolding arities
same_arities t xs = inside_labels (λ i u. arities u xs ≡ arities t xs) (λ i l u e. by_label l u e) t 0 refl
  where
    by_label : (l : Label) (u : Term) → arities (label l u) xs ≡ arities t xs → arities u xs ≡ arities t xs
    by_label l u e = e

-- the loop's steps: past a label, and to the end where there is none
module _ (s : List ℕ) (at : ℕ) where
  pub past_label : get_or s at 0 ≡ 18 → (t : Term) → Stands s at t → (u : Term) × Stands s (at + 5) u × (bare_at at t ≡ bare_at (at + 5) u) × (at + 8 ≤ length s)
  unfolding bare_at
  past_label e = by_tag s at (λ t. (u : Term) × Stands s (at + 5) u × (bare_at at t ≡ bare_at (at + 5) u) × (at + 8 ≤ length s)) 18 (λ l u o. (u, o.only, refl, omega (arith, o))) e

  pub no_label : (get_or s at 0 ≡ 18 → ⊥) → (t : Term) → Stands s at t → at ≡ bare_at at t
  unfolding bare_at tag_of
  no_label n (atomic a) st = refl
  no_label n id st = refl
  no_label n (label l t) st = absurd (n (known s at (label l t) st).tag_is)
  no_label n (sequence t u) st = refl
  no_label n (tensor t u) st = refl
  no_label n empty st = refl
  no_label n (alternation t u) st = refl
  no_label n (assert γ) st = refl
  no_label n (defined n₁) st = refl

  -- the test of the count
  pub count_of_label : get_or s at 0 ≡ 18 → (count : ℕ) (t : Term) → Stands s at t → not (eqb count 1) ≡ label_count_wrong t count
  unfolding label_count_wrong
  count_of_label e count = by_tag s at (λ t. not (eqb count 1) ≡ label_count_wrong t count) 18 (λ l u o. refl) e

  pub count_of_other : (get_or s at 0 ≡ 18 → ⊥) → (count : ℕ) (t : Term) → Stands s at t → false ≡ label_count_wrong t count
  unfolding label_count_wrong tag_of
  count_of_other n count (atomic a) st = refl
  count_of_other n count id st = refl
  count_of_other n count (label l t) st = absurd (n (known s at (label l t) st).tag_is)
  count_of_other n count (sequence t u) st = refl
  count_of_other n count (tensor t u) st = refl
  count_of_other n count empty st = refl
  count_of_other n count (alternation t u) st = refl
  count_of_other n count (assert γ) st = refl
  count_of_other n count (defined n₁) st = refl

-- the walk, with the number of values by which the code tests it
module _ {C : Type 0} (act : Act C) (A : List C) where
  on_one : (n : ℕ) (t : Term) (at : ℕ) → walk_of act t at A (n ∷ []) ≡ walk_of act (bare t) (bare_at at t) A (n ∷ [])
  unfolding walk_of on_one_value
  on_one n t at = sym (inside_labels (λ i u. walk_of act u i A (n ∷ []) ≡ walk_of act t at A (n ∷ [])) (λ i l u e. by_label i l u e) t at refl)
    where
      by_label : (i : ℕ) (l : Label) (u : Term) → walk_of act (label l u) i A (n ∷ []) ≡ walk_of act t at A (n ∷ []) → walk_of act u (i + 5) A (n ∷ []) ≡ walk_of act t at A (n ∷ [])
      by_label i l u e = e

  on_label : (ns : List ℕ) (l : Label) (t : Term) (at : ℕ) → length ns ≡ 1 → walk_of act (label l t) at A ns ≡ walk_of act (bare t) (bare_at (at + 5) t) A ns
  unfolding walk_of on_one_value
  on_label [] l t at e = absurd (omega arith)
  on_label (n ∷ []) l t at e = on_one n t (at + 5)
  on_label (n ∷ m ∷ ns) l t at e = absurd (omega arith)

  not_on_label : (ns : List ℕ) (l : Label) (t : Term) (at : ℕ) → (length ns ≡ 1 → ⊥) → walk_of act (label l t) at A ns ≡ refused GoalCountWrong at
  unfolding walk_of on_one_value
  not_on_label [] l t at e = refl
  not_on_label (n ∷ []) l t at e = absurd (e refl)
  not_on_label (n ∷ m ∷ ns) l t at e = refl

  module _ (ns : List ℕ) (count : ℕ) (many : length ns ≡ count) where
    pub bare_walks : (t : Term) (at : ℕ) → label_count_wrong t count ≡ false → walk_of act t at A ns ≡ walk_of act (bare t) (bare_at at t) A ns
    unfolding bare bare_at label_count_wrong
    bare_walks (atomic a) at e = refl
    bare_walks id at e = refl
    bare_walks (label l t) at e = on_label ns l t at (many ∙ eqb-true count 1 (not-false (eqb count 1) e))
    bare_walks (sequence t u) at e = refl
    bare_walks (tensor t u) at e = refl
    bare_walks empty at e = refl
    bare_walks (alternation t u) at e = refl
    bare_walks (assert γ) at e = refl
    bare_walks (defined n) at e = refl

    -- a label on another number of values
    pub label_refused : (t : Term) (at : ℕ) → label_count_wrong t count ≡ true → walk_of act t at A ns ≡ refused GoalCountWrong at
    unfolding label_count_wrong
    label_refused (atomic a) at e = absurd (apart e)
    label_refused id at e = absurd (apart e)
    label_refused (label l t) at e = not_on_label ns l t at (λ h. eqb-false count 1 (not-true (eqb count 1) e) (sym many ∙ h))
    label_refused (sequence t u) at e = absurd (apart e)
    label_refused (tensor t u) at e = absurd (apart e)
    label_refused empty at e = absurd (apart e)
    label_refused (alternation t u) at e = absurd (apart e)
    label_refused (assert γ) at e = absurd (apart e)
    label_refused (defined n) at e = absurd (apart e)
