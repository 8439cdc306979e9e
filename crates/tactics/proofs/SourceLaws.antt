-- A term where it stands: in which file, how many bytes it has at least, and its inner terms where it has two, by its tag.
-- Assumes nothing.
use Prim.Native.Nat.{ℕ, ◌+◌, ◌≤◌, ◌<◌}
use mathlib.Core.Path.{◌≡◌, refl, sym, ap, subst, ◌∙◌}
use mathlib.Core.Bool.{Bool, true, false, cond}
use mathlib.Core.List.{List}
use native.Mathlib.Omega.{arith}
use lib.Dec.{eqb}
use lib.ListN.{length, get_or}
use borrow.Author.Tests.{eq-eqb, ne_eqb}
use Rattle.format.specs.Terms.{Term, atomic, id, label, sequence, tensor, empty, alternation, assert, defined, size}
use Rattle.format.specs.Standing.{Stands}
use Rattle.format.proofs.StandsLaws.{tag_of, known}
use Rattle.tactics.specs.Source.{source}

-- the file that a term stands in
pub in_file_lem : (bytes job src : List ℕ) (file at : ℕ) (t : Term) → source bytes job file ≡ src → Stands (source bytes job file) at t → Stands src at t
in_file_lem bytes job src file at t so st = subst (λ (b : List ℕ). Stands b at t) so st

pub from_table : (bytes job : List ℕ) (file : ℕ) → file ≡ 0 → source bytes job file ≡ bytes
from_table bytes job file e = ap (λ (b : Bool). cond b bytes job) (eq-eqb file 0 e)

pub from_job : (bytes job : List ℕ) (file : ℕ) → (file ≡ 0 → ⊥) → source bytes job file ≡ job
from_job bytes job file e = ap (λ (b : Bool). cond b bytes job) (ne_eqb file 0 e)

pub source_small : (bytes job : List ℕ) (file n : ℕ) → length bytes < n → length job < n → length (source bytes job file) < n
source_small bytes job file n a b = go (eqb file 0)
  where
    go : (x : Bool) → length (cond x bytes job) < n
    go true = a
    go false = b

-- a term that is neither id nor empty has five bytes
five : (t : Term) (src : List ℕ) (at : ℕ) → Stands src at t → (tag_of t ≡ 17 → ⊥) → (tag_of t ≡ 21 → ⊥) → 5 ≤ size t
unfolding size tag_of Stands
five (atomic a) src at st x y = omega arith
five id src at st x y = absurd (x refl)
five (label l t) src at st x y = omega arith
five (sequence t u) src at st x y = omega (arith, (known src (at + 3) t st.1).three)
five (tensor t u) src at st x y = omega (arith, (known src (at + 3) t st.1).three)
five empty src at st x y = absurd (y refl)
five (alternation t u) src at st x y = omega (arith, (known src (at + 3) t st.1).three)
five (assert γ) src at st x y = omega arith
five (defined d) src at st x y = omega arith

pub value_room : (src : List ℕ) (at : ℕ) (t : Term) → Stands src at t → (get_or src at 0 ≡ 17 → ⊥) → (get_or src at 0 ≡ 21 → ⊥) → at + 5 ≤ length src
value_room src at t st a b =
    let k = known src at t st in
    omega (arith, k.inside, five t src at st (λ e. a (k.tag_is ∙ e)) (λ e. b (k.tag_is ∙ e)))

-- a term of none of the forms with one inner term or without has two
module _ (src : List ℕ) (at tag : ℕ) (P : Term → Type 0)
    (not_16 : tag ≡ 16 → ⊥) (not_17 : tag ≡ 17 → ⊥) (not_18 : tag ≡ 18 → ⊥) (not_21 : tag ≡ 21 → ⊥) (not_23 : tag ≡ 23 → ⊥) (not_24 : tag ≡ 24 → ⊥)
    (for-sequence : tag ≡ 19 → (t u : Term) → Stands src (at + 3) t → Stands src (at + 3 + size t) u → P (sequence t u))
    (for-tensor : tag ≡ 20 → (t u : Term) → Stands src (at + 3) t → Stands src (at + 3 + size t) u → P (tensor t u))
    (for-alternation : tag ≡ 22 → (t u : Term) → Stands src (at + 3) t → Stands src (at + 3 + size t) u → P (alternation t u)) where
  by_form : (t : Term) → Stands src at t → tag_of t ≡ tag → P t
  unfolding Stands tag_of
  by_form (atomic a) st e = absurd (not_16 (sym e))
  by_form id st e = absurd (not_17 (sym e))
  by_form (label l t) st e = absurd (not_18 (sym e))
  by_form (sequence t u) st e = for-sequence (sym e) t u st.1 st.2
  by_form (tensor t u) st e = for-tensor (sym e) t u st.1 st.2
  by_form empty st e = absurd (not_21 (sym e))
  by_form (alternation t u) st e = for-alternation (sym e) t u st.1 st.2
  by_form (assert γ) st e = absurd (not_23 (sym e))
  by_form (defined d) st e = absurd (not_24 (sym e))

  pub by_pair : (t : Term) → Stands src at t → get_or src at 0 ≡ tag → P t
  by_pair t st e = by_form t st (sym (known src at t st).tag_is ∙ e)
