-- The term that stands at a place, by the tag there: one case for each tag, chosen by computing.
-- Assumes nothing.
use mathlib.Core.Path.{◌≡◌, sym, subst, ◌∙◌}
use mathlib.Core.Bool.{cond}
use mathlib.Core.List.{List}
use Prim.Native.Nat.{ℕ, ◌+◌, ◌≤◌}
use native.Mathlib.Omega.{arith}
use lib.Dec.{eqb}
use lib.ListN.{length, get_or}
use Rattle.words.specs.Word.{word}
use Rattle.format.specs.declared.values.RuleName.{RuleName}
use Rattle.format.specs.declared.values.Goal.{Goal}
use Rattle.format.specs.declared.values.Label.{Label}
use Rattle.format.specs.declared.values.TacticNo.{TacticNo}
use Rattle.format.specs.Terms.{Term, atomic, id, label, sequence, tensor, empty, alternation, assert, defined, size}
use Rattle.format.specs.Standing.{Stands}
use Rattle.format.proofs.StandsLaws.{Known, known}

-- the two inner terms of the field at a place, the second where the code looks for it
pub record Two (s : List ℕ) (at : ℕ) (t u : Term) : Type 0 where
  pub first : Stands s (at + 3) t
  pub second : Stands s (at + 6 + word s (at + 4)) u
  pub behind : at + 6 + word s (at + 4) ≡ at + 3 + size t
  pub inside : at + 3 + size t + size u ≤ length s
  pub first_size : 3 ≤ size t
  pub second_size : 3 ≤ size u

-- the one inner term of the field at a place, behind a value
pub record One (s : List ℕ) (at : ℕ) (t : Term) : Type 0 where
  pub only : Stands s (at + 5) t
  pub inside : at + 5 + size t ≤ length s
  pub only_size : 3 ≤ size t

-- the value of the field at a place
pub record Value (s : List ℕ) (at v : ℕ) : Type 0 where
  pub value_is : word s (at + 3) ≡ v
  pub inside : at + 5 ≤ length s

module _ (s : List ℕ) (at : ℕ) where
  pub second_place : (t : Term) → Known s (at + 3) t → at + 6 + word s (at + 4) ≡ at + 3 + size t
  second_place t k =
      let e : at + 3 + 1 ≡ at + 4 = omega arith in
      omega (arith, subst (λ (i : ℕ). 3 + word s i ≡ size t) e k.length_is)

  pub two : (t u : Term) → Stands s (at + 3) t → Stands s (at + 3 + size t) u → Two s at t u
  two t u st st₂ =
      let k = known s (at + 3) t st in
      let e = second_place t k in
      let k₂ = known s (at + 3 + size t) u st₂ in
      record {
        first = st;
        second = subst (λ (i : ℕ). Stands s i u) (sym e) st₂;
        behind = e;
        inside = k₂.inside;
        first_size = k.three;
        second_size = k₂.three;
      }

  one : (t : Term) → Stands s (at + 5) t → One s at t
  one t st = let k = known s (at + 5) t st in record { only = st; inside = k.inside; only_size = k.three }

  -- what is to be shown of the term at a place, where its tag is that number
  abbrev pub Case : (P : Term → Type 0) → ℕ → Type 0
  Case P k =
      cond (eqb k 16) ((a : RuleName) → Value s at a.0 → P (atomic a))
      (cond (eqb k 17) (P id)
      (cond (eqb k 18) ((l : Label) (t : Term) → One s at t → P (label l t))
      (cond (eqb k 19) ((t u : Term) → Two s at t u → P (sequence t u))
      (cond (eqb k 20) ((t u : Term) → Two s at t u → P (tensor t u))
      (cond (eqb k 21) (P empty)
      (cond (eqb k 22) ((t u : Term) → Two s at t u → P (alternation t u))
      (cond (eqb k 23) ((γ : Goal) → Value s at γ.0 → P (assert γ))
      ((n : TacticNo) → Value s at n.0 → P (defined n)))))))))

  pub by_tag : (P : Term → Type 0) (k : ℕ) → Case P k → get_or s at 0 ≡ k → (t : Term) → Stands s at t → P t
  unfolding Stands
  by_tag P k c e (atomic a) st = subst (Case P) (sym e ∙ st.0.tag_is) c a (record { value_is = st.1; inside = omega (arith, st.0) })
  by_tag P k c e id st = subst (Case P) (sym e ∙ st.tag_is) c
  by_tag P k c e (label l t) st = subst (Case P) (sym e ∙ st.0.tag_is) c l t (one t st.2)
  by_tag P k c e (sequence t u) st = subst (Case P) (sym e ∙ st.0.tag_is) c t u (two t u st.1 st.2)
  by_tag P k c e (tensor t u) st = subst (Case P) (sym e ∙ st.0.tag_is) c t u (two t u st.1 st.2)
  by_tag P k c e empty st = subst (Case P) (sym e ∙ st.tag_is) c
  by_tag P k c e (alternation t u) st = subst (Case P) (sym e ∙ st.0.tag_is) c t u (two t u st.1 st.2)
  by_tag P k c e (assert γ) st = subst (Case P) (sym e ∙ st.0.tag_is) c γ (record { value_is = st.1; inside = omega (arith, st.0) })
  by_tag P k c e (defined n) st = subst (Case P) (sym e ∙ st.0.tag_is) c n (record { value_is = st.1; inside = omega (arith, st.0) })
