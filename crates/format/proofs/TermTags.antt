-- A number whose kind is that of a term is one of nine tags: by one computed test of the table's rows.
-- Assumes nothing.
use mathlib.Core.Path.{◌≡◌, refl}
use mathlib.Core.Bool.{Bool, true, false, cond}
use mathlib.Core.List.{List, [], ◌∷◌}
use Prim.Native.Nat.{ℕ, ◌≤◌, ◌<◌}
use native.Mathlib.Omega.{arith}
use lib.Dec.{eqb, ltb}
use borrow.Author.Tests.{eqb-true, le-ltb}
use Rattle.format.specs.Tags.{Row, rows, find_row, row_of, kind_of, hiproof_kind, tactic_kind}

-- the tags of terms
pub data TermTag : ℕ → Type 0 where
  t16 : TermTag 16
  t17 : TermTag 17
  t18 : TermTag 18
  t19 : TermTag 19
  t20 : TermTag 20
  t21 : TermTag 21
  t22 : TermTag 22
  t23 : TermTag 23
  t24 : TermTag 24

-- the tags of the table with a kind from low to high
unfoldable pub tags_between : (low high : ℕ) → List Row → List ℕ
tags_between low high [] = []
tags_between low high (r ∷ rs) = let ts = tags_between low high rs in cond (ltb r.kind low) ts (cond (ltb high r.kind) ts (r.tag ∷ ts))

infixr 5 ◌&◌
pub data All (P : ℕ → Type 0) : List ℕ → Type 0 where
  no_more : All P []
  ◌&◌ : {t : ℕ} {ts : List ℕ} → P t → All P ts → All P (t ∷ ts)

-- what holds of each of these tags holds of each number with such a kind
module _ (P : ℕ → Type 0) (low high : ℕ) (some-kind : 0 < low) where
  others : (b c : Bool) (t : ℕ) (ts : List ℕ) → All P (cond b ts (cond c ts (t ∷ ts))) → All P ts
  others true c t ts all = all
  others false true t ts all = all
  others false false t ts (p & all) = all

  first : (b c : Bool) (t : ℕ) (ts : List ℕ) → b ≡ false → c ≡ false → All P (cond b ts (cond c ts (t ∷ ts))) → P t
  first false false t ts p q (x & all) = x
  first false true t ts p q all = let z : ◌≡◌ {A = ℕ} 0 1 = cc in absurd (omega arith)
  first true c t ts p q all = let z : ◌≡◌ {A = ℕ} 0 1 = cc in absurd (omega arith)

  in_rows : (rs : List Row) → All P (tags_between low high rs) → (t : ℕ) → low ≤ (find_row rs t).kind → (find_row rs t).kind ≤ high → P t
  unfolding find_row tags_between
  in_rows [] all t l h = absurd (omega arith)
  in_rows (r ∷ rs) all t l h = go (eqb t r.tag) refl (in_rows rs (others (ltb r.kind low) (ltb high r.kind) r.tag (tags_between low high rs) all) t) l h
    where
      go : (b : Bool) → eqb t r.tag ≡ b → (low ≤ (find_row rs t).kind → (find_row rs t).kind ≤ high → P t) → low ≤ (cond b r (find_row rs t)).kind → (cond b r (find_row rs t)).kind ≤ high → P t
      go true e ih l' h' = rw (eqb-true t r.tag e) (first (ltb r.kind low) (ltb high r.kind) r.tag (tags_between low high rs) (le-ltb r.kind low l') (le-ltb high r.kind h') all)
      go false e ih l' h' = ih l' h'

  pub found_tag : All P (tags_between low high rows) → (t : ℕ) → low ≤ kind_of t → kind_of t ≤ high → P t
  unfolding kind_of row_of
  found_tag = in_rows rows

pub term_tag : (t : ℕ) → hiproof_kind ≤ kind_of t → kind_of t ≤ tactic_kind → TermTag t
unfolding rows tags_between
term_tag = found_tag TermTag hiproof_kind tactic_kind (omega arith) (t16 & t17 & t18 & t19 & t20 & t21 & t22 & t23 & t24 & no_more)
