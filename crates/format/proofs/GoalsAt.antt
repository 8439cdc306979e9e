-- Goals in a list of bytes: taken apart, moved, and kept where other bytes change. By induction over their number.
-- Assumes nothing.
use mathlib.Core.Path.{◌≡◌, refl, ap, ap₂, ◌∙◌}
use mathlib.Core.List.{List, [], ◌∷◌, ◌++◌}
use Prim.Native.Nat.{ℕ, zero, suc, ◌+◌, ◌*◌, ◌-◌, ◌≤◌, ◌<◌}
use native.Mathlib.Omega.{arith}
use lib.ListN.{length, get_or, take, drop, length-drop}
use lib.Seq.{paste, get_or-drop, take_at, drop_at}
use Rattle.words.specs.Word.{word, put_word}
use Rattle.words.specs.Kept.{Kept}
use Rattle.words.proofs.WordLaws.{word_same}
use Rattle.words.proofs.Copy.{paste_inside}
use Rattle.format.specs.declared.values.Goal.{Goal}
use Rattle.format.specs.Values.{goal}
use Rattle.format.specs.Goals.{goals_at}
use Rattle.format.proofs.GoalsLaws.{length-goals_at}

-- the same bytes at another place are the same goals
pub goals_shift : (k : ℕ) (s s' : List ℕ) (at at' : ℕ) → ((x y : ℕ) → x + at' ≡ y + at → at ≤ x → x < at + k * 2 → get_or s x 0 ≡ get_or s' y 0) → goals_at s at k ≡ goals_at s' at' k
unfolding goals_at word
goals_shift zero s s' at at' h = refl
goals_shift (suc k) s s' at at' h =
    ap₂ (λ (v : ℕ) (l : List Goal). goal v ∷ l)
    (ap₂ (λ (a b : ℕ). a * 256 + b) (h at at' (omega arith) (omega arith) (omega arith)) (h (at + 1) (at' + 1) (omega arith) (omega arith) (omega arith)))
    (goals_shift k s s' (at + 2) (at' + 2) (λ x y e l u. h x y (omega arith) (omega arith) (omega arith)))

pub goals_append : (j k : ℕ) (s : List ℕ) (at : ℕ) → goals_at s at (j + k) ≡ goals_at s at j ++ goals_at s (at + j * 2) k
unfolding goals_at
goals_append zero k s at =
    let e : zero + k ≡ k = omega arith in
    let f : at ≡ at + zero * 2 = omega arith in
    ap₂ (goals_at s) f e
goals_append (suc j) k s at =
    let e : suc j + k ≡ suc (j + k) = omega arith in
    let f : at + 2 + j * 2 ≡ at + suc j * 2 = omega arith in
    ap (goals_at s at) e
    ∙ ap (λ (l : List Goal). goal (word s at) ∷ l) (goals_append j k s (at + 2))
    ∙ ap (λ (q : ℕ). goal (word s at) ∷ goals_at s (at + 2) j ++ goals_at s q k) f

module _ (s : List ℕ) (at j k : ℕ) (h : j ≤ k) where
  parts : goals_at s at k ≡ goals_at s at j ++ goals_at s (at + j * 2) (k - j)
  parts =
      let e : k ≡ j + (k - j) = omega arith in
      ap (goals_at s at) e ∙ goals_append j (k - j) s at

  pub take_goals : take j (goals_at s at k) ≡ goals_at s at j
  take_goals = ap (take j) parts ∙ take_at (goals_at s at j) (goals_at s (at + j * 2) (k - j)) j (length-goals_at j s at)

  pub drop_goals : drop j (goals_at s at k) ≡ goals_at s (at + j * 2) (k - j)
  drop_goals = ap (drop j) parts ∙ drop_at (goals_at s at j) (goals_at s (at + j * 2) (k - j)) j (length-goals_at j s at)

-- goals that were copied
pub goals_paste : (d s : List ℕ) (to from k : ℕ) → to + k * 2 ≤ length d → from + k * 2 ≤ length s → goals_at (paste d to (drop from s) (k * 2)) to k ≡ goals_at s from k
goals_paste d s to from k h g =
    let room : k * 2 ≤ length (drop from s) = simp length-drop (omega arith) in
    goals_shift k (paste d to (drop from s) (k * 2)) s to from (λ x y e l u.
    let i : from + (x - to) ≡ y = omega arith in
    paste_inside d (drop from s) to (k * 2) h room x (x - to) (omega arith) (omega arith) ∙ get_or-drop from s (x - to) 0 ∙ ap (λ (q : ℕ). get_or s q 0) i)

-- one goal that was stored
pub goals_put : (s : List ℕ) (at v : ℕ) → at + 1 < length s → goals_at (put_word s at v) at 1 ≡ goal v ∷ []
unfolding goals_at
goals_put s at v h = ap (λ (x : ℕ). goal x ∷ []) (word_same s at v h)

-- goals outside the places of a write
pub goals_below : (w w' : List ℕ) (low high at k : ℕ) → Kept w w' low high → at + k * 2 ≤ low → goals_at w' at k ≡ goals_at w at k
goals_below w w' low high at k p h = goals_shift k w' w at at (λ x y e l u. let q : x ≡ y = omega arith in p.below x (omega arith) ∙ ap (λ (i : ℕ). get_or w i 0) q)

pub goals_above : (w w' : List ℕ) (low high at k : ℕ) → Kept w w' low high → high ≤ at → goals_at w' at k ≡ goals_at w at k
goals_above w w' low high at k p h = goals_shift k w' w at at (λ x y e l u. let q : x ≡ y = omega arith in p.above x (omega arith) ∙ ap (λ (i : ℕ). get_or w i 0) q)
