-- Values in bytes: taken apart, moved, and kept where other bytes change, as the goals in bytes are.
-- Assumes nothing.
use mathlib.Core.Path.{◌≡◌, refl, ap, ◌∙◌}
use mathlib.Core.List.{List, [], ◌∷◌, ◌++◌, map, map-append}
use Prim.Native.Nat.{ℕ, zero, suc, ◌+◌, ◌*◌, ◌-◌, ◌≤◌}
use lib.ListN.{length, take, drop, length-map}
use lib.Seq.{paste}
use Rattle.words.specs.Word.{word}
use Rattle.words.specs.Kept.{Kept}
use Rattle.format.specs.declared.values.Goal.{Goal}
use Rattle.format.specs.Goals.{goals_at}
use Rattle.format.proofs.GoalsLaws.{length-goals_at}
use Rattle.format.proofs.GoalsAt.{goals_append, take_goals, drop_goals, goals_paste, goals_below, goals_above}
use Rattle.walks.specs.Values.{value_of, values_at}

take-map : (j : ℕ) (g : List Goal) → take j (map value_of g) ≡ map value_of (take j g)
take-map zero g = refl
take-map (suc j) [] = refl
take-map (suc j) (γ ∷ g) = ap {B = List ℕ} (λ l. value_of γ ∷ l) (take-map j g)

drop-map : (j : ℕ) (g : List Goal) → drop j (map value_of g) ≡ map value_of (drop j g)
drop-map zero g = refl
drop-map (suc j) [] = refl
drop-map (suc j) (γ ∷ g) = drop-map j g

pub length_values : (s : List ℕ) (at k : ℕ) → length (values_at s at k) ≡ k
length_values s at k = length-map (goals_at s at k) value_of ∙ length-goals_at k s at

pub take_values : (s : List ℕ) (at j k : ℕ) → j ≤ k → take j (values_at s at k) ≡ values_at s at j
take_values s at j k h = take-map j (goals_at s at k) ∙ ap (map value_of) (take_goals s at j k h)

pub drop_values : (s : List ℕ) (at j k : ℕ) → j ≤ k → drop j (values_at s at k) ≡ values_at s (at + j * 2) (k - j)
drop_values s at j k h = drop-map j (goals_at s at k) ∙ ap (map value_of) (drop_goals s at j k h)

pub values_append : (j k : ℕ) (s : List ℕ) (at : ℕ) → values_at s at (j + k) ≡ values_at s at j ++ values_at s (at + j * 2) k
values_append j k s at = ap (map value_of) (goals_append j k s at) ∙ map-append value_of (goals_at s at j) (goals_at s (at + j * 2) k)

-- values that were copied
pub values_paste : (d s : List ℕ) (to from k : ℕ) → to + k * 2 ≤ length d → from + k * 2 ≤ length s → values_at (paste d to (drop from s) (k * 2)) to k ≡ values_at s from k
values_paste d s to from k h g = ap (map value_of) (goals_paste d s to from k h g)

-- values outside the places of a write
pub values_below : (w w' : List ℕ) (low high at k : ℕ) → Kept w w' low high → at + k * 2 ≤ low → values_at w' at k ≡ values_at w at k
values_below w w' low high at k p h = ap (map value_of) (goals_below w w' low high at k p h)

pub values_above : (w w' : List ℕ) (low high at k : ℕ) → Kept w w' low high → high ≤ at → values_at w' at k ≡ values_at w at k
values_above w w' low high at k p h = ap (map value_of) (goals_above w w' low high at k p h)

pub one_value : (s : List ℕ) (at k : ℕ) → k ≡ 1 → values_at s at k ≡ word s at ∷ []
unfolding goals_at
one_value s at k e = rw e
