-- Goals of a file and their bytes: by induction over their number.
-- Assumes nothing.
use mathlib.Core.Path.{◌≡◌, refl, sym, subst, ap, ap₂, ◌∙◌}
use mathlib.Core.List.{List, [], ◌∷◌, ◌++◌, append_assoc}
use Prim.Native.Nat.{ℕ, zero, suc, ◌+◌, ◌*◌, ◌≤◌, ◌<◌}
use native.Mathlib.Nat.{add-zero}
use native.Mathlib.Omega.{arith}
use lib.ListN.{length, drop}
use Rattle.words.specs.Word.{word}
use Rattle.format.specs.declared.values.Goal.{Goal}
use Rattle.format.specs.Values.{goal}
use Rattle.format.specs.Goals.{goals_at}
use Rattle.format.specs.Encoding.{Bytes, word_bytes, goal_bytes, GoalValues}
use Rattle.format.proofs.FieldBytes.{value_bytes, value_lies}

pub length-goal_bytes : (g : List Goal) → length (goal_bytes g) ≡ length g * 2
unfolding goal_bytes
length-goal_bytes [] = refl
length-goal_bytes (γ ∷ g) = omega (arith, length-goal_bytes g)

module _ (s : List ℕ) (bytes : Bytes s) where
  pub word_value : (k : ℕ) → word s k < 65536
  unfolding word
  word_value k = omega (arith, bytes k, bytes (k + 1))

  pub goal_values : (k at : ℕ) → GoalValues (goals_at s at k)
  unfolding GoalValues goals_at
  goal_values zero at = tt
  goal_values (suc k) at = (word_value at, goal_values k (at + 2))

  -- goals of a file are their bytes there
  pub goals_bytes : (k at : ℕ) → at + k * 2 ≤ length s → drop at s ≡ goal_bytes (goals_at s at k) ++ drop (at + k * 2) s
  unfolding goal_bytes goals_at
  goals_bytes zero at h = ap (λ (j : ℕ). drop j s) (sym (add-zero at))
  goals_bytes (suc k) at h =
      let c : at + 2 + k * 2 ≡ at + suc k * 2 = omega arith in
      value_bytes s bytes at (word s at) refl (omega arith)
      ∙ ap (λ (m : List ℕ). word_bytes (word s at) ++ m) (goals_bytes k (at + 2) (omega arith) ∙ ap (λ (j : ℕ). goal_bytes (goals_at s (at + 2) k) ++ drop j s) c)

-- where the bytes of goals lie, these are the goals of the file there
module _ (s : List ℕ) where
  pub goals_lie : (g : List Goal) (at : ℕ) (r : List ℕ) → GoalValues g → drop at s ≡ goal_bytes g ++ r
      → (goals_at s at (length g) ≡ g) × (drop (at + length g * 2) s ≡ r)
  unfolding GoalValues goals_at goal_bytes
  goals_lie [] at r v e = (refl, ap (λ (j : ℕ). drop j s) (add-zero at) ∙ e)
  goals_lie (γ ∷ g) at r v e =
      let a = value_lies s at γ.0 (goal_bytes g ++ r) v.0 (e ∙ append_assoc (word_bytes γ.0) (goal_bytes g) r) in
      let b = goals_lie g (at + 2) r v.1 a.1 in
      let c : at + 2 + length g * 2 ≡ at + suc (length g) * 2 = omega arith in
      (ap₂ (λ (n : ℕ) (h : List Goal). goal n ∷ h) a.0 b.0, subst (λ (j : ℕ). drop j s ≡ r) c b.1)
