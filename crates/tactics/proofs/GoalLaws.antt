-- Two lists of goals copied behind one another: each copy is what words and format say of it, and the second leaves the first alone. Joined: moved down from there.
-- Assumes nothing.
use Prim.Native.Nat.{ℕ, ◌+◌, ◌*◌, ◌≤◌}
use mathlib.Core.Path.{◌≡◌, sym, ap, ap₂, subst, ◌∙◌}
use mathlib.Core.List.{List, ◌++◌}
use native.Mathlib.Omega.{arith}
use lib.ListN.{length, drop}
use lib.Seq.{paste}
use Rattle.format.specs.declared.values.Goal.{Goal}
use Rattle.format.specs.Goals.{goals_at}
use Rattle.format.proofs.GoalsAt.{goals_append, goals_paste}
use Rattle.tactics.specs.Memory.{Only}
use Rattle.tactics.proofs.MemoryLaws.{only_then, only_wider, only_copy, same_goals}
use Rattle.tactics.specs.Goals.{Gathered, Joined}

pub gathered : (w : List ℕ) (to first n second m : ℕ) → first + n * 2 ≤ to → second + m * 2 ≤ to → to + (n + m) * 2 ≤ length w
    → (y v : List ℕ) → y ≡ paste w to (drop first w) (n * 2) → v ≡ paste y (to + n * 2) (drop second y) (m * 2) → Gathered w v to first n second m
gathered w to first n second m a b c y v p q =
    let o₁ : Only to (to + n * 2) w y = subst (λ (x : List ℕ). Only to (to + n * 2) w x) (sym p) (only_copy w w to first (n * 2) (omega arith) (omega arith)) in
    let l = o₁.same_length in
    let o₂ : Only (to + n * 2) (to + n * 2 + m * 2) y v =
    subst (λ (x : List ℕ). Only (to + n * 2) (to + n * 2 + m * 2) y x) (sym q) (only_copy y y (to + n * 2) second (m * 2) (omega (arith, l)) (omega (arith, l))) in
    let g₁ : goals_at y to n ≡ goals_at w first n = ap (λ (x : List ℕ). goals_at x to n) p ∙ goals_paste w w to first n (omega arith) (omega arith) in
    let g₂ : goals_at v (to + n * 2) m ≡ goals_at y second m = ap (λ (x : List ℕ). goals_at x (to + n * 2) m) q ∙ goals_paste y y (to + n * 2) second m (omega (arith, l)) (omega (arith, l)) in
    let g₃ : goals_at y second m ≡ goals_at w second m = same_goals w y m second (λ i h r. o₁.kept.below i (omega arith)) in
    let g₄ : goals_at v to n ≡ goals_at y to n = same_goals y v n to (λ i h r. o₂.kept.below i (omega arith)) in
    record {
      only = only_then to (to + (n + m) * 2) w y v (only_wider to (to + n * 2) to (to + (n + m) * 2) w y o₁ (omega arith) (omega arith))
          (only_wider (to + n * 2) (to + n * 2 + m * 2) to (to + (n + m) * 2) y v o₂ (omega arith) (omega arith));
      goals = goals_append n m v to ∙ ap₂ (λ (x z : List Goal). x ++ z) (g₄ ∙ g₁) (g₂ ∙ g₃);
    }

-- the joined list, gathered behind all goals and moved down to its place
pub joined : (w : List ℕ) (to end first n second m : ℕ) → to ≤ end → end + (n + m) * 2 ≤ length w
    → (y v : List ℕ) → Gathered w y end first n second m → v ≡ paste y to (drop end y) ((n + m) * 2) → Joined w v to end first n second m
joined w to end first n second m a b y v g q =
    let l = g.only.same_length in
    let o : Only to (to + (n + m) * 2) y v =
    subst (λ (x : List ℕ). Only to (to + (n + m) * 2) y x) (sym q) (only_copy y y to end ((n + m) * 2) (omega (arith, l)) (omega (arith, l))) in
    record {
      only = only_then to (end + (n + m) * 2) w y v (only_wider end (end + (n + m) * 2) to (end + (n + m) * 2) w y g.only a (omega arith))
          (only_wider to (to + (n + m) * 2) to (end + (n + m) * 2) y v o (omega arith) (omega arith));
      goals = ap (λ (x : List ℕ). goals_at x to (n + m)) q ∙ goals_paste y y to end (n + m) (omega (arith, l)) (omega (arith, l)) ∙ g.goals;
    }
