-- Comparing the goals of nodes with goals in bytes, value by value; and that nodes which carry goals are among those made.
-- Assumes nothing.
use mathlib.Core.Path.{◌≡◌, refl, sym, ap, ap₂, ◌∙◌}
use mathlib.Core.Bool.{Bool, true, false, ◌&&◌}
use mathlib.Core.List.{List, [], ◌∷◌}
use Prim.Native.Nat.{ℕ, zero, suc, ◌+◌, ◌*◌, ◌≤◌, ◌<◌}
use native.Mathlib.Omega.{arith}
use lib.Dec.{eqb}
use borrow.Author.Tests.{eq-eqb, ne_eqb}
use Rattle.words.specs.Word.{word}
use Rattle.format.specs.declared.values.Goal.{Goal}
use Rattle.format.specs.Goals.{goals_at}
use Rattle.hitac.proofs.Nodes.{goal_of}
use Rattle.entries.specs.Check.{same_goals}
use Rattle.walks.specs.Layout.{index_end}
use Rattle.walks.specs.Values.{values_at}
use Rattle.nodes.specs.Space.{cell_place, cells_of, Below, goals_in}
use Rattle.nodes.proofs.CellLaws.{goal_in, length_cells, cell_of}
use Rattle.flattener.proofs.GrowthLaws.{Carry, Carry-None, Carry-Node}

no_and : (b : Bool) → (b && false) ≡ false
no_and true = refl
no_and false = refl

pub other_lengths : (w p : List ℕ) (a b k l : ℕ) → (k ≡ l → ⊥) → same_goals (goals_in w (values_at w a k)) (goals_at p b l) ≡ false
unfolding same_goals goals_at
other_lengths w p a b zero zero h = absurd (h refl)
other_lengths w p a b zero (suc l) h = refl
other_lengths w p a b (suc k) zero h = refl
other_lengths w p a b (suc k) (suc l) h = rw (other_lengths w p (a + 2) (b + 2) k l (λ e. h (ap suc e))) (no_and (eqb (word w (cell_place (word w a))) (word p b)))

-- the goals of so many nodes, each by its number
same_each : (w p : List ℕ) (a b n : ℕ) → ((k : ℕ) → k < n → word w (cell_place (word w (a + k * 2))) ≡ word p (b + k * 2)) → same_goals (goals_in w (values_at w a n)) (goals_at p b n) ≡ true
unfolding same_goals goals_at
same_each w p a b zero h = refl
same_each w p a b (suc n) h =
    let first : word w (cell_place (word w a)) ≡ word p b = (let x : a + 0 * 2 ≡ a = omega arith in let y : b + 0 * 2 ≡ b = omega arith in rw (x, y) at (h 0 (omega arith))) in
    let rest : (k : ℕ) → k < n → word w (cell_place (word w (a + 2 + k * 2))) ≡ word p (b + 2 + k * 2) =
    (λ k l. let x : a + suc k * 2 ≡ a + 2 + k * 2 = omega arith in let y : b + suc k * 2 ≡ b + 2 + k * 2 = omega arith in rw (x, y) at (h (suc k) (omega arith))) in
    rw (eq-eqb _ _ first) (same_each w p (a + 2) (b + 2) n rest)

other_one : (w p : List ℕ) (a b n k : ℕ) → k < n → (word w (cell_place (word w (a + k * 2))) ≡ word p (b + k * 2) → ⊥) → same_goals (goals_in w (values_at w a n)) (goals_at p b n) ≡ false
unfolding same_goals goals_at
other_one w p a b zero k l h = absurd (omega arith)
other_one w p a b (suc n) zero l h = let x : a + 0 * 2 ≡ a = omega arith in let y : b + 0 * 2 ≡ b = omega arith in rw (ne_eqb _ _ (rw (x, y) at h)) refl
other_one w p a b (suc n) (suc k) l h =
    let x : a + suc k * 2 ≡ a + 2 + k * 2 = omega arith in
    let y : b + suc k * 2 ≡ b + 2 + k * 2 = omega arith in
    rw (other_one w p (a + 2) (b + 2) n k (omega arith) (rw (x, y) at h)) (no_and (eqb (word w (cell_place (word w a))) (word p b)))

-- each of some nodes is among those made
each_below : (w : List ℕ) (m at n i : ℕ) → Below m (values_at w at n) → i < n → word w (at + i * 2) < m
unfolding Below goals_at
each_below w m at zero i b l = absurd (omega arith)
each_below w m at (suc n) zero b l = let e : at + zero * 2 ≡ at = omega arith in rw e b.0
each_below w m at (suc n) (suc i) b l = let e : at + suc i * 2 ≡ at + 2 + i * 2 = omega arith in rw e (each_below w m (at + 2) n i b.1 (omega arith))

-- so it is from the start of the stacks on
module _ (w p : List ℕ) (from n : ℕ) where
  pub below_each : (m : ℕ) → Below m (values_at w 0 n) → (k : ℕ) → k < n → word w (k * 2) < m
  below_each m b k l = let e : 0 + k * 2 ≡ k * 2 = omega arith in rw e at (each_below w m 0 n k b l)

  abbrev Same : ℕ → Type 0
  Same k = word w (cell_place (word w (k * 2))) ≡ word p (from + k * 2)

  -- an answer that says whether each is the same
  pub decided : (r : Bool) → (r ≡ true → (k : ℕ) → k < n → Same k) → (r ≡ false → (k : ℕ) × (k < n) × (Same k → ⊥)) → r ≡ same_goals (goals_in w (values_at w 0 n)) (goals_at p from n)
  decided true same other = sym (same_each w p 0 from n (λ k l. let e : 0 + k * 2 ≡ k * 2 = omega arith in rw e (same refl k l)))
  decided false same other =
      let x = other refl in
      let e : 0 + x.0 * 2 ≡ x.0 * 2 = omega arith in
      sym (other_one w p 0 from n x.0 x.1 (rw e x.2))

-- nodes that carry goals, in the work space
pub carried : (w : List ℕ) (nodes : ℕ) {ns : List ℕ} {g : List Goal} → Carry (cells_of w nodes) ns g → (goals_in w ns ≡ g) × Below nodes ns
unfolding Below
carried w nodes Carry-None = (refl, tt)
carried w nodes (Carry-Node {n = n} l e c) =
    let h : n < nodes = omega (arith, length_cells nodes w index_end) in
    let r = carried w nodes c in
    (ap₂ (λ (γ : Goal) (g : List Goal). γ ∷ g) (sym (goal_in w (cell_place n)) ∙ sym (ap goal_of (cell_of nodes w n h)) ∙ e) r.0, (h, r.1))

pub below_later : (b c : ℕ) → b ≤ c → (ns : List ℕ) → Below b ns → Below c ns
unfolding Below
below_later b c l [] x = tt
below_later b c l (n ∷ ns) x = (omega (arith, x.0), below_later b c l ns x.1)
