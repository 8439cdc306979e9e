-- The loop that counts headers: what is known at each of its turns, and that each turn keeps it.
-- Assumes nothing.
use mathlib.Core.Path.{◌≡◌, refl, subst}
use mathlib.Core.List.{List}
use Prim.Native.Nat.{ℕ, zero, suc, ◌+◌, ◌≤◌, ◌<◌}
use native.Mathlib.Omega.{arith}
use lib.ListN.{get_or}
use Rattle.format.specs.Count.{next_header, OfTerm, Counted}
use Rattle.format.proofs.CountLaws.{counted_few, counted-append}

-- the headers up to a place are counted, and from there to the end there are so many more
pub record Counting (s : List ℕ) (at end place count : ℕ) : Type 0 where
  pub counted : Counted s at place count
  pub left : ℕ
  pub ahead : Counted s place end left

module _ (s : List ℕ) (at end : ℕ) where
  pub counting_begun : (n : ℕ) → Counted s at end n → Counting s at end at 0
  unfolding Counted
  counting_begun n c = record { counted = refl; left = n; ahead = c }

  -- in front of the end stands a term's header
  pub counting_tag : (place count : ℕ) → place < end → Counting s at end place count → OfTerm (get_or s place 0)
  unfolding Counted
  counting_tag place count l c = go c.left c.ahead
    where
      go : (n : ℕ) → Counted s place end n → OfTerm (get_or s place 0)
      go zero e = absurd (omega (arith, e, l))
      go (suc n) h = h.0

  -- with it one more is counted, up to the next header or the end
  pub counting_more : (place next count : ℕ) → next_header s place ≡ next → place < end → Counting s at end place count → (next ≤ end) × Counting s at end next (count + 1)
  unfolding Counted
  counting_more place next count e l c = go c.left c.ahead
    where
      go : (n : ℕ) → Counted s place end n → (next ≤ end) × Counting s at end next (count + 1)
      go zero d = absurd (omega (arith, d, l))
      go (suc n) h =
          let ahead : Counted s next end n = subst (λ (i : ℕ). Counted s i end n) e h.1 in
          (omega (arith, counted_few s n next end ahead), record { counted = counted-append s count 1 at place next c.counted (h.0, e); left = n; ahead = ahead })

  -- no header is left
  pub counting_done : (place count : ℕ) → end ≤ place → Counting s at end place count → Counted s at end count
  counting_done place count l c = let all : place ≡ end = omega (arith, counted_few s c.left place end c.ahead) in subst (λ (i : ℕ). Counted s at i count) all c.counted
