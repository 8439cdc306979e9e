-- A walk stops with 20, 34 or 35 exactly at the term that it reaches and that cannot take its goals for that reason: by induction over the rules of `Stops` and of `Reaches`.
-- Assumes nothing.
use Prim.Native.Nat.{ℕ, ◌+◌}
use mathlib.Core.Path.{◌≡◌, refl}
use mathlib.Core.List.{List, [], ◌∷◌}
use Rattle.format.specs.declared.values.Goal.{Goal}
use Rattle.format.specs.Terms.{Term}
use Rattle.hitac.specs.Validates.{System}
use Rattle.hitac.specs.Stops.{Stops, S-Atomic-Goals, S-Atomic-Rule, S-Identity-Goals, S-Empty-Goals, S-Label-Goals, S-Label-Inner, S-Sequence-Left, S-Sequence-Right, S-Tensor-Goals, S-Tensor-Left, S-Tensor-Right, S-Tensor-Joined}
use Rattle.hitac.specs.Reaches.{Reaches, R-Here, R-Label, R-Sequence-Left, R-Sequence-Right, R-Tensor-Left, R-Tensor-Right, CannotTake, C-Rule, C-Atomic, C-Identity, C-Label, C-Empty, C-Tensor, FirstRefused}

module _ {S : System} where
  here_stops : {u : Term} {q : ℕ} {k : List Goal} {n : ℕ} → CannotTake S n u k → Stops S u q k n q
  here_stops (C-Rule lacks) = S-Atomic-Rule lacks
  here_stops (C-Atomic z) = S-Atomic-Goals z
  here_stops (C-Identity z) = S-Identity-Goals z
  here_stops (C-Label z) = S-Label-Goals z
  here_stops (C-Empty z) = S-Empty-Goals z
  here_stops (C-Tensor i l) = S-Tensor-Goals i l

  pub reached_stops : {s u : Term} {p q : ℕ} {g k : List Goal} {n : ℕ} → Reaches S s p g u q k → CannotTake S n u k → Stops S s p g n q
  reached_stops R-Here c = here_stops c
  reached_stops (R-Label r) c = S-Label-Inner (reached_stops r c)
  reached_stops (R-Sequence-Left r) c = S-Sequence-Left (reached_stops r c)
  reached_stops (R-Sequence-Right v r) c = S-Sequence-Right v (reached_stops r c)
  reached_stops (R-Tensor-Left g₂ i r) c = S-Tensor-Left g₂ i (reached_stops r c)
  reached_stops (R-Tensor-Right v r) c = S-Tensor-Right v (reached_stops r c)

  pub stops_reached : {s : Term} {p : ℕ} {g : List Goal} {n q : ℕ} → (n ≡ 22 → ⊥) → Stops S s p g n q → FirstRefused S s p g n q
  stops_reached ne (S-Atomic-Goals z) = (_, _, R-Here, C-Atomic z)
  stops_reached ne (S-Atomic-Rule lacks) = (_, _, R-Here, C-Rule lacks)
  stops_reached ne (S-Identity-Goals z) = (_, _, R-Here, C-Identity z)
  stops_reached ne (S-Empty-Goals z) = (_, _, R-Here, C-Empty z)
  stops_reached ne (S-Label-Goals z) = (_, _, R-Here, C-Label z)
  stops_reached ne (S-Label-Inner x) = let (u, k, r, c) = stops_reached ne x in (u, k, R-Label r, c)
  stops_reached ne (S-Sequence-Left x) = let (u, k, r, c) = stops_reached ne x in (u, k, R-Sequence-Left r, c)
  stops_reached ne (S-Sequence-Right v x) = let (u, k, r, c) = stops_reached ne x in (u, k, R-Sequence-Right v r, c)
  stops_reached ne (S-Tensor-Goals i l) = (_, _, R-Here, C-Tensor i l)
  stops_reached ne (S-Tensor-Left g₂ i x) = let (u, k, r, c) = stops_reached ne x in (u, k, R-Tensor-Left g₂ i r, c)
  stops_reached ne (S-Tensor-Right v x) = let (u, k, r, c) = stops_reached ne x in (u, k, R-Tensor-Right v r, c)
  stops_reached ne (S-Tensor-Joined v w l) = absurd (ne refl)
