-- A walk that is refused has the number 20, 22, 34 or 35, and its place is that of a field inside the term; a flat walk's is that of a field among the entries.
-- By induction over the rules of `Stops`; for a flat walk from the entries before the first wrong one. Assumes nothing.
use Prim.Native.Nat.{ℕ, ◌+◌, ◌≤◌}
use native.Mathlib.Omega.{arith}
use mathlib.Core.Path.{◌≡◌, refl}
use mathlib.Core.Logic.{◌⊎◌, inl, inr}
use mathlib.Core.List.{List, [], ◌∷◌, ◌++◌}
use Rattle.format.specs.declared.values.Goal.{Goal}
use Rattle.format.specs.declared.refusals.Cause.{Cause}
use Rattle.format.specs.Refusals.{number}
use Rattle.format.specs.Results.{refused}
use Rattle.format.specs.Terms.{Term, size, Hiproof}
use Rattle.tables.specs.Tables.{Table}
use Rattle.files.specs.Derivations.{Entry, use_entry, open_entry}
use Rattle.hitac.specs.Premises.{Finds}
use Rattle.hitac.specs.Validates.{System}
use Rattle.hitac.specs.Walk.{walk}
use Rattle.hitac.specs.FlatWalk.{flat_walk}
use Rattle.hitac.specs.Stops.{StopNumber, Stops, S-Atomic-Goals, S-Atomic-Rule, S-Identity-Goals, S-Empty-Goals, S-Label-Goals, S-Label-Inner, S-Sequence-Left, S-Sequence-Right, S-Tensor-Goals, S-Tensor-Left, S-Tensor-Right, S-Tensor-Joined}
use Rattle.hitac.specs.FirstWrong.{entries_size, FirstWrong, U-First}
use Rattle.hitac.proofs.WalkValidates.{finds_agrees}
use Rattle.hitac.proofs.WalkStops.{walk→stops}
use Rattle.hitac.proofs.FlatWalks.{flat_walk→first_wrong}

pub stops_number : {S : System} {s : Term} {p : ℕ} {g : List Goal} {n q : ℕ} → Stops S s p g n q → StopNumber n
stops_number (S-Atomic-Goals z) = inr (inr (inl refl))
stops_number (S-Atomic-Rule z) = inl refl
stops_number (S-Identity-Goals z) = inr (inr (inl refl))
stops_number (S-Empty-Goals z) = inr (inr (inl refl))
stops_number (S-Label-Goals z) = inr (inr (inl refl))
stops_number (S-Label-Inner x) = stops_number x
stops_number (S-Sequence-Left x) = stops_number x
stops_number (S-Sequence-Right v x) = stops_number x
stops_number (S-Tensor-Goals i l) = inr (inr (inr refl))
stops_number (S-Tensor-Left g₂ i x) = stops_number x
stops_number (S-Tensor-Right v x) = stops_number x
stops_number (S-Tensor-Joined v w l) = inr (inl refl)

-- The place q has a field's header within n bytes from p on.
pub record Inside (p n q : ℕ) : Type 0 where
  pub from : p ≤ q
  pub to : q + 3 ≤ p + n

pub stops_place : {S : System} {s : Term} {p : ℕ} {g : List Goal} {n q : ℕ} → Stops S s p g n q → Inside p (size s) q
unfolding size
stops_place (S-Atomic-Goals z) = record { from = omega arith; to = omega arith }
stops_place (S-Atomic-Rule z) = record { from = omega arith; to = omega arith }
stops_place (S-Identity-Goals z) = record { from = omega arith; to = omega arith }
stops_place (S-Empty-Goals z) = record { from = omega arith; to = omega arith }
stops_place (S-Label-Goals z) = record { from = omega arith; to = omega arith }
stops_place (S-Label-Inner x) = let i = stops_place x in record { from = omega arith; to = omega arith }
stops_place (S-Sequence-Left x) = let i = stops_place x in record { from = omega arith; to = omega arith }
stops_place (S-Sequence-Right v x) = let i = stops_place x in record { from = omega arith; to = omega arith }
stops_place (S-Tensor-Goals j l) = record { from = omega arith; to = omega arith }
stops_place (S-Tensor-Left g₂ j x) = let i = stops_place x in record { from = omega arith; to = omega arith }
stops_place (S-Tensor-Right v x) = let i = stops_place x in record { from = omega arith; to = omega arith }
stops_place (S-Tensor-Joined v w l) = record { from = omega arith; to = omega arith }

module _ (T : Table) (s : Term) (hiproof : Hiproof s) (p : ℕ) (g : List Goal) {c : Cause} {q : ℕ} (stopped : walk T s p g ≡ refused c q) where
  pub walk-number : StopNumber (number c)
  walk-number = stops_number (walk→stops T (Finds T) (finds_agrees T) s hiproof p g stopped)

  pub walk_place : Inside p (size s) q
  walk_place = stops_place (walk→stops T (Finds T) (finds_agrees T) s hiproof p g stopped)

-- The same of a flat walk.
entries-behind : (es : List Entry) (e : Entry) (fs : List Entry) → entries_size es + 5 ≤ entries_size (es ++ e ∷ fs)
entries-behind [] (use_entry a γ) fs = omega arith
entries-behind [] (open_entry γ) fs = omega arith
entries-behind (use_entry a γ ∷ es) e fs = omega (arith, entries-behind es e fs)
entries-behind (open_entry γ ∷ es) e fs = omega (arith, entries-behind es e fs)

pub wrong_place : {S : System} {p : ℕ} {g : List Goal} {es : List Entry} {q : ℕ} → FirstWrong S p g es q → Inside p (entries_size es) q
wrong_place (U-First {es = es} {e = e} fs d u) = record { from = omega arith; to = omega (arith, entries-behind es e fs) }

pub flat_walk_place : (T : Table) (p : ℕ) (g : List Goal) (es : List Entry) {c : Cause} {q : ℕ} → flat_walk T p g es ≡ refused c q → Inside p (entries_size es) q
flat_walk_place T p g es e = wrong_place (flat_walk→first_wrong T (Finds T) (finds_agrees T) p g es e)
