-- The arities of left terms: how many they are, and which writes leave them as they are.
-- Assumes nothing.
use mathlib.Core.Path.{◌≡◌, ◌∙◌}
use mathlib.Core.Logic.{◌⊎◌, inl, inr}
use mathlib.Core.List.{List, [], ◌∷◌}
use Prim.Native.Nat.{ℕ, ◌+◌, ◌*◌, ◌≤◌}
use native.Mathlib.Omega.{arith}
use lib.ListN.{length}
use Rattle.words.specs.Word.{word}
use Rattle.words.specs.Kept.{Kept}
use Rattle.words.proofs.KeptLaws.{word_below, word_above}
use Rattle.format.specs.Terms.{Term, atomic, id, label, sequence, tensor, empty, alternation, assert, defined, fields}
use Rattle.input_arities.specs.Layout.{frames_end, arities_end}
use Rattle.input_arities.specs.Arities.{arities, Listed, Ahead}

-- one for each tensor: less than half of the fields
pub arities-length : (t : Term) (xs : List ℕ) → 2 * length (arities t xs) + 1 ≤ fields t + 2 * length xs
unfolding arities fields
arities-length (atomic a) xs = omega arith
arities-length id xs = omega arith
arities-length (label l t) xs = omega (arith, arities-length t xs)
arities-length (sequence t u) xs = omega (arith, arities-length t (arities u xs), arities-length u xs)
arities-length (tensor t u) xs = omega (arith, arities-length t (arities u xs), arities-length u xs)
arities-length empty xs = omega arith
arities-length (alternation t u) xs = omega arith
arities-length (assert γ) xs = omega arith
arities-length (defined n) xs = omega arith

-- a write before or behind them leaves them
pub listed_kept : (w w' : List ℕ) (a b : ℕ) → Kept w w' a b → (xs : List ℕ) (at : ℕ) → (b ≤ at) ⊎ (at + 2 * length xs ≤ a) → Listed w at xs → Listed w' at xs
unfolding Listed
listed_kept w w' a b k [] at o x = tt
listed_kept w w' a b k (y ∷ xs) at (inl h) x = (word_above w w' a b k at h ∙ x.0, listed_kept w w' a b k xs (at + 2) (inl (omega arith)) x.1)
listed_kept w w' a b k (y ∷ xs) at (inr h) x = (word_below w w' a b k at (omega arith) ∙ x.0, listed_kept w w' a b k xs (at + 2) (inr (omega arith)) x.1)

pub ahead_kept : (w w' : List ℕ) (a b at : ℕ) (xs : List ℕ) → Kept w w' a b → (b ≤ frames_end) ⊎ (arities_end ≤ a) → Ahead w at xs → Ahead w' at xs
ahead_kept w w' a b at xs k (inl h) x = record { listed = listed_kept w w' a b k xs at (inl (omega (arith, x.above))) x.listed; above = x.above; below = x.below }
ahead_kept w w' a b at xs k (inr h) x = record { listed = listed_kept w w' a b k xs at (inr (omega (arith, x.below))) x.listed; above = x.above; below = x.below }

-- the first of them, and the others
pub ahead_first : (w : List ℕ) (at y : ℕ) (xs : List ℕ) → Ahead w at (y ∷ xs) → (word w at ≡ y) × Ahead w (at + 2) xs × (at + 2 ≤ arities_end)
unfolding Listed
ahead_first w at y xs x = (x.listed.0, record { listed = x.listed.1; above = omega (arith, x.above); below = omega (arith, x.below) }, omega (arith, x.below))
