-- The terms of an outline's last fields: a field takes its inner terms from those behind it, so that fields are read from the last to the first.
use Rattle.std.specs.Prelude.{ℕ, ◌+◌, ◌≡◌, List, [], ◌∷◌, get_or}
use Rattle.words.specs.Word.{word}
use Rattle.format.specs.declared.values.RuleName.{RuleName}
use Rattle.format.specs.declared.values.Label.{Label}
use Rattle.format.specs.Terms.{Term, atomic, id, label, sequence, tensor, empty}

-- `Built w count at ts`: the fields from the place `at` up to `count` make the terms ts, one behind the other.
pub data Built (w : List ℕ) (count : ℕ) : (at : ℕ) → List Term → Type 0 where
  B-End : {at : ℕ} → at ≡ count → Built w count at []
  B-Atomic : {at : ℕ} {a : RuleName} {ts : List Term} → get_or w at 0 ≡ 16 → word w (at + 1) ≡ a.0 → Built w count (at + 3) ts → Built w count at (atomic a ∷ ts)
  B-Identity : {at : ℕ} {ts : List Term} → get_or w at 0 ≡ 17 → Built w count (at + 3) ts → Built w count at (id ∷ ts)
  B-Label : {at : ℕ} {l : Label} {t : Term} {ts : List Term} → get_or w at 0 ≡ 18 → word w (at + 1) ≡ l.0 → Built w count (at + 3) (t ∷ ts) → Built w count at (label l t ∷ ts)
  B-Sequence : {at : ℕ} {t u : Term} {ts : List Term} → get_or w at 0 ≡ 19 → Built w count (at + 3) (t ∷ u ∷ ts) → Built w count at (sequence t u ∷ ts)
  B-Tensor : {at : ℕ} {t u : Term} {ts : List Term} → get_or w at 0 ≡ 20 → Built w count (at + 3) (t ∷ u ∷ ts) → Built w count at (tensor t u ∷ ts)
  B-Empty : {at : ℕ} {ts : List Term} → get_or w at 0 ≡ 21 → Built w count (at + 3) ts → Built w count at (empty ∷ ts)
