-- The fields of a term in the order of the file: from each place on stand whole terms, one behind the other. While the arities are noted, a field's two bytes at the start of the work space hold first the place of the field before it, then its own arity.
use Rattle.std.specs.Prelude.{ℕ, ◌+◌, ◌*◌, ◌/◌, ◌≤◌, ◌≡◌, List, [], ◌∷◌, length}
use Rattle.words.specs.Word.{word}
use Rattle.words.specs.Kept.{Kept}
use Rattle.format.specs.Limits.{most_bytes, most_term_fields}
use Rattle.format.specs.Terms.{Term, atomic, id, label, sequence, tensor, empty, alternation, assert, defined, size, fields}
use Rattle.format.specs.Standing.{Stands}
use Rattle.hitac.specs.Hiproofs.{input_arity}
use Rattle.input_arities.specs.Layout.{stack_end, frames_end, arities_end}
use Rattle.input_arities.specs.Arities.{arities, Listed}

-- The two bytes of a field. Fields begin at least three bytes apart, so no two have the same.
unfoldable pub slot : (at : ℕ) → ℕ
slot at = at / 3 * 2

-- from a field to the next: past a header and a label's value, or past the whole term; the last three forms stand in no hiproof
unfoldable pub width : Term → ℕ
width (atomic a) = 5
width id = 3
width (label l t) = 5
width (sequence t u) = 3
width (tensor t u) = 3
width empty = 3
width (alternation t u) = 3 + size t + size u
width (assert γ) = 5
width (defined n) = 5

-- the terms that stand from the next field on
unfoldable pub after : Term → List Term → List Term
after (atomic a) g = g
after id g = g
after (label l t) g = t ∷ g
after (sequence t u) g = t ∷ u ∷ g
after (tensor t u) g = t ∷ u ∷ g
after empty g = g
after (alternation t u) g = g
after (assert γ) g = g
after (defined n) g = g

unfoldable pub Forest : List ℕ → (at : ℕ) → List Term → Type 0
Forest s at [] = Unit {0}
Forest s at (t ∷ g) = Stands s at t × Forest s (at + size t) g

unfoldable pub total : List Term → ℕ
total [] = 0
total (t ∷ g) = size t + total g

-- the arities of the left terms of their tensors
unfoldable pub all_arities : List Term → List ℕ
all_arities [] = []
all_arities (t ∷ g) = arities t (all_arities g)

-- the fields before a place, back to the first
pub data Past (at : ℕ) (t₀ : Term) : ℕ → List Term → Type 0 where
  first_field : {q : ℕ} {h : List Term} → q ≡ at → h ≡ t₀ ∷ [] → Past at t₀ q h
  next_field : {q : ℕ} {h : List Term} (p : ℕ) (t : Term) (g : List Term) → q ≡ p + width t → h ≡ after t g → Past at t₀ p (t ∷ g) → Past at t₀ q h

-- each of them but the first holds the place of the one before
unfoldable pub Links : {at : ℕ} {t₀ : Term} → List ℕ → (q : ℕ) → {h : List Term} → Past at t₀ q h → Type 0
Links w q (first_field e f) = Unit {0}
Links w q (next_field p t g e f past) = (word w (slot q) ≡ p) × Links w p past

-- every field of a term, and of the terms that stand from a place on, holds its own arity
unfoldable pub Own : List ℕ → (at : ℕ) → Term → Type 0
Own w at (atomic a) = word w (slot at) ≡ 1
Own w at id = word w (slot at) ≡ 1
Own w at (label l t) = (word w (slot at) ≡ 1) × Own w (at + 5) t
Own w at (sequence t u) = (word w (slot at) ≡ input_arity t) × Own w (at + 3) t × Own w (at + 3 + size t) u
Own w at (tensor t u) = (word w (slot at) ≡ input_arity t + input_arity u) × Own w (at + 3) t × Own w (at + 3 + size t) u
Own w at empty = word w (slot at) ≡ 0
Own w at (alternation t u) = word w (slot at) ≡ 0
Own w at (assert γ) = word w (slot at) ≡ 0
Own w at (defined n) = word w (slot at) ≡ 0

unfoldable pub Owns : List ℕ → (at : ℕ) → List Term → Type 0
Owns w at [] = Unit {0}
Owns w at (t ∷ g) = Own w at t × Owns w (at + size t) g

-- a term whose arities are to be noted: there is room for its fields' bytes, and for the arities
pub record Room (s : List ℕ) (at end : ℕ) (w : List ℕ) (t : Term) : Type 0 where
  pub stands : Stands s at t
  pub ends : at + size t ≡ end
  pub slots : slot end ≤ stack_end
  pub small : end ≤ most_bytes
  pub few : fields t ≤ most_term_fields
  pub space : arities_end ≤ length w

-- the last field, from which the links lead back to the first
pub record Threads (at end : ℕ) (t₀ : Term) (w w' : List ℕ) (r : ℕ) : Type 0 where
  pub term : Term
  pub rest : List Term
  pub past : Past at t₀ r (term ∷ rest)
  pub links : Links w' r past
  pub last : r + width term ≡ end
  pub kept : Kept w w' 0 stack_end

-- a tensor's left arity stands at a place of the list, whose next place is r; nothing is listed of another field
unfoldable pub ListedHere : List ℕ → (next : ℕ) → Term → (r : ℕ) → Type 0
ListedHere w next (atomic a) r = r ≡ next
ListedHere w next id r = r ≡ next
ListedHere w next (label l t) r = r ≡ next
ListedHere w next (sequence t u) r = r ≡ next
ListedHere w next (tensor t u) r = (word w next ≡ input_arity t) × (r ≡ next + 2)
ListedHere w next empty r = r ≡ next
ListedHere w next (alternation t u) r = r ≡ next
ListedHere w next (assert γ) r = r ≡ next
ListedHere w next (defined n) r = r ≡ next

-- the first of the terms from a place on, whose left arity is to be listed: its own arities are known, and there is room
pub record Listable (s : List ℕ) (at : ℕ) (w : List ℕ) (next : ℕ) (t : Term) (g : List Term) : Type 0 where
  pub stands : Stands s at t
  pub owns : Owns w at (t ∷ g)
  pub slots : slot (at + size t) ≤ stack_end
  pub small : at + size t ≤ most_bytes
  pub above : frames_end ≤ next
  pub below : next + 2 * length (all_arities (t ∷ g)) ≤ arities_end
  pub space : arities_end ≤ length w

-- the left arities of a term are listed
pub record Lists (w w' : List ℕ) (t : Term) : Type 0 where
  pub listed : Listed w' frames_end (arities t [])
  pub kept : Kept w w' frames_end arities_end
