-- P8: "Marks: `a12`, `id`, `[3]`, `;`, `|`, `*` for tensor, `<>`, `?30` for assert, `T4`, round brackets and, between marks, before the first or after the last, blanks".
use Rattle.std.specs.Prelude.{ℕ, ◌+◌, ◌*◌, ◌-◌, List, [], ◌∷◌, ◌++◌}
use Rattle.format.specs.Terms.{Term, atomic, id, label, sequence, tensor, empty, alternation, assert, defined}
use Rattle.format.specs.Values.{rule_name, goal, label_of, tactic_no}
use Rattle.notation.specs.Letters.{blank, letter_a, question, letter_t, letter_i, letter_d, less, greater, left_square, right_square, left_round, right_round, semicolon_byte, bar_byte, star_byte, IsDigit}

pub data Sign : Type 0 where
  semicolon : Sign
  bar : Sign
  star : Sign

-- a mark that is a term by itself
pub data Leaf : Type 0 where
  rule_leaf : ℕ → Leaf
  id_leaf : Leaf
  empty_leaf : Leaf
  goal_leaf : ℕ → Leaf
  tactic_leaf : ℕ → Leaf

pub data Mark : Type 0 where
  leaf : Leaf → Mark
  label_mark : ℕ → Mark
  sign : Sign → Mark
  opening : Mark
  closing : Mark

-- the term of a leaf
abbrev pub leaf_term : Leaf → Term
leaf_term (rule_leaf n) = atomic (rule_name n)
leaf_term id_leaf = id
leaf_term empty_leaf = empty
leaf_term (goal_leaf n) = assert (goal n)
leaf_term (tactic_leaf n) = defined (tactic_no n)

-- the term of a label
abbrev pub label_term : ℕ → Term → Term
label_term n t = label (label_of n) t

-- the term of two terms with a sign between them
abbrev pub sign_term : Sign → Term → Term → Term
sign_term semicolon t u = sequence t u
sign_term bar t u = alternation t u
sign_term star t u = tensor t u

abbrev pub sign_byte : Sign → ℕ
sign_byte semicolon = semicolon_byte
sign_byte bar = bar_byte
sign_byte star = star_byte

-- digits that follow a front of that value, and the value of the whole
pub data Digits : (front : ℕ) → List ℕ → (value : ℕ) → Type 0 where
  no_more : {v : ℕ} → Digits v [] v
  more : {v b n : ℕ} {ds : List ℕ} → IsDigit b → Digits (v * 10 + (b - 48)) ds n → Digits v (b ∷ ds) n

-- a number is one digit or more; "The reader takes leading zeros."
pub data Number : List ℕ → (value : ℕ) → Type 0 where
  number : {b n : ℕ} {ds : List ℕ} → IsDigit b → Digits (b - 48) ds n → Number (b ∷ ds) n

-- the bytes that make a mark
pub data Spells : Mark → List ℕ → Type 0 where
  rule : {n : ℕ} {ds : List ℕ} → Number ds n → Spells (leaf (rule_leaf n)) (letter_a ∷ ds)
  identity : Spells (leaf id_leaf) (letter_i ∷ letter_d ∷ [])
  nothing : Spells (leaf empty_leaf) (less ∷ greater ∷ [])
  assertion : {n : ℕ} {ds : List ℕ} → Number ds n → Spells (leaf (goal_leaf n)) (question ∷ ds)
  tactic : {n : ℕ} {ds : List ℕ} → Number ds n → Spells (leaf (tactic_leaf n)) (letter_t ∷ ds)
  labelling : {n : ℕ} {ds : List ℕ} → Number ds n → Spells (label_mark n) (left_square ∷ ds ++ (right_square ∷ []))
  between : (s : Sign) → Spells (sign s) (sign_byte s ∷ [])
  opens : Spells opening (left_round ∷ [])
  closes : Spells closing (right_round ∷ [])

-- a text and its marks; blanks stand between marks, before the first or after the last
pub data Spelled : List ℕ → List Mark → Type 0 where
  ends : Spelled [] []
  blanked : {s : List ℕ} {ms : List Mark} → Spelled s ms → Spelled (blank ∷ s) ms
  marked : {m : Mark} {w s : List ℕ} {ms : List Mark} → Spells m w → Spelled s ms → Spelled (w ++ s) (m ∷ ms)
