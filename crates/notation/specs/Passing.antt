-- P8: what may follow what, from the first mark to the last: an operand is due or was read, and so many brackets are not closed yet.
use Rattle.std.specs.Prelude.{ℕ, suc, ◌+◌, ◌<◌, Bool, true, false, List, [], ◌∷◌}
use Rattle.notation.specs.Marks.{Sign, Leaf, rule_leaf, id_leaf, empty_leaf, goal_leaf, tactic_leaf, Mark, leaf, label_mark, sign, opening, closing}

-- the marks lead from one such state to another
pub data Passes : (due : Bool) → (depth : ℕ) → List Mark → (due' : Bool) → (depth' : ℕ) → Type 0 where
  rests : {d : Bool} {n : ℕ} → Passes d n [] d n
  past_leaf : {w : Leaf} {ms : List Mark} {d : Bool} {n m : ℕ} → Passes false n ms d m → Passes true n (leaf w ∷ ms) d m
  past_label : {l : ℕ} {ms : List Mark} {d : Bool} {n m : ℕ} → Passes true n ms d m → Passes true n (label_mark l ∷ ms) d m
  past_sign : {s : Sign} {ms : List Mark} {d : Bool} {n m : ℕ} → Passes true n ms d m → Passes false n (sign s ∷ ms) d m
  past_opening : {ms : List Mark} {d : Bool} {n m : ℕ} → Passes true (suc n) ms d m → Passes true n (opening ∷ ms) d m
  past_closing : {ms : List Mark} {d : Bool} {n m : ℕ} → Passes false n ms d m → Passes false (suc n) (closing ∷ ms) d m

-- every mark but the round brackets makes a field
unfoldable pub mark_fields : Mark → ℕ
mark_fields (leaf w) = 1
mark_fields (label_mark n) = 1
mark_fields (sign s) = 1
mark_fields opening = 0
mark_fields closing = 0

unfoldable pub field_marks : List Mark → ℕ
field_marks [] = 0
field_marks (m ∷ ms) = mark_fields m + field_marks ms

-- the bytes that a mark's field has besides those of its inner terms
unfoldable pub mark_size : Mark → ℕ
mark_size (leaf (rule_leaf n)) = 5
mark_size (leaf id_leaf) = 3
mark_size (leaf empty_leaf) = 3
mark_size (leaf (goal_leaf n)) = 5
mark_size (leaf (tactic_leaf n)) = 5
mark_size (label_mark n) = 5
mark_size (sign s) = 3
mark_size opening = 0
mark_size closing = 0

unfoldable pub sizes : List Mark → ℕ
sizes [] = 0
sizes (m ∷ ms) = mark_size m + sizes ms

-- "37, a value over 65,535": the values of marks fit 16 bits
unfoldable pub MarkValue : Mark → Type 0
MarkValue (leaf (rule_leaf n)) = n < 65536
MarkValue (leaf id_leaf) = Unit {0}
MarkValue (leaf empty_leaf) = Unit {0}
MarkValue (leaf (goal_leaf n)) = n < 65536
MarkValue (leaf (tactic_leaf n)) = n < 65536
MarkValue (label_mark n) = n < 65536
MarkValue (sign s) = Unit {0}
MarkValue opening = Unit {0}
MarkValue closing = Unit {0}

abbrev pub MarkValues : List Mark → Type 0
MarkValues [] = Unit {0}
MarkValues (m ∷ ms) = MarkValue m × MarkValues ms
