-- P8: what is met in a text, in the words of the notation itself.
use Rattle.std.specs.Prelude.{ℕ, ◌+◌, ◌≤◌, ◌<◌, ◌≡◌, Bool, true, false, List, [], ◌∷◌, ◌++◌, length}
use Rattle.format.specs.Limits.{most_term_fields}
use Rattle.format.specs.Terms.{Term, fields}
use Rattle.format.specs.Encoding.{TermValues}
use Rattle.notation.specs.Letters.{letter_a, question, letter_t, left_square, is_digit}
use Rattle.notation.specs.Marks.{Sign, Leaf, rule_leaf, id_leaf, empty_leaf, goal_leaf, tactic_leaf, Mark, leaf, label_mark, sign, opening, closing, Number, Spells, Spelled}
use Rattle.notation.specs.Grammar.{ReadsAs}
use Rattle.notation.specs.Passing.{Passes, field_marks, MarkValue, MarkValues}
use Rattle.notation.specs.Scans.{most_value}

-- a text of the notation can begin with these bytes
pub record Viable (p : List ℕ) : Type 0 where
  pub more : List ℕ
  pub term : Term
  pub reads : ReadsAs (p ++ more) term

-- the text does not begin with a digit
abbrev pub NoDigit : List ℕ → Type 0
NoDigit [] = Unit {0}
NoDigit (b ∷ s) = is_digit b ≡ false

-- whole marks that may stand one behind the other, in which neither 37 nor 5 is met: an operand is due or was read, and so many fields are made
pub record Unrefused (q : List ℕ) (due : Bool) (count : ℕ) : Type 0 where
  pub marks : List Mark
  pub depth : ℕ
  pub spelled : Spelled q marks
  pub passes : Passes true 0 marks due depth
  pub values : MarkValues marks
  pub counts : field_marks marks ≡ count
  pub few : count ≤ most_term_fields

-- the marks that have a number
pub data Numbered : Type 0 where
  of_rule : Numbered
  of_goal : Numbered
  of_tactic : Numbered
  of_label : Numbered

abbrev pub head_of : Numbered → ℕ
head_of of_rule = letter_a
head_of of_goal = question
head_of of_tactic = letter_t
head_of of_label = left_square

-- "37, a value over 65,535, at its first digit, when its last digit is read": before it nothing else was met
pub record Large (text : List ℕ) (p : ℕ) : Type 0 where
  pub before : List ℕ
  pub kind : Numbered
  pub digits : List ℕ
  pub rest : List ℕ
  pub value : ℕ
  pub count : ℕ
  pub is : text ≡ before ++ (head_of kind ∷ (digits ++ rest))
  pub unrefused : Unrefused before true count
  pub numbered : Number digits value
  pub over : most_value < value
  pub last : NoDigit rest
  pub viable : Viable (before ++ (head_of kind ∷ digits))
  pub place : p ≡ length before + 1

-- the last digit of a leaf is its last before what is no digit; every other mark shows its end itself
abbrev pub LastOf : Mark → List ℕ → Type 0
LastOf (leaf (rule_leaf n)) rest = NoDigit rest
LastOf (leaf (goal_leaf n)) rest = NoDigit rest
LastOf (leaf (tactic_leaf n)) rest = NoDigit rest
LastOf (leaf id_leaf) rest = Unit {0}
LastOf (leaf empty_leaf) rest = Unit {0}
LastOf (label_mark n) rest = Unit {0}
LastOf (sign s) rest = Unit {0}
LastOf opening rest = Unit {0}
LastOf closing rest = Unit {0}

-- a mark that makes a field, where an operand is due or was read
pub data FieldAt : (due : Bool) → Mark → Type 0 where
  a_leaf : {w : Leaf} → FieldAt true (leaf w)
  a_label : {n : ℕ} → FieldAt true (label_mark n)
  a_sign : {s : Sign} → FieldAt false (sign s)

-- "5 comes at the mark that makes the 4,097th term field, once complete and after any 37": before it nothing else was met
pub record Full (text : List ℕ) (p : ℕ) : Type 0 where
  pub before : List ℕ
  pub mark : Mark
  pub bytes : List ℕ
  pub rest : List ℕ
  pub due : Bool
  pub is : text ≡ before ++ (bytes ++ rest)
  pub unrefused : Unrefused before due most_term_fields
  pub spells : Spells mark bytes
  pub field : FieldAt due mark
  pub value : MarkValue mark
  pub last : LastOf mark rest
  pub viable : Viable (before ++ bytes)
  pub place : p ≡ length before

-- "36, the first byte after which no text of the notation can follow, or the end if it comes early"
pub record Wrong (text : List ℕ) (p : ℕ) : Type 0 where
  pub before : List ℕ
  pub rest : List ℕ
  pub is : text ≡ before ++ rest
  pub place : p ≡ length before
  pub viable : Viable before
  pub no_more : (b : ℕ) (s : List ℕ) → rest ≡ b ∷ s → Viable (before ++ (b ∷ [])) → ⊥
  pub no_end : rest ≡ [] → (t : Term) → ReadsAs text t → ⊥

-- the text reads as a term within the limits
pub record Fits (text : List ℕ) : Type 0 where
  pub term : Term
  pub reads : ReadsAs text term
  pub values : TermValues term
  pub few : fields term ≤ most_term_fields
