-- P8: "The writer uses brackets only where leaving them out would read as another term (round the label itself if it would reach too far), one blank each side of a sign and none elsewhere, and a decimal number without leading zeros."
use Rattle.std.specs.Prelude.{ℕ, zero, suc, ◌+◌, ◌/◌, ◌%◌, Bool, true, false, cond, List, [], ◌∷◌, ◌++◌, ltb}
use Rattle.format.specs.Terms.{Term, atomic, id, label, sequence, tensor, empty, alternation, assert, defined}
use Rattle.notation.specs.Letters.{blank, letter_a, question, letter_t, letter_i, letter_d, less, greater, left_square, right_square, left_round, right_round}
use Rattle.notation.specs.Marks.{Sign, semicolon, bar, star, rule_leaf, id_leaf, empty_leaf, goal_leaf, tactic_leaf, Mark, leaf, label_mark, sign, opening, closing, sign_byte}

-- how tight a sign binds
abbrev pub rank : Sign → ℕ
rank semicolon = 0
rank bar = 1
rank star = 2

-- two parts with a sign between them; a sign looser than `binds` needs brackets here, and inside brackets nothing follows
unfoldable pub chain : Sign → (binds : ℕ) → (followed : Bool) → (left : List Mark) → (right : Bool → List Mark) → List Mark
chain s b f left right =
    cond (ltb (rank s) b) (opening ∷ ((left ++ (sign s ∷ right false)) ++ (closing ∷ [])))
    (left ++ (sign s ∷ right f))

-- a label with its contents; one that a sign follows before the next closing bracket would reach too far
unfoldable pub bracketed_if : (followed : Bool) → List Mark → List Mark
bracketed_if f ms = cond f (opening ∷ (ms ++ (closing ∷ []))) ms

-- The marks of a term, where a sign looser than `binds` needs brackets; `followed` says that a sign comes behind the term before the next closing bracket.
unfoldable pub marks_of : Term → (binds : ℕ) → (followed : Bool) → List Mark
marks_of (atomic a) b f = leaf (rule_leaf a.0) ∷ []
marks_of id b f = leaf id_leaf ∷ []
marks_of (label l t) b f = bracketed_if f (label_mark l.0 ∷ marks_of t 0 false)
marks_of (sequence t u) b f = chain semicolon b f (marks_of t 1 true) (marks_of u 0)
marks_of (tensor t u) b f = chain star b f (marks_of t 3 true) (marks_of u 2)
marks_of empty b f = leaf empty_leaf ∷ []
marks_of (alternation t u) b f = chain bar b f (marks_of t 2 true) (marks_of u 1)
marks_of (assert γ) b f = leaf (goal_leaf γ.0) ∷ []
marks_of (defined n) b f = leaf (tactic_leaf n.0) ∷ []

-- a number in base ten, of at most so many digits; 48 is the digit 0
unfoldable pub digits : (most : ℕ) → ℕ → List ℕ
digits zero n = []
digits (suc m) n = let front = digits m (n / 10) in cond (ltb n 10) ((48 + n) ∷ []) (front ++ ((48 + n % 10) ∷ []))

-- a value has 16 bits, so five digits at the most
unfoldable pub decimal : ℕ → List ℕ
decimal n = digits 5 n

-- the bytes written for a mark, "one blank each side of a sign and none elsewhere"
unfoldable pub mark_bytes : Mark → List ℕ
mark_bytes (leaf (rule_leaf n)) = letter_a ∷ decimal n
mark_bytes (leaf id_leaf) = letter_i ∷ letter_d ∷ []
mark_bytes (leaf empty_leaf) = less ∷ greater ∷ []
mark_bytes (leaf (goal_leaf n)) = question ∷ decimal n
mark_bytes (leaf (tactic_leaf n)) = letter_t ∷ decimal n
mark_bytes (label_mark n) = left_square ∷ (decimal n ++ (right_square ∷ []))
mark_bytes (sign s) = blank ∷ sign_byte s ∷ blank ∷ []
mark_bytes opening = left_round ∷ []
mark_bytes closing = right_round ∷ []

unfoldable pub text_of : List Mark → List ℕ
text_of [] = []
text_of (m ∷ ms) = mark_bytes m ++ text_of ms

-- the text of a term
unfoldable pub written : Term → List ℕ
written t = text_of (marks_of t 0 false)
