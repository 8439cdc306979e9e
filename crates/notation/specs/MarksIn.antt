-- P8: the marks of a text, each known by its first byte: no mark has that byte elsewhere, so that digits, blanks, `d`, `>` and `]` are passed over.
use Rattle.std.specs.Prelude.{ℕ, ◌+◌, ◌*◌, ◌-◌, cond, List, [], ◌∷◌, eqb}
use Rattle.std.proofs.Math.Option.{Option, none, some}
use Rattle.notation.specs.Letters.{letter_a, question, letter_t, letter_i, less, left_square, left_round, right_round, semicolon_byte, bar_byte, star_byte, is_digit}
use Rattle.notation.specs.Marks.{semicolon, bar, star, rule_leaf, id_leaf, empty_leaf, goal_leaf, tactic_leaf, Mark, leaf, label_mark, sign, opening, closing}

-- the value of the digits that stand first, behind a front of that value
unfoldable pub number_in : (front : ℕ) → List ℕ → ℕ
number_in v [] = v
number_in v (b ∷ s) = let n = number_in (v * 10 + (b - 48)) s in cond (is_digit b) n v

-- The mark that a byte begins, with what follows it. Every mark has a first byte that stands nowhere else; digits, blanks, `d`, `>` and `]` begin none.
unfoldable pub mark_at : ℕ → List ℕ → Option Mark
mark_at b s =
    cond (eqb b letter_a) (some (leaf (rule_leaf (number_in 0 s))))
    (cond (eqb b letter_i) (some (leaf id_leaf))
    (cond (eqb b left_square) (some (label_mark (number_in 0 s)))
    (cond (eqb b semicolon_byte) (some (sign semicolon))
    (cond (eqb b bar_byte) (some (sign bar))
    (cond (eqb b star_byte) (some (sign star))
    (cond (eqb b less) (some (leaf empty_leaf))
    (cond (eqb b question) (some (leaf (goal_leaf (number_in 0 s))))
    (cond (eqb b letter_t) (some (leaf (tactic_leaf (number_in 0 s))))
    (cond (eqb b left_round) (some opening)
    (cond (eqb b right_round) (some closing)
    none))))))))))

-- a mark, if one begins, in front of others
unfoldable pub with_mark : Option Mark → List Mark → List Mark
with_mark none ms = ms
with_mark (some m) ms = m ∷ ms

unfoldable pub marks_in : List ℕ → List Mark
marks_in [] = []
marks_in (b ∷ s) = with_mark (mark_at b s) (marks_in s)
