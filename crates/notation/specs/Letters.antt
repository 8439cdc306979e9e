-- P8: the bytes of the notation.
use Rattle.std.specs.Prelude.{ℕ, ◌≤◌, ◌<◌, Bool, false, cond, ltb}

-- "blanks (byte 32 only)"
abbrev pub blank : ℕ
blank = 32

abbrev pub letter_a : ℕ
letter_a = 97

abbrev pub question : ℕ
question = 63

abbrev pub letter_t : ℕ
letter_t = 84

abbrev pub letter_i : ℕ
letter_i = 105

abbrev pub letter_d : ℕ
letter_d = 100

-- `<` and `>`
abbrev pub less : ℕ
less = 60

abbrev pub greater : ℕ
greater = 62

-- `[` and `]`
abbrev pub left_square : ℕ
left_square = 91

abbrev pub right_square : ℕ
right_square = 93

-- `(` and `)`
abbrev pub left_round : ℕ
left_round = 40

abbrev pub right_round : ℕ
right_round = 41

-- `;`, `|` and `*`
abbrev pub semicolon_byte : ℕ
semicolon_byte = 59

abbrev pub bar_byte : ℕ
bar_byte = 124

abbrev pub star_byte : ℕ
star_byte = 42

-- the digits 0 to 9
abbrev pub IsDigit : ℕ → Type 0
IsDigit b = (48 ≤ b) × (b < 58)

unfoldable pub is_digit : ℕ → Bool
is_digit b = cond (ltb b 48) false (ltb b 58)
