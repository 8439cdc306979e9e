-- P8: "one blank each side of a sign and none elsewhere, and a decimal number without leading zeros", as a relation between marks and a text.
use Rattle.std.specs.Prelude.{ℕ, ◌≡◌, List, [], ◌∷◌, ◌++◌}
use Rattle.notation.specs.Letters.{blank, right_square}
use Rattle.notation.specs.Marks.{Sign, Leaf, Mark, leaf, label_mark, sign, opening, closing, sign_byte, Spells}

-- a mark that is no sign
pub data NoSign : Mark → Type 0 where
  a_leaf : {l : Leaf} → NoSign (leaf l)
  a_label : {n : ℕ} → NoSign (label_mark n)
  an_opening : NoSign opening
  a_closing : NoSign closing

-- the bytes of a mark, where a digit 0 behind the first byte has no digit behind it: the digits of 0 alone begin with it
abbrev pub NoLeadingZero : List ℕ → Type 0
NoLeadingZero w = (head : ℕ) (digit : ℕ) (rest : List ℕ) → w ≡ head ∷ 48 ∷ digit ∷ rest → digit ≡ right_square

pub data Spaced : List Mark → List ℕ → Type 0 where
  no_marks : Spaced [] []
  spaced_sign : (s : Sign) {ms : List Mark} {r : List ℕ} → Spaced ms r → Spaced (sign s ∷ ms) (blank ∷ sign_byte s ∷ blank ∷ r)
  spaced_mark : {m : Mark} {w : List ℕ} {ms : List Mark} {r : List ℕ} → NoSign m → Spells m w → NoLeadingZero w → Spaced ms r → Spaced (m ∷ ms) (w ++ r)
