-- Document 01, "A table and its edges": the line that the check program prints, as bytes. Document 02, P6, adds the rules used.
use Rattle.std.specs.Prelude.{ℕ, cond, List, [], ◌∷◌, ◌++◌, eqb}
use Rattle.notation.specs.Written.{digits}
use Rattle.answers.specs.declared.Answer.{Answer}

-- the numbers of an answer have 32 bits, so ten digits at the most
abbrev pub decimal : ℕ → List ℕ
decimal n = digits 10 n

-- "accepted fields ", " uses ", " open ", " rules "
abbrev pub accepted_text : List ℕ
accepted_text = 97 ∷ 99 ∷ 99 ∷ 101 ∷ 112 ∷ 116 ∷ 101 ∷ 100 ∷ 32 ∷ 102 ∷ 105 ∷ 101 ∷ 108 ∷ 100 ∷ 115 ∷ 32 ∷ []

abbrev pub uses_text : List ℕ
uses_text = 32 ∷ 117 ∷ 115 ∷ 101 ∷ 115 ∷ 32 ∷ []

abbrev pub open_text : List ℕ
open_text = 32 ∷ 111 ∷ 112 ∷ 101 ∷ 110 ∷ 32 ∷ []

abbrev pub rules_text : List ℕ
rules_text = 32 ∷ 114 ∷ 117 ∷ 108 ∷ 101 ∷ 115 ∷ 32 ∷ []

-- "refused ", " file ", " place "
abbrev pub refused_text : List ℕ
refused_text = 114 ∷ 101 ∷ 102 ∷ 117 ∷ 115 ∷ 101 ∷ 100 ∷ 32 ∷ []

abbrev pub file_text : List ℕ
file_text = 32 ∷ 102 ∷ 105 ∷ 108 ∷ 101 ∷ 32 ∷ []

abbrev pub place_text : List ℕ
place_text = 32 ∷ 112 ∷ 108 ∷ 97 ∷ 99 ∷ 101 ∷ 32 ∷ []

abbrev pub line_end : List ℕ
line_end = 10 ∷ []

-- "`accepted fields 11 uses 3 open 0` (term fields, uses, remaining goals) and a line end"; document 02, P6: "The printed accepted line gains `rules 3` at its end in the example."
unfoldable pub accepted_line : Answer → List ℕ
accepted_line a = accepted_text ++ decimal a.fields ++ uses_text ++ decimal a.uses ++ open_text ++ decimal a.remaining ++ rules_text ++ decimal a.rules ++ line_end

-- "`refused 20 file 2 place 5` (number, file, place), and a line end"
unfoldable pub refused_line : Answer → List ℕ
refused_line a = refused_text ++ decimal a.number ++ file_text ++ decimal a.file ++ place_text ++ decimal a.place ++ line_end

unfoldable pub printed_line : Answer → List ℕ
printed_line a = cond (eqb a.number 0) (accepted_line a) (refused_line a)
