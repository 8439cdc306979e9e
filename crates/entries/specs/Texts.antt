-- Document 02, P8, "Tactics as text": the entries read_text and write_text.
use Rattle.std.specs.Prelude.{ℕ, List}
use Rattle.format.specs.Encoding.{term_bytes}
use Rattle.files.specs.TermFiles.{read_term_file}
use Rattle.notation.specs.Parse.{parse}
use Rattle.notation.specs.Written.{written}
use Rattle.entries.specs.Outcomes.{Outcome, in_file, done, other_file}
use Rattle.entries.specs.LentSpace.{Written, write_in}

-- 1, then the first met of 36, 37 and 5; else the file of the term
unfoldable pub read_text_outcome : (text : List ℕ) → Outcome (List ℕ)
read_text_outcome text = in_file other_file (parse text) (λ t. done (term_bytes t))

-- 1 to 5; else the text of the term
unfoldable pub write_text_outcome : (term : List ℕ) → Outcome (List ℕ)
write_text_outcome term = in_file other_file (read_term_file term) (λ t. done (written t))

-- the sizes of the work spaces that docs/ENTRIES.md names
abbrev pub read_text_work : ℕ
read_text_work = 196608

abbrev pub write_text_work : ℕ
write_text_work = 36864

unfoldable pub read_text : (text work out : List ℕ) → Written
read_text text work out = write_in read_text_work work out (read_text_outcome text)

unfoldable pub write_text : (term work out : List ℕ) → Written
write_text term work out = write_in write_text_work work out (write_text_outcome term)
