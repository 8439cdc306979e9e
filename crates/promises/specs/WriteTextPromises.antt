-- Document 02, P8, for the entry write_text, as statements about its definition: "Text written from a term reads as that term", and how it is written.
use Rattle.std.specs.Prelude.{ℕ, ◌≤◌, ◌<◌, ◌≡◌, ◌↔◌, List, [], ◌∷◌, ◌++◌, length}
use Rattle.format.specs.Terms.{Term}
use Rattle.format.specs.Encoding.{Bytes, term_bytes}
use Rattle.files.specs.Within.{TermFileWithin}
use Rattle.notation.specs.Letters.{left_round, right_round}
use Rattle.notation.specs.Marks.{Mark}
use Rattle.notation.specs.Grammar.{End, Reads, sequences, ReadsAs}
use Rattle.notation.specs.Spacing.{Spaced}
use Rattle.answers.specs.Answers as answer
use Rattle.entries.specs.Texts.{read_text_work, write_text_work, read_text, write_text}
use Rattle.promises.specs.Ended.{InOther, EndsWritten}
use Rattle.promises.specs.WriteProofPromises.{wrote}

-- the text that is written for a term file
pub record WritesText (file : List ℕ) (t : Term) : Type 0 where
  pub text : List ℕ
  pub writes : (w o : List ℕ) → write_text_work ≤ length w → length text ≤ length o → write_text file w o ≡ wrote text w o
  pub no_room : (w o : List ℕ) → write_text_work ≤ length w → length o < length text → (write_text file w o).answer ≡ answer.refusal 26 0 0 0
  pub longest : length text ≤ 28671
  -- "Text written from a term reads as that term"
  pub reads : ReadsAs text t
  pub reads_back : (w o : List ℕ) → read_text_work ≤ length w → length file ≤ length o → read_text text w o ≡ wrote file w o
  -- "brackets only where leaving them out would read as another term": without an opening bracket and a closing one behind it the text does not read as the term
  pub brackets : (a b c : List ℕ) → text ≡ a ++ (left_round ∷ (b ++ (right_round ∷ c))) → ReadsAs (a ++ (b ++ c)) t → ⊥
  -- "one blank each side of a sign and none elsewhere, and a decimal number without leading zeros"
  pub marks : List Mark
  pub end : End
  pub marks_read : Reads sequences end marks t
  pub spaced : Spaced marks text

-- a file is written exactly if it is the bytes of a term within the limits
abbrev pub WriteText-writes : Type 0
WriteText-writes = (t : Term) → TermFileWithin t → WritesText (term_bytes t) t

abbrev pub WriteText-only : Type 0
WriteText-only = (file w o : List ℕ) → Bytes file → (write_text file w o).answer.number ≡ 0 → (t : Term) × (file ≡ term_bytes t) × TermFileWithin t

-- Demand 1: 1 to 5 of the term file, then 26; the entry has no refusals of its own, and there is no table
abbrev pub NoneOwn : (number place : ℕ) → Type 0
NoneOwn n q = ⊥

pub record EndsTerm (file work out : List ℕ) : Type 0 where
  pub ends : EndsWritten [] file work out write_text_work (InOther NoneOwn) (write_text file work out)
  pub no_table : (write_text file work out).answer.file ≡ 1 → ⊥

abbrev pub WriteText-ends : Type 0
WriteText-ends = (file work out : List ℕ) → EndsTerm file work out
