-- Document 02, P8, for the entry read_text, as statements about its definition: "text that reads as a term has that reading only", and where a text is refused.
use Rattle.std.specs.Prelude.{ℕ, ◌≤◌, ◌<◌, ◌≡◌, ◌↔◌, ◌⊎◌, List, [], length}
use Rattle.format.specs.Terms.{Term, fields}
use Rattle.format.specs.Encoding.{term_bytes, TermValues}
use Rattle.notation.specs.Grammar.{ReadsAs}
use Rattle.notation.specs.Meets.{Wrong, Large, Full}
use Rattle.answers.specs.Answers as answer
use Rattle.entries.specs.Texts.{read_text_work, read_text}
use Rattle.promises.specs.Ended.{InOther, EndsWritten}
use Rattle.promises.specs.WriteProofPromises.{wrote}

-- the text reads as the term, within the limits
pub record TextReads (text : List ℕ) (t : Term) : Type 0 where
  pub short : length text ≤ 65535
  pub reads : ReadsAs text t
  pub values : TermValues t
  pub few : fields t ≤ 4096

-- "text that reads as a term has that reading only"
abbrev pub One-reading : Type 0
One-reading = (text : List ℕ) (t u : Term) → ReadsAs text t → ReadsAs text u → t ≡ u

-- 0, with the file of the term, exactly for the texts that read within the limits
pub record ReadsText (text work out : List ℕ) : Type 0 where
  pub written : (t : Term) → TextReads text t → length (term_bytes t) ≤ length out → read_text text work out ≡ wrote (term_bytes t) work out
  pub only : (read_text text work out).answer.number ≡ 0 → (t : Term) × TextReads text t × (length (term_bytes t) ≤ length out)
  -- "26: output space shorter than the result"
  pub no_room : (t : Term) → TextReads text t → length out < length (term_bytes t) → (read_text text work out).answer ≡ answer.refusal 26 0 0 0

abbrev pub ReadText-reads : Type 0
ReadText-reads = (text work out : List ℕ) → read_text_work ≤ length work → ReadsText text work out

-- "36, the first byte after which no text of the notation can follow, or the end if it comes early; 37, a value over 65,535, at its first digit, when its last digit is read.
-- 5 comes at the mark that makes the 4,097th term field, once complete and after any 37; of these three the one met first in the text is given."
pub record RefusesText (text work out : List ℕ) (p : ℕ) : Type 0 where
  pub large : ((read_text text work out).answer ≡ answer.refusal 37 2 p 0) ↔ Large text p
  pub full : ((read_text text work out).answer ≡ answer.refusal 5 2 p 0) ↔ Full text p
  pub wrong : ((read_text text work out).answer ≡ answer.refusal 36 2 p 0) ↔ (Wrong text p × ((q : ℕ) → Large text q → ⊥) × ((q : ℕ) → Full text q → ⊥))

abbrev pub ReadText-refuses : Type 0
ReadText-refuses = (text work out : List ℕ) (p : ℕ) → read_text_work ≤ length work → length text ≤ 65535 → RefusesText text work out p

-- "1: input over 65,535 bytes", before the text is looked at
abbrev pub ReadText-too-long : Type 0
ReadText-too-long = (text work out : List ℕ) → read_text_work ≤ length work → 65535 < length text → (read_text text work out).answer ≡ answer.refusal 1 2 0 0

-- Demand 1: 1 and 5 of the text, 36 and 37, at a place within it or at its end; then 26; there is no table, and there are no fields to be torn, of a wrong tag or of a wrong length
abbrev pub ReadTextRefuses : (text : List ℕ) → (number place : ℕ) → Type 0
ReadTextRefuses text n q = ((n ≡ 36) ⊎ (n ≡ 37)) × (q ≤ length text)

pub record EndsText (text work out : List ℕ) : Type 0 where
  pub ends : EndsWritten [] text work out read_text_work (InOther (ReadTextRefuses text)) (read_text text work out)
  pub no_table : (read_text text work out).answer.file ≡ 1 → ⊥
  pub no_field : 2 ≤ (read_text text work out).answer.number → (read_text text work out).answer.number ≤ 4 → ⊥

abbrev pub ReadText-ends : Type 0
ReadText-ends = (text work out : List ℕ) → EndsText text work out
