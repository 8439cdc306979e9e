-- The scan of a text in the code, mark by mark: what holds where it stands between two marks, and what brackets, a numeral and a mark come to.
use Rattle.std.specs.Prelude.{ℕ, Some, None, Option, Ok, Err, ◌+◌, ◌*◌, ◌≤◌, ◌<◌, ◌≡◌, ◌⊎◌, Bool, false, cond, List, leb, length, get_or, drop}
use Rattle.std.specs.Prelude as std
use Rattle.format.specs.Limits.{most_term_fields}
use Rattle.format.specs.declared.refusals.Cause.TheVariants.{LimitPassed, TextWrong, ValueTooLarge}
use Rattle.format.specs.declared.refusals.Refusal.{Refusal}
use Rattle.format.specs.Results.{refused, refused_at}
use Rattle.notation.specs.Meets.{NoDigit}
use Rattle.notation.specs.MarksIn.{number_in, marks_in}
use Rattle.notation.specs.Scans.{most_value, scanned, begins_numbered, is_sign, start, scan}
use Rattle.notation.specs.Scans as M
use Rattle.notation.proofs.ScanLaws.{mode_of}
use Rattle.text_reader.specs.MarkList.{MarksStand}
use Rattle.text_reader.specs.declared.scan.Numeral.{Numeral}
use Rattle.text_reader.specs.declared.scan.ScanState.{ScanState}

-- The marks before a place are in the list; those that are left are the marks of the bytes from there on.
pub record Listed (s w : List ℕ) (at count : ℕ) : Type 0 where
  pub counted : count ≤ at
  pub within : count ≤ length (marks_in s)
  pub rest : drop count (marks_in s) ≡ marks_in (drop at s)
  pub stand : MarksStand w (marks_in s) count

-- The scan of the whole text is that of the bytes from here on. Between two marks the place of the mark begun last, which the definition keeps, has no effect.
pub record Standing (s w : List ℕ) (p : ScanState) : Type 0 where
  pub mark : ℕ
  pub placed : p.at ≤ length s
  pub deep : p.depth ≤ p.at
  pub few : p.fields ≤ most_term_fields
  pub sized : p.size ≤ 5 * p.fields
  pub scans : scan start 0 s ≡ scan (scanned (mode_of p.due) mark p.depth p.fields p.size) p.at (drop p.at s)
  pub listed : Listed s w p.at p.count

-- a byte is left, and the list has room for a mark of each byte
pub record Ready (s w : List ℕ) (p : ScanState) : Type 0 where
  pub standing : Standing s w p
  pub more : p.at < length s
  pub short : length s < 65536
  pub room : 3 * length s ≤ length w

-- Behind what begins at a place: the scan stands further on, or the text is refused.
abbrev pub After : (s w : List ℕ) (from : ℕ) → std.Result ScanState Refusal → Type 0
After s w from (Ok r) = Standing s w r × (from < r.at)
After s w from (Err e) = scan start 0 s ≡ refused e.cause e.place

-- A mark that makes a field is complete, and the next byte is at a place: a field too many is refused where the mark began.
unfoldable pub completed : ScanState → (next : ℕ) → (due : Bool) → (bytes : ℕ) → std.Result ScanState Refusal
completed p next due bytes =
    cond (leb most_term_fields p.fields)
    (refused_at LimitPassed p.at)
    (Ok (record { at = next; due = due; depth = p.depth; fields = p.fields + 1; size = p.size + bytes; count = p.count + 1 }))

-- further on, with so many brackets not closed and so many marks in the list
abbrev pub moved_to : ScanState → (at depth count : ℕ) → ScanState
moved_to p at depth count = record { at = at; due = p.due; depth = depth; fields = p.fields; size = p.size; count = count }

-- Behind blanks and brackets: the scan stands at or behind the place where it stood, and the same is due.
pub record Moved (s w : List ℕ) (p r : ScanState) : Type 0 where
  pub standing : Standing s w r
  pub rises : p.at ≤ r.at
  pub same : r.due ≡ p.due

-- no blank and no bracket that opens comes next
pub record Opened (s w : List ℕ) (p r : ScanState) : Type 0 where
  pub moved : Moved s w p r
  pub no_blank : r.at < length s → get_or s r.at 0 ≡ 32 → ⊥
  pub no_bracket : r.at < length s → get_or s r.at 0 ≡ 40 → ⊥

-- no blank comes next, nor a bracket that closes while one is open
pub record Closed (s w : List ℕ) (p r : ScanState) : Type 0 where
  pub moved : Moved s w p r
  pub no_blank : r.at < length s → get_or s r.at 0 ≡ 32 → ⊥
  pub no_bracket : r.at < length s → get_or s r.at 0 ≡ 41 → r.depth ≡ 0

-- Digits stand from one place to another, of a leaf or of a label; the value is exact where it is not too large.
pub record Passed (s : List ℕ) (from v to : ℕ) : Type 0 where
  pub rises : from ≤ to
  pub placed : to ≤ length s
  pub none : to ≡ from → v ≡ 0
  pub leaves : from < to → (k d f z : ℕ) → scan (scanned M.begun k d f z) from (drop from s) ≡ scan (scanned (M.in_digits v) k d f z) to (drop to s)
  pub labels : from < to → (k d f z : ℕ) → scan (scanned M.label_begun k d f z) from (drop from s) ≡ scan (scanned (M.in_label_digits v) k d f z) to (drop to s)
  pub marks : marks_in (drop from s) ≡ marks_in (drop to s)
  pub value : v ≤ most_value → number_in 0 (drop from s) ≡ number_in v (drop to s)

-- and no digit follows
pub record NumeralRead (s : List ℕ) (from v to : ℕ) : Type 0 where
  pub passed : Passed s from v to
  pub last : NoDigit (drop to s)

-- the number behind the first byte of a mark: its value and the place behind it, or its refusal, where no digit stands and where the value is too large
abbrev pub NumberTold : (s : List ℕ) (from : ℕ) → std.Result Numeral Refusal → Type 0
NumberTold s from (Ok n) = NumeralRead s from n.value n.next × (n.next ≡ from → ⊥) × (n.value ≤ most_value)
NumberTold s from (Err e) =
    (n : Numeral) × NumeralRead s from n.value n.next × (((n.next ≡ from) × (e ≡ record { cause = TextWrong; place = from })) ⊎ ((n.next ≡ from → ⊥) × (most_value < n.value) × (e ≡ record { cause = ValueTooLarge; place = from })))

-- The first byte of a leaf with a number, and the leaf's tag.
pub data LeafByte : (first tag : ℕ) → Type 0 where
  rule : LeafByte 97 16
  goal : LeafByte 63 23
  tactic : LeafByte 84 24

-- the tag of the leaf with a number that a byte begins, if it begins one
abbrev pub LeafTag : (byte : ℕ) → Option ℕ → Type 0
LeafTag b (Some tag) = LeafByte b tag
LeafTag b None = begins_numbered b ≡ false

-- The two bytes of a leaf without a number, and its tag.
pub data TwoBytes : (first second tag : ℕ) → Type 0 where
  identity : TwoBytes 105 100 17
  nothing : TwoBytes 60 62 21

-- The byte of a sign, and its tag.
pub data SignByte : (byte tag : ℕ) → Type 0 where
  semicolon : SignByte 59 19
  star : SignByte 42 20
  bar : SignByte 124 22

-- the tag of a sign, if the byte is one
abbrev pub SignTag : (byte : ℕ) → Option ℕ → Type 0
SignTag b (Some tag) = SignByte b tag
SignTag b None = is_sign b ≡ false
