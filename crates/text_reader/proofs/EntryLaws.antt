-- What the entry read_text comes to, by what the scan tells.
-- Assumes nothing.
use Rattle.std.specs.Prelude.{Ok, Err}
use Rattle.std.specs.Prelude as std
use mathlib.Core.Path.{◌≡◌, refl, sym, ap, ◌∙◌, subst}
use mathlib.Core.List.{List, [], ◌∷◌, ◌++◌}
use mathlib.Core.Option.{Option, none, some}
use Prim.Native.Nat.{ℕ, ◌+◌, ◌≤◌, ◌<◌}
use native.Mathlib.Omega.{arith}
use lib.ListN.{length, take, drop}
use lib.Seq.{length-take-le}
use borrow.Author.Tests.{lt-ltb, le-ltb}
use Rattle.format.specs.Limits.{most_bytes}
use Rattle.format.specs.declared.refusals.Refusal.{Refusal}
use Rattle.format.specs.Refusals.{number}
use Rattle.format.specs.Results.{gives, refused, and_then}
use Rattle.format.specs.Encoding.{term_bytes}
use Rattle.format.proofs.Encoded.{length-term_bytes}
use Rattle.files.proofs.Sizes.{size_most}
use Rattle.answers.specs.Answers.{refusal}
use Rattle.entries.specs.Outcomes.{other_file, done}
use Rattle.entries.specs.LentSpace.{write_out}
use Rattle.entries.specs.Left.{kept, left_in}
use Rattle.entries.specs.Texts.{read_text_outcome}
use Rattle.notation.specs.Marks.{Mark}
use Rattle.notation.specs.Passing.{sizes}
use Rattle.notation.specs.MarksIn.{mark_at, with_mark, marks_in}
use Rattle.notation.specs.Scans.{Scan, start, scan}
use Rattle.notation.specs.Parse.{term_found, parse}
use Rattle.notation.proofs.TextLaws.{text_term, spelled_marks}
use Rattle.notation.proofs.PassingLaws.{reads-size}
use Rattle.notation.proofs.MeetLaws.{FitsIn}
use Rattle.notation.proofs.ReaderLaws.{Told, text_told}
use Rattle.notation.proofs.ParseLaws.{verdict_place}
use Rattle.files.proofs.ToldLaws.{answers_tell, told_value, told_cause}
use Rattle.text_reader.specs.declared.scan.Scanned.{Scanned}
use Rattle.text_reader.specs.Shapes.{scan_shape}
use Rattle.text_reader.specs.MarkList.{MarksStand}
use Rattle.text_reader.specs.Held.{frames_end, Prepared}
use Rattle.text_reader.proofs.WholeLaws.{prepared_size}

-- a part at the beginning that was lent
pub front_placed : (size : ℕ) (o l z : List ℕ) → size ≡ length z → l ≡ z → l ++ drop size o ≡ z ++ drop (length z) o
front_placed size o l z e f = λ i. f i ++ drop (e i) o

pub part_length : (size : ℕ) (o : List ℕ) → size ≤ length o → size ≡ length (take size o)
part_length size o h = sym (length-take-le size o h)

-- a text has no more marks than bytes
with_few : (o : Option Mark) (ms : List Mark) → length (with_mark o ms) ≤ 1 + length ms
unfolding with_mark
with_few none ms = omega arith
with_few (some m) ms = omega arith

marks_few : (s : List ℕ) → length (marks_in s) ≤ length s
unfolding marks_in
marks_few [] = omega arith
marks_few (b ∷ s) = omega (arith, with_few (mark_at b s) (marks_in s), marks_few s)

-- a text that is too long
pub long_text : (text out : List ℕ) → most_bytes < length text → kept (refusal 1 other_file 0 0) out ≡ left_in out (read_text_outcome text)
unfolding read_text_outcome parse write_out number
long_text text out h = rw (lt-ltb most_bytes (length text) h)

-- what a success of the scan tells
record Gives (text : List ℕ) (n count z : ℕ) : Type 0 where
  state : Scan
  is : scan start 0 text ≡ gives state
  count_is : count ≡ n
  size_is : state.size ≡ z

module _ (text : List ℕ) where
  abbrev shape : std.Result Scanned Refusal
  shape = scan_shape (length (marks_in text)) (scan start 0 text)

  -- a refusal of the scan, and what a success of it tells
  scan_refused : (r : Refusal) → shape ≡ Err r → scan start 0 text ≡ refused r.cause r.place
  unfolding scan_shape
  scan_refused r h = told_cause answers_tell (λ (σ : Scan). record { count = length (marks_in text); size = σ.size }) (scan start 0 text) r.cause r.place h

  scan_gives : (r : Scanned) → shape ≡ Ok r → Gives text (length (marks_in text)) r.count r.size
  unfolding scan_shape
  scan_gives r h =
      let v = told_value answers_tell (λ (σ : Scan). record { count = length (marks_in text); size = σ.size }) (scan start 0 text) r h in
      record { state = v.0; is = v.1; count_is = sym (ap (λ (t : Scanned). t.count) v.2); size_is = ap (λ (t : Scanned). t.size) v.2 }

  pub refused_place : (r : Refusal) → shape ≡ Err r → r.place ≤ length text
  refused_place r h = verdict_place (subst (Told text) (scan_refused r h) (text_told text))

  pub refused_text_lem : (out : List ℕ) (r : Refusal) → length text ≤ most_bytes → shape ≡ Err r → kept (refusal (number r.cause) other_file r.place 0) out ≡ left_in out (read_text_outcome text)
  unfolding read_text_outcome parse write_out and_then
  refused_text_lem out r l h = rw (le-ltb most_bytes (length text) l, scan_refused r h)

  fits_prepared : {f z count : ℕ} (work : List ℕ) → FitsIn text f z → count ≡ length (marks_in text) → MarksStand work (marks_in text) count → length text ≤ most_bytes → frames_end ≤ length work → Prepared (marks_in text) work count z
  fits_prepared {f} {z} {count} work x all stand l space =
      let y = x.fits in
      let r = y.reads in
      let e = x.size_is in
      let few = y.few in
      record {
        term = y.term;
        found = text_term r;
        total = ap sizes (spelled_marks r.spelled) ∙ reads-size r.read ∙ sym e;
        stand = stand;
        all = all;
        few = omega (arith, marks_few text);
        space = space;
        short = omega (arith, size_most y.term);
      }

  pub found_prepared : (work : List ℕ) (r : Scanned) → shape ≡ Ok r → MarksStand work (marks_in text) r.count → length text ≤ most_bytes → frames_end ≤ length work → Prepared (marks_in text) work r.count r.size
  found_prepared work r h stand l space =
      let g = scan_gives r h in
      let x : FitsIn text g.state.fields g.state.size = subst (Told text) g.is (text_told text) in
      subst (λ (n : ℕ). Prepared (marks_in text) work r.count n) g.size_is (fits_prepared work x g.count_is stand l space)

  pub found_text : (out work : List ℕ) (r : Scanned) → length text ≤ most_bytes → shape ≡ Ok r → (p : Prepared (marks_in text) work r.count r.size) → left_in out (read_text_outcome text) ≡ left_in out (done (term_bytes p.term))
  unfolding read_text_outcome parse and_then term_found
  found_text out work r l h p =
      let g = scan_gives r h in
      let f = p.found in
      rw (le-ltb most_bytes (length text) l, g.is, f) refl

pub term_size_lem : (ms : List Mark) (work : List ℕ) (count z : ℕ) (p : Prepared ms work count z) → z ≡ length (term_bytes p.term)
term_size_lem ms work count z p = prepared_size ms work count z p ∙ sym (length-term_bytes p.term)

-- the same with the length of the part that is lent
abbrev pub recast : {ms : List Mark} {work : List ℕ} {count z : ℕ} (z' : ℕ) → z ≡ z' → Prepared ms work count z → Prepared ms work count z'
recast z' e p = let s = p.short in record { term = p.term; found = p.found; total = p.total ∙ e; stand = p.stand; all = p.all; few = p.few; space = p.space; short = omega arith }
