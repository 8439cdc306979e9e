-- What the scan comes to at a blank and at a digit, and behind the last digit.
-- Assumes nothing.
use mathlib.Core.Path.{◌≡◌, refl, sym, ap, ◌∙◌, subst}
use mathlib.Core.Bool.{Bool, true, false, cond}
use mathlib.Core.List.{List, [], ◌∷◌}
use mathlib.Core.Option.{Option}
use Prim.Native.Nat.{ℕ, ◌+◌, ◌*◌, ◌-◌, ◌≤◌, ◌<◌}
use native.Mathlib.Decide.{dec_lt}
use native.Mathlib.Numerals.{add-one}
use native.Mathlib.Omega.{arith}
use Rattle.std.specs.Char.{is_ascii_digit}
use Rattle.std.proofs.lemmas.Bool.Decides.{nat_tests}
use lib.Dec.{ltb}
use lib.ListN.{length, get_or, drop, drop_of_length-le}
use lib.Seq.{drop-cons}
use borrow.Author.Tests.{ltb-true, ltb-false}
use Rattle.format.specs.Results.{refused, and_then}
use Rattle.format.specs.declared.refusals.Cause.TheVariants.{TextWrong}
use Rattle.notation.specs.Letters.{is_digit}
use Rattle.notation.specs.Marks.{Mark}
use Rattle.notation.specs.Meets.{NoDigit}
use Rattle.notation.specs.MarksIn.{number_in, mark_at, with_mark, marks_in}
use Rattle.notation.specs.Scans as M
use Rattle.notation.specs.Scans.{most_value, scanned, on_due, on_had, digit_more, on_digits, on_label_digits, on_begun, on_label_begun, step_in, step, end_in, at_end, scan}
use Rattle.notation.proofs.TextLaws.{digit_none}
use Rattle.notation.proofs.MeetLaws.{digit_is}
use Rattle.notation.proofs.ScanLaws.{mode_of}
use Rattle.text_reader.specs.Places.{Passed, NumeralRead}

-- the byte at a place, and those behind it
pub here : (s : List ℕ) (at : ℕ) → at < length s → drop at s ≡ get_or s at 0 ∷ drop (at + 1) s
here s at h = rw (add-one, drop-cons s at 0)

pub at_end_lem : (s : List ℕ) (at : ℕ) → length s ≤ at → drop at s ≡ []
at_end_lem s at h = drop_of_length-le s h

-- a blank
pub blank-scan : (due : Bool) (k d f z at : ℕ) (r : List ℕ) → scan (scanned (mode_of due) k d f z) at (32 ∷ r) ≡ scan (scanned (mode_of due) k d f z) (at + 1) r
unfolding scan step step_in on_due on_had and_then
blank-scan true k d f z at r = refl
blank-scan false k d f z at r = refl

pub blank_marks : (r : List ℕ) → marks_in (32 ∷ r) ≡ marks_in r
unfolding marks_in mark_at with_mark
blank_marks r = refl

-- the library's test of a digit is that of the notation
pub digit_same : (b : ℕ) → is_ascii_digit b ≡ is_digit b
unfolding is_digit
digit_same b = grind (arith, nat_tests)

-- a digit
module _ (b : ℕ) (e : is_digit b ≡ true) where
  first_digit : (k d f z at : ℕ) (r : List ℕ) → scan (scanned M.begun k d f z) at (b ∷ r) ≡ scan (scanned (M.in_digits (b - 48)) k d f z) (at + 1) r
  unfolding scan step step_in on_begun and_then
  first_digit k d f z at r = rw e

  first_label_digit : (k d f z at : ℕ) (r : List ℕ) → scan (scanned M.label_begun k d f z) at (b ∷ r) ≡ scan (scanned (M.in_label_digits (b - 48)) k d f z) (at + 1) r
  unfolding scan step step_in on_label_begun and_then
  first_label_digit k d f z at r = rw e

  next_digit : (v k d f z at : ℕ) (r : List ℕ) → scan (scanned (M.in_digits v) k d f z) at (b ∷ r) ≡ scan (scanned (M.in_digits (digit_more v b)) k d f z) (at + 1) r
  unfolding scan step step_in on_digits and_then
  next_digit v k d f z at r = rw e

  next_label_digit : (v k d f z at : ℕ) (r : List ℕ) → scan (scanned (M.in_label_digits v) k d f z) at (b ∷ r) ≡ scan (scanned (M.in_label_digits (digit_more v b)) k d f z) (at + 1) r
  unfolding scan step step_in on_label_digits and_then
  next_label_digit v k d f z at r = rw e

  digit_marks : (r : List ℕ) → marks_in (b ∷ r) ≡ marks_in r
  unfolding marks_in with_mark
  digit_marks r = ap (λ (o : Option Mark). with_mark o (marks_in r)) (digit_none b r (digit_is b e))

  digit_value : (v : ℕ) (r : List ℕ) → number_in v (b ∷ r) ≡ number_in (v * 10 + (b - 48)) r
  unfolding number_in
  digit_value v r = rw e

digit_first : (b : ℕ) → digit_more 0 b ≡ b - 48
unfolding digit_more
digit_first b = plus (b - 48)
  where
    plus : (n : ℕ) → 0 * 10 + n ≡ n
    plus n = omega arith

-- a value that is not too large has been so all along
digit_small : (v b : ℕ) → digit_more v b ≤ most_value → (v ≤ most_value) × (digit_more v b ≡ v * 10 + (b - 48))
unfolding digit_more
digit_small v b h = go (ltb most_value v) refl h
  where
    go : (x : Bool) → ltb most_value v ≡ x → cond x v (v * 10 + (b - 48)) ≤ most_value → (v ≤ most_value) × (cond x v (v * 10 + (b - 48)) ≡ v * 10 + (b - 48))
    go true e h = absurd (omega (arith, ltb-true most_value v e))
    go false e h = (ltb-false most_value v e, refl)

module _ (s : List ℕ) (from v at : ℕ) (x : Passed s from v at) (h : at < length s) (e : is_digit (get_or s at 0) ≡ true) where
  leaves_more : (k d f z : ℕ) → scan (scanned M.begun k d f z) from (drop from s) ≡ scan (scanned (M.in_digits (digit_more v (get_or s at 0))) k d f z) (at + 1) (drop (at + 1) s)
  leaves_more k d f z = go (dec_lt from at)
    where
      b : ℕ
      b = get_or s at 0

      go : Dec (from < at) → scan (scanned M.begun k d f z) from (drop from s) ≡ scan (scanned (M.in_digits (digit_more v (get_or s at 0))) k d f z) (at + 1) (drop (at + 1) s)
      go (yes l) = x.leaves l k d f z ∙ ap (scan (scanned (M.in_digits v) k d f z) at) (here s at h) ∙ next_digit (get_or s at 0) e v k d f z at (drop (at + 1) s)
      go (no l) =
          let up = x.rises in
          let same : at ≡ from = omega arith in
          let zero_is : v ≡ 0 = x.none same in
          let value_is : get_or s at 0 - 48 ≡ digit_more v (get_or s at 0) = sym (digit_first (get_or s at 0)) ∙ ap (λ (i : ℕ). digit_more i (get_or s at 0)) (sym zero_is) in
          ap (λ (i : ℕ). scan (scanned M.begun k d f z) i (drop i s)) (sym same)
          ∙ ap (scan (scanned M.begun k d f z) at) (here s at h)
          ∙ first_digit (get_or s at 0) e k d f z at (drop (at + 1) s)
          ∙ ap (λ (i : ℕ). scan (scanned (M.in_digits i) k d f z) (at + 1) (drop (at + 1) s)) value_is

  labels_more : (k d f z : ℕ) → scan (scanned M.label_begun k d f z) from (drop from s) ≡ scan (scanned (M.in_label_digits (digit_more v (get_or s at 0))) k d f z) (at + 1) (drop (at + 1) s)
  labels_more k d f z = go (dec_lt from at)
    where
      go : Dec (from < at) → scan (scanned M.label_begun k d f z) from (drop from s) ≡ scan (scanned (M.in_label_digits (digit_more v (get_or s at 0))) k d f z) (at + 1) (drop (at + 1) s)
      go (yes l) = x.labels l k d f z ∙ ap (scan (scanned (M.in_label_digits v) k d f z) at) (here s at h) ∙ next_label_digit (get_or s at 0) e v k d f z at (drop (at + 1) s)
      go (no l) =
          let up = x.rises in
          let same : at ≡ from = omega arith in
          let zero_is : v ≡ 0 = x.none same in
          let value_is : get_or s at 0 - 48 ≡ digit_more v (get_or s at 0) = sym (digit_first (get_or s at 0)) ∙ ap (λ (i : ℕ). digit_more i (get_or s at 0)) (sym zero_is) in
          ap (λ (i : ℕ). scan (scanned M.label_begun k d f z) i (drop i s)) (sym same)
          ∙ ap (scan (scanned M.label_begun k d f z) at) (here s at h)
          ∙ first_label_digit (get_or s at 0) e k d f z at (drop (at + 1) s)
          ∙ ap (λ (i : ℕ). scan (scanned (M.in_label_digits i) k d f z) (at + 1) (drop (at + 1) s)) value_is

  value_more : digit_more v (get_or s at 0) ≤ most_value → number_in 0 (drop from s) ≡ number_in (digit_more v (get_or s at 0)) (drop (at + 1) s)
  value_more l =
      let small = digit_small v (get_or s at 0) l in
      x.value small.0 ∙ ap (number_in v) (here s at h) ∙ digit_value (get_or s at 0) e v (drop (at + 1) s) ∙ ap (λ (i : ℕ). number_in i (drop (at + 1) s)) (sym small.1)

  pub passed_more : Passed s from (digit_more v (get_or s at 0)) (at + 1)
  passed_more =
      let up = x.rises in
      record {
        rises = omega arith;
        placed = omega arith;
        none = λ n. absurd (omega arith);
        leaves = λ l. leaves_more;
        labels = λ l. labels_more;
        marks = x.marks ∙ ap marks_in (here s at h) ∙ digit_marks (get_or s at 0) e (drop (at + 1) s);
        value = value_more;
      }

-- by the value that the code has
pub passed_next : (s : List ℕ) (from v at v' : ℕ) → Passed s from v at → at < length s → is_digit (get_or s at 0) ≡ true → v' ≡ digit_more v (get_or s at 0) → Passed s from v' (at + 1)
passed_next s from v at v' x h digit told = subst (λ (i : ℕ). Passed s from i (at + 1)) (sym told) (passed_more s from v at x h digit)

pub no_digit : (s : List ℕ) (at : ℕ) → at < length s → is_digit (get_or s at 0) ≡ false → NoDigit (drop at s)
no_digit s at h digit = subst NoDigit (sym (here s at h)) digit

pub no_more : (s : List ℕ) (at : ℕ) → length s ≤ at → NoDigit (drop at s)
no_more s at h = subst NoDigit (sym (at_end_lem s at h)) tt

number_stops : (v : ℕ) (r : List ℕ) → NoDigit r → number_in v r ≡ v
unfolding number_in
number_stops v [] h = refl
number_stops v (b ∷ r) h = ap (λ (c : Bool). cond c (number_in (v * 10 + (b - 48)) r) v) h

-- the value of a number that is not too large
pub value_is : (s : List ℕ) (from v to : ℕ) → NumeralRead s from v to → v ≤ most_value → number_in 0 (drop from s) ≡ v
value_is s from v to x h = x.passed.value h ∙ number_stops v (drop to s) x.last

-- a mark is begun and no digit follows
begun_none : (k d f z at : ℕ) (r : List ℕ) → NoDigit r → scan (scanned M.begun k d f z) at r ≡ refused TextWrong at
unfolding scan step step_in on_begun and_then at_end end_in
begun_none k d f z at [] h = refl
begun_none k d f z at (b ∷ r) h = rw h

label_begun_none : (k d f z at : ℕ) (r : List ℕ) → NoDigit r → scan (scanned M.label_begun k d f z) at r ≡ refused TextWrong at
unfolding scan step step_in on_label_begun and_then at_end end_in
label_begun_none k d f z at [] h = refl
label_begun_none k d f z at (b ∷ r) h = rw h

pub no_numeral : (s : List ℕ) (from v to : ℕ) → NumeralRead s from v to → to ≡ from → (k d f z : ℕ) → scan (scanned M.begun k d f z) from (drop from s) ≡ refused TextWrong from
no_numeral s from v to x e k d f z = begun_none k d f z from (drop from s) (subst (λ (i : ℕ). NoDigit (drop i s)) e x.last)

pub no_label_numeral : (s : List ℕ) (from v to : ℕ) → NumeralRead s from v to → to ≡ from → (k d f z : ℕ) → scan (scanned M.label_begun k d f z) from (drop from s) ≡ refused TextWrong from
no_label_numeral s from v to x e k d f z = label_begun_none k d f z from (drop from s) (subst (λ (i : ℕ). NoDigit (drop i s)) e x.last)
