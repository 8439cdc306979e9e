-- A text has one reading at the most; what is written reads as the term; and no pair of its brackets can be left out.
-- Assumes nothing.
use mathlib.Core.Path.{◌≡◌, refl, ap, ◌∙◌}
use mathlib.Core.Bool.{Bool, true, false, cond}
use mathlib.Core.List.{List, [], ◌∷◌, ◌++◌, append_assoc}
use mathlib.Core.Option.{Option, none, some}
use Prim.Native.Nat.{ℕ, ◌+◌, ◌*◌, ◌-◌}
use native.Mathlib.Omega.{arith}
use lib.Dec.{ltb}
use borrow.Author.Tests.{lt-ltb, le-ltb, ne_eqb}
use Rattle.format.specs.Terms.{Term}
use Rattle.notation.specs.Letters.{IsDigit, is_digit}
use Rattle.notation.specs.Marks.{semicolon, bar, star, rule_leaf, goal_leaf, tactic_leaf, Mark, leaf, label_mark, Digits, no_more, more, Number, number, Spells, rule, identity, nothing, assertion, tactic, labelling, between, opens, closes, Spelled, ends, blanked, marked}
use Rattle.notation.specs.Grammar.{ReadsAs}
use Rattle.notation.specs.Meets.{NoDigit}
use Rattle.notation.specs.MarksIn.{number_in, mark_at, with_mark, marks_in}
use Rattle.notation.specs.FromRight.{state_of, term_of}
use Rattle.notation.proofs.FromRightLaws.{reads_term}

pub digit_yes : (b : ℕ) → IsDigit b → is_digit b ≡ true
unfolding is_digit
digit_yes b h = ap (λ (c : Bool). cond c false (ltb b 58)) (le-ltb b 48 h.0) ∙ lt-ltb b 58 h.1

pub spells_start : {m : Mark} {w : List ℕ} → Spells m w → (s : List ℕ) → NoDigit (w ++ s)
unfolding is_digit
spells_start (rule n) s = refl
spells_start identity s = refl
spells_start nothing s = refl
spells_start (assertion n) s = refl
spells_start (tactic n) s = refl
spells_start (labelling n) s = refl
spells_start (between semicolon) s = refl
spells_start (between bar) s = refl
spells_start (between star) s = refl
spells_start opens s = refl
spells_start closes s = refl

pub spelled_start : {s : List ℕ} {ms : List Mark} → Spelled s ms → NoDigit s
unfolding is_digit
spelled_start ends = tt
spelled_start (blanked p) = refl
spelled_start (marked {s = s} w p) = spells_start w s

number_stops : (v : ℕ) (s : List ℕ) → NoDigit s → number_in v s ≡ v
unfolding number_in
number_stops v [] h = refl
number_stops v (b ∷ s) h = ap (λ (c : Bool). cond c (number_in (v * 10 + (b - 48)) s) v) h

digits_in : {v n : ℕ} {ds : List ℕ} → Digits v ds n → (s : List ℕ) → NoDigit s → number_in v (ds ++ s) ≡ n
unfolding number_in
digits_in {v} no_more s h = number_stops v s h
digits_in {v} (more {b = b} {ds = ds} d p) s h = ap (λ (c : Bool). cond c (number_in (v * 10 + (b - 48)) (ds ++ s)) v) (digit_yes b d) ∙ digits_in p s h

pub number_in_lem : {n : ℕ} {ds : List ℕ} → Number ds n → (s : List ℕ) → NoDigit s → number_in 0 (ds ++ s) ≡ n
unfolding number_in
number_in_lem (number {b = b} {n = n} {ds = ds} d p) s h =
    ap (λ (c : Bool). cond c (number_in (0 * 10 + (b - 48)) (ds ++ s)) 0) (digit_yes b d)
    ∙ ap (λ (v : ℕ). number_in v (ds ++ s)) first
    ∙ digits_in p s h
  where
    first : 0 * 10 + (b - 48) ≡ b - 48
    first = omega arith

-- a digit begins no mark
pub digit_none : (b : ℕ) (s : List ℕ) → IsDigit b → mark_at b s ≡ none
unfolding mark_at
digit_none b s d =
    rw (ne_eqb b 97 (omega arith), ne_eqb b 105 (omega arith), ne_eqb b 91 (omega arith), ne_eqb b 59 (omega arith), ne_eqb b 124 (omega arith), ne_eqb b 42 (omega arith), ne_eqb b 60 (omega arith), ne_eqb b 63 (omega arith), ne_eqb b 84 (omega arith), ne_eqb b 40 (omega arith), ne_eqb b 41 (omega arith))

pub digits_skipped : {v n : ℕ} {ds : List ℕ} → Digits v ds n → (s : List ℕ) → marks_in (ds ++ s) ≡ marks_in s
unfolding marks_in with_mark
digits_skipped no_more s = refl
digits_skipped (more {b = b} {ds = ds} d p) s = ap (λ (o : Option Mark). with_mark o (marks_in (ds ++ s))) (digit_none b (ds ++ s) d) ∙ digits_skipped p s

pub number_skipped : {n : ℕ} {ds : List ℕ} → Number ds n → (s : List ℕ) → marks_in (ds ++ s) ≡ marks_in s
unfolding marks_in with_mark
number_skipped (number {b = b} {ds = ds} d p) s = ap (λ (o : Option Mark). with_mark o (marks_in (ds ++ s))) (digit_none b (ds ++ s) d) ∙ digits_skipped p s

-- a mark with a number, in front of what begins with no digit
numbered_marks : {n : ℕ} {ds : List ℕ} (f : ℕ → Mark) → Number ds n → (s : List ℕ) → NoDigit s → ◌≡◌ {A = List Mark} (f (number_in 0 (ds ++ s)) ∷ marks_in (ds ++ s)) (f n ∷ marks_in s)
numbered_marks {n} {ds} f p s h = ap {B = List Mark} (λ v. f v ∷ marks_in (ds ++ s)) (number_in_lem p s h) ∙ ap {B = List Mark} (λ l. f n ∷ l) (number_skipped p s)

spells_marks : {m : Mark} {w : List ℕ} → Spells m w → (s : List ℕ) → NoDigit s → marks_in (w ++ s) ≡ m ∷ marks_in s
unfolding marks_in with_mark mark_at is_digit
spells_marks (rule n) s h = numbered_marks (λ v. leaf (rule_leaf v)) n s h
spells_marks identity s h = refl
spells_marks nothing s h = refl
spells_marks (assertion n) s h = numbered_marks (λ v. leaf (goal_leaf v)) n s h
spells_marks (tactic n) s h = numbered_marks (λ v. leaf (tactic_leaf v)) n s h
spells_marks (labelling {n = n} {ds = ds} p) s h =
    ap {B = List Mark} (λ (l : List ℕ). label_mark (number_in 0 l) ∷ marks_in l) (append_assoc ds (93 ∷ []) s)
    ∙ numbered_marks label_mark p (93 ∷ s) refl
spells_marks (between semicolon) s h = refl
spells_marks (between bar) s h = refl
spells_marks (between star) s h = refl
spells_marks opens s h = refl
spells_marks closes s h = refl

-- the marks of a text are those that spell it
pub spelled_marks : {s : List ℕ} {ms : List Mark} → Spelled s ms → marks_in s ≡ ms
unfolding marks_in with_mark mark_at
spelled_marks ends = refl
spelled_marks (blanked p) = spelled_marks p
spelled_marks (marked {m = m} {s = s} w p) = spells_marks w s (spelled_start p) ∙ ap {B = List Mark} (λ l. m ∷ l) (spelled_marks p)

-- a text that reads as a term is read as that term
pub text_term : {s : List ℕ} {t : Term} → ReadsAs s t → term_of (state_of (marks_in s)) ≡ some t
text_term r = ap (λ (ms : List Mark). term_of (state_of ms)) (spelled_marks r.spelled) ∙ reads_term r.read

-- "text that reads as a term has that reading only"
pub one_reading : {s : List ℕ} {t u : Term} → ReadsAs s t → ReadsAs s u → t ≡ u
one_reading p q = let a = text_term p in let b = text_term q in cc
