-- The text written for marks has one blank each side of a sign and none elsewhere, and numbers without leading zeros.
-- Assumes nothing.
use mathlib.Core.Path.{◌≡◌, refl, sym, ap, ◌∙◌}
use mathlib.Core.Bool.{Bool, true, false, cond}
use mathlib.Core.List.{List, [], ◌∷◌, ◌++◌, append-nil}
use Prim.Native.Nat.{ℕ, zero, suc, ◌+◌, ◌≤◌, ◌<◌, ◌/◌, ◌%◌}
use native.Mathlib.Omega.{arith}
use lib.Dec.{ltb}
use borrow.Author.Tests.{lt-ltb, ltb-false}
use Rattle.notation.specs.Letters.{blank, letter_a, question, letter_t, left_square, right_square, left_round, star_byte}
use Rattle.notation.specs.Marks.{star, Spells, rule_leaf, id_leaf, empty_leaf, goal_leaf, tactic_leaf, Mark, leaf, label_mark, sign, opening, closing, rule, identity, nothing, assertion, tactic, labelling, opens, closes}
use Rattle.notation.specs.Passing.{MarkValue, MarkValues}
use Rattle.notation.specs.Written.{digits, decimal, mark_bytes, text_of}
use Rattle.notation.specs.Spacing.{a_leaf, a_label, an_opening, a_closing, NoLeadingZero, Spaced, no_marks, spaced_sign, spaced_mark}
use Rattle.notation.proofs.WrittenText.{tens, decimal-number}

-- a list of digits that begins with 0
alone : (n : ℕ) (r ds : List ℕ) → 1 ≤ n → ◌≡◌ {A = List ℕ} ((48 + n) ∷ r) (48 ∷ ds) → ⊥
alone n r ds h e = let z : 48 + n ≡ 48 = cc in omega arith

longer : (L : List ℕ) (x : ℕ) (ds : List ℕ) → ((d : List ℕ) → L ≡ 48 ∷ d → ⊥) → (L ≡ [] → ⊥) → L ++ (x ∷ []) ≡ 48 ∷ ds → ⊥
longer [] x ds f g e = g refl
longer (b ∷ L) x ds f g e = let z : b ≡ 48 = cc in f L (ap (λ (i : ℕ). i ∷ L) z)

-- a number has digits
some_digits : (m n : ℕ) → digits (suc m) n ≡ [] → ⊥
unfolding digits
some_digits m n = go (ltb n 10) (digits m (n / 10))
  where
    go : (c : Bool) (L : List ℕ) → cond c ((48 + n) ∷ []) (L ++ ((48 + n % 10) ∷ [])) ≡ [] → ⊥
    go true L e = let z : ◌≡◌ {A = ℕ} 0 1 = cc in omega arith
    go false [] e = let z : ◌≡◌ {A = ℕ} 0 1 = cc in omega arith
    go false (b ∷ L) e = let z : ◌≡◌ {A = ℕ} 0 1 = cc in omega arith

-- the digits of a number above 0 do not begin with 0
first_digit : (m n : ℕ) → 1 ≤ n → n < tens (suc m) → (ds : List ℕ) → digits (suc m) n ≡ 48 ∷ ds → ⊥
unfolding digits
first_digit zero n l h ds e = alone n [] ds l (ap (λ (c : Bool). cond {A = List ℕ} c ((48 + n) ∷ []) ((48 + n % 10) ∷ [])) (sym (small n h)) ∙ e)
  where
    small : (n : ℕ) → n < 10 → ltb n 10 ≡ true
    small n h = lt-ltb n 10 h
first_digit (suc m) n l h ds e = go (ltb n 10) refl (λ k. first_digit m (n / 10) k (omega arith)) e
  where
    go : (c : Bool) → ltb n 10 ≡ c → (1 ≤ n / 10 → (d : List ℕ) → digits (suc m) (n / 10) ≡ 48 ∷ d → ⊥) → cond c ((48 + n) ∷ []) (digits (suc m) (n / 10) ++ ((48 + n % 10) ∷ [])) ≡ 48 ∷ ds → ⊥
    go true t ih e = alone n [] ds l e
    go false t ih e = longer (digits (suc m) (n / 10)) (48 + n % 10) ds (ih (tenth n (ltb-false n 10 t))) (some_digits m (n / 10)) e
      where
        tenth : (n : ℕ) → 10 ≤ n → 1 ≤ n / 10
        tenth n h = omega arith

-- only the number 0 begins with 0, and it has one digit
zero_alone : (n : ℕ) → n < 65536 → (ds : List ℕ) → decimal n ≡ 48 ∷ ds → ds ≡ []
unfolding decimal digits
zero_alone zero h ds e = cc
zero_alone (suc n) h ds e = absurd (first_digit 4 (suc n) (omega arith) (omega arith) ds e)

numbered_plain : (head n : ℕ) → n < 65536 → NoLeadingZero (head ∷ decimal n)
numbered_plain head n h a digit rest e =
    let d : decimal n ≡ 48 ∷ digit ∷ rest = cc in
    let z : digit ∷ rest ≡ [] = zero_alone n h (digit ∷ rest) d in
    let k : ◌≡◌ {A = ℕ} 0 1 = cc in absurd (omega arith)

label_plain : (n : ℕ) → n < 65536 → NoLeadingZero (left_square ∷ (decimal n ++ (right_square ∷ [])))
label_plain n h a digit rest e = let d : decimal n ++ (right_square ∷ []) ≡ 48 ∷ digit ∷ rest = cc in go (decimal n) (zero_alone n h) d
  where
    go : (L : List ℕ) → ((ds : List ℕ) → L ≡ 48 ∷ ds → ds ≡ []) → L ++ (right_square ∷ []) ≡ 48 ∷ digit ∷ rest → digit ≡ right_square
    go [] f d = let z : right_square ≡ 48 = cc in absurd (omega arith)
    go (b ∷ []) f d = cc
    go (b ∷ c ∷ L) f d =
        let z : b ≡ 48 = cc in
        let y : c ∷ L ≡ [] = f (c ∷ L) (ap (λ (i : ℕ). i ∷ c ∷ L) z) in
        let k : ◌≡◌ {A = ℕ} 0 1 = cc in absurd (omega arith)

mark_spaced : {ms : List Mark} {r : List ℕ} (m : Mark) → MarkValue m → Spaced ms r → Spaced (m ∷ ms) (mark_bytes m ++ r)
unfolding mark_bytes MarkValue
mark_spaced (leaf (rule_leaf n)) v p = spaced_mark a_leaf (rule (decimal-number n v)) (numbered_plain letter_a n v) p
mark_spaced (leaf id_leaf) v p = spaced_mark a_leaf identity (λ a d r e. let z : ◌≡◌ {A = ℕ} 100 48 = cc in absurd (omega arith)) p
mark_spaced (leaf empty_leaf) v p = spaced_mark a_leaf nothing (λ a d r e. let z : ◌≡◌ {A = ℕ} 62 48 = cc in absurd (omega arith)) p
mark_spaced (leaf (goal_leaf n)) v p = spaced_mark a_leaf (assertion (decimal-number n v)) (numbered_plain question n v) p
mark_spaced (leaf (tactic_leaf n)) v p = spaced_mark a_leaf (tactic (decimal-number n v)) (numbered_plain letter_t n v) p
mark_spaced (label_mark n) v p = spaced_mark a_label (labelling (decimal-number n v)) (label_plain n v) p
mark_spaced (sign s) v p = spaced_sign s p
mark_spaced opening v p = spaced_mark an_opening opens (λ a d r e. let z : ◌≡◌ {A = ℕ} 0 1 = cc in absurd (omega arith)) p
mark_spaced closing v p = spaced_mark a_closing closes (λ a d r e. let z : ◌≡◌ {A = ℕ} 0 1 = cc in absurd (omega arith)) p

-- the blank law of what is written
pub text_spaced : (ms : List Mark) → MarkValues ms → Spaced ms (text_of ms)
unfolding text_of
text_spaced [] v = no_marks
text_spaced (m ∷ ms) v = mark_spaced m v.0 (text_spaced ms v.1)

-- texts that are not spaced: a number with a leading zero, a sign without its blanks, a blank in front of a mark
padded : (w r : List ℕ) → NoLeadingZero w → Spaced [] r → w ++ r ≡ letter_a ∷ 48 ∷ 55 ∷ [] → ⊥
padded w [] z no_marks e = let k : 55 ≡ right_square = z letter_a 55 [] (sym (append-nil w) ∙ e) in omega arith
padded w (_ ∷ _) z x5 e = elim x5 [ ]

pub no_padding : Spaced (leaf (rule_leaf 7) ∷ []) (letter_a ∷ 48 ∷ 55 ∷ []) → ⊥
no_padding x = go x refl
  where
    go : {t : List ℕ} → Spaced (leaf (rule_leaf 7) ∷ []) t → t ≡ letter_a ∷ 48 ∷ 55 ∷ [] → ⊥
    go (spaced_mark {w = w} {r = r} n s z p) e = padded w r z p e

pub no_bare_sign : Spaced (sign star ∷ []) (star_byte ∷ []) → ⊥
no_bare_sign x = go x refl
  where
    go : {t : List ℕ} → Spaced (sign star ∷ []) t → t ≡ star_byte ∷ [] → ⊥
    go (spaced_sign s p) e = let k : ◌≡◌ {A = ℕ} 0 1 = cc in omega arith
    go (spaced_mark {w = w} {r = r} x15 _ _ _) e = elim x15 [ ]

bare : (w r : List ℕ) → Spells opening w → Spaced [] r → w ++ r ≡ blank ∷ left_round ∷ [] → ⊥
bare w r opens no_marks e = let k : left_round ≡ blank = cc in omega arith

pub no_other_blank : Spaced (opening ∷ []) (blank ∷ left_round ∷ []) → ⊥
no_other_blank x = go x refl
  where
    go : {t : List ℕ} → Spaced (opening ∷ []) t → t ≡ blank ∷ left_round ∷ [] → ⊥
    go (spaced_mark {w = w} {r = r} n s z p) e = bare w r s p e
