-- The scan of whole marks, one after the other.
-- Assumes nothing.
use mathlib.Core.Path.{◌≡◌, refl, sym, ap, ◌∙◌, subst}
use mathlib.Core.Bool.{Bool, true, false, cond}
use mathlib.Core.List.{List, [], ◌∷◌, ◌++◌, append_assoc}
use Prim.Native.Nat.{ℕ, suc, ◌+◌, ◌*◌, ◌-◌, ◌≤◌, ◌<◌}
use native.Mathlib.Omega.{arith}
use lib.Dec.{leb, ltb}
use lib.ListN.{length, length-append}
use borrow.Author.Tests.{ltb-true, ltb-false, leb-true, leb-false, ne_eqb}
use Rattle.format.specs.Limits.{most_term_fields}
use Rattle.format.specs.declared.refusals.Cause.TheVariants.{LimitPassed, TextWrong, ValueTooLarge}
use Rattle.format.specs.Results.{Result, gives, refused, and_then}
use Rattle.notation.specs.Scans.{Mode}
use Rattle.notation.specs.Scans as M
use Rattle.notation.specs.Scans.{Scan}
use Rattle.notation.specs.Letters.{is_digit}
use Rattle.notation.specs.Marks.{Sign, semicolon, bar, star, Leaf, rule_leaf, id_leaf, empty_leaf, goal_leaf, tactic_leaf, Mark, leaf, label_mark, sign, opening, closing, Digits, no_more, more, Number, number, Spells, rule, identity, nothing, assertion, tactic, labelling, between, opens, closes, Spelled, ends, blanked, marked}
use Rattle.notation.specs.Passing.{Passes, rests, past_leaf, past_label, past_sign, past_opening, past_closing, mark_fields, field_marks, mark_size, sizes, MarkValue, MarkValues}
use Rattle.notation.specs.Meets.{NoDigit, LastOf}
use Rattle.notation.specs.Scans.{most_value, scanned, turned, completes, begins_numbered, is_sign, on_due, on_had, digit_more, leaf_ends, on_digits, label_ends, on_label_digits, on_begun, on_label_begun, on_half, step_in, step, end_in, at_end, scan}
use Rattle.notation.proofs.TextLaws.{digit_yes, spells_start}

abbrev pub mode_of : Bool → Mode
mode_of true = M.due
mode_of false = M.had

-- the value that the scan keeps for a number
pub record Kept (v c : ℕ) : Type 0 where
  pub over : most_value < c → most_value < v
  pub same : c ≤ most_value → c ≡ v

pub kept_more : (v c b : ℕ) → Kept v c → Kept (v * 10 + (b - 48)) (digit_more c b)
unfolding digit_more
kept_more v c b k = go (ltb most_value c) refl
  where
    large : most_value < c → most_value < v * 10 + (b - 48)
    large h = let o : most_value < v = k.over h in omega arith

    equal : c ≤ most_value → c * 10 + (b - 48) ≡ v * 10 + (b - 48)
    equal h = let z : c ≡ v = k.same h in omega arith

    go : (x : Bool) → ltb most_value c ≡ x → Kept (v * 10 + (b - 48)) (cond x c (c * 10 + (b - 48)))
    go true e = record { over = large; same = λ s. absurd (omega (arith, ltb-true most_value c e)) }
    go false e = let z : c * 10 + (b - 48) ≡ v * 10 + (b - 48) = equal (ltb-false most_value c e) in record { over = λ o. omega arith; same = λ s. z }

-- digits lead from a value to the value of the whole
pub digits-scan : {v n : ℕ} {ds : List ℕ} → Digits v ds n → (c k d f z at : ℕ) (r : List ℕ) → Kept v c
    → (c' : ℕ) × Kept n c' × (scan (scanned (M.in_digits c) k d f z) at (ds ++ r) ≡ scan (scanned (M.in_digits c') k d f z) (at + length ds) r)
unfolding scan step step_in on_begun on_label_begun on_half on_digits and_then
digits-scan no_more c k d f z at r h = (c, h, ap (λ (i : ℕ). scan (scanned (M.in_digits c) k d f z) i r) (plus_zero at))
  where
    plus_zero : (at : ℕ) → at ≡ at + 0
    plus_zero at = omega arith
digits-scan {v} (more {b = b} {ds = ds} e p) c k d f z at r h =
    let x = digits-scan p (digit_more c b) k d f z (at + 1) r (kept_more v c b h) in (
      x.0,
      x.1,
      ap (λ (t : Bool). and_then (cond t (gives (turned (M.in_digits (digit_more c b)) (scanned (M.in_digits c) k d f z))) (and_then (leaf_ends c (scanned (M.in_digits c) k d f z)) (λ τ. on_had τ at b))) (λ τ. scan τ (at + 1) (ds ++ r))) (digit_yes b e)
          ∙ x.2
          ∙ ap (λ (i : ℕ). scan (scanned (M.in_digits x.0) k d f z) i r) (one_more at (length ds)),
    )
  where
    one_more : (at n : ℕ) → at + 1 + n ≡ at + suc n
    one_more at n = omega arith

pub label_digits-scan : {v n : ℕ} {ds : List ℕ} → Digits v ds n → (c k d f z at : ℕ) (r : List ℕ) → Kept v c
    → (c' : ℕ) × Kept n c' × (scan (scanned (M.in_label_digits c) k d f z) at (ds ++ r) ≡ scan (scanned (M.in_label_digits c') k d f z) (at + length ds) r)
unfolding scan step step_in on_begun on_label_begun on_half on_label_digits and_then
label_digits-scan no_more c k d f z at r h = (c, h, ap (λ (i : ℕ). scan (scanned (M.in_label_digits c) k d f z) i r) (plus_zero at))
  where
    plus_zero : (at : ℕ) → at ≡ at + 0
    plus_zero at = omega arith
label_digits-scan {v} (more {b = b} {ds = ds} e p) c k d f z at r h =
    let x = label_digits-scan p (digit_more c b) k d f z (at + 1) r (kept_more v c b h) in (
      x.0,
      x.1,
      ap (λ (t : Bool). and_then (cond t (gives (turned (M.in_label_digits (digit_more c b)) (scanned (M.in_label_digits c) k d f z))) (label_ends c (scanned (M.in_label_digits c) k d f z) at b)) (λ τ. scan τ (at + 1) (ds ++ r))) (digit_yes b e)
          ∙ x.2
          ∙ ap (λ (i : ℕ). scan (scanned (M.in_label_digits x.0) k d f z) i r) (one_more at (length ds)),
    )
  where
    one_more : (at n : ℕ) → at + 1 + n ≡ at + suc n
    one_more at n = omega arith

-- behind the last digit of a leaf: 37, else 5, else the leaf is read
module _ (c k d f z at : ℕ) where
  pub digits_over : (r : List ℕ) → NoDigit r → ltb most_value c ≡ true → scan (scanned (M.in_digits c) k d f z) at r ≡ refused ValueTooLarge (k + 1)
  unfolding scan step step_in on_begun on_label_begun on_half on_digits and_then at_end end_in leaf_ends
  digits_over [] n o = rw o
  digits_over (b ∷ s) n o = rw (n, o)

  pub digits_full : (r : List ℕ) → NoDigit r → ltb most_value c ≡ false → leb most_term_fields f ≡ true → scan (scanned (M.in_digits c) k d f z) at r ≡ refused LimitPassed k
  unfolding scan step step_in on_begun on_label_begun on_half on_digits and_then at_end end_in leaf_ends completes
  digits_full [] n o g = rw (o, g)
  digits_full (b ∷ s) n o g = rw (n, o, g)

  pub digits-done : (r : List ℕ) → NoDigit r → ltb most_value c ≡ false → leb most_term_fields f ≡ false → scan (scanned (M.in_digits c) k d f z) at r ≡ scan (scanned M.had k d (f + 1) (z + 5)) at r
  unfolding scan step step_in on_begun on_label_begun on_half on_digits and_then at_end end_in leaf_ends completes
  digits-done [] n o g = rw (o, g)
  digits-done (b ∷ s) n o g = rw (n, o, g)

  -- behind the last digit of a label
  pub label_over : (r : List ℕ) → NoDigit r → ltb most_value c ≡ true → scan (scanned (M.in_label_digits c) k d f z) at r ≡ refused ValueTooLarge (k + 1)
  unfolding scan step step_in on_begun on_label_begun on_half on_label_digits label_ends and_then at_end end_in
  label_over [] n o = rw o
  label_over (b ∷ s) n o = rw (n, o)

  pub label_full : (r : List ℕ) → ltb most_value c ≡ false → leb most_term_fields f ≡ true → scan (scanned (M.in_label_digits c) k d f z) at (93 ∷ r) ≡ refused LimitPassed k
  unfolding scan step step_in on_begun on_label_begun on_half on_label_digits label_ends and_then completes is_digit
  label_full r o g = rw (o, g)

  pub label_done : (r : List ℕ) → ltb most_value c ≡ false → leb most_term_fields f ≡ false → scan (scanned (M.in_label_digits c) k d f z) at (93 ∷ r) ≡ scan (scanned M.due k d (f + 1) (z + 5)) (at + 1) r
  unfolding scan step step_in on_begun on_label_begun on_half on_label_digits label_ends and_then completes is_digit
  label_done r o g = rw (o, g)

-- a number from its first digit on
pub number-scan : {n : ℕ} {ds : List ℕ} → Number ds n → (k d f z at : ℕ) (r : List ℕ)
    → (c : ℕ) × Kept n c × (scan (scanned M.begun k d f z) at (ds ++ r) ≡ scan (scanned (M.in_digits c) k d f z) (at + length ds) r)
unfolding scan step step_in on_begun on_label_begun on_half and_then
number-scan (number {b = b} {ds = ds} e p) k d f z at r =
    let x = digits-scan p (b - 48) k d f z (at + 1) r (record { over = λ h. h; same = λ h. refl }) in (
      x.0,
      x.1,
      ap (λ (t : Bool). and_then (cond t (gives (turned (M.in_digits (b - 48)) (scanned M.begun k d f z))) (refused TextWrong at)) (λ τ. scan τ (at + 1) (ds ++ r))) (digit_yes b e)
          ∙ x.2
          ∙ ap (λ (i : ℕ). scan (scanned (M.in_digits x.0) k d f z) i r) (one_more at (length ds)),
    )
  where
    one_more : (at n : ℕ) → at + 1 + n ≡ at + suc n
    one_more at n = omega arith

pub label_number-scan : {n : ℕ} {ds : List ℕ} → Number ds n → (k d f z at : ℕ) (r : List ℕ)
    → (c : ℕ) × Kept n c × (scan (scanned M.label_begun k d f z) at (ds ++ r) ≡ scan (scanned (M.in_label_digits c) k d f z) (at + length ds) r)
unfolding scan step step_in on_begun on_label_begun on_half and_then
label_number-scan (number {b = b} {ds = ds} e p) k d f z at r =
    let x = label_digits-scan p (b - 48) k d f z (at + 1) r (record { over = λ h. h; same = λ h. refl }) in (
      x.0,
      x.1,
      ap (λ (t : Bool). and_then (cond t (gives (turned (M.in_label_digits (b - 48)) (scanned M.label_begun k d f z))) (refused TextWrong at)) (λ τ. scan τ (at + 1) (ds ++ r))) (digit_yes b e)
          ∙ x.2
          ∙ ap (λ (i : ℕ). scan (scanned (M.in_label_digits x.0) k d f z) i r) (one_more at (length ds)),
    )
  where
    one_more : (at n : ℕ) → at + 1 + n ≡ at + suc n
    one_more at n = omega arith

-- what a mark at a place comes to: it is passed, or its value is too large, or it makes a field too many
pub data Passed (m : Mark) (f at : ℕ) (x : Result Scan) (next : ℕ → Result Scan) : Type 0 where
  passes : (k : ℕ) → x ≡ next k → (1 ≤ mark_fields m → f < most_term_fields) → Passed m f at x next
  too_large : x ≡ refused ValueTooLarge (at + 1) → (MarkValue m → ⊥) → Passed m f at x next
  too_many : x ≡ refused LimitPassed at → (f + mark_fields m ≤ most_term_fields → ⊥) → Passed m f at x next

-- a kept value over the limit is a value over the limit
pub kept_over : (n c : ℕ) → Kept n c → n < 65536 → ltb most_value c ≡ false
kept_over n c h v = go (ltb most_value c) refl
  where
    go : (x : Bool) → ltb most_value c ≡ x → x ≡ false
    go true e = let o : most_value < n = h.over (ltb-true most_value c e) in absurd (omega arith)
    go false e = refl

pub kept_under : (n c : ℕ) → Kept n c → most_value < n → ltb most_value c ≡ true
kept_under n c h v = go (ltb most_value c) refl
  where
    go : (x : Bool) → ltb most_value c ≡ x → x ≡ true
    go true e = refl
    go false e = let o : c ≡ n = h.same (ltb-false most_value c e) in absurd (omega (arith, ltb-false most_value c e))

-- the leaf that a head and a number make
abbrev Leafed : (h : ℕ) (w : ℕ → Leaf) → Type 0
Leafed h w = (k d f z at : ℕ) (s : List ℕ) → scan (scanned M.due k d f z) at (h ∷ s) ≡ scan (scanned M.begun at d f z) (at + 1) s

pub numbered_leaf : (h : ℕ) (w : ℕ → Leaf) → Leafed h w → ((n : ℕ) → MarkValue (leaf (w n)) → n < 65536) → {n : ℕ} {ds : List ℕ} → Number ds n → (k d f z at : ℕ) (r : List ℕ) → NoDigit r
    → Passed (leaf (w n)) f at (scan (scanned M.due k d f z) at (h ∷ (ds ++ r))) (λ k'. scan (scanned M.had k' d (f + 1) (z + 5)) (at + suc (length ds)) r)
unfolding mark_fields
numbered_leaf h w first value {n} {ds} p k d f z at r nd =
    let x = number-scan p at d f z (at + 1) r in
    let c = x.0 in
    let same : scan (scanned M.due k d f z) at (h ∷ (ds ++ r)) ≡ scan (scanned (M.in_digits c) at d f z) (at + 1 + length ds) r = first k d f z at (ds ++ r) ∙ x.2 in
    go c x.1 same (ltb most_value c) refl (leb most_term_fields f) refl
  where
    one_more : (at n : ℕ) → at + 1 + n ≡ at + suc n
    one_more at n = omega arith

    go : (c : ℕ) → Kept n c → scan (scanned M.due k d f z) at (h ∷ (ds ++ r)) ≡ scan (scanned (M.in_digits c) at d f z) (at + 1 + length ds) r
        → (o : Bool) → ltb most_value c ≡ o → (g : Bool) → leb most_term_fields f ≡ g
        → Passed (leaf (w n)) f at (scan (scanned M.due k d f z) at (h ∷ (ds ++ r))) (λ k'. scan (scanned M.had k' d (f + 1) (z + 5)) (at + suc (length ds)) r)
    go c q same true o g e = too_large (same ∙ digits_over c at d f z (at + 1 + length ds) r nd o) (λ v. let z : most_value < n = q.over (ltb-true most_value c o) in omega (arith, value n v))
    go c q same false o true e = too_many (same ∙ digits_full c at d f z (at + 1 + length ds) r nd o e) (λ m. omega (arith, leb-true most_term_fields f e))
    go c q same false o false e = passes at (same ∙ digits-done c at d f z (at + 1 + length ds) r nd o e ∙ ap (λ (i : ℕ). scan (scanned M.had at d (f + 1) (z + 5)) i r) (one_more at (length ds))) (λ m. leb-false most_term_fields f e)

pub numbered_label : {n : ℕ} {ds : List ℕ} → Number ds n → (k d f z at : ℕ) (r : List ℕ)
    → Passed (label_mark n) f at (scan (scanned M.due k d f z) at (91 ∷ (ds ++ (93 ∷ r)))) (λ k'. scan (scanned M.due k' d (f + 1) (z + 5)) (at + suc (length ds + 1)) r)
unfolding mark_fields MarkValue scan step step_in on_begun on_label_begun on_half on_due begins_numbered and_then is_digit
numbered_label {n} {ds} p k d f z at r =
    let x = label_number-scan p at d f z (at + 1) (93 ∷ r) in
    go x.0 x.1 x.2 (ltb most_value x.0) refl (leb most_term_fields f) refl
  where
    one_more : (at n : ℕ) → at + 1 + n + 1 ≡ at + suc (n + 1)
    one_more at n = omega arith

    go : (c : ℕ) → Kept n c → scan (scanned M.label_begun at d f z) (at + 1) (ds ++ (93 ∷ r)) ≡ scan (scanned (M.in_label_digits c) at d f z) (at + 1 + length ds) (93 ∷ r)
        → (o : Bool) → ltb most_value c ≡ o → (g : Bool) → leb most_term_fields f ≡ g
        → Passed (label_mark n) f at (scan (scanned M.label_begun at d f z) (at + 1) (ds ++ (93 ∷ r))) (λ k'. scan (scanned M.due k' d (f + 1) (z + 5)) (at + suc (length ds + 1)) r)
    go c q same true o g e = too_large (same ∙ label_over c at d f z (at + 1 + length ds) (93 ∷ r) refl o) (λ v. let z : most_value < n = q.over (ltb-true most_value c o) in omega arith)
    go c q same false o true e = too_many (same ∙ label_full c at d f z (at + 1 + length ds) r o e) (λ m. omega (arith, leb-true most_term_fields f e))
    go c q same false o false e = passes at (same ∙ label_done c at d f z (at + 1 + length ds) r o e ∙ ap (λ (i : ℕ). scan (scanned M.due at d (f + 1) (z + 5)) i r) (one_more at (length ds))) (λ m. leb-false most_term_fields f e)

-- a mark of fixed bytes that makes a field
fixed : (m : Mark) (f at : ℕ) (x : Bool → Result Scan) (next : ℕ → Result Scan) → mark_fields m ≡ 1 → (k : ℕ) → x true ≡ refused LimitPassed at → x false ≡ next k → Passed m f at (x (leb most_term_fields f)) next
fixed m f at x next one k full done = go (leb most_term_fields f) refl
  where
    go : (g : Bool) → leb most_term_fields f ≡ g → Passed m f at (x g) next
    go true e = too_many full (λ h. omega (arith, leb-true most_term_fields f e))
    go false e = passes k done (λ h. leb-false most_term_fields f e)

same_scan : (m : Mode) (k n : ℕ) {f f' z z' at at' : ℕ} (r : List ℕ) → f ≡ f' → z ≡ z' → at ≡ at' → scan (scanned m k n f z) at r ≡ scan (scanned m k n f' z') at' r
same_scan m k n {f} {f'} {z} {z'} {at} {at'} r p q e =
    ap (λ (i : ℕ). scan (scanned m k n i z) at r) p ∙ ap (λ (i : ℕ). scan (scanned m k n f' i) at r) q ∙ ap (λ (i : ℕ). scan (scanned m k n f' z') i r) e

pub leaf-scan : {w : Leaf} {bs : List ℕ} → Spells (leaf w) bs → (k d f z at : ℕ) (r : List ℕ) → LastOf (leaf w) r
    → Passed (leaf w) f at (scan (scanned M.due k d f z) at (bs ++ r)) (λ k'. scan (scanned M.had k' d (f + 1) (z + mark_size (leaf w))) (at + length bs) r)
unfolding scan step step_in on_begun on_label_begun on_half on_due begins_numbered and_then mark_size MarkValue completes mark_fields
leaf-scan (rule p) k d f z at r nd = numbered_leaf 97 rule_leaf (λ k d f z at s. refl) (λ n v. v) p k d f z at r nd
leaf-scan identity k d f z at r nd =
    fixed (leaf id_leaf) f at (λ g. and_then (cond g (refused LimitPassed at) (gives (scanned M.had at d (f + 1) (z + 3)))) (λ τ. scan τ (at + 1 + 1) r)) (λ k'. scan (scanned M.had k' d (f + 1) (z + 3)) (at + 2) r) refl at refl (same_scan M.had at d r refl refl (two at))
  where
    two : (at : ℕ) → at + 1 + 1 ≡ at + 2
    two at = omega arith
leaf-scan nothing k d f z at r nd =
    fixed (leaf empty_leaf) f at (λ g. and_then (cond g (refused LimitPassed at) (gives (scanned M.had at d (f + 1) (z + 3)))) (λ τ. scan τ (at + 1 + 1) r)) (λ k'. scan (scanned M.had k' d (f + 1) (z + 3)) (at + 2) r) refl at refl (same_scan M.had at d r refl refl (two at))
  where
    two : (at : ℕ) → at + 1 + 1 ≡ at + 2
    two at = omega arith
leaf-scan (assertion p) k d f z at r nd = numbered_leaf 63 goal_leaf (λ k d f z at s. refl) (λ n v. v) p k d f z at r nd
leaf-scan (tactic p) k d f z at r nd = numbered_leaf 84 tactic_leaf (λ k d f z at s. refl) (λ n v. v) p k d f z at r nd

pub label_scan : {n : ℕ} {bs : List ℕ} → Spells (label_mark n) bs → (k d f z at : ℕ) (r : List ℕ)
    → Passed (label_mark n) f at (scan (scanned M.due k d f z) at (bs ++ r)) (λ k'. scan (scanned M.due k' d (f + 1) (z + mark_size (label_mark n))) (at + length bs) r)
unfolding mark_size
label_scan {n} (labelling {ds = ds} p) k d f z at r =
    subst (λ (s : List ℕ). Passed (label_mark n) f at (scan (scanned M.due k d f z) at (91 ∷ s)) (λ k'. scan (scanned M.due k' d (f + 1) (z + 5)) (at + suc (length (ds ++ (93 ∷ [])))) r)) (sym (append_assoc ds (93 ∷ []) r))
    (subst (λ (i : ℕ). Passed (label_mark n) f at (scan (scanned M.due k d f z) at (91 ∷ (ds ++ (93 ∷ r)))) (λ k'. scan (scanned M.due k' d (f + 1) (z + 5)) (at + suc i) r)) (sym (length-append ds (93 ∷ [])))
    (numbered_label p k d f z at r))

pub sign_scan : {s : Sign} {bs : List ℕ} → Spells (sign s) bs → (k d f z at : ℕ) (r : List ℕ)
    → Passed (sign s) f at (scan (scanned M.had k d f z) at (bs ++ r)) (λ k'. scan (scanned M.due k' d (f + 1) (z + mark_size (sign s))) (at + length bs) r)
unfolding scan step step_in on_begun on_label_begun on_half on_had is_sign and_then mark_size completes mark_fields
sign_scan (between semicolon) k d f z at r = fixed (sign semicolon) f at (λ g. and_then (cond g (refused LimitPassed at) (gives (scanned M.due k d (f + 1) (z + 3)))) (λ τ. scan τ (at + 1) r)) (λ k'. scan (scanned M.due k' d (f + 1) (z + 3)) (at + 1) r) refl k refl refl
sign_scan (between bar) k d f z at r = fixed (sign bar) f at (λ g. and_then (cond g (refused LimitPassed at) (gives (scanned M.due k d (f + 1) (z + 3)))) (λ τ. scan τ (at + 1) r)) (λ k'. scan (scanned M.due k' d (f + 1) (z + 3)) (at + 1) r) refl k refl refl
sign_scan (between star) k d f z at r = fixed (sign star) f at (λ g. and_then (cond g (refused LimitPassed at) (gives (scanned M.due k d (f + 1) (z + 3)))) (λ τ. scan τ (at + 1) r)) (λ k'. scan (scanned M.due k' d (f + 1) (z + 3)) (at + 1) r) refl k refl refl

-- brackets make no field
opening_scan : {bs : List ℕ} → Spells opening bs → (k d f z at : ℕ) (r : List ℕ)
    → Passed opening f at (scan (scanned M.due k d f z) at (bs ++ r)) (λ k'. scan (scanned M.due k' (suc d) (f + 0) (z + 0)) (at + length bs) r)
unfolding scan step step_in on_begun on_label_begun on_half on_due begins_numbered and_then mark_fields
opening_scan opens k d f z at r = passes k (ap (λ (i : ℕ). scan (scanned M.due k i f z) (at + 1) r) (one d) ∙ same_scan M.due k (suc d) r (none f) (none z) refl) (λ h. absurd (omega arith))
  where
    one : (d : ℕ) → d + 1 ≡ suc d
    one d = omega arith

    none : (f : ℕ) → f ≡ f + 0
    none f = omega arith

closing-scan : {bs : List ℕ} → Spells closing bs → (k d f z at : ℕ) (r : List ℕ)
    → Passed closing f at (scan (scanned M.had k (suc d) f z) at (bs ++ r)) (λ k'. scan (scanned M.had k' d (f + 0) (z + 0)) (at + length bs) r)
unfolding scan step step_in on_begun on_label_begun on_half on_had is_sign and_then mark_fields
closing-scan closes k d f z at r =
    passes k
    (ap (λ (t : Bool). and_then (cond t (refused TextWrong at) (gives (scanned M.had k (suc d - 1) f z))) (λ τ. scan τ (at + 1) r)) (ne_eqb (suc d) 0 (λ e. omega arith))
    ∙ ap (λ (i : ℕ). scan (scanned M.had k i f z) (at + 1) r) (one d) ∙ same_scan M.had k d r (none f) (none z) refl)
    (λ h. absurd (omega arith))
  where
    one : (d : ℕ) → suc d - 1 ≡ d
    one d = omega arith

    none : (f : ℕ) → f ≡ f + 0
    none f = omega arith

-- what whole marks come to
pub data Along (ms : List Mark) (f : ℕ) (x : Result Scan) (next : ℕ → Result Scan) : Type 0 where
  through : (k : ℕ) → x ≡ next k → Along ms f x next
  large : (p : ℕ) → x ≡ refused ValueTooLarge p → (MarkValues ms → ⊥) → Along ms f x next
  full : (p : ℕ) → x ≡ refused LimitPassed p → (f + field_marks ms ≤ most_term_fields → ⊥) → Along ms f x next

along_cons : {m : Mark} {ms : List Mark} {f at : ℕ} {x : Result Scan} (next₁ next₂ next₃ : ℕ → Result Scan) → Passed m f at x next₁ → ((k : ℕ) → Along ms (f + mark_fields m) (next₁ k) next₂) → ((k : ℕ) → next₂ k ≡ next₃ k) → Along (m ∷ ms) f x next₃
unfolding field_marks
along_cons {m} {ms} {f} {at} {x} next₁ next₂ next₃ (passes k e few) rest same = go (rest k)
  where
    go : Along ms (f + mark_fields m) (next₁ k) next₂ → Along (m ∷ ms) f x next₃
    go (through j h) = through j (e ∙ h ∙ same j)
    go (large p h v) = large p (e ∙ h) (λ w. v w.1)
    go (full p h v) = full p (e ∙ h) (λ w. v (omega arith))
along_cons next₁ next₂ next₃ (too_large e v) rest same = large _ e (λ w. v w.0)
along_cons next₁ next₂ next₃ (too_many e v) rest same = full _ e (λ w. v (omega arith))

blank-scan : (d : Bool) (k n f z at : ℕ) (r : List ℕ) → scan (scanned (mode_of d) k n f z) at (32 ∷ r) ≡ scan (scanned (mode_of d) k n f z) (at + 1) r
unfolding scan step step_in on_begun on_label_begun on_half on_due on_had and_then
blank-scan true k n f z at r = refl
blank-scan false k n f z at r = refl

spelled_start_then : {q : List ℕ} {ms : List Mark} → Spelled q ms → (r : List ℕ) → NoDigit r → NoDigit (q ++ r)
unfolding is_digit
spelled_start_then ends r h = h
spelled_start_then (blanked p) r h = refl
spelled_start_then (marked {w = w} {s = s} m p) r h = subst NoDigit (sym (append_assoc w s r)) (spells_start m (s ++ r))

any_last : (w : Leaf) (r : List ℕ) → NoDigit r → LastOf (leaf w) r
any_last (rule_leaf n) r h = h
any_last id_leaf r h = tt
any_last empty_leaf r h = tt
any_last (goal_leaf n) r h = h
any_last (tactic_leaf n) r h = h

-- a mark in front of marks
along_mark : {m : Mark} {ms : List Mark} (w s r : List ℕ) (d : Bool) (n f z at : ℕ) (σ : Scan)
    → Passed m f at (scan σ at (w ++ (s ++ r))) (λ k'. scan (scanned (mode_of d) k' n (f + mark_fields m) (z + mark_size m)) (at + length w) (s ++ r))
    → (d' : Bool) (n' : ℕ)
    → ((k' : ℕ) → Along ms (f + mark_fields m) (scan (scanned (mode_of d) k' n (f + mark_fields m) (z + mark_size m)) (at + length w) (s ++ r)) (λ j. scan (scanned (mode_of d') j n' (f + mark_fields m + field_marks ms) (z + mark_size m + sizes ms)) (at + length w + length s) r))
    → Along (m ∷ ms) f (scan σ at ((w ++ s) ++ r)) (λ j. scan (scanned (mode_of d') j n' (f + field_marks (m ∷ ms)) (z + sizes (m ∷ ms))) (at + length (w ++ s)) r)
unfolding field_marks sizes
along_mark {m} {ms} w s r d n f z at σ one d' n' rest =
    subst (λ (l : List ℕ). Along (m ∷ ms) f (scan σ at l) (λ j. scan (scanned (mode_of d') j n' (f + (mark_fields m + field_marks ms)) (z + (mark_size m + sizes ms))) (at + length (w ++ s)) r)) (sym (append_assoc w s r))
    (along_cons _ _ _ one rest (λ j. same_scan (mode_of d') j n' r (assoc f (mark_fields m) (field_marks ms)) (assoc z (mark_size m) (sizes ms)) (sums at (length-append w s))))
  where
    assoc : (a b c : ℕ) → a + b + c ≡ a + (b + c)
    assoc a b c = omega arith

    sums : (at : ℕ) → length (w ++ s) ≡ length w + length s → at + length w + length s ≡ at + length (w ++ s)
    sums at e = omega arith

pub scan_along : {q : List ℕ} {ms : List Mark} {d d' : Bool} {n n' : ℕ} → Spelled q ms → Passes d n ms d' n' → (k f z at : ℕ) (r : List ℕ) → NoDigit r
    → Along ms f (scan (scanned (mode_of d) k n f z) at (q ++ r)) (λ j. scan (scanned (mode_of d') j n' (f + field_marks ms) (z + sizes ms)) (at + length q) r)
unfolding field_marks sizes mark_fields mark_size
scan_along {d = d} {n = n} ends rests k f z at r h = through k (same_scan (mode_of d) k n r (none f) (none z) (none at))
  where
    none : (f : ℕ) → f ≡ f + 0
    none f = omega arith
scan_along {d = d} {d' = d'} {n = n} {n' = n'} (blanked {s = s} {ms = ms} p) fl k f z at r h =
    subst (λ (x : Result Scan). Along ms f x (λ j. scan (scanned (mode_of d') j n' (f + field_marks ms) (z + sizes ms)) (at + suc (length s)) r)) (sym (blank-scan d k n f z at (s ++ r)))
    (subst (λ (i : ℕ). Along ms f (scan (scanned (mode_of d) k n f z) (at + 1) (s ++ r)) (λ j. scan (scanned (mode_of d') j n' (f + field_marks ms) (z + sizes ms)) i r)) (sums at (length s)) (scan_along p fl k f z (at + 1) r h))
  where
    sums : (at n : ℕ) → at + 1 + n ≡ at + suc n
    sums at n = omega arith
scan_along {d' = d'} {n = n} {n' = n'} (marked {w = w} {s = s} m p) (past_leaf {w = v} fl) k f z at r h =
    along_mark w s r false n f z at (scanned M.due k n f z) (leaf-scan m k n f z at (s ++ r) (any_last v (s ++ r) (spelled_start_then p r h))) d' n' (λ k'. scan_along p fl k' (f + 1) (z + mark_size (leaf v)) (at + length w) r h)
scan_along {d' = d'} {n = n} {n' = n'} (marked {w = w} {s = s} m p) (past_label {l = l} fl) k f z at r h =
    along_mark w s r true n f z at (scanned M.due k n f z) (label_scan m k n f z at (s ++ r)) d' n' (λ k'. scan_along p fl k' (f + 1) (z + mark_size (label_mark l)) (at + length w) r h)
scan_along {d' = d'} {n = n} {n' = n'} (marked {w = w} {s = s} m p) (past_sign {s = v} fl) k f z at r h =
    along_mark w s r true n f z at (scanned M.had k n f z) (sign_scan m k n f z at (s ++ r)) d' n' (λ k'. scan_along p fl k' (f + 1) (z + mark_size (sign v)) (at + length w) r h)
scan_along {d' = d'} {n = n} {n' = n'} (marked {w = w} {s = s} m p) (past_opening fl) k f z at r h =
    along_mark w s r true (suc n) f z at (scanned M.due k n f z) (opening_scan m k n f z at (s ++ r)) d' n' (λ k'. scan_along p fl k' (f + 0) (z + 0) (at + length w) r h)
scan_along {d' = d'} {n' = n'} (marked {w = w} {s = s} m p) (past_closing {n = n} fl) k f z at r h =
    along_mark w s r false n f z at (scanned M.had k (suc n) f z) (closing-scan m k n f z at (s ++ r)) d' n' (λ k'. scan_along p fl k' (f + 0) (z + 0) (at + length w) r h)
