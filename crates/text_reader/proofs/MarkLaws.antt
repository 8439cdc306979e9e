-- What the scan and the list of marks come to at the first byte of a mark, for each kind of mark.
-- Assumes nothing.
use mathlib.Core.Path.{◌≡◌, refl}
use mathlib.Core.Bool.{Bool, true, false, cond}
use mathlib.Core.List.{List, [], ◌∷◌}
use Prim.Native.Nat.{ℕ, ◌+◌, ◌-◌}
use lib.Dec.{leb, ltb, eqb}
use lib.ListN.{get_or}
use borrow.Author.Tests.{eq-eqb, ne_eqb, eqb-true}
use Rattle.format.specs.Limits.{most_term_fields}
use Rattle.format.specs.declared.refusals.Cause.TheVariants.{LimitPassed, TextWrong}
use Rattle.format.specs.Results.{gives, refused, and_then}
use Rattle.words.specs.Word.{word}
use Rattle.notation.specs.Letters.{is_digit}
use Rattle.notation.specs.Marks as K
use Rattle.notation.specs.Marks.{Sign, Leaf, rule_leaf, id_leaf, empty_leaf, goal_leaf, tactic_leaf, Mark, leaf, label_mark, sign, opening, closing}
use Rattle.notation.specs.MarksIn.{number_in, mark_at, with_mark, marks_in}
use Rattle.notation.specs.Scans.{Mode, most_value, scanned, completes, begins_numbered, is_sign, on_due, on_had, on_label_digits, label_ends, on_half, step_in, step, end_in, at_end, scan}
use Rattle.notation.specs.Scans as M
use Rattle.text_reader.specs.MarkList.{MarkStands}
use Rattle.text_reader.specs.Places.{LeafByte, rule, goal, tactic, TwoBytes, identity, nothing, SignByte, semicolon, star, bar}

-- a leaf with a number
abbrev pub leaf_mark : {b tag : ℕ} → LeafByte b tag → ℕ → Mark
leaf_mark rule n = leaf (rule_leaf n)
leaf_mark goal n = leaf (goal_leaf n)
leaf_mark tactic n = leaf (tactic_leaf n)

pub leaf-begins : {b tag : ℕ} → LeafByte b tag → (k d f z at : ℕ) (r : List ℕ) → scan (scanned M.due k d f z) at (b ∷ r) ≡ scan (scanned M.begun at d f z) (at + 1) r
unfolding scan step step_in on_due begins_numbered and_then
leaf-begins rule k d f z at r = refl
leaf-begins goal k d f z at r = refl
leaf-begins tactic k d f z at r = refl

pub leaf_marks : {b tag : ℕ} (x : LeafByte b tag) (r : List ℕ) → marks_in (b ∷ r) ≡ leaf_mark x (number_in 0 r) ∷ marks_in r
unfolding marks_in mark_at with_mark
leaf_marks rule r = refl
leaf_marks goal r = refl
leaf_marks tactic r = refl

pub leaf_stands : {b tag : ℕ} (x : LeafByte b tag) (w : List ℕ) (at n : ℕ) → get_or w at 0 ≡ tag → word w (at + 1) ≡ n → MarkStands w at (leaf_mark x n)
unfolding MarkStands
leaf_stands rule w at n t v = (t, v)
leaf_stands goal w at n t v = (t, v)
leaf_stands tactic w at n t v = (t, v)

-- a label
pub label_begins : (k d f z at : ℕ) (r : List ℕ) → scan (scanned M.due k d f z) at (91 ∷ r) ≡ scan (scanned M.label_begun at d f z) (at + 1) r
unfolding scan step step_in on_due begins_numbered and_then
label_begins k d f z at r = refl

pub label_marks : (r : List ℕ) → marks_in (91 ∷ r) ≡ label_mark (number_in 0 r) ∷ marks_in r
unfolding marks_in mark_at with_mark
label_marks r = refl

pub label_stands : (w : List ℕ) (at n : ℕ) → get_or w at 0 ≡ 18 → word w (at + 1) ≡ n → MarkStands w at (label_mark n)
unfolding MarkStands
label_stands w at n t v = (t, v)

pub label_ends_marks : (r : List ℕ) → marks_in (93 ∷ r) ≡ marks_in r
unfolding marks_in mark_at with_mark
label_ends_marks r = refl

-- behind the last digit, the text ends or another byte comes
pub label_torn : (v k d f z at : ℕ) → ltb most_value v ≡ false → scan (scanned (M.in_label_digits v) k d f z) at [] ≡ refused TextWrong at
unfolding scan at_end end_in
label_torn v k d f z at o = rw o

pub label_unclosed : (v k d f z at b : ℕ) (r : List ℕ) → ltb most_value v ≡ false → is_digit b ≡ false → eqb b 93 ≡ false → scan (scanned (M.in_label_digits v) k d f z) at (b ∷ r) ≡ refused TextWrong at
unfolding scan step step_in on_label_digits label_ends and_then
label_unclosed v k d f z at b r o n e = rw (n, o, e)

-- a leaf of two bytes
abbrev pub two_bytes_leaf : {b second tag : ℕ} → TwoBytes b second tag → Leaf
two_bytes_leaf identity = id_leaf
two_bytes_leaf nothing = empty_leaf

abbrev pub half : {b second tag : ℕ} → TwoBytes b second tag → Mode
half identity = M.half_id
half nothing = M.half_empty

pub two_bytes_begins : {b second tag : ℕ} (x : TwoBytes b second tag) (k d f z at : ℕ) (r : List ℕ) → scan (scanned M.due k d f z) at (b ∷ r) ≡ scan (scanned (half x) at d f z) (at + 1) r
unfolding scan step step_in on_due begins_numbered and_then
two_bytes_begins identity k d f z at r = refl
two_bytes_begins nothing k d f z at r = refl

pub two_bytes_torn : {b second tag : ℕ} (x : TwoBytes b second tag) (k d f z at : ℕ) → scan (scanned (half x) k d f z) at [] ≡ refused TextWrong at
unfolding scan at_end end_in
two_bytes_torn identity k d f z at = refl
two_bytes_torn nothing k d f z at = refl

pub two_bytes_other : {b second tag : ℕ} (x : TwoBytes b second tag) (k d f z at c : ℕ) (r : List ℕ) → (c ≡ second → ⊥) → scan (scanned (half x) k d f z) at (c ∷ r) ≡ refused TextWrong at
unfolding scan step step_in on_half and_then
two_bytes_other identity k d f z at c r n = rw (ne_eqb c 100 n)
two_bytes_other nothing k d f z at c r n = rw (ne_eqb c 62 n)

pub two_bytes_full : {b second tag : ℕ} (x : TwoBytes b second tag) (k d f z at : ℕ) (r : List ℕ) → leb most_term_fields f ≡ true → scan (scanned (half x) k d f z) at (second ∷ r) ≡ refused LimitPassed k
unfolding scan step step_in on_half and_then completes
two_bytes_full identity k d f z at r g = rw g
two_bytes_full nothing k d f z at r g = rw g

pub two_bytes_done : {b second tag : ℕ} (x : TwoBytes b second tag) (k d f z at : ℕ) (r : List ℕ) → leb most_term_fields f ≡ false → scan (scanned (half x) k d f z) at (second ∷ r) ≡ scan (scanned M.had k d (f + 1) (z + 3)) (at + 1) r
unfolding scan step step_in on_half and_then completes
two_bytes_done identity k d f z at r g = rw g
two_bytes_done nothing k d f z at r g = rw g

pub two_bytes_marks : {b second tag : ℕ} (x : TwoBytes b second tag) (r : List ℕ) → marks_in (b ∷ second ∷ r) ≡ leaf (two_bytes_leaf x) ∷ marks_in r
unfolding marks_in mark_at with_mark
two_bytes_marks identity r = refl
two_bytes_marks nothing r = refl

pub two_bytes_stands : {b second tag : ℕ} (x : TwoBytes b second tag) (w : List ℕ) (at : ℕ) → get_or w at 0 ≡ tag → MarkStands w at (leaf (two_bytes_leaf x))
unfolding MarkStands
two_bytes_stands identity w at t = t
two_bytes_stands nothing w at t = t

-- a sign
abbrev pub sign_of : {b tag : ℕ} → SignByte b tag → Sign
sign_of semicolon = K.semicolon
sign_of star = K.star
sign_of bar = K.bar

pub sign_full : {b tag : ℕ} (x : SignByte b tag) (k d f z at : ℕ) (r : List ℕ) → leb most_term_fields f ≡ true → scan (scanned M.had k d f z) at (b ∷ r) ≡ refused LimitPassed at
unfolding scan step step_in on_had is_sign and_then completes
sign_full semicolon k d f z at r g = rw g
sign_full star k d f z at r g = rw g
sign_full bar k d f z at r g = rw g

pub sign_done : {b tag : ℕ} (x : SignByte b tag) (k d f z at : ℕ) (r : List ℕ) → leb most_term_fields f ≡ false → scan (scanned M.had k d f z) at (b ∷ r) ≡ scan (scanned M.due k d (f + 1) (z + 3)) (at + 1) r
unfolding scan step step_in on_had is_sign and_then completes
sign_done semicolon k d f z at r g = rw g
sign_done star k d f z at r g = rw g
sign_done bar k d f z at r g = rw g

pub sign_marks : {b tag : ℕ} (x : SignByte b tag) (r : List ℕ) → marks_in (b ∷ r) ≡ sign (sign_of x) ∷ marks_in r
unfolding marks_in mark_at with_mark
sign_marks semicolon r = refl
sign_marks star r = refl
sign_marks bar r = refl

pub sign_stands : {b tag : ℕ} (x : SignByte b tag) (w : List ℕ) (at : ℕ) → get_or w at 0 ≡ tag → MarkStands w at (sign (sign_of x))
unfolding MarkStands
sign_stands semicolon w at t = t
sign_stands star w at t = t
sign_stands bar w at t = t

-- a bracket
pub opening_scan : (k d f z at : ℕ) (r : List ℕ) → scan (scanned M.due k d f z) at (40 ∷ r) ≡ scan (scanned M.due k (d + 1) f z) (at + 1) r
unfolding scan step step_in on_due begins_numbered and_then
opening_scan k d f z at r = refl

pub opening_marks : (r : List ℕ) → marks_in (40 ∷ r) ≡ opening ∷ marks_in r
unfolding marks_in mark_at with_mark
opening_marks r = refl

pub opening_stands : (w : List ℕ) (at : ℕ) → get_or w at 0 ≡ 1 → MarkStands w at opening
unfolding MarkStands
opening_stands w at t = t

pub closing-scan : (k d f z at : ℕ) (r : List ℕ) → (d ≡ 0 → ⊥) → scan (scanned M.had k d f z) at (41 ∷ r) ≡ scan (scanned M.had k (d - 1) f z) (at + 1) r
unfolding scan step step_in on_had is_sign and_then
closing-scan k d f z at r n = rw (ne_eqb d 0 n)

pub closing_marks : (r : List ℕ) → marks_in (41 ∷ r) ≡ closing ∷ marks_in r
unfolding marks_in mark_at with_mark
closing_marks r = refl

pub closing_stands : (w : List ℕ) (at : ℕ) → get_or w at 0 ≡ 0 → MarkStands w at closing
unfolding MarkStands
closing_stands w at t = t

-- a byte that begins no operand, and one that follows none
pub due_wrong : (k d f z at b : ℕ) (r : List ℕ) → (b ≡ 32 → ⊥) → (b ≡ 40 → ⊥) → (b ≡ 91 → ⊥) → begins_numbered b ≡ false → (b ≡ 105 → ⊥) → (b ≡ 60 → ⊥) → scan (scanned M.due k d f z) at (b ∷ r) ≡ refused TextWrong at
unfolding scan step step_in on_due and_then
due_wrong k d f z at b r n₁ n₂ n₃ e n₄ n₅ = rw (ne_eqb b 32 n₁, e, ne_eqb b 105 n₄, ne_eqb b 60 n₅, ne_eqb b 91 n₃, ne_eqb b 40 n₂)

pub had_wrong : (k d f z at b : ℕ) (r : List ℕ) → (b ≡ 32 → ⊥) → is_sign b ≡ false → (b ≡ 41 → d ≡ 0) → scan (scanned M.had k d f z) at (b ∷ r) ≡ refused TextWrong at
unfolding scan step step_in on_had and_then
had_wrong k d f z at b r n e Open-none = rw (ne_eqb b 32 n, e) (go (eqb b 41) refl)
  where
    go : (x : Bool) → eqb b 41 ≡ x → and_then (cond x (cond (eqb d 0) (refused TextWrong at) (gives (scanned M.had k (d - 1) f z))) (refused TextWrong at)) (λ τ. scan τ (at + 1) r) ≡ refused TextWrong at
    go true t = rw (eq-eqb d 0 (Open-none (eqb-true b 41 t)))
    go false t = refl
