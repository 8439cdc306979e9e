-- What a mark comes to where the scan stands: it stands behind the mark, or the text is refused. One law for each answer of the code.
-- Assumes nothing.
use mathlib.Core.Path.{◌≡◌, refl, sym, ap, ◌∙◌, subst}
use Rattle.std.specs.Prelude.{Ok, Err}
use Rattle.std.specs.Prelude as std
use mathlib.Core.Bool.{Bool, true, false, cond}
use mathlib.Core.Logic.{inl, inr}
use mathlib.Core.List.{List, [], ◌∷◌}
use Prim.Native.Nat.{ℕ, ◌+◌, ◌*◌, ◌-◌, ◌≤◌, ◌<◌}
use native.Mathlib.Omega.{arith}
use lib.Dec.{leb}
use lib.ListN.{length, get_or, set, drop}
use borrow.Author.Tests.{leb-false, lt-ltb, le-ltb, eq-eqb, ne_eqb}
use Rattle.words.specs.Word.{word, put_word}
use Rattle.words.specs.Kept.{Kept}
use Rattle.format.specs.Limits.{most_term_fields}
use Rattle.format.specs.declared.refusals.Cause.TheVariants.{LimitPassed, TextWrong, ValueTooLarge}
use Rattle.format.specs.declared.refusals.Refusal.{Refusal}
use Rattle.format.specs.Results.{refused, told, refused_at}
use Rattle.notation.specs.Marks.{Mark, leaf, label_mark, sign, opening, closing}
use Rattle.notation.specs.MarksIn.{marks_in}
use Rattle.notation.specs.Meets.{NoDigit}
use Rattle.notation.specs.Scans.{most_value, scanned, start, begins_numbered, is_sign, finished, end_in, at_end, scan}
use Rattle.notation.specs.Scans as M
use Rattle.notation.proofs.ScanLaws.{mode_of, digits_over, digits_full, digits-done, label_over, label_full, label_done}
use Rattle.text_reader.specs.MarkList.{MarkStands}
use Rattle.text_reader.specs.Shapes.{scan_shape}
use Rattle.text_reader.specs.Places.{Standing, Ready, After, completed, moved_to, Moved, Opened, Closed, NumeralRead, NumberTold, LeafByte, TwoBytes, SignByte}
use Rattle.text_reader.specs.declared.scan.ScanState.{ScanState}
use Rattle.text_reader.specs.declared.scan.Scanned.{Scanned}
use Rattle.text_reader.proofs.ListLaws.{listed_more, listed_skip, listed_start, listed_all, kept-number, kept_valued, number_stands, valued_number, valued_word}
use Rattle.text_reader.proofs.PassLaws.{here, at_end_lem, blank-scan, blank_marks, value_is, no_numeral, no_label_numeral}
use Rattle.text_reader.proofs.MarkLaws.{leaf_mark, leaf-begins, leaf_marks, leaf_stands, label_begins, label_marks, label_stands, label_ends_marks, label_torn, label_unclosed, two_bytes_leaf, half, two_bytes_begins, two_bytes_torn, two_bytes_other, two_bytes_full, two_bytes_done, two_bytes_marks, two_bytes_stands, sign_of, sign_full, sign_done, sign_marks, sign_stands, opening_scan, opening_marks, opening_stands, closing-scan, closing_marks, closing_stands, due_wrong, had_wrong}

-- what is met from an earlier place on
pub after_from : (s w : List ℕ) (a b : ℕ) (r : std.Result ScanState Refusal) → After s w a r → b ≤ a → After s w b r
after_from s w a b (Ok r) x h = (x.0, omega (arith, x.1))
after_from s w a b (Err e) x h = x

-- the text ends behind blanks and brackets
pub after_end : (s w : List ℕ) (p r : ScanState) → Moved s w p r → p.at < length s → length s ≤ r.at → After s w p.at (Ok r)
after_end s w p r x h k = (x.standing, omega arith)

-- a byte is left behind blanks and brackets
pub ready_past : (s w w' : List ℕ) (p r : ScanState) → Ready s w p → Moved s w' p r → length w' ≡ length w → r.at < length s → Ready s w' r
ready_past s w w' p r h x e more = let room = h.room in record { standing = x.standing; more = more; short = h.short; room = omega arith }

-- one byte further among blanks and brackets
module _ (s w : List ℕ) (p : ScanState) (at depth count : ℕ) (x : Standing s w (moved_to p at depth count)) (more : at < length s) where
  here_is : (b : ℕ) → get_or s at 0 ≡ b → drop at s ≡ b ∷ drop (at + 1) s
  here_is b is = here s at more ∙ ap {B = List ℕ} (λ c. c ∷ drop (at + 1) s) is

  here_scans : (due : Bool) (b : ℕ) → p.due ≡ due → get_or s at 0 ≡ b → scan start 0 s ≡ scan (scanned (mode_of due) x.mark depth p.fields p.size) at (b ∷ drop (at + 1) s)
  here_scans due b e is =
      x.scans
      ∙ ap (λ (t : Bool). scan (scanned (mode_of t) x.mark depth p.fields p.size) at (drop at s)) e
      ∙ ap (scan (scanned (mode_of due) x.mark depth p.fields p.size) at) (here_is b is)

  pub blank_stands : get_or s at 0 ≡ 32 → Standing s w (moved_to p (at + 1) depth count)
  blank_stands is =
      let deep = x.deep in
      record {
        mark = x.mark;
        placed = omega arith;
        deep = omega arith;
        few = x.few;
        sized = x.sized;
        scans = x.scans ∙ ap (scan (scanned (mode_of p.due) x.mark depth p.fields p.size) at) (here_is 32 is) ∙ blank-scan p.due x.mark depth p.fields p.size at (drop (at + 1) s);
        listed = listed_skip s w at (at + 1) count x.listed (omega arith) (ap marks_in (here_is 32 is) ∙ blank_marks (drop (at + 1) s));
      }

  -- a bracket is put in the list, and as many are open as the definition has
  bracket_stands : (m : Mark) (n depth' : ℕ) → depth' ≤ depth + 1 → 3 * count < length w → marks_in (drop at s) ≡ m ∷ marks_in (drop (at + 1) s) → MarkStands (set w (3 * count) n) (3 * count) m
      → scan start 0 s ≡ scan (scanned (mode_of p.due) x.mark depth' p.fields p.size) (at + 1) (drop (at + 1) s) → Standing s (set w (3 * count) n) (moved_to p (at + 1) depth' (count + 1))
  bracket_stands m n depth' most room marks stands scans =
      let deep = x.deep in
      record {
        mark = x.mark;
        placed = omega arith;
        deep = omega arith;
        few = x.few;
        sized = x.sized;
        scans = scans;
        listed = listed_more s w (set w (3 * count) n) at (at + 1) count m x.listed (omega arith) marks (kept-number w (3 * count) n) stands;
      }

  pub opening_stands_here : p.due ≡ true → get_or s at 0 ≡ 40 → 3 * count < length w → Standing s (set w (3 * count) 1) (moved_to p (at + 1) (depth + 1) (count + 1))
  opening_stands_here due is room =
      bracket_stands opening 1 (depth + 1) (omega arith) room (ap marks_in (here_is 40 is) ∙ opening_marks (drop (at + 1) s)) (opening_stands (set w (3 * count) 1) (3 * count) (number_stands w (3 * count) 1 room))
      (here_scans true 40 due is ∙ opening_scan x.mark depth p.fields p.size at (drop (at + 1) s)
      ∙ ap (λ (t : Bool). scan (scanned (mode_of t) x.mark (depth + 1) p.fields p.size) (at + 1) (drop (at + 1) s)) (sym due))

  pub closing_stands_here : p.due ≡ false → get_or s at 0 ≡ 41 → (depth ≡ 0 → ⊥) → 3 * count < length w → Standing s (set w (3 * count) 0) (moved_to p (at + 1) (depth - 1) (count + 1))
  closing_stands_here due is some room =
      bracket_stands closing 0 (depth - 1) (omega arith) room (ap marks_in (here_is 41 is) ∙ closing_marks (drop (at + 1) s)) (closing_stands (set w (3 * count) 0) (3 * count) (number_stands w (3 * count) 0 room))
      (here_scans false 41 due is ∙ closing-scan x.mark depth p.fields p.size at (drop (at + 1) s) some
      ∙ ap (λ (t : Bool). scan (scanned (mode_of t) x.mark (depth - 1) p.fields p.size) (at + 1) (drop (at + 1) s)) (sym due))

module _ (s w : List ℕ) (p : ScanState) (h : Ready s w p) where
  -- the scan and the marks from here on, by the byte that stands here
  scans_here : (due : Bool) (b : ℕ) → p.due ≡ due → get_or s p.at 0 ≡ b → scan start 0 s ≡ scan (scanned (mode_of due) h.standing.mark p.depth p.fields p.size) p.at (b ∷ drop (p.at + 1) s)
  scans_here due b e is =
      h.standing.scans
      ∙ ap (λ (t : Bool). scan (scanned (mode_of t) h.standing.mark p.depth p.fields p.size) p.at (drop p.at s)) e
      ∙ ap (scan (scanned (mode_of due) h.standing.mark p.depth p.fields p.size) p.at) (here s p.at h.more)
      ∙ ap (λ (i : ℕ). scan (scanned (mode_of due) h.standing.mark p.depth p.fields p.size) p.at (i ∷ drop (p.at + 1) s)) is

  marks_here : (b : ℕ) → get_or s p.at 0 ≡ b → marks_in (drop p.at s) ≡ marks_in (b ∷ drop (p.at + 1) s)
  marks_here b is = ap marks_in (here s p.at h.more) ∙ ap (λ (i : ℕ). marks_in (i ∷ drop (p.at + 1) s)) is

  -- a mark that makes a field is complete
  complete_ok : (w' : List ℕ) (r : std.Result ScanState Refusal) (m : Mark) (next : ℕ) (due : Bool) (bytes : ℕ) → r ≡ completed p next due bytes → p.at < next → next ≤ length s → bytes ≤ 5
      → marks_in (drop p.at s) ≡ m ∷ marks_in (drop next s) → Kept w w' (3 * p.count) (3 * p.count + 3) → MarkStands w' (3 * p.count) m
      → (leb most_term_fields p.fields ≡ true → scan start 0 s ≡ refused LimitPassed p.at)
      → (leb most_term_fields p.fields ≡ false → (k : ℕ) × (scan start 0 s ≡ scan (scanned (mode_of due) k p.depth (p.fields + 1) (p.size + bytes)) next (drop next s)))
      → After s w' p.at r
  unfolding completed
  complete_ok w' r m next due bytes e far most few marks k stands full done = subst (After s w' p.at) (sym e) (go (leb most_term_fields p.fields) refl)
    where
      behind : ScanState
      behind = record { at = next; due = due; depth = p.depth; fields = p.fields + 1; size = p.size + bytes; count = p.count + 1 }

      go : (x : Bool) → leb most_term_fields p.fields ≡ x → After s w' p.at (cond x (refused_at LimitPassed p.at) (Ok behind))
      go true t = full t
      go false t =
          let d = done t in
          let less = leb-false most_term_fields p.fields t in
          let deep = h.standing.deep in
          let sized = h.standing.sized in
          (record { mark = d.0; placed = most; deep = omega arith; few = omega arith; sized = omega arith; scans = d.1; listed = listed_more s w w' p.at next p.count m h.standing.listed far marks k stands }, far)

  -- the bytes of a mark in the list lie in the work space
  room_here : 3 * p.count + 2 < length w
  room_here =
      let a = h.standing.listed.counted in
      let b = h.more in
      let c = h.room in
      omega arith

  number_put : (w' : List ℕ) (n : ℕ) → w' ≡ set w (3 * p.count) n → get_or w' (3 * p.count) 0 ≡ n
  number_put w' n e = ap (λ (l : List ℕ). get_or l (3 * p.count) 0) e ∙ number_stands w (3 * p.count) n (omega (arith, room_here))

  pub had_refused : (b : ℕ) → p.due ≡ false → get_or s p.at 0 ≡ b → (b ≡ 32 → ⊥) → is_sign b ≡ false → (b ≡ 41 → p.depth ≡ 0) → scan start 0 s ≡ refused TextWrong p.at
  had_refused b due is n₁ n₂ n₃ = scans_here false b due is ∙ had_wrong h.standing.mark p.depth p.fields p.size p.at b (drop (p.at + 1) s) n₁ n₂ n₃

  pub due_refused : (b : ℕ) → p.due ≡ true → get_or s p.at 0 ≡ b → (b ≡ 32 → ⊥) → (b ≡ 40 → ⊥) → (b ≡ 91 → ⊥) → begins_numbered b ≡ false → (b ≡ 105 → ⊥) → (b ≡ 60 → ⊥) → scan start 0 s ≡ refused TextWrong p.at
  due_refused b due is n₁ n₂ n₃ n₄ n₅ n₆ = scans_here true b due is ∙ due_wrong h.standing.mark p.depth p.fields p.size p.at b (drop (p.at + 1) s) n₁ n₂ n₃ n₄ n₅ n₆

  -- a sign
  pub sign_ok : (w' : List ℕ) (r : std.Result ScanState Refusal) (b tag : ℕ) → p.due ≡ false → get_or s p.at 0 ≡ b → SignByte b tag → w' ≡ set w (3 * p.count) tag → r ≡ completed p (p.at + 1) true 3 → After s w' p.at r
  sign_ok w' r b tag due is x put e =
      let more = h.more in
      complete_ok w' r (sign (sign_of x)) (p.at + 1) true 3 e (omega arith) (omega arith) (omega arith) (marks_here b is ∙ sign_marks x (drop (p.at + 1) s))
      (subst (λ (l : List ℕ). Kept w l (3 * p.count) (3 * p.count + 3)) (sym put) (kept-number w (3 * p.count) tag)) (sign_stands x w' (3 * p.count) (number_put w' tag put))
      (λ g. scans_here false b due is ∙ sign_full x h.standing.mark p.depth p.fields p.size p.at (drop (p.at + 1) s) g)
      (λ g. (h.standing.mark, scans_here false b due is ∙ sign_done x h.standing.mark p.depth p.fields p.size p.at (drop (p.at + 1) s) g))

  -- a leaf of two bytes
  module _ (b second tag : ℕ) (due : p.due ≡ true) (is : get_or s p.at 0 ≡ b) (x : TwoBytes b second tag) where
    half_scans : scan start 0 s ≡ scan (scanned (half x) p.at p.depth p.fields p.size) (p.at + 1) (drop (p.at + 1) s)
    half_scans = scans_here true b due is ∙ two_bytes_begins x h.standing.mark p.depth p.fields p.size p.at (drop (p.at + 1) s)

    pub two_bytes_short : length s ≤ p.at + 1 → scan start 0 s ≡ refused TextWrong (p.at + 1)
    two_bytes_short l = half_scans ∙ ap (scan (scanned (half x) p.at p.depth p.fields p.size) (p.at + 1)) (at_end_lem s (p.at + 1) l) ∙ two_bytes_torn x p.at p.depth p.fields p.size (p.at + 1)

    pub two_bytes_refused : p.at + 1 < length s → (get_or s (p.at + 1) 0 ≡ second → ⊥) → scan start 0 s ≡ refused TextWrong (p.at + 1)
    two_bytes_refused l n = half_scans ∙ ap (scan (scanned (half x) p.at p.depth p.fields p.size) (p.at + 1)) (here s (p.at + 1) l)
        ∙ two_bytes_other x p.at p.depth p.fields p.size (p.at + 1) (get_or s (p.at + 1) 0) (drop (p.at + 1 + 1) s) n

    second_is : p.at + 1 < length s → get_or s (p.at + 1) 0 ≡ second → drop (p.at + 1) s ≡ second ∷ drop (p.at + 1 + 1) s
    second_is l n = here s (p.at + 1) l ∙ ap {B = List ℕ} (λ c. c ∷ drop (p.at + 1 + 1) s) n

    pub two_bytes_ok : (w' : List ℕ) (r : std.Result ScanState Refusal) → p.at + 1 < length s → get_or s (p.at + 1) 0 ≡ second → w' ≡ set w (3 * p.count) tag → r ≡ completed p (p.at + 1 + 1) false 3 → After s w' p.at r
    two_bytes_ok w' r l n put e =
        let scans : scan start 0 s ≡ scan (scanned (half x) p.at p.depth p.fields p.size) (p.at + 1) (second ∷ drop (p.at + 1 + 1) s) = half_scans ∙ ap (scan (scanned (half x) p.at p.depth p.fields p.size) (p.at + 1)) (second_is l n) in
        complete_ok w' r (leaf (two_bytes_leaf x)) (p.at + 1 + 1) false 3 e (omega arith) (omega arith) (omega arith)
        (marks_here b is ∙ ap (λ (t : List ℕ). marks_in (b ∷ t)) (second_is l n) ∙ two_bytes_marks x (drop (p.at + 1 + 1) s))
        (subst (λ (t : List ℕ). Kept w t (3 * p.count) (3 * p.count + 3)) (sym put) (kept-number w (3 * p.count) tag)) (two_bytes_stands x w' (3 * p.count) (number_put w' tag put))
        (λ g. scans ∙ two_bytes_full x p.at p.depth p.fields p.size (p.at + 1) (drop (p.at + 1 + 1) s) g)
        (λ g. (p.at, scans ∙ two_bytes_done x p.at p.depth p.fields p.size (p.at + 1) (drop (p.at + 1 + 1) s) g))

  -- a numeral was read behind the first byte of a mark
  module _ (v next : ℕ) (n : NumeralRead s (p.at + 1) v next) where
    -- the value and the number of a mark are put in the list
    valued_kept : (w' : List ℕ) (tag : ℕ) → w' ≡ set (put_word w (3 * p.count + 1) v) (3 * p.count) tag → Kept w w' (3 * p.count) (3 * p.count + 3)
    valued_kept w' tag put = subst (λ (t : List ℕ). Kept w t (3 * p.count) (3 * p.count + 3)) (sym put) (kept_valued w (3 * p.count) v tag)

    -- a leaf
    module _ (b tag : ℕ) (due : p.due ≡ true) (is : get_or s p.at 0 ≡ b) (x : LeafByte b tag) where
      leaf_scans : scan start 0 s ≡ scan (scanned M.begun p.at p.depth p.fields p.size) (p.at + 1) (drop (p.at + 1) s)
      leaf_scans = scans_here true b due is ∙ leaf-begins x h.standing.mark p.depth p.fields p.size p.at (drop (p.at + 1) s)

      pub leaf_none : next ≡ p.at + 1 → scan start 0 s ≡ refused TextWrong (p.at + 1)
      leaf_none l = leaf_scans ∙ no_numeral s (p.at + 1) v next n l p.at p.depth p.fields p.size

      digits_scans : p.at + 1 < next → scan start 0 s ≡ scan (scanned (M.in_digits v) p.at p.depth p.fields p.size) next (drop next s)
      digits_scans l = leaf_scans ∙ n.passed.leaves l p.at p.depth p.fields p.size

      some_digit : (next ≡ p.at + 1 → ⊥) → p.at + 1 < next
      some_digit l = let up = n.passed.rises in omega arith

      pub leaf_large : (next ≡ p.at + 1 → ⊥) → most_value < v → scan start 0 s ≡ refused ValueTooLarge (p.at + 1)
      leaf_large l o = digits_scans (some_digit l) ∙ digits_over v p.at p.depth p.fields p.size next (drop next s) n.last (lt-ltb most_value v o)

      pub leaf_ok : (w₁ w' : List ℕ) (r : std.Result ScanState Refusal) → (next ≡ p.at + 1 → ⊥) → v ≤ most_value → w₁ ≡ put_word w (3 * p.count + 1) v → w' ≡ set w₁ (3 * p.count) tag → r ≡ completed p next false 5 → After s w' p.at r
      leaf_ok w₁ w' r l o put₁ put₂ e =
          let put : w' ≡ set (put_word w (3 * p.count + 1) v) (3 * p.count) tag = put₂ ∙ ap (λ (t : List ℕ). set t (3 * p.count) tag) put₁ in
          let up = some_digit l in
          complete_ok w' r (leaf_mark x v) next false 5 e (omega arith) n.passed.placed (omega arith)
          (marks_here b is ∙ leaf_marks x (drop (p.at + 1) s)
          ∙ ap {B = List Mark} (λ i. leaf_mark x i ∷ marks_in (drop (p.at + 1) s)) (value_is s (p.at + 1) v next n o)
          ∙ ap {B = List Mark} (λ t. leaf_mark x v ∷ t) n.passed.marks)
          (valued_kept w' tag put)
          (leaf_stands x w' (3 * p.count) v (ap (λ (t : List ℕ). get_or t (3 * p.count) 0) put ∙ valued_number w (3 * p.count) v tag (omega (arith, room_here)))
          (ap (λ (t : List ℕ). word t (3 * p.count + 1)) put ∙ valued_word w (3 * p.count) v tag (omega (arith, room_here))))
          (λ g. digits_scans up ∙ digits_full v p.at p.depth p.fields p.size next (drop next s) n.last (le-ltb most_value v o) g)
          (λ g. (p.at, digits_scans up ∙ digits-done v p.at p.depth p.fields p.size next (drop next s) n.last (le-ltb most_value v o) g))

    -- a label
    module _ (due : p.due ≡ true) (is : get_or s p.at 0 ≡ 91) where
      label_scans : scan start 0 s ≡ scan (scanned M.label_begun p.at p.depth p.fields p.size) (p.at + 1) (drop (p.at + 1) s)
      label_scans = scans_here true 91 due is ∙ label_begins h.standing.mark p.depth p.fields p.size p.at (drop (p.at + 1) s)

      pub label_none : next ≡ p.at + 1 → scan start 0 s ≡ refused TextWrong (p.at + 1)
      label_none l = label_scans ∙ no_label_numeral s (p.at + 1) v next n l p.at p.depth p.fields p.size

      label_digits : (next ≡ p.at + 1 → ⊥) → scan start 0 s ≡ scan (scanned (M.in_label_digits v) p.at p.depth p.fields p.size) next (drop next s)
      label_digits l = let up = n.passed.rises in label_scans ∙ n.passed.labels (omega arith) p.at p.depth p.fields p.size

      pub label_large : (next ≡ p.at + 1 → ⊥) → most_value < v → scan start 0 s ≡ refused ValueTooLarge (p.at + 1)
      label_large l o = label_digits l ∙ label_over v p.at p.depth p.fields p.size next (drop next s) n.last (lt-ltb most_value v o)

      pub label_short : (next ≡ p.at + 1 → ⊥) → v ≤ most_value → length s ≤ next → scan start 0 s ≡ refused TextWrong next
      label_short l o end = label_digits l ∙ ap (scan (scanned (M.in_label_digits v) p.at p.depth p.fields p.size) next) (at_end_lem s next end) ∙ label_torn v p.at p.depth p.fields p.size next (le-ltb most_value v o)

      pub label_refused : (next ≡ p.at + 1 → ⊥) → v ≤ most_value → next < length s → (get_or s next 0 ≡ 93 → ⊥) → scan start 0 s ≡ refused TextWrong next
      label_refused l o end other = label_digits l ∙ ap (scan (scanned (M.in_label_digits v) p.at p.depth p.fields p.size) next) (here s next end)
          ∙ label_unclosed v p.at p.depth p.fields p.size next (get_or s next 0) (drop (next + 1) s) (le-ltb most_value v o) (subst NoDigit (here s next end) n.last) (ne_eqb (get_or s next 0) 93 other)

      closed : next < length s → get_or s next 0 ≡ 93 → drop next s ≡ 93 ∷ drop (next + 1) s
      closed end c = here s next end ∙ ap {B = List ℕ} (λ i. i ∷ drop (next + 1) s) c

      pub label_ok : (w₁ w' : List ℕ) (r : std.Result ScanState Refusal) → (next ≡ p.at + 1 → ⊥) → v ≤ most_value → next < length s → get_or s next 0 ≡ 93 → w₁ ≡ put_word w (3 * p.count + 1) v → w' ≡ set w₁ (3 * p.count) 18 → r ≡ completed p (next + 1) true 5 → After s w' p.at r
      label_ok w₁ w' r l o end c put₁ put₂ e =
          let put : w' ≡ set (put_word w (3 * p.count + 1) v) (3 * p.count) 18 = put₂ ∙ ap (λ (t : List ℕ). set t (3 * p.count) 18) put₁ in
          let up = n.passed.rises in
          let scans : scan start 0 s ≡ scan (scanned (M.in_label_digits v) p.at p.depth p.fields p.size) next (93 ∷ drop (next + 1) s) = label_digits l ∙ ap (scan (scanned (M.in_label_digits v) p.at p.depth p.fields p.size) next) (closed end c) in
          complete_ok w' r (label_mark v) (next + 1) true 5 e (omega arith) (omega arith) (omega arith)
          (marks_here 91 is ∙ label_marks (drop (p.at + 1) s)
          ∙ ap {B = List Mark} (λ i. label_mark i ∷ marks_in (drop (p.at + 1) s)) (value_is s (p.at + 1) v next n o)
          ∙ ap {B = List Mark} (λ t. label_mark v ∷ t) (n.passed.marks ∙ ap marks_in (closed end c) ∙ label_ends_marks (drop (next + 1) s)))
          (valued_kept w' 18 put)
          (label_stands w' (3 * p.count) v (ap (λ (t : List ℕ). get_or t (3 * p.count) 0) put ∙ valued_number w (3 * p.count) v 18 (omega (arith, room_here)))
          (ap (λ (t : List ℕ). word t (3 * p.count + 1)) put ∙ valued_word w (3 * p.count) v 18 (omega (arith, room_here))))
          (λ g. scans ∙ label_full v p.at p.depth p.fields p.size next (drop (next + 1) s) (le-ltb most_value v o) g)
          (λ g. (p.at, scans ∙ label_done v p.at p.depth p.fields p.size next (drop (next + 1) s) (le-ltb most_value v o) g))

-- the number of a mark is refused
module _ (s w : List ℕ) (p : ScanState) (h : Ready s w p) (e : Refusal) where
  pub leaf_unread : (b tag : ℕ) → p.due ≡ true → get_or s p.at 0 ≡ b → LeafByte b tag → NumberTold s (p.at + 1) (Err e) → scan start 0 s ≡ refused e.cause e.place
  leaf_unread b tag due is x (n, r, inl (l, q)) = rw q (leaf_none s w p h n.value n.next r b tag due is x l)
  leaf_unread b tag due is x (n, r, inr (l, o, q)) = rw q (leaf_large s w p h n.value n.next r b tag due is x l o)

  pub label_unread : p.due ≡ true → get_or s p.at 0 ≡ 91 → NumberTold s (p.at + 1) (Err e) → scan start 0 s ≡ refused e.cause e.place
  label_unread due is (n, r, inl (l, q)) = rw q (label_none s w p h n.value n.next r due is l)
  label_unread due is (n, r, inr (l, o, q)) = rw q (label_large s w p h n.value n.next r due is l o)

-- before the first byte
pub starts : (s w : List ℕ) → Standing s w (record { at = 0; due = true; depth = 0; fields = 0; size = 0; count = 0 })
starts s w = record { mark = 0; placed = omega arith; deep = omega arith; few = omega arith; sized = omega arith; scans = refl; listed = listed_start s w }

-- the answer after a refusal
pub refused_shape : (s : List ℕ) (n : ℕ) (e : Refusal) → scan start 0 s ≡ refused e.cause e.place → Err e ≡ scan_shape n (scan start 0 s)
unfolding scan_shape told
refused_shape s n e x = sym (ap (scan_shape n) x)

-- at the end of the text
module _ (s w : List ℕ) (p : ScanState) (h : Standing s w p) (end : length s ≤ p.at) where
  end_scans : (due : Bool) → p.due ≡ due → scan start 0 s ≡ scan (scanned (mode_of due) h.mark p.depth p.fields p.size) p.at []
  end_scans due e =
      h.scans
      ∙ ap (λ (t : Bool). scan (scanned (mode_of t) h.mark p.depth p.fields p.size) p.at (drop p.at s)) e
      ∙ ap (scan (scanned (mode_of due) h.mark p.depth p.fields p.size) p.at) (at_end_lem s p.at end)

  pub end_due : p.due ≡ true → scan start 0 s ≡ refused TextWrong p.at
  unfolding scan at_end end_in
  end_due e = end_scans true e

  pub end_open : p.due ≡ false → (p.depth ≡ 0 → ⊥) → scan start 0 s ≡ refused TextWrong p.at
  unfolding scan at_end end_in finished
  end_open e d = end_scans false e ∙ rw (ne_eqb p.depth 0 d)

  pub end_read : p.due ≡ false → p.depth ≡ 0 → Ok (record { count = p.count; size = p.size }) ≡ scan_shape (length (marks_in s)) (scan start 0 s)
  unfolding scan_shape told scan at_end end_in finished
  end_read e d =
      ap {B = std.Result Scanned Refusal} (λ (i : ℕ). Ok (record { count = i; size = p.size })) (listed_all s w p.at p.count h.listed (at_end_lem s p.at end))
      ∙ sym (ap (scan_shape (length (marks_in s))) (end_scans false e) ∙ rw (eq-eqb p.depth 0 d))
