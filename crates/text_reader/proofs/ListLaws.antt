-- The list of marks in the work space: one mark more, and the end of the text.
-- Assumes nothing.
use mathlib.Core.Path.{◌≡◌, refl, sym, ap, ◌∙◌, subst}
use mathlib.Core.List.{List, [], ◌∷◌}
use Prim.Native.Nat.{ℕ, suc, ◌+◌, ◌*◌, ◌≤◌, ◌<◌}
use native.Mathlib.Decide.{dec_lt}
use native.Mathlib.Omega.{arith}
use lib.ListN.{length, get_or, set, drop, length-drop}
use lib.Seq.{drop-drop, get_or-drop, get_or-set_same, get_or-set_other}
use Rattle.words.specs.Word.{word, put_word}
use Rattle.words.specs.Kept.{Kept}
use Rattle.words.proofs.KeptLaws.{kept_put, kept_both, word_below}
use Rattle.words.proofs.WordLaws.{length-put_word, word_same}
use Rattle.notation.specs.Marks.{semicolon, bar, star, rule_leaf, id_leaf, empty_leaf, goal_leaf, tactic_leaf, Mark, leaf, label_mark, sign, opening, closing}
use Rattle.notation.specs.MarksIn.{marks_in}
use Rattle.text_reader.specs.MarkList.{MarkStands}
use Rattle.text_reader.specs.Places.{Listed}

-- a mark that stands before the places of a write
pub mark_kept : (w w' : List ℕ) (low high at : ℕ) (m : Mark) → Kept w w' low high → at + 3 ≤ low → MarkStands w at m → MarkStands w' at m
unfolding MarkStands
mark_kept w w' low high at (leaf (rule_leaf n)) k h x = (k.below at (omega arith) ∙ x.0, word_below w w' low high k (at + 1) (omega arith) ∙ x.1)
mark_kept w w' low high at (leaf id_leaf) k h x = k.below at (omega arith) ∙ x
mark_kept w w' low high at (leaf empty_leaf) k h x = k.below at (omega arith) ∙ x
mark_kept w w' low high at (leaf (goal_leaf n)) k h x = (k.below at (omega arith) ∙ x.0, word_below w w' low high k (at + 1) (omega arith) ∙ x.1)
mark_kept w w' low high at (leaf (tactic_leaf n)) k h x = (k.below at (omega arith) ∙ x.0, word_below w w' low high k (at + 1) (omega arith) ∙ x.1)
mark_kept w w' low high at (label_mark n) k h x = (k.below at (omega arith) ∙ x.0, word_below w w' low high k (at + 1) (omega arith) ∙ x.1)
mark_kept w w' low high at (sign semicolon) k h x = k.below at (omega arith) ∙ x
mark_kept w w' low high at (sign star) k h x = k.below at (omega arith) ∙ x
mark_kept w w' low high at (sign bar) k h x = k.below at (omega arith) ∙ x
mark_kept w w' low high at opening k h x = k.below at (omega arith) ∙ x
mark_kept w w' low high at closing k h x = k.below at (omega arith) ∙ x

-- what a list begins with where it is left
first_of : (ms : List Mark) (n : ℕ) (m : Mark) (l : List Mark) → drop n ms ≡ m ∷ l → get_or ms n closing ≡ m
first_of ms n m l e = ap (λ (i : ℕ). get_or ms i closing) (plus n) ∙ sym (get_or-drop n ms 0 closing) ∙ ap (λ (r : List Mark). get_or r 0 closing) e
  where
    plus : (n : ℕ) → n ≡ n + 0
    plus n = omega arith

rest_of : (ms : List Mark) (n : ℕ) (m : Mark) (l : List Mark) → drop n ms ≡ m ∷ l → drop (n + 1) ms ≡ l
rest_of ms n m l e = sym (drop-drop 1 n ms) ∙ ap (drop 1) e

inside : (ms : List Mark) (n : ℕ) (m : Mark) (l : List Mark) → drop n ms ≡ m ∷ l → n < length ms
inside ms n m l e =
    let z : length (drop n ms) ≡ suc (length l) = ap length e in
    omega (arith, length-drop n ms)

-- the mark that begins at a place is put behind the marks of the list
pub listed_more : (s w w' : List ℕ) (at next count : ℕ) (m : Mark) → Listed s w at count → at < next → marks_in (drop at s) ≡ m ∷ marks_in (drop next s) → Kept w w' (3 * count) (3 * count + 3) → MarkStands w' (3 * count) m
    → Listed s w' next (count + 1)
listed_more s w w' at next count m l far e k here =
    let whole : drop count (marks_in s) ≡ m ∷ marks_in (drop next s) = l.rest ∙ e in
    let most = l.counted in
    let length_is = inside (marks_in s) count m (marks_in (drop next s)) whole in
    record {
      counted = omega arith;
      within = omega arith;
      rest = rest_of (marks_in s) count m (marks_in (drop next s)) whole;
      stand = λ i h. go whole i h (dec_lt i count);
    }
  where
    go : drop count (marks_in s) ≡ m ∷ marks_in (drop next s) → (i : ℕ) → i < count + 1 → Dec (i < count) → MarkStands w' (3 * i) (get_or (marks_in s) i closing)
    go whole i h (yes b) = mark_kept w w' (3 * count) (3 * count + 3) (3 * i) _ k (omega arith) (l.stand i b)
    go whole i h (no b) =
        let e : count ≡ i = omega arith in
        subst (λ (j : ℕ). MarkStands w' (3 * j) (get_or (marks_in s) j closing)) e (subst (MarkStands w' (3 * count)) (sym (first_of (marks_in s) count m (marks_in (drop next s)) whole)) here)

-- the same marks before another place
pub listed_skip : (s w : List ℕ) (at next count : ℕ) → Listed s w at count → at ≤ next → marks_in (drop at s) ≡ marks_in (drop next s) → Listed s w next count
listed_skip s w at next count l far e = let most = l.counted in record { counted = omega arith; within = l.within; rest = l.rest ∙ e; stand = l.stand }

pub listed_start : (s w : List ℕ) → Listed s w 0 0
listed_start s w = record { counted = omega arith; within = omega arith; rest = refl; stand = λ i h. absurd (omega arith) }

-- at the end of the text every mark is in the list
pub listed_all : (s w : List ℕ) (at count : ℕ) → Listed s w at count → drop at s ≡ [] → count ≡ length (marks_in s)
unfolding marks_in
listed_all s w at count l e =
    let z : drop count (marks_in s) ≡ [] = l.rest ∙ ap marks_in e in
    let n : length (drop count (marks_in s)) ≡ 0 = ap length z in
    let most = l.within in
    omega (arith, length-drop count (marks_in s))

-- what a mark's number, alone or in front of a value, leaves of the list
pub kept-number : (w : List ℕ) (at v : ℕ) → Kept w (set w at v) at (at + 3)
kept-number w at v = record { below = λ i h. get_or-set_other w at i v 0 (omega arith); above = λ i h. get_or-set_other w at i v 0 (omega arith) }

pub kept_valued : (w : List ℕ) (at v n : ℕ) → Kept w (set (put_word w (at + 1) v) at n) at (at + 3)
kept_valued w at v n = kept_both w (put_word w (at + 1) v) (set (put_word w (at + 1) v) at n) at (at + 3) at (at + 3) at (at + 3) (kept_put w (at + 1) v at (at + 3) (omega arith) (omega arith)) (kept-number (put_word w (at + 1) v) at n) (omega arith) (omega arith) (omega arith) (omega arith)

pub number_stands : (w : List ℕ) (at v : ℕ) → at < length w → get_or (set w at v) at 0 ≡ v
number_stands w at v h = get_or-set_same w at v 0 h

pub valued_number : (w : List ℕ) (at v n : ℕ) → at < length w → get_or (set (put_word w (at + 1) v) at n) at 0 ≡ n
valued_number w at v n h = get_or-set_same (put_word w (at + 1) v) at n 0 (rw length-put_word h)

pub valued_word : (w : List ℕ) (at v n : ℕ) → at + 2 < length w → word (set (put_word w (at + 1) v) at n) (at + 1) ≡ v
unfolding word
valued_word w at v n h =
    let a : get_or (set (put_word w (at + 1) v) at n) (at + 1) 0 ≡ get_or (put_word w (at + 1) v) (at + 1) 0 = get_or-set_other (put_word w (at + 1) v) at (at + 1) n 0 (omega arith) in
    let b : get_or (set (put_word w (at + 1) v) at n) (at + 1 + 1) 0 ≡ get_or (put_word w (at + 1) v) (at + 1 + 1) 0 = get_or-set_other (put_word w (at + 1) v) at (at + 1 + 1) n 0 (omega arith) in
    rw (a, b) (word_same w (at + 1) v (omega arith))
