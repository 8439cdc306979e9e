-- Fields that wait: a refusal passes through all of them, bytes elsewhere do not matter, and a field that is put on top goes on first.
-- Assumes nothing.
use mathlib.Core.Path.{◌≡◌, refl, ap, subst, ◌∙◌}
use mathlib.Core.List.{List}
use mathlib.Core.Logic.{inl}
use Prim.Native.Nat.{ℕ, zero, suc, ◌+◌, ◌*◌, ◌-◌, ◌≤◌, ◌<◌}
use native.Mathlib.Omega.{arith}
use lib.ListN.{length}
use Rattle.words.specs.Word.{word, put_word}
use Rattle.words.specs.Kept.{Kept}
use Rattle.words.proofs.WordLaws.{length-put_word, word_same, word_other}
use Rattle.words.proofs.KeptLaws.{kept_put, kept_both, word_below}
use Rattle.format.specs.declared.refusals.Cause.{Cause}
use Rattle.format.specs.TermRead.{TermRead}
use Rattle.format.specs.TermRead.{Refused}
use Rattle.parts.specs.States.{end_of}
use Rattle.reading.specs.Waiting.{go_on, reads, closing, put_waiting, resumed, Waits}

closing_refused : (rec : ℕ → ℕ → ℕ → TermRead) (at end left : ℕ) (k : Cause) (p : ℕ) → closing rec at end left (Refused k p) ≡ Refused k p
unfolding closing go_on
closing_refused rec at end zero k p = refl
closing_refused rec at end (suc left) k p = refl

pub resumed_refused : (s w : List ℕ) (high base top depth : ℕ) (k : Cause) (p : ℕ) → resumed s w high base top depth (Refused k p) ≡ Refused k p
unfolding resumed
resumed_refused s w high base top zero k p = refl
resumed_refused s w high base top (suc d) k p =
    rw (closing_refused (reads s high) top (end_of s top) (word w (base + d * 4 + 2)) k p) (resumed_refused s w high base (top - word w (base + d * 4)) d k p)

-- a field that waits, as it is on top
pub resumed_top : (s w : List ℕ) (high base top d gap left : ℕ) (r : TermRead) → word w (base + d * 4) ≡ gap → word w (base + d * 4 + 2) ≡ left
    → resumed s w high base top (d + 1) r ≡ resumed s w high base (top - gap) d (closing (reads s high) top (end_of s top) left r)
unfolding resumed
resumed_top s w high base top d gap left r e f =
    let q : d + 1 ≡ suc d = omega arith in
    ap (λ (k : ℕ). resumed s w high base top k r) q ∙ rw (← e, ← f)

pub waits_top : (s w : List ℕ) (base top end d gap : ℕ) → word w (base + d * 4) ≡ gap → Waits s w base top end (d + 1)
    → (end ≤ end_of s top) × (end_of s top ≤ top + 65538) × (gap ≤ top) × Waits s w base (top - gap) (end_of s top) d
unfolding Waits
waits_top s w base top end d gap e h =
    let q : d + 1 ≡ suc d = omega arith in
    rw (← e) (subst (λ (k : ℕ). Waits s w base top end k) q h)

pub waits_on : (s w : List ℕ) (base top end d gap : ℕ) → word w (base + d * 4) ≡ gap → end ≤ end_of s top → end_of s top ≤ top + 65538 → gap ≤ top → Waits s w base (top - gap) (end_of s top) d → Waits s w base top end (d + 1)
unfolding Waits
waits_on s w base top end d gap e l n g h =
    let q : suc d ≡ d + 1 = omega arith in
    subst (λ (k : ℕ). Waits s w base top end k) q (rw e (l, n, g, h))

-- what ends earlier
pub waits_lower : (s w : List ℕ) (base top end end' d : ℕ) → end' ≤ end → Waits s w base top end d → Waits s w base top end' d
unfolding Waits
waits_lower s w base top end end' zero l h = omega (arith, h)
waits_lower s w base top end end' (suc d) l h = (omega (arith, h.0), h.1, h.2, h.3)

-- all of it lies in the file
pub waits_inside : (s w : List ℕ) (base top end d : ℕ) → Waits s w base top end d → end ≤ length s
unfolding Waits
waits_inside s w base top end zero h = h
waits_inside s w base top end (suc d) h = omega (arith, h.0, waits_inside s w base (top - word w (base + d * 4)) (end_of s top) d h.3)

-- bytes from the top on do not matter
module _ (s w w' : List ℕ) (base low high' : ℕ) (k : Kept w w' low high') where
  pub resumed_below : (high top d : ℕ) (r : TermRead) → base + d * 4 ≤ low → resumed s w' high base top d r ≡ resumed s w high base top d r
  unfolding resumed
  resumed_below high top zero r l = refl
  resumed_below high top (suc d) r l =
      rw (word_below w w' low high' k (base + d * 4) (omega arith), word_below w w' low high' k (base + d * 4 + 2) (omega arith))
      (resumed_below high (top - word w (base + d * 4)) d (closing (reads s high) top (end_of s top) (word w (base + d * 4 + 2)) r) (omega arith))

  pub waits_below : (top end d : ℕ) → base + d * 4 ≤ low → Waits s w base top end d → Waits s w' base top end d
  unfolding Waits
  waits_below top end zero l h = h
  waits_below top end (suc d) l h =
      rw (word_below w w' low high' k (base + d * 4) (omega arith))
      (h.0, h.1, h.2, waits_below (top - word w (base + d * 4)) (end_of s top) d (omega arith) h.3)

-- a field put on top
module _ (w : List ℕ) (low place left : ℕ) where
  pub waiting_kept : (base top : ℕ) → base ≤ low → low + 4 ≤ top → Kept w (put_waiting w low place left) base top
  unfolding put_waiting
  waiting_kept base top l h =
      kept_both w (put_word w low place) _ low (low + 2) (low + 2) (low + 4) base top (kept_put w low place low (low + 2) (omega arith) (omega arith)) (kept_put _ (low + 2) left (low + 2) (low + 4) (omega arith) (omega arith)) l (omega arith) (omega arith) h

  pub waiting-length : length (put_waiting w low place left) ≡ length w
  unfolding put_waiting
  waiting-length = length-put_word _ (low + 2) left ∙ length-put_word w low place

  pub waiting_place : low + 3 < length w → word (put_waiting w low place left) low ≡ place
  unfolding put_waiting
  waiting_place h = word_other (put_word w low place) (low + 2) left low (inl (omega arith)) ∙ word_same w low place (omega arith)

  pub waiting_left : low + 3 < length w → word (put_waiting w low place left) (low + 2) ≡ left
  unfolding put_waiting
  waiting_left h = word_same (put_word w low place) (low + 2) left (omega (arith, length-put_word w low place))
