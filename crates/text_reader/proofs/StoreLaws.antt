-- What the stores of the writer from the right leave.
-- Assumes nothing.
use mathlib.Core.Path.{◌≡◌, refl, sym, ap, ap₂, ◌∙◌, subst}
use mathlib.Core.Logic.{◌≢◌}
use mathlib.Core.Bool.{Bool, true, false, cond}
use mathlib.Core.List.{List, [], ◌∷◌, ◌++◌, append_assoc}
use Prim.Native.Nat.{ℕ, suc, ◌+◌, ◌*◌, ◌-◌, ◌≤◌, ◌<◌, ◌/◌, ◌%◌}
use native.Mathlib.Omega.{arith}
use native.Mathlib.Numerals.{add-one}
use lib.Dec.{leb}
use lib.ListN.{length, get_or, drop, take, set, length-append, length-drop, length-set}
use lib.Seq.{sets, sets-eq, drop_at, length-take-le, get_or-set_same, get_or-set_other}
use Rattle.words.specs.Word.{word, put_word}
use Rattle.words.proofs.WordLaws.{word_same}
use Rattle.format.specs.Terms.{Term, size}
use Rattle.format.specs.Encoding.{word_bytes, term_bytes}
use Rattle.format.proofs.Encoded.{length-term_bytes}
use Rattle.notation.specs.Marks.{Sign, semicolon, bar, star, label_term, sign_term}
use Rattle.notation.specs.Written.{rank}
use Rattle.notation.specs.FromRight.{Frame, waiting, bracket, reduced_term, reduced_frames, unbracket}
use Rattle.notation.specs.Signs.{rank_tag}
use Rattle.text_reader.specs.Held.{frames_end, sign_tag, rest_bytes, waits, Stacked, ShownDue, ShownHad, Shown, NotStuck, reduces_more, SameBelow, Reduced}
use Rattle.text_reader.proofs.HeldLaws.{reduced_size}

-- bytes stored from a place on
stored : (vs l : List ℕ) (i : ℕ) → i + length vs ≤ length l → drop i (sets l i vs) ≡ vs ++ drop (i + length vs) l
stored vs l i h =
    ap (drop i) (sets-eq vs l i h ∙ append_assoc (take i l) vs (drop (i + length vs) l))
    ∙ drop_at (take i l) (vs ++ drop (i + length vs) l) i (length-take-le i l (omega arith))

pub put-header_lem : (o : List ℕ) (at tag len : ℕ) → at + 3 ≤ length o → drop at (put_word (set o at tag) (at + 1) len) ≡ tag ∷ (word_bytes len ++ drop (at + 3) o)
unfolding put_word
put-header_lem o at tag len h = simp (add-one) (stored (tag ∷ len / 256 ∷ len % 256 ∷ []) o at h)

pub put_value : (o : List ℕ) (at v : ℕ) → at + 2 ≤ length o → drop at (put_word o at v) ≡ word_bytes v ++ drop (at + 2) o
unfolding put_word
put_value o at v h = simp (add-one) (stored (v / 256 ∷ v % 256 ∷ []) o at h)

-- the frames stand one behind the other up to the end of the work space
pub stacked_end : (w : List ℕ) (total low : ℕ) (fs : List Frame) → Stacked w total low fs → low + 3 * length fs ≡ frames_end
unfolding Stacked
stacked_end w total low [] st = omega (arith, st)
stacked_end w total low (bracket ∷ fs) st = omega (arith, stacked_end w total (low + 3) fs st.1)
stacked_end w total low (waiting s u ∷ fs) st = omega (arith, stacked_end w total (low + 3) fs st.2)

pub rank_tag_lem : (s : Sign) → rank_tag (sign_tag s) ≡ rank s
unfolding rank_tag
rank_tag_lem semicolon = refl
rank_tag_lem bar = refl
rank_tag_lem star = refl

tag_positive : (s : Sign) → sign_tag s ≡ 0 → ⊥
tag_positive semicolon e = omega arith
tag_positive bar e = omega arith
tag_positive star e = omega arith

pub reduced_none : (n total low : ℕ) (w : List ℕ) (fs : List Frame) → Stacked w total low fs → frames_end ≤ low → false ≡ reduces_more n fs
unfolding reduces_more
reduced_none n total low w [] st h = refl
reduced_none n total low w (f ∷ fs) st h = absurd (omega (arith, stacked_end w total low (f ∷ fs) st))

pub reduced_bracket : (n total low k : ℕ) (w : List ℕ) (fs : List Frame) → Stacked w total low fs → k ≡ get_or w low 0 → k ≡ 0 → false ≡ reduces_more n fs
unfolding reduces_more Stacked
reduced_bracket n total low k w [] st g z = refl
reduced_bracket n total low k w (bracket ∷ fs) st g z = refl
reduced_bracket n total low k w (waiting s u ∷ fs) st g z = absurd (tag_positive s (sym st.0 ∙ sym g ∙ z))

pub reduced_sign : (n total low k : ℕ) (w : List ℕ) (fs : List Frame) → Stacked w total low fs → low < frames_end → k ≡ get_or w low 0 → (k ≡ 0 → ⊥) → leb n (rank_tag k) ≡ reduces_more n fs
unfolding reduces_more Stacked
reduced_sign n total low k w [] st h g z = absurd (omega (arith, st))
reduced_sign n total low k w (bracket ∷ fs) st h g z = absurd (z (g ∙ st.0))
reduced_sign n total low k w (waiting s u ∷ fs) st h g z = ap (leb n) (ap rank_tag (g ∙ st.0) ∙ rank_tag_lem s)

sign_bytes : (s : Sign) (t u : Term) → term_bytes (sign_term s t u) ≡ sign_tag s ∷ (word_bytes (size t + size u) ++ (term_bytes t ++ term_bytes u))
unfolding term_bytes
sign_bytes s t u = by s ∙ ap (λ (n : ℕ). sign_tag s ∷ (word_bytes n ++ (term_bytes t ++ term_bytes u))) (both t u)
  where
    both : (t u : Term) → length (term_bytes t ++ term_bytes u) ≡ size t + size u
    both t u = length-append (term_bytes t) (term_bytes u) ∙ omega (arith, length-term_bytes t, length-term_bytes u)

    by : (s : Sign) → term_bytes (sign_term s t u) ≡ sign_tag s ∷ (word_bytes (length (term_bytes t ++ term_bytes u)) ++ (term_bytes t ++ term_bytes u))
    by semicolon = refl
    by bar = refl
    by star = refl

module _ (t : Term) (s : Sign) (u : Term) (fs : List Frame) (w o : List ℕ) (front stop low : ℕ) (x : ShownHad t (waiting s u ∷ fs) w o front stop low) where
  -- the two terms stand between the front and the end
  pub lengths : length o ≡ front + (size t + (size u + length (rest_bytes fs)))
  unfolding rest_bytes
  lengths =
      let within = x.within in
      let e : length o - front ≡ size t + (size u + length (rest_bytes fs)) = sym (length-drop front o) ∙ ap length x.bytes ∙ length-append (term_bytes t) (term_bytes u ++ rest_bytes fs) ∙ omega (arith, length-append (term_bytes u) (rest_bytes fs), length-term_bytes t, length-term_bytes u) in
      omega arith

  -- three bytes of a frame are there
  pub frame_below : low + 3 ≤ frames_end
  frame_below = omega (arith, stacked_end w (length o) low (waiting s u ∷ fs) x.stacked)

  pub end_is : (end : ℕ) → end ≡ word w (low + 1) → end ≡ front + (size t + size u)
  unfolding Stacked
  end_is end e = let k : word w (low + 1) + length (rest_bytes fs) ≡ length o = x.stacked.1 in omega (arith, lengths)

  pub took : (o' : List ℕ) (kind end : ℕ) → 3 ≤ front → kind ≡ get_or w low 0 → end ≡ word w (low + 1) → length o' ≡ length o → drop (front - 3) o' ≡ kind ∷ (word_bytes (end - front) ++ drop (front - 3 + 3) o)
      → ShownHad (sign_term s t u) fs w o' (front - 3) end (low + 3)
  unfolding Stacked rest_bytes
  took o' kind end h k e same put =
      let within = x.within in
      let n : end - front ≡ size t + size u = difference (end_is end e) in
      let back : front - 3 + 3 ≡ front = omega arith in
      let tag : kind ≡ sign_tag s = k ∙ x.stacked.0 in
      let end-at : end + length (rest_bytes fs) ≡ length o = ends_at (end_is end e) in
      record {
        bytes = put ∙ ap (λ (m : ℕ). kind ∷ (word_bytes m ++ drop (front - 3 + 3) o)) n ∙ ap (λ (m : ℕ). kind ∷ (word_bytes (size t + size u) ++ drop m o)) back ∙ ap (λ (m : ℕ). m ∷ (word_bytes (size t + size u) ++ drop front o)) tag ∙ ap (λ (l : List ℕ). sign_tag s ∷ (word_bytes (size t + size u) ++ l)) (x.bytes ∙ sym (append_assoc (term_bytes t) (term_bytes u) (rest_bytes fs))) ∙ ap (λ (l : List ℕ). l ++ rest_bytes fs) (sym (sign_bytes s t u));
        within = omega arith;
        ends = end-at ∙ sym same;
        stacked = subst (λ (m : ℕ). Stacked w m (low + 3) fs) (sym same) x.stacked.2;
      }
    where
      difference : {end : ℕ} → end ≡ front + (size t + size u) → end - front ≡ size t + size u
      difference e = omega arith

      ends_at : {end : ℕ} → end ≡ front + (size t + size u) → end + length (rest_bytes fs) ≡ length o
      ends_at e = omega (arith, lengths)

pub taken_start : (n : ℕ) (t : Term) (fs : List Frame) (w o : List ℕ) (front stop low : ℕ) → ShownHad t fs w o front stop low → 3 * waits fs ≤ front → Reduced n t fs w o front stop low
taken_start n t fs w o front stop low x h = record { term = t; frames = fs; shown = x; reduced_same = refl; left_same = refl; ahead = h }

-- where more is to be taken, the first frame is a sign
pub record First (n : ℕ) (fs : List Frame) : Type 0 where
  pub sign : Sign
  pub term : Term
  pub rest : List Frame
  pub is : fs ≡ waiting sign term ∷ rest
  pub tight : leb n (rank sign) ≡ true

pub first_of : (n : ℕ) (fs : List Frame) → true ≡ reduces_more n fs → First n fs
unfolding reduces_more
first_of n [] m = cc
first_of n (bracket ∷ fs) m = cc
first_of n (waiting s u ∷ fs) m = record { sign = s; term = u; rest = fs; is = refl; tight = sym m }

module _ (n : ℕ) (t : Term) (fs : List Frame) (w o : List ℕ) (front stop low : ℕ) (x : Reduced n t fs w o front stop low) (e : true ≡ reduces_more n x.frames) where
  pub taken_first : First n x.frames
  taken_first = first_of n x.frames e

  pub taken_shown : ShownHad x.term (waiting taken_first.sign taken_first.term ∷ taken_first.rest) w o front stop low
  taken_shown = subst (λ (gs : List Frame). ShownHad x.term gs w o front stop low) taken_first.is x.shown

  waits_first : waits x.frames ≡ 1 + waits taken_first.rest
  unfolding waits
  waits_first = ap waits taken_first.is

  pub taken_ahead : 3 ≤ front
  taken_ahead = let h = x.ahead in omega (arith, waits_first)

  pub taken_next : (o' : List ℕ) (front' stop' low' : ℕ) → ShownHad (sign_term taken_first.sign x.term taken_first.term) taken_first.rest w o' front' stop' low' → front' + 3 ≡ front → Reduced n t fs w o' front' stop' low'
  unfolding reduced_term reduced_frames
  taken_next o' front' stop' low' y f =
      let p = taken_first in
      let h = x.ahead in
      record {
        term = sign_term p.sign x.term p.term;
        frames = p.rest;
        shown = y;
        reduced_same = sym (ap (λ (b : Bool). cond b (reduced_term n (sign_term p.sign x.term p.term) p.rest) x.term) p.tight) ∙ sym (ap (reduced_term n x.term) p.is) ∙ x.reduced_same;
        left_same = sym (ap (λ (b : Bool). cond b (reduced_frames n p.rest) (waiting p.sign p.term ∷ p.rest)) p.tight) ∙ sym (ap (reduced_frames n) p.is) ∙ x.left_same;
        ahead = omega (arith, waits_first);
      }

none_taken : (n : ℕ) (t : Term) (fs : List Frame) → false ≡ reduces_more n fs → (reduced_term n t fs ≡ t) × (reduced_frames n fs ≡ fs)
unfolding reduces_more reduced_term reduced_frames
none_taken n t [] e = (refl, refl)
none_taken n t (bracket ∷ fs) e = (refl, refl)
none_taken n t (waiting s u ∷ fs) e = (ap (λ (b : Bool). cond b (reduced_term n (sign_term s t u) fs) t) (sym e), ap (λ (b : Bool). cond b (reduced_frames n fs) (waiting s u ∷ fs)) (sym e))

pub taken_all : (n : ℕ) (t : Term) (fs : List Frame) (w o : List ℕ) (front stop low : ℕ) (x : Reduced n t fs w o front stop low) → false ≡ reduces_more n x.frames → ShownHad (reduced_term n t fs) (reduced_frames n fs) w o front stop low
taken_all n t fs w o front stop low x e =
    let p = none_taken n x.term x.frames e in
    subst (λ (u : Term). ShownHad u (reduced_frames n fs) w o front stop low) (sym p.0 ∙ x.reduced_same)
    (subst (λ (gs : List Frame). ShownHad x.term gs w o front stop low) (sym p.1 ∙ x.left_same) x.shown)

pub plain-put : (o o' : List ℕ) (front tag : ℕ) → 3 ≤ front → drop (front - 3) o' ≡ tag ∷ (word_bytes 0 ++ drop (front - 3 + 3) o) → drop (front - 3) o' ≡ tag ∷ (word_bytes 0 ++ drop front o)
plain-put o o' front tag h e = let n : front - 3 + 3 ≡ front = omega arith in e ∙ ap (λ (i : ℕ). tag ∷ (word_bytes 0 ++ drop i o)) n

pub word-put : (o o₁ o₂ : List ℕ) (front tag len v : ℕ) → 5 ≤ front → drop (front - 2) o₁ ≡ word_bytes v ++ drop (front - 2 + 2) o → drop (front - 5) o₂ ≡ tag ∷ (word_bytes len ++ drop (front - 5 + 3) o₁) → drop (front - 5) o₂ ≡ tag ∷ (word_bytes len ++ (word_bytes v ++ drop front o))
word-put o o₁ o₂ front tag len v h e f =
    let n : front - 5 + 3 ≡ front - 2 = omega arith in
    let m : front - 2 + 2 ≡ front = omega arith in
    f ∙ ap (λ (i : ℕ). tag ∷ (word_bytes len ++ drop i o₁)) n ∙ ap (λ (l : List ℕ). tag ∷ (word_bytes len ++ l)) (e ∙ ap (λ (i : ℕ). word_bytes v ++ drop i o) m)

-- the bytes of what is held
pub had_lengths : (t : Term) (fs : List Frame) (w o : List ℕ) (front stop low : ℕ) → ShownHad t fs w o front stop low → (length o ≡ front + (size t + length (rest_bytes fs))) × (stop ≡ front + size t)
had_lengths t fs w o front stop low x =
    let within = x.within in
    let ends = x.ends in
    let e : length o - front ≡ size t + length (rest_bytes fs) = sym (length-drop front o) ∙ ap length x.bytes ∙ length-append (term_bytes t) (rest_bytes fs) ∙ ap (λ (n : ℕ). n + length (rest_bytes fs)) (length-term_bytes t) in
    (omega arith, omega arith)

-- by how tight the sign binds
pub reduced_as : (n m : ℕ) (t : Term) (fs : List Frame) (w o : List ℕ) (front stop low : ℕ) → n ≡ m → ShownHad (reduced_term n t fs) (reduced_frames n fs) w o front stop low → ShownHad (reduced_term m t fs) (reduced_frames m fs) w o front stop low
reduced_as n m t fs w o front stop low e x = subst (λ (i : ℕ). ShownHad (reduced_term i t fs) (reduced_frames i fs) w o front stop low) e x

-- how far the front goes when signs are taken
pub taken_front : (n : ℕ) (t : Term) (fs : List Frame) (w o o' : List ℕ) (front stop low front' stop' low' : ℕ) → length o' ≡ length o → ShownHad t fs w o front stop low → ShownHad (reduced_term n t fs) (reduced_frames n fs) w o' front' stop' low' → front' + 3 * waits fs ≡ front + 3 * waits (reduced_frames n fs)
taken_front n t fs w o o' front stop low front' stop' low' e x y = omega (arith, (had_lengths t fs w o front stop low x).0, (had_lengths (reduced_term n t fs) (reduced_frames n fs) w o' front' stop' low' y).0, reduced_size n t fs)

pub label_front : (t : Term) (fs : List Frame) (w o o' : List ℕ) (front stop low front' stop' low' : ℕ) → length o' ≡ length o → ShownHad t fs w o front stop low → 3 * waits fs + 5 ≤ front → ShownHad (reduced_term 0 t fs) (reduced_frames 0 fs) w o' front' stop' low' → 5 ≤ front'
label_front t fs w o o' front stop low front' stop' low' e x h y = omega (arith, taken_front 0 t fs w o o' front stop low front' stop' low' e x y)

label_bytes : (v : ℕ) (t : Term) → term_bytes (label_term v t) ≡ 18 ∷ (word_bytes (size t + 2) ++ (word_bytes v ++ term_bytes t))
unfolding term_bytes
label_bytes v t = ap (λ (n : ℕ). 18 ∷ (word_bytes n ++ (word_bytes v ++ term_bytes t))) (two t)
  where
    two : (t : Term) → suc (suc (length (term_bytes t))) ≡ size t + 2
    two t = omega (arith, length-term_bytes t)

pub shown_label : (v : ℕ) (t : Term) (fs : List Frame) (w o o' : List ℕ) (front stop low : ℕ) → ShownHad t fs w o front stop low → 5 ≤ front → length o' ≡ length o → drop (front - 5) o' ≡ 18 ∷ (word_bytes (stop - front + 2) ++ (word_bytes v ++ drop front o)) → ShownHad (label_term v t) fs w o' (front - 5) stop low
shown_label v t fs w o o' front stop low x h e put =
    let within = x.within in
    let n : stop - front + 2 ≡ size t + 2 = length_is (had_lengths t fs w o front stop low x).1 in
    record {
      bytes = put ∙ ap (λ (m : ℕ). 18 ∷ (word_bytes m ++ (word_bytes v ++ drop front o))) n ∙ ap (λ (l : List ℕ). 18 ∷ (word_bytes (size t + 2) ++ (word_bytes v ++ l))) x.bytes ∙ ap (λ (l : List ℕ). l ++ rest_bytes fs) (sym (label_bytes v t));
      within = omega arith;
      ends = x.ends ∙ sym e;
      stacked = subst (λ (m : ℕ). Stacked w m low fs) (sym e) x.stacked;
    }
  where
    length_is : stop ≡ front + size t → stop - front + 2 ≡ size t + 2
    length_is e = omega arith

-- frames that stand above a write
stacked_kept : (w w' : List ℕ) (total low : ℕ) (fs : List Frame) → ((i : ℕ) → low ≤ i → get_or w' i 0 ≡ get_or w i 0) → Stacked w total low fs → Stacked w' total low fs
unfolding Stacked word
stacked_kept w w' total low [] k st = st
stacked_kept w w' total low (bracket ∷ fs) k st = (k low (omega arith) ∙ st.0, stacked_kept w w' total (low + 3) fs (λ i h. k i (omega arith)) st.1)
stacked_kept w w' total low (waiting s u ∷ fs) k st = (
  k low (omega arith) ∙ st.0,
  ap₂ (λ (a b : ℕ). a * 256 + b + length (rest_bytes fs)) (k (low + 1) (omega arith)) (k (low + 1 + 1) (omega arith)) ∙ st.1,
  stacked_kept w w' total (low + 3) fs (λ i h. k i (omega arith)) st.2,
)

-- a sign's frame pushed at a place
module _ (w : List ℕ) (low kind end : ℕ) (room : low + 3 ≤ length w) where
  abbrev pushed : List ℕ
  pushed = put_word (set w low kind) (low + 1) end

  pushed_other : (i : ℕ) → i ≢ low → i ≢ low + 1 → i ≢ low + 1 + 1 → get_or pushed i 0 ≡ get_or w i 0
  unfolding put_word
  pushed_other i c b a =
      get_or-set_other (set (set w low kind) (low + 1) (end / 256)) (low + 1 + 1) i (end % 256) 0 a ∙ get_or-set_other (set w low kind) (low + 1) i (end / 256) 0 b ∙ get_or-set_other w low i kind 0 c

  pub pushed_below : SameBelow low w pushed
  pushed_below i h = pushed_other i (omega arith) (omega arith) (omega arith)

  pushed_above : (i : ℕ) → low + 3 ≤ i → get_or pushed i 0 ≡ get_or w i 0
  pushed_above i h = pushed_other i (omega arith) (omega arith) (omega arith)

  pushed_kind : get_or pushed low 0 ≡ kind
  unfolding put_word
  pushed_kind =
      let a : low ≢ low + 1 + 1 = omega arith in
      let b : low ≢ low + 1 = omega arith in
      get_or-set_other (set (set w low kind) (low + 1) (end / 256)) (low + 1 + 1) low (end % 256) 0 a ∙ get_or-set_other (set w low kind) (low + 1) low (end / 256) 0 b ∙ get_or-set_same w low kind 0 (omega arith)

  pushed_end : word pushed (low + 1) ≡ end
  pushed_end = word_same (set w low kind) (low + 1) end (let l : length (set w low kind) ≡ length w = length-set w low kind in omega arith)

pub shown_sign : (s : Sign) (t : Term) (fs : List Frame) (w w' o : List ℕ) (front stop high low kind : ℕ) → ShownHad t fs w o front stop high → kind ≡ sign_tag s → high ≡ low + 3 → low + 3 ≤ length w → w' ≡ put_word (set w low kind) (low + 1) stop → ShownDue (waiting s t ∷ fs) w' o front low
unfolding Stacked rest_bytes
shown_sign s t fs w w' o front stop high low kind x k h room e =
    record {
      bytes = x.bytes;
      within = x.within;
      stacked = (
        ap (λ (l : List ℕ). get_or l low 0) e ∙ pushed_kind w low kind stop room ∙ k,
        ap (λ (l : List ℕ). word l (low + 1) + length (rest_bytes fs)) e ∙ ap (λ (n : ℕ). n + length (rest_bytes fs)) (pushed_end w low kind stop room) ∙ x.ends,
        stacked_kept w w' (length o) (low + 3) fs (λ i b. ap (λ (l : List ℕ). get_or l i 0) e ∙ pushed_above w low kind stop room i b) (subst (λ (j : ℕ). Stacked w (length o) j fs) h x.stacked),
      );
    }

pub shown_closing : (fs : List Frame) (w w' o : List ℕ) (front high low : ℕ) → ShownDue fs w o front high → high ≡ low + 3 → low < length w → w' ≡ set w low 0 → ShownDue (bracket ∷ fs) w' o front low
unfolding Stacked rest_bytes
shown_closing fs w w' o front high low x h room e =
    record {
      bytes = x.bytes;
      within = x.within;
      stacked = (
        ap (λ (l : List ℕ). get_or l low 0) e ∙ get_or-set_same w low 0 0 room,
        stacked_kept w w' (length o) (low + 3) fs (λ i b. let c : i ≢ low = omega arith in ap (λ (l : List ℕ). get_or l i 0) e ∙ get_or-set_other w low i 0 0 c) (subst (λ (j : ℕ). Stacked w (length o) j fs) h x.stacked),
      );
    }

pub closing_below : (w w' : List ℕ) (low : ℕ) → w' ≡ set w low 0 → SameBelow low w w'
closing_below w w' low e i h = let c : i ≢ low = omega arith in ap (λ (l : List ℕ). get_or l i 0) e ∙ get_or-set_other w low i 0 0 c

pub sign_below : (w w' : List ℕ) (low kind end : ℕ) → low + 3 ≤ length w → w' ≡ put_word (set w low kind) (low + 1) end → SameBelow low w w'
sign_below w w' low kind end room e i h = ap (λ (l : List ℕ). get_or l i 0) e ∙ pushed_below w low kind end room i h

-- a bracket is lowest
pub opened-low : (t : Term) (fs : List Frame) (w o : List ℕ) (front stop low : ℕ) → ShownHad t fs w o front stop low → NotStuck (unbracket t fs) → low + 3 ≤ frames_end
unfolding unbracket
opened-low t [] w o front stop low x n = absurd n
opened-low t (bracket ∷ fs) w o front stop low x n = omega (arith, stacked_end w (length o) low (bracket ∷ fs) x.stacked)
opened-low t (waiting s u ∷ fs) w o front stop low x n = absurd n

pub shown_opening : (t : Term) (fs : List Frame) (w o : List ℕ) (front stop low : ℕ) → ShownHad t fs w o front stop low → NotStuck (unbracket t fs) → Shown (unbracket t fs) w o front stop (low + 3)
unfolding unbracket Stacked rest_bytes
shown_opening t [] w o front stop low x n = absurd n
shown_opening t (bracket ∷ fs) w o front stop low x n = record { bytes = x.bytes; within = x.within; ends = x.ends; stacked = x.stacked.1 }
shown_opening t (waiting s u ∷ fs) w o front stop low x n = absurd n
