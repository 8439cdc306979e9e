-- The bytes written and the stack: a mark written, a frame pushed and a frame taken off leave them as they should be.
-- Assumes nothing.
use mathlib.Core.Path.{◌≡◌, refl, sym, ap, ◌∙◌}
use mathlib.Core.Bool.{Bool, true, false}
use mathlib.Core.List.{List, [], ◌∷◌, ◌++◌, append_assoc}
use Prim.Native.Nat.{ℕ, ◌+◌, ◌-◌, ◌≤◌, ◌<◌}
use native.Mathlib.Omega.{arith}
use lib.Dec.{eqb, leb}
use lib.ListN.{length, get_or, set, take, length-append, length-set}
use lib.Seq.{sets, length-sets, length-take-le, take-set-le, get_or-set_same, get_or-set_other}
use borrow.Author.Tests.{eqb-true, eqb-false, eq-eqb, ne_eqb, le-leb, lt-leb}
use Rattle.notation.specs.Signs.{is_pair}
use Rattle.text_writer.specs.Stack.{Frame, bracket, pair, stack_place, pair_byte, tag_in, frame_byte, Stacked, bracket_on_top, RightsStand}
use Rattle.text_writer.specs.Writing.{most_frames, Holds}
use Rattle.text_writer.proofs.StoreLaws.{sets_front, sets_behind}
use Rattle.text_writer.proofs.TextByTag.{no_way, pair_tag}

-- frames whose bytes are as they were
stacked_same : (w w' : List ℕ) (fs : List Frame) → ((i : ℕ) → stack_place ≤ i → i < stack_place + length fs → get_or w' i 0 ≡ get_or w i 0) → Stacked w fs → Stacked w' fs
unfolding Stacked
stacked_same w w' [] h k = tt
stacked_same w w' (f ∷ fs) h k = (h (stack_place + length fs) (omega arith) (omega arith) ∙ k.0, stacked_same w w' fs (λ i l g. h i l (omega arith)) k.1)

module _ (whole w : List ℕ) (len top : ℕ) where
  -- the bytes written and those to come
  pub total : (todo : List ℕ) (fs : List Frame) → Holds whole w len top todo fs → len + length todo ≡ length whole
  total todo fs h = let n = length-take-le len w h.within in let a = length-append (take len w) todo in omega (arith, n, a, ap length h.text)

  -- the next bytes are written
  pub spell : (x todo : List ℕ) (fs : List Frame) → Holds whole w len top (x ++ todo) fs → Holds whole (sets w len x) (len + length x) top todo fs
  spell x todo fs h =
      let all = total (x ++ todo) fs h in
      let a = length-append x todo in
      let fits : len + length x < stack_place = omega (arith, all, a, h.short) in
      let same = length-sets w len x in
      record {
        room = omega (arith, same, h.room);
        short = h.short;
        within = omega (arith, same, fits, h.room);
        text = ap (λ (l : List ℕ). l ++ todo) (sets_front x w len (omega (arith, fits, h.room))) ∙ append_assoc (take len w) x todo ∙ h.text;
        height = h.height;
        stacked = stacked_same w (sets w len x) fs (λ i l g. sets_behind x w len i (omega (arith, fits, l))) h.stacked;
      }

  -- a frame is pushed
  pub push : (f : Frame) (todo : List ℕ) (fs : List Frame) → length fs < most_frames → Holds whole w len top todo fs → Holds whole (set w (stack_place + top) (frame_byte f)) len (top + 1) todo (f ∷ fs)
  unfolding Stacked
  push f todo fs l h =
      let all = total todo fs h in
      let e : stack_place + top ≡ stack_place + length fs = omega (arith, h.height) in
      let same = length-set w (stack_place + top) (frame_byte f) in
      record {
        room = omega (arith, same, h.room);
        short = h.short;
        within = omega (arith, same, h.within);
        text = ap (λ (y : List ℕ). y ++ todo) (take-set-le len w (stack_place + top) (frame_byte f) (omega (arith, all, h.short))) ∙ h.text;
        height = omega (arith, h.height);
        stacked = (
          ap (λ (i : ℕ). get_or (set w i (frame_byte f)) (stack_place + length fs) 0) e ∙ get_or-set_same w (stack_place + length fs) (frame_byte f) 0 (omega (arith, l, h.room)),
          stacked_same w (set w (stack_place + top) (frame_byte f)) fs (λ i a b. get_or-set_other w (stack_place + top) i (frame_byte f) 0 (λ z. omega (arith, z, e, b))) h.stacked,
        );
      }

  -- the frame on top is taken off
  pub pop : (f : Frame) (todo : List ℕ) (fs : List Frame) → Holds whole w len top todo (f ∷ fs) → Holds whole w len (top - 1) todo fs
  unfolding Stacked
  pop f todo fs h = record { room = h.room; short = h.short; within = h.within; text = h.text; height = omega (arith, h.height); stacked = h.stacked.1 }

  -- its byte
  pub on_top : (f : Frame) (todo : List ℕ) (fs : List Frame) → Holds whole w len top todo (f ∷ fs) → get_or w (stack_place + (top - 1)) 0 ≡ frame_byte f
  unfolding Stacked
  on_top f todo fs h = let e : stack_place + (top - 1) ≡ stack_place + length fs = omega (arith, h.height) in ap (λ (i : ℕ). get_or w i 0) e ∙ h.stacked.0

-- the byte of a pair tells its tag and whether a sign follows
pub tag_back : (k : ℕ) (f : Bool) → is_pair k ≡ true → tag_in (pair_byte k f) ≡ k
unfolding tag_in pair_byte
tag_back k true h = let p = pair_tag k h in rw (le-leb 64 (k + 64) (omega arith)) (omega arith)
tag_back k false h = let p = pair_tag k h in rw (lt-leb 64 k (omega (arith, p.1)))

pub followed_back : (k : ℕ) (f : Bool) → is_pair k ≡ true → leb 64 (pair_byte k f) ≡ f
unfolding pair_byte
followed_back k true h = le-leb 64 (k + 64) (omega arith)
followed_back k false h = let p = pair_tag k h in lt-leb 64 k (omega (arith, p.1))

not_zero : (k : ℕ) (f : Bool) → is_pair k ≡ true → pair_byte k f ≡ 0 → ⊥
unfolding pair_byte
not_zero k true h e = omega (arith, e)
not_zero k false h e = omega (arith, (pair_tag k h).0, e)

-- what stands on top, by the byte
module _ (whole w : List ℕ) (len top : ℕ) (todo : List ℕ) where
  pub has_bracket : (s : List ℕ) (at : ℕ) (fs : List Frame) → Holds whole w len top todo fs → RightsStand s at fs → bracket_on_top w top ≡ true → (gs : List Frame) × (fs ≡ bracket ∷ gs)
  unfolding bracket_on_top frame_byte RightsStand
  has_bracket s at [] h r e = no_way (rw (eq-eqb top 0 h.height) at e)
  has_bracket s at (bracket ∷ fs) h r e = (fs, refl)
  has_bracket s at (pair k u f ∷ fs) h r e =
      let n = ne_eqb top 0 (λ z. omega (arith, z, h.height)) in
      let q : eqb (get_or w (stack_place + (top - 1)) 0) 0 ≡ true = rw n at e in
      absurd (not_zero k f r.0 (sym (on_top whole w len top (pair k u f) todo fs h) ∙ eqb-true _ 0 q))

  pub no_bracket : (fs : List Frame) → Holds whole w len top todo (bracket ∷ fs) → bracket_on_top w top ≡ false → ⊥
  unfolding bracket_on_top frame_byte
  no_bracket fs h e =
      let n = ne_eqb top 0 (λ z. omega (arith, z, h.height)) in
      let q : eqb (get_or w (stack_place + (top - 1)) 0) 0 ≡ false = rw n at e in
      eqb-false _ 0 q (on_top whole w len top bracket todo fs h)
