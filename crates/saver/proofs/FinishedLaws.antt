-- The fields of the left terms that ended: each is copied whole, and these, outermost first, are the fields finished so far.
-- Assumes nothing.
use Prim.Native.Nat.{ℕ, zero, suc, ◌+◌, ◌*◌, ◌-◌, ◌≤◌, ◌<◌}
use mathlib.Core.Path.{◌≡◌, refl, sym, ap, ap₂, subst, ◌∙◌}
use mathlib.Core.Bool.{Bool, true, false}
use mathlib.Core.List.{List, [], ◌++◌}
use native.Mathlib.Omega.{arith}
use lib.Dec.{eqb}
use lib.ListN.{length, take, drop, length-append, length-drop}
use lib.Seq.{paste, length-take-le, paste-zero}
use borrow.Author.Tests.{eqb-true, eqb-false, eq-eqb, ne_eqb}
use Rattle.arities.specs.Layout.{frames_end, space_end}
use Rattle.frames.specs.declared.Frame.{Frame}
use Rattle.frames.specs.Frames.{frame_at}
use Rattle.machine.proofs.KeepLaws.{frame_kept}
use Rattle.saver.specs.Put.{put, Writes}
use Rattle.saver.specs.Finished.{block, keeps_field, left_field, inside_of, left_fields, Marked, AllMarked, FieldGiven, FinishedGiven, FinishedWritten}
use Rattle.saver.proofs.PutLaws.{length-put, front_put, put-behind, put_copy, block_same, same_below}

-- which waiting terms keep a field
pub keeps_sequence : (k : ℕ) → k ≡ 3 → true ≡ keeps_field k
unfolding keeps_field
keeps_sequence k e = rw (eq-eqb k 3 e) refl

pub keeps_tensor : (k : ℕ) → (k ≡ 3 → ⊥) → eqb k 5 ≡ keeps_field k
unfolding keeps_field
keeps_tensor k n = rw (ne_eqb k 3 n) refl

-- where the output inside a frame begins
module _ (w : List ℕ) (at top out : ℕ) where
  pub inside_out : at ≡ top → out ≡ inside_of w at top out
  unfolding inside_of
  inside_out e = rw (eq-eqb at top e) refl

  pub inside_mark : (at ≡ top → ⊥) → (f : Frame) → f ≡ frame_at w (at - 19) → f.mark ≡ inside_of w at top out
  unfolding inside_of
  inside_mark n f e = rw (ne_eqb at top n) (ap (λ (x : Frame). x.mark) e)

-- one field
module _ (w : List ℕ) (f : Frame) (o : ℕ) where
  pub field_none : keeps_field f.kind ≡ false → left_field w f o ≡ []
  unfolding left_field
  field_none e = rw e refl

  pub field_some : keeps_field f.kind ≡ true → left_field w f o ≡ block w (f.mark + 3) (o - (f.mark + 3))
  unfolding left_field
  field_some e = rw e refl

module _ (w : List ℕ) (at end to : ℕ) (h : FieldGiven w at end to) (f : Frame) (e : f ≡ frame_at w at) (keeps : Bool) (k : keeps ≡ keeps_field f.kind) where
  pub none_written : keeps ≡ false → Writes w to (left_field w (frame_at w at) end) to w
  none_written n =
      let i : left_field w (frame_at w at) end ≡ [] = ap (λ (x : Frame). left_field w x end) (sym e) ∙ field_none w f end (sym k ∙ n) in
      (omega (arith, ap length i), paste-zero w to [] ∙ ap (put w to) (sym i))

  module _ (y : keeps ≡ true) where
    field_is : left_field w (frame_at w at) end ≡ block w (f.mark + 3) (end - (f.mark + 3))
    field_is = ap (λ (x : Frame). left_field w x end) (sym e) ∙ field_some w f end (sym k ∙ y)

    pub field-begins : f.mark + 3 ≤ end
    field-begins = (subst (λ (x : Frame). Marked x end) (sym e) h.marked).begins (sym k ∙ y)

    field-size : length (left_field w (frame_at w at) end) ≡ end - (f.mark + 3)
    field-size =
        ap length field_is
        ∙ length-take-le (end - (f.mark + 3)) (drop (f.mark + 3) w) (omega (arith, length-drop (f.mark + 3) w, h.marked.low, h.above, h.room, field-begins))

    pub field_room : (f.mark + 3 ≤ to) × (to + (end - (f.mark + 3)) ≤ length w)
    field_room = (omega (arith, field-begins, h.marked.low, h.above), omega (arith, field-size, h.room))

    pub field-written : (v : List ℕ) → v ≡ paste w to (drop (f.mark + 3) w) (end - (f.mark + 3)) → Writes w to (left_field w (frame_at w at) end) (to + (end - (f.mark + 3))) v
    field-written v q = (
      omega (arith, field-size),
      q
          ∙ put_copy w w to (f.mark + 3) (end - (f.mark + 3)) (omega (arith, field-begins, h.marked.low, h.above, h.room))
          ∙ ap (put w to) (sym field_is),
    )

-- the same in a work space that is the same below the saved state
module _ (w v : List ℕ) (len : length v ≡ length w) (e : take space_end v ≡ take space_end w) (space : space_end ≤ length w) where
  frame_below : (at : ℕ) → at + 19 ≤ space_end → frame_at v at ≡ frame_at w at
  frame_below at h = frame_kept w v at (λ i l r. same_below w v space_end e i (omega arith))

  inside_same : (at top out : ℕ) → ((at ≡ top → ⊥) → 19 ≤ at) → at ≤ space_end → inside_of v at top out ≡ inside_of w at top out
  inside_same at top out h l = go (eqb at top) refl
    where
      go : (b : Bool) → eqb at top ≡ b → inside_of v at top out ≡ inside_of w at top out
      go true b = let p = eqb-true at top b in sym (inside_out v at top out p) ∙ inside_out w at top out p
      go false b =
          let n = eqb-false at top b in
          sym (inside_mark v at top out n (frame_at v (at - 19)) refl)
          ∙ ap (λ (f : Frame). f.mark) (frame_below (at - 19) (omega (arith, h n)))
          ∙ inside_mark w at top out n (frame_at w (at - 19)) refl

  field_same : (f : Frame) (o : ℕ) → Marked f o → left_field v f o ≡ left_field w f o
  field_same f o h = go (keeps_field f.kind) refl
    where
      go : (b : Bool) → keeps_field f.kind ≡ b → left_field v f o ≡ left_field w f o
      go false q = field_none v f o q ∙ sym (field_none w f o q)
      go true q =
          field_some v f o q
          ∙ block_same w v space_end (f.mark + 3) (o - (f.mark + 3)) e space (omega (arith, len)) (omega (arith, h.begins q, h.low))
          ∙ sym (field_some w f o q)

-- seen from the next frame, the output inside a frame further out begins at the same place
inside_next : (w : List ℕ) (top out at l : ℕ) → top + 19 * suc l ≡ at → inside_of w at top out ≡ inside_of w at (top + 19) (frame_at w top).mark
inside_next w top out at zero h =
    let a : at - 19 ≡ top = omega arith in
    sym (inside_mark w at top out (λ q. omega (arith, q)) (frame_at w (at - 19)) refl)
    ∙ ap (λ (j : ℕ). (frame_at w j).mark) a
    ∙ inside_out w at (top + 19) (frame_at w top).mark (omega arith)
inside_next w top out at (suc l) h =
    sym (inside_mark w at top out (λ q. omega (arith, q)) (frame_at w (at - 19)) refl)
    ∙ inside_mark w at (top + 19) (frame_at w top).mark (λ q. omega (arith, q)) (frame_at w (at - 19)) refl

-- the outer fields are a part of all of them
outer_most : (left n : ℕ) (w : List ℕ) (top out at d : ℕ) → left + d ≡ n → top + 19 * left ≡ at
    → length (left_fields w at (inside_of w at top out) d) ≤ length (left_fields w top out n)
unfolding left_fields
outer_most zero n w top out at d s h =
    let a : at ≡ top = omega arith in
    let b : d ≡ n = omega arith in
    let e : left_fields w at (inside_of w at top out) d ≡ left_fields w top out n = ap (λ (o : ℕ). left_fields w at o d) (sym (inside_out w at top out a)) ∙ ap₂ (λ (i j : ℕ). left_fields w i out j) a b in
    omega (arith, ap length e)
outer_most (suc left) zero w top out at d s h = absurd (omega arith)
outer_most (suc left) (suc n) w top out at d s h =
    let e = ap (λ (o : ℕ). length (left_fields w at o d)) (inside_next w top out at left h) in
    let i = outer_most left n w (top + 19) (frame_at w top).mark at d (omega arith) (omega arith) in
    omega (arith, e, i, length-append (left_fields w (top + 19) (frame_at w top).mark n) (left_field w (frame_at w top) out))

marked_at : (left n : ℕ) (w : List ℕ) (top out at : ℕ) → left < n → top + 19 * left ≡ at → AllMarked w top out n → Marked (frame_at w at) (inside_of w at top out)
unfolding AllMarked
marked_at zero zero w top out at s h m = absurd (omega arith)
marked_at zero (suc n) w top out at s h m =
    let a : at ≡ top = omega arith in
    let o : out ≡ inside_of w at top out = inside_out w at top out a in
    subst (λ (j : ℕ). Marked (frame_at w at) j) o (subst (λ (j : ℕ). Marked (frame_at w j) out) (sym a) m.0)
marked_at (suc left) zero w top out at s h m = absurd (omega arith)
marked_at (suc left) (suc n) w top out at s h m =
    subst (λ (j : ℕ). Marked (frame_at w at) j) (sym (inside_next w top out at left h)) (marked_at left n w (top + 19) (frame_at w top).mark at (omega arith) (omega arith) m.1)

-- what holds at every turn: the fields of the outer frames are written
pub record FinishedTurn (w₀ : List ℕ) (top out to₀ : ℕ) (w : List ℕ) (at next : ℕ) : Type 0 where
  pub given : FinishedGiven w₀ top out to₀
  pub left : ℕ
  pub done : ℕ
  pub total : left + done ≡ given.count
  pub place : top + 19 * left ≡ at
  pub written : Writes w₀ to₀ (left_fields w₀ at (inside_of w₀ at top out) done) next w

pub finished-start : (w : List ℕ) (top out to : ℕ) → FinishedGiven w top out to → FinishedTurn w top out to w frames_end to
unfolding left_fields
finished-start w top out to h = record { given = h; left = h.count; done = 0; total = omega arith; place = h.ends; written = (omega arith, paste-zero w to []) }

module _ (w₀ : List ℕ) (top out to₀ : ℕ) (w : List ℕ) (at next : ℕ) (q : FinishedTurn w₀ top out to₀ w at next) where
  abbrev outer : List ℕ
  outer = left_fields w₀ at (inside_of w₀ at top out) q.done

  outer_room : to₀ + length outer ≤ length w₀
  outer_room = omega (arith, outer_most q.left q.given.count w₀ top out at q.done q.total q.place, q.given.room)

  pub same_length : length w ≡ length w₀
  same_length = ap length q.written.1 ∙ length-put w₀ outer to₀ outer_room

  before : take space_end w ≡ take space_end w₀
  before = ap (take space_end) q.written.1 ∙ front_put w₀ outer to₀ outer_room space_end q.given.above

  space : space_end ≤ length w₀
  space = omega (arith, q.given.above, q.given.room)

  low : at ≤ space_end
  low = omega (arith, q.place, q.total, q.given.ends)

  module _ (h : top < at) where
    one_left : (l : ℕ) × (q.left ≡ suc l)
    one_left = go q.left refl
      where
        go : (m : ℕ) → q.left ≡ m → (l : ℕ) × (q.left ≡ suc l)
        go zero e = absurd (omega (arith, h, q.place, e))
        go (suc l) e = (l, e)

    pub frame_room : 19 ≤ at
    frame_room = omega (arith, q.place, one_left.1)

    apart : (at - 19 ≡ top → ⊥) → 19 ≤ at - 19
    apart n = go one_left.0 one_left.1
      where
        go : (l : ℕ) → q.left ≡ suc l → 19 ≤ at - 19
        go zero e = absurd (n (omega (arith, q.place, e)))
        go (suc l) e = omega (arith, q.place, e)

    pub finished_inside_given : ((at - 19 ≡ top → ⊥) → 19 ≤ at - 19) × (at - 19 ≤ length w)
    finished_inside_given = (apart, omega (arith, low, space, same_length))

    module _ (end : ℕ) (is : end ≡ inside_of w (at - 19) top out) where
      end_is : end ≡ inside_of w₀ (at - 19) top out
      end_is = is ∙ inside_same w₀ w same_length before space (at - 19) top out apart (omega (arith, low))

      frame_same : frame_at w (at - 19) ≡ frame_at w₀ (at - 19)
      frame_same = frame_below w₀ w same_length before space (at - 19) (omega (arith, low, frame_room))

      marked : Marked (frame_at w₀ (at - 19)) end
      marked =
          let l = one_left.0 in
          subst (λ (j : ℕ). Marked (frame_at w₀ (at - 19)) j) (sym end_is)
          (marked_at l q.given.count w₀ top out (at - 19) (omega (arith, q.total, one_left.1)) (omega (arith, q.place, one_left.1)) q.given.marked)

      here : left_field w (frame_at w (at - 19)) end ≡ left_field w₀ (frame_at w₀ (at - 19)) end
      here = ap (λ (f : Frame). left_field w f end) frame_same ∙ field_same w₀ w same_length before space (frame_at w₀ (at - 19)) end marked

      -- the frame's field comes behind the outer ones
      more : left_fields w₀ (at - 19) (inside_of w₀ (at - 19) top out) (suc q.done) ≡ outer ++ left_field w (frame_at w (at - 19)) end
      unfolding left_fields
      more =
          let a : at - 19 + 19 ≡ at = omega (arith, frame_room) in
          let m : (frame_at w₀ (at - 19)).mark ≡ inside_of w₀ at top out = inside_mark w₀ at top out (λ e. omega (arith, h, e)) (frame_at w₀ (at - 19)) refl in
          ap₂ (λ (x y : List ℕ). x ++ y)
          (ap₂ (λ (i o : ℕ). left_fields w₀ i o q.done) a m)
          (ap (left_field w₀ (frame_at w₀ (at - 19))) (sym end_is) ∙ sym here)

      sizes : to₀ + (length outer + length (left_field w (frame_at w (at - 19)) end)) ≤ length w₀
      sizes =
          let l = one_left.0 in
          let m = outer_most l q.given.count w₀ top out (at - 19) (suc q.done) (omega (arith, q.total, one_left.1)) (omega (arith, q.place, one_left.1)) in
          omega (arith, m, ap length more, length-append outer (left_field w (frame_at w (at - 19)) end), q.given.room)

      pub finished-field_given : FieldGiven w (at - 19) end next
      finished-field_given = record {
        frame_inside = omega (arith, low, space, same_length, frame_room);
        marked = subst (λ (f : Frame). Marked f end) (sym frame_same) marked;
        above = omega (arith, q.written.0, q.given.above);
        room = omega (arith, q.written.0, sizes, same_length);
      }

      pub finished_next : (r : ℕ) (v : List ℕ) → Writes w next (left_field w (frame_at w (at - 19)) end) r v → FinishedTurn w₀ top out to₀ v (at - 19) r
      finished_next r v p =
          let b = left_field w (frame_at w (at - 19)) end in
          record {
            given = q.given;
            left = one_left.0;
            done = suc q.done;
            total = omega (arith, q.total, one_left.1);
            place = omega (arith, q.place, one_left.1);
            written = (
              omega (arith, p.0, q.written.0, ap length more, length-append outer b),
              p.1
                  ∙ ap (λ (x : List ℕ). put x next b) q.written.1
                  ∙ put-behind w₀ outer b to₀ next (sym q.written.0) (omega (arith, q.written.0, sizes))
                  ∙ ap (put w₀ to₀) (sym more),
            );
          }

  pub finished_all : at ≤ top → FinishedWritten w₀ top out to₀ next w
  finished_all h n e =
      let a : at ≡ top = omega (arith, h, q.place) in
      let d : q.done ≡ n = omega (arith, h, q.place, q.total, q.given.ends, e) in
      let f : outer ≡ left_fields w₀ top out n = ap (λ (o : ℕ). left_fields w₀ at o q.done) (sym (inside_out w₀ at top out a)) ∙ ap₂ (λ (i j : ℕ). left_fields w₀ i out j) a d in
      (omega (arith, q.written.0, ap length f), q.written.1 ∙ ap (put w₀ to₀) f)
