-- Behind a leaf: the brackets that end there, and then the right part of a pair or the end.
-- Assumes nothing.
use mathlib.Core.Path.{◌≡◌, refl, sym, ap, subst, ◌∙◌}
use mathlib.Core.Bool.{Bool, true, false}
use mathlib.Core.List.{List, [], ◌∷◌, ◌++◌, append-nil}
use Prim.Native.Nat.{ℕ, ◌+◌, ◌-◌, ◌≤◌, ◌<◌}
use native.Mathlib.Omega.{arith}
use lib.ListN.{length, get_or, set, take}
use lib.Dec.{leb}
use lib.Seq.{sets}
use Rattle.format.specs.Terms.{Term}
use Rattle.text_writer.specs.declared.writing.Writing.{Writing}
use Rattle.notation.specs.Signs.{rank_tag}
use Rattle.text_writer.specs.Spelling.{text_in, sign_text}
use Rattle.text_writer.specs.Stack.{Frame, bracket, pair, stack_place, tag_in, frame_byte, bracket_on_top, rest_text, rest_fields, RightsStand}
use Rattle.text_writer.specs.Writing.{most_frames, writing_room, closed, taken_up, Due, Rests, Settled, Going, due, over}
use Rattle.text_writer.proofs.StackLaws.{total, spell, pop, on_top, tag_back, followed_back, has_bracket, no_bracket}

-- what the code asks of a state in which frames follow
pub record RestBounds (w : List ℕ) (x : Writing) : Type 0 where
  pub short : x.len < stack_place
  pub frames : stack_place + x.top ≤ length w
  pub room : writing_room ≤ length w

pub rest_bounds : (s whole w : List ℕ) (x : Writing) (fs : List Frame) → Rests s whole w x fs → RestBounds w x
rest_bounds s whole w x fs r =
    let h = r.held in
    record { short = omega (arith, total whole w x.len x.top (rest_text fs) fs h, h.short); frames = omega (arith, h.height, h.room, r.few); room = h.room }

-- a bracket is closed
close_law : (s whole w : List ℕ) (x : Writing) (fs : List Frame) → Rests s whole w x (bracket ∷ fs) → Rests s whole (set w x.len 41) (closed x) fs
unfolding rest_text rest_fields RightsStand
close_law s whole w x fs r =
    let one = spell whole w x.len x.top (41 ∷ []) (rest_text fs) (bracket ∷ fs) r.held in
    record { held = pop whole (set w x.len 41) (x.len + 1) x.top bracket (rest_text fs) fs one; file = r.file; rights = r.rights; few = omega (arith, r.few) }

-- as long as one stands on top
pub settled-start : (s whole w : List ℕ) (x : Writing) (fs : List Frame) → Rests s whole w x fs → (more : Bool) → more ≡ bracket_on_top w x.top → Settled s whole w x x more
settled-start s whole w x fs r more e = record { frames = fs; rests = r; at_same = refl; on_top = e }

pub settled_top : (s whole w : List ℕ) (x y : Writing) (more : Bool) → Settled s whole w x y more → more ≡ true → 0 < y.top
settled_top s whole w x y more st e =
    let r = st.rests in
    let b = has_bracket whole w y.len y.top _ s y.at st.frames r.held r.rights (sym st.on_top ∙ e) in
    omega (arith, r.held.height, ap length b.1)

pub settled_next : (s whole w : List ℕ) (x y : Writing) (more : Bool) → Settled s whole w x y more → more ≡ true → (w' : List ℕ) → w' ≡ set w y.len 41 → (r : Writing) → r ≡ closed y → (more' : Bool) → more' ≡ bracket_on_top w' r.top → Settled s whole w' x r more'
settled_next s whole w x y more st e w' v r q more' m =
    let k = st.rests in
    let b = has_bracket whole w y.len y.top _ s y.at st.frames k.held k.rights (sym st.on_top ∙ e) in
    let next = close_law s whole w y b.0 (subst (Rests s whole w y) b.1 k) in
    record {
      frames = b.0;
      rests = subst (λ (z : Writing). Rests s whole w' z b.0) (sym q) (subst (λ (l : List ℕ). Rests s whole l (closed y) b.0) (sym v) next);
      at_same = ap (λ (z : Writing). z.at) q ∙ st.at_same;
      on_top = m;
    }

pub not_zero : {n : ℕ} → (n ≡ 0 → ⊥) → 0 < n
not_zero h = omega (arith, h)

-- the state behind the sign of a pair
abbrev behind_sign : Writing → (tag : ℕ) → (followed : Bool) → Writing
behind_sign y k f = record { at = y.at; len = y.len + 3; top = y.top - 1; binds = rank_tag k; followed = f }

-- behind the brackets: the end
module _ (s whole w : List ℕ) (x y : Writing) (st : Settled s whole w x y false) where
  pub ends_law : y.top ≡ 0 → Going s whole w y × (y.at ≡ x.at)
  ends_law e = (go st.frames st.rests, st.at_same)
    where
      go : (fs : List Frame) → Rests s whole w y fs → Going s whole w y
      go [] r = over (record { at_end = unfold RightsStand in r.rights; within = r.held.within; text = unfold rest_text in sym (append-nil (take y.len w)) ∙ r.held.text })
      go (f ∷ fs) r = absurd (omega (arith, r.held.height, e))

  -- or a pair
  module _ (n : 0 < y.top) where
    abbrev byte : ℕ
    byte = get_or w (stack_place + (y.top - 1)) 0

    -- what the frame on top says
    record OnTop : Type 0 where
      tag : ℕ
      right : Term
      flag : Bool
      rest : List Frame
      follows : Rests s whole w y (pair tag right flag ∷ rest)

    top_pair : OnTop
    top_pair = go st.frames st.rests
      where
        go : (fs : List Frame) → Rests s whole w y fs → OnTop
        go [] r = absurd (omega (arith, r.held.height, n))
        go (bracket ∷ fs) r = absurd (no_bracket whole w y.len y.top _ fs r.held (sym st.on_top))
        go (pair k u f ∷ fs) r = record { tag = k; right = u; flag = f; rest = fs; follows = r }

    pub pair_sign_room : y.len + 3 ≤ stack_place
    unfolding rest_text
    pair_sign_room =
        let o = top_pair in
        let h = o.follows.held in
        omega (arith, total whole w y.len y.top _ _ h, h.short)

    pub right_law : (w' : List ℕ) → w' ≡ sets w y.len (sign_text (tag_in byte)) → (r : Writing) → r ≡ taken_up y byte → Going s whole w' r × (r.at ≡ x.at)
    unfolding rest_text rest_fields RightsStand frame_byte
    right_law w' v r q =
        let o = top_pair in
        let k = o.tag in
        let u = o.right in
        let f = o.flag in
        let gs = o.rest in
        let p = o.follows in
        let e = on_top whole w y.len y.top (pair k u f) _ gs p.held in
        let tag_is : tag_in byte ≡ k = ap tag_in e ∙ tag_back k f p.rights.0 in
        let flag_is : leb 64 byte ≡ f = ap (leb 64) e ∙ followed_back k f p.rights.0 in
        let one = pop whole (sets w y.len (sign_text k)) (y.len + 3) y.top (pair k u f) (text_in u (rank_tag k) f ++ rest_text gs) gs (spell whole w y.len y.top (sign_text k) (text_in u (rank_tag k) f ++ rest_text gs) (pair k u f ∷ gs) p.held) in
        let next : Due s whole (sets w y.len (sign_text k)) most_frames (behind_sign y k f) u gs = record {
          held = one;
          file = p.file;
          stands = p.rights.1;
          rights = p.rights.2;
          few = omega (arith, p.few);
        } in
        let state : r ≡ behind_sign y k f = q ∙ (λ i. behind_sign y (tag_is i) (flag_is i)) in
        let bytes : w' ≡ sets w y.len (sign_text k) = v ∙ ap (λ (j : ℕ). sets w y.len (sign_text j)) tag_is in
        (due u gs (subst (λ (z : Writing). Due s whole w' most_frames z u gs) (sym state) (subst (λ (l : List ℕ). Due s whole l most_frames (behind_sign y k f) u gs) (sym bytes) next)), ap (λ (z : Writing). z.at) q ∙ st.at_same)
