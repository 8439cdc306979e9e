-- The bytes of waiting terms: one behind the other makes the bytes of one, and these, outermost first, those of all.
-- Assumes nothing.
use Prim.Native.Nat.{ℕ, zero, suc, ◌+◌, ◌*◌, ◌-◌, ◌/◌, ◌%◌, ◌≤◌, ◌<◌}
use mathlib.Core.Path.{◌≡◌, refl, sym, ap, ap₂, subst, ◌∙◌}
use mathlib.Core.List.{List, [], ◌∷◌, ◌++◌, append_assoc, append-nil}
use native.Mathlib.Omega.{arith}
use lib.ListN.{length, get_or, set, take, drop, length-append}
use lib.Seq.{paste, take_at, take-suc, take-take, get_or-take, length-take-le, paste-zero}
use Rattle.words.specs.Word.{put_word}
use Rattle.format.specs.declared.values.Goal.{Goal}
use Rattle.format.specs.Encoding.{Bytes, word_bytes, goal_bytes}
use Rattle.format.specs.Goals.{goals_at}
use Rattle.format.proofs.GoalBytes.{length-goal_bytes, goals_bytes}
use Rattle.format.proofs.GoalsLaws.{length-goals_at}
use Rattle.lent_frames.specs.declared.LentFrame.{LentFrame}
use Rattle.lent_frames.specs.Frames.{no_frame}
use Rattle.arities.specs.Layout.{space_end}
use Rattle.tactics.proofs.MemoryLaws.{same_goals}
use Rattle.saver.specs.Put.{put, Writes}
use Rattle.saver.specs.Waiting.{frame_bytes, frames_bytes, Low, AllLow, FrameGiven, WaitingGiven}
use Rattle.saver.proofs.PutLaws.{length-put, take_put, put-behind, put_byte, byte_behind, word-behind, copy_behind, block_same, same_below}

-- goals in work space are their bytes there
goals_block : (w : List ℕ) → Bytes w → (at n : ℕ) → at + n * 2 ≤ length w → take (n * 2) (drop at w) ≡ goal_bytes (goals_at w at n)
goals_block w bytes at n h =
    let l : length (goal_bytes (goals_at w at n)) ≡ n * 2 = omega (arith, length-goal_bytes (goals_at w at n), length-goals_at n w at) in
    ap (take (n * 2)) (goals_bytes w bytes n at h) ∙ take_at (goal_bytes (goals_at w at n)) _ (n * 2) l

pub length_frame : (w : List ℕ) (f : LentFrame) → length (frame_bytes w f) ≡ 6 + f.count * 2
unfolding frame_bytes
length_frame w f = omega (arith, length-goal_bytes (goals_at w f.goals f.count), length-goals_at f.count w f.goals)

-- a byte, a byte, two values and the goals behind one another
module _ (w : List ℕ) (bytes : Bytes w) (to stage file at from count : ℕ) (low : from + count * 2 ≤ to) (room : to + 6 + count * 2 ≤ length w) where
  pub term_written : (v₁ v₂ v : List ℕ) → v₁ ≡ put_word (set (set w to stage) (to + 1) file) (to + 2) at → v₂ ≡ put_word v₁ (to + 4) count → v ≡ paste v₂ (to + 6) (drop from v₂) (count * 2)
      → v ≡ put w to (stage ∷ file ∷ word_bytes at ++ word_bytes count ++ goal_bytes (goals_at w from count))
  term_written v₁ v₂ v q₁ q₂ q =
      let e₁ : set w to stage ≡ put w to (stage ∷ []) = put_byte w to stage (omega arith) in
      let e₂ : set (set w to stage) (to + 1) file ≡ put w to (stage ∷ file ∷ []) = byte_behind w (set w to stage) (stage ∷ []) to (to + 1) e₁ refl file (omega arith) in
      let e₃ : v₁ ≡ put w to (stage ∷ file ∷ word_bytes at) = q₁ ∙ word-behind w (set (set w to stage) (to + 1) file) (stage ∷ file ∷ []) to (to + 2) e₂ refl at (omega arith) in
      let e₄ : v₂ ≡ put w to (stage ∷ file ∷ word_bytes at ++ word_bytes count) = q₂ ∙ word-behind w v₁ (stage ∷ file ∷ word_bytes at) to (to + 4) e₃ refl count (omega arith) in
      let head : List ℕ = stage ∷ file ∷ word_bytes at ++ word_bytes count in
      let n₄ : length v₂ ≡ length w = ap length e₄ ∙ length-put w head to (omega arith) in
      let t₄ : take to v₂ ≡ take to w = ap (take to) e₄ ∙ take_put w head to (omega arith) in
      let g : take (count * 2) (drop from v₂) ≡ goal_bytes (goals_at w from count) = block_same w v₂ to from (count * 2) t₄ (omega arith) (omega (arith, n₄)) low ∙ goals_block w bytes from count (omega arith) in
      q ∙ copy_behind w v₂ head to (to + 6) e₄ refl v₂ from (count * 2) (omega (arith, n₄)) (omega arith) ∙ ap (λ (x : List ℕ). put w to (head ++ x)) g

pub frame_end : (w : List ℕ) (to : ℕ) (f : LentFrame) → Bytes w → FrameGiven w to f → (v₁ v₂ v : List ℕ)
    → v₁ ≡ put_word (set (set w to f.stage) (to + 1) (f.term / 65536)) (to + 2) (f.term % 65536) → v₂ ≡ put_word v₁ (to + 4) f.count → v ≡ paste v₂ (to + 6) (drop f.goals v₂) (f.count * 2)
    → Writes w to (frame_bytes w f) (to + 6 + f.count * 2) v
unfolding frame_bytes
frame_end w to f bytes h v₁ v₂ v q₁ q₂ q = (
  omega (arith, length_frame w f),
  term_written w bytes to f.stage (f.term / 65536) (f.term % 65536) f.goals f.count (omega (arith, h.low.goals_low, h.above)) h.room v₁ v₂ v q₁ q₂ q
      ∙ ap (λ (n : ℕ). put w to (f.stage ∷ f.term / 65536 ∷ word_bytes (f.term % 65536) ++ word_bytes n ++ goal_bytes (goals_at w f.goals f.count))) (sym (length-goals_at f.count w f.goals)),
)

-- what lies behind the goals does not matter to the bytes of a waiting term
module _ (w v : List ℕ) (at : ℕ) (e : take at v ≡ take at w) (above : space_end ≤ at) where
  pub frame_same : (f : LentFrame) → Low f → frame_bytes v f ≡ frame_bytes w f
  unfolding frame_bytes
  frame_same f h =
      ap (λ (g : List Goal). f.stage ∷ f.term / 65536 ∷ word_bytes (f.term % 65536) ++ word_bytes (length g) ++ goal_bytes g)
      (same_goals w v f.count f.goals (λ i l r. same_below w v at e i (omega (arith, h.goals_low))))

  pub frames_same : (fs : List LentFrame) → AllLow fs → frames_bytes v fs ≡ frames_bytes w fs
  unfolding frames_bytes AllLow
  frames_same [] h = refl
  frames_same (f ∷ fs) h = ap₂ (λ (a b : List ℕ). a ++ b) (frames_same fs h.1) (frame_same f h.0)

-- the outermost is last in the list and first in bytes
frames_snoc : (w : List ℕ) (fs : List LentFrame) (f : LentFrame) → frames_bytes w (fs ++ (f ∷ [])) ≡ frame_bytes w f ++ frames_bytes w fs
unfolding frames_bytes
frames_snoc w [] f = sym (append-nil (frame_bytes w f))
frames_snoc w (x ∷ fs) f = ap (λ (a : List ℕ). a ++ frame_bytes w x) (frames_snoc w fs f) ∙ append_assoc (frame_bytes w f) (frames_bytes w fs) (frame_bytes w x)

low_at : (fs : List LentFrame) (i : ℕ) → AllLow fs → i < length fs → Low (get_or fs i no_frame)
unfolding AllLow
low_at [] i h l = absurd (omega arith)
low_at (f ∷ fs) zero h l = h.0
low_at (f ∷ fs) (suc i) h l = low_at fs i h.1 (omega arith)

-- what holds at every turn: what is written so far, with the bytes of the frames still to come, are the bytes of all
pub record WaitingTurn (w₀ : List ℕ) (fs : List LentFrame) (n to₀ : ℕ) (w : List ℕ) (left to : ℕ) : Type 0 where
  pub given : WaitingGiven w₀ fs n to₀
  pub few : left ≤ n
  pub same_length : length w ≡ length w₀
  pub front : take to₀ w ≡ take to₀ w₀
  pub further : to₀ ≤ to
  pub ends : to + length (frames_bytes w₀ (take left fs)) ≡ to₀ + length (frames_bytes w₀ (take n fs))
  pub same : put w to (frames_bytes w₀ (take left fs)) ≡ put w₀ to₀ (frames_bytes w₀ (take n fs))

module _ (w₀ : List ℕ) (fs : List LentFrame) (n to₀ : ℕ) (w : List ℕ) (left to : ℕ) (q : WaitingTurn w₀ fs n to₀ w left to) where
  waiting_pop_given : 0 < left → left - 1 < length fs
  waiting_pop_given h = omega (arith, h, q.few, q.given.lent)

  module _ (h : 0 < left) (f : LentFrame) (is : f ≡ get_or fs (left - 1) no_frame) where
    frame_low : Low f
    frame_low =
        let e : get_or (take n fs) (left - 1) no_frame ≡ f = get_or-take n fs (left - 1) no_frame (omega (arith, h, q.few)) ∙ sym is in
        subst Low e (low_at (take n fs) (left - 1) q.given.low (omega (arith, h, q.few, length-take-le n fs q.given.lent)))

    here_is : frame_bytes w f ≡ frame_bytes w₀ f
    here_is = frame_same w₀ w to₀ q.front q.given.above f frame_low

    -- the frame's bytes come first of those still to come
    first_is : frames_bytes w₀ (take left fs) ≡ frame_bytes w f ++ frames_bytes w₀ (take (left - 1) fs)
    first_is =
        let s : left ≡ suc (left - 1) = omega (arith, h) in
        ap (λ (j : ℕ). frames_bytes w₀ (take j fs)) s
        ∙ ap (frames_bytes w₀) (take-suc fs (left - 1) no_frame (waiting_pop_given h) ∙ ap (λ (x : LentFrame). take (left - 1) fs ++ (x ∷ [])) (sym is))
        ∙ frames_snoc w₀ (take (left - 1) fs) f
        ∙ ap (λ (a : List ℕ). a ++ frames_bytes w₀ (take (left - 1) fs)) (sym here_is)

    sizes : length (frames_bytes w₀ (take left fs)) ≡ length (frame_bytes w f) + length (frames_bytes w₀ (take (left - 1) fs))
    sizes = ap length first_is ∙ length-append (frame_bytes w f) (frames_bytes w₀ (take (left - 1) fs))

    pub waiting_frame_given : FrameGiven w to f
    waiting_frame_given = record {
      low = frame_low;
      above = omega (arith, q.given.above, q.further);
      room = omega (arith, q.given.room, q.ends, q.same_length, sizes, length_frame w f);
    }

    pub waiting_next : (r : ℕ) (v : List ℕ) → Writes w to (frame_bytes w f) r v → WaitingTurn w₀ fs n to₀ v (left - 1) r
    waiting_next r v p =
        let b = frame_bytes w f in
        let room : to + length b ≤ length w = omega (arith, q.given.room, q.ends, q.same_length, sizes) in
        record {
          given = q.given;
          few = omega (arith, q.few);
          same_length = ap length p.1 ∙ length-put w b to room ∙ q.same_length;
          front = sym (take-take to₀ to v q.further) ∙ ap (take to₀) (ap (take to) p.1 ∙ take_put w b to room) ∙ take-take to₀ to w q.further ∙ q.front;
          further = omega (arith, q.further, p.0);
          ends = omega (arith, q.ends, sizes, p.0);
          same = ap (λ (x : List ℕ). put x r (frames_bytes w₀ (take (left - 1) fs))) p.1
              ∙ put-behind w b (frames_bytes w₀ (take (left - 1) fs)) to r (sym p.0) (omega (arith, q.given.room, q.ends, q.same_length, sizes, p.0))
              ∙ ap (put w to) (sym first_is)
              ∙ q.same;
        }

  pub waiting_all : left ≤ 0 → Writes w₀ to₀ (frames_bytes w₀ (take n fs)) to w
  unfolding frames_bytes
  waiting_all h =
      let none : left ≡ 0 = omega (arith, h) in
      let b = frames_bytes w₀ (take n fs) in
      let e : to + 0 ≡ to₀ + length b = subst (λ (j : ℕ). to + length (frames_bytes w₀ (take j fs)) ≡ to₀ + length b) none q.ends in
      let s : put w to [] ≡ put w₀ to₀ b = subst (λ (j : ℕ). put w to (frames_bytes w₀ (take j fs)) ≡ put w₀ to₀ b) none q.same in
      (omega (arith, e), paste-zero w to [] ∙ s)
