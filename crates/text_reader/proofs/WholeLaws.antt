-- The whole text, read from the right.
-- Assumes nothing.
use mathlib.Core.Path.{◌≡◌, refl, sym, ap, ap₂, ◌∙◌, subst}
use mathlib.Core.List.{List, [], ◌∷◌, ◌++◌, append-nil}
use mathlib.Core.Option.{some}
use Prim.Native.Nat.{ℕ, zero, suc, ◌+◌, ◌*◌, ◌-◌, ◌≤◌, ◌<◌}
use native.Mathlib.Omega.{arith}
use lib.ListN.{length, get_or, drop}
use lib.Seq.{drop-length}
use Rattle.format.specs.Terms.{Term, size}
use Rattle.format.specs.Encoding.{term_bytes}
use Rattle.notation.specs.FromRight.{Frame, State, due, had, stuck, reduced_term, reduced_frames, state_of, whole_of, term_of}
use Rattle.words.specs.Word.{word}
use Rattle.notation.specs.Marks.{semicolon, bar, star, rule_leaf, id_leaf, empty_leaf, goal_leaf, tactic_leaf, Mark, leaf, label_mark, sign, opening, closing}
use Rattle.notation.specs.Passing.{sizes}
use Rattle.text_reader.specs.MarkList.{MarkStands, MarksStand}
use Rattle.text_reader.specs.Held.{frames_end, rest_bytes, waits, Stacked, ShownHad, Shown, NotStuck, SameBelow, MarkReady, Prepared}
use Rattle.text_reader.proofs.HeldLaws.{needs, state_size, drop_unstuck, reduced_size}
use Rattle.text_reader.proofs.StoreLaws.{had_lengths}

sizes-drop : (i : ℕ) (ms : List Mark) → sizes (drop i ms) ≤ sizes ms
unfolding sizes
sizes-drop zero ms = omega arith
sizes-drop (suc i) [] = omega arith
sizes-drop (suc i) (m ∷ ms) = omega (arith, sizes-drop i ms)

-- a state with a term is not stuck; it is one in which a term was read
pub record HasTerm (σ : State) (t : Term) : Type 0 where
  pub value : Term
  pub frames : List Frame
  pub is : σ ≡ had value frames
  pub reduced_all : reduced_term 0 value frames ≡ t
  pub left_none : reduced_frames 0 frames ≡ []

whole_none : (u t : Term) → whole_of u [] ≡ some t → u ≡ t
unfolding whole_of
whole_none u t e = cc

whole_some : (u : Term) (g : Frame) (gs : List Frame) (t : Term) → whole_of u (g ∷ gs) ≡ some t → ⊥
unfolding whole_of
whole_some u g gs t e = let z : ◌≡◌ {A = ℕ} 0 1 = cc in omega arith

pub has_term : (σ : State) (t : Term) → term_of σ ≡ some t → HasTerm σ t
unfolding term_of
has_term (due fs) t e = let z : ◌≡◌ {A = ℕ} 0 1 = cc in absurd (omega arith)
has_term (had v fs) t e = go (reduced_frames 0 fs) refl e
  where
    go : (gs : List Frame) → reduced_frames 0 fs ≡ gs → whole_of (reduced_term 0 v fs) gs ≡ some t → HasTerm (had v fs) t
    go [] l e = record { value = v; frames = fs; is = refl; reduced_all = whole_none (reduced_term 0 v fs) t e; left_none = l }
    go (g ∷ gs) l e = absurd (whole_some (reduced_term 0 v fs) g gs t e)
has_term stuck t e = let z : ◌≡◌ {A = ℕ} 0 1 = cc in absurd (omega arith)

unstuck_had : {σ : State} {t : Term} → HasTerm σ t → NotStuck σ
unstuck_had x = subst NotStuck (sym x.is) tt

module _ (ms : List Mark) (work₀ : List ℕ) (count room : ℕ) (p : Prepared ms work₀ count room) where
  unstuck_whole : NotStuck (state_of ms)
  unstuck_whole = unstuck_had (has_term (state_of ms) p.term p.found)

  pub shown_start : (work out : List ℕ) → length out ≡ room → Shown (state_of (drop count ms)) work out (length out) (length out) frames_end
  unfolding state_of Stacked rest_bytes
  shown_start work out e = subst (λ (ns : List Mark). Shown (state_of ns) work out (length out) (length out) frames_end) (sym (ap (λ (i : ℕ). drop i ms) p.all ∙ drop-length ms)) (record { bytes = drop-length out; within = omega arith; stacked = refl })

  pub ready_at : (at : ℕ) (work out : List ℕ) (front stop low : ℕ) → 0 < at → at ≤ count → length out ≡ room → length work ≡ length work₀ → MarksStand work ms at → Shown (state_of (drop at ms)) work out front stop low → MarkReady ms (at - 1) work out front stop low
  ready_at at work out front stop low h l e f st x =
      let same : at ≡ at - 1 + 1 = omega arith in
      let t = p.total in let a = p.all in let s = p.space in let sh = p.short in
      record {
        inside = omega arith;
        stands = st (at - 1) (omega arith);
        shown = subst (λ (i : ℕ). Shown (state_of (drop i ms)) work out front stop low) same x;
        unstuck = drop_unstuck (at - 1) ms unstuck_whole;
        room = omega (arith, sizes-drop (at - 1) ms);
        few = p.few;
        space = omega arith;
        short = omega arith;
      }

  pub prepared_size : room ≡ size p.term
  unfolding needs rest_bytes waits
  prepared_size =
      let a = has_term (state_of ms) p.term p.found in
      let n : size a.value + length (rest_bytes a.frames) + 3 * waits a.frames ≡ room = ap needs (sym a.is) ∙ state_size ms unstuck_whole ∙ p.total in
      let s : size p.term + 0 + 3 * 0 ≡ size a.value + length (rest_bytes a.frames) + 3 * waits a.frames = subst (λ (u : Term). size u + 0 + 3 * 0 ≡ size a.value + length (rest_bytes a.frames) + 3 * waits a.frames) a.reduced_all (subst (λ (gs : List Frame). size (reduced_term 0 a.value a.frames) + length (rest_bytes gs) + 3 * waits gs ≡ size a.value + length (rest_bytes a.frames) + 3 * waits a.frames) a.left_none (reduced_size 0 a.value a.frames)) in
      omega arith

  -- at the beginning of the text
  module _ (work out : List ℕ) (front stop low : ℕ) (e : length out ≡ room) (x : Shown (state_of ms) work out front stop low) where
    abbrev pub all : HasTerm (state_of ms) p.term
    all = has_term (state_of ms) p.term p.found

    pub all_shown : ShownHad all.value all.frames work out front stop low
    all_shown = subst (λ (σ : State). Shown σ work out front stop low) all.is x

    all_needs : size all.value + length (rest_bytes all.frames) + 3 * waits all.frames ≡ room
    unfolding needs
    all_needs = ap needs (sym all.is) ∙ state_size ms unstuck_whole ∙ p.total

    pub all_ahead : 3 * waits all.frames ≤ front
    all_ahead = omega (arith, all_needs, (had_lengths all.value all.frames work out front stop low all_shown).0)

    pub all_written : (out' : List ℕ) (front' stop' low' : ℕ) → length out' ≡ length out → ShownHad (reduced_term 0 all.value all.frames) (reduced_frames 0 all.frames) work out' front' stop' low' → out' ≡ term_bytes p.term
    unfolding rest_bytes waits
    all_written out' front' stop' low' f y =
        let z : ShownHad p.term [] work out' front' stop' low' = subst (λ (u : Term). ShownHad u [] work out' front' stop' low') all.reduced_all (subst (λ (gs : List Frame). ShownHad (reduced_term 0 all.value all.frames) gs work out' front' stop' low') all.left_none y) in
        let s : size p.term + 0 + 3 * 0 ≡ size all.value + length (rest_bytes all.frames) + 3 * waits all.frames = subst (λ (u : Term). size u + 0 + 3 * 0 ≡ size all.value + length (rest_bytes all.frames) + 3 * waits all.frames) all.reduced_all (subst (λ (gs : List Frame). size (reduced_term 0 all.value all.frames) + length (rest_bytes gs) + 3 * waits gs ≡ size all.value + length (rest_bytes all.frames) + 3 * waits all.frames) all.left_none (reduced_size 0 all.value all.frames)) in
        let zero-front : front' ≡ 0 = at_zero (had_lengths p.term [] work out' front' stop' low' z).0 (all_needs) s f in
        subst (λ (i : ℕ). drop i out' ≡ term_bytes p.term ++ []) zero-front z.bytes ∙ append-nil (term_bytes p.term)
      where
        at_zero : {n : ℕ} → length out' ≡ front' + (size p.term + 0) → n ≡ room → size p.term + 0 + 3 * 0 ≡ n → length out' ≡ length out → front' ≡ 0
        at_zero a b c d = omega arith

pub from_start : (ms : List Mark) (work out : List ℕ) (at front stop low : ℕ) → at ≤ 0 → Shown (state_of (drop at ms)) work out front stop low → Shown (state_of ms) work out front stop low
from_start ms work out at front stop low h x = let e : at ≡ 0 = omega arith in subst (λ (i : ℕ). Shown (state_of (drop i ms)) work out front stop low) e x

-- marks that stand below what was changed still stand
value_kept : (w w' : List ℕ) (at low : ℕ) → at + 3 ≤ low → SameBelow low w w' → word w' (at + 1) ≡ word w (at + 1)
unfolding word
value_kept w w' at low h k = ap₂ (λ (a b : ℕ). a * 256 + b) (k (at + 1) (omega arith)) (k (at + 1 + 1) (omega arith))

mark_kept : (w w' : List ℕ) (at low : ℕ) (m : Mark) → at + 3 ≤ low → SameBelow low w w' → MarkStands w at m → MarkStands w' at m
unfolding MarkStands word
mark_kept w w' at low (leaf (rule_leaf n)) h k x = (k at (omega arith) ∙ x.0, value_kept w w' at low h k ∙ x.1)
mark_kept w w' at low (leaf id_leaf) h k x = k at (omega arith) ∙ x
mark_kept w w' at low (leaf empty_leaf) h k x = k at (omega arith) ∙ x
mark_kept w w' at low (leaf (goal_leaf n)) h k x = (k at (omega arith) ∙ x.0, value_kept w w' at low h k ∙ x.1)
mark_kept w w' at low (leaf (tactic_leaf n)) h k x = (k at (omega arith) ∙ x.0, value_kept w w' at low h k ∙ x.1)
mark_kept w w' at low (label_mark n) h k x = (k at (omega arith) ∙ x.0, value_kept w w' at low h k ∙ x.1)
mark_kept w w' at low (sign semicolon) h k x = k at (omega arith) ∙ x
mark_kept w w' at low (sign bar) h k x = k at (omega arith) ∙ x
mark_kept w w' at low (sign star) h k x = k at (omega arith) ∙ x
mark_kept w w' at low opening h k x = k at (omega arith) ∙ x
mark_kept w w' at low closing h k x = k at (omega arith) ∙ x

pub marks_kept : (w w' : List ℕ) (ms : List Mark) (count at : ℕ) → at ≤ count → SameBelow (3 * at) w w' → MarksStand w ms count → MarksStand w' ms at
marks_kept w w' ms count at h k x i l = mark_kept w w' (3 * i) (3 * at) (get_or ms i closing) (omega arith) k (x i (omega arith))
