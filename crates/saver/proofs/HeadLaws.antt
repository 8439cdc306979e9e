-- The head of a saved state: the fields of the frames are the fields finished so far, and the numbers are stored before and behind them.
-- Assumes nothing.
use Prim.Native.Nat.{ℕ, ◌+◌, ◌*◌, ◌-◌, ◌≤◌}
use mathlib.Core.Path.{◌≡◌, refl, sym, ap, ap₂, ◌∙◌}
use mathlib.Core.Bool.{Bool, true, false, false≢true}
use mathlib.Core.List.{List, [], ◌∷◌, ◌++◌}
use native.Mathlib.Omega.{arith}
use lib.ListN.{length, take, drop, length-append, length-take}
use lib.Seq.{take_at}
use borrow.Author.Tests.{eq-eqb, ne_eqb}
use Rattle.words.specs.Word.{put_word}
use Rattle.format.specs.Encoding.{Bytes, word_bytes, term_bytes}
use Rattle.format.specs.Standing.{Stands}
use Rattle.format.specs.Terms.{Term, size}
use Rattle.format.proofs.Encoded.{length-term_bytes, term_bytes_lem}
use Rattle.evaluation.specs.Machine as M
use Rattle.evaluation.specs.Machine.{labelled, sequence_left, sequence_right, tensor_left, tensor_right, alternation_left}
use Rattle.evaluation.specs.Halts.{kept_size, kept_bytes}
use Rattle.evaluation.proofs.HaltBounds.{kept_bytes_lem}
use Rattle.entries.specs.SavedState.{finished_field, finished_fields}
use Rattle.arities.specs.Layout.{frames_end, space_end}
use Rattle.frames.specs.declared.Frame.{Frame}
use Rattle.frames.specs.Frames.{frame_at}
use Rattle.machine.specs.declared.state.State.{State}
use Rattle.machine.specs.Shows.{FrameIs, FramesAt}
use Rattle.machine.proofs.KeepLaws.{frame_mark}
use Rattle.saver.specs.Put.{put}
use Rattle.saver.specs.Finished.{block, keeps_field, left_field, left_fields, AllMarked, FinishedGiven, FinishedWritten}
use Rattle.saver.specs.Head.{head_bytes, HeadGiven, Heads}
use Rattle.saver.proofs.PutLaws.{length-put, put_before, put_word_lem, word-behind}
use Rattle.saver.proofs.FinishedLaws.{keeps_sequence, keeps_tensor, field_none, field_some}
use Rattle.saver.proofs.SavedLaws.{frames_end_lem}

-- which waiting terms keep a field
none_kept : (k : ℕ) → (k ≡ 3 → ⊥) → (k ≡ 5 → ⊥) → keeps_field k ≡ false
unfolding keeps_field
none_kept k a b = rw (ne_eqb k 3 a, ne_eqb k 5 b) refl

one_kept : (k : ℕ) → k ≡ 3 → keeps_field k ≡ true
one_kept k e = sym (keeps_sequence k e)

other_kept : (k : ℕ) → k ≡ 5 → keeps_field k ≡ true
other_kept k e = sym (keeps_tensor k (λ i. omega (arith, e, i))) ∙ eq-eqb k 5 e

-- a term that stands in work space is its bytes there
term_block : (w : List ℕ) → Bytes w → (p : Term) (at n : ℕ) → Stands w at p → n ≡ size p → block w at n ≡ term_bytes p
term_block w bytes p at n st e = ap (λ (j : ℕ). take j (drop at w)) e ∙ ap (take (size p)) (term_bytes_lem w bytes p at st) ∙ take_at (term_bytes p) _ (size p) (length-term_bytes p)

module _ (table job w : List ℕ) (arena : ℕ) (f : Frame) (o : ℕ) where
  -- the field of a left term that ended is that term's
  left_is : Bytes w → (y : M.Frame) → FrameIs table job w arena f o y → left_field w f o ≡ finished_field y
  unfolding FrameIs
  left_is bytes (labelled π l) h = field_none w f o (none_kept f.kind (λ e. omega (arith, e, h.0)) (λ e. omega (arith, e, h.0)))
  left_is bytes (sequence_left π u) h = field_none w f o (none_kept f.kind (λ e. omega (arith, e, h.0)) (λ e. omega (arith, e, h.0)))
  left_is bytes (sequence_right π s) h = field_some w f o (one_kept f.kind h.0) ∙ term_block w bytes s (f.mark + 3) (o - (f.mark + 3)) h.3 (omega (arith, h.1))
  left_is bytes (tensor_left π u g) h = field_none w f o (none_kept f.kind (λ e. omega (arith, e, h.0)) (λ e. omega (arith, e, h.0)))
  left_is bytes (tensor_right π s g) h = field_some w f o (other_kept f.kind h.0) ∙ term_block w bytes s (f.mark + 3) (o - (f.mark + 3)) h.3 (omega (arith, h.1))
  left_is bytes (alternation_left π u g) h = field_none w f o (none_kept f.kind (λ e. omega (arith, e, h.0)) (λ e. omega (arith, e, h.0)))

  begins : (y : M.Frame) → FrameIs table job w arena f o y → keeps_field f.kind ≡ true → f.mark + 3 ≤ o
  unfolding FrameIs
  begins (labelled π l) h k = omega (arith, h.1)
  begins (sequence_left π u) h k = omega (arith, h.1)
  begins (sequence_right π s) h k = omega (arith, h.1)
  begins (tensor_left π u g) h k = omega (arith, h.1)
  begins (tensor_right π s g) h k = omega (arith, h.1)
  begins (alternation_left π u g) h k = absurd (false≢true (sym (none_kept f.kind (λ e. omega (arith, e, h.0)) (λ e. omega (arith, e, h.0))) ∙ k))

-- a field is no longer than what lies between its mark and where the output inside begins
field_most : (w : List ℕ) (f : Frame) (o : ℕ) → length (left_field w f o) ≤ o - (f.mark + 3)
field_most w f o = go (keeps_field f.kind) refl
  where
    go : (b : Bool) → keeps_field f.kind ≡ b → length (left_field w f o) ≤ o - (f.mark + 3)
    go false q = omega (arith, ap length (field_none w f o q))
    go true q = omega (arith, ap length (field_some w f o q), length-take (o - (f.mark + 3)) (drop (f.mark + 3) w))

-- so it has no more bytes than the term that the frame keeps
kept_most : (table job w : List ℕ) (arena : ℕ) (f : Frame) (o : ℕ) (y : M.Frame) → FrameIs table job w arena f o y → length (left_field w f o) ≤ kept_size y
unfolding FrameIs
kept_most table job w arena f o (labelled π l) h = omega (arith, ap length (field_none w f o (none_kept f.kind (λ e. omega (arith, e, h.0)) (λ e. omega (arith, e, h.0)))))
kept_most table job w arena f o (sequence_left π u) h = omega (arith, ap length (field_none w f o (none_kept f.kind (λ e. omega (arith, e, h.0)) (λ e. omega (arith, e, h.0)))))
kept_most table job w arena f o (sequence_right π s) h = omega (arith, field_most w f o, h.1)
kept_most table job w arena f o (tensor_left π u g) h = omega (arith, ap length (field_none w f o (none_kept f.kind (λ e. omega (arith, e, h.0)) (λ e. omega (arith, e, h.0)))))
kept_most table job w arena f o (tensor_right π s g) h = omega (arith, field_most w f o, h.1)
kept_most table job w arena f o (alternation_left π u g) h = omega (arith, ap length (field_none w f o (none_kept f.kind (λ e. omega (arith, e, h.0)) (λ e. omega (arith, e, h.0)))))

module _ (table job w : List ℕ) where
  pub fields_are : (arena : ℕ) → Bytes w → (k : List M.Frame) (top o : ℕ) → FramesAt table job w arena k top o → left_fields w top o (length k) ≡ finished_fields k
  unfolding FramesAt left_fields finished_fields
  fields_are arena bytes [] top o h = refl
  fields_are arena bytes (y ∷ k) top o h =
      ap₂ (λ (a b : List ℕ). a ++ b) (fields_are (frame_at w top).arena bytes k (top + 19) (frame_at w top).mark h.1) (left_is table job w arena (frame_at w top) o bytes y h.0)

  all_marked : (arena : ℕ) (k : List M.Frame) (top o : ℕ) → o ≤ space_end → FramesAt table job w arena k top o → AllMarked w top o (length k)
  unfolding FramesAt AllMarked
  all_marked arena [] top o b h = tt
  all_marked arena (y ∷ k) top o b h = (
    record { begins = begins table job w arena (frame_at w top) o y h.0; low = b },
    all_marked (frame_at w top).arena k (top + 19) (frame_at w top).mark (omega (arith, frame_mark table job w arena y k top o h)) h.1,
  )

  -- the fields have no more bytes than the terms that are kept
  fields_most : (arena : ℕ) (k : List M.Frame) (top o : ℕ) → FramesAt table job w arena k top o → length (left_fields w top o (length k)) ≤ kept_bytes k
  unfolding FramesAt left_fields kept_bytes
  fields_most arena [] top o h = omega arith
  fields_most arena (y ∷ k) top o h = omega (
    arith,
    fields_most (frame_at w top).arena k (top + 19) (frame_at w top).mark h.1,
    kept_most table job w arena (frame_at w top) o y h.0,
    length-append (left_fields w (top + 19) (frame_at w top).mark (length k)) (left_field w (frame_at w top) o),
  )

module _ (w : List ℕ) (s : State) (n : ℕ) (h : HeadGiven w s n) where
  abbrev fields : List ℕ
  fields = left_fields w s.top s.out (length h.frames)

  out-low : s.out ≤ 81920
  out-low = omega (arith, h.runs.sizes.output_fits, h.few_steps)

  -- at most five bytes for each of the fields held, so that their length is a number of 16 bits
  few_bytes : length fields ≤ 20480
  few_bytes = omega (
    arith,
    fields_most h.table h.job w s.arena h.frames s.top s.out h.runs.frames,
    kept_bytes_lem h.frames,
    h.runs.held_is,
    h.runs.sizes.held_fits,
  )

  ends : s.top + 19 * length h.frames ≡ frames_end
  ends = frames_end_lem h.table h.job w s.arena h.frames s.top s.out h.runs.frames

  pub finished_given : FinishedGiven w s.top s.out (space_end + 4)
  finished_given = record {
    count = length h.frames;
    ends = ends;
    marked = all_marked h.table h.job w s.arena h.frames s.top s.out (omega (arith, out-low)) h.runs.frames;
    above = omega arith;
    room = omega (arith, few_bytes, h.space);
  }

  module _ (end : ℕ) (v₁ : List ℕ) (a : FinishedWritten w s.top s.out (space_end + 4) end v₁) where
    -- the numbers that are stored are small, and what they are stored into is long enough
    pub end_small : (space_end + 4 ≤ end) × (end ≤ space_end + 4 + 20480) × (length v₁ ≡ length w)
    end_small =
        let p = a (length h.frames) ends in
        (omega (arith, p.0), omega (arith, p.0, few_bytes), ap length p.1 ∙ length-put w fields (space_end + 4) (omega (arith, few_bytes, h.space)))

    pub head_end : Bytes w → (v₂ v₃ v : List ℕ) → v₂ ≡ put_word v₁ (space_end + 2) (end - (space_end + 4)) → v₃ ≡ put_word v₂ space_end s.steps → v ≡ put_word v₃ end (n + 1) → Heads w s n (end + 2) v
    unfolding head_bytes
    head_end bytes v₂ v₃ v q₂ q₃ q = record {
      bytes = bytes;
      writes = λ table job π t g k r.
          let top_is = frames_end_lem table job w s.arena k s.top s.out r.frames in
          let p = a (length k) top_is in
          let f = finished_fields k in
          let e = fields_are table job w s.arena bytes k s.top s.out r.frames in
          let l : end - (space_end + 4) ≡ length f = omega (arith, p.0, ap length e) in
          let small : end ≤ space_end + 4 + 20480 = end_small.1 in
          let e₁ : v₁ ≡ put w (space_end + 4) f = p.1 ∙ ap (put w (space_end + 4)) e in
          let n₁ : length v₁ ≡ length w = end_small.2 in
          let b₂ : List ℕ = word_bytes (length f) ++ f in
          let e₂ : v₂ ≡ put w (space_end + 2) b₂ =
          q₂
          ∙ put_word_lem v₁ (space_end + 2) (end - (space_end + 4)) (omega (arith, n₁, h.space))
          ∙ ap₂ (λ (x : List ℕ) (j : ℕ). put x (space_end + 2) (word_bytes j)) e₁ l
          ∙ put_before w (word_bytes (length f)) f (space_end + 2) (space_end + 4) refl (omega (arith, l, small, h.space)) in
          let n₂ : length v₂ ≡ length w = ap length e₂ ∙ length-put w b₂ (space_end + 2) (omega (arith, l, small, h.space)) in
          let b₃ : List ℕ = word_bytes s.steps ++ word_bytes (length f) ++ f in
          let e₃ : v₃ ≡ put w space_end b₃ =
          q₃
          ∙ put_word_lem v₂ space_end s.steps (omega (arith, n₂, h.space))
          ∙ ap (λ (x : List ℕ). put x space_end (word_bytes s.steps)) e₂
          ∙ put_before w (word_bytes s.steps) b₂ space_end (space_end + 2) refl (omega (arith, l, small, h.space)) in
          let all : length (b₃ ++ word_bytes (n + 1)) ≡ length b₃ + 2 = length-append b₃ (word_bytes (n + 1)) in
          (omega (arith, all, l, end_small.0), q ∙ word-behind w v₃ b₃ space_end end e₃ (omega (arith, l, end_small.0)) (n + 1) (omega (arith, small, h.space)));
    }
