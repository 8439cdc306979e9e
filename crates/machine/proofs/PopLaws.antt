-- One frame taken off where nothing more is to begin but an alternation's right term: a failure, a limit and a proof that passes an alternation leave the
-- other frames as they are, and a label's or a sequence's field is closed by storing its length, unless one more field cannot be held.
-- Assumes nothing.
use Prim.Native.Nat.{ℕ, ◌+◌, ◌-◌, ◌≤◌, ◌<◌}
use mathlib.Core.Path.{◌≡◌, refl, sym, subst, ◌∙◌}
use mathlib.Core.List.{List, ◌∷◌}
use native.Mathlib.Omega.{arith}
use lib.ListN.{length, get_or}
use Rattle.words.specs.Word.{put_word}
use Rattle.words.proofs.WordLaws.{word_same}
use Rattle.format.specs.declared.values.Goal.{Goal}
use Rattle.format.specs.declared.refusals.Cause.{Cause}
use Rattle.format.specs.Limits.{most_held}
use Rattle.format.specs.Terms.{Term, label, sequence, size, fields}
use Rattle.format.specs.Standing.{Head, Stands}
use Rattle.files.proofs.Sizes.{size_most}
use Rattle.evaluation.specs.Outcomes.{Ending, proved, failed, ended}
use Rattle.evaluation.specs.Machine as M
use Rattle.evaluation.specs.Machine.{labelled, sequence_left, sequence_right, tensor_left, tensor_right, alternation_left, held, unwind}
use Rattle.tactics.specs.Memory.{Same, Only}
use Rattle.tactics.proofs.MemoryLaws.{only_word, same_word, same_term}
use Rattle.frames.specs.declared.Frame.{Frame}
use Rattle.frames.specs.Frames.{frame_at}
use Rattle.machine.specs.declared.state.Mode.{Mode}
use Rattle.machine.specs.declared.state.Mode.TheVariants as is
use Rattle.machine.specs.declared.state.State.{State}
use Rattle.machine.specs.Shows.{GoalsIs, FrameIs, FramesAt, Sizes, exceeds, Proved, Lost, Ends, Config, done, Holds}
use Rattle.machine.specs.Popping.{pop, settle, Fits, Smaller, Loaded, Closes, Popped, Closing, leave, alternative, closed, ended_by}
use Rattle.machine.proofs.KeepLaws.{kept_output, goals_kept_lem, frames_kept, frames_weaken, frame_mark}
use Rattle.machine.proofs.HeldLaws.{within-fits, within_over}
use Rattle.machine.proofs.WaitingLaws.{by_kind, kind_of, if_proved, if_failed, if_ended, Under, under, innermost}

-- what the machine does with the frames that are left comes to the same
pub settle-pop : (e : Ending) (x : M.Frame) (k : List M.Frame) → settle (pop e x k) ≡ unwind e (x ∷ k)
unfolding settle pop unwind
settle-pop e (labelled π l) k = refl
settle-pop (proved s g) (sequence_left π u) k = refl
settle-pop failed (sequence_left π u) k = refl
settle-pop (ended c) (sequence_left π u) k = refl
settle-pop e (sequence_right π s) k = refl
settle-pop (proved s g) (tensor_left π u h) k = refl
settle-pop failed (tensor_left π u h) k = refl
settle-pop (ended c) (tensor_left π u h) k = refl
settle-pop e (tensor_right π s g) k = refl
settle-pop (proved s g) (alternation_left π u h) k = refl
settle-pop failed (alternation_left π u h) k = refl
settle-pop (ended c) (alternation_left π u h) k = refl

-- a failure passes every frame but that of an alternation, a limit passes every frame
failure_passes : (x : M.Frame) (k : List M.Frame) → (kind_of x ≡ 6 → ⊥) → pop failed x k ≡ done failed k
unfolding pop kind_of
failure_passes (labelled π l) k n = refl
failure_passes (sequence_left π u) k n = refl
failure_passes (sequence_right π s) k n = refl
failure_passes (tensor_left π u g) k n = refl
failure_passes (tensor_right π s g) k n = refl
failure_passes (alternation_left π u g) k n = absurd (n refl)

limit_passes : (c : Cause) (x : M.Frame) (k : List M.Frame) → pop (ended c) x k ≡ done (ended c) k
unfolding pop
limit_passes c (labelled π l) k = refl
limit_passes c (sequence_left π u) k = refl
limit_passes c (sequence_right π s) k = refl
limit_passes c (tensor_left π u g) k = refl
limit_passes c (tensor_right π s g) k = refl
limit_passes c (alternation_left π u g) k = refl

module _ (w : List ℕ) (s : State) where
  sizes-leave : Sizes s → Sizes (leave s)
  sizes-leave z = record {
    output_fits = z.output_fits;
    held_fits = z.held_fits;
    goals_low = z.goals_low;
    goals_fit = z.goals_fit;
    frames_fit = omega (arith, z.frames_fit);
  }

  pub lost_under : (mode : Mode) (table job : List ℕ) (x : M.Frame) (k : List M.Frame) → Under table job w s (x ∷ k) → Lost mode table job w (ended_by mode s) k
  unfolding FramesAt
  lost_under mode table job x k h =
      let m = frame_mark table job w s.arena x k s.top h.from h.frames in
      let z = sizes-leave h.sizes in
      record {
        mode_is = refl;
        from = (frame_at w s.top).mark;
        below = omega (arith, m, h.below);
        frames = frames_weaken table job w (frame_at w s.top).arena s.arena h.frames.2.goals_before k (s.top + 19) (frame_at w s.top).mark h.frames.1;
        sizes = record { output_fits = z.output_fits; held_fits = z.held_fits; goals_low = z.goals_low; goals_fit = z.goals_fit; frames_fit = z.frames_fit };
      }

  leave_end : (r : State) → r ≡ leave s → Popped w s w (leave s) → Popped w s w r
  leave_end r e p = subst (λ (x : State). Popped w s w x) (sym e) p

  -- a limit passes every frame
  pub ended_end : (r : State) → (s.mode ≡ is.Proved → ⊥) → (s.mode ≡ is.Failed → ⊥) → r ≡ leave s → Popped w s w r
  unfolding Ends Holds
  ended_end r a b q = leave_end r q (λ table job e x k h.
      if_ended table job w s (x ∷ k) (λ y. Holds table job w (leave s) (pop y x k)) a b
      (λ c o. subst (λ (y : Config). Holds table job w (leave s) y) (sym (limit_passes c x k))
      (record { limit = o.limit; lost = lost_under s.mode table job x k (under table job w s (ended c) (x ∷ k) o) })) e h)

  module _ (f : Frame) (e : f ≡ frame_at w s.top) where
    pub failed_end : (r : State) → s.mode ≡ is.Failed → (f.kind ≡ 6 → ⊥) → r ≡ leave s → Popped w s w r
    unfolding Ends Holds
    failed_end r m n q = leave_end r q (λ table job z x k h.
        if_failed table job w s (x ∷ k) (λ y. Holds table job w (leave s) (pop y x k)) m
        (λ l. subst (λ (y : Config). Holds table job w (leave s) y)
        (sym (failure_passes x k (λ i. n ((innermost table job w s f l.from x k e l.frames).kind ∙ i))))
        (subst (λ (y : Mode). Lost y table job w (leave s) k) m (lost_under s.mode table job x k (under table job w s failed (x ∷ k) l)))) z h)

    -- the right term of an alternation, on the same goals; output, goals and fields held are what they were
    pub alternative_end : s.mode ≡ is.Failed → f.kind ≡ 6 → Popped w s w (alternative s f)
    unfolding Ends Holds pop FrameIs
    alternative_end m n =
        λ table job z x k h.
        if_failed table job w s (x ∷ k) (λ y. Holds table job w (alternative s f) (pop y x k)) m
        (λ l. let i = innermost table job w s f l.from x k e l.frames in
        by_kind (λ y. FrameIs table job w s.arena f l.from y → Holds table job w (alternative s f) (pop failed y k)) 6
        (λ π u g t. record {
          mode_is = refl;
          place_is = t.4;
          stands = t.2;
          goals = t.3;
          frames = i.rest;
          held_is = i.began.held_is;
          sizes = record {
            output_fits = omega (arith, t.1, l.below, l.sizes.output_fits);
            held_fits = i.began.held_fits;
            goals_low = i.began.goals_low;
            goals_fit = i.began.goals_fit;
            frames_fit = omega (arith, l.sizes.frames_fit);
          };
        }) x (sym n ∙ i.kind) i.frame) z h

    -- "Once the left has succeeded the choice stands"
    pub chosen_end : (r : State) → s.mode ≡ is.Proved → f.kind ≡ 6 → r ≡ leave s → Popped w s w r
    unfolding Ends Holds pop FrameIs held
    chosen_end r m n q = leave_end r q (λ table job z x k h.
        if_proved table job w s (x ∷ k) (λ y. Holds table job w (leave s) (pop y x k)) m
        (λ p g a. let i = innermost table job w s f a.from x k e a.frames in
        by_kind (λ y. Proved table job w s p g (y ∷ k) → FrameIs table job w s.arena f a.from y → Holds table job w (leave s) (pop (proved p g) y k)) 6
        (λ π u j b t. record {
          mode_is = b.mode_is;
          from = a.from;
          stands = a.stands;
          out_is = a.out_is;
          goals = a.goals;
          few_goals = a.few_goals;
          frames = subst (λ (o : ℕ). FramesAt table job w s.arena k (s.top + 19) o) (sym t.1)
              (frames_weaken table job w f.arena s.arena i.began.goals_before k (s.top + 19) f.mark i.rest);
          held_is = omega (arith, b.held_is);
          sizes = sizes-leave b.sizes;
        }) x (sym n ∙ i.kind) a i.frame) z h)

  -- a label's or a sequence's field is closed: its length is stored, and it is held too
  module _ (f : Frame) (load : Loaded w s f) (no : Closing f.kind) where
    -- what is said of labels and of the right terms of sequences
    if_closing : (P : M.Frame → Type 0) → ((π : M.Place) (l : _) → P (labelled π l)) → ((π : M.Place) (q : Term) → P (sequence_right π q)) → (x : M.Frame) → f.kind ≡ kind_of x → P x
    unfolding kind_of
    if_closing P a b (labelled π l) i = a π l
    if_closing P a b (sequence_left π u) i = absurd (no.0 i)
    if_closing P a b (sequence_right π q) i = b π q
    if_closing P a b (tensor_left π u g) i = absurd (no.1 i)
    if_closing P a b (tensor_right π q g) i = absurd (no.2 i)
    if_closing P a b (alternation_left π u g) i = absurd (no.3 i)

    pub closes : Closes s f
    unfolding FrameIs held
    closes =
        if_proved load.waiting.table load.waiting.job w s (load.waiting.frame ∷ load.waiting.frames) (λ z. Closes s f) load.mode_is
        (λ p g a. let i = innermost load.waiting.table load.waiting.job w s f a.from load.waiting.frame load.waiting.frames load.frame_is a.frames in
        if_closing (λ y. Proved load.waiting.table load.waiting.job w s p g (y ∷ load.waiting.frames) → FrameIs load.waiting.table load.waiting.job w s.arena f a.from y → Closes s f)
        (λ π l b t. record { room = omega (arith, a.out_is, t.1); short = omega (arith, a.out_is, t.1, size_most p, b.held_is, b.sizes.held_fits) })
        (λ π q b t. record { room = omega (arith, a.out_is, t.1); short = omega (arith, a.out_is, t.1, size_most p, size_most q, b.held_is, b.sizes.held_fits) })
        load.waiting.frame i.kind a i.frame) load.waiting.ending load.waiting.ends

    fits : Fits w s
    fits = load.fits

    -- one field more than may be held
    pub exceed_end : (r : State) → most_held ≤ s.held → r ≡ ended_by is.Exceeded s → Popped w s w r
    unfolding Ends Holds pop held fields
    exceed_end r over q =
        subst (λ (y : State). Popped w s w y) (sym q) (
        λ table job z x k h.
        if_proved table job w s (x ∷ k) (λ y. Holds table job w (ended_by is.Exceeded s) (pop y x k)) load.mode_is
        (λ p g a. let i = innermost table job w s f a.from x k load.frame_is a.frames in
        let lost : Lost is.Exceeded table job w (ended_by is.Exceeded s) k = lost_under is.Exceeded table job x k (under table job w s (proved p g) (x ∷ k) a) in
        if_closing (λ y. Proved table job w s p g (y ∷ k) → Holds table job w (ended_by is.Exceeded s) (pop (proved p g) y k))
        (λ π l b. subst (λ (y : Ending). Ends table job w (ended_by is.Exceeded s) y k)
        (sym (within_over (held k) (label l p) g (omega (arith, over, b.held_is)))) (record { limit = exceeds; lost = lost }))
        (λ π t b. subst (λ (y : Ending). Ends table job w (ended_by is.Exceeded s) y k)
        (sym (within_over (held k) (sequence t p) g (omega (arith, over, b.held_is)))) (record { limit = exceeds; lost = lost })) x i.kind a) z h
        )

    abbrev v : List ℕ
    v = put_word w (f.mark + 1) (s.out - f.mark - 3)

    only : Only (f.mark + 1) (f.mark + 1 + 2) w v
    only = only_word w (f.mark + 1) (s.out - f.mark - 3)

    goals_stay : (g : List Goal) → GoalsIs w s.arena s.start s.count g → GoalsIs v s.arena s.start s.count g
    goals_stay g h = goals_kept_lem w v s.arena s.arena (omega arith) s.start s.count g (λ i l r. only.kept.above i (omega (arith, closes.room, fits.output_fits))) h

    frames_stay : (table job : List ℕ) (k : List M.Frame) → f.arena ≤ s.arena → FramesAt table job w f.arena k (s.top + 19) f.mark
        → FramesAt table job v s.arena k (s.top + 19) f.mark
    frames_stay table job k b h =
        frames_kept w v f.arena s.arena b table job k (s.top + 19) f.mark
        (kept_output (f.mark + 1) (f.mark + 1 + 2) f.mark f.arena (s.top + 19) w v only (omega arith) (omega (arith, closes.room, fits.output_fits)) (omega (arith, fits.frames_low))) h

    head_stays : (tag len : ℕ) → get_or w f.mark 0 ≡ tag → f.mark + 3 + len ≡ s.out → Head v f.mark tag len
    head_stays tag len t o =
        let l : length v ≡ length w = only.same_length in
        record {
          tag_is = only.kept.below f.mark (omega arith) ∙ t;
          length_is = word_same w (f.mark + 1) (s.out - f.mark - 3) (omega (arith, fits.space, closes.room, fits.output_fits)) ∙ omega (arith, o);
          inside = omega (arith, l, o, fits.output_fits, fits.space);
        }

    behind : (y : ℕ) → Same (f.mark + 3) y w v
    behind y = λ i l r. only.kept.above i (omega arith)

    term_stays : (t : Term) (at : ℕ) → f.mark + 3 ≤ at → Stands w at t → Stands v at t
    term_stays t at h st = same_term w v only.same_length t (f.mark + 3) (at + size t) at (behind (at + size t)) h (omega arith) st

    module _ (under-most : s.held < most_held) where
      sizes-closed : Sizes s → Sizes (closed s)
      sizes-closed z = record {
        output_fits = z.output_fits;
        held_fits = omega (arith, under-most);
        goals_low = z.goals_low;
        goals_fit = omega (arith, z.goals_fit);
        frames_fit = omega (arith, z.frames_fit);
      }

      close_popped : Popped w s v (closed s)
      unfolding Ends Holds pop FrameIs Stands size fields held
      close_popped table job z x k h =
          if_proved table job w s (x ∷ k) (λ y. Holds table job v (closed s) (pop y x k)) load.mode_is
          (λ p g a. let i = innermost table job w s f a.from x k load.frame_is a.frames in
          if_closing (λ y. Proved table job w s p g (y ∷ k) → FrameIs table job w s.arena f a.from y → Holds table job v (closed s) (pop (proved p g) y k))
          (λ π l b t. subst (λ (y : Ending). Ends table job v (closed s) y k) (sym (within-fits (held k) (label l p) g (omega (arith, under-most, b.held_is))))
          (record {
            mode_is = refl;
            from = f.mark;
            stands = (
              head_stays 18 (2 + size p) t.2 (omega (arith, t.1, a.out_is)),
              same_word w v (f.mark + 3) (f.mark + 5) (f.mark + 3) (behind (f.mark + 5)) (omega arith) (omega arith) ∙ t.3,
              term_stays p (f.mark + 5) (omega arith) (subst (λ (o : ℕ). Stands w o p) t.1 a.stands),
            );
            out_is = omega (arith, t.1, a.out_is);
            goals = goals_stay g b.goals;
            few_goals = omega (arith, a.few_goals);
            frames = frames_stay table job k i.began.goals_before i.rest;
            held_is = omega (arith, b.held_is);
            sizes = sizes-closed b.sizes;
          }))
          (λ π q b t. subst (λ (y : Ending). Ends table job v (closed s) y k) (sym (within-fits (held k) (sequence q p) g (omega (arith, under-most, b.held_is))))
          (record {
            mode_is = refl;
            from = f.mark;
            stands = (
              head_stays 19 (size q + size p) t.2 (omega (arith, t.1, a.out_is)),
              term_stays q (f.mark + 3) (omega arith) t.3,
              term_stays p (f.mark + 3 + size q) (omega arith) (subst (λ (o : ℕ). Stands w o p) t.1 a.stands),
            );
            out_is = omega (arith, t.1, a.out_is);
            goals = goals_stay g b.goals;
            few_goals = omega (arith, a.few_goals);
            frames = frames_stay table job k i.began.goals_before i.rest;
            held_is = omega (arith, b.held_is);
            sizes = sizes-closed b.sizes;
          })) x i.kind a i.frame) z h

      pub close_end : (y : List ℕ) → y ≡ v → Popped w s y (closed s) × Smaller w s y (closed s)
      close_end y q =
          subst (λ (z : List ℕ). Popped w s z (closed s) × Smaller w s z (closed s)) (sym q) (
            close_popped,
            record { beyond = λ i b. only.kept.above i (omega (arith, closes.room, fits.output_fits)); same_length = only.same_length; same_steps = refl; further = λ n. omega arith },
          )
