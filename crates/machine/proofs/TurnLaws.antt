-- A left term proved its goals and the right one is next: the frame stays and is stored anew with the goals given, all else lies below it or above it.
-- Assumes nothing.
use Prim.Native.Nat.{ℕ, ◌+◌, ◌≤◌}
use mathlib.Core.Path.{◌≡◌, refl, sym, subst, ◌∙◌}
use mathlib.Core.List.{List, ◌∷◌}
use native.Mathlib.Omega.{arith}
use lib.ListN.{get_or}
use Rattle.format.specs.declared.values.Goal.{Goal}
use Rattle.format.specs.Terms.{Term, size}
use Rattle.format.specs.Standing.{Stands}
use Rattle.evaluation.specs.Outcomes.{proved}
use Rattle.evaluation.specs.Machine as M
use Rattle.evaluation.specs.Machine.{sequence_right, tensor_right, held}
use Rattle.tactics.specs.Memory.{Only}
use Rattle.tactics.proofs.MemoryLaws.{same_term}
use Rattle.frames.specs.declared.Frame.{Frame}
use Rattle.frames.specs.Frames.{frame_at, put_frame}
use Rattle.frames.proofs.FrameLaws.{only_frame, frame_same}
use Rattle.machine.specs.declared.state.Mode.TheVariants as is
use Rattle.machine.specs.declared.state.State.{State}
use Rattle.machine.specs.Shows.{GoalsIs, FrameIs, Began, FramesAt, Sizes, Proved, Ends, Holds}
use Rattle.machine.specs.Popping.{pop, Fits, Smaller, Loaded, Popped, turn, turned, beside}
use Rattle.machine.proofs.KeepLaws.{kept-behind, goals_kept_lem, frames_kept}
use Rattle.machine.proofs.WaitingLaws.{by_kind, if_proved, innermost}

module _ (w : List ℕ) (s : State) (f : Frame) (load : Loaded w s f) where
  fits : Fits w s
  fits = load.fits

  -- the numbers stay
  sizes-turn : Sizes s → Sizes (turn s f)
  sizes-turn z = record { output_fits = z.output_fits; held_fits = z.held_fits; goals_low = z.goals_low; goals_fit = z.goals_fit; frames_fit = z.frames_fit }

  sizes-beside : Sizes s → Sizes (beside s f)
  sizes-beside z = record { output_fits = z.output_fits; held_fits = z.held_fits; goals_low = z.goals_low; goals_fit = z.goals_fit; frames_fit = z.frames_fit }

  module _ (kind : ℕ) where
    abbrev v : List ℕ
    v = put_frame w s.top (turned kind s f)

    only : Only s.top (s.top + 19) w v
    only = only_frame w s.top (turned kind s f) (omega (arith, load.top_inside, fits.space))

    back : frame_at v s.top ≡ turned kind s f
    back = frame_same w s.top (turned kind s f) (omega (arith, load.top_inside, fits.space))

    goals_stay : (start count : ℕ) (g : List Goal) → GoalsIs w s.arena start count g → GoalsIs v s.arena start count g
    goals_stay start count g h = goals_kept_lem w v s.arena s.arena (omega arith) start count g (λ i l r. only.kept.below i (omega (arith, fits.goals_fit, fits.frames_low))) h

    term_stays : (t : Term) (at : ℕ) → at + size t ≤ s.out → Stands w at t → Stands v at t
    term_stays t at b st =
        same_term w v only.same_length t 0 s.out at (λ i l r. only.kept.below i (omega (arith, fits.output_fits, fits.frames_low))) (omega arith) b st

    tag_stays : (tag : ℕ) → f.mark ≤ s.out → get_or w f.mark 0 ≡ tag → get_or v f.mark 0 ≡ tag
    tag_stays tag b t = only.kept.below f.mark (omega (arith, b, fits.output_fits, fits.frames_low)) ∙ t

    frames_stay : (table job : List ℕ) (x : M.Frame) (k : List M.Frame) → f.mark ≤ s.out → Began f s.arena k → FramesAt table job w f.arena k (s.top + 19) f.mark
        → FrameIs table job v s.arena (turned kind s f) s.out x → FramesAt table job v s.arena (x ∷ k) s.top s.out
    unfolding FramesAt
    frames_stay table job x k b began h one =
        let before : f.arena ≤ s.arena = began.goals_before in
        let rest : FramesAt table job v f.arena k (s.top + 19) f.mark =
        frames_kept w v f.arena f.arena (omega arith) table job k (s.top + 19) f.mark
        (kept-behind s.top (s.top + 19) f.mark f.arena (s.top + 19) w v only
        (omega (arith, fits.frames_low, fits.output_fits, b)) (omega (arith, before, fits.goals_fit, fits.frames_low)) (omega arith)) h in
        let same : Began (turned kind s f) s.arena k = record {
          held_is = began.held_is;
          held_fits = began.held_fits;
          goals_fit = began.goals_fit;
          goals_low = began.goals_low;
          goals_before = began.goals_before;
        } in (
          subst (λ (y : Frame). FrameIs table job v s.arena y s.out x) (sym back) one,
          subst (λ (y : Frame). FramesAt table job v y.arena k (s.top + 19) y.mark) (sym back) rest,
          subst (λ (y : Frame). Began y s.arena k) (sym back) same,
        )

    smaller : (r : State) → r.steps ≡ s.steps → r.mode ≡ is.Running → Smaller w s v r
    smaller r q z = record { beyond = λ i b. only.kept.above i (omega (arith, load.top_inside)); same_length = only.same_length; same_steps = q; further = λ n. absurd (n z) }

    -- the right term of a sequence, on the goals that its left gave
    turns : f.kind ≡ 2 → kind ≡ 3 → Popped w s v (turn s f)
    unfolding Ends Holds pop FrameIs held
    turns n y table job z x k h =
        if_proved table job w s (x ∷ k) (λ j. Holds table job v (turn s f) (pop j x k)) load.mode_is
        (λ p g a. let i = innermost table job w s f a.from x k load.frame_is a.frames in
        by_kind (λ j. Proved table job w s p g (j ∷ k) → FrameIs table job w s.arena f a.from j → Holds table job v (turn s f) (pop (proved p g) j k)) 2
        (λ π u b t. record {
          mode_is = refl;
          place_is = t.4;
          stands = t.3;
          goals = goals_stay s.start s.count g b.goals;
          frames = frames_stay table job (sequence_right π p) k (omega (arith, t.1, a.out_is)) i.began i.rest (
            y,
            omega (arith, t.1, a.out_is),
            tag_stays 19 (omega (arith, t.1, a.out_is)) t.2,
            term_stays p (f.mark + 3) (omega (arith, t.1, a.out_is)) (subst (λ (o : ℕ). Stands w o p) t.1 a.stands),
            t.4,
          );
          held_is = omega (arith, b.held_is);
          sizes = sizes-turn b.sizes;
        }) x (sym n ∙ i.kind) a i.frame) z h

    -- the right term of a tensor, on its own goals
    besides : f.kind ≡ 4 → kind ≡ 5 → Popped w s v (beside s f)
    unfolding Ends Holds pop FrameIs held
    besides n y table job z x k h =
        if_proved table job w s (x ∷ k) (λ j. Holds table job v (beside s f) (pop j x k)) load.mode_is
        (λ p g a. let i = innermost table job w s f a.from x k load.frame_is a.frames in
        by_kind (λ j. Proved table job w s p g (j ∷ k) → FrameIs table job w s.arena f a.from j → Holds table job v (beside s f) (pop (proved p g) j k)) 4
        (λ π u j b t. record {
          mode_is = refl;
          place_is = t.5;
          stands = t.3;
          goals = goals_stay f.start f.count j t.4;
          frames = frames_stay table job (tensor_right π p g) k (omega (arith, t.1, a.out_is)) i.began i.rest (
            y,
            omega (arith, t.1, a.out_is),
            tag_stays 20 (omega (arith, t.1, a.out_is)) t.2,
            term_stays p (f.mark + 3) (omega (arith, t.1, a.out_is)) (subst (λ (o : ℕ). Stands w o p) t.1 a.stands),
            goals_stay s.start s.count g b.goals,
            t.5,
            a.few_goals,
          );
          held_is = omega (arith, b.held_is);
          sizes = sizes-beside b.sizes;
        }) x (sym n ∙ i.kind) a i.frame) z h

  pub turn_end : (y : List ℕ) → f.kind ≡ 2 → y ≡ put_frame w s.top (turned 3 s f) → Popped w s y (turn s f) × Smaller w s y (turn s f)
  turn_end y n q = subst (λ (z : List ℕ). Popped w s z (turn s f) × Smaller w s z (turn s f)) (sym q) (turns 3 n refl, smaller 3 (turn s f) refl refl)

  pub beside_end : (y : List ℕ) → f.kind ≡ 4 → y ≡ put_frame w s.top (turned 5 s f) → Popped w s y (beside s f) × Smaller w s y (beside s f)
  beside_end y n q = subst (λ (z : List ℕ). Popped w s z (beside s f) × Smaller w s z (beside s f)) (sym q) (besides 5 n refl, smaller 5 (beside s f) refl refl)
