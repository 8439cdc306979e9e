-- What is gathered from the frames of the machine is what a halted run's saved state says of its waiting terms: by cases of the waiting term, and by
-- induction over all of them.
-- Assumes nothing.
use Prim.Native.Nat.{ℕ, zero, suc, ◌+◌, ◌*◌, ◌-◌, ◌/◌, ◌%◌, ◌≤◌, ◌<◌}
use mathlib.Core.Path.{◌≡◌, refl, sym, ap, ap₂, subst, ◌∙◌}
use mathlib.Core.List.{List, [], ◌∷◌, ◌++◌}
use native.Mathlib.Omega.{arith}
use lib.ListN.{length, take, length-take}
use Rattle.format.specs.declared.values.Goal.{Goal}
use Rattle.format.specs.Encoding.{Bytes}
use Rattle.format.specs.Goals.{goals_at}
use Rattle.format.proofs.GoalBytes.{word_value}
use Rattle.format.proofs.GoalsLaws.{length-goals_at}
use Rattle.format.proofs.GoalsAt.{take_goals}
use Rattle.evaluation.specs.Machine as M
use Rattle.evaluation.specs.Machine.{labelled, sequence_left, sequence_right, tensor_left, tensor_right, alternation_left}
use Rattle.evaluation.specs.Halts.{stage, last_place, own_goals, held_of, own_count, held_goals, Rebuilt, Shared}
use Rattle.evaluation.proofs.SharedGoals.{held-length, inside_most}
use Rattle.entries.specs.SavedState.{waiting_term, waiting_terms}
use Rattle.arities.specs.Layout.{frames_end, space_end}
use Rattle.frames.specs.declared.Frame.{Frame}
use Rattle.frames.specs.Frames.{frame_at}
use Rattle.machine.specs.Shows.{place_of, GoalsIs, FrameIs, FramesAt}
use Rattle.saver.specs.Gather.{own_count_of, held_after, own_start, lent_frame, FrameFits, gathered, AllFit}
use Rattle.saver.specs.Waiting.{frame_bytes, frames_bytes, Low, AllLow}
use Rattle.saver.specs.Save.{InFiles}
use Rattle.saver.proofs.GatherLaws.{start_some}

-- as many goals as are counted
pub counted : (w : List ℕ) (arena start count : ℕ) (g : List Goal) → GoalsIs w arena start count g → length g ≡ count
counted w arena start count g h = sym (ap length h.are) ∙ length-goals_at count w start

-- no goals lie anywhere
start_any : (w : List ℕ) (c s : ℕ) → goals_at w (own_start c s) c ≡ goals_at w s c
unfolding goals_at
start_any w zero s = refl
start_any w (suc c) s = ap (λ (a : ℕ). goals_at w a (suc c)) (sym (start_some (suc c) s (λ e. omega (arith, e))))

goals_low : (w : List ℕ) (arena start count : ℕ) (g : List Goal) → GoalsIs w arena start count g → (c : ℕ) → c ≤ count → own_start c start + c * 2 ≤ arena
unfolding own_start
goals_low w arena start count g i zero l = omega arith
goals_low w arena start count g i (suc c) l = omega (arith, i.high, start_some (suc c) start (λ e. omega (arith, e)))

-- the two parts of a number
module _ (file at : ℕ) (small : at < 65536) where
  pub file_part : (file * 65536 + at) / 65536 ≡ file
  file_part = omega arith

  pub at_part : (file * 65536 + at) % 65536 ≡ at
  at_part = omega arith

module _ (table job w : List ℕ) (arena : ℕ) (f : Frame) (o x : ℕ) where
  -- the stage and the place
  pub stage_is : (y : M.Frame) → FrameIs table job w arena f o y → f.kind ≡ stage y
  unfolding FrameIs
  stage_is (labelled π l) h = h.0
  stage_is (sequence_left π u) h = h.0
  stage_is (sequence_right π s) h = h.0
  stage_is (tensor_left π u g) h = h.0
  stage_is (tensor_right π s g) h = h.0
  stage_is (alternation_left π u g) h = h.0

  pub place_is : (y : M.Frame) → FrameIs table job w arena f o y → place_of f ≡ last_place y
  unfolding FrameIs
  place_is (labelled π l) h = h.4
  place_is (sequence_left π u) h = h.4
  place_is (sequence_right π s) h = h.4
  place_is (tensor_left π u g) h = h.5
  place_is (tensor_right π s g) h = h.5
  place_is (alternation_left π u g) h = h.4

  -- how many goals it holds with the terms inside it
  pub held_is : (y : M.Frame) → FrameIs table job w arena f o y → held_after f.kind f.count x ≡ held_of x y
  unfolding FrameIs held_after
  held_is (labelled π l) h = rw h.0 refl
  held_is (sequence_left π u) h = rw h.0 refl
  held_is (sequence_right π s) h = rw h.0 refl
  held_is (tensor_left π u g) h = rw h.0 (omega (arith, counted w arena f.start f.count g h.4))
  held_is (tensor_right π s g) h = rw h.0 refl
  held_is (alternation_left π u g) h = rw h.0 (sym (counted w f.arena f.start f.count g h.3))

  -- its own goals, where the frame says that they are
  own_is : (y : M.Frame) → FrameIs table job w arena f o y → goals_at w f.start (own_count_of f.kind f.count x) ≡ own_goals x y
  unfolding FrameIs own_count_of goals_at
  own_is (labelled π l) h = rw h.0 refl
  own_is (sequence_left π u) h = rw h.0 refl
  own_is (sequence_right π s) h = rw h.0 refl
  own_is (tensor_left π u g) h = rw h.0 h.4.are
  own_is (tensor_right π s g) h = rw h.0 h.4.are
  own_is (alternation_left π u g) h =
      let n = counted w f.arena f.start f.count g h.3 in
      let c : f.count - x ≤ f.count = omega arith in
      rw h.0 (sym (take_goals w f.start (f.count - x) f.count c) ∙ ap (λ (k : List Goal). take (f.count - x) k) h.3.are ∙ ap (λ (m : ℕ). take (m - x) g) (sym n))

  -- its goals lie below the goals' end, those of an alternation below the end when it began
  own_low : (y : M.Frame) → f.arena ≤ arena → FrameIs table job w arena f o y → own_start (own_count_of f.kind f.count x) f.start + own_count_of f.kind f.count x * 2 ≤ arena
  unfolding FrameIs own_count_of own_start
  own_low (labelled π l) b h = rw h.0 (omega arith)
  own_low (sequence_left π u) b h = rw h.0 (omega arith)
  own_low (sequence_right π s) b h = rw h.0 (omega arith)
  own_low (tensor_left π u g) b h = rw h.0 (goals_low w arena f.start f.count g h.4 f.count (omega arith))
  own_low (tensor_right π s g) b h = rw h.0 (goals_low w arena f.start f.count g h.4 f.count (omega arith))
  own_low (alternation_left π u g) b h = rw h.0 (omega (arith, b, goals_low w f.arena f.start f.count g h.3 (f.count - x) (omega arith)))

  -- so what is gathered of it is its waiting term
  pub frame_is : (y : M.Frame) → f.at < 65536 → FrameIs table job w arena f o y → frame_bytes w (lent_frame f x) ≡ waiting_term (stage y) (last_place y) (own_goals x y)
  unfolding frame_bytes lent_frame
  frame_is y small h =
      let place : ◌≡◌ {A = M.Place} (record { file = (f.file * 65536 + f.at) / 65536; at = (f.file * 65536 + f.at) % 65536 }) (last_place y) =
      (λ i. record { file = file_part f.file f.at small i; at = at_part f.file f.at small i }) ∙ place_is y h in
      let goals : goals_at w (own_start (own_count_of f.kind f.count x) f.start) (own_count_of f.kind f.count x) ≡ own_goals x y = start_any w (own_count_of f.kind f.count x) f.start ∙ own_is y h in
      ap (λ (k : ℕ). waiting_term k (record { file = (f.file * 65536 + f.at) / 65536; at = (f.file * 65536 + f.at) % 65536 }) (goals_at w (own_start (own_count_of f.kind f.count x) f.start) (own_count_of f.kind f.count x))) (stage_is y h)
      ∙ ap₂ (λ (π : M.Place) (g : List Goal). waiting_term (stage y) π g) place goals

  stage_small : (y : M.Frame) → stage y < 256
  stage_small (labelled π l) = omega arith
  stage_small (sequence_left π u) = omega arith
  stage_small (sequence_right π s) = omega arith
  stage_small (tensor_left π u g) = omega arith
  stage_small (tensor_right π s g) = omega arith
  stage_small (alternation_left π u g) = omega arith

  pub frame_low : (y : M.Frame) → f.at < 65536 → (last_place y).file ≤ 1 → f.arena ≤ arena → arena ≤ space_end → FrameIs table job w arena f o y → Low (lent_frame f x)
  unfolding lent_frame
  frame_low y small file began high h = record {
    goals_low = omega (arith, own_low y began h, high);
    stage_small = omega (arith, stage_is y h, stage_small y);
    term_small = omega (arith, ap (λ (π : M.Place). π.file) (place_is y h), file, small);
  }

-- what gathering a frame asks, of the goals that are shared
frame_fits : (table job w : List ℕ) (arena : ℕ) (f : Frame) (o : ℕ) (y : List Goal) (v : M.Frame) → length y ≤ 65535 → Rebuilt y v → FrameIs table job w arena f o v → FrameFits f (length y)
unfolding FrameIs
frame_fits table job w arena f o y (labelled π l) b r h = record { few = b; shared = λ e. absurd (omega (arith, e, h.0)) }
frame_fits table job w arena f o y (sequence_left π u) b r h = record { few = b; shared = λ e. absurd (omega (arith, e, h.0)) }
frame_fits table job w arena f o y (sequence_right π s) b r h = record { few = b; shared = λ e. absurd (omega (arith, e, h.0)) }
frame_fits table job w arena f o y (tensor_left π u g) b r h = record { few = b; shared = λ e. absurd (omega (arith, e, h.0)) }
frame_fits table job w arena f o y (tensor_right π s g) b r h = record { few = b; shared = λ e. absurd (omega (arith, e, h.0)) }
frame_fits table job w arena f o y (alternation_left π u g) b r h = record {
  few = b;
  shared = λ e. omega (arith, inside_most y π u g r, counted w f.arena f.start f.count g h.3);
}

-- the goals that are held outwards are no more than those inside and its own
held_most : (y : List Goal) (v : M.Frame) → Rebuilt y v → held_of (length y) v ≤ length y + length (own_goals (length y) v)
held_most y (labelled π l) r = omega arith
held_most y (sequence_left π u) r = omega arith
held_most y (sequence_right π s) r = omega arith
held_most y (tensor_left π u g) r = omega arith
held_most y (tensor_right π s g) r = omega arith
held_most y (alternation_left π u g) r = omega (arith, inside_most y π u g r, length-take (length g - length y) g)

-- all waiting terms; the goals of those outside one end where its frame says
module _ (table job w : List ℕ) where
  pub frames_end_lem : (arena : ℕ) (k : List M.Frame) (top o : ℕ) → FramesAt table job w arena k top o → top + 19 * length k ≡ frames_end
  unfolding FramesAt
  frames_end_lem arena [] top o h = omega (arith, h.0)
  frames_end_lem arena (y ∷ k) top o h = omega (arith, frames_end_lem (frame_at w top).arena k (top + 19) _ h.1)

  pub all_fit : (arena : ℕ) (k : List M.Frame) (top o : ℕ) (y : List Goal) → length y + own_count (length y) k ≤ 65535 → Shared y k → FramesAt table job w arena k top o → AllFit w top (length y) (length k)
  unfolding FramesAt AllFit Shared own_count
  all_fit arena [] top o y b s h = tt
  all_fit arena (v ∷ k) top o y b s h =
      let f = frame_at w top in
      let e : held_after f.kind f.count (length y) ≡ length (held_goals y v) = held_is table job w arena f o (length y) v h.0 ∙ held-length y v s.0 in
      let m = held-length y v s.0 in
      let less : length (held_goals y v) + own_count (length (held_goals y v)) k ≤ 65535 =
      subst (λ (n : ℕ). n + own_count n k ≤ 65535) m (omega (arith, held_most y v s.0, b)) in (
        frame_fits table job w arena f o y v (omega arith) s.0 h.0,
        subst (λ (n : ℕ). AllFit w (top + 19) n (length k)) (sym e) (all_fit (frame_at w top).arena k (top + 19) _ (held_goals y v) less s.1 h.1),
      )

  at_small : Bytes w → (top : ℕ) → (frame_at w top).at < 65536
  unfolding frame_at
  at_small bytes top = word_value w bytes (top + 4)

  -- what is gathered of them is what the saved state says of them
  pub frames_are : (arena : ℕ) → Bytes w → (k : List M.Frame) (top o x : ℕ) → FramesAt table job w arena k top o → frames_bytes w (gathered w top x (length k)) ≡ waiting_terms x k
  unfolding FramesAt gathered frames_bytes waiting_terms
  frames_are arena bytes [] top o x h = refl
  frames_are arena bytes (v ∷ k) top o x h =
      let f = frame_at w top in
      let e = held_is table job w arena f o x v h.0 in
      ap₂ (λ (a b : List ℕ). a ++ b)
      (frames_are (frame_at w top).arena bytes k (top + 19) _ (held_after f.kind f.count x) h.1 ∙ ap (λ (n : ℕ). waiting_terms n k) e)
      (frame_is table job w arena f o x v (at_small bytes top) h.0)

  pub frames_low : (arena : ℕ) → Bytes w → (k : List M.Frame) (top o x : ℕ) → arena ≤ space_end → InFiles k → FramesAt table job w arena k top o → AllLow (gathered w top x (length k))
  unfolding FramesAt gathered AllLow InFiles
  frames_low arena bytes [] top o x l i h = tt
  frames_low arena bytes (v ∷ k) top o x l i h =
      let f = frame_at w top in (
        frame_low table job w arena f o x v (at_small bytes top) i.0 h.2.goals_before l h.0,
        frames_low (frame_at w top).arena bytes k (top + 19) _ (held_after f.kind f.count x) (omega (arith, h.2.goals_before, l)) i.1 h.1,
      )
