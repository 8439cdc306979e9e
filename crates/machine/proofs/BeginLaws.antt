-- One term begun: a law for each form but atomic terms, tensors and defined tactics. A form that fails or exceeds the held fields writes nothing; one that ends leaves its field; one
-- that enters an inner term lays a frame on the others.
-- Assumes nothing.
use Prim.Native.Nat.{ℕ, ◌+◌, ◌-◌, ◌≤◌, ◌<◌}
use mathlib.Core.Path.{◌≡◌, refl, sym, ap, subst, ◌∙◌}
use mathlib.Core.List.{List, ◌∷◌}
use mathlib.Core.Option.{Option, some}
use native.Mathlib.Omega.{arith}
use native.Mathlib.Decide.{dec_lt}
use lib.ListN.{length, get_or}
use Rattle.words.specs.Word.{word, put_word}
use Rattle.words.proofs.WordLaws.{word_same}
use Rattle.format.specs.declared.values.Goal.{Goal}
use Rattle.format.specs.declared.values.Label.{Label}
use Rattle.format.specs.Goals.{goals_at}
use Rattle.format.specs.Limits.{most_steps, most_held}
use Rattle.format.specs.declared.refusals.Cause.TheVariants.{FieldsTooMany}
use Rattle.format.specs.Terms.{Term, id, label, sequence, empty, alternation, assert, size, fields}
use Rattle.format.specs.Standing.{Head, Stands}
use Rattle.tables.specs.Tables.{Table}
use Rattle.evaluation.specs.Outcomes as outcome
use Rattle.evaluation.specs.Outcomes.{Ending, proved, ended, one_goal, no_goal, assert_gives, finished}
use Rattle.evaluation.specs.Machine as M
use Rattle.evaluation.specs.Machine.{past, labelled, sequence_left, alternation_left, frame_fields, held}
use Rattle.arities.specs.Layout.{frames_end}
use Rattle.tactics.specs.Memory.{Only}
use Rattle.tactics.specs.Numbers.{put_header}
use Rattle.tactics.proofs.MemoryLaws.{only_then, only_wider, only_word, same_word}
use Rattle.tactics.proofs.FormLaws.{not_one_at, same_one, none_at, not_none_at, assert_at, assert_not_at, by_none, by_same}
use Rattle.tactics.proofs.NumberLaws.{only_header, header_tag, header_head}
use Rattle.tactics.specs.Source.{source}
use Rattle.frames.specs.declared.Frame.{Frame}
use Rattle.frames.specs.Frames.{frame_at, put_frame}
use Rattle.frames.proofs.FrameLaws.{only_frame, frame_same}
use Rattle.machine.specs.declared.state.Mode.{Mode}
use Rattle.machine.specs.declared.state.Mode.TheVariants as is
use Rattle.machine.specs.declared.state.State.{State}
use Rattle.machine.specs.Shows.{here, GoalsIs, FrameIs, Began, FramesAt, Sizes, Runs, Lost, exceeds, Ends, Config, next, done, Holds}
use Rattle.machine.specs.Begun.{enter, Room, Ready, Begins, Keeps, lost, failed, exceeded, kept, entered, id_next, empty_next, assert_next, sequence_next, alternation_next, label_next, sequence_frame, alternation_frame, label_frame}
use Rattle.machine.specs.Step.{Grown}
use Rattle.machine.proofs.HeldLaws.{within-fits, within_over}
use Rattle.machine.proofs.KeepLaws.{kept_output, kept-behind, goals_kept_lem, frames_kept}

-- the place so many bytes on from the state's
pub place_on : (s : State) (π : M.Place) (n m : ℕ) → here s ≡ π → m ≡ s.at + n → ◌≡◌ {A = M.Place} (record { file = s.file; at = m }) (past π n)
place_on s π n m q e = (λ i. record { file = s.file; at = e i }) ∙ ap (λ (x : M.Place). past x n) q

-- what entering an inner term asks
pub may_enter : (w : List ℕ) (s : State) → Ready w s → (on : ℕ) → on ≤ 5 → (s.steps < most_steps) × (s.at < 65536) × (on ≤ 5) × (19 ≤ s.top)
may_enter w s p on h = (p.room.steps_left, p.at_small, h, omega (arith, p.room.frames_low))

-- a frame laid on the others
pushed : (table job w : List ℕ) (arena top o o' : ℕ) (f : Frame) (x : M.Frame) (k : List M.Frame)
    → arena + 19 ≤ top → o + 19 ≤ top → top ≤ length w → f.mark ≡ o → f.arena ≡ arena → Began f arena k
    → FramesAt table job w arena k top o → FrameIs table job (put_frame w (top - 19) f) arena f o' x → FramesAt table job (put_frame w (top - 19) f) arena (x ∷ k) (top - 19) o'
unfolding FramesAt
pushed table job w arena top o o' f x k a b n e d bg h i =
    let v = put_frame w (top - 19) f in
    let only : Only (top - 19) (top - 19 + 19) w v = only_frame w (top - 19) f (omega arith) in
    let back : frame_at v (top - 19) ≡ f = frame_same w (top - 19) f (omega arith) in
    let up : top ≡ top - 19 + 19 = omega arith in
    let rest : FramesAt table job v arena k top o = frames_kept w v arena arena (omega arith) table job k top o
    (kept-behind (top - 19) (top - 19 + 19) o arena top w v only (omega arith) (omega arith) (omega arith)) h in
    let rest' : FramesAt table job v f.arena k (top - 19 + 19) f.mark =
    subst (λ (z : ℕ). FramesAt table job v z k (top - 19 + 19) f.mark) (sym d)
    (subst (λ (y : ℕ). FramesAt table job v arena k (top - 19 + 19) y) (sym e) (subst (λ (y : ℕ). FramesAt table job v arena k y o) up rest)) in (
      subst (λ (y : Frame). FrameIs table job v arena y o' x) (sym back) i,
      subst (λ (y : Frame). FramesAt table job v y.arena k (top - 19 + 19) y.mark) (sym back) rest',
      subst (λ (y : Frame). Began y arena k) (sym back) bg,
    )

-- a waiting term that has just begun holds nothing of its own
pub holds_none : (x : M.Frame) (k : List M.Frame) → frame_fields x ≡ 0 → held (x ∷ k) ≡ held k
unfolding held
holds_none x k e = omega (arith, e)

module _ (w : List ℕ) (s : State) (room : Room w s) where
  -- the term ends without a proof
  lose_holds : (mode : Mode) (table job : List ℕ) (π : M.Place) (t : Term) (g : List Goal) (k : List M.Frame) → Runs table job w s π t g k → Lost mode table job w (lost mode s) k
  lose_holds mode table job π t g k h = record {
    mode_is = refl;
    from = s.out;
    below = omega arith;
    frames = h.frames;
    sizes = record {
      output_fits = omega (arith, h.sizes.output_fits);
      held_fits = h.sizes.held_fits;
      goals_low = h.sizes.goals_low;
      goals_fit = h.sizes.goals_fit;
      frames_fit = omega (arith, h.sizes.frames_fit);
    };
  }

  -- it fails
  pub fail_holds : (table job : List ℕ) (π : M.Place) (t : Term) (g : List Goal) (k : List M.Frame) (r : State) → r ≡ failed s → Runs table job w s π t g k → Holds table job w r (done outcome.failed k)
  unfolding Holds Ends
  fail_holds table job π t g k r q h = subst (λ (x : State). Holds table job w x (done outcome.failed k)) (sym q) (lose_holds is.Failed table job π t g k h)

  pub fail_begins : (t : Term) (c : M.Place → List Goal → List M.Frame → Config) → ((π : M.Place) (g : List Goal) (k : List M.Frame) → GoalsIs w s.arena s.start s.count g → c π g k ≡ done outcome.failed k)
      → (r : State) → r ≡ failed s → Begins w s w r t c
  fail_begins t c e r q table job π g k h = subst (λ (y : Config). Holds table job w r y) (sym (e π g k h.goals)) (fail_holds table job π t g k r q h)

  -- one field more cannot be held
  pub exceed_begins : (t : Term) (c : M.Place → List Goal → List M.Frame → Config)
      → ((π : M.Place) (g : List Goal) (k : List M.Frame) → s.held ≡ held k → GoalsIs w s.arena s.start s.count g → c π g k ≡ done (ended FieldsTooMany) k)
      → (r : State) → r ≡ exceeded s → Begins w s w r t c
  unfolding Holds Ends
  exceed_begins t c e r q table job π g k h =
      subst (λ (y : Config). Holds table job w r y) (sym (e π g k h.held_is h.goals))
      (subst (λ (x : State). Holds table job w x (done (ended FieldsTooMany) k)) (sym q) (record { limit = exceeds; lost = lose_holds is.Exceeded table job π t g k h }))

  -- what lies elsewhere than the output stays
  module _ (v : List ℕ) (n : ℕ) (only : Only s.out (s.out + n) w v) (small : n ≤ 5) where
    pub goals_stay : (g : List Goal) → GoalsIs w s.arena s.start s.count g → GoalsIs v s.arena s.start s.count g
    goals_stay g h = goals_kept_lem w v s.arena s.arena (omega arith) s.start s.count g (λ i l r. only.kept.above i (omega (arith, room.output_fits))) h

    pub frames_stay : (table job : List ℕ) (k : List M.Frame) → FramesAt table job w s.arena k s.top s.out → FramesAt table job v s.arena k s.top s.out
    frames_stay table job k h =
        frames_kept w v s.arena s.arena (omega arith) table job k s.top s.out
        (kept_output s.out (s.out + n) s.out s.arena s.top w v only (omega arith) (omega (arith, room.output_fits)) (omega (arith, room.frames_low))) h

    pub beyond_output : (i : ℕ) → frames_end ≤ i → get_or v i 0 ≡ get_or w i 0
    beyond_output i b = only.kept.above i (omega (arith, room.output_fits))

  -- a field without contents is left, or one more cannot be held
  keeps : (P : List ℕ → State → Type 0) (tag : ℕ) → ((r : State) → most_held ≤ s.held → r ≡ exceeded s → P w r)
      → ((v : List ℕ) (r : State) → s.held < most_held → v ≡ put_header w s.out tag 0 → r ≡ kept s → P v r) → (v : List ℕ) (r : State) → Keeps w s tag v r → P v r
  keeps P tag a b v r k = go (dec_lt s.held most_held)
    where
      go : Dec (s.held < most_held) → P v r
      go (yes h) = let x = k.fits h in b v r h x.0 x.1
      go (no h) = let x = k.full (omega (arith, h)) in subst (λ (y : List ℕ). P y r) (sym x.0) (a r (omega (arith, h)) x.1)

  pub keep_grown : (tag : ℕ) (v : List ℕ) (r : State) → Keeps w s tag v r → Grown w s v r
  keep_grown tag = keeps (λ v r. Grown w s v r) tag
      (λ r h q. subst (λ (x : State). Grown w s w x) (sym q) (record { beyond = λ i b. refl; same_length = refl; one_step = refl }))
      (λ v r h q₁ q₂.
      let only : Only s.out (s.out + 3) w v = subst (λ (x : List ℕ). Only s.out (s.out + 3) w x) (sym q₁) (only_header w s.out tag 0) in
      subst (λ (x : State). Grown w s v x) (sym q₂) (record { beyond = beyond_output v 3 only (omega arith); same_length = only.same_length; one_step = refl }))

  -- the term gives its goals back
  keep_begins : (tag : ℕ) (p t : Term) (c : M.Place → List Goal → List M.Frame → Config) → ((v : List ℕ) (at : ℕ) → Head v at tag 0 → Stands v at p) → size p ≡ 3 → fields p ≡ 1
      → s.held < most_held → s.count ≤ 8
      → ((π : M.Place) (g : List Goal) (k : List M.Frame) → s.held ≡ held k → GoalsIs w s.arena s.start s.count g → c π g k ≡ done (proved p g) k)
      → (v : List ℕ) (r : State) → v ≡ put_header w s.out tag 0 → r ≡ kept s → Begins w s v r t c
  unfolding Holds Ends
  keep_begins tag p t c st three one fits few e v r q₁ q₂ =
      let only = only_header w s.out tag 0 in
      let y = put_header w s.out tag 0 in
      subst (λ (x : State). Begins w s v x t c) (sym q₂)
      (subst (λ (z : List ℕ). Begins w s z (kept s) t c) (sym q₁)
      (λ table job π g k h. subst (λ (z : Config). Holds table job y (kept s) z) (sym (e π g k h.held_is h.goals))
      (record {
        mode_is = refl;
        from = s.out;
        stands = st y s.out (header_head w s.out tag 0 (omega (arith, room.output_fits, room.space)));
        out_is = omega (arith, three);
        goals = goals_stay y 3 only (omega arith) g h.goals;
        few_goals = omega (arith, one, few);
        frames = frames_stay y 3 only (omega arith) table job k h.frames;
        held_is = omega (arith, one, h.held_is);
        sizes = record {
          output_fits = omega (arith, h.sizes.output_fits);
          held_fits = omega (arith, fits);
          goals_low = h.sizes.goals_low;
          goals_fit = omega (arith, h.sizes.goals_fit);
          frames_fit = omega (arith, h.sizes.frames_fit);
        };
      })))

  stands_id : (v : List ℕ) (at : ℕ) → Head v at 17 0 → Stands v at id
  unfolding Stands
  stands_id v at h = h

  stands_empty : (v : List ℕ) (at : ℕ) → Head v at 21 0 → Stands v at empty
  unfolding Stands
  stands_empty v at h = h

  three_id : size id ≡ 3
  unfolding size
  three_id = refl

  three_empty : size empty ≡ 3
  unfolding size
  three_empty = refl

  one_id : fields id ≡ 1
  unfolding fields
  one_id = refl

  one_empty : fields empty ≡ 1
  unfolding fields
  one_empty = refl

  -- what a form gives back, and whether its field can be held
  module _ (p : Term) (one : fields p ≡ 1) (f : List Goal → Option (List Goal)) (same : f (goals_at w s.start s.count) ≡ some (goals_at w s.start s.count)) where
    abbrev Finishes : Term → (List Goal → List M.Frame → Ending) → Type 0
    Finishes p' e = (π : M.Place) (g : List Goal) (k : List M.Frame) → s.held ≡ held k → GoalsIs w s.arena s.start s.count g → ◌≡◌ {A = Config} (done (finished (held k) p' (f g)) k) (done (e g k) k)

    gives_back : s.held < most_held → Finishes p (λ g k. proved p g)
    gives_back fits π g k i h =
        by_same w s.start s.count f (λ o. done (finished (held k) p o) k) g h.are same ∙ ap (λ (x : Ending). done x k) (within-fits (held k) p g (omega (arith, one, fits, i)))

    gives_much : most_held ≤ s.held → Finishes p (λ g k. ended FieldsTooMany)
    gives_much full π g k i h =
        by_same w s.start s.count f (λ o. done (finished (held k) p o) k) g h.are same ∙ ap (λ (x : Ending). done x k) (within_over (held k) p g (omega (arith, one, full, i)))

  pub id_fails : (r : State) → (s.count ≡ 1 → ⊥) → r ≡ failed s → Begins w s w r id id_next
  id_fails r n q = fail_begins id id_next (λ π g k h. by_none w s.start s.count one_goal (λ o. done (finished (held k) id o) k) g h.are (not_one_at w s.start _ s.count n)) r q

  id_exceeds : (r : State) → s.count ≡ 1 → most_held ≤ s.held → r ≡ exceeded s → Begins w s w r id id_next
  id_exceeds r n full q = exceed_begins id id_next (gives_much id one_id one_goal (same_one w s.start s.count n) full) r q

  id_keeps : (v : List ℕ) (r : State) → s.count ≡ 1 → s.held < most_held → v ≡ put_header w s.out 17 0 → r ≡ kept s → Begins w s v r id id_next
  id_keeps v r n fits q₁ q₂ =
      keep_begins 17 id id id_next stands_id three_id one_id fits (omega (arith, n)) (gives_back id one_id one_goal (same_one w s.start s.count n) fits) v r q₁ q₂

  pub id_ends : s.count ≡ 1 → (v : List ℕ) (r : State) → Keeps w s 17 v r → Begins w s v r id id_next
  id_ends n = keeps (λ v r. Begins w s v r id id_next) 17 (λ r h q. id_exceeds r n h q) (λ v r h q₁ q₂. id_keeps v r n h q₁ q₂)

  pub empty_fails : (r : State) → (s.count ≡ 0 → ⊥) → r ≡ failed s → Begins w s w r empty empty_next
  empty_fails r n q = fail_begins empty empty_next (λ π g k h. by_none w s.start s.count no_goal (λ o. done (finished (held k) empty o) k) g h.are (not_none_at w s.start s.count n)) r q

  empty_exceeds : (r : State) → s.count ≡ 0 → most_held ≤ s.held → r ≡ exceeded s → Begins w s w r empty empty_next
  empty_exceeds r n full q = exceed_begins empty empty_next (gives_much empty one_empty no_goal (none_at w s.start s.count n) full) r q

  empty_keeps : (v : List ℕ) (r : State) → s.count ≡ 0 → s.held < most_held → v ≡ put_header w s.out 21 0 → r ≡ kept s → Begins w s v r empty empty_next
  empty_keeps v r n fits q₁ q₂ =
      keep_begins 21 empty empty empty_next stands_empty three_empty one_empty fits (omega (arith, n)) (gives_back empty one_empty no_goal (none_at w s.start s.count n) fits) v r q₁ q₂

  pub empty_ends : s.count ≡ 0 → (v : List ℕ) (r : State) → Keeps w s 21 v r → Begins w s v r empty empty_next
  empty_ends n = keeps (λ v r. Begins w s v r empty empty_next) 21 (λ r h q. empty_exceeds r n h q) (λ v r h q₁ q₂. empty_keeps v r n h q₁ q₂)

  abbrev Asserts : ℕ → List ℕ → State → Type 0
  Asserts value v r = (T : Table) (γ : Goal) → value ≡ γ.0 → Begins w s v r (assert γ) (assert_next T γ)

  pub assert_many_end : (value : ℕ) (r : State) → (s.count ≡ 1 → ⊥) → r ≡ failed s → Asserts value w r
  assert_many_end value r n q =
      λ T γ e. fail_begins (assert γ) (assert_next T γ) (λ π g k h. by_none w s.start s.count (assert_gives T γ) (λ o. done (finished (held k) id o) k) g h.are (not_one_at w s.start _ s.count n)) r q

  pub assert_other_end : (value : ℕ) (r : State) → (word w s.start ≡ value → ⊥) → r ≡ failed s → Asserts value w r
  assert_other_end value r n q =
      λ T γ e. fail_begins (assert γ) (assert_next T γ)
      (λ π g k h. by_none w s.start s.count (assert_gives T γ) (λ o. done (finished (held k) id o) k) g h.are (assert_not_at w s.start T γ s.count (λ i. n (i ∙ sym e)))) r q

  assert_exceeds : (value : ℕ) (r : State) → s.count ≡ 1 → word w s.start ≡ value → most_held ≤ s.held → r ≡ exceeded s → Asserts value w r
  assert_exceeds value r n i full q =
      λ T γ e. exceed_begins (assert γ) (assert_next T γ) (gives_much id one_id (assert_gives T γ) (assert_at w s.start T γ s.count n (i ∙ e)) full) r q

  assert_end : (value : ℕ) (v : List ℕ) (r : State) → s.count ≡ 1 → word w s.start ≡ value → s.held < most_held → v ≡ put_header w s.out 17 0 → r ≡ kept s → Asserts value v r
  assert_end value v r n i fits q₁ q₂ =
      λ T γ e. keep_begins 17 id (assert γ) (assert_next T γ) stands_id three_id one_id fits (omega (arith, n))
      (gives_back id one_id (assert_gives T γ) (assert_at w s.start T γ s.count n (i ∙ e)) fits) v r q₁ q₂

  pub assert_ends : (value : ℕ) → s.count ≡ 1 → word w s.start ≡ value → (v : List ℕ) (r : State) → Keeps w s 17 v r → Asserts value v r
  assert_ends value n i = keeps (λ v r. Asserts value v r) 17 (λ r h q. assert_exceeds value r n i h q) (λ v r h q₁ q₂. assert_end value v r n i h q₁ q₂)

  -- a frame laid on the others: what lies before it stays
  module _ (y : List ℕ) (len : length y ≡ length w) (f : Frame) where
    abbrev v : List ℕ
    v = put_frame y (s.top - 19) f

    pub only_push : Only (s.top - 19) (s.top - 19 + 19) y v
    only_push = only_frame y (s.top - 19) f (omega (arith, len, room.space, room.frames_high, room.frames_low))

    pub goals_under : (start count : ℕ) (g : List Goal) → GoalsIs y s.arena start count g → GoalsIs v s.arena start count g
    goals_under start count g h =
        goals_kept_lem y v s.arena s.arena (omega arith) start count g (λ i l r. only_push.kept.below i (omega (arith, room.goals_fit, room.frames_low))) h

    pub push_here : (table job : List ℕ) (o' : ℕ) (x : M.Frame) (k : List M.Frame) → f.mark ≡ s.out → f.held ≡ s.held → f.arena ≡ s.arena → s.held ≡ held k → Sizes s
        → FramesAt table job y s.arena k s.top s.out → FrameIs table job v s.arena f o' x → FramesAt table job v s.arena (x ∷ k) (s.top - 19) o'
    push_here table job o' x k e a b c z h i =
        pushed table job y s.arena s.top s.out o' f x k
        (omega (arith, room.goals_fit, room.frames_low)) (omega (arith, room.output_fits, room.frames_low)) (omega (arith, len, room.space, room.frames_high)) e b
        (record {
          held_is = a ∙ c;
          held_fits = omega (arith, a, z.held_fits);
          goals_fit = omega (arith, a, b, z.goals_fit);
          goals_low = omega (arith, b, z.goals_low);
          goals_before = omega (arith, b);
        }) h i

    pub enter-grown : ((i : ℕ) → frames_end ≤ i → get_or y i 0 ≡ get_or w i 0) → (on count o : ℕ) → Grown w s v (entered s on count o)
    enter-grown far on count o = record {
      beyond = λ i b. only_push.kept.above i (omega (arith, room.frames_low, room.frames_high)) ∙ far i b;
      same_length = only_push.same_length ∙ len;
      one_step = refl;
    }

  -- the numbers once an inner term is entered
  pub enter-sizes : (on count o : ℕ) → Sizes s → o ≤ s.out + 5 → Sizes (entered s on count o)
  enter-sizes on count o h a = record {
    output_fits = omega (arith, h.output_fits, a);
    held_fits = h.held_fits;
    goals_low = h.goals_low;
    goals_fit = h.goals_fit;
    frames_fit = omega (arith, h.frames_fit, room.frames_low);
  }

  pub sequence_end : (right : ℕ) (v : List ℕ) → v ≡ put_frame (put_header w s.out 19 0) (s.top - 19) (sequence_frame s right)
      → ((t u : Term) → right ≡ s.at + 3 + size t → Begins w s v (entered s 3 s.count (s.out + 3)) (sequence t u) (sequence_next t u)) × Grown w s v (entered s 3 s.count (s.out + 3))
  unfolding Holds FrameIs Stands
  sequence_end right v q =
      let y = put_header w s.out 19 0 in
      let f = sequence_frame s right in
      let z = put_frame y (s.top - 19) f in
      let r = entered s 3 s.count (s.out + 3) in
      let only = only_header w s.out 19 0 in
      let push = only_push y only.same_length f in
      let tag : get_or z s.out 0 ≡ 19 = push.kept.below s.out (omega (arith, room.output_fits, room.frames_low)) ∙ header_tag w s.out 19 0 (omega (arith, room.output_fits, room.space)) in
      subst (λ (x : List ℕ). ((t u : Term) → right ≡ s.at + 3 + size t → Begins w s x r (sequence t u) (sequence_next t u)) × Grown w s x r) (sym q) (
        λ t u e table job π g k h. record {
          mode_is = refl;
          place_is = place_on s π 3 (s.at + 3) h.place_is refl;
          stands = h.stands.1;
          goals = goals_under y only.same_length f s.start s.count g (goals_stay y 3 only (omega arith) g h.goals);
          frames = push_here y only.same_length f table job (s.out + 3) (sequence_left (past π (3 + size t)) u) k refl refl refl h.held_is h.sizes (frames_stay y 3 only (omega arith) table job k h.frames)
              (refl, refl, tag, subst (λ (p : ℕ). Stands (source table job s.file) p u) (sym e) h.stands.2, place_on s π (3 + size t) right h.place_is (omega (arith, e)));
          held_is = h.held_is ∙ sym (holds_none (sequence_left (past π (3 + size t)) u) k refl);
          sizes = enter-sizes 3 s.count (s.out + 3) h.sizes (omega arith);
        },
        enter-grown y only.same_length f (beyond_output y 3 only (omega arith)) 3 s.count (s.out + 3),
      )

  pub alternation_end : (right : ℕ) (v : List ℕ) → v ≡ put_frame w (s.top - 19) (alternation_frame s right)
      → ((t u : Term) → right ≡ s.at + 3 + size t → Begins w s v (entered s 3 s.count s.out) (alternation t u) (alternation_next t u)) × Grown w s v (entered s 3 s.count s.out)
  unfolding Holds FrameIs Stands
  alternation_end right v q =
      let f = alternation_frame s right in
      let z = put_frame w (s.top - 19) f in
      let r = entered s 3 s.count s.out in
      subst (λ (x : List ℕ). ((t u : Term) → right ≡ s.at + 3 + size t → Begins w s x r (alternation t u) (alternation_next t u)) × Grown w s x r) (sym q) (
        λ t u e table job π g k h.
            let same : GoalsIs z s.arena s.start s.count g = goals_under w refl f s.start s.count g h.goals in
            record {
              mode_is = refl;
              place_is = place_on s π 3 (s.at + 3) h.place_is refl;
              stands = h.stands.1;
              goals = same;
              frames = push_here w refl f table job s.out (alternation_left (past π (3 + size t)) u g) k refl refl refl h.held_is h.sizes h.frames
                  (refl, refl, subst (λ (p : ℕ). Stands (source table job s.file) p u) (sym e) h.stands.2, same, place_on s π (3 + size t) right h.place_is (omega (arith, e)));
              held_is = h.held_is ∙ sym (holds_none (alternation_left (past π (3 + size t)) u g) k refl);
              sizes = enter-sizes 3 s.count s.out h.sizes (omega arith);
            },
        enter-grown w refl f (λ i b. refl) 3 s.count s.out,
      )

  abbrev Labels : ℕ → List ℕ → State → Type 0
  Labels value v r = (l : Label) (t : Term) → value ≡ l.0 → Begins w s v r (label l t) (label_next l t)

  pub label_fails : (value : ℕ) (r : State) → (s.count ≡ 1 → ⊥) → r ≡ failed s → Labels value w r
  label_fails value r n q =
      λ l t e. fail_begins (label l t) (label_next l t)
      (λ π g k h. by_none w s.start s.count one_goal (λ o. enter o k (λ x. next (past π 5) t x (labelled (past π 5) l ∷ k))) g h.are (not_one_at w s.start _ s.count n)) r q

  pub label_end : (value : ℕ) (v : List ℕ) → s.count ≡ 1 → v ≡ put_frame (put_word (put_header w s.out 18 0) (s.out + 3) value) (s.top - 19) (label_frame s)
      → Labels value v (entered s 5 s.count (s.out + 5)) × Grown w s v (entered s 5 s.count (s.out + 5))
  unfolding Holds FrameIs Stands
  label_end value v n q =
      let y₁ = put_header w s.out 18 0 in
      let y = put_word y₁ (s.out + 3) value in
      let f = label_frame s in
      let z = put_frame y (s.top - 19) f in
      let r = entered s 5 s.count (s.out + 5) in
      let only₁ = only_header w s.out 18 0 in
      let only₂ = only_word y₁ (s.out + 3) value in
      let only : Only s.out (s.out + 5) w y = only_then s.out (s.out + 5) w y₁ y
      (only_wider s.out (s.out + 3) s.out (s.out + 5) w y₁ only₁ (omega arith) (omega arith))
      (only_wider (s.out + 3) (s.out + 3 + 2) s.out (s.out + 5) y₁ y only₂ (omega arith) (omega arith)) in
      let push = only_push y only.same_length f in
      let l₁ = only₁.same_length in
      let tag : get_or z s.out 0 ≡ 18 = push.kept.below s.out (omega (arith, room.output_fits, room.frames_low)) ∙ only₂.kept.below s.out (omega arith)
      ∙ header_tag w s.out 18 0 (omega (arith, room.output_fits, room.space)) in
      let val : word z (s.out + 3) ≡ value = same_word y z 0 (s.out + 5) (s.out + 3) (λ i a b. push.kept.below i (omega (arith, room.output_fits, room.frames_low))) (omega arith) (omega arith)
      ∙ word_same y₁ (s.out + 3) value (omega (arith, l₁, room.output_fits, room.space)) in
      subst (λ (x : List ℕ). Labels value x r × Grown w s x r) (sym q) (
        λ l t e table job π g k h.
            let one : label_next l t π g k ≡ next (past π 5) t g (labelled (past π 5) l ∷ k) =
            ap (λ (o : Option (List Goal)). enter o k (λ x. next (past π 5) t x (labelled (past π 5) l ∷ k))) (subst (λ (x : List Goal). one_goal x ≡ some x) h.goals.are (same_one w s.start s.count n)) in
            subst (λ (x : Config). Holds table job z r x) (sym one)
            (record {
              mode_is = refl;
              place_is = place_on s π 5 (s.at + 5) h.place_is refl;
              stands = h.stands.2;
              goals = goals_under y only.same_length f s.start s.count g (goals_stay y 5 only (omega arith) g h.goals);
              frames = push_here y only.same_length f table job (s.out + 5) (labelled (past π 5) l) k refl refl refl h.held_is h.sizes (frames_stay y 5 only (omega arith) table job k h.frames) (refl, refl, tag, val ∙ e, place_on s π 5 (s.at + 5) h.place_is refl);
              held_is = h.held_is ∙ sym (holds_none (labelled (past π 5) l) k refl);
              sizes = enter-sizes 5 s.count (s.out + 5) h.sizes (omega arith);
            }),
        enter-grown y only.same_length f (beyond_output y 5 only (omega arith)) 5 s.count (s.out + 5),
      )
