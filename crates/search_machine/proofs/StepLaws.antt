-- A step: the term that stands there is begun as its form asks, by its tag; then the way to the next term.
-- Assumes nothing.
use Prim.Native.Nat.{ℕ, zero, suc, ◌+◌, ◌/◌, ◌%◌, ◌≤◌, ◌<◌}
use mathlib.Core.Path.{◌≡◌, refl, sym, ap, subst, ◌∙◌}
use mathlib.Core.List.{List, [], ◌∷◌}
use mathlib.Core.Option.{Option, none, some}
use native.Mathlib.Omega.{arith}
use lib.ListN.{length, get_or}
use Rattle.words.specs.Word.{word}
use Rattle.format.specs.declared.values.RuleName.{RuleName}
use Rattle.format.specs.declared.values.Goal.{Goal}
use Rattle.format.specs.declared.values.Label.{Label}
use Rattle.format.specs.declared.values.TacticNo.{TacticNo}
use Rattle.format.specs.Terms.{Term, atomic, id, label, sequence, tensor, empty, alternation, assert, defined, size}
use Rattle.format.specs.Standing.{Stands}
use Rattle.format.proofs.StandsLaws.{tag_of, known}
use Rattle.format.proofs.ByTag.{by_tag}
use Rattle.tables.specs.declared.repeats.Repeat.TheVariants as K
use Rattle.tables.specs.Tables.{Table}
use Rattle.tables.specs.Standing.{TableStands}
use Rattle.tables.specs.Lookup.{find_body}
use Rattle.index.proofs.IndexKept.{tree_kept}
use Rattle.evaluation.specs.Outcomes.{one_goal, no_goal, assert_gives, rule_gives}
use Rattle.arities.specs.Arities.{Pair}
use Rattle.arities.proofs.ArityLaws.{Inner, pair_of}
use Rattle.outline.specs.Layout.{outline_end}
use Rattle.tactics.specs.Memory.{Same}
use Rattle.tactics.specs.Source.{source}
use Rattle.tactics.proofs.SourceLaws.{in_file_lem, by_pair}
use Rattle.search.specs.Machine as M
use Rattle.search.specs.Machine.{labelled, sequence_left, sequence_right, tensor_left, tensor_right, enter_or_back, level_or_back, give_if}
use Rattle.search_machine.specs.declared.state.State.{State}
use Rattle.search_machine.specs.Layout.{arena_low, definitions_place, rules_place}
use Rattle.search_machine.specs.Shows.{FramesAt, Begun, Runs, Lost, Config, lost, Holds, settle, Shows}
use Rattle.search_machine.specs.Moves.{counted, failed}
use Rattle.search_machine.specs.Begun.{gave_if, enter_if, level, begun, Room, Stays, DoesIn, Does, leaf_next, sequence_next, alternation_next, label_next, tensor_next, defined_next}
use Rattle.search_machine.specs.Popping.{Unwinding, Unwound}
use Rattle.search_machine.specs.Step.{TableIndexed, Stood, InnerTag, PairTag, BeginsAny, BeginsPair, Given, Stepped, Grown}
use Rattle.search_machine.proofs.KeepLaws.{nothing_written, choices_kept}
use Rattle.search_machine.proofs.BackLaws.{choice_inside}

-- the index stays where the bytes between the outline and the arena do
pub indexed_still : (bytes : List ℕ) (first : ℕ) (w v : List ℕ) → length v ≡ length w → Same outline_end arena_low w v → TableIndexed bytes first w → TableIndexed bytes first v
indexed_still bytes first w v e h x = record {
  rules = (
    x.rules.0,
    x.rules.1,
    (x.rules.2.0, tree_kept K.Rule bytes x.rules.0 w v rules_place x.rules.2.0 (omega (arith, e)) (λ i a b. h i (omega (arith, a)) (omega (arith, b, x.rules.2.1.sound.few))) x.rules.2.1),
  );
  definitions = (
    x.definitions.0,
    x.definitions.1,
    (
      x.definitions.2.0,
      tree_kept K.Tactic bytes x.definitions.0 w v definitions_place x.definitions.2.0 (omega (arith, e)) (λ i a b. h i (omega (arith, a)) (omega (arith, b, x.definitions.2.1.sound.few)))
          x.definitions.2.1,
    ),
  );
}

-- a term begun, then settled, is the machine's beginning
settle_gave : (p : Term) (o : Option (List Goal)) (k : List M.Frame) (c : List M.Choice) → settle (gave_if p o k c) ≡ give_if p o k c
unfolding settle
settle_gave p none k c = refl
settle_gave p (some g) k c = refl

settle-enter : {A : Type 0} (o : Option A) (c : List M.Choice) (f : A → Config) → settle (enter_if o c f) ≡ enter_or_back o c (λ a. settle (f a))
unfolding settle
settle-enter none c f = refl
settle-enter (some a) c f = refl

settle-level : (b : ℕ) (c : List M.Choice) (f : ℕ → Config) (h : ℕ → M.Control) → ((d : ℕ) → settle (f d) ≡ h d) → settle (level b c f) ≡ level_or_back b c h
unfolding settle
settle-level zero c f h e = refl
settle-level (suc b) c f h e = e b

pub settle-begun : (T : Table) (b : ℕ) (t : Term) (g : List Goal) (k : List M.Frame) (c : List M.Choice) → settle (begun T b t g k c) ≡ M.begin T b t g k c
unfolding settle begun M.begin M.split
settle-begun T b (atomic a) g k c = settle_gave (atomic a) (rule_gives T a g) k c
settle-begun T b id g k c = settle_gave id (one_goal g) k c
settle-begun T b (label l t) g k c = settle-level b c _ _ (λ d. settle-enter (one_goal g) c _)
settle-begun T b (sequence t u) g k c = settle-level b c _ _ (λ d. refl)
settle-begun T b (tensor t u) g k c = settle-level b c _ _ (λ d. refl)
settle-begun T b empty g k c = settle_gave empty (no_goal g) k c
settle-begun T b (alternation t u) g k c = settle-level b c _ _ (λ d. refl)
settle-begun T b (assert γ) g k c = settle_gave id (assert_gives T γ g) k c
settle-begun T b (defined d) g k c = settle-level b c _ _ (λ e. settle-enter (find_body T d) c _)

-- the nodes that a state names lie below its top
module _ (table job w : List ℕ) where
  link_below : (k : List M.Frame) (top link : ℕ) → FramesAt table job w top k link → link ≤ top
  unfolding FramesAt
  link_below [] top link f = omega (arith, f)
  link_below (labelled l ∷ k) top link f = link_below k top link f
  link_below (sequence_right s ∷ k) top link f = link_below k top link f
  link_below (sequence_left b u ∷ k) top link f = omega (arith, f.0.inside)
  link_below (tensor_left b u h ∷ k) top link f = omega (arith, f.0.inside)
  link_below (tensor_right s g ∷ k) top link f = omega (arith, f.0.inside)

module _ (src w : List ℕ) (s : State) (q : Stood src w s) where
  pub stood_stands : Stands src s.at q.term
  stood_stands = in_file_lem q.bytes q.job src (s.level % 2) s.at q.term q.so q.starts.stands

  pub stood_at : s.at + 3 ≤ length src
  stood_at = let k = known src s.at q.term stood_stands in omega (arith, k.inside, k.three)

  pub stood_room : Room w s
  stood_room =
      let h = q.starts in
      record {
        low = h.waits.low;
        fits = omega (arith, q.few_steps, h.waits.fits.space, h.waits.earlier);
        space = omega (arith, q.space);
        link_below = link_below q.bytes q.job w q.frames s.arena s.link h.waits.frames;
        choice_below = choice_inside q.bytes q.job w s.steps s.arena s.outline q.choices s.choice h.choices;
        goals_below = h.goals.inside;
        few = h.goals.few;
        at_small = omega (arith, stood_at, q.src_small);
        outline_fits = omega (arith, q.few_steps, h.waits.fits.fields, h.waits.earlier);
      }

-- by the tag: what was said of the form is said of the term
module _ (bytes : List ℕ) (first : ℕ) (src w : List ℕ) (s : State) (v : List ℕ) (r : State) where
  abbrev Goes : (T : Table) → (job : List ℕ) → ℕ → List Goal → List M.Frame → List M.Choice → Term → Type 0
  Goes T job b g k c x = Stands src s.at x → Begun bytes job w s b x g k c → Holds bytes job v r (begun T b x g k c)

  there : (job : List ℕ) (b : ℕ) (t : Term) (g : List Goal) (k : List M.Frame) (c : List M.Choice) → source bytes job (s.level % 2) ≡ src → Begun bytes job w s b t g k c → Stands src s.at t
  there job b t g k c so h = in_file_lem bytes job src (s.level % 2) s.at t so h.stands

  pub id_any : get_or src s.at 0 ≡ 17 → Does w s v r id (leaf_next id one_goal) → BeginsAny bytes first src w s v r
  unfolding begun
  id_any e d T job b t g k c st so h = let y = there job b t g k c so h in by_tag src s.at (Goes T job b g k c) 17 (λ z i. d bytes job b g k c i) e t y y h

  pub empty_any : get_or src s.at 0 ≡ 21 → Does w s v r empty (leaf_next empty no_goal) → BeginsAny bytes first src w s v r
  unfolding begun
  empty_any e d T job b t g k c st so h = let y = there job b t g k c so h in by_tag src s.at (Goes T job b g k c) 21 (λ z i. d bytes job b g k c i) e t y y h

  pub atomic_any : get_or src s.at 0 ≡ 16 → (value : ℕ) → value ≡ word src (s.at + 3)
      → ((T : Table) (a : RuleName) → TableStands bytes first T → value ≡ a.0 → Does w s v r (atomic a) (leaf_next (atomic a) (rule_gives T a))) → BeginsAny bytes first src w s v r
  unfolding begun
  atomic_any e value val d T job b t g k c st so h =
      let y = there job b t g k c so h in by_tag src s.at (Goes T job b g k c) 16 (λ a x z i. d T a st (val ∙ x.value_is) bytes job b g k c i) e t y y h

  pub assert_any : get_or src s.at 0 ≡ 23 → (value : ℕ) → value ≡ word src (s.at + 3)
      → ((T : Table) (γ : Goal) → value ≡ γ.0 → Does w s v r (assert γ) (leaf_next id (assert_gives T γ))) → BeginsAny bytes first src w s v r
  unfolding begun
  assert_any e value val d T job b t g k c st so h =
      let y = there job b t g k c so h in by_tag src s.at (Goes T job b g k c) 23 (λ γ x z i. d T γ (val ∙ x.value_is) bytes job b g k c i) e t y y h

  module _ (tag down : ℕ) (q : InnerTag src s tag down) where
    -- a level is left
    pub one_level : (job : List ℕ) (b : ℕ) (c : List M.Choice) (f : ℕ → Config) → s.level / 2 ≡ b → Holds bytes job v r (f (down / 2)) → Holds bytes job v r (level b c f)
    one_level job b c f e h = let so : b ≡ suc (down / 2) = omega (arith, e, q.down_is) in subst (λ (x : ℕ). Holds bytes job v r (level x c f)) (sym so) h

    pub label_any : tag ≡ 18 → (value : ℕ) → value ≡ word src (s.at + 3)
        → ((l : Label) (t : Term) → value ≡ l.0 → Does w s v r (label l t) (label_next down l t)) → BeginsAny bytes first src w s v r
    unfolding begun Stands
    label_any e value val d T job b t g k c st so h =
        let y = there job b t g k c so h in
        by_tag src s.at (Goes T job b g k c) 18 (λ l u o z i. one_level job b c _ i.below_is (d l u (val ∙ z.1) bytes job b g k c i)) (q.tag_is ∙ e) t y y h

    pub defined_any : tag ≡ 24 → (value : ℕ) → value ≡ word src (s.at + 3)
        → ((T : Table) (d : TacticNo) (job : List ℕ) → TableStands bytes first T → value ≡ d.0 → DoesIn bytes job w s v r (defined d) (defined_next T down d)) → BeginsAny bytes first src w s v r
    unfolding begun
    defined_any e value val d T job b t g k c st so h =
        let y = there job b t g k c so h in
        by_tag src s.at (Goes T job b g k c) 24 (λ n x z i. one_level job b c _ i.below_is (d T n job st (val ∙ x.value_is) b g k c i)) (q.tag_is ∙ e) t y y h

  pub pair_any : BeginsPair src w s v r → BeginsAny bytes first src w s v r
  pair_any d T job b t g k c st so h = d bytes job T b t g k c so h

-- no level is left
module _ (bytes : List ℕ) (first : ℕ) (src w : List ℕ) (s : State) where
  none_below : (T : Table) (t : Term) (g : List Goal) (k : List M.Frame) (c : List M.Choice) → (tag_of t ≡ 17 → ⊥) → (tag_of t ≡ 21 → ⊥) → (tag_of t ≡ 16 → ⊥) → (tag_of t ≡ 23 → ⊥)
      → begun T zero t g k c ≡ lost c
  unfolding begun tag_of
  none_below T (atomic a) g k c x y z u = absurd (z refl)
  none_below T id g k c x y z u = absurd (x refl)
  none_below T (label l t) g k c x y z u = refl
  none_below T (sequence t t') g k c x y z u = refl
  none_below T (tensor t t') g k c x y z u = refl
  none_below T empty g k c x y z u = absurd (y refl)
  none_below T (alternation t t') g k c x y z u = refl
  none_below T (assert γ) g k c x y z u = absurd (u refl)
  none_below T (defined n) g k c x y z u = refl

  pub bottom_any : (r : State) → s.level < 2 → (get_or src s.at 0 ≡ 17 → ⊥) → (get_or src s.at 0 ≡ 21 → ⊥) → (get_or src s.at 0 ≡ 16 → ⊥) → (get_or src s.at 0 ≡ 23 → ⊥) → r ≡ failed s
      → BeginsAny bytes first src w s w r × Stays w s w r
  unfolding Holds
  bottom_any r e n₁ n₂ n₃ n₄ q = (
    λ T job b t g k c st so h.
        let y = (known src s.at t (in_file_lem bytes job src (s.level % 2) s.at t so h.stands)).tag_is in
        let z : zero ≡ b = omega (arith, e, h.below_is) in
        subst (λ (x : ℕ). Holds bytes job w r (begun T x t g k c)) z
        (subst (λ (x : Config). Holds bytes job w r x) (sym (none_below T t g k c (λ i. n₁ (y ∙ i)) (λ i. n₂ (y ∙ i)) (λ i. n₃ (y ∙ i)) (λ i. n₄ (y ∙ i))))
        (subst (λ (x : State). Lost bytes job w x c) (sym q) (record { mode_is = refl; choices = h.choices }))),
    subst (λ (x : State). Stays w s w x) (sym q) (record { same_length = refl; same_steps = refl; index_same = λ i a b. refl }),
  )

-- a sequence, a tensor or an alternation
module _ (src w : List ℕ) (s : State) (tag down : ℕ) (q : Stood src w s) (p : PairTag src s tag down) where
  pub pair_inner : Inner src s.at
  pair_inner =
      by_pair src s.at tag (λ t. Inner src s.at) p.inner.not_16 p.inner.not_17 p.not_18 p.inner.not_21 p.inner.not_23 p.not_24
      (λ e t u x y. (t, u, (x, y))) (λ e t u x y. (t, u, (x, y))) (λ e t u x y. (t, u, (x, y))) q.term (stood_stands src w s q) p.inner.tag_is

  module _ (right : ℕ) (rt : (t u : Term) → Pair src s.at t u → right ≡ s.at + 3 + size t) where
    pub right_small : right < 65536
    right_small =
        let i = pair_inner in
        let k = known src (s.at + 3 + size i.0) i.1 i.2.1 in
        omega (arith, rt i.0 i.1 i.2, k.inside, k.three, q.src_small)

    module _ (v : List ℕ) (r : State) where
      abbrev PairGoes : (bytes job : List ℕ) → Table → ℕ → List Goal → List M.Frame → List M.Choice → Term → Type 0
      PairGoes bytes job T b g k c x = Begun bytes job w s b x g k c → Holds bytes job v r (begun T b x g k c)

      pair_there : (bytes job : List ℕ) (b : ℕ) (t : Term) (g : List Goal) (k : List M.Frame) (c : List M.Choice) → source bytes job (s.level % 2) ≡ src → Begun bytes job w s b t g k c
          → Stands src s.at t
      pair_there bytes job b t g k c so h = in_file_lem bytes job src (s.level % 2) s.at t so h.stands

      up : (bytes job : List ℕ) (b : ℕ) (c : List M.Choice) (f : ℕ → Config) → s.level / 2 ≡ b → Holds bytes job v r (f (down / 2)) → Holds bytes job v r (level b c f)
      up bytes job b c f e h = one_level bytes 0 src w s v r tag down p.inner job b c f e h

      pub sequence_pair : tag ≡ 19 → ((t u : Term) → right ≡ s.at + 3 + size t → Does w s v r (sequence t u) (sequence_next down t u)) → BeginsPair src w s v r
      unfolding begun
      sequence_pair e d bytes job T b t g k c so h =
          by_tag src s.at (PairGoes bytes job T b g k c) 19 (λ a u z i. up bytes job b c _ i.below_is (d a u (rt a u (pair_of src s.at a u z)) bytes job b g k c i)) (p.inner.tag_is ∙ e) t
          (pair_there bytes job b t g k c so h) h

      pub tensor_pair : tag ≡ 20 → ((t u : Term) → right ≡ s.at + 3 + size t → Does w s v r (tensor t u) (tensor_next down t u)) → BeginsPair src w s v r
      unfolding begun
      tensor_pair e d bytes job T b t g k c so h =
          by_tag src s.at (PairGoes bytes job T b g k c) 20 (λ a u z i. up bytes job b c _ i.below_is (d a u (rt a u (pair_of src s.at a u z)) bytes job b g k c i)) (p.inner.tag_is ∙ e) t
          (pair_there bytes job b t g k c so h) h

      pub alternation_pair : (tag ≡ 19 → ⊥) → (tag ≡ 20 → ⊥) → ((t u : Term) → right ≡ s.at + 3 + size t → Does w s v r (alternation t u) (alternation_next down t u)) → BeginsPair src w s v r
      unfolding begun
      alternation_pair x y d bytes job T b t g k c so h =
          by_pair src s.at tag (PairGoes bytes job T b g k c) p.inner.not_16 p.inner.not_17 p.not_18 p.inner.not_21 p.inner.not_23 p.not_24
          (λ e a u l m. absurd (x e)) (λ e a u l m. absurd (y e)) (λ e a u l m i. up bytes job b c _ i.below_is (d a u (rt a u (l, m)) bytes job b g k c i)) t
          (pair_there bytes job b t g k c so h) p.inner.tag_is h

-- a step
module _ (bytes : List ℕ) (first : ℕ) (src w : List ℕ) (s : State) (q : Given bytes first src w s) where
  outline_inside : s.outline ≤ length w
  outline_inside = omega (arith, q.runs.fits.fields, q.steps_left, q.space)

  -- the term that is to begin, counted
  count_runs : (job : List ℕ) (b : ℕ) (t : Term) (g : List Goal) (k : List M.Frame) (c : List M.Choice) → Runs bytes job w s b t g k c → Begun bytes job w (counted s) b t g k c
  count_runs job b t g k c h = record {
    below_is = h.below_is;
    stands = h.stands;
    goals = h.goals;
    waits = record { low = h.low; before = s.steps; earlier = omega arith; fits = h.fits; frames = h.frames; outlined = h.outlined };
    choices = choices_kept w w bytes job c s.steps (s.steps + 1) s.arena s.arena s.outline s.outline s.choice (nothing_written s.outline s.arena w outline_inside) (omega arith)
        (omega arith) (omega arith) h.choices;
  }

  module _ (o : State) (e : o ≡ counted s) where
    pub stood : Stood src w o
    stood = subst (λ (x : State). Stood src w x) (sym e) (record {
      few_steps = omega (arith, q.steps_left);
      space = q.space;
      src_small = q.src_small;
      bytes = bytes;
      job = q.job;
      so = q.so;
      below = q.below;
      term = q.term;
      goals = q.goals;
      frames = q.frames;
      choices = q.choices;
      starts = count_runs q.job q.below q.term q.goals q.frames q.choices q.runs;
    })

    module _ (v : List ℕ) (r : State) (d : BeginsAny bytes first src w o v r) (st : Stays w o v r) where
      begun-here : (T : Table) (job : List ℕ) (b : ℕ) (t : Term) (g : List Goal) (k : List M.Frame) (c : List M.Choice) → TableStands bytes first T → source bytes job (s.level % 2) ≡ src
          → Runs bytes job w s b t g k c → Holds bytes job v r (begun T b t g k c)
      begun-here T job b t g k c ts so h = subst (λ (x : State). BeginsAny bytes first src w x v r) e d T job b t g k c ts so (count_runs job b t g k c h)

      one_more : r.steps ≡ s.steps + 1
      one_more = st.same_steps ∙ ap (λ (x : State). x.steps) e

      pub unwinding : Unwinding v r
      unwinding = record {
        few_steps = omega (arith, one_more, q.steps_left);
        space = omega (arith, st.same_length, q.space);
        table = bytes;
        job = q.job;
        config = begun q.table q.below q.term q.goals q.frames q.choices;
        holds = begun-here q.table q.job q.below q.term q.goals q.frames q.choices q.table_stands q.so q.runs;
      }

      pub steps_on : (y : List ℕ) (z : State) → Unwound v r y z → Stays v r y z → Stepped bytes first src w s y z × Grown w s y z
      steps_on y z u st' = (
        λ T job b t g k c ts so h.
            subst (λ (κ : M.Control). Shows bytes job y z κ) (settle-begun T b t g k c) (u bytes job (begun T b t g k c) (begun-here T job b t g k c ts so h)),
        record {
          same_length = st'.same_length ∙ st.same_length;
          one_step = st'.same_steps ∙ one_more;
          index_same = λ i a b. st'.index_same i a b ∙ st.index_same i a b;
        },
      )

-- the same in the file that the state names
pub in_source : (bytes : List ℕ) (first : ℕ) (w : List ℕ) (s : State) (v : List ℕ) (r : State) (b src : List ℕ) → src ≡ b → Stepped bytes first b w s v r × Grown w s v r
    → Stepped bytes first src w s v r × Grown w s v r
in_source bytes first w s v r b src e h = (subst (λ (x : List ℕ). Stepped bytes first x w s v r) (sym e) h.0, h.1)
