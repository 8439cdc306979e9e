-- One term begun: a law for each form. A form that fails writes nothing; one that ends leaves its field; one that enters an inner term leaves its field, a node or both.
-- Assumes nothing.
use Prim.Native.Nat.{ℕ, ◌+◌, ◌*◌, ◌/◌, ◌%◌, ◌≤◌, ◌<◌}
use mathlib.Core.Path.{◌≡◌, refl, sym, ap, subst, ◌∙◌}
use mathlib.Core.List.{List, ◌∷◌, ◌++◌}
use mathlib.Core.Option.{Option, some}
use native.Mathlib.Omega.{arith}
use lib.ListN.{length, get_or, drop}
use lib.Seq.{paste}
use Rattle.std.specs.Prelude as std
use Rattle.std.specs.Prelude.{Some, None}
use Rattle.words.specs.Word.{word}
use Rattle.format.specs.declared.values.RuleName.{RuleName}
use Rattle.format.specs.declared.values.Goal.{Goal}
use Rattle.format.specs.declared.values.Label.{Label}
use Rattle.format.specs.declared.values.TacticNo.{TacticNo}
use Rattle.format.specs.Goals.{goals_at}
use Rattle.format.specs.Terms.{Term, atomic, id, label, sequence, empty, alternation, assert, defined, size}
use Rattle.format.specs.Standing.{Stands}
use Rattle.format.proofs.GoalsAt.{goals_paste}
use Rattle.tables.specs.declared.lookup.RuleFound.{RuleFound}
use Rattle.tables.specs.Tables.{Table}
use Rattle.tables.specs.Standing.{TableStands}
use Rattle.tables.specs.Found.{rule_found, FindsRule, BodyStands, FindsBody}
use Rattle.evaluation.specs.Outcomes.{one_goal, no_goal, assert_gives, found_premises, rule_gives}
use Rattle.tactics.specs.Memory.{Same, Only}
use Rattle.tactics.specs.Numbers.{put_header}
use Rattle.tactics.specs.Source.{source}
use Rattle.tactics.proofs.MemoryLaws.{only_copy}
use Rattle.tactics.proofs.FormLaws.{not_one_at, same_one, none_at, not_none_at, assert_at, assert_not_at, by_none, by_same}
use Rattle.tactics.proofs.FoundLaws.{rule_gives_lem, body_stands}
use Rattle.tactics.proofs.SourceLaws.{from_table}
use Rattle.outline.specs.Layout.{outline_end}
use Rattle.outline.specs.Outline.{outline_of}
use Rattle.search.specs.Machine as M
use Rattle.search.specs.Machine.{labelled, sequence_left, or_else}
use Rattle.search_machine.specs.declared.nodes.Node.{Node}
use Rattle.search_machine.specs.declared.state.State.{State}
use Rattle.search_machine.specs.Layout.{arena_low, node_size, step_room, arena_end}
use Rattle.search_machine.specs.Nodes.{put_node}
use Rattle.search_machine.specs.Outlines.{field, waiting_outline, OutlineIs}
use Rattle.search_machine.specs.Shows.{GoalsIs, FrameIs, FramesAt, set_aside, ChoiceIs, ChoicesAt, Begun, Runs, Gave, Lost, Config, next, gave, lost, Holds}
use Rattle.search_machine.specs.Moves.{failed, giving, noted, pushed, offered, entered, holding, Place}
use Rattle.search_machine.specs.Begun.{gave_if, enter_if, Room, Stays, DoesIn, Does, leaf_next, sequence_next, alternation_next, label_next, defined_next, sequence_node, or_else_node}
use Rattle.search_machine.proofs.KeepLaws.{Keeps, goals_kept_lem, outline_kept, frames_kept, waits_kept, choices_kept}
use Rattle.search_machine.proofs.MoveLaws.{put_keeps, put_index, push_frames, push_choices, note_length, note_keeps, note_index, note_outlined}

-- what a state holds while a term is begun, by itself: its goals, the terms that wait, the outline and the choices
pub record Held (table job w : List ℕ) (s : State) (g : List Goal) (k : List M.Frame) (c : List M.Choice) : Type 0 where
  pub low : arena_low ≤ s.arena
  pub goals : GoalsIs w s.arena s.start s.count g
  pub frames : FramesAt table job w s.arena k s.link
  pub outlined : OutlineIs w s.outline (waiting_outline k)
  pub choices : ChoicesAt table job w s.steps s.arena s.outline c s.choice
  pub space : s.arena + set_aside k + node_size ≤ arena_low + 512 + step_room * s.steps
  pub fields : s.outline + 3 ≤ 3 * s.steps

pub held : (table job w : List ℕ) (s : State) (b : ℕ) (t : Term) (g : List Goal) (k : List M.Frame) (c : List M.Choice) → Begun table job w s b t g k c → Held table job w s g k c
held table job w s b t g k c h = record {
  low = h.waits.low;
  goals = h.goals;
  frames = h.waits.frames;
  outlined = h.waits.outlined;
  choices = h.choices;
  space = omega (arith, h.waits.fits.space, h.waits.earlier);
  fields = omega (arith, h.waits.fits.fields, h.waits.earlier);
}

-- a field added to the outline
module _ (table job w : List ℕ) (s : State) (g : List Goal) (k : List M.Frame) (c : List M.Choice) (h : Held table job w s g k c) (tag value : ℕ) (fits : s.outline + 3 ≤ outline_end) (space : arena_end ≤ length w) where
  abbrev y : List ℕ
  y = put_header w s.outline tag value

  keeps : Keeps s.outline s.arena w y
  keeps = note_keeps w s.outline tag value fits space s.arena

  pub noted_goals : GoalsIs y s.arena s.start s.count g
  noted_goals = goals_kept_lem w y s.arena s.arena s.start s.count g keeps.below (omega arith) h.goals

  pub noted_frames : FramesAt table job y s.arena k s.link
  noted_frames = frames_kept w y table job k s.arena s.arena s.link keeps.below (omega arith) h.frames

  pub noted_outlined : OutlineIs y (s.outline + 3) (waiting_outline k ++ field tag value)
  noted_outlined = note_outlined w s.outline tag value fits space (waiting_outline k) h.outlined

  pub noted_choices : ChoicesAt table job y s.steps s.arena (s.outline + 3) c s.choice
  noted_choices = choices_kept w y table job c s.steps s.steps s.arena s.arena s.outline (s.outline + 3) s.choice keeps (omega arith) (omega arith) (omega arith) h.choices

  -- it is that of a term that ended
  pub leaf_gave : (p : Term) → outline_of p ≡ field tag value → Gave table job y (giving (noted s)) p g k c
  leaf_gave p e = record {
    mode_is = refl;
    low = h.low;
    goals = noted_goals;
    frames = noted_frames;
    outlined = subst (λ (o : List ℕ). OutlineIs y (s.outline + 3) (waiting_outline k ++ o)) (sym e) noted_outlined;
    choices = noted_choices;
    fits = record { space = omega (arith, h.space); fields = h.fields };
  }

module _ (w : List ℕ) (s : State) (room : Room w s) where
  -- the term fails
  pub fail_stays : (r : State) → r ≡ failed s → Stays w s w r
  fail_stays r q = subst (λ (x : State). Stays w s w x) (sym q) (record { same_length = refl; same_steps = refl; index_same = λ i a b. refl })

  pub fail_in : (table job : List ℕ) (t : Term) (f : ℕ → List Goal → List M.Frame → List M.Choice → Config)
      → ((b : ℕ) (g : List Goal) (k : List M.Frame) (c : List M.Choice) → goals_at w s.start s.count ≡ g → f b g k c ≡ lost c)
      → (r : State) → r ≡ failed s → DoesIn table job w s w r t f
  unfolding Holds
  fail_in table job t f e r q b g k c h =
      subst (λ (x : Config). Holds table job w r x) (sym (e b g k c h.goals.are))
      (subst (λ (x : State). Lost table job w x c) (sym q) (record { mode_is = refl; choices = h.choices }))

  fail_does : (t : Term) (f : ℕ → List Goal → List M.Frame → List M.Choice → Config)
      → ((b : ℕ) (g : List Goal) (k : List M.Frame) (c : List M.Choice) → goals_at w s.start s.count ≡ g → f b g k c ≡ lost c)
      → (r : State) → r ≡ failed s → Does w s w r t f
  fail_does t f e r q table job = fail_in table job t f e r q

  -- a field is added
  note_stays : (tag value : ℕ) (v : List ℕ) (r : State) → v ≡ put_header w s.outline tag value → r.steps ≡ s.steps → Stays w s v r
  note_stays tag value v r q e = record {
    same_length = ap length q ∙ note_length w s.outline tag value room.outline_fits room.space;
    same_steps = e;
    index_same = subst (λ (x : List ℕ). Same outline_end arena_low w x) (sym q) (note_index w s.outline tag value room.outline_fits room.space);
  }

  -- the term leaves its field and gives its goals back
  leaf_does : (tag value : ℕ) (p t : Term) (f : ℕ → List Goal → List M.Frame → List M.Choice → Config) → outline_of p ≡ field tag value
      → ((b : ℕ) (g : List Goal) (k : List M.Frame) (c : List M.Choice) → goals_at w s.start s.count ≡ g → f b g k c ≡ gave p g k c)
      → (v : List ℕ) (r : State) → v ≡ put_header w s.outline tag value → r ≡ giving (noted s) → Does w s v r t f × Stays w s v r
  unfolding Holds
  leaf_does tag value p t f o e v r q₁ q₂ = (
    λ table job b g k c h. subst (λ (x : Config). Holds table job v r x) (sym (e b g k c h.goals.are))
        (subst (λ (x : State). Gave table job v x p g k c) (sym q₂)
        (subst (λ (x : List ℕ). Gave table job x (giving (noted s)) p g k c) (sym q₁) (leaf_gave table job w s g k c (held table job w s b t g k c h) tag value room.outline_fits room.space p o))),
    note_stays tag value v r q₁ (ap (λ (x : State). x.steps) q₂),
  )

  pub id_fails : (r : State) → (s.count ≡ 1 → ⊥) → r ≡ failed s → Does w s w r id (leaf_next id one_goal) × Stays w s w r
  id_fails r n q = (fail_does id (leaf_next id one_goal) (λ b g k c h. by_none w s.start s.count one_goal (λ o. gave_if id o k c) g h (not_one_at w s.start _ s.count n)) r q, fail_stays r q)

  pub id_keeps : (v : List ℕ) (r : State) → s.count ≡ 1 → v ≡ put_header w s.outline 17 0 → r ≡ giving (noted s) → Does w s v r id (leaf_next id one_goal) × Stays w s v r
  unfolding outline_of
  id_keeps v r n q₁ q₂ = leaf_does 17 0 id id (leaf_next id one_goal) refl (λ b g k c h. by_same w s.start s.count one_goal (λ o. gave_if id o k c) g h (same_one w s.start s.count n)) v r q₁ q₂

  pub empty_fails : (r : State) → (s.count ≡ 0 → ⊥) → r ≡ failed s → Does w s w r empty (leaf_next empty no_goal) × Stays w s w r
  empty_fails r n q = (fail_does empty (leaf_next empty no_goal) (λ b g k c h. by_none w s.start s.count no_goal (λ o. gave_if empty o k c) g h (not_none_at w s.start s.count n)) r q, fail_stays r q)

  pub empty_keeps : (v : List ℕ) (r : State) → s.count ≡ 0 → v ≡ put_header w s.outline 21 0 → r ≡ giving (noted s) → Does w s v r empty (leaf_next empty no_goal) × Stays w s v r
  unfolding outline_of
  empty_keeps v r n q₁ q₂ =
      leaf_does 21 0 empty empty (leaf_next empty no_goal) refl (λ b g k c h. by_same w s.start s.count no_goal (λ o. gave_if empty o k c) g h (none_at w s.start s.count n)) v r q₁ q₂

  abbrev Asserts : ℕ → List ℕ → State → Type 0
  Asserts value v r = ((T : Table) (γ : Goal) → value ≡ γ.0 → Does w s v r (assert γ) (leaf_next id (assert_gives T γ))) × Stays w s v r

  pub assert_many : (value : ℕ) (r : State) → (s.count ≡ 1 → ⊥) → r ≡ failed s → Asserts value w r
  assert_many value r n q = (
    λ T γ e. fail_does (assert γ) (leaf_next id (assert_gives T γ))
        (λ b g k c h. by_none w s.start s.count (assert_gives T γ) (λ o. gave_if id o k c) g h (not_one_at w s.start _ s.count n)) r q,
    fail_stays r q,
  )

  pub assert_other : (value : ℕ) (r : State) → (word w s.start ≡ value → ⊥) → r ≡ failed s → Asserts value w r
  assert_other value r n q = (
    λ T γ e. fail_does (assert γ) (leaf_next id (assert_gives T γ))
        (λ b g k c h. by_none w s.start s.count (assert_gives T γ) (λ o. gave_if id o k c) g h (assert_not_at w s.start T γ s.count (λ i. n (i ∙ sym e)))) r q,
    fail_stays r q,
  )

  pub assert_keeps : (value : ℕ) (v : List ℕ) (r : State) → s.count ≡ 1 → word w s.start ≡ value → v ≡ put_header w s.outline 17 0 → r ≡ giving (noted s) → Asserts value v r
  unfolding outline_of
  assert_keeps value v r n i q₁ q₂ = (
    λ T γ e. (leaf_does 17 0 id (assert γ) (leaf_next id (assert_gives T γ)) refl
        (λ b g k c h. by_same w s.start s.count (assert_gives T γ) (λ o. gave_if id o k c) g h (assert_at w s.start T γ s.count n (i ∙ e))) v r q₁ q₂).0,
    note_stays 17 0 v r q₁ (ap (λ (x : State). x.steps) q₂),
  )

  module _ (down : ℕ) (level-is : down + 2 ≡ s.level) where
    -- the inner terms stand in the same file
    same_file : s.level % 2 ≡ down % 2
    same_file = omega (arith, level-is)

    pub in_same : (table job : List ℕ) (at : ℕ) (t : Term) → Stands (source table job (s.level % 2)) at t → Stands (source table job (down % 2)) at t
    in_same table job at t st = subst (λ (f : ℕ). Stands (source table job f) at t) same_file st

    pub label_fails : (value : ℕ) (r : State) → (s.count ≡ 1 → ⊥) → r ≡ failed s → ((l : Label) (t : Term) → value ≡ l.0 → Does w s w r (label l t) (label_next down l t)) × Stays w s w r
    label_fails value r n q = (
      λ l t e. fail_does (label l t) (label_next down l t)
          (λ b g k c h. by_none w s.start s.count one_goal (λ o. enter_if o c (λ x. next (down / 2) t x (labelled l ∷ k) c)) g h (not_one_at w s.start _ s.count n)) r q,
      fail_stays r q,
    )

    pub label_does : (value : ℕ) (v : List ℕ) (r : State) → s.count ≡ 1 → v ≡ put_header w s.outline 18 value → r ≡ entered (noted s) down (s.at + 5) s.start s.count
        → ((l : Label) (t : Term) → value ≡ l.0 → Does w s v r (label l t) (label_next down l t)) × Stays w s v r
    unfolding Holds Stands waiting_outline FramesAt set_aside
    label_does value v r one q₁ q₂ = (
      λ l t p table job b g k c h.
          let x = held table job w s b (label l t) g k c h in
          let so : label_next down l t b g k c ≡ next (down / 2) t g (labelled l ∷ k) c =
          by_same w s.start s.count one_goal (λ o. enter_if o c (λ u. next (down / 2) t u (labelled l ∷ k) c)) g h.goals.are (same_one w s.start s.count one) in
          subst (λ (z : Config). Holds table job v r z) (sym so)
          (subst (λ (z : State). Runs table job v z (down / 2) t g (labelled l ∷ k) c) (sym q₂)
          (subst (λ (z : List ℕ). Runs table job z (entered (noted s) down (s.at + 5) s.start s.count) (down / 2) t g (labelled l ∷ k) c) (sym q₁)
          (record {
            mode_is = refl;
            low = x.low;
            below_is = refl;
            stands = in_same table job (s.at + 5) t h.stands.2;
            goals = noted_goals table job w s g k c x 18 value room.outline_fits room.space;
            frames = noted_frames table job w s g k c x 18 value room.outline_fits room.space;
            outlined = subst (λ (z : ℕ). OutlineIs (put_header w s.outline 18 value) (s.outline + 3) (waiting_outline k ++ field 18 z)) p (noted_outlined table job w s g k c x 18 value room.outline_fits room.space);
            choices = noted_choices table job w s g k c x 18 value room.outline_fits room.space;
            fits = record { space = omega (arith, x.space); fields = x.fields };
          }))),
      note_stays 18 value v r q₁ (ap (λ (x : State). x.steps) q₂),
    )

    -- a sequence: its field, then a node
    module _ (right : ℕ) where
      abbrev w₁ : List ℕ
      w₁ = put_header w s.outline 19 0

      abbrev n₁ : Node
      n₁ = sequence_node (noted s) down right

      abbrev w₂ : List ℕ
      w₂ = put_node w₁ s.arena n₁

      length₁ : length w₁ ≡ length w
      length₁ = note_length w s.outline 19 0 room.outline_fits room.space

      room₁ : s.arena + node_size ≤ length w₁
      room₁ = omega (arith, length₁, room.fits, room.space)

      keeps₂ : Keeps (s.outline + 3) s.arena w₁ w₂
      keeps₂ = put_keeps w₁ s.arena n₁ room.low room₁ (s.outline + 3) room.outline_fits

      pub sequence_does : (v : List ℕ) (r : State) → v ≡ w₂ → r ≡ entered (pushed (noted s)) down (s.at + 3) s.start s.count
          → ((t u : Term) → right ≡ s.at + 3 + size t → Does w s v r (sequence t u) (sequence_next down t u)) × Stays w s v r
      unfolding Holds Stands FrameIs waiting_outline set_aside
      sequence_does v r q₁ q₂ = (
        λ t u p table job b g k c h.
            let x = held table job w s b (sequence t u) g k c h in
            subst (λ (z : State). Runs table job v z (down / 2) t g (sequence_left (down / 2) u ∷ k) c) (sym q₂)
            (subst (λ (z : List ℕ). Runs table job z (entered (pushed (noted s)) down (s.at + 3) s.start s.count) (down / 2) t g (sequence_left (down / 2) u ∷ k) c) (sym q₁)
            (record {
              mode_is = refl;
              low = omega (arith, x.low);
              below_is = refl;
              stands = in_same table job (s.at + 3) t h.stands.1;
              goals = goals_kept_lem w₁ w₂ s.arena (s.arena + node_size) s.start s.count g keeps₂.below (omega arith) (noted_goals table job w s g k c x 19 0 room.outline_fits room.space);
              frames = push_frames w₁ s.arena n₁ room.low room₁ table job (sequence_left (down / 2) u) k tt (noted_frames table job w s g k c x 19 0 room.outline_fits room.space)
                  (refl, refl, subst (λ (z : ℕ). Stands (source table job (down % 2)) z u) (sym p) (in_same table job (s.at + 3 + size t) u h.stands.2));
              outlined = outline_kept w₁ w₂ (s.outline + 3) _ keeps₂.outlined keeps₂.same_length keeps₂.long (noted_outlined table job w s g k c x 19 0 room.outline_fits room.space);
              choices = choices_kept w₁ w₂ table job c s.steps s.steps s.arena (s.arena + node_size) (s.outline + 3) (s.outline + 3) s.choice keeps₂ (omega arith) (omega arith) (omega arith)
                  (noted_choices table job w s g k c x 19 0 room.outline_fits room.space);
              fits = record { space = omega (arith, x.space); fields = x.fields };
            })),
        record {
          same_length = ap length q₁ ∙ keeps₂.same_length ∙ length₁;
          same_steps = ap (λ (x : State). x.steps) q₂;
          index_same = λ i a b. ap (λ (z : List ℕ). get_or z i 0) q₁ ∙ put_index w₁ s.arena n₁ room.low room₁ i a b ∙ note_index w s.outline 19 0 room.outline_fits room.space i a b;
        },
      )

      -- by the states in between
      pub sequence_again : (o q : State) (v₁ v : List ℕ) (r : State) → o ≡ noted s → v₁ ≡ w₁ → v ≡ put_node v₁ o.arena (sequence_node o down right) → q ≡ pushed o
          → r ≡ entered q down (s.at + 3) s.start s.count
          → ((t u : Term) → right ≡ s.at + 3 + size t → Does w s v r (sequence t u) (sequence_next down t u)) × Stays w s v r
      sequence_again o q v₁ v r e₀ e₁ e₂ e₃ e₄ =
          sequence_does v r (e₂ ∙ ap (λ (x : State). put_node v₁ x.arena (sequence_node x down right)) e₀ ∙ ap (λ (x : List ℕ). put_node x s.arena n₁) e₁)
          (e₄ ∙ ap (λ (x : State). entered x (down) (s.at + 3) s.start s.count) (e₃ ∙ ap (λ (x : State). pushed x) e₀))

      pub sequence_place : right < 65536 → (o : State) (v₁ : List ℕ) → o ≡ noted s → length v₁ ≡ length w → Place v₁ o (sequence_node o down right)
      sequence_place small o v₁ e l =
          subst (λ (x : State). Place v₁ x (sequence_node x down right)) (sym e)
          (record {
            fits = omega (arith, room.fits);
            space = omega (arith, l, room.space);
            small = record {
              at_small = small;
              link_small = omega (arith, room.link_below, room.fits);
              start_small = omega arith;
              count_small = omega arith;
              left_small = omega arith;
              mark_small = omega arith;
              right_small = omega arith;
              other_small = omega arith;
            };
          })

    -- an alternation: its right term is kept as a choice
    module _ (right : ℕ) where
      abbrev n₂ : Node
      n₂ = or_else_node s down right

      abbrev y₂ : List ℕ
      y₂ = put_node w s.arena n₂

      room₂ : s.arena + node_size ≤ length w
      room₂ = omega (arith, room.fits, room.space)

      keeps_or : Keeps s.outline s.arena w y₂
      keeps_or = put_keeps w s.arena n₂ room.low room₂ s.outline (omega (arith, room.outline_fits))

      pub alternation_does : (v : List ℕ) (r : State) → v ≡ y₂ → r ≡ entered (offered s) down (s.at + 3) s.start s.count
          → ((t u : Term) → right ≡ s.at + 3 + size t → Does w s v r (alternation t u) (alternation_next down t u)) × Stays w s v r
      unfolding Holds ChoiceIs Stands
      alternation_does v r q₁ q₂ = (
        λ t u p table job b g k c h.
            subst (λ (z : State). Runs table job v z (down / 2) t g k (or_else (down / 2) u g k ∷ c)) (sym q₂)
            (subst (λ (z : List ℕ). Runs table job z (entered (offered s) down (s.at + 3) s.start s.count) (down / 2) t g k (or_else (down / 2) u g k ∷ c)) (sym q₁)
            (record {
              mode_is = refl;
              low = omega (arith, room.low);
              below_is = refl;
              stands = in_same table job (s.at + 3) t h.stands.1;
              goals = goals_kept_lem w y₂ s.arena (s.arena + node_size) s.start s.count g keeps_or.below (omega arith) h.goals;
              frames = frames_kept w y₂ table job k s.arena (s.arena + node_size) s.link keeps_or.below (omega arith) h.waits.frames;
              outlined = outline_kept w y₂ s.outline _ keeps_or.outlined keeps_or.same_length keeps_or.long h.waits.outlined;
              choices = push_choices w s.arena n₂ room.low room₂ table job (or_else (down / 2) u g k) c s.steps s.outline (omega arith) (omega (arith, room.outline_fits)) h.choices
                  (record {
                    kind_is = refl;
                    below_is = refl;
                    stands = subst (λ (z : ℕ). Stands (source table job (down % 2)) z u) (sym p) (in_same table job (s.at + 3 + size t) u h.stands.2);
                    goals = goals_kept_lem w y₂ s.arena s.arena s.start s.count g keeps_or.below (omega arith) h.goals;
                    waits = waits_kept w y₂ table job k s.steps s.steps s.arena s.outline s.link keeps_or (omega arith) h.waits;
                  });
              fits = record { space = omega (arith, h.waits.fits.space, h.waits.earlier); fields = omega (arith, h.waits.fits.fields, h.waits.earlier) };
            })),
        record {
          same_length = ap length q₁ ∙ keeps_or.same_length;
          same_steps = ap (λ (x : State). x.steps) q₂;
          index_same = λ i a b. ap (λ (z : List ℕ). get_or z i 0) q₁ ∙ put_index w s.arena n₂ room.low room₂ i a b;
        },
      )

-- a rule used: its premises at the top of the arena, then its field
module _ (w : List ℕ) (s : State) (room : Room w s) (bytes : List ℕ) (place n : ℕ) (few : n ≤ 8) (inside : place + n * 2 ≤ length bytes) where
  abbrev u₁ : List ℕ
  u₁ = paste w s.arena (drop place bytes) (n * 2)

  abbrev s₁ : State
  s₁ = holding s s.arena n (s.arena + n * 2)

  only : Only s.arena (s.arena + n * 2) w u₁
  only = only_copy w bytes s.arena place (n * 2) (omega (arith, few, room.fits, room.space)) inside

  copied : Keeps s.outline s.arena w u₁
  copied = record {
    outlined = λ i a b. only.kept.below i (omega (arith, b, room.outline_fits, room.low));
    below = λ i a b. only.kept.below i b;
    long = omega (arith, room.outline_fits, room.low, room.fits, room.space);
    same_length = only.same_length;
  }

  there : goals_at u₁ s.arena n ≡ goals_at bytes place n
  there = goals_paste w bytes s.arena place n (omega (arith, few, room.fits, room.space)) inside

  space₁ : arena_end ≤ length u₁
  space₁ = omega (arith, only.same_length, room.space)

  used : (table job : List ℕ) (b : ℕ) (t : Term) (g : List Goal) (k : List M.Frame) (c : List M.Choice) → Begun table job w s b t g k c → Held table job u₁ s₁ (goals_at bytes place n) k c
  used table job b t g k c h =
      let x = held table job w s b t g k c h in
      record {
        low = omega (arith, room.low);
        goals = record { low = room.low; inside = omega arith; few = omega (arith, few); are = there };
        frames = frames_kept w u₁ table job k s.arena (s.arena + n * 2) s.link copied.below (omega arith) x.frames;
        outlined = outline_kept w u₁ s.outline _ copied.outlined copied.same_length copied.long x.outlined;
        choices = choices_kept w u₁ table job c s.steps s.steps s.arena (s.arena + n * 2) s.outline s.outline s.choice copied (omega arith) (omega arith) (omega arith) x.choices;
        space = omega (arith, few, h.waits.fits.space, h.waits.earlier);
        fields = x.fields;
      }

  abbrev Uses : ℕ → List ℕ → State → Type 0
  Uses value v r = ((a : RuleName) → value ≡ a.0 → Does w s v r (atomic a) (leaf_next (atomic a) (λ g. some (goals_at bytes place n)))) × Stays w s v r

  pub use_does : (value : ℕ) (o : State) (v₁ v : List ℕ) (r : State) → o ≡ s₁ → v₁ ≡ u₁ → v ≡ put_header v₁ o.outline 16 value → r ≡ giving (noted o) → Uses value v r
  unfolding Holds outline_of
  use_does value o v₁ v r q₀ q₁ q q₂ =
      let made : v ≡ put_header u₁ s.outline 16 value = q ∙ ap (λ (x : State). put_header v₁ x.outline 16 value) q₀ ∙ ap (λ (x : List ℕ). put_header x s.outline 16 value) q₁ in
      let state : r ≡ giving (noted s₁) = q₂ ∙ ap (λ (x : State). giving (noted x)) q₀ in (
        λ a p table job b g k c h.
            subst (λ (x : State). Gave table job v x (atomic a) (goals_at bytes place n) k c) (sym state)
            (subst (λ (x : List ℕ). Gave table job x (giving (noted s₁)) (atomic a) (goals_at bytes place n) k c) (sym made)
            (leaf_gave table job u₁ s₁ (goals_at bytes place n) k c (used table job b (atomic a) g k c h) 16 value room.outline_fits space₁ (atomic a) (ap (λ (x : ℕ). field 16 x) (sym p)))),
        record {
          same_length = ap length made ∙ note_length u₁ s.outline 16 value room.outline_fits space₁ ∙ only.same_length;
          same_steps = ap (λ (x : State). x.steps) state;
          index_same = λ i a b. ap (λ (z : List ℕ). get_or z i 0) made ∙ note_index u₁ s.outline 16 value room.outline_fits space₁ i a b ∙ only.kept.below i (omega (arith, b, room.low));
        },
      )

  pub use_room : (o : State) (v₁ : List ℕ) → o ≡ s₁ → length v₁ ≡ length w → (o.outline + 3 ≤ outline_end) × (outline_end ≤ length v₁)
  use_room o v₁ q l = subst (λ (x : State). (x.outline + 3 ≤ outline_end) × (outline_end ≤ length v₁)) (sym q) (room.outline_fits, omega (arith, l, room.low, room.fits, room.space))

module _ (w : List ℕ) (s : State) (room : Room w s) (bytes : List ℕ) (first : ℕ) where
  -- an atomic term
  module _ (name : RuleName) where
    abbrev UsesRule : List ℕ → State → Type 0
    UsesRule v r = ((T : Table) (a : RuleName) → TableStands bytes first T → name.0 ≡ a.0 → Does w s v r (atomic a) (leaf_next (atomic a) (rule_gives T a))) × Stays w s v r

    pub rule_fails : (r : State) → (s.count ≡ 1 → ⊥) → r ≡ failed s → UsesRule w r
    rule_fails r n q = (
      λ T a st e. fail_does w s room (atomic a) (leaf_next (atomic a) (rule_gives T a))
          (λ b g k c h. by_none w s.start s.count (rule_gives T a) (λ o. gave_if (atomic a) o k c) g h (not_one_at w s.start _ s.count n)) r q,
      fail_stays w s room r q,
    )

    module _ (γ : Goal) (o : std.Option RuleFound) (one : s.count ≡ 1) (e : γ.0 ≡ word w s.start) (f : FindsRule bytes first name γ o) where
      -- what the look-up found is what the rule gives
      gives_found : (x : std.Option RuleFound) → o ≡ x → (T : Table) (a : RuleName) (g : List Goal) → TableStands bytes first T → name.0 ≡ a.0 → goals_at w s.start s.count ≡ g
          → rule_gives T a g ≡ found_premises (rule_found bytes x)
      gives_found x m T a g st i h = rule_gives_lem bytes first name γ o f w s.start s.count one e T a g st i h ∙ ap (λ (z : std.Option RuleFound). found_premises (rule_found bytes z)) m

      pub rule_missing_lem : (r : State) → o ≡ None → r ≡ failed s → UsesRule w r
      unfolding rule_found
      rule_missing_lem r m q = (
        λ T a st i. fail_does w s room (atomic a) (leaf_next (atomic a) (rule_gives T a)) (λ b g k c h. ap (λ (x : Option (List Goal)). gave_if (atomic a) x k c) (gives_found None m T a g st i h)) r q,
        fail_stays w s room r q,
      )

      pub rule_used : (found : RuleFound) → o ≡ Some found → (v : List ℕ) (r : State)
          → ((a : RuleName) → name.0 ≡ a.0 → Does w s v r (atomic a) (leaf_next (atomic a) (λ g. some (goals_at bytes found.place found.count)))) → Stays w s v r → UsesRule v r
      unfolding rule_found
      rule_used found m v r d st' = (
        λ T a st i table job b g k c h. subst (λ (x : Option (List Goal)). Holds table job v r (gave_if (atomic a) x k c)) (sym (gives_found (Some found) m T a g st i h.goals.are)) (d a i table job b g k c h),
        st',
      )

  -- a defined tactic
  module _ (down : ℕ) (number : TacticNo) (o : std.Option ℕ) (f : FindsBody bytes first number o) where
    abbrev Unfolds : State → Type 0
    Unfolds r = ((T : Table) (d : TacticNo) (job : List ℕ) → TableStands bytes first T → number.0 ≡ d.0 → DoesIn bytes job w s w r (defined d) (defined_next T down d)) × Stays w s w r

    pub body_missing : (r : State) → o ≡ None → r ≡ failed s → Unfolds r
    unfolding BodyStands
    body_missing r m q = (
      λ T d job st i. fail_in w s room bytes job (defined d) (defined_next T down d)
          (λ b g k c h. ap (λ (x : Option Term). enter_if x c (λ t. next (down / 2) t g k c)) (body_stands bytes first number o f T d None st i m)) r q,
      fail_stays w s room r q,
    )

    -- the body stands in the table
    table_level : (down / 2 * 2) % 2 ≡ 0
    table_level = omega arith

    same_below : down / 2 * 2 / 2 ≡ down / 2
    same_below = omega arith

    pub body_found : (place : ℕ) (r : State) → o ≡ Some place → r ≡ entered s (down / 2 * 2) place s.start s.count → Unfolds r
    unfolding BodyStands Holds
    body_found place r m q = subst (λ (x : State). Unfolds x) (sym q) (
      λ T d job st i b g k c h.
          let y = body_stands bytes first number o f T d (Some place) st i m in
          subst (λ (x : Option Term). Holds bytes job w (entered s (down / 2 * 2) place s.start s.count) (enter_if x c (λ t. next (down / 2) t g k c))) (sym y.1)
          (record {
            mode_is = refl;
            low = room.low;
            below_is = same_below;
            stands = subst (λ (x : List ℕ). Stands x place y.0) (sym (from_table bytes job (down / 2 * 2 % 2) table_level)) y.2;
            goals = h.goals;
            frames = h.waits.frames;
            outlined = h.waits.outlined;
            choices = h.choices;
            fits = record { space = omega (arith, h.waits.fits.space, h.waits.earlier); fields = omega (arith, h.waits.fits.fields, h.waits.earlier) };
          }),
      record { same_length = refl; same_steps = refl; index_same = λ i a b. refl },
    )
