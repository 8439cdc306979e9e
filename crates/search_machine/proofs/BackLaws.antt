-- The way back: there is no choice, or the last one is taken up; a tensor's splits to come stay in their node, which is changed in place.
-- Assumes nothing.
use Prim.Native.Nat.{ℕ, ◌+◌, ◌*◌, ◌/◌, ◌-◌, ◌≤◌}
use mathlib.Core.Path.{◌≡◌, refl, sym, ap, subst, ◌∙◌}
use mathlib.Core.List.{List, [], ◌∷◌, ◌++◌}
use native.Mathlib.Omega.{arith}
use lib.ListN.{length}
use Rattle.words.specs.Word.{word, put_word}
use Rattle.words.proofs.WordLaws.{word_same}
use Rattle.format.specs.declared.values.Goal.{Goal}
use Rattle.format.specs.Goals.{goals_at}
use Rattle.format.specs.Terms.{Term}
use Rattle.tactics.specs.Memory.{Same, Only}
use Rattle.tactics.specs.Numbers.{long}
use Rattle.tactics.proofs.MemoryLaws.{only_word, same_word}
use Rattle.tactics.proofs.NumberLaws.{same_long}
use Rattle.outline.specs.Layout.{outline_end}
use Rattle.search.specs.Machine as M
use Rattle.search.specs.Machine.{tensor_left, or_else, next_split}
use Rattle.search_machine.specs.declared.nodes.Node.{Node}
use Rattle.search_machine.specs.declared.state.State.{State}
use Rattle.search_machine.specs.Layout.{arena_low, node_size, step_room, arena_end}
use Rattle.search_machine.specs.Nodes.{node_at, put_node}
use Rattle.search_machine.specs.Outlines.{field, waiting_outline}
use Rattle.search_machine.specs.Shows.{NodeBelow, ChoiceIs, ChoicesAt, Runs, Lost, Shows}
use Rattle.search_machine.specs.Moves.{pushed, entered, returned}
use Rattle.search_machine.specs.Begun.{tensor_node, Stays, Parts, PartRoom}
use Rattle.search_machine.specs.Popping.{SplitRoom, LastSplit, NextSplit, moved, Backing, WentBack}
use Rattle.search_machine.proofs.KeepLaws.{Keeps, goals_kept_lem, outline_kept, frames_kept, besides-kept, choices_kept}
use Rattle.search_machine.proofs.PopLaws.{link_lower}
use Rattle.search_machine.proofs.SplitLaws.{part_runs, part_stays, Moved, split-moved}

-- the node of a tensor's splits with one goal more on the left
module _ (w : List ℕ) (at : ℕ) (room : at + node_size ≤ length w) where
  abbrev n₀ : Node
  n₀ = node_at w at

  abbrev once : List ℕ
  once = put_word w (at + 6) (n₀.count - 1)

  abbrev twice : List ℕ
  twice = moved w at

  abbrev further : Node
  further = record {
    kind = n₀.kind;
    level = n₀.level;
    at = n₀.at;
    count = n₀.count - 1;
    link = n₀.link;
    start = n₀.start;
    left = n₀.left + 1;
    mark = n₀.mark;
    right = n₀.right;
    other = n₀.other;
  }

  only₁ : Only (at + 6) (at + 6 + 2) w once
  only₁ = only_word w (at + 6) (n₀.count - 1)

  only₂ : Only (at + 16) (at + 16 + 2) once twice
  only₂ = only_word once (at + 16) (n₀.left + 1)

  moved_length : length twice ≡ length w
  moved_length = only₂.same_length ∙ only₁.same_length

  before : Same 0 (at + 6) w twice
  before = λ i a b. only₂.kept.below i (omega arith) ∙ only₁.kept.below i b

  between : Same (at + 8) (at + 16) w twice
  between = λ i a b. only₂.kept.below i b ∙ only₁.kept.above i (omega arith)

  behind : Same (at + 18) (at + node_size) w twice
  behind = λ i a b. only₂.kept.above i (omega arith) ∙ only₁.kept.above i (omega arith)

  moved_node : node_at twice at ≡ further
  moved_node =
      let e0 : word twice at ≡ n₀.kind = same_word w twice 0 (at + 6) at before (omega arith) (omega arith) in
      let e1 : word twice (at + 2) ≡ n₀.level = same_word w twice 0 (at + 6) (at + 2) before (omega arith) (omega arith) in
      let e2 : word twice (at + 4) ≡ n₀.at = same_word w twice 0 (at + 6) (at + 4) before (omega arith) (omega arith) in
      let e3 : word twice (at + 6) ≡ n₀.count - 1 = same_word once twice 0 (at + 16) (at + 6) (λ i a b. only₂.kept.below i b) (omega arith) (omega arith) ∙ word_same w (at + 6) (n₀.count - 1) (omega (arith, room)) in
      let e4 : long twice (at + 8) ≡ n₀.link = same_long w twice (at + 8) (at + 16) (at + 8) between (omega arith) (omega arith) in
      let e5 : long twice (at + 12) ≡ n₀.start = same_long w twice (at + 8) (at + 16) (at + 12) between (omega arith) (omega arith) in
      let e6 : word twice (at + 16) ≡ n₀.left + 1 = word_same once (at + 16) (n₀.left + 1) (omega (arith, room, only₁.same_length)) in
      let e7 : word twice (at + 18) ≡ n₀.mark = same_word w twice (at + 18) (at + node_size) (at + 18) behind (omega arith) (omega arith) in
      let e8 : word twice (at + 20) ≡ n₀.right = same_word w twice (at + 18) (at + node_size) (at + 20) behind (omega arith) (omega arith) in
      let e9 : long twice (at + 22) ≡ n₀.other = same_long w twice (at + 18) (at + node_size) (at + 22) behind (omega arith) (omega arith) in
      λ i. record { kind = e0 i; level = e1 i; at = e2 i; count = e3 i; link = e4 i; start = e5 i; left = e6 i; mark = e7 i; right = e8 i; other = e9 i }

  moved_keeps : (outline : ℕ) → arena_low ≤ at → outline ≤ outline_end → Keeps outline at w twice
  moved_keeps outline low l = record {
    outlined = λ i a b. before i a (omega (arith, b, low, l));
    below = λ i a b. before i (omega arith) (omega (arith, b));
    long = omega (arith, l, low, room);
    same_length = moved_length;
  }

  moved_index : arena_low ≤ at → Same outline_end arena_low w twice
  moved_index low = λ i a b. before i (omega arith) (omega (arith, b, low))

pub choice_inside : (table job w : List ℕ) (steps top outline : ℕ) (c : List M.Choice) (link : ℕ) → ChoicesAt table job w steps top outline c link → link ≤ top
unfolding ChoicesAt
choice_inside table job w steps top outline [] link f = omega (arith, f)
choice_inside table job w steps top outline (x ∷ c) link f = omega (arith, f.0.inside)

module _ (w : List ℕ) (s : State) where
  abbrev n : Node
  n = node_at w s.choice

  abbrev Back : List ℕ → State → Type 0
  Back v r = WentBack w s v r × Stays w s v r

  nothing_stays : (r : State) → r.steps ≡ s.steps → Stays w s w r
  nothing_stays r e = record { same_length = refl; same_steps = e; index_same = λ i a b. refl }

  -- there is none
  pub none_left : s.choice ≡ 0 → Back w s
  unfolding ChoicesAt M.back Shows
  none_left z = (go, nothing_stays s refl)
    where
      go : WentBack w s w s
      go table job [] h = h
      go table job (x ∷ c) h = absurd (omega (arith, z, h.choices.0.low))

  -- the last one
  record Last (table job : List ℕ) (x : M.Choice) (c : List M.Choice) : Type 0 where
    pub node : NodeBelow s.arena s.choice
    pub is : ChoiceIs table job w s.steps s.choice n x
    pub rest : ChoicesAt table job w s.steps s.choice n.mark c n.other

  last : (table job : List ℕ) (x : M.Choice) (c : List M.Choice) → Lost table job w s (x ∷ c) → Last table job x c
  unfolding ChoicesAt
  last table job x c h = record { node = h.choices.0; is = h.choices.2; rest = h.choices.3 }

  -- there is one: what is shown of each shows it
  by_last : (v : List ℕ) (r : State) → (s.choice ≡ 0 → ⊥) → ((table job : List ℕ) (x : M.Choice) (c : List M.Choice) → Last table job x c → Shows table job v r (M.back (x ∷ c))) → WentBack w s v r
  unfolding ChoicesAt
  by_last v r z d table job [] h = absurd (z h.choices)
  by_last v r z d table job (x ∷ c) h = d table job x c (last table job x c h)

  -- an alternation's right term
  abbrev right_term : State
  right_term = entered (returned s n.link n.other s.choice n.mark) n.level n.at n.start n.count

  or_else_does : n.kind ≡ 4 → (table job : List ℕ) (x : M.Choice) (c : List M.Choice) → Last table job x c → Shows table job w right_term (M.back (x ∷ c))
  unfolding ChoiceIs M.back Shows
  or_else_does z table job (or_else b u g k) c y = record {
    mode_is = refl;
    low = y.is.waits.low;
    below_is = y.is.below_is;
    stands = y.is.stands;
    goals = y.is.goals;
    frames = y.is.waits.frames;
    outlined = y.is.waits.outlined;
    choices = y.rest;
    fits = record { space = omega (arith, y.is.waits.fits.space, y.is.waits.earlier); fields = omega (arith, y.is.waits.fits.fields, y.is.waits.earlier) };
  }
  or_else_does z table job (next_split b t u g₁ g₂ k) c y = absurd (omega (arith, z, y.is.kind_is))

  pub or_else_lem : (s.choice ≡ 0 → ⊥) → n.kind ≡ 4 → (r : State) → r ≡ right_term → Back w r
  or_else_lem z k r e = subst (λ (x : State). Back w x) (sym e) (by_last w right_term z (or_else_does k), nothing_stays right_term refl)

  -- the numbers of the last choice
  module _ (q : Backing w s) (z : s.choice ≡ 0 → ⊥) where
    choice_fits : (x : M.Choice) → ChoiceIs q.table q.job w s.steps s.choice n x → s.choice + step_room ≤ arena_end
    unfolding ChoiceIs
    choice_fits (or_else b u g k) i = omega (arith, q.few_steps, i.waits.fits.space, i.waits.earlier)
    choice_fits (next_split b t u g₁ g₂ k) i = omega (arith, q.few_steps, i.waits.space, i.waits.earlier)

    choice_room : (c : List M.Choice) → Lost q.table q.job w s c → (arena_low ≤ s.choice) × (s.choice + step_room ≤ arena_end)
    unfolding ChoicesAt
    choice_room [] h = absurd (z h.choices)
    choice_room (x ∷ c) h = let y = last q.table q.job x c h in (y.node.low, choice_fits x y.is)

    choice_low : arena_low ≤ s.choice
    choice_low = (choice_room q.choices q.lost).0

    pub choice_node : s.choice + node_size ≤ length w
    choice_node = omega (arith, q.space, (choice_room q.choices q.lost).1)

    -- a tensor's splits
    module _ (other : n.kind ≡ 4 → ⊥) where
      room_go : (x : M.Choice) (c : List M.Choice) → Last q.table q.job x c → SplitRoom w s
      unfolding ChoiceIs
      room_go (or_else b u g k) c y = absurd (other y.is.kind_is)
      room_go (next_split b t u g₁ g₂ k) c y = record {
        fits = omega (arith, (choice_room q.choices q.lost).1);
        space = omega (arith, q.space);
        link_below = omega (arith, link_lower q.table q.job w k s.choice n.link (omega (arith, choice_low)) y.is.waits.frames);
        other_below = choice_inside q.table q.job w s.steps s.choice n.mark c n.other y.rest;
        goals_below = y.is.right_goals.inside;
        few = y.is.few;
        at_small = y.is.at_small;
        right_small = y.is.right_small;
      }

      room_of : (c : List M.Choice) → Lost q.table q.job w s c → SplitRoom w s
      unfolding ChoicesAt
      room_of [] h = absurd (z h.choices)
      room_of (x ∷ c) h = room_go x c (last q.table q.job x c h)

      pub split_room : SplitRoom w s
      split_room = room_of q.choices q.lost

  -- the state in between on a tensor's last split
  abbrev given_up : State
  given_up = returned s n.link n.other s.choice n.mark

  -- and on one with others to come
  abbrev kept_on : State
  kept_on = returned s n.link s.choice (s.choice + node_size) n.mark

  module _ (room : SplitRoom w s) where
    last_part : PartRoom w given_up n.at n.right n.start n.left 0
    last_part = record {
      fits = omega (arith, room.fits);
      space = room.space;
      link_below = room.link_below;
      goals_below = omega (arith, room.goals_below);
      few = omega (arith, room.few);
      at_small = room.at_small;
      right_small = room.right_small;
    }

    next_part : PartRoom (moved w s.choice) kept_on n.at n.right n.start n.left n.count
    next_part = record {
      fits = omega (arith, room.fits);
      space = omega (arith, room.space, moved_length w s.choice (omega (arith, room.fits, room.space)));
      link_below = omega (arith, room.link_below);
      goals_below = omega (arith, room.goals_below);
      few = room.few;
      at_small = room.at_small;
      right_small = room.right_small;
    }

  -- a tensor's left term entered from a state in between
  module _ (v₁ : List ℕ) (o : State) (count : ℕ) (room : PartRoom v₁ o n.at n.right n.start n.left count) (v : List ℕ) (r : State)
      (written : v ≡ put_node v₁ o.arena (tensor_node o n.level n.right n.start n.left count)) (state : r ≡ entered (pushed o) n.level n.at n.start n.left) where
    abbrev put : List ℕ
    put = put_node v₁ o.arena (tensor_node o n.level n.right n.start n.left count)

    abbrev next : State
    next = entered (pushed o) n.level n.at n.start n.left

    entered_runs : (table job : List ℕ) (b : ℕ) (t u : Term) (g₁ g₂ : List Goal) (k : List M.Frame) (c : List M.Choice) → n.level / 2 ≡ b
        → Parts table job v₁ o n.level n.at n.right n.start n.left count t u g₁ g₂ k → ChoicesAt table job v₁ o.steps o.arena o.outline c o.choice → o.outline ≤ outline_end
        → Runs table job v r b t g₁ (tensor_left b u g₂ ∷ k) c
    entered_runs table job b t u g₁ g₂ k c e p m l =
        subst (λ (x : State). Runs table job v x b t g₁ (tensor_left b u g₂ ∷ k) c) (sym state)
        (subst (λ (x : List ℕ). Runs table job x next b t g₁ (tensor_left b u g₂ ∷ k) c) (sym written)
        (subst (λ (x : ℕ). Runs table job put next x t g₁ (tensor_left x u g₂ ∷ k) c) e
        (part_runs v₁ o n.level n.at n.right n.start n.left count room table job t u g₁ g₂ k c p m l)))

    entered_stays : arena_low ≤ o.arena → length v₁ ≡ length w → Same outline_end arena_low w v₁ → o.steps ≡ s.steps → Stays w s v r
    entered_stays low e d f =
        subst (λ (x : State). Stays w s v x) (sym state)
        (subst (λ (x : List ℕ). Stays w s x next) (sym written)
        (let st = part_stays v₁ o n.level n.at n.right n.start n.left count room low in
        record { same_length = st.same_length ∙ e; same_steps = f; index_same = λ i a b. st.index_same i a b ∙ d i a b }))

  module _ (q : Backing w s) (z : s.choice ≡ 0 → ⊥) (other : n.kind ≡ 4 → ⊥) (v : List ℕ) (r : State) where
    room₀ : SplitRoom w s
    room₀ = split_room q z other

    low : arena_low ≤ s.choice
    low = choice_low q z

    inside : s.choice + node_size ≤ length w
    inside = choice_node q z

    few_fields : (table job : List ℕ) (b : ℕ) (t u : Term) (g₁ g₂ : List Goal) (k : List M.Frame) (c : List M.Choice) → Last table job (next_split b t u g₁ g₂ k) c → n.mark ≤ outline_end
    unfolding ChoiceIs
    few_fields table job b t u g₁ g₂ k c y = omega (arith, q.few_steps, y.is.waits.fields, y.is.waits.earlier)

    -- the last split: the choice is given up, and no goal is left for the right term
    module _ (none : n.count ≡ 0) (d : LastSplit w s v r) where
      written₁ : v ≡ put_node w s.choice (tensor_node given_up n.level n.right n.start n.left 0)
      written₁ = d.written ∙ ap (λ (x : State). put_node w x.arena (tensor_node x n.level n.right n.start n.left 0)) d.returns

      state₁ : r ≡ entered (pushed given_up) n.level n.at n.start n.left
      state₁ = d.state ∙ ap (λ (x : State). entered (pushed x) n.level n.at n.start n.left) d.returns

      no_goals_lem : (g : List Goal) → goals_at w (n.start + n.left * 2) n.count ≡ g → [] ≡ g
      unfolding goals_at
      no_goals_lem g h = subst (λ (x : ℕ). goals_at w (n.start + n.left * 2) x ≡ g) none h

      last_parts : (table job : List ℕ) (b : ℕ) (t u : Term) (g₁ : List Goal) (k : List M.Frame) (c : List M.Choice) → Last table job (next_split b t u g₁ [] k) c
          → Parts table job w given_up n.level n.at n.right n.start n.left 0 t u g₁ [] k
      unfolding ChoiceIs goals_at
      last_parts table job b t u g₁ k c y = record {
        left_stands = y.is.left_stands;
        right_stands = y.is.right_stands;
        left_goals = y.is.left_goals;
        right_goals = record { low = y.is.right_goals.low; inside = omega (arith, y.is.right_goals.inside); few = omega arith; are = refl };
        few = omega (arith, y.is.few);
        low = y.is.waits.low;
        frames = y.is.waits.frames;
        space = omega (arith, y.is.waits.space, y.is.waits.earlier);
        fields = omega (arith, y.is.waits.fields, y.is.waits.earlier);
        outlined = y.is.waits.outlined;
      }

      last_does : (table job : List ℕ) (x : M.Choice) (c : List M.Choice) → Last table job x c → Shows table job v r (M.back (x ∷ c))
      unfolding ChoiceIs M.back M.split M.with_next Shows
      last_does table job (or_else b u g k) c y = absurd (other y.is.kind_is)
      last_does table job (next_split b t u g₁ g₂ k) c y =
          let e : [] ≡ g₂ = no_goals_lem g₂ y.is.right_goals.are in
          let y' : Last table job (next_split b t u g₁ [] k) c = subst (λ (g : List Goal). Last table job (next_split b t u g₁ g k) c) (sym e) y in
          subst (λ (g : List Goal). Shows table job v r (M.split b t u g₁ g k c)) e
          (entered_runs w given_up 0 (last_part room₀) v r written₁ state₁ table job b t u g₁ [] k c y.is.below_is (last_parts table job b t u g₁ k c y') y.rest (few_fields table job b t u g₁ g₂ k c y))

      pub last_split : Back v r
      last_split = (by_last v r z last_does, entered_stays w given_up 0 (last_part room₀) v r written₁ state₁ low refl (λ i a b. refl) refl)

    -- another one: the choice stays, with one goal more on the left
    module _ (some : n.count ≡ 0 → ⊥) (d : NextSplit w s v r) where
      abbrev v₂ : List ℕ
      v₂ = moved w s.choice

      written₂ : v ≡ put_node v₂ (s.choice + node_size) (tensor_node kept_on n.level n.right n.start n.left n.count)
      written₂ = d.written ∙ ap (λ (x : State). put_node v₂ x.arena (tensor_node x n.level n.right n.start n.left n.count)) d.returns

      state₂ : r ≡ entered (pushed kept_on) n.level n.at n.start n.left
      state₂ = d.state ∙ ap (λ (x : State). entered (pushed x) n.level n.at n.start n.left) d.returns

      module _ (table job : List ℕ) (b : ℕ) (t u : Term) (g₁ g₂ : List Goal) (k : List M.Frame) (c : List M.Choice) (y : Last table job (next_split b t u g₁ g₂ k) c) where
        kept : Keeps n.mark s.choice w v₂
        kept = moved_keeps w s.choice inside n.mark low (few_fields table job b t u g₁ g₂ k c y)

        next_parts : Parts table job v₂ kept_on n.level n.at n.right n.start n.left n.count t u g₁ g₂ k
        unfolding ChoiceIs
        next_parts = record {
          left_stands = y.is.left_stands;
          right_stands = y.is.right_stands;
          left_goals = goals_kept_lem w v₂ s.choice (s.choice + node_size) n.start n.left g₁ kept.below (omega arith) y.is.left_goals;
          right_goals = goals_kept_lem w v₂ s.choice (s.choice + node_size) (n.start + n.left * 2) n.count g₂ kept.below (omega arith) y.is.right_goals;
          few = y.is.few;
          low = omega (arith, y.is.waits.low);
          frames = frames_kept w v₂ table job k s.choice (s.choice + node_size) n.link kept.below (omega arith) y.is.waits.frames;
          space = omega (arith, y.is.waits.space, y.is.waits.earlier);
          fields = omega (arith, y.is.waits.fields, y.is.waits.earlier);
          outlined = outline_kept w v₂ n.mark (waiting_outline k ++ field 20 0) kept.outlined kept.same_length kept.long y.is.waits.outlined;
        }

        -- the choice behind it
        module _ (m : Moved w s.choice n.start n.left n.count g₁ g₂) where
          abbrev after : M.Choice
          after = next_split b t u (g₁ ++ (m.first ∷ [])) m.others k

          after_is : ChoiceIs table job v₂ s.steps s.choice (further w s.choice inside) after
          unfolding ChoiceIs
          after_is = record {
            kind_is = y.is.kind_is;
            below_is = y.is.below_is;
            left_stands = y.is.left_stands;
            right_stands = y.is.right_stands;
            left_goals = goals_kept_lem w v₂ s.choice s.choice n.start (n.left + 1) (g₁ ++ (m.first ∷ [])) kept.below (omega arith) m.left_goals;
            right_goals = goals_kept_lem w v₂ s.choice s.choice (n.start + (n.left + 1) * 2) (n.count - 1) m.others kept.below (omega arith) m.right_goals;
            few = omega (arith, y.is.few, some);
            at_small = y.is.at_small;
            right_small = y.is.right_small;
            waits = besides-kept w v₂ table job k s.steps s.steps s.choice n.mark n.link kept (omega arith) y.is.waits;
          }

          after_choices : ChoicesAt table job v₂ s.steps (s.choice + node_size) n.mark (after ∷ c) s.choice
          unfolding ChoicesAt
          after_choices = let e = moved_node w s.choice inside in (
            record { low = low; inside = omega arith },
            subst (λ (x : Node). x.mark ≤ n.mark) (sym e) (omega arith),
            subst (λ (x : Node). ChoiceIs table job v₂ s.steps s.choice x after) (sym e) after_is,
            subst (λ (x : Node). ChoicesAt table job v₂ s.steps s.choice x.mark c x.other) (sym e)
                (choices_kept w v₂ table job c s.steps s.steps s.choice s.choice n.mark n.mark n.other kept (omega arith) (omega arith) (omega arith) y.rest),
          )

          next_runs : Runs table job v r b t g₁ (tensor_left b u g₂ ∷ k) (after ∷ c)
          unfolding ChoiceIs
          next_runs =
              entered_runs v₂ kept_on n.count (next_part room₀) v r written₂ state₂ table job b t u g₁ g₂ k (after ∷ c) y.is.below_is next_parts after_choices
              (few_fields table job b t u g₁ g₂ k c y)

      next_does : (table job : List ℕ) (x : M.Choice) (c : List M.Choice) → Last table job x c → Shows table job v r (M.back (x ∷ c))
      unfolding ChoiceIs M.back M.split M.with_next Shows
      next_does table job (or_else b u g k) c y = absurd (other y.is.kind_is)
      next_does table job (next_split b t u g₁ g₂ k) c y =
          let m = split-moved w s.choice n.start n.left g₁ g₂ n.count y.is.left_goals y.is.right_goals y.is.few some in
          let later : List M.Choice = next_split b t u (g₁ ++ (m.first ∷ [])) m.others k ∷ c in
          subst (λ (g : List Goal). Shows table job v r (M.split b t u g₁ g k c)) m.is
          (subst (λ (g : List Goal). Runs table job v r b t g₁ (tensor_left b u g ∷ k) later) (sym m.is) (next_runs table job b t u g₁ g₂ k c y m))

      pub next_split_lem : Back v r
      next_split_lem = (
        by_last v r z next_does,
        entered_stays v₂ kept_on n.count (next_part room₀) v r written₂ state₂ (omega (arith, low)) (moved_length w s.choice inside) (moved_index w s.choice inside low) refl,
      )

-- what the code makes of the node that it loaded
module _ (w : List ℕ) (s : State) (m : Node) (e : m ≡ node_at w s.choice) (o : State) where
  pub last_room : SplitRoom w s → o ≡ returned s m.link m.other s.choice m.mark → PartRoom w o m.at m.right m.start m.left 0
  last_room room a =
      subst (λ (x : State). PartRoom w x m.at m.right m.start m.left 0) (sym a)
      (subst (λ (x : Node). PartRoom w (returned s x.link x.other s.choice x.mark) x.at x.right x.start x.left 0) (sym e) (last_part w s room))

  pub last_made : (v : List ℕ) (r : State) → o ≡ returned s m.link m.other s.choice m.mark → v ≡ put_node w o.arena (tensor_node o m.level m.right m.start m.left 0)
      → r ≡ entered (pushed o) m.level m.at m.start m.left → LastSplit w s v r
  last_made v r a b d = record {
    between = o;
    returns = a ∙ ap (λ (x : Node). returned s x.link x.other s.choice x.mark) e;
    written = b ∙ ap (λ (x : Node). put_node w o.arena (tensor_node o x.level x.right x.start x.left 0)) e;
    state = d ∙ ap (λ (x : Node). entered (pushed o) x.level x.at x.start x.left) e;
  }

  module _ (v₁ v₂ : List ℕ) (e₁ : v₁ ≡ put_word w (s.choice + 6) (m.count - 1)) (e₂ : v₂ ≡ put_word v₁ (s.choice + 16) (m.left + 1))
      (a : o ≡ returned s m.link s.choice (s.choice + node_size) m.mark) where
    stored : v₂ ≡ moved w s.choice
    stored = e₂ ∙ ap (λ (x : List ℕ). put_word x (s.choice + 16) (m.left + 1)) e₁ ∙ ap (λ (x : Node). put_word (put_word w (s.choice + 6) (x.count - 1)) (s.choice + 16) (x.left + 1)) e

    pub next_room : SplitRoom w s → PartRoom v₂ o m.at m.right m.start m.left m.count
    next_room room =
        subst (λ (x : List ℕ). PartRoom x o m.at m.right m.start m.left m.count) (sym stored)
        (subst (λ (x : State). PartRoom (moved w s.choice) x m.at m.right m.start m.left m.count) (sym a)
        (subst (λ (x : Node). PartRoom (moved w s.choice) (returned s x.link s.choice (s.choice + node_size) x.mark) x.at x.right x.start x.left x.count) (sym e)
        (next_part w s room)))

    pub next_made : (v : List ℕ) (r : State) → v ≡ put_node v₂ o.arena (tensor_node o m.level m.right m.start m.left m.count)
        → r ≡ entered (pushed o) m.level m.at m.start m.left → NextSplit w s v r
    next_made v r b d = record {
      between = o;
      returns = a ∙ ap (λ (x : Node). returned s x.link s.choice (s.choice + node_size) x.mark) e;
      written = b ∙ ap (λ (x : List ℕ). put_node x o.arena (tensor_node o m.level m.right m.start m.left m.count)) stored
          ∙ ap (λ (x : Node). put_node (moved w s.choice) o.arena (tensor_node o x.level x.right x.start x.left x.count)) e;
      state = d ∙ ap (λ (x : Node). entered (pushed o) x.level x.at x.start x.left) e;
    }
