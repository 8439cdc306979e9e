-- A tensor begun: its field, the splits behind the first one as a choice if there are any, and its left term on no goal.
-- Assumes nothing.
use Prim.Native.Nat.{ℕ, zero, suc, ◌+◌, ◌*◌, ◌/◌, ◌%◌, ◌-◌, ◌≤◌, ◌<◌}
use mathlib.Core.Path.{◌≡◌, refl, sym, ap, subst, ◌∙◌}
use mathlib.Core.List.{List, [], ◌∷◌}
use native.Mathlib.Omega.{arith}
use lib.ListN.{length}
use Rattle.format.specs.declared.values.Goal.{Goal}
use Rattle.format.specs.Goals.{goals_at}
use Rattle.format.specs.Terms.{Term, tensor, size}
use Rattle.format.specs.Standing.{Stands}
use Rattle.tactics.specs.Numbers.{put_header}
use Rattle.tactics.specs.Source.{source}
use Rattle.search.specs.Machine as M
use Rattle.search.specs.Machine.{tensor_left, next_split, with_next}
use Rattle.search_machine.specs.declared.nodes.Node.{Node}
use Rattle.search_machine.specs.declared.state.State.{State}
use Rattle.search_machine.specs.Layout.{arena_low, node_size}
use Rattle.search_machine.specs.Nodes.{put_node}
use Rattle.search_machine.specs.Shows.{GoalsIs, ChoiceIs, ChoicesAt, Begun, Runs, Holds}
use Rattle.search_machine.specs.Moves.{noted, pushed, offered, entered, Place}
use Rattle.search_machine.specs.Begun.{splitting, Room, Stays, Does, tensor_next, tensor_node, split_node, Parts, PartRoom}
use Rattle.search_machine.proofs.KeepLaws.{Keeps, goals_kept_lem, outline_kept, frames_kept}
use Rattle.search_machine.proofs.MoveLaws.{put_keeps, put_index, push_choices, note_length, note_index}
use Rattle.search_machine.proofs.SplitLaws.{part_runs, Moved, split-moved}
use Rattle.search_machine.proofs.BeginLaws.{held, noted_goals, noted_frames, noted_outlined, noted_choices, in_same}

module _ (w : List ℕ) (s : State) (room : Room w s) (down : ℕ) (level-is : down + 2 ≡ s.level) (right : ℕ) (small : right < 65536) where
  abbrev at : ℕ
  at = s.at + 3

  abbrev w₁ : List ℕ
  w₁ = put_header w s.outline 20 0

  length₁ : length w₁ ≡ length w
  length₁ = note_length w s.outline 20 0 room.outline_fits room.space

  room₁ : s.arena + node_size ≤ length w₁
  room₁ = omega (arith, length₁, room.fits, room.space)

  -- what is held once the field is added
  parts₁ : (table job : List ℕ) (b : ℕ) (t u : Term) (g : List Goal) (k : List M.Frame) (c : List M.Choice) → right ≡ at + size t → Begun table job w s b (tensor t u) g k c
      → Parts table job w₁ (noted s) down at right s.start 0 s.count t u [] g k
  unfolding Stands goals_at
  parts₁ table job b t u g k c p h =
      let x = held table job w s b (tensor t u) g k c h in
      let goals = noted_goals table job w s g k c x 20 0 room.outline_fits room.space in
      let same : s.start ≡ s.start + 0 * 2 = omega arith in
      record {
        left_stands = in_same w s room down level-is table job at t h.stands.1;
        right_stands = subst (λ (z : ℕ). Stands (source table job (down % 2)) z u) (sym p) (in_same w s room down level-is table job (at + size t) u h.stands.2);
        left_goals = record { low = goals.low; inside = omega (arith, room.goals_below); few = omega arith; are = refl };
        right_goals = subst (λ (z : ℕ). GoalsIs w₁ s.arena z s.count g) same goals;
        few = omega (arith, room.few);
        low = room.low;
        frames = noted_frames table job w s g k c x 20 0 room.outline_fits room.space;
        space = omega (arith, h.waits.fits.space, h.waits.earlier);
        fields = x.fields;
        outlined = noted_outlined table job w s g k c x 20 0 room.outline_fits room.space;
      }

  choices₁ : (table job : List ℕ) (b : ℕ) (t u : Term) (g : List Goal) (k : List M.Frame) (c : List M.Choice) → Begun table job w s b (tensor t u) g k c
      → ChoicesAt table job w₁ s.steps s.arena (s.outline + 3) c s.choice
  choices₁ table job b t u g k c h = noted_choices table job w s g k c (held table job w s b (tensor t u) g k c h) 20 0 room.outline_fits room.space

  pub part_room : PartRoom w₁ (noted s) at right s.start 0 s.count
  part_room = record {
    fits = omega (arith, room.fits);
    space = omega (arith, length₁, room.space);
    link_below = room.link_below;
    goals_below = omega (arith, room.goals_below);
    few = omega (arith, room.few);
    at_small = room.at_small;
    right_small = small;
  }

  pub tensor_first : (o : State) (v₁ : List ℕ) → o ≡ noted s → length v₁ ≡ length w → PartRoom v₁ o at right s.start 0 0
  tensor_first o v₁ e l =
      subst (λ (x : State). PartRoom v₁ x at right s.start 0 0) (sym e)
      (record {
        fits = omega (arith, room.fits);
        space = omega (arith, l, room.space);
        link_below = room.link_below;
        goals_below = omega (arith, room.goals_below);
        few = omega arith;
        at_small = room.at_small;
        right_small = small;
      })

  pub split_place : (o : State) (v₁ : List ℕ) → o ≡ noted s → length v₁ ≡ length w → Place v₁ o (split_node o down at right s.start 1 (s.count - 1))
  split_place o v₁ e l =
      subst (λ (x : State). Place v₁ x (split_node x down at right s.start 1 (s.count - 1))) (sym e)
      (record {
        fits = omega (arith, room.fits);
        space = omega (arith, l, room.space);
        small = record {
          at_small = room.at_small;
          link_small = omega (arith, room.link_below, room.fits);
          start_small = omega (arith, room.goals_below, room.fits);
          count_small = omega (arith, room.few);
          left_small = omega arith;
          mark_small = omega (arith, room.outline_fits);
          right_small = small;
          other_small = omega (arith, room.choice_below, room.fits);
        };
      })

  abbrev Tensors : List ℕ → State → Type 0
  Tensors v r = ((t u : Term) → right ≡ at + size t → Does w s v r (tensor t u) (tensor_next down t u)) × Stays w s v r

  -- there is one split only
  module _ (none-there : s.count ≡ 0) where
    abbrev n₀ : Node
    n₀ = tensor_node (noted s) down right s.start 0 s.count

    abbrev w₀ : List ℕ
    w₀ = put_node w₁ s.arena n₀

    no_goals_lem : (n : ℕ) (g : List Goal) → n ≡ 0 → goals_at w s.start n ≡ g → [] ≡ g
    unfolding goals_at
    no_goals_lem zero g e q = q
    no_goals_lem (suc n) g e q = absurd (omega arith)

    one_does : Tensors w₀ (entered (pushed (noted s)) down at s.start 0)
    unfolding Holds with_next
    one_does = (
      λ t u p table job b g k c h.
          let none : [] ≡ g = no_goals_lem s.count g none-there h.goals.are in
          let runs = part_runs w₁ (noted s) down at right s.start 0 s.count part_room table job t u [] g k c (parts₁ table job b t u g k c p h) (choices₁ table job b t u g k c h) room.outline_fits in
          subst (λ (x : List Goal). Holds table job w₀ (entered (pushed (noted s)) down at s.start 0) (splitting (down / 2) t u [] x k c)) none
          (subst (λ (x : List Goal). Runs table job w₀ (entered (pushed (noted s)) down at s.start 0) (down / 2) t [] (tensor_left (down / 2) u x ∷ k) c) (sym none) runs),
      record {
        same_length = (put_keeps w₁ s.arena n₀ room.low room₁ 0 (omega arith)).same_length ∙ length₁;
        same_steps = refl;
        index_same = λ i a b. put_index w₁ s.arena n₀ room.low room₁ i a b ∙ note_index w s.outline 20 0 room.outline_fits room.space i a b;
      },
    )

    pub tensor_last : (o : State) (v₁ v : List ℕ) (r : State) → o ≡ noted s → v₁ ≡ w₁ → v ≡ put_node v₁ o.arena (tensor_node o down right s.start 0 0) → r ≡ entered (pushed o) down at s.start 0 → Tensors v r
    tensor_last o v₁ v r q₀ q₁ q q₂ =
        let made : v ≡ w₀ =
        q ∙ ap (λ (x : State). put_node v₁ x.arena (tensor_node x down right s.start 0 0)) q₀ ∙ ap (λ (x : List ℕ). put_node x s.arena (tensor_node (noted s) down right s.start 0 0)) q₁
        ∙ ap (λ (x : ℕ). put_node w₁ s.arena (tensor_node (noted s) down right s.start 0 x)) (sym none-there) in
        subst (λ (x : List ℕ). Tensors x r) (sym made) (subst (λ (x : State). Tensors w₀ x) (sym (q₂ ∙ ap (λ (x : State). entered (pushed x) down at s.start 0) q₀)) one_does)

  -- there are more
  module _ (some-there : s.count ≡ 0 → ⊥) where
    abbrev n₂ : Node
    n₂ = split_node (noted s) down at right s.start 1 (s.count - 1)

    abbrev w₂ : List ℕ
    w₂ = put_node w₁ s.arena n₂

    keeps₂ : Keeps (s.outline + 3) s.arena w₁ w₂
    keeps₂ = put_keeps w₁ s.arena n₂ room.low room₁ (s.outline + 3) room.outline_fits

    abbrev n₃ : Node
    n₃ = tensor_node (offered (noted s)) down right s.start 0 s.count

    abbrev w₃ : List ℕ
    w₃ = put_node w₂ (s.arena + node_size) n₃

    low₃ : arena_low ≤ s.arena + node_size
    low₃ = omega (arith, room.low)

    room₃ : s.arena + node_size + node_size ≤ length w₂
    room₃ = omega (arith, keeps₂.same_length, length₁, room.fits, room.space)

    pub part_room₂ : PartRoom w₂ (offered (noted s)) at right s.start 0 s.count
    part_room₂ = record {
      fits = omega (arith, room.fits);
      space = omega (arith, keeps₂.same_length, length₁, room.space);
      link_below = omega (arith, room.link_below);
      goals_below = omega (arith, room.goals_below);
      few = omega (arith, room.few);
      at_small = room.at_small;
      right_small = small;
    }

    -- the same, above the choice
    parts₂ : (table job : List ℕ) (b : ℕ) (t u : Term) (g : List Goal) (k : List M.Frame) (c : List M.Choice) → right ≡ at + size t → Begun table job w s b (tensor t u) g k c
        → Parts table job w₂ (offered (noted s)) down at right s.start 0 s.count t u [] g k
    parts₂ table job b t u g k c p h =
        let x = parts₁ table job b t u g k c p h in
        record {
          left_stands = x.left_stands;
          right_stands = x.right_stands;
          left_goals = goals_kept_lem w₁ w₂ s.arena (s.arena + node_size) s.start 0 [] keeps₂.below (omega arith) x.left_goals;
          right_goals = goals_kept_lem w₁ w₂ s.arena (s.arena + node_size) (s.start + 0 * 2) s.count g keeps₂.below (omega arith) x.right_goals;
          few = x.few;
          low = low₃;
          frames = frames_kept w₁ w₂ table job k s.arena (s.arena + node_size) s.link keeps₂.below (omega arith) x.frames;
          space = omega (arith, h.waits.fits.space, h.waits.earlier);
          fields = x.fields;
          outlined = outline_kept w₁ w₂ (s.outline + 3) _ keeps₂.outlined keeps₂.same_length keeps₂.long x.outlined;
        }

    -- the splits behind the first
    choices₂ : (table job : List ℕ) (b : ℕ) (t u : Term) (g : List Goal) (k : List M.Frame) (c : List M.Choice) → right ≡ at + size t → Begun table job w s b (tensor t u) g k c
        → (m : Moved w₁ s.arena s.start 0 s.count [] g)
        → ChoicesAt table job w₂ s.steps (s.arena + node_size) (s.outline + 3) (next_split (down / 2) t u (m.first ∷ []) m.others k ∷ c) s.arena
    unfolding ChoiceIs
    choices₂ table job b t u g k c p h m =
        let x = parts₁ table job b t u g k c p h in
        push_choices w₁ s.arena n₂ room.low room₁ table job (next_split (down / 2) t u (m.first ∷ []) m.others k) c s.steps (s.outline + 3) (omega arith) room.outline_fits
        (choices₁ table job b t u g k c h)
        (record {
          kind_is = refl;
          below_is = refl;
          left_stands = x.left_stands;
          right_stands = x.right_stands;
          left_goals = goals_kept_lem w₁ w₂ s.arena s.arena s.start 1 (m.first ∷ []) keeps₂.below (omega arith) m.left_goals;
          right_goals = goals_kept_lem w₁ w₂ s.arena s.arena (s.start + 1 * 2) (s.count - 1) m.others keeps₂.below (omega arith) m.right_goals;
          few = omega (arith, room.few, some-there);
          at_small = room.at_small;
          right_small = small;
          waits = record {
            low = room.low;
            before = h.waits.before;
            earlier = h.waits.earlier;
            space = h.waits.fits.space;
            fields = omega (arith, h.waits.fits.fields);
            frames = frames_kept w₁ w₂ table job k s.arena s.arena s.link keeps₂.below (omega arith) x.frames;
            outlined = outline_kept w₁ w₂ (s.outline + 3) _ keeps₂.outlined keeps₂.same_length keeps₂.long x.outlined;
          };
        })

    more_does : Tensors w₃ (entered (pushed (offered (noted s))) down at s.start 0)
    unfolding Holds with_next
    more_does = (
      λ t u p table job b g k c h.
          let x = parts₁ table job b t u g k c p h in
          let m = split-moved w₁ s.arena s.start 0 [] g s.count x.left_goals x.right_goals x.few some-there in
          let runs = part_runs w₂ (offered (noted s)) down at right s.start 0 s.count part_room₂ table job t u [] g k (next_split (down / 2) t u (m.first ∷ []) m.others k ∷ c)
          (parts₂ table job b t u g k c p h) (choices₂ table job b t u g k c p h m) room.outline_fits in
          subst (λ (y : List Goal). Holds table job w₃ (entered (pushed (offered (noted s))) down at s.start 0) (splitting (down / 2) t u [] y k c)) m.is
          (subst (λ (y : List Goal). Runs table job w₃ (entered (pushed (offered (noted s))) down at s.start 0) (down / 2) t [] (tensor_left (down / 2) u y ∷ k) (next_split (down / 2) t u (m.first ∷ []) m.others k ∷ c)) (sym m.is) runs),
      record {
        same_length = (put_keeps w₂ (s.arena + node_size) n₃ low₃ room₃ 0 (omega arith)).same_length ∙ keeps₂.same_length ∙ length₁;
        same_steps = refl;
        index_same = λ i a b. put_index w₂ (s.arena + node_size) n₃ low₃ room₃ i a b ∙ put_index w₁ s.arena n₂ room.low room₁ i a b ∙ note_index w s.outline 20 0 room.outline_fits room.space i a b;
      },
    )

    -- by the states in between
    pub tensor_more : (o q : State) (v₁ v₂ v : List ℕ) (r : State) → o ≡ noted s → v₁ ≡ w₁ → v₂ ≡ put_node v₁ o.arena (split_node o down at right s.start 1 (s.count - 1)) → q ≡ offered o
        → v ≡ put_node v₂ q.arena (tensor_node q down right s.start 0 s.count) → r ≡ entered (pushed q) down at s.start 0 → Tensors v r
    tensor_more o q v₁ v₂ v r e₀ e₁ e₂ e₃ e₄ e₅ =
        let state : q ≡ offered (noted s) = e₃ ∙ ap (λ (x : State). offered x) e₀ in
        let second : v₂ ≡ w₂ = e₂ ∙ ap (λ (x : State). put_node v₁ x.arena (split_node x down at right s.start 1 (s.count - 1))) e₀ ∙ ap (λ (x : List ℕ). put_node x s.arena n₂) e₁ in
        let made : v ≡ w₃ = e₄ ∙ ap (λ (x : State). put_node v₂ x.arena (tensor_node x down right s.start 0 s.count)) state ∙ ap (λ (x : List ℕ). put_node x (s.arena + node_size) n₃) second in
        subst (λ (x : List ℕ). Tensors x r) (sym made) (subst (λ (x : State). Tensors w₃ x) (sym (e₅ ∙ ap (λ (x : State). entered (pushed x) down at s.start 0) state)) more_does)

    pub tensor_part : (o q : State) (v₁ v₂ : List ℕ) → o ≡ noted s → v₁ ≡ w₁ → v₂ ≡ put_node v₁ o.arena (split_node o down at right s.start 1 (s.count - 1)) → q ≡ offered o
        → PartRoom v₂ q at right s.start 0 s.count
    tensor_part o q v₁ v₂ e₀ e₁ e₂ e₃ =
        let state : q ≡ offered (noted s) = e₃ ∙ ap (λ (x : State). offered x) e₀ in
        let second : v₂ ≡ w₂ = e₂ ∙ ap (λ (x : State). put_node v₁ x.arena (split_node x down at right s.start 1 (s.count - 1))) e₀ ∙ ap (λ (x : List ℕ). put_node x s.arena n₂) e₁ in
        subst (λ (x : State). PartRoom v₂ x at right s.start 0 s.count) (sym state) (subst (λ (x : List ℕ). PartRoom x (offered (noted s)) at right s.start 0 s.count) (sym second) part_room₂)
