-- A waiting term taken off: a law for each kind of node; and what the code is given there.
-- Assumes nothing.
use Prim.Native.Nat.{ℕ, ◌+◌, ◌*◌, ◌≤◌, ◌<◌}
use mathlib.Core.Path.{◌≡◌, refl, sym, ap, ap₂, subst, ◌∙◌}
use mathlib.Core.Bool.{Bool, true, false, cond}
use mathlib.Core.List.{List, [], ◌∷◌, ◌++◌, append_assoc}
use native.Mathlib.Omega.{arith}
use lib.ListN.{length, length-append}
use borrow.Author.Tests.{le-leb, lt-leb}
use Rattle.format.specs.declared.values.Goal.{Goal}
use Rattle.format.specs.Terms.{Term, tensor}
use Rattle.format.proofs.GoalsLaws.{length-goals_at}
use Rattle.tactics.specs.Memory.{Same}
use Rattle.evaluation.specs.Outcomes.{joined_fits}
use Rattle.outline.specs.Layout.{outline_end}
use Rattle.outline.specs.Outline.{outline_of}
use Rattle.search.specs.Machine as M
use Rattle.search.specs.Machine.{labelled, sequence_left, sequence_right, tensor_left, tensor_right}
use Rattle.search_machine.specs.declared.nodes.Node.{Node}
use Rattle.search_machine.specs.declared.state.State.{State}
use Rattle.search_machine.specs.Layout.{arena_low, node_size, step_room, arena_end}
use Rattle.search_machine.specs.Nodes.{node_at, put_node}
use Rattle.search_machine.specs.Outlines.{field, frame_outline, waiting_outline, OutlineIs}
use Rattle.search_machine.specs.Shows.{GoalsIs, NodeBelow, FrameIs, FramesAt, set_aside, Gave, gave, lost, Holds}
use Rattle.search_machine.specs.Moves.{failed, linked, pushed, entered, holding}
use Rattle.search_machine.specs.Begun.{Stays}
use Rattle.search_machine.specs.Popping.{Active, pop, PopRoom, tensor_right_node, Joins, Waiting, Popped, Smaller}
use Rattle.search_machine.proofs.KeepLaws.{Keeps, same_less, goals_kept_lem, outline_kept, frames_kept, choices_kept}
use Rattle.search_machine.proofs.MoveLaws.{put_keeps, put_index, push_frames}

-- the fields of the innermost term that waits, and those behind them, taken as one part
pub regrouped : (w : List ℕ) (n : ℕ) (x : M.Frame) (k : List M.Frame) (p : Term) (o : List ℕ) → frame_outline x ++ outline_of p ≡ o
    → OutlineIs w n (waiting_outline (x ∷ k) ++ outline_of p) → OutlineIs w n (waiting_outline k ++ o)
unfolding waiting_outline
regrouped w n x k p o e h =
    subst (λ (y : List ℕ). OutlineIs w n y) (append_assoc (waiting_outline k) (frame_outline x) (outline_of p) ∙ ap (λ (y : List ℕ). waiting_outline k ++ y) e) h

-- a tensor's two terms are finished
tensor_outline : (q p : Term) → field 20 0 ++ outline_of q ++ outline_of p ≡ outline_of (tensor q p)
unfolding outline_of
tensor_outline q p = append_assoc (field 20 0) (outline_of q) (outline_of p)

-- what waits behind a node lies before it
pub link_lower : (table job w : List ℕ) (k : List M.Frame) (top link : ℕ) → 0 < top → FramesAt table job w top k link → link < top
unfolding FramesAt
link_lower table job w [] top link z f = omega (arith, z, f)
link_lower table job w (labelled l ∷ k) top link z f = link_lower table job w k top link z f
link_lower table job w (sequence_left b u ∷ k) top link z f = omega (arith, f.0.inside)
link_lower table job w (sequence_right s ∷ k) top link z f = link_lower table job w k top link z f
link_lower table job w (tensor_left b u h ∷ k) top link z f = omega (arith, f.0.inside)
link_lower table job w (tensor_right s g ∷ k) top link z f = omega (arith, f.0.inside)

module _ (table job w : List ℕ) where
  -- a term that waits to go on, at its node
  record Here (top link : ℕ) (x : M.Frame) (k : List M.Frame) : Type 0 where
    pub node : NodeBelow top link
    pub is : FrameIs table job w link (node_at w link) x
    pub behind : FramesAt table job w link k (node_at w link).link

  here : (top link : ℕ) (x : M.Frame) (k : List M.Frame) → Active x → FramesAt table job w top (x ∷ k) link → Here top link x k
  unfolding FramesAt
  here top link (labelled l) k a f = absurd a
  here top link (sequence_left b u) k a f = record { node = f.0; is = f.1; behind = f.2 }
  here top link (sequence_right s) k a f = absurd a
  here top link (tensor_left b u h) k a f = record { node = f.0; is = f.1; behind = f.2 }
  here top link (tensor_right s g) k a f = record { node = f.0; is = f.1; behind = f.2 }

  here_lower : (top link : ℕ) (x : M.Frame) (k : List M.Frame) → Here top link x k → (node_at w link).link < link
  here_lower top link x k y = link_lower table job w k link (node_at w link).link (omega (arith, y.node.low)) y.behind

module _ (w : List ℕ) (s : State) (q : Waiting w s) where
  abbrev f : Node
  f = node_at w s.link

  first : Here q.table q.job w s.arena s.link q.frame q.frames
  first = here q.table q.job w s.arena s.link q.frame q.frames q.active q.gave.frames

  lower : f.link < s.link
  lower = here_lower q.table q.job w s.arena s.link q.frame q.frames first

  few_fields : s.outline ≤ outline_end
  few_fields = omega (arith, q.few_steps, q.gave.fits.fields)

  pub wait_room : PopRoom w s
  wait_room = record {
    fits = omega (arith, q.few_steps, q.gave.fits.space);
    space = omega (arith, q.space);
    low = q.gave.low;
    node_below = first.node.inside;
    goals_below = q.gave.goals.inside;
    few = q.gave.goals.few;
    link_below = omega (arith, lower, first.node.inside);
  }

  -- the node of the term that waits lies in the work space
  pub wait_node : s.link + node_size ≤ length w
  wait_node = omega (arith, wait_room.node_below, wait_room.fits, wait_room.space)

  tensor_left_go : f.kind ≡ 2 → (x : M.Frame) (k : List M.Frame) → FrameIs q.table q.job w s.link f x → s.arena + set_aside (x ∷ k) ≤ arena_low + 512 + step_room * s.steps
      → s.arena + node_size ≤ arena_end
  unfolding FrameIs set_aside
  tensor_left_go z (labelled l) k i h = absurd i
  tensor_left_go z (sequence_left b u) k i h = absurd (omega (arith, z, i.0))
  tensor_left_go z (sequence_right r) k i h = absurd i
  tensor_left_go z (tensor_left b u g) k i h = omega (arith, h, q.few_steps)
  tensor_left_go z (tensor_right r g) k i h = absurd (omega (arith, z, i.0))

  pub tensor_left_room : f.kind ≡ 2 → s.arena + node_size ≤ arena_end
  tensor_left_room z = tensor_left_go z q.frame q.frames first.is q.gave.fits.space

  -- what a tensor keeps while its right term is run
  pub record Beside : Type 0 where
    pub goals_inside : f.start + f.count * 2 ≤ s.arena
    pub goals_few : f.count ≤ 256
    pub arena_fits : s.arena + 512 ≤ arena_end

  tensor_right_go : (f.kind ≡ 1 → ⊥) → (f.kind ≡ 2 → ⊥) → (x : M.Frame) (k : List M.Frame) → FrameIs q.table q.job w s.link f x
      → s.arena + set_aside (x ∷ k) ≤ arena_low + 512 + step_room * s.steps → Beside
  unfolding FrameIs set_aside
  tensor_right_go a b (labelled l) k i h = absurd i
  tensor_right_go a b (sequence_left y u) k i h = absurd (a i.0)
  tensor_right_go a b (sequence_right r) k i h = absurd i
  tensor_right_go a b (tensor_left y u g) k i h = absurd (b i.0)
  tensor_right_go a b (tensor_right r g) k i h = record {
    goals_inside = omega (arith, i.1.inside, first.node.inside);
    goals_few = i.1.few;
    arena_fits = omega (arith, h, q.few_steps);
  }

  pub tensor_right_room : (f.kind ≡ 1 → ⊥) → (f.kind ≡ 2 → ⊥) → Beside
  tensor_right_room a b = tensor_right_go a b q.frame q.frames first.is q.gave.fits.space

  abbrev All : List ℕ → State → Type 0
  All v r = Popped w s v r × (Stays w s v r × Smaller s r)

  -- a sequence's left term ended: only what is next changes
  abbrev turned : State
  turned = entered (linked s f.link) f.level f.at s.start s.count

  sequence_left_does : (table job : List ℕ) (p : Term) (g : List Goal) (x : M.Frame) (k : List M.Frame) (c : List M.Choice) → f.kind ≡ 1 → Here table job w s.arena s.link x k
      → Gave table job w s p g (x ∷ k) c → Holds table job w turned (pop p g x k c)
  unfolding Holds pop FrameIs FramesAt set_aside waiting_outline
  sequence_left_does table job p g (labelled l) k c z y h = absurd y.is
  sequence_left_does table job p g (sequence_left b u) k c z y h = record {
    mode_is = refl;
    low = h.low;
    below_is = y.is.1;
    stands = y.is.2;
    goals = h.goals;
    frames = frames_kept w w table job k s.link s.arena f.link (λ i a b. refl) (omega (arith, y.node.inside)) y.behind;
    outlined = regrouped w s.outline (sequence_left b u) k p (field 19 0 ++ outline_of p) refl h.outlined;
    choices = h.choices;
    fits = record { space = omega (arith, h.fits.space); fields = h.fits.fields };
  }
  sequence_left_does table job p g (sequence_right r) k c z y h = absurd y.is
  sequence_left_does table job p g (tensor_left b u m) k c z y h = absurd (omega (arith, z, y.is.0))
  sequence_left_does table job p g (tensor_right r m) k c z y h = absurd (omega (arith, z, y.is.0))

  pub pop_sequence_left : f.kind ≡ 1 → (r : State) → r ≡ turned → All w r
  pop_sequence_left z r e = subst (λ (x : State). All w x) (sym e) (
    λ table job p g x k c a h. sequence_left_does table job p g x k c z (here table job w s.arena s.link x k a h.frames) h,
    (record { same_length = refl; same_steps = refl; index_same = λ i a b. refl }, λ m. absurd (cc m)),
  )

  -- a tensor's left term ended: its goals are kept in a node
  module _ (z : f.kind ≡ 2) where
    abbrev beside : Node
    beside = tensor_right_node s f.link

    abbrev put : List ℕ
    put = put_node w s.arena beside

    abbrev begun : State
    begun = entered (pushed s) f.level f.at f.start f.count

    node_room : s.arena + node_size ≤ length w
    node_room = omega (arith, tensor_left_room z, wait_room.space)

    kept : Keeps s.outline s.arena w put
    kept = put_keeps w s.arena beside wait_room.low node_room s.outline few_fields

    tensor_left_does : (table job : List ℕ) (p : Term) (g : List Goal) (x : M.Frame) (k : List M.Frame) (c : List M.Choice) → Here table job w s.arena s.link x k
        → Gave table job w s p g (x ∷ k) c → Holds table job put begun (pop p g x k c)
    unfolding Holds pop FrameIs set_aside waiting_outline
    tensor_left_does table job p g (labelled l) k c y h = absurd y.is
    tensor_left_does table job p g (sequence_left b u) k c y h = absurd (omega (arith, z, y.is.0))
    tensor_left_does table job p g (sequence_right r) k c y h = absurd y.is
    tensor_left_does table job p g (tensor_left b u m) k c y h =
        let o : List ℕ = field 20 0 ++ outline_of p in
        record {
          mode_is = refl;
          low = omega (arith, h.low);
          below_is = y.is.1;
          stands = y.is.2;
          goals = goals_kept_lem w put s.link (s.arena + node_size) f.start f.count m (same_less w put arena_low s.arena s.link kept.below (omega (arith, y.node.inside))) (omega (arith, y.node.inside)) y.is.3;
          frames = push_frames w s.arena beside h.low node_room table job (tensor_right p g) k tt
              (frames_kept w w table job k s.link s.arena f.link (λ i a b. refl) (omega (arith, y.node.inside)) y.behind)
              (refl, goals_kept_lem w put s.arena s.arena s.start s.count g kept.below (omega arith) h.goals);
          outlined = outline_kept w put s.outline (waiting_outline k ++ o) kept.outlined kept.same_length kept.long (regrouped w s.outline (tensor_left b u m) k p o refl h.outlined);
          choices = choices_kept w put table job c s.steps s.steps s.arena (s.arena + node_size) s.outline s.outline s.choice kept (omega arith) (omega arith) (omega arith) h.choices;
          fits = record { space = omega (arith, h.fits.space); fields = h.fits.fields };
        }
    tensor_left_does table job p g (tensor_right r m) k c y h = absurd (omega (arith, z, y.is.0))

    pub pop_tensor_left : (v : List ℕ) (r : State) → v ≡ put → r ≡ begun → All v r
    pop_tensor_left v r e₁ e₂ =
        subst (λ (x : State). All v x) (sym e₂)
        (subst (λ (x : List ℕ). All x begun) (sym e₁) (
          λ table job p g x k c a h. tensor_left_does table job p g x k c (here table job w s.arena s.link x k a h.frames) h,
          (record { same_length = kept.same_length; same_steps = refl; index_same = put_index w s.arena beside wait_room.low node_room }, λ m. absurd (cc m)),
        ))

  -- a tensor's right term ended
  module _ (n₁ : f.kind ≡ 1 → ⊥) (n₂ : f.kind ≡ 2 → ⊥) where
    -- as many goals as the two lists have
    joined_length : (top top' : ℕ) (m g : List Goal) → GoalsIs w top f.start f.count m → GoalsIs w top' s.start s.count g → length (m ++ g) ≡ f.count + s.count
    joined_length top top' m g a b =
        length-append m g ∙ ap₂ (λ (x y : ℕ). x + y) (sym (ap length a.are) ∙ length-goals_at f.count w f.start) (sym (ap length b.are) ∙ length-goals_at s.count w s.start)

    over_does : (table job : List ℕ) (p : Term) (g : List Goal) (x : M.Frame) (k : List M.Frame) (c : List M.Choice) → 256 < f.count + s.count → Here table job w s.arena s.link x k
        → Gave table job w s p g (x ∷ k) c → Holds table job w (failed s) (pop p g x k c)
    unfolding Holds pop FrameIs
    over_does table job p g (labelled l) k c z y h = absurd y.is
    over_does table job p g (sequence_left b u) k c z y h = absurd (n₁ y.is.0)
    over_does table job p g (sequence_right r) k c z y h = absurd y.is
    over_does table job p g (tensor_left b u m) k c z y h = absurd (n₂ y.is.0)
    over_does table job p g (tensor_right r m) k c z y h =
        let long : joined_fits (m ++ g) ≡ false = lt-leb (length (m ++ g)) 256 (omega (arith, z, joined_length s.link s.arena m g y.is.1 h.goals)) in
        subst (λ (b : Bool). Holds table job w (failed s) (cond b (gave (tensor r p) (m ++ g) k c) (lost c))) (sym long) (record { mode_is = refl; choices = h.choices })

    pub pop_over : (r : State) → 256 < f.count + s.count → r ≡ failed s → All w r
    pop_over r z e = subst (λ (x : State). All w x) (sym e) (
      λ table job p g x k c a h. over_does table job p g x k c z (here table job w s.arena s.link x k a h.frames) h,
      (record { same_length = refl; same_steps = refl; index_same = λ i a b. refl }, λ m. absurd (cc m)),
    )

    -- the two lists are joined
    module _ (few : f.count + s.count ≤ 256) (v : List ℕ) (r : State) (j : Joins w s f v r) where
      abbrev top : ℕ
      top = s.arena + (f.count + s.count) * 2

      abbrev joined : State
      joined = holding (linked s f.link) s.arena (f.count + s.count) top

      same_below : Same 0 s.arena w v
      same_below = λ i a b. j.gathered.only.kept.below i b

      joined_keeps : Keeps s.outline s.arena w v
      joined_keeps = record {
        outlined = λ i a b. same_below i a (omega (arith, b, few_fields, wait_room.low));
        below = λ i a b. same_below i (omega arith) b;
        long = omega (arith, few_fields, wait_room.low, wait_room.fits, wait_room.space);
        same_length = j.gathered.only.same_length;
      }

      join_does : (table job : List ℕ) (p : Term) (g : List Goal) (x : M.Frame) (k : List M.Frame) (c : List M.Choice) → Here table job w s.arena s.link x k
          → Gave table job w s p g (x ∷ k) c → Holds table job v joined (pop p g x k c)
      unfolding Holds pop FrameIs set_aside
      join_does table job p g (labelled l) k c y h = absurd y.is
      join_does table job p g (sequence_left b u) k c y h = absurd (n₁ y.is.0)
      join_does table job p g (sequence_right m) k c y h = absurd y.is
      join_does table job p g (tensor_left b u m) k c y h = absurd (n₂ y.is.0)
      join_does table job p g (tensor_right q' m) k c y h =
          let fits : joined_fits (m ++ g) ≡ true = le-leb (length (m ++ g)) 256 (omega (arith, few, joined_length s.link s.arena m g y.is.1 h.goals)) in
          let n = joined_keeps in
          let o : List ℕ = waiting_outline k ++ outline_of (tensor q' p) in
          subst (λ (b : Bool). Holds table job v joined (cond b (gave (tensor q' p) (m ++ g) k c) (lost c))) (sym fits) (record {
            mode_is = h.mode_is;
            low = omega (arith, h.low);
            goals = record { low = h.low; inside = omega arith; few = few; are = j.gathered.goals ∙ ap₂ (λ (u o : List Goal). u ++ o) y.is.1.are h.goals.are };
            frames = frames_kept w v table job k s.link top f.link (same_less w v arena_low s.arena s.link n.below (omega (arith, y.node.inside))) (omega (arith, y.node.inside)) y.behind;
            outlined = outline_kept w v s.outline o n.outlined n.same_length n.long (regrouped w s.outline (tensor_right q' m) k p (outline_of (tensor q' p)) (tensor_outline q' p) h.outlined);
            choices = choices_kept w v table job c s.steps s.steps s.arena top s.outline s.outline s.choice n (omega arith) (omega arith) (omega arith) h.choices;
            fits = record { space = omega (arith, few, h.fits.space); fields = h.fits.fields };
          })

      pub pop_join : All v r
      pop_join = subst (λ (x : State). All v x) (sym j.state) (
        λ table job p g x k c a h. join_does table job p g x k c (here table job w s.arena s.link x k a h.frames) h,
        (record { same_length = joined_keeps.same_length; same_steps = refl; index_same = λ i a b. same_below i (omega arith) (omega (arith, b, wait_room.low)) }, λ m. lower),
      )
