-- What lies below a place stays as it was when only bytes from there on are written, and the outline when only bytes behind it are; and all of it lies below every later place, and
-- holds after more steps. By induction over waiting terms and choices.
-- Assumes nothing.
use Prim.Native.Nat.{ℕ, ◌+◌, ◌*◌, ◌≤◌}
use mathlib.Core.Path.{◌≡◌, refl, sym, subst, ◌∙◌}
use mathlib.Core.List.{List, [], ◌∷◌}
use native.Mathlib.Omega.{arith}
use lib.ListN.{length}
use Rattle.format.specs.declared.values.Goal.{Goal}
use Rattle.tactics.specs.Memory.{Same}
use Rattle.tactics.proofs.MemoryLaws.{same_goals}
use Rattle.outline.proofs.FieldLaws.{take-kept}
use Rattle.search.specs.Machine as M
use Rattle.search.specs.Machine.{labelled, sequence_left, sequence_right, tensor_left, tensor_right, or_else, next_split}
use Rattle.search_machine.specs.declared.nodes.Node.{Node}
use Rattle.search_machine.specs.Layout.{arena_low}
use Rattle.search_machine.specs.Nodes.{node_at}
use Rattle.search_machine.specs.Outlines.{OutlineIs}
use Rattle.search_machine.specs.Shows.{GoalsIs, NodeBelow, FrameIs, FramesAt, Waits, Besides, ChoiceIs, ChoicesAt}
use Rattle.search_machine.proofs.NodeLaws.{node_kept}

-- the outline so far, and the arena below a place
pub record Keeps (outline top : ℕ) (w v : List ℕ) : Type 0 where
  pub outlined : Same 0 outline w v
  pub below : Same arena_low top w v
  pub long : outline ≤ length w
  pub same_length : length v ≡ length w

pub nothing_written : (outline top : ℕ) (w : List ℕ) → outline ≤ length w → Keeps outline top w w
nothing_written outline top w l = record { outlined = λ i a b. refl; below = λ i a b. refl; long = l; same_length = refl }

module _ (w v : List ℕ) where
  pub same_less : (low top less : ℕ) → Same low top w v → less ≤ top → Same low less w v
  same_less low top less h l = λ i a b. h i a (omega arith)

  pub keeps_less : (outline top outline' top' : ℕ) → Keeps outline top w v → outline' ≤ outline → top' ≤ top → Keeps outline' top' w v
  keeps_less outline top outline' top' h a b = record {
    outlined = same_less 0 outline outline' h.outlined a;
    below = same_less arena_low top top' h.below b;
    long = omega (arith, a, h.long);
    same_length = h.same_length;
  }

  pub goals_kept_lem : (top top' start count : ℕ) (g : List Goal) → Same arena_low top w v → top ≤ top' → GoalsIs w top start count g → GoalsIs v top' start count g
  goals_kept_lem top top' start count g h l o = record {
    low = o.low;
    inside = omega (arith, l, o.inside);
    few = o.few;
    are = same_goals w v count start (λ i a b. h i (omega (arith, a, o.low)) (omega (arith, b, o.inside))) ∙ o.are;
  }

  pub outline_kept : (n : ℕ) (o : List ℕ) → Same 0 n w v → length v ≡ length w → n ≤ length w → OutlineIs w n o → OutlineIs v n o
  outline_kept n o h l m x = record { is = take-kept w v n h l m ∙ x.is; long = x.long }

  node_below_kept : (top top' at : ℕ) → top ≤ top' → NodeBelow top at → NodeBelow top' at
  node_below_kept top top' at l b = record { low = b.low; inside = omega (arith, l, b.inside) }

  node_same_below : (top at : ℕ) → Same arena_low top w v → NodeBelow top at → node_at v at ≡ node_at w at
  node_same_below top at h b = node_kept w v arena_low top at h b.low b.inside

  module _ (table job : List ℕ) where
    pub frame_kept : (x : M.Frame) (top top' : ℕ) (n : Node) → Same arena_low top w v → top ≤ top' → FrameIs table job w top n x → FrameIs table job v top' n x
    unfolding FrameIs
    frame_kept (labelled l) top top' n h r f = f
    frame_kept (sequence_left b u) top top' n h r f = f
    frame_kept (sequence_right s) top top' n h r f = f
    frame_kept (tensor_left b u g) top top' n h r f = (f.0, f.1, f.2, goals_kept_lem top top' n.start n.count g h r f.3)
    frame_kept (tensor_right s g) top top' n h r f = (f.0, goals_kept_lem top top' n.start n.count g h r f.1)

    -- the terms behind one that waits to go on
    there_kept : (x : M.Frame) (top top' link : ℕ) → Same arena_low top w v → top ≤ top' → NodeBelow top link → FrameIs table job w link (node_at w link) x → FrameIs table job v link (node_at v link) x
    there_kept x top top' link h r b f =
        subst (λ (n : Node). FrameIs table job v link n x) (sym (node_same_below top link h b))
        (frame_kept x link link (node_at w link) (same_less arena_low top link h (omega (arith, b.inside))) (omega arith) f)

    pub frames_kept : (k : List M.Frame) (top top' link : ℕ) → Same arena_low top w v → top ≤ top' → FramesAt table job w top k link → FramesAt table job v top' k link
    unfolding FramesAt
    frames_kept [] top top' link h r f = f
    frames_kept (labelled l ∷ k) top top' link h r f = frames_kept k top top' link h r f
    frames_kept (sequence_right s ∷ k) top top' link h r f = frames_kept k top top' link h r f
    frames_kept (sequence_left b u ∷ k) top top' link h r f = (
      node_below_kept top top' link r f.0,
      there_kept (sequence_left b u) top top' link h r f.0 f.1,
      subst (λ (n : Node). FramesAt table job v link k n.link) (sym (node_same_below top link h f.0))
          (frames_kept k link link (node_at w link).link (same_less arena_low top link h (omega (arith, f.0.inside))) (omega arith) f.2),
    )
    frames_kept (tensor_left b u g ∷ k) top top' link h r f = (
      node_below_kept top top' link r f.0,
      there_kept (tensor_left b u g) top top' link h r f.0 f.1,
      subst (λ (n : Node). FramesAt table job v link k n.link) (sym (node_same_below top link h f.0))
          (frames_kept k link link (node_at w link).link (same_less arena_low top link h (omega (arith, f.0.inside))) (omega arith) f.2),
    )
    frames_kept (tensor_right s g ∷ k) top top' link h r f = (
      node_below_kept top top' link r f.0,
      there_kept (tensor_right s g) top top' link h r f.0 f.1,
      subst (λ (n : Node). FramesAt table job v link k n.link) (sym (node_same_below top link h f.0))
          (frames_kept k link link (node_at w link).link (same_less arena_low top link h (omega (arith, f.0.inside))) (omega arith) f.2),
    )

    pub waits_kept : (k : List M.Frame) (steps steps' top outline link : ℕ) → Keeps outline top w v → steps ≤ steps' → Waits table job w steps top outline k link → Waits table job v steps' top outline k link
    waits_kept k steps steps' top outline link h m x = record {
      low = x.low;
      before = x.before;
      earlier = omega (arith, m, x.earlier);
      fits = x.fits;
      frames = frames_kept k top top link h.below (omega arith) x.frames;
      outlined = outline_kept outline _ h.outlined h.same_length h.long x.outlined;
    }

    pub besides-kept : (k : List M.Frame) (steps steps' top outline link : ℕ) → Keeps outline top w v → steps ≤ steps' → Besides table job w steps top outline k link → Besides table job v steps' top outline k link
    besides-kept k steps steps' top outline link h m x = record {
      low = x.low;
      before = x.before;
      earlier = omega (arith, m, x.earlier);
      space = x.space;
      fields = x.fields;
      frames = frames_kept k top top link h.below (omega arith) x.frames;
      outlined = outline_kept outline _ h.outlined h.same_length h.long x.outlined;
    }

    pub choice_kept : (x : M.Choice) (steps steps' top : ℕ) (n : Node) → Keeps n.mark top w v → steps ≤ steps' → ChoiceIs table job w steps top n x → ChoiceIs table job v steps' top n x
    unfolding ChoiceIs
    choice_kept (or_else b u g k) steps steps' top n h m x = record {
      kind_is = x.kind_is;
      below_is = x.below_is;
      stands = x.stands;
      goals = goals_kept_lem top top n.start n.count g h.below (omega arith) x.goals;
      waits = waits_kept k steps steps' top n.mark n.link h m x.waits;
    }
    choice_kept (next_split b t u g₁ g₂ k) steps steps' top n h m x = record {
      kind_is = x.kind_is;
      below_is = x.below_is;
      left_stands = x.left_stands;
      right_stands = x.right_stands;
      left_goals = goals_kept_lem top top n.start n.left g₁ h.below (omega arith) x.left_goals;
      right_goals = goals_kept_lem top top (n.start + n.left * 2) n.count g₂ h.below (omega arith) x.right_goals;
      few = x.few;
      at_small = x.at_small;
      right_small = x.right_small;
      waits = besides-kept k steps steps' top n.mark n.link h m x.waits;
    }

    pub choices_kept : (c : List M.Choice) (steps steps' top top' outline outline' link : ℕ) → Keeps outline top w v → steps ≤ steps' → top ≤ top' → outline ≤ outline'
        → ChoicesAt table job w steps top outline c link → ChoicesAt table job v steps' top' outline' c link
    unfolding ChoicesAt
    choices_kept [] steps steps' top top' outline outline' link h m r o x = x
    choices_kept (y ∷ c) steps steps' top top' outline outline' link h m r o x =
        let q : node_at v link ≡ node_at w link = node_same_below top link h.below x.0 in
        let less : Keeps (node_at w link).mark link w v = keeps_less outline top (node_at w link).mark link h x.1 (omega (arith, x.0.inside)) in (
          node_below_kept top top' link r x.0,
          subst (λ (n : Node). n.mark ≤ outline') (sym q) (omega (arith, o, x.1)),
          subst (λ (n : Node). ChoiceIs table job v steps' link n y) (sym q) (choice_kept y steps steps' link (node_at w link) less m x.2),
          subst (λ (n : Node). ChoicesAt table job v steps' link n.mark c n.other) (sym q)
              (choices_kept c steps steps' link link (node_at w link).mark (node_at w link).mark (node_at w link).other less m (omega arith) (omega arith) x.3),
        )
