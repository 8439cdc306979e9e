-- One node written at the top of the arena: a waiting term laid on the others, a choice on the others. One field added to the outline.
-- Assumes nothing.
use Prim.Native.Nat.{ℕ, ◌+◌, ◌≤◌}
use mathlib.Core.Path.{◌≡◌, sym, ap, subst, ◌∙◌}
use mathlib.Core.List.{List, ◌∷◌, ◌++◌}
use native.Mathlib.Omega.{arith}
use lib.ListN.{length, length-append}
use Rattle.tactics.specs.Memory.{Same}
use Rattle.tactics.specs.Numbers.{put_header}
use Rattle.tactics.proofs.NumberLaws.{only_header}
use Rattle.outline.specs.Layout.{outline_end}
use Rattle.outline.proofs.FieldLaws.{append-field}
use Rattle.search.specs.Machine as M
use Rattle.search.specs.Machine.{labelled, sequence_left, sequence_right, tensor_left, tensor_right}
use Rattle.search_machine.specs.declared.nodes.Node.{Node}
use Rattle.search_machine.specs.Layout.{arena_low, node_size, arena_end}
use Rattle.search_machine.specs.Nodes.{node_at, put_node}
use Rattle.search_machine.specs.Outlines.{field, OutlineIs}
use Rattle.search_machine.specs.Shows.{NodeBelow, FrameIs, FramesAt, ChoiceIs, ChoicesAt}
use Rattle.search_machine.specs.Popping.{Active}
use Rattle.search_machine.proofs.NodeLaws.{only_node, node_same}
use Rattle.search_machine.proofs.KeepLaws.{Keeps, frames_kept, choices_kept}

-- a node
module _ (w : List ℕ) (a : ℕ) (n : Node) (low : arena_low ≤ a) (room : a + node_size ≤ length w) where
  pub put-length : length (put_node w a n) ≡ length w
  put-length = (only_node w a n room).same_length

  pub put_keeps : (outline : ℕ) → outline ≤ outline_end → Keeps outline a w (put_node w a n)
  put_keeps outline l = record {
    outlined = λ i x y. (only_node w a n room).kept.below i (omega (arith, l, y, low));
    below = λ i x y. (only_node w a n room).kept.below i y;
    long = omega (arith, l, low, room);
    same_length = put-length;
  }

  pub put_index : Same outline_end arena_low w (put_node w a n)
  put_index = λ i x y. (only_node w a n room).kept.below i (omega (arith, y, low))

  put_back : node_at (put_node w a n) a ≡ n
  put_back = node_same w a n room

  module _ (table job : List ℕ) where
    pub push_frames : (x : M.Frame) (k : List M.Frame) → Active x → FramesAt table job w a k n.link → FrameIs table job (put_node w a n) a n x → FramesAt table job (put_node w a n) (a + node_size) (x ∷ k) a
    unfolding FramesAt
    push_frames x k active f i = by_frame x active (
      record { low = low; inside = omega arith },
      subst (λ (m : Node). FrameIs table job (put_node w a n) a m x) (sym put_back) i,
      subst (λ (m : Node). FramesAt table job (put_node w a n) a k m.link) (sym put_back) (frames_kept w (put_node w a n) table job k a a n.link (put_keeps 0 (omega arith)).below (omega arith) f),
    )
      where
        by_frame : (y : M.Frame) → Active y
            → NodeBelow (a + node_size) a × FrameIs table job (put_node w a n) a (node_at (put_node w a n) a) y × FramesAt table job (put_node w a n) a k (node_at (put_node w a n) a).link
            → FramesAt table job (put_node w a n) (a + node_size) (y ∷ k) a
        by_frame (labelled l) z h = absurd z
        by_frame (sequence_left b u) z h = h
        by_frame (sequence_right s) z h = absurd z
        by_frame (tensor_left b u g) z h = h
        by_frame (tensor_right s g) z h = h

    pub push_choices : (x : M.Choice) (c : List M.Choice) (steps outline : ℕ) → n.mark ≤ outline → outline ≤ outline_end → ChoicesAt table job w steps a n.mark c n.other
        → ChoiceIs table job (put_node w a n) steps a n x → ChoicesAt table job (put_node w a n) steps (a + node_size) outline (x ∷ c) a
    unfolding ChoicesAt
    push_choices x c steps outline l m f i = (
      record { low = low; inside = omega arith },
      subst (λ (z : Node). z.mark ≤ outline) (sym put_back) l,
      subst (λ (z : Node). ChoiceIs table job (put_node w a n) steps a z x) (sym put_back) i,
      subst (λ (z : Node). ChoicesAt table job (put_node w a n) steps a z.mark c z.other) (sym put_back)
          (choices_kept w (put_node w a n) table job c steps steps a a n.mark n.mark n.other (put_keeps n.mark (omega (arith, l, m))) (omega arith) (omega arith) (omega arith) f),
    )

-- a field
module _ (w : List ℕ) (n tag value : ℕ) (fits : n + 3 ≤ outline_end) (space : arena_end ≤ length w) where
  pub note_length : length (put_header w n tag value) ≡ length w
  note_length = (only_header w n tag value).same_length

  pub note_keeps : (top : ℕ) → Keeps n top w (put_header w n tag value)
  note_keeps top = record {
    outlined = λ i x y. (only_header w n tag value).kept.below i y;
    below = λ i x y. (only_header w n tag value).kept.above i (omega (arith, x, fits));
    long = omega (arith, fits, space);
    same_length = note_length;
  }

  pub note_index : Same outline_end arena_low w (put_header w n tag value)
  note_index = λ i x y. (only_header w n tag value).kept.above i (omega (arith, x, fits))

  pub note_outlined : (o : List ℕ) → OutlineIs w n o → OutlineIs (put_header w n tag value) (n + 3) (o ++ field tag value)
  note_outlined o h = record {
    is = append-field w n tag value (omega (arith, fits, space)) ∙ ap (λ (x : List ℕ). x ++ field tag value) h.is;
    long = length-append o (field tag value) ∙ omega (arith, h.long);
  }
