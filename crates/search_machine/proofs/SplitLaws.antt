-- A tensor on one split of its goals: its left term is next, and its node keeps the right one; and the goals of the split behind it.
-- Assumes nothing.
use Prim.Native.Nat.{ℕ, zero, suc, ◌+◌, ◌*◌, ◌/◌, ◌-◌, ◌≤◌}
use mathlib.Core.Path.{◌≡◌, refl, sym, ap, ap₂, ◌∙◌}
use mathlib.Core.List.{List, [], ◌∷◌, ◌++◌}
use native.Mathlib.Omega.{arith}
use lib.ListN.{length}
use Rattle.words.specs.Word.{word}
use Rattle.format.specs.declared.values.Goal.{Goal}
use Rattle.format.specs.Values.{goal}
use Rattle.format.specs.Goals.{goals_at}
use Rattle.format.specs.Terms.{Term}
use Rattle.format.proofs.GoalsAt.{goals_append}
use Rattle.outline.specs.Layout.{outline_end}
use Rattle.search.specs.Machine as M
use Rattle.search.specs.Machine.{tensor_left}
use Rattle.search_machine.specs.declared.nodes.Node.{Node}
use Rattle.search_machine.specs.declared.state.State.{State}
use Rattle.search_machine.specs.Layout.{arena_low, node_size}
use Rattle.search_machine.specs.Nodes.{put_node}
use Rattle.search_machine.specs.Outlines.{field, waiting_outline}
use Rattle.search_machine.specs.Shows.{GoalsIs, FrameIs, set_aside, ChoicesAt, Runs}
use Rattle.search_machine.specs.Moves.{pushed, entered}
use Rattle.search_machine.specs.Begun.{tensor_node, Parts, PartRoom, Stays}
use Rattle.search_machine.proofs.KeepLaws.{Keeps, goals_kept_lem, outline_kept, choices_kept}
use Rattle.search_machine.proofs.MoveLaws.{put-length, put_keeps, put_index, push_frames}

module _ (w : List ℕ) (s : State) (down at right start left count : ℕ) (room : PartRoom w s at right start left count) where
  abbrev node : Node
  node = tensor_node s down right start left count

  abbrev put : List ℕ
  put = put_node w s.arena node

  node_room : s.arena + node_size ≤ length w
  node_room = omega (arith, room.fits, room.space)

  -- the left term is next
  pub part_runs : (table job : List ℕ) (t u : Term) (g₁ g₂ : List Goal) (k : List M.Frame) (c : List M.Choice) → Parts table job w s down at right start left count t u g₁ g₂ k
      → ChoicesAt table job w s.steps s.arena s.outline c s.choice → s.outline ≤ outline_end
      → Runs table job put (entered (pushed s) down at start left) (down / 2) t g₁ (tensor_left (down / 2) u g₂ ∷ k) c
  unfolding FrameIs set_aside waiting_outline
  part_runs table job t u g₁ g₂ k c h m l =
      let kept : Keeps s.outline s.arena w put = put_keeps w s.arena node h.low node_room s.outline l in
      record {
        mode_is = refl;
        low = omega (arith, h.low);
        below_is = refl;
        stands = h.left_stands;
        goals = goals_kept_lem w put s.arena (s.arena + node_size) start left g₁ kept.below (omega arith) h.left_goals;
        frames = push_frames w s.arena node h.low node_room table job (tensor_left (down / 2) u g₂) k tt h.frames
            (refl, refl, h.right_stands, goals_kept_lem w put s.arena s.arena (start + left * 2) count g₂ kept.below (omega arith) h.right_goals);
        outlined = outline_kept w put s.outline (waiting_outline k ++ field 20 0) kept.outlined kept.same_length kept.long h.outlined;
        choices = choices_kept w put table job c s.steps s.steps s.arena (s.arena + node_size) s.outline s.outline s.choice kept (omega arith) (omega arith) (omega arith) m;
        fits = record { space = omega (arith, h.space); fields = h.fields };
      }

  pub part_stays : arena_low ≤ s.arena → Stays w s put (entered (pushed s) down at start left)
  part_stays low = record { same_length = put-length w s.arena node low node_room; same_steps = refl; index_same = put_index w s.arena node low node_room }

-- one goal more on the left
pub record Moved (w : List ℕ) (top start left count : ℕ) (g₁ g₂ : List Goal) : Type 0 where
  pub first : Goal
  pub others : List Goal
  pub is : first ∷ others ≡ g₂
  pub left_goals : GoalsIs w top start (left + 1) (g₁ ++ (first ∷ []))
  pub right_goals : GoalsIs w top (start + (left + 1) * 2) (count - 1) others

module _ (w : List ℕ) (top start left : ℕ) (g₁ g₂ : List Goal) where
  first_moved : (n : ℕ) → GoalsIs w top start left g₁ → GoalsIs w top (start + left * 2) (suc n) g₂ → left + suc n ≤ 256 → Moved w top start left (suc n) g₁ g₂
  unfolding goals_at
  first_moved n a b few =
      let p : start + left * 2 + 2 ≡ start + (left + 1) * 2 = omega arith in
      let q : n ≡ suc n - 1 = omega arith in
      record {
        first = goal (word w (start + left * 2));
        others = goals_at w (start + left * 2 + 2) n;
        is = b.are;
        left_goals = record {
          low = a.low;
          inside = omega (arith, b.inside);
          few = omega (arith, few);
          are = goals_append left 1 w start ∙ ap (λ (x : List Goal). x ++ goals_at w (start + left * 2) 1) a.are;
        };
        right_goals = record {
          low = omega (arith, b.low);
          inside = omega (arith, b.inside);
          few = omega (arith, few);
          are = sym (ap₂ (goals_at w) p q);
        };
      }

  pub split-moved : (count : ℕ) → GoalsIs w top start left g₁ → GoalsIs w top (start + left * 2) count g₂ → left + count ≤ 256 → (count ≡ 0 → ⊥) → Moved w top start left count g₁ g₂
  split-moved zero a b few z = absurd (z refl)
  split-moved (suc n) a b few z = first_moved n a b few
