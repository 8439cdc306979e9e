-- What the code's state and its work space stand for: a state of the search's machine. Whatever a node refers to lies before the node.
use Rattle.std.specs.Prelude.{ℕ, ◌+◌, ◌*◌, ◌/◌, ◌%◌, ◌≤◌, ◌<◌, ◌≡◌, List, [], ◌∷◌, ◌++◌}
use Rattle.format.specs.declared.values.Goal.{Goal}
use Rattle.format.specs.Goals.{goals_at}
use Rattle.format.specs.Terms.{Term}
use Rattle.format.specs.Standing.{Stands}
use Rattle.tactics.specs.Source.{source}
use Rattle.outline.specs.Outline.{outline_of}
use Rattle.search.specs.Machine as M
use Rattle.search.specs.Machine.{labelled, sequence_left, sequence_right, tensor_left, tensor_right, or_else, next_split, running, finished, nothing, give}
use Rattle.search_machine.specs.declared.nodes.Node.{Node}
use Rattle.search_machine.specs.declared.state.Mode.TheVariants as is
use Rattle.search_machine.specs.declared.state.State.{State}
use Rattle.search_machine.specs.Layout.{arena_low, node_size, step_room}
use Rattle.search_machine.specs.Nodes.{node_at}
use Rattle.search_machine.specs.Outlines.{field, waiting_outline, OutlineIs}

-- a list of goals lies in the arena, below a place
pub record GoalsIs (w : List ℕ) (top start count : ℕ) (g : List Goal) : Type 0 where
  pub low : arena_low ≤ start
  pub inside : start + count * 2 ≤ top
  pub few : count ≤ 256
  pub are : goals_at w start count ≡ g

-- a node lies in the arena, below a place
pub record NodeBelow (top at : ℕ) : Type 0 where
  pub low : arena_low ≤ at
  pub inside : at + node_size ≤ top

module _ (table job : List ℕ) where
  -- a term that waits to go on; what it keeps lies below a place. A label, and a sequence whose right term is begun, have nothing more to do: only the outline knows of them.
  unfoldable pub FrameIs : List ℕ → (top : ℕ) → Node → M.Frame → Type 0
  FrameIs w top n (labelled l) = ⊥
  FrameIs w top n (sequence_left b u) = (n.kind ≡ 1) × (n.level / 2 ≡ b) × Stands (source table job (n.level % 2)) n.at u
  FrameIs w top n (sequence_right s) = ⊥
  FrameIs w top n (tensor_left b u h) = (n.kind ≡ 2) × (n.level / 2 ≡ b) × Stands (source table job (n.level % 2)) n.at u × GoalsIs w top n.start n.count h
  FrameIs w top n (tensor_right s g) = (n.kind ≡ 3) × GoalsIs w top n.start n.count g

  -- the terms that wait, innermost first
  unfoldable pub FramesAt : List ℕ → (top : ℕ) → List M.Frame → (link : ℕ) → Type 0
  FramesAt w top [] link = link ≡ 0
  FramesAt w top (labelled l ∷ k) link = FramesAt w top k link
  FramesAt w top (sequence_right s ∷ k) link = FramesAt w top k link
  FramesAt w top (sequence_left b u ∷ k) link = NodeBelow top link × FrameIs w link (node_at w link) (sequence_left b u) × FramesAt w link k (node_at w link).link
  FramesAt w top (tensor_left b u h ∷ k) link = NodeBelow top link × FrameIs w link (node_at w link) (tensor_left b u h) × FramesAt w link k (node_at w link).link
  FramesAt w top (tensor_right s g ∷ k) link = NodeBelow top link × FrameIs w link (node_at w link) (tensor_right s g) × FramesAt w link k (node_at w link).link

-- the bytes of the arena set aside for what a waiting term will still write: a tensor's second node, and its joined list
abbrev pub frame_aside : M.Frame → ℕ
frame_aside (labelled l) = 0
frame_aside (sequence_left b u) = 0
frame_aside (sequence_right s) = 0
frame_aside (tensor_left b u h) = node_size + 512
frame_aside (tensor_right s g) = 512

unfoldable pub set_aside : List M.Frame → ℕ
set_aside [] = 0
set_aside (x ∷ k) = frame_aside x + set_aside k

-- the numbers by the steps taken: the arena, and the outline
pub record Fits (steps arena outline : ℕ) (k : List M.Frame) : Type 0 where
  pub space : arena + set_aside k ≤ arena_low + 512 + step_room * steps
  pub fields : outline ≤ 3 * steps

module _ (table job : List ℕ) where
  -- the terms that wait while a term that was counted is begun, or at a choice
  pub record Waits (w : List ℕ) (steps top outline : ℕ) (k : List M.Frame) (link : ℕ) : Type 0 where
    pub low : arena_low ≤ top
    pub before : ℕ
    pub earlier : before < steps
    pub fits : Fits before top outline k
    pub frames : FramesAt table job w top k link
    pub outlined : OutlineIs w outline (waiting_outline k)

  pub record OrElseIs (w : List ℕ) (steps top : ℕ) (n : Node) (b : ℕ) (u : Term) (g : List Goal) (k : List M.Frame) : Type 0 where
    pub kind_is : n.kind ≡ 4
    pub below_is : n.level / 2 ≡ b
    pub stands : Stands (source table job (n.level % 2)) n.at u
    pub goals : GoalsIs w top n.start n.count g
    pub waits : Waits w steps top n.mark k n.link

  -- the terms that wait, and a tensor's own field behind their outline
  pub record Besides (w : List ℕ) (steps top outline : ℕ) (k : List M.Frame) (link : ℕ) : Type 0 where
    pub low : arena_low ≤ top
    pub before : ℕ
    pub earlier : before < steps
    pub space : top + set_aside k ≤ arena_low + 512 + step_room * before
    pub fields : outline ≤ 3 * before + 3
    pub frames : FramesAt table job w top k link
    pub outlined : OutlineIs w outline (waiting_outline k ++ field 20 0)

  pub record NextSplitIs (w : List ℕ) (steps top : ℕ) (n : Node) (b : ℕ) (t u : Term) (g₁ g₂ : List Goal) (k : List M.Frame) : Type 0 where
    pub kind_is : n.kind ≡ 5
    pub below_is : n.level / 2 ≡ b
    pub left_stands : Stands (source table job (n.level % 2)) n.at t
    pub right_stands : Stands (source table job (n.level % 2)) n.right u
    pub left_goals : GoalsIs w top n.start n.left g₁
    pub right_goals : GoalsIs w top (n.start + n.left * 2) n.count g₂
    pub few : n.left + n.count ≤ 256
    pub at_small : n.at < 65536
    pub right_small : n.right < 65536
    pub waits : Besides w steps top n.mark k n.link

  -- a choice that can be gone back to
  unfoldable pub ChoiceIs : List ℕ → (steps top : ℕ) → Node → M.Choice → Type 0
  ChoiceIs w steps top n (or_else b u g k) = OrElseIs w steps top n b u g k
  ChoiceIs w steps top n (next_split b t u g₁ g₂ k) = NextSplitIs w steps top n b t u g₁ g₂ k

  -- the choices, last first; the outline of each is the beginning of the next one's
  unfoldable pub ChoicesAt : List ℕ → (steps top outline : ℕ) → List M.Choice → (link : ℕ) → Type 0
  ChoicesAt w steps top outline [] link = link ≡ 0
  ChoicesAt w steps top outline (x ∷ c) link =
      NodeBelow top link × ((node_at w link).mark ≤ outline) × ChoiceIs w steps link (node_at w link) x × ChoicesAt w steps link (node_at w link).mark c (node_at w link).other

  -- a term that is counted and begun
  pub record Begun (w : List ℕ) (s : State) (b : ℕ) (t : Term) (g : List Goal) (k : List M.Frame) (c : List M.Choice) : Type 0 where
    pub below_is : s.level / 2 ≡ b
    pub stands : Stands (source table job (s.level % 2)) s.at t
    pub goals : GoalsIs w s.arena s.start s.count g
    pub waits : Waits w s.steps s.arena s.outline k s.link
    pub choices : ChoicesAt w s.steps s.arena s.outline c s.choice

  -- a term that is to begin
  pub record Runs (w : List ℕ) (s : State) (b : ℕ) (t : Term) (g : List Goal) (k : List M.Frame) (c : List M.Choice) : Type 0 where
    pub mode_is : s.mode ≡ is.Running
    pub low : arena_low ≤ s.arena
    pub below_is : s.level / 2 ≡ b
    pub stands : Stands (source table job (s.level % 2)) s.at t
    pub goals : GoalsIs w s.arena s.start s.count g
    pub frames : FramesAt table job w s.arena k s.link
    pub outlined : OutlineIs w s.outline (waiting_outline k)
    pub choices : ChoicesAt w s.steps s.arena s.outline c s.choice
    pub fits : Fits s.steps s.arena s.outline k

  -- a term that ended with a hiproof
  pub record Gave (w : List ℕ) (s : State) (p : Term) (g : List Goal) (k : List M.Frame) (c : List M.Choice) : Type 0 where
    pub mode_is : s.mode ≡ is.Gave
    pub low : arena_low ≤ s.arena
    pub goals : GoalsIs w s.arena s.start s.count g
    pub frames : FramesAt table job w s.arena k s.link
    pub outlined : OutlineIs w s.outline (waiting_outline k ++ outline_of p)
    pub choices : ChoicesAt w s.steps s.arena s.outline c s.choice
    pub fits : Fits s.steps s.arena s.outline k

  -- a term that failed
  pub record Lost (w : List ℕ) (s : State) (c : List M.Choice) : Type 0 where
    pub mode_is : s.mode ≡ is.Lost
    pub choices : ChoicesAt w s.steps s.arena s.outline c s.choice

-- between two moves: a term to begin, a term that ended, or the way back
pub data Config : Type 0 where
  next : (below : ℕ) → Term → List Goal → List M.Frame → List M.Choice → Config
  gave : Term → List Goal → List M.Frame → List M.Choice → Config
  lost : List M.Choice → Config

unfoldable pub Holds : (table job w : List ℕ) → State → Config → Type 0
Holds table job w s (next b t g k c) = Runs table job w s b t g k c
Holds table job w s (gave p g k c) = Gave table job w s p g k c
Holds table job w s (lost c) = Lost table job w s c

-- where the machine stands after that
unfoldable pub settle : Config → M.Control
settle (next b t g k c) = running b t g k c
settle (gave p g k c) = give p g k c
settle (lost c) = M.back c

-- where the machine stands
unfoldable pub Shows : (table job w : List ℕ) → State → M.Control → Type 0
Shows table job w s (running b t g k c) = Runs table job w s b t g k c
Shows table job w s (finished p g c) = Gave table job w s p g [] c
Shows table job w s nothing = Lost table job w s []
