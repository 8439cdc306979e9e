-- One term begun: what is next, or how it ended; and the code's nodes for it.
use Rattle.std.specs.Prelude.{ℕ, zero, suc, ◌+◌, ◌*◌, ◌/◌, ◌%◌, ◌≤◌, ◌<◌, ◌≡◌, List, [], ◌∷◌, ◌++◌, length}
use Rattle.std.proofs.Math.Option.{Option, none, some}
use Rattle.format.specs.declared.values.Goal.{Goal}
use Rattle.format.specs.declared.values.Label.{Label}
use Rattle.format.specs.declared.values.TacticNo.{TacticNo}
use Rattle.format.specs.Terms.{Term, atomic, id, label, sequence, tensor, empty, alternation, assert, defined}
use Rattle.format.specs.Standing.{Stands}
use Rattle.tables.specs.Tables.{Table}
use Rattle.tables.specs.Lookup.{find_body}
use Rattle.evaluation.specs.Outcomes.{rule_gives, one_goal, no_goal, assert_gives}
use Rattle.search.specs.Machine as M
use Rattle.search.specs.Machine.{labelled, sequence_left, tensor_left, or_else, with_next}
use Rattle.search_machine.specs.declared.nodes.Node.{Node}
use Rattle.search_machine.specs.declared.state.State.{State}
use Rattle.outline.specs.Layout.{outline_end}
use Rattle.tactics.specs.Memory.{Same}
use Rattle.tactics.specs.Source.{source}
use Rattle.search_machine.specs.Layout.{arena_low, node_size, step_room, arena_end}
use Rattle.search_machine.specs.Outlines.{field, waiting_outline, OutlineIs}
use Rattle.search_machine.specs.Shows.{GoalsIs, FramesAt, set_aside, Begun, Config, next, gave, lost, Holds}

-- a form without inner terms
abbrev pub gave_if : Term → Option (List Goal) → List M.Frame → List M.Choice → Config
gave_if s none k c = lost c
gave_if s (some g) k c = gave s g k c

abbrev pub enter_if : {A : Type 0} → Option A → List M.Choice → (A → Config) → Config
enter_if none c f = lost c
enter_if (some a) c f = f a

abbrev pub level : (below : ℕ) → List M.Choice → (ℕ → Config) → Config
level zero c f = lost c
level (suc b) c f = f b

abbrev pub splitting : (below : ℕ) (left right : Term) (left_goals right_goals : List Goal) → List M.Frame → List M.Choice → Config
splitting b t u g₁ g₂ k c = next b t g₁ (tensor_left b u g₂ ∷ k) (with_next b t u g₁ g₂ k c)

-- a term begun, before the terms that wait and the choices are looked at
unfoldable pub begun : Table → (below : ℕ) → Term → List Goal → List M.Frame → List M.Choice → Config
begun T b (atomic a) g k c = gave_if (atomic a) (rule_gives T a g) k c
begun T b id g k c = gave_if id (one_goal g) k c
begun T b (label l t) g k c = level b c λ d. enter_if (one_goal g) c λ h. next d t h (labelled l ∷ k) c
begun T b (sequence t u) g k c = level b c λ d. next d t g (sequence_left d u ∷ k) c
begun T b (tensor t u) g k c = level b c λ d. splitting d t u [] g k c
begun T b empty g k c = gave_if empty (no_goal g) k c
begun T b (alternation t u) g k c = level b c λ d. next d t g k (or_else d u g k ∷ c)
begun T b (assert γ) g k c = gave_if id (assert_gives T γ g) k c
begun T b (defined n) g k c = level b c λ d. enter_if (find_body T n) c λ t. next d t g k c

-- the numbers of a state in which a term that was counted is begun
pub record Room (w : List ℕ) (s : State) : Type 0 where
  pub low : arena_low ≤ s.arena
  pub fits : s.arena + step_room ≤ arena_end
  pub space : arena_end ≤ length w
  pub link_below : s.link ≤ s.arena
  pub choice_below : s.choice ≤ s.arena
  pub goals_below : s.start + s.count * 2 ≤ s.arena
  pub few : s.count ≤ 256
  pub at_small : s.at + 3 < 65536
  pub outline_fits : s.outline + 3 ≤ outline_end

-- the length of the work space, the steps and what lies between the outline and the arena are the same
pub record Stays (w : List ℕ) (s : State) (v : List ℕ) (r : State) : Type 0 where
  pub same_length : length v ≡ length w
  pub same_steps : r.steps ≡ s.steps
  pub index_same : Same outline_end arena_low w v

-- what beginning a term does
abbrev pub DoesIn : (table job : List ℕ) → List ℕ → State → List ℕ → State → Term → (ℕ → List Goal → List M.Frame → List M.Choice → Config) → Type 0
DoesIn table job w s v r t f = (b : ℕ) (g : List Goal) (k : List M.Frame) (c : List M.Choice) → Begun table job w s b t g k c → Holds table job v r (f b g k c)

abbrev pub Does : List ℕ → State → List ℕ → State → Term → (ℕ → List Goal → List M.Frame → List M.Choice → Config) → Type 0
Does w s v r t f = (table job : List ℕ) → DoesIn table job w s v r t f

-- what is next after each form; `down` is the level of its inner terms
abbrev pub leaf_next : Term → (List Goal → Option (List Goal)) → ℕ → List Goal → List M.Frame → List M.Choice → Config
leaf_next p o b g k c = gave_if p (o g) k c

abbrev pub sequence_next : (down : ℕ) → Term → Term → ℕ → List Goal → List M.Frame → List M.Choice → Config
sequence_next d t u b g k c = next (d / 2) t g (sequence_left (d / 2) u ∷ k) c

abbrev pub alternation_next : (down : ℕ) → Term → Term → ℕ → List Goal → List M.Frame → List M.Choice → Config
alternation_next d t u b g k c = next (d / 2) t g k (or_else (d / 2) u g k ∷ c)

abbrev pub label_next : (down : ℕ) → Label → Term → ℕ → List Goal → List M.Frame → List M.Choice → Config
label_next d l t b g k c = enter_if (one_goal g) c λ h. next (d / 2) t h (labelled l ∷ k) c

abbrev pub tensor_next : (down : ℕ) → Term → Term → ℕ → List Goal → List M.Frame → List M.Choice → Config
tensor_next d t u b g k c = splitting (d / 2) t u [] g k c

abbrev pub defined_next : Table → (down : ℕ) → TacticNo → ℕ → List Goal → List M.Frame → List M.Choice → Config
defined_next T d n b g k c = enter_if (find_body T n) c λ t. next (d / 2) t g k c

-- the nodes
abbrev pub sequence_node : State → (down right : ℕ) → Node
sequence_node s down right = record { kind = 1; level = down; at = right; count = 0; link = s.link; start = 0; left = 0; mark = 0; right = 0; other = 0 }

abbrev pub or_else_node : State → (down right : ℕ) → Node
or_else_node s down right = record { kind = 4; level = down; at = right; count = s.count; link = s.link; start = s.start; left = 0; mark = s.outline; right = 0; other = s.choice }

-- a tensor whose left term is run on so many of its goals
abbrev pub tensor_node : State → (down right start left count : ℕ) → Node
tensor_node s down right start left count = record { kind = 2; level = down; at = right; count = count; link = s.link; start = start + left * 2; left = 0; mark = 0; right = 0; other = 0 }

-- the splits of a tensor's goals from the one with so many on the left on
abbrev pub split_node : State → (down at right start left count : ℕ) → Node
split_node s down at right start left count = record { kind = 5; level = down; at = at; count = count; link = s.link; start = start; left = left; mark = s.outline; right = right; other = s.choice }

-- a tensor on one split of its goals, its own field in the outline: what the code is given
pub record Parts (table job w : List ℕ) (s : State) (down at right start left count : ℕ) (t u : Term) (g₁ g₂ : List Goal) (k : List M.Frame) : Type 0 where
  pub left_stands : Stands (source table job (down % 2)) at t
  pub right_stands : Stands (source table job (down % 2)) right u
  pub left_goals : GoalsIs w s.arena start left g₁
  pub right_goals : GoalsIs w s.arena (start + left * 2) count g₂
  pub few : left + count ≤ 256
  pub low : arena_low ≤ s.arena
  pub frames : FramesAt table job w s.arena k s.link
  pub space : s.arena + set_aside k + 2 * node_size + 512 ≤ arena_low + 512 + step_room * s.steps
  pub fields : s.outline ≤ 3 * s.steps
  pub outlined : OutlineIs w s.outline (waiting_outline k ++ field 20 0)

-- and its numbers
pub record PartRoom (w : List ℕ) (s : State) (at right start left count : ℕ) : Type 0 where
  pub fits : s.arena + node_size ≤ arena_end
  pub space : arena_end ≤ length w
  pub link_below : s.link ≤ s.arena
  pub goals_below : start + left * 2 + count * 2 ≤ s.arena
  pub few : left + count ≤ 256
  pub at_small : at < 65536
  pub right_small : right < 65536
