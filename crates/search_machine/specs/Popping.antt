-- A waiting term taken off, the way back to the last choice, and both until a term is to begin: what the code is given and what it does.
use Rattle.std.specs.Prelude.{ℕ, ◌+◌, ◌*◌, ◌-◌, ◌≤◌, ◌<◌, ◌≡◌, cond, List, ◌∷◌, ◌++◌, length}
use Rattle.format.specs.declared.values.Goal.{Goal}
use Rattle.format.specs.Limits.{most_search_steps}
use Rattle.format.specs.Terms.{Term, label, sequence, tensor}
use Rattle.words.specs.Word.{put_word}
use Rattle.evaluation.specs.Outcomes.{joined_fits}
use Rattle.tactics.specs.Goals.{Gathered}
use Rattle.search.specs.Machine as M
use Rattle.search.specs.Machine.{labelled, sequence_left, sequence_right, tensor_left, tensor_right}
use Rattle.search_machine.specs.declared.nodes.Node.{Node}
use Rattle.search_machine.specs.declared.state.Mode.TheVariants as is
use Rattle.search_machine.specs.declared.state.State.{State}
use Rattle.search_machine.specs.Layout.{arena_low, node_size, arena_end, space_end}
use Rattle.search_machine.specs.Nodes.{node_at, put_node}
use Rattle.search_machine.specs.Moves.{linked, holding, returned, pushed, entered}
use Rattle.search_machine.specs.Begun.{tensor_node}
use Rattle.search_machine.specs.Shows.{Gave, Lost, Config, next, gave, lost, Holds, settle, Shows}

-- a term that waits to go on
abbrev pub Active : M.Frame → Type 0
Active (labelled l) = ⊥
Active (sequence_left b u) = Unit {0}
Active (sequence_right s) = ⊥
Active (tensor_left b u h) = Unit {0}
Active (tensor_right s g) = Unit {0}

-- one such term taken off
unfoldable pub pop : Term → List Goal → M.Frame → List M.Frame → List M.Choice → Config
pop s g (labelled l) k c = gave (label l s) g k c
pop s g (sequence_left b u) k c = next b u g (sequence_right s ∷ k) c
pop s g (sequence_right r) k c = gave (sequence r s) g k c
pop s g (tensor_left b u h) k c = next b u h (tensor_right s g ∷ k) c
pop s g (tensor_right r h) k c = cond (joined_fits (h ++ g)) (gave (tensor r s) (h ++ g) k c) (lost c)

-- the numbers of a state that ended, and of the node of the term that waits
pub record PopRoom (w : List ℕ) (s : State) : Type 0 where
  pub fits : s.arena ≤ arena_end
  pub space : arena_end ≤ length w
  pub low : arena_low ≤ s.arena
  pub node_below : s.link + node_size ≤ s.arena
  pub goals_below : s.start + s.count * 2 ≤ s.arena
  pub few : s.count ≤ 256
  pub link_below : (node_at w s.link).link ≤ s.arena

-- a tensor's node while its right term is run
abbrev pub tensor_right_node : State → (link : ℕ) → Node
tensor_right_node s link = record { kind = 3; level = 0; at = 0; count = s.count; link = link; start = s.start; left = 0; mark = 0; right = 0; other = 0 }

-- two lists joined
pub record Joins (w : List ℕ) (s : State) (f : Node) (v : List ℕ) (r : State) : Type 0 where
  pub gathered : Gathered w v s.arena f.start f.count s.start s.count
  pub state : r ≡ holding (linked s f.link) s.arena (f.count + s.count) (s.arena + (f.count + s.count) * 2)

-- a tensor's splits still to come: the numbers of its node
pub record SplitRoom (w : List ℕ) (s : State) : Type 0 where
  pub fits : s.choice + 2 * node_size ≤ arena_end
  pub space : arena_end ≤ length w
  pub link_below : (node_at w s.choice).link ≤ s.choice
  pub other_below : (node_at w s.choice).other ≤ s.choice
  pub goals_below : (node_at w s.choice).start + (node_at w s.choice).left * 2 + (node_at w s.choice).count * 2 ≤ s.choice
  pub few : (node_at w s.choice).left + (node_at w s.choice).count ≤ 256
  pub at_small : (node_at w s.choice).at < 65536
  pub right_small : (node_at w s.choice).right < 65536

-- the last of them: its choice is given up, and no goal is left for the right term
pub record LastSplit (w : List ℕ) (s : State) (v : List ℕ) (r : State) : Type 0 where
  pub between : State
  pub returns : between ≡ returned s (node_at w s.choice).link (node_at w s.choice).other s.choice (node_at w s.choice).mark
  pub written : v ≡ put_node w between.arena (tensor_node between (node_at w s.choice).level (node_at w s.choice).right (node_at w s.choice).start (node_at w s.choice).left 0)
  pub state : r ≡ entered (pushed between) (node_at w s.choice).level (node_at w s.choice).at (node_at w s.choice).start (node_at w s.choice).left

-- one goal more on the left
abbrev pub moved : List ℕ → (at : ℕ) → List ℕ
moved w at = put_word (put_word w (at + 6) ((node_at w at).count - 1)) (at + 16) ((node_at w at).left + 1)

-- another one: its choice stays, with one goal more on the left
pub record NextSplit (w : List ℕ) (s : State) (v : List ℕ) (r : State) : Type 0 where
  pub between : State
  pub returns : between ≡ returned s (node_at w s.choice).link s.choice (s.choice + node_size) (node_at w s.choice).mark
  pub written : v ≡ put_node (moved w s.choice) between.arena (tensor_node between (node_at w s.choice).level (node_at w s.choice).right (node_at w s.choice).start (node_at w s.choice).left (node_at w s.choice).count)
  pub state : r ≡ entered (pushed between) (node_at w s.choice).level (node_at w s.choice).at (node_at w s.choice).start (node_at w s.choice).left

-- what taking a waiting term off is given and does
pub record Waiting (w : List ℕ) (s : State) : Type 0 where
  pub few_steps : s.steps ≤ most_search_steps
  pub space : space_end ≤ length w
  pub table : List ℕ
  pub job : List ℕ
  pub piece : Term
  pub goals : List Goal
  pub frame : M.Frame
  pub frames : List M.Frame
  pub choices : List M.Choice
  pub active : Active frame
  pub gave : Gave table job w s piece goals (frame ∷ frames) choices

abbrev pub Popped : List ℕ → State → List ℕ → State → Type 0
Popped w s v r = (table job : List ℕ) (p : Term) (g : List Goal) (x : M.Frame) (k : List M.Frame) (c : List M.Choice) → Active x → Gave table job w s p g (x ∷ k) c → Holds table job v r (pop p g x k c)

-- a state that still gives has fewer terms that wait
abbrev pub Smaller : State → State → Type 0
Smaller s r = r.mode ≡ is.Gave → r.link < s.link

-- the way back
pub record Backing (w : List ℕ) (s : State) : Type 0 where
  pub few_steps : s.steps ≤ most_search_steps
  pub space : space_end ≤ length w
  pub table : List ℕ
  pub job : List ℕ
  pub choices : List M.Choice
  pub lost : Lost table job w s choices

abbrev pub WentBack : List ℕ → State → List ℕ → State → Type 0
WentBack w s v r = (table job : List ℕ) (c : List M.Choice) → Lost table job w s c → Shows table job v r (M.back c)

-- both
pub record Unwinding (w : List ℕ) (s : State) : Type 0 where
  pub few_steps : s.steps ≤ most_search_steps
  pub space : space_end ≤ length w
  pub table : List ℕ
  pub job : List ℕ
  pub config : Config
  pub holds : Holds table job w s config

abbrev pub Unwound : List ℕ → State → List ℕ → State → Type 0
Unwound w s v r = (table job : List ℕ) (x : Config) → Holds table job w s x → Shows table job v r (settle x)
