-- The code's moves on its state: each adds a field to the outline, writes one node, or changes what is next.
use Rattle.std.specs.Prelude.{ℕ, ◌+◌, ◌≤◌, List, length}
use Rattle.search_machine.specs.declared.nodes.Node.{Node}
use Rattle.search_machine.specs.declared.state.Mode.TheVariants as is
use Rattle.search_machine.specs.declared.state.State.{State}
use Rattle.search_machine.specs.Layout.{node_size, arena_end}
use Rattle.search_machine.specs.Nodes.{Small}

-- one step counted
abbrev pub counted : State → State
counted s = record s { steps = s.steps + 1 }

-- the term fails
abbrev pub failed : State → State
failed s = record s { mode = is.Lost }

-- the term ended
abbrev pub giving : State → State
giving s = record s { mode = is.Gave }

-- a term that waited goes on
abbrev pub linked : State → (link : ℕ) → State
linked s link = record s { link = link }

-- a term is to begin
abbrev pub entered : State → (level at start count : ℕ) → State
entered s level at start count = record s { mode = is.Running; level = level; at = at; start = start; count = count }

-- other goals, which end at the top of the arena
abbrev pub holding : State → (start count arena : ℕ) → State
holding s start count arena = record s { start = start; count = count; arena = arena }

-- back at a choice
abbrev pub returned : State → (link choice arena outline : ℕ) → State
returned s link choice arena outline = record s { link = link; choice = choice; arena = arena; outline = outline }

-- one field more in the outline
abbrev pub noted : State → State
noted s = record s { outline = s.outline + 3 }

-- a node for a term that waits
abbrev pub pushed : State → State
pushed s = record s { link = s.arena; arena = s.arena + node_size }

-- a node for a choice
abbrev pub offered : State → State
offered s = record s { choice = s.arena; arena = s.arena + node_size }

-- room for a node
pub record Place (w : List ℕ) (s : State) (n : Node) : Type 0 where
  pub fits : s.arena + node_size ≤ arena_end
  pub space : arena_end ≤ length w
  pub small : Small n
