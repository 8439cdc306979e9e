-- The cells of the nodes, behind all that the walk shares with the checker's: eight bytes for each node.
use Rattle.std.specs.Prelude.{ℕ, zero, suc, ◌+◌, ◌*◌, ◌<◌, List, [], ◌∷◌, map, length}
use Rattle.words.specs.Word.{word, put_word}
use Rattle.format.specs.declared.values.Goal.{Goal}
use Rattle.format.specs.Limits.{most_goals}
use Rattle.format.specs.Values.{rule_name, goal}
use Rattle.hitac.proofs.Nodes.{Cell, open_cell, use_cell}
use Rattle.input_arities.specs.Layout.{most_atomics}
use Rattle.walks.specs.Layout.{index_end}

-- The stated goals, and at most eight premises for each atomic: also a walk that is refused makes no more.
abbrev pub most_nodes : ℕ
most_nodes = most_goals + 8 * most_atomics

abbrev pub cell_place : (node : ℕ) → ℕ
cell_place n = index_end + n * 8

abbrev pub cells_end : ℕ
cells_end = cell_place most_nodes

-- A cell: its goal, then of a use its name, its first premise's node and one more than the count of its premises; an open goal has 0 there.
unfoldable pub cell_from : (goal name first mark : ℕ) → Cell
cell_from g a f zero = open_cell (goal g)
cell_from g a f (suc c) = use_cell (rule_name a) (goal g) f c

unfoldable pub cell_in : List ℕ → (at : ℕ) → Cell
cell_in s at = cell_from (word s at) (word s (at + 2)) (word s (at + 4)) (word s (at + 6))

-- so many cells from a place on
unfoldable pub cells_from : List ℕ → (at count : ℕ) → List Cell
cells_from s at zero = []
cells_from s at (suc k) = cell_in s at ∷ cells_from s (at + 8) k

-- the cells of the first so many nodes
abbrev pub cells_of : List ℕ → (count : ℕ) → List Cell
cells_of s k = cells_from s index_end k

-- the cell of a node made that of a use
unfoldable pub put_use : List ℕ → (node name first count : ℕ) → List ℕ
put_use s n a f c = put_word (put_word (put_word s (cell_place n + 2) a) (cell_place n + 4) f) (cell_place n + 6) (c + 1)

-- the cells of open goals, from a node on
unfoldable pub put_opens : List ℕ → (node : ℕ) → List Goal → List ℕ
put_opens s n [] = s
put_opens s n (γ ∷ g) = put_opens (put_word (put_word s (cell_place n) γ.0) (cell_place n + 6) 0) (suc n) g

-- so many nodes in a row, from a place on
unfoldable pub put_range : List ℕ → (at first count : ℕ) → List ℕ
put_range s at f zero = s
put_range s at f (suc c) = put_range (put_word s at f) (at + 2) (suc f) c

-- a node made a use of its premises g, which become new nodes from f on
abbrev pub planted : List ℕ → (node name f : ℕ) → (g : List Goal) → List ℕ
planted w n a f g = put_opens (put_use w n a f (length g)) f g

-- and are put on a stack
abbrev pub grown : List ℕ → (node name f : ℕ) → (g : List Goal) → (low : ℕ) → List ℕ
grown w n a f g low = put_range (planted w n a f g) low f (length g)

-- all of the nodes are among the first b
unfoldable pub Below : (b : ℕ) → List ℕ → Type 0
Below b [] = Unit {0}
Below b (n ∷ ns) = (n < b) × Below b ns

-- the goals of nodes
abbrev pub goals_in : List ℕ → List ℕ → List Goal
goals_in w ns = map (λ n. goal (word w (cell_place n))) ns
