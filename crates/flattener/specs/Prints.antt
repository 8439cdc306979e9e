-- What the depth-first pass leaves: for each node its entry behind those written, and its premises in front of the nodes still to come.
use Rattle.std.specs.Prelude.{ℕ, ◌+◌, ◌*◌, ◌≤◌, ◌<◌, ◌≡◌, List, [], ◌∷◌, ◌++◌, length}
use Rattle.std.proofs.lemmas.List.Edits.{sets}
use Rattle.words.specs.Word.{word}
use Rattle.words.specs.Kept.{Kept}
use Rattle.files.specs.Derivations.{Entry, entry_bytes, entries_bytes}
use Rattle.hitac.proofs.Nodes.{Cell, open_cell, use_cell, entry_of, premise_nodes, range, node_entries}
use Rattle.input_arities.specs.Layout.{stack_end}
use Rattle.walks.specs.Values.{values_at}
use Rattle.nodes.specs.Space.{most_nodes, cell_place, cells_end, cell_in, cells_of}
use Rattle.flattener.specs.declared.print.Printed.{Printed}

-- the cell of the node on top of the stack
abbrev pub top_cell : List ℕ → (top : ℕ) → Cell
top_cell w top = cell_in w (cell_place (word w top))

abbrev pub first_premise : Cell → ℕ
first_premise (open_cell γ) = 0
first_premise (use_cell a γ f c) = f

-- the bytes of a cell's entry
abbrev pub cell_entry : Cell → List ℕ
cell_entry c = entry_bytes (entry_of c)

-- There is room for the entry, and on the stack for the premises.
pub record PrintReady (w : List ℕ) (top at room : ℕ) : Type 0 where
  pub node_there : word w top < most_nodes
  pub on_stack : top + 2 ≤ stack_end
  pub within : cells_end ≤ length w
  pub entry_fits : at + length (cell_entry (top_cell w top)) ≤ room
  pub premises_fit : length (premise_nodes (top_cell w top)) * 2 ≤ top + 2
  pub premises_there : first_premise (top_cell w top) + length (premise_nodes (top_cell w top)) ≤ 65535

pub record NodePrinted (w w' : List ℕ) (top at : ℕ) (o o' : List ℕ) (r : Printed) : Type 0 where
  pub out_is : o' ≡ sets o at (cell_entry (top_cell w top))
  pub at_is : r.at ≡ at + length (cell_entry (top_cell w top))
  pub kept : Kept w w' 0 stack_end
  pub top_is : r.top + length (premise_nodes (top_cell w top)) * 2 ≡ top + 2
  pub pending : (m : ℕ) → values_at w' r.top (length (premise_nodes (top_cell w top)) + m) ≡ premise_nodes (top_cell w top) ++ values_at w (top + 2) m

-- the premises of every use are among so many nodes
unfoldable pub Closed : (nodes : ℕ) → List Cell → Type 0
Closed b [] = Unit {0}
Closed b (open_cell γ ∷ A) = Closed b A
Closed b (use_cell a γ f c ∷ A) = (f + c ≤ b) × Closed b A

-- the entries of a forest of so many nodes, its roots the first of them
abbrev pub forest_entries : List ℕ → (roots nodes : ℕ) → List Entry
forest_entries w roots nodes = node_entries nodes (cells_of w nodes) (range 0 roots)

-- The nodes of a work space make a forest, all of them one entry each, and there is room for these.
pub record Printable (w : List ℕ) (roots nodes at room : ℕ) : Type 0 where
  pub few : nodes * 2 ≤ stack_end
  pub closed : Closed nodes (cells_of w nodes)
  pub whole : (j : ℕ) → node_entries (nodes + j) (cells_of w nodes) (range 0 roots) ≡ forest_entries w roots nodes
  pub count : length (forest_entries w roots nodes) ≡ nodes
  pub roots_there : roots ≤ nodes
  pub fits : at + length (entries_bytes (forest_entries w roots nodes)) ≤ room
  pub within : cells_end ≤ length w
