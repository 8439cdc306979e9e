-- The flattener's way: each goal occurrence is a node. An atomic marks its node as a use and makes its premises new nodes in a row;
-- then one depth-first pass gives the entries. Definitions of a method, not for believing: NodeForest shows that it gives the forest.
-- Assumes nothing.
use Prim.Native.Nat.{ℕ, zero, suc}
use mathlib.Core.Path.{◌≡◌}
use mathlib.Core.List.{List, [], ◌∷◌, ◌++◌, map}
use lib.ListN.{length, take, drop, get_or, set}
use Rattle.format.specs.declared.values.RuleName.{RuleName}
use Rattle.format.specs.declared.values.Goal.{Goal}
use Rattle.format.specs.Terms.{Term, atomic, id, label, sequence, tensor, empty, alternation, assert, defined}
use Rattle.tables.specs.Tables.{Table}
use Rattle.files.specs.Derivations.{Entry, use_entry, open_entry}
use Rattle.hitac.specs.Hiproofs.{input_arity}
use Rattle.hitac.specs.Forest.{Tree, entries, premises_of}

-- an open goal; or a use with its first premise's node and the count of premises
pub data Cell : Type 0 where
  open_cell : Goal → Cell
  use_cell : RuleName → Goal → ℕ → ℕ → Cell

-- the cell read past the end
abbrev pub no_cell : Cell
no_cell = open_cell (record { 0 = 0 })

-- the cell of a node
abbrev pub cell_at : List Cell → ℕ → Cell
cell_at A n = get_or A n no_cell

-- the goal of a cell
abbrev pub goal_of : Cell → Goal
goal_of (open_cell γ) = γ
goal_of (use_cell a γ f c) = γ

-- so many nodes in a row from f on
abbrev pub range : ℕ → ℕ → List ℕ
range f zero = []
range f (suc c) = f ∷ range (suc f) c

-- What a walk over nodes comes to: all cells, and the nodes of the goals given.
pub record NodeWalk : Type 0 where
  pub cells : List Cell
  pub nodes : List ℕ

-- the node n becomes a use, its premises h new nodes behind the others
abbrev pub mark_use : RuleName → List Cell → ℕ → Goal → List Goal → NodeWalk
mark_use a A n γ h = record { cells = set A n (use_cell a γ (length A) (length h)) ++ map open_cell h; nodes = range (length A) (length h) }

-- the walk over nodes: as the checker's walk, with nodes for goals
unfoldable pub node_walk : Table → Term → List Cell → List ℕ → NodeWalk
node_walk T (atomic a) A [] = record { cells = A; nodes = [] }
node_walk T (atomic a) A (n ∷ ns) = mark_use a A n (goal_of (cell_at A n)) (premises_of T a (goal_of (cell_at A n)))
node_walk T id A ns = record { cells = A; nodes = ns }
node_walk T (label l s) A ns = node_walk T s A ns
node_walk T (sequence s t) A ns = node_walk T t (node_walk T s A ns).cells (node_walk T s A ns).nodes
node_walk T (tensor s t) A ns =
    record {
      cells = (node_walk T t (node_walk T s A (take (input_arity s) ns)).cells (drop (input_arity s) ns)).cells;
      nodes = (node_walk T s A (take (input_arity s) ns)).nodes ++ (node_walk T t (node_walk T s A (take (input_arity s) ns)).cells (drop (input_arity s) ns)).nodes;
    }
node_walk T empty A ns = record { cells = A; nodes = [] }
node_walk T (alternation s t) A ns = record { cells = A; nodes = [] }
node_walk T (assert γ) A ns = record { cells = A; nodes = [] }
node_walk T (defined n) A ns = record { cells = A; nodes = [] }

-- `Shows A ns ts`: read depth first from each of the nodes ns, the cells A are the trees ts.
pub data Shows (A : List Cell) : List ℕ → List Tree → Type 0 where
  Shows-None : Shows A [] []
  Shows-Open : {n : ℕ} {ns : List ℕ} {γ : Goal} {ts : List Tree} → cell_at A n ≡ open_cell γ → Shows A ns ts → Shows A (n ∷ ns) ((open_entry γ ∷ []) ∷ ts)
  Shows-Use : {n f c : ℕ} {ns : List ℕ} {a : RuleName} {γ : Goal} {us ts : List Tree} → cell_at A n ≡ use_cell a γ f c → Shows A (range f c) us
      → Shows A ns ts → Shows A (n ∷ ns) ((use_entry a γ ∷ entries us) ∷ ts)

-- The depth-first pass: the nodes still to come, innermost first. One entry for each unit of fuel.
abbrev pub premise_nodes : Cell → List ℕ
premise_nodes (open_cell γ) = []
premise_nodes (use_cell a γ f c) = range f c

-- "Entries are the use and open fields": the entry of a cell
abbrev pub entry_of : Cell → Entry
entry_of (open_cell γ) = open_entry γ
entry_of (use_cell a γ f c) = use_entry a γ

-- the entries of the nodes, each before those of its premises
unfoldable pub node_entries : ℕ → List Cell → List ℕ → List Entry
node_entries zero A ns = []
node_entries (suc k) A [] = []
node_entries (suc k) A (n ∷ ns) = entry_of (cell_at A n) ∷ node_entries k A (premise_nodes (cell_at A n) ++ ns)
