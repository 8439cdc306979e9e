-- What a term without inner terms comes to in the work space: the cells made so far are the first ones behind the index, the nodes taken lie from `top` on and those given from `low` on.
use Rattle.std.specs.Prelude.{ℕ, ◌+◌, ◌*◌, ◌≤◌, ◌<◌, ◌≡◌, List, length, Ok, Err}
use Rattle.std.specs.Prelude as std
use Rattle.words.specs.Word.{word}
use Rattle.words.specs.Kept.{Kept}
use Rattle.format.specs.declared.refusals.Cause.{Cause}
use Rattle.format.specs.declared.refusals.Cause.TheVariants.{InputTooLong}
use Rattle.format.specs.Results.{Result, refused}
use Rattle.format.specs.Terms.{Term}
use Rattle.tables.specs.Tables.{Table}
use Rattle.hitac.proofs.Nodes.{Cell}
use Rattle.input_arities.specs.Layout.{stack_end}
use Rattle.walks.specs.declared.state.Next.{Next}
use Rattle.walks.specs.Layout.{index_end}
use Rattle.walks.specs.Values.{values_at}
use Rattle.walks.specs.Walks.{Out}
use Rattle.walks.specs.Loops.{placed, Acted}
use Rattle.nodes.specs.declared.leaf.Taken.{Taken}
use Rattle.nodes.specs.Space.{most_nodes, cells_end, cells_of}
use Rattle.nodes.specs.NodeActs.{node_act}

-- room for what so many uses give
pub record LeafRoom (w : List ℕ) (n : Next) (uses : ℕ) : Type 0 where
  pub apart : n.low + 14 * uses ≤ n.top
  pub below : n.top + n.count * 2 ≤ stack_end
  pub space : cells_end ≤ length w

-- where there is one node, it is there, and there is room for its premises
abbrev pub NodeRoom : List ℕ → Next → (next : ℕ) → Type 0
NodeRoom w n next = n.count ≡ 1 → (word w n.top < next) × (next + 8 ≤ most_nodes)

-- what the term comes to on its nodes, where so many cells are made
abbrev pub act_in : Table → Term → (at : ℕ) → List ℕ → Next → (next : ℕ) → Result (Out Cell)
act_in T t at w n next = node_act T t at (cells_of w next) (values_at w n.top n.count)

-- the walk does not end for want of a node or of room
abbrev pub Fitting : Table → Term → (at : ℕ) → List ℕ → Next → (next : ℕ) → Type 0
Fitting T t at w n next = act_in T t at w n next ≡ refused InputTooLong at → ⊥

-- what holds where cells were written before the stacks were
abbrev pub Through : List ℕ → (List ℕ → Type 0) → Type 0
Through w P = (between : List ℕ) × Kept w between index_end cells_end × P between

-- the code's answer: refused at the term's place; or the term wrote on the stacks, and so many cells are made
unfoldable pub Takes : Table → Term → (at : ℕ) → (w between w' : List ℕ) → Next → (next : ℕ) → std.Result Taken Cause → Type 0
Takes T t at w v w' n next (Err c) = (act_in T t at w n next ≡ refused c at) × (w' ≡ w)
Takes T t at w v w' n next (Ok r) = Acted (node_act T) (cells_of w next) (cells_of w' r.next) v w' (placed n at) t r.given r.used
