-- What a term without inner terms does to nodes, with its refusals: as the walk of hitac over goals, with nodes for goals.
use Rattle.std.specs.Prelude.{ℕ, ◌+◌, Bool, cond, ◌&&◌, List, [], ◌∷◌, ltb, length}
use Rattle.std.proofs.Math.Option.{Option, none, some}
use Rattle.format.specs.declared.values.RuleName.{RuleName}
use Rattle.format.specs.declared.refusals.Cause.TheVariants.{RuleMissing, GoalCountWrong, InputTooLong}
use Rattle.format.specs.Results.{Result, gives, refused}
use Rattle.format.specs.Terms.{atomic, id, label, sequence, tensor, empty, alternation, assert, defined}
use Rattle.tables.specs.Tables.{Table}
use Rattle.tables.specs.Lookup.{FoundRule, find_rule}
use Rattle.hitac.proofs.Nodes.{Cell, cell_at, goal_of, NodeWalk, mark_use}
use Rattle.walks.specs.Walks.{Out, out, Act, on_one_value}
use Rattle.nodes.specs.Space.{most_nodes}

abbrev pub out_of : NodeWalk → Out Cell
out_of x = out x.cells x.nodes

-- the node becomes a use of the rule that was found
unfoldable pub use_found : RuleName → (place : ℕ) → List Cell → (node : ℕ) → Option FoundRule → Result (Out Cell)
use_found a p A n none = refused RuleMissing p
use_found a p A n (some r) = gives (out_of (mark_use a A n (goal_of (cell_at A n)) r.premises))

-- the node is there, and there is room for eight more
abbrev pub fits : List Cell → (node : ℕ) → Bool
fits A n = ltb n (length A) && ltb (length A + 7) most_nodes

-- No walk comes to a node that does not fit: a cause that no term has says so.
unfoldable pub use_node : Table → RuleName → (place : ℕ) → List Cell → (node : ℕ) → Result (Out Cell)
use_node T a p A n = cond (fits A n) (use_found a p A n (find_rule T a (goal_of (cell_at A n)))) (refused InputTooLong p)

unfoldable pub on_no_node : (place : ℕ) → List Cell → List ℕ → Result (Out Cell)
on_no_node p A [] = gives (out A [])
on_no_node p A (n ∷ ns) = refused GoalCountWrong p

-- Labels, sequences and tensors are taken apart before; the last three forms stand in no hiproof.
unfoldable pub node_act : Table → Act Cell
node_act T (atomic a) p A ns = on_one_value p (use_node T a p A) ns
node_act T id p A ns = on_one_value p (λ n. gives (out A (n ∷ []))) ns
node_act T (label l s) p A ns = refused GoalCountWrong p
node_act T (sequence s t) p A ns = refused GoalCountWrong p
node_act T (tensor s t) p A ns = refused GoalCountWrong p
node_act T empty p A ns = on_no_node p A ns
node_act T (alternation s t) p A ns = refused GoalCountWrong p
node_act T (assert γ) p A ns = refused GoalCountWrong p
node_act T (defined n) p A ns = refused GoalCountWrong p
