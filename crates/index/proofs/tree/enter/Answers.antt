-- `tree::enter` meets its contract: one law of EnterLaws for each return.
-- Assumes nothing.
use Rattle.std.specs.Prelude.{Err}
use mathlib.Core.Path.{ap, ◌∙◌}
use Prim.Native.Nat.{◌<◌}
use native.Mathlib.Omega.{arith}
use Rattle.tables.proofs.SearchLaws.{value_inside}
use Rattle.index.proofs.EnterLaws.{slot_inside, there, new_one, new_head}
use Rattle.index.proofs.tree.enter.Goals as goal
use Rattle.index.proofs.tree.enter.Goals.{In-Side}

pub load16-value-requires : goal.load16-value-requires
load16-value-requires c = omega (arith, value_inside c.args.kind c.args.s.now c.args.at c.requires.tagged.0 c.requires.tagged.1)

pub returns-in_default : goal.returns-in_default
returns-in_default c = there _ _ _ _ _ _ c.requires.tagged.0 c.requires.tagged.1 c.requires.tagged.2 c.requires.tagged.4 c.requires.tagged.5 _ _ c.load16-value.ensures c.second-more.ensures _ c.seek.ensures _ c.in_default.is

slot : (c : In-Side) → c.in-Side.node < c.args.count
slot c = slot_inside _ _ _ _ _ _ c.requires.tagged.0 c.requires.tagged.1 c.requires.tagged.2 c.requires.tagged.4 c.requires.tagged.5 _ _ c.load16-value.ensures c.second-more.ensures _ c.seek.ensures _ _ (c.in-Err.is ∙ ap Err c.in-Side.is) _ c.requires.by_index.1

pub overflow_mul-node : goal.overflow_mul-node
overflow_mul-node c = omega (arith, slot (goal.at.overflow_mul-node c).In-Side, c.requires.tagged.4)

pub overflow_add-base-in-Side : goal.overflow_add-base-in-Side
overflow_add-base-in-Side c = omega (arith, slot (goal.at.overflow_add-base-in-Side c).In-Side, c.requires.tagged.5)

pub set_link-requires : goal.set_link-requires
set_link-requires c = (omega (arith, slot (goal.at.set_link-requires c).In-Side, c.put_node.auto.w, c.requires.tagged.5), c.requires.tagged.4)

pub returns-in-Side : goal.returns-in-Side
returns-in-Side c = new_one _ _ _ _ _ _ c.requires.tagged.0 c.requires.tagged.1 c.requires.tagged.2 c.requires.tagged.4 c.requires.tagged.5 _ _ c.load16-value.ensures c.second-more.ensures _ c.seek.ensures _ _ (c.in-Err.is ∙ ap Err c.in-Side.is) _ c.requires.by_index.1 _ _ c.put_node.ensures c.set_link.ensures

pub returns-in-Head : goal.returns-in-Head
returns-in-Head c = new_head _ _ _ _ _ _ c.requires.tagged.0 c.requires.tagged.1 c.requires.tagged.2 c.requires.tagged.4 c.requires.tagged.5 _ _ c.load16-value.ensures c.second-more.ensures _ c.seek.ensures (c.in-Err.is ∙ ap Err c.in-Head.is) _ c.digits_of.ensures _ _ c.put_node.ensures c.set_head.ensures
