-- The measure of a tree is twice what is left of the plan, a forest's one more.
use Rattle.std.proofs.Common.{◌+◌, ◌-◌, ◌*◌}
use Rattle.writer.specs.Plan.{plan_size}
use Rattle.writer.proofs.trees.+write_forest_write_tree.Given as goal

abbrev pub decreases-write_forest : goal.decreases-write_forest
decreases-write_forest l = 2 * (plan_size - l.at) + 1

abbrev pub decreases-write_tree : goal.decreases-write_tree
decreases-write_tree l = 2 * (plan_size - l.at)
