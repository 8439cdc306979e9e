-- `print::print_forest` meets its contract: the state of the pass is kept by each node that is printed.
-- Assumes nothing.
use Rattle.std.proofs.Common.{◌-◌}
use Rattle.flattener.proofs.PassLaws.{Running}
use Rattle.flattener.proofs.print.print_forest.Given as goal

abbrev pub invariant-loop : goal.invariant-loop
invariant-loop l = Running l.initial.work l.initial.out l.roots l.nodes l.at l.work l.out l.here.top l.here.at (l.nodes - l.counter)
