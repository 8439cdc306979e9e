-- `begin_defined` meets its contract: by what the look-up finds.
-- Assumes nothing.
use mathlib.Core.Path.{refl}
use Rattle.search_machine.proofs.BeginLaws.{body_missing, body_found}
use Rattle.search_machine.proofs.state.State.begin_defined.Goals as goal

pub returns-in-None-clause-begun : goal.returns-in-None-clause-begun
returns-in-None-clause-begun c = (body_missing c.args.work.now c.args.self c.requires.0 c.args.table.now c.args.first c.args.down c.args.number _ c.in-None.ensures _ refl c.fail.ensures).0

pub returns-in-Some-clause-begun : goal.returns-in-Some-clause-begun
returns-in-Some-clause-begun c = (body_found c.args.work.now c.args.self c.requires.0 c.args.table.now c.args.first c.args.down c.args.number _ c.in-Some.ensures _ _ refl c.enter.ensures).0
