-- `begin_defined` meets its contract: by what is found.
-- Assumes nothing.
use mathlib.Core.Path.{refl}
use Rattle.machine.proofs.FormLaws.{body_missing, body_found}
use Rattle.machine.proofs.state.State.begin_defined.Goals as goal

pub returns-in-None-clause-begun : goal.returns-in-None-clause-begun
returns-in-None-clause-begun c =
    let a = c.args in
    body_missing a.work.now a.self c.requires.0.room a.table.now a.first a.number _ c.in-None.ensures _ refl c.lose.ensures

pub returns-in-Some-clause-begun : goal.returns-in-Some-clause-begun
returns-in-Some-clause-begun c =
    let a = c.args in
    body_found a.work.now a.self c.requires.0.room a.table.now a.first a.number _ c.in-Some.ensures _ refl
