-- `arity::right_of` meets its contract: behind the first inner term, by the length in its header.
-- Assumes nothing.
use native.Mathlib.Omega.{arith}
use Rattle.arities.proofs.ArityLaws.{right_place}
use Rattle.arities.proofs.arity.right_of.Goals as goal

pub overflow_add-result : goal.overflow_add-result
overflow_add-result c = let p = c.requires in omega (arith, p.0, right_place c.args.src.now c.args.at p.1.0 p.1.1 p.1.2)

pub overflow_add-at : goal.overflow_add-at
overflow_add-at c = let p = c.requires in omega (arith, p.0, right_place c.args.src.now c.args.at p.1.0 p.1.1 p.1.2)

pub load16-requires : goal.load16-requires
load16-requires c = let p = c.requires in omega (arith, right_place c.args.src.now c.args.at p.1.0 p.1.1 p.1.2)

pub overflow_add-result-2 : goal.overflow_add-result-2
overflow_add-result-2 c = let p = c.requires in omega (arith, p.0, right_place c.args.src.now c.args.at p.1.0 p.1.1 p.1.2, c.load16.ensures)

pub overflow_cast-result-2 : goal.overflow_cast-result-2
overflow_cast-result-2 c = let p = c.requires in omega (arith, p.0, right_place c.args.src.now c.args.at p.1.0 p.1.1 p.1.2, c.load16.ensures)

pub returns : goal.returns
returns c = λ t u q. omega (arith, right_place c.args.src.now c.args.at t u q, c.load16.ensures)
