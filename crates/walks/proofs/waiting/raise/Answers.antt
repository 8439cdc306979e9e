-- `waiting::raise` meets its contract: two bytes, one after another, or the loop.
-- Assumes nothing.
use mathlib.Core.Path.{sym, ap, ◌∙◌}
use native.Mathlib.Omega.{arith}
use lib.ListN.{drop}
use lib.Seq.{paste}
use Rattle.walks.proofs.MoveLaws.{two_moved}
use Rattle.walks.proofs.waiting.raise.Goals as goal

pub returns-then-n-eq2 : goal.returns-then-n-eq2
returns-then-n-eq2 c =
    let e = c.if-n-eq2.true in
    two_moved c.args.work.now c.args.from c.args.to c.requires.0 (omega (arith, e, c.requires.1)) ∙ ap (paste c.args.work.now c.args.to (drop c.args.from c.args.work.now)) (sym e)
