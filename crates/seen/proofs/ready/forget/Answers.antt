-- `ready::forget` meets its contract: one law for each return.
-- Assumes nothing.
use mathlib.Core.Path.{sym, ◌∙◌}
use native.Mathlib.Omega.{arith}
use Rattle.tables.proofs.SearchLaws.{value_inside}
use Rattle.seen.proofs.ReadyLaws.{left_alone, forgotten}
use Rattle.seen.proofs.ready.forget.Goals as goal

pub returns-then-s-at : goal.returns-then-s-at
returns-then-s-at c = left_alone _ _ _ _ _ (λ e. c.if-s-at.true (e ∙ sym c.tag.ensures))

pub load16-value-requires : goal.load16-value-requires
load16-value-requires c = omega (arith, value_inside c.args.kind c.args.s.now c.args.at (c.if-s-at.false ∙ c.tag.ensures) c.requires.0)

pub returns : goal.returns
returns c = forgotten _ _ _ _ _ _ c.load16-value.ensures c.requires.1
