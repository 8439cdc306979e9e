-- `walks::walk` meets its contract: every turn leaves less to do.
-- Assumes nothing.
use native.Mathlib.Omega.{arith}
use Rattle.arity_notes.proofs.EndLaws.{between_start, between_given, between_left, between_next, walk_ends}
use Rattle.arity_notes.proofs.walks.walk.Goals as goal

pub loop-init : goal.loop-init
loop-init c = between_start _ _ _ _ _ _

pub returns-then-s-eq0 : goal.returns-then-s-eq0
returns-then-s-eq0 c = walk_ends _ _ _ _ _ _ c.requires _ _ _ c.loop.invariant c.if-s-eq0.true

pub turn-s-requires : goal.turn-s-requires
turn-s-requires c = (between_given _ _ _ _ _ _ c.requires _ _ _ c.loop.invariant, omega (arith, c.if-s-eq0.false))

pub loop-preserved : goal.loop-preserved
loop-preserved c = between_next _ _ _ _ _ _ c.requires _ _ _ c.loop.invariant _ _ c.turn-s.auto.work c.turn-s.ensures _ (omega (arith, between_left _ _ _ _ _ _ c.requires _ _ _ c.loop.invariant))

pub returns : goal.returns
returns c = absurd (omega (arith, between_left _ _ _ _ _ _ c.requires _ _ _ c.loop.invariant))
