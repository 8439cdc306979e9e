-- `go_on::go_on` meets its contract: by the comparison.
-- Assumes nothing.
use Rattle.halting.proofs.GoOnLaws.{save_given, other_end, steps_given, answer_given, on_end}
use Rattle.halting.proofs.go_on.go_on.Goals as goal

pub is_own-requires : goal.is_own-requires
is_own-requires c = save_given _ _ _ _ _ _ _ c.requires

pub returns-then-not-is_own : goal.returns-then-not-is_own
returns-then-not-is_own c = other_end _ _ _ _ _ _ _ c.requires _ c.is_own.ensures.value c.if-not-is_own.true _ c.refused-answer.ensures _ _ _ c.refused.ensures

pub run_steps-state-requires : goal.run_steps-state-requires
run_steps-state-requires c = steps_given _ _ _ _ _ _ _ c.requires _ c.is_own.ensures.value c.if-not-is_own.false _ c.is_own.auto.work c.is_own.ensures.kept

pub answered-requires : goal.answered-requires
answered-requires c = answer_given _ _ _ _ _ _ _ c.requires _ c.is_own.ensures.value c.if-not-is_own.false _ c.is_own.auto.work c.is_own.ensures.kept _ _ c.run_steps-state.ensures

pub returns : goal.returns
returns c = on_end _ _ _ _ _ _ _ c.requires _ c.is_own.ensures.value c.if-not-is_own.false _ c.is_own.auto.work c.is_own.ensures.kept _ _ c.run_steps-state.ensures _ _ _ c.answered.ensures
