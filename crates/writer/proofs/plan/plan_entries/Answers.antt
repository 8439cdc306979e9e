-- `plan::plan_entries` meets its contract: at each turn of the loop the entries before the place are planned.
-- Assumes nothing.
use Rattle.std.proofs.Common.{arith}
use Rattle.writer.proofs.PlanTurns.{PlannedTo, plan_start, plan_done, open_room, open_turn, use_room, use_inside, use_turn}
use Rattle.writer.proofs.plan.plan_entries.Goals.{At-loop-at, then-flat-at-eq-USE_TAG, else-flat-at-eq-USE_TAG}
use Rattle.writer.proofs.plan.plan_entries.Goals as goal

pub loop-at-init : goal.loop-at-init
loop-at-init c = λ T r st. plan_start T r _

-- the entries before the place, in the table of which the caller knows
so_far : (c : At-loop-at) → PlannedTo c.requires.rules_indexed.0.0 c.requires.entries_len_bound.0 c.loop-at.plan c.loop-at.at c.loop-at.to
so_far c = c.loop-at.invariant c.requires.rules_indexed.0.0 c.requires.entries_len_bound.0 c.requires.rules_indexed.0.1

pub value_at-name-requires : goal.value_at-name-requires
value_at-name-requires c = omega (arith, use_inside _ (so_far (goal.at.value_at-name-requires c).At-loop-at) c.loop-at-test.true c.if-flat-at-eq-USE_TAG.true)

pub premises_of-count-requires-clause-at_in_bounds : goal.premises_of-count-requires-clause-at_in_bounds
premises_of-count-requires-clause-at_in_bounds c = use_inside _ (so_far (goal.at.premises_of-count-requires-clause-at_in_bounds c).At-loop-at) c.loop-at-test.true c.if-flat-at-eq-USE_TAG.true

pub plan_use-requires : goal.plan_use-requires
plan_use-requires c =
    (use_room _ (so_far (goal.at.plan_use-requires c).At-loop-at) c.loop-at-test.true c.if-flat-at-eq-USE_TAG.true c.requires.entries_len_bound.1, omega (arith, c.premises_of-count.ensures.few))

pub plan_open-requires : goal.plan_open-requires
plan_open-requires c = open_room _ (so_far (goal.at.plan_open-requires c).At-loop-at) c.loop-at-test.true c.if-flat-at-eq-USE_TAG.false c.requires.entries_len_bound.1

pub overflow_add-to : goal.overflow_add-to
overflow_add-to c =
    let here = so_far (goal.at.overflow_add-to c).At-loop-at in
    elim c.if-flat-at-eq-USE_TAG.branch [
      | then-flat-at-eq-USE_TAG w ↦ omega (arith, use_room _ here c.loop-at-test.true w.if-flat-at-eq-USE_TAG.true c.requires.entries_len_bound.1)
      | else-flat-at-eq-USE_TAG w ↦ omega (arith, open_room _ here c.loop-at-test.true w.if-flat-at-eq-USE_TAG.false c.requires.entries_len_bound.1)
    ]

pub loop-at-preserved : goal.loop-at-preserved
loop-at-preserved c =
    λ T r st. elim c.if-flat-at-eq-USE_TAG.branch [
      | then-flat-at-eq-USE_TAG w ↦
          let count = w.premises_of-count.ensures in
          rw (w.plan-is, w.at-is) (use_turn T (c.loop-at.invariant T r st) c.loop-at-test.true w.if-flat-at-eq-USE_TAG.true _ _ _ w.plan_use.ensures w.value_at-name.ensures (count.value T st) count.few)
      | else-flat-at-eq-USE_TAG w ↦ rw (w.plan-is, w.at-is) (open_turn T (c.loop-at.invariant T r st) c.loop-at-test.true w.if-flat-at-eq-USE_TAG.false _ _ w.plan_open.ensures)
    ]

pub returns : goal.returns
returns c = λ T r st. plan_done T (c.loop-at.invariant T r st) c.loop-at-test.false
