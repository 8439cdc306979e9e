-- `entry::run` meets its contract: 29 before anything is read, else what `run_budget` leaves, and the work space cleared.
-- Assumes nothing.
use mathlib.Core.Path.{ap, ◌∙◌}
use Prim.Native.Nat.{ℕ}
use lib.ListN.{replicate}
use Rattle.format.specs.Refusals.{number}
use Rattle.entries.specs.LentSpace.{Written}
use Rattle.entries.specs.Run.{run_work, run_outcome, run_tactic}
use Rattle.entries.proofs.LeftLaws.{unbegun_end, begun_end}
use Rattle.runner.proofs.entry.run.Goals as goal

pub returns-then-work-lt-SPACE_END : goal.returns-then-work-lt-SPACE_END
unfolding run_tactic number
returns-then-work-lt-SPACE_END c =
    let a = c.args in
    let e = unbegun_end run_work a.work.now a.out.now (run_outcome a.table.now a.job.now a.budget) _ c.if-work-lt-SPACE_END.true c.refused.ensures in
    record { value = e.0; work_after = e.1.0; out_after = e.1.1 }

pub returns : goal.returns
unfolding run_tactic
returns c =
    let a = c.args in
    let e = begun_end run_work a.work.now a.out.now (run_outcome a.table.now a.job.now a.budget) _ _ _ c.if-work-lt-SPACE_END.false (ap (λ (x : Written). x.answer) c.run_budget-answer.ensures) (c.clear.ensures ∙ ap (λ (n : ℕ). replicate n 0) c.run_budget-answer.auto.work) (ap (λ (x : Written). x.out) c.run_budget-answer.ensures) in
    record { value = e.0; work_after = e.1.0; out_after = e.1.1 }
