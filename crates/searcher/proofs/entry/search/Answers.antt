-- `entry::search` meets its contract: 29 before anything is read, else what `search_limits` leaves, and the work space cleared.
-- Assumes nothing.
use mathlib.Core.Path.{ap, ◌∙◌}
use Prim.Native.Nat.{ℕ}
use lib.ListN.{replicate}
use Rattle.format.specs.Refusals.{number}
use Rattle.entries.specs.LentSpace.{Written}
use Rattle.entries.specs.Search.{search_work, search_outcome, search_tactic}
use Rattle.entries.proofs.LeftLaws.{unbegun_end, begun_end}
use Rattle.searcher.proofs.entry.search.Goals as goal

pub returns-then-work-lt-SPACE_END : goal.returns-then-work-lt-SPACE_END
unfolding search_tactic number
returns-then-work-lt-SPACE_END c =
    let a = c.args in
    let r = unbegun_end search_work a.work.now a.out.now (search_outcome a.table.now a.job.now a.height a.budget) _ c.if-work-lt-SPACE_END.true c.refused.ensures in
    record { value = r.0; work_after = r.1.0; out_after = r.1.1 }

pub returns : goal.returns
unfolding search_tactic
returns c =
    let a = c.args in
    let r = begun_end search_work a.work.now a.out.now (search_outcome a.table.now a.job.now a.height a.budget) _ _ _ c.if-work-lt-SPACE_END.false (ap (λ (x : Written). x.answer) c.search_limits-answer.ensures) (c.clear.ensures ∙ ap (λ (n : ℕ). replicate n 0) c.search_limits-answer.auto.work) (ap (λ (x : Written). x.out) c.search_limits-answer.ensures) in
    record { value = r.0; work_after = r.1.0; out_after = r.1.1 }
