-- `Next::resume` meets its contract: one law of `ResumeLaws` for each return; the invariant says that what was given at the start is what is given now.
-- Assumes nothing.
use mathlib.Core.Path.{◌≡◌}
use mathlib.Core.List.{List}
use Rattle.walks.specs.Walks.{Act}
use Rattle.walks.specs.Made.{WalkCode, Made}
use Rattle.walks.specs.Loops.{Aim, Gave}
use Rattle.walks.proofs.ResumeLaws.{Resumes}
use Rattle.walks.proofs.state.Next.resume.Given as goal

-- the work space is as it was, and whatever the term gave at the start is what is given now
abbrev pub invariant-loop-last : goal.invariant-loop-last
invariant-loop-last l =
    (l.work ≡ l.initial.work)
    × Resumes l.proof l.work l.start l.count l.end l.last
    × ((k : WalkCode) (act : Act (Made k)) (x : Aim (Made k)) (A : List (Made k)) → Gave act x A l.proof l.initial.work l.at l.self.low l.fn.ended.given l.end l.self.frames l.self.arity l.uses → Gave act x A l.proof l.work l.at l.start l.count l.end l.last l.self.arity l.uses)

abbrev pub decreases-loop-last : goal.decreases-loop-last
decreases-loop-last l = l.last
