-- From what is saved of the waiting terms all goals of each alternation are rebuilt: by the theorem of hitac that goals are shared, and as many are rebuilt as are
-- counted. Assumes nothing.
use Prim.Native.Nat.{ℕ}
use mathlib.Core.Path.{subst, sym}
use mathlib.Core.List.{List, [], ◌∷◌}
use lib.ListN.{length}
use Rattle.format.specs.declared.values.Goal.{Goal}
use Rattle.evaluation.specs.Machine.{Frame}
use Rattle.evaluation.specs.Halts.{held_goals, Shared}
use Rattle.evaluation.proofs.SharedGoals.{held-length, run_shared}
use Rattle.run_promises.specs.OwnGoals.{Rebuilds, Own-goals}
use Rattle.run_promises.proofs.RunPromises.{at_job}

rebuilds : (y : List Goal) (w : List Frame) → Shared y w → Rebuilds (length y) y w
unfolding Shared Rebuilds
rebuilds y [] s = tt
rebuilds y (f ∷ w) s = (s.0, subst (λ (x : ℕ). Rebuilds x (held_goals y f) w) (sym (held-length y f s.0)) (rebuilds (held_goals y f) w s.1))

pub own_goals_lem : Own-goals
own_goals_lem t f n x = rebuilds x.goals x.waiting (run_shared x.table n n (at_job x.job) x.place x.job.term x.term x.job.goals x.goals x.waiting x.stands)
