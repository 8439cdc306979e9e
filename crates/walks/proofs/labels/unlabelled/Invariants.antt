-- `labels::unlabelled` meets its contract. The invariant: the term inside the labels of the whole is that inside the labels from here on.
-- Assumes nothing.
use mathlib.Core.Path.{◌≡◌}
use Prim.Native.Nat.{◌-◌}
use lib.ListN.{length}
use Rattle.format.specs.Terms.{Term}
use Rattle.format.specs.Standing.{Stands}
use Rattle.walks.specs.Labels.{bare_at}
use Rattle.walks.proofs.labels.unlabelled.Given as goal

abbrev pub invariant-loop-place : goal.invariant-loop-place
invariant-loop-place l = ((u : Term) × Stands l.s l.place u) × ((t : Term) → Stands l.s l.at t → (u : Term) × Stands l.s l.place u × (bare_at l.at t ≡ bare_at l.place u))

abbrev pub decreases-loop-place : goal.decreases-loop-place
decreases-loop-place l = length l.s - l.place
