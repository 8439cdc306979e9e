-- `walk::walk` meets its contract: each step leaves the whole walk's outcome as it is, and begins a term further on.
-- Assumes nothing.
use mathlib.Core.List.{List}
use Prim.Native.Nat.{◌-◌}
use lib.ListN.{length}
use Rattle.tables.specs.Tables.{Table}
use Rattle.walks.specs.Made.{Made}
use Rattle.walks.specs.Loops.{Aim, Begins, start_of}
use Rattle.walks.specs.Leaves.{Still}
use Rattle.walks.proofs.walk.walk.Given as goal

-- whatever the walk began with, the leaves are ready and a term is to begin
abbrev pub invariant-loop-next : goal.invariant-loop-next
invariant-loop-next g l = (T : Table) (x : Aim (Made g.L.Leaves.code)) (A : List (Made g.L.Leaves.code)) → Still (λ B s w. g.L.Leaves.ready l.initial.leaves T x B s w) A l.proof l.initial.work → Begins (g.L.Leaves.acts T) x A l.proof l.initial.work (start_of l.at l.count)
    → (B : List (Made g.L.Leaves.code)) × Still (λ B s w. g.L.Leaves.ready l.leaves T x B s w) B l.proof l.work × Begins (g.L.Leaves.acts T) x B l.proof l.work l.n

abbrev pub decreases-loop-next : goal.decreases-loop-next
decreases-loop-next g l = length l.proof - l.n.at
