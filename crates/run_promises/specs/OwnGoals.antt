-- Document 02, P1: "the waiting terms, each with its goals still to come". What is saved of a waiting term are its own goals, which no term inside it holds; from
-- these and the goals of the term to begin one rebuilds all goals of each alternation, for a debugger to show.
use Rattle.std.specs.Prelude.{ℕ, List, [], ◌∷◌, length}
use Rattle.format.specs.declared.values.Goal.{Goal}
use Rattle.evaluation.specs.Machine.{Frame}
use Rattle.evaluation.specs.Halts.{stage, own_goals, held_of, rebuilt, IsWhole}
use Rattle.run_promises.specs.HaltingPromises.{HaltsAfter}

-- From the innermost waiting term on, by the stage and the goals that `waiting_terms` writes of each, and the goals rebuilt inside it.
unfoldable pub Rebuilds : (held : ℕ) → (inside : List Goal) → List Frame → Type 0
Rebuilds x y [] = Unit {0}
Rebuilds x y (f ∷ w) = IsWhole f (rebuilt y (stage f) (own_goals x f)) × Rebuilds (held_of x f) (rebuilt y (stage f) (own_goals x f)) w

abbrev pub Own-goals : Type 0
Own-goals = (t f : List ℕ) (n : ℕ) (x : HaltsAfter t f n) → Rebuilds (length x.goals) x.goals x.waiting
