-- Laws of a run for every table, by induction over the budget: a run goes on where it halted, a run that has ended stays, and a run that has not
-- ended has used its whole budget. Assumes nothing.
use Prim.Native.Nat.{ℕ, zero, suc, ◌+◌, ◌-◌, ◌≤◌}
use mathlib.Core.Path.{◌≡◌, refl, ap, ◌∙◌, subst}
use mathlib.Core.List.{List, []}
use native.Mathlib.Omega.{arith}
use native.Mathlib.Nat.{zero-add, suc-add}
use Rattle.format.specs.declared.values.Goal.{Goal}
use Rattle.format.specs.Terms.{Term}
use Rattle.tables.specs.Tables.{Table}
use Rattle.evaluation.specs.Outcomes.{Ending}
use Rattle.evaluation.specs.Machine.{Place, Control, running, stopped, State, after, Running, begin, step_from, step, run, start}

module _ (T : Table) where
  -- GOING ON (P1): after b steps, c more are a run of b + c.
  pub run_add : (b c : ℕ) (σ : State) → run T (b + c) σ ≡ run T c (run T b σ)
  unfolding run
  run_add zero c σ = rw zero-add
  run_add (suc b) c σ = rw suc-add (run_add b c (step T σ))

  pub run_stopped : (b n : ℕ) (e : Ending) → run T b (after n (stopped e)) ≡ after n (stopped e)
  unfolding run step step_from
  run_stopped zero n e = refl
  run_stopped (suc b) n e = run_stopped b n e

  -- MORE BUDGET, SAME ANSWER (P14): a run that has ended under b is the same under every larger budget.
  pub more_budget : (b c : ℕ) (σ : State) (n : ℕ) (e : Ending) → run T b σ ≡ after n (stopped e) → b ≤ c → run T c σ ≡ after n (stopped e)
  more_budget b c σ n e q h =
      let p : c ≡ b + (c - b) = omega arith in
      ap (λ (x : ℕ). run T x σ) p ∙ run_add b (c - b) σ ∙ ap (run T (c - b)) q ∙ run_stopped (c - b) n e

  -- A run that has not ended has used its whole budget.
  running_steps : (b n : ℕ) (κ : Control) → Running (run T b (after n κ)).control → (run T b (after n κ)).steps ≡ n + b
  unfolding run step step_from
  running_steps zero n (running π t g w) r = omega arith
  running_steps zero n (stopped e) r = absurd r
  running_steps (suc b) n (running π t g w) r = running_steps b (suc n) (begin T π t g w) r ∙ (omega arith)
  running_steps (suc b) n (stopped e) r = absurd (subst (λ (σ : State). Running σ.control) (run_stopped b n e) r)

  -- No run takes more steps than its budget.
  steps_within : (b n : ℕ) (κ : Control) → (run T b (after n κ)).steps ≤ n + b
  unfolding run step step_from
  steps_within zero n κ = omega arith
  steps_within (suc b) n (running π t g w) = omega (arith, steps_within b (suc n) (begin T π t g w))
  steps_within (suc b) n (stopped e) = omega (arith, ap (λ (σ : State). σ.steps) (run_stopped b n e))

  -- SPENT: when a run has not ended, its steps are the budget;
  pub spent_steps : (b : ℕ) (π : Place) (t : Term) (g : List Goal) → Running (run T b (start π t g)).control → (run T b (start π t g)).steps ≡ b
  unfolding start
  spent_steps b π t g r = running_steps b 0 (running π t g []) r ∙ zero-add b

  -- and they are never more.
  pub run_steps : (b : ℕ) (π : Place) (t : Term) (g : List Goal) → (run T b (start π t g)).steps ≤ b
  unfolding start
  run_steps b π t g = omega (arith, steps_within b 0 (running π t g []))
