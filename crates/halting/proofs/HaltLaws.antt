-- The last state of a run: a term is to begin in it exactly if the machine's state is saved, and then the code's state is one that can be saved.
-- Assumes nothing.
use Prim.Native.Nat.{ℕ, ◌≤◌}
use mathlib.Core.Path.{◌≡◌, refl, sym, ap}
use mathlib.Core.List.{List}
use mathlib.Core.Option.{none, some}
use native.Mathlib.Omega.{arith}
use Rattle.format.specs.declared.values.Goal.{Goal}
use Rattle.format.specs.Limits.{most_steps}
use Rattle.format.specs.Terms.{Term}
use Rattle.tables.proofs.ReadsTable.{reads_few_premises}
use Rattle.files.specs.Counts.{job_term_place}
use Rattle.evaluation.specs.Machine as M
use Rattle.evaluation.specs.Machine.{running, after, run}
use Rattle.evaluation.proofs.HaltBounds.{held_goals_lem}
use Rattle.evaluation.proofs.SharedGoals.{run_shared}
use Rattle.entries.specs.Run.{begins}
use Rattle.entries.specs.SavedState.{saved_size, saved_contents, zeros_to, saved_in, saved_state}
use Rattle.entries.proofs.SavedStateLaws.{contents_fit}
use Rattle.machine.specs.declared.state.State.{State}
use Rattle.machine.specs.Shows.{Runs}
use Rattle.runner.specs.LastState.{Reached}
use Rattle.runner.proofs.RunLaws.{if_running, if_stopped}
use Rattle.saver.specs.Save.{Halts}
use Rattle.saver.proofs.PlaceLaws.{halted_files}
use Rattle.halting.specs.Halted.{HaltsWith, Keeps}

module _ (t s : List ℕ) (b : ℕ) (w : List ℕ) (x : State) (first term : ℕ) (q : Reached t s b w x first term) (fits : b ≤ most_steps) where
  -- the machine's state
  abbrev σ : M.State
  σ = run q.table b (begins q.job)

  abbrev from : M.Place
  from = record { file = 1; at = job_term_place q.job }

  pub steps_stand : σ ≡ after x.steps σ.control
  steps_stand = λ i. record { steps = sym q.shows.steps_are i; control = σ.control }

  halts_at : (π : M.Place) (u : Term) (g : List Goal) (k : List M.Frame) → Runs t s w x π u g k → σ ≡ after x.steps (running π u g k) → Halts w x
  halts_at π u g k r e =
      let files = halted_files q.table b x.steps from π q.job.term u q.job.goals g k (omega arith) e in
      let few = held_goals_lem q.table (λ a γ h m. reads_few_premises t q.table q.table_reads _ m) b x.steps from π q.job.term u q.job.goals g k q.job_stands.goals_stand.few e in
      record {
        table = t;
        job = s;
        table_small = q.table_small;
        job_small = omega (arith, q.job_stands.short);
        place = π;
        term = u;
        goals = g;
        frames = k;
        runs = r;
        few_steps = omega (arith, q.few_steps);
        file_known = files.0;
        in_files = files.1;
        shared = run_shared q.table b x.steps from π q.job.term u q.job.goals g k e;
        goals_counted = omega (arith, few, r.held_is, r.sizes.held_fits);
        fits = contents_fit t s q.table q.job q.table_reads q.job_reads b fits x.steps π u g k e;
      }

  pub keeps : Keeps w x (saved_state σ)
  unfolding saved_state saved_in halts_at
  keeps = record {
    ended = λ n. if_stopped t s w x (λ κ. saved_in σ.steps κ ≡ none) n (λ e h. refl) σ.control q.shows.shows;
    halted = λ m.
        if_running t s w x (λ κ. σ ≡ after x.steps κ → HaltsWith w x (saved_in σ.steps κ)) m
        (λ π u g k r e. record { halts = halts_at π u g k r e; saved_is = ap (λ (n : ℕ). some (zeros_to saved_size (saved_contents n π g k))) (sym q.shows.steps_are) })
        σ.control q.shows.shows steps_stand;
  }
