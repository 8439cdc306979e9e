-- A job: its first state shows the machine's, the run is the machine's run, and its last state says which of the entry's outcomes it is.
-- Assumes nothing.
use Prim.Native.Nat.{ℕ, ◌+◌, ◌*◌, ◌≤◌, ◌<◌}
use mathlib.Core.Path.{◌≡◌, refl, sym, ap, subst}
use mathlib.Core.List.{List, []}
use native.Mathlib.Omega.{arith}
use lib.ListN.{length, drop}
use lib.Seq.{paste}
use Rattle.format.specs.declared.values.Goal.{Goal}
use Rattle.format.specs.Limits.{most_held}
use Rattle.format.specs.declared.refusals.Cause.{Cause}
use Rattle.format.specs.declared.refusals.Cause.TheVariants.{JoinedTooLong, TacticFailed, BudgetSpent, FieldsTooMany}
use Rattle.format.specs.Refusals.{number}
use Rattle.format.specs.Terms.{Term, size}
use Rattle.format.specs.Standing.{Stands}
use Rattle.tables.specs.Tables.{Table, UniqueDefinitions}
use Rattle.tables.specs.Standing.{TableStands}
use Rattle.files.specs.declared.jobs.JobParts.{JobParts}
use Rattle.files.specs.Proofs.{proof_bytes}
use Rattle.files.specs.Jobs.{Job}
use Rattle.files.specs.Counts.{job_term_place}
use Rattle.files.specs.Standing.{JobStands}
use Rattle.files.proofs.Sizes.{size_most}
use Rattle.evaluation.specs.Machine as M
use Rattle.evaluation.specs.Machine.{running, stopped, after}
use Rattle.answers.specs.declared.Answer.{Answer}
use Rattle.answers.specs.Answers as said
use Rattle.entries.specs.Outcomes.{success}
use Rattle.entries.specs.Run.{run_end}
use Rattle.entries.specs.Left.{kept, left_in}
use Rattle.entries.proofs.LeftLaws.{refuses}
use Rattle.arities.specs.Layout.{output_end, frames_end}
use Rattle.arities.specs.Arities.{ArityTable, arities}
use Rattle.arities.specs.Rounds.{FillGiven, Filled}
use Rattle.tactics.specs.Memory.{Only}
use Rattle.tactics.specs.File.{file_size, FileGiven, FileWritten}
use Rattle.tactics.proofs.MemoryLaws.{only_copy}
use Rattle.tactics.proofs.JobLaws.{same_place, place_small, goals_few, goals_inside, term_place_lem, term_stands, goals_copied}
use Rattle.tactics.proofs.EntryLaws as entry
use Rattle.machine.specs.declared.state.Mode.{Mode}
use Rattle.machine.specs.declared.state.Mode.TheVariants as is
use Rattle.machine.specs.declared.state.State.{State}
use Rattle.machine.specs.Shows.{FramesAt, Proved, LimitMode, overflows, exceeds}
use Rattle.machine.proofs.WaitingLaws.{if_proved, if_failed, if_ended}
use Rattle.runner.specs.Run.{ShowsState, Started, Ran}
use Rattle.runner.specs.Jobs.{StartGiven, Starts, FinishGiven, Finishes, JobGiven, JobRan}
use Rattle.runner.proofs.RunLaws.{known_same, if_running, if_stopped}

-- the first state
abbrev start_state : JobParts → State
start_state parts = record { mode = is.Running; file = 1; at = parts.term; start = output_end; count = parts.goals; top = frames_end; arena = output_end + parts.goals * 2; out = 0; held = 0; steps = 0 }

pub start_few : (job : List ℕ) (parts : JobParts) (w : List ℕ) → StartGiven job parts w → (parts.goals ≤ 256) × (3 + parts.goals * 2 ≤ length job)
start_few job parts w q = (goals_few job q.the_job q.job_stands parts q.parts_are, goals_inside job q.the_job q.job_stands parts q.parts_are)

pub start_end : (job : List ℕ) (parts : JobParts) (w v : List ℕ) → StartGiven job parts w → v ≡ paste w output_end (drop 3 job) (parts.goals * 2) → Starts job parts w v (start_state parts)
unfolding FramesAt M.held
start_end job parts w v q e =
    let few = start_few job parts w q in
    let only : Only output_end (output_end + parts.goals * 2) w v =
    subst (λ (x : List ℕ). Only output_end (output_end + parts.goals * 2) w x) (sym e) (only_copy w job output_end 3 (parts.goals * 2) (omega (arith, few, q.space)) few.1) in
    record {
      same_length = only.same_length;
      beyond = λ i b. only.kept.above i (omega (arith, few, b));
      no_steps = refl;
      runs = λ table j st p. record {
        mode_is = refl;
        place_is = ap (λ (i : ℕ). record { file = 1; at = i }) (sym (term_place_lem job j st parts p));
        stands = term_stands job j st parts p;
        goals = record { low = omega arith; high = omega arith; few = few.0; are = goals_copied job j st parts p w v output_end e (omega (arith, few, q.space)) };
        frames = (refl, refl);
        held_is = refl;
        sizes = record { output_fits = omega arith; held_fits = omega arith; goals_low = omega arith; goals_fit = omega (arith, few.0); frames_fit = omega arith };
      };
    }

-- the cause of the limit that ended a run, by its mode
limit_cause : {mode : Mode} {c : Cause} → LimitMode mode c → (mode ≡ is.Overflowed → c ≡ JoinedTooLong) × (mode ≡ is.Exceeded → c ≡ FieldsTooMany)
limit_cause overflows = (λ e. refl, λ e. cc)
limit_cause exceeds = (λ e. cc, λ e. refl)

-- a limit leaves no other number
limit_not_other : {mode : Mode} {c : Cause} (n : ℕ) → LimitMode mode c → mode ≡ is.Other n → ⊥
limit_not_other n overflows e = cc
limit_not_other n exceeds e = cc

-- the end of a run, by the last state's mode
module _ (job w : List ℕ) (s : State) (o : List ℕ) (r : Answer) where
  pub spent_end : s.mode ≡ is.Running → r ≡ said.refusal (number BudgetSpent) 0 0 s.steps → Finishes job w s o r o
  unfolding run_end
  spent_end m q table j κ st h = if_running table job w s (λ x. kept r o ≡ left_in o (run_end j s.steps x)) m (λ π t g k i. refuses BudgetSpent (number BudgetSpent) 0 0 s.steps r o refl q) κ h

  pub failed_end : s.mode ≡ is.Failed → r ≡ said.refusal (number TacticFailed) 0 0 s.steps → Finishes job w s o r o
  unfolding run_end
  failed_end m q table j κ st h =
      if_stopped table job w s (λ x. kept r o ≡ left_in o (run_end j s.steps x)) (λ z. cc)
      (λ e i. if_failed table job w s [] (λ y. kept r o ≡ left_in o (run_end j s.steps (stopped y))) m (λ l. refuses TacticFailed (number TacticFailed) 0 0 s.steps r o refl q) e i) κ h

  -- by a limit, whose cause is the answer's
  limit_end : (d : Cause) → ((c : Cause) → LimitMode s.mode c → c ≡ d) → (s.mode ≡ is.Running → ⊥) → (s.mode ≡ is.Proved → ⊥) → (s.mode ≡ is.Failed → ⊥) → r ≡ said.refusal (number d) 0 0 s.steps
      → Finishes job w s o r o
  unfolding run_end
  limit_end d f n a b q table j κ st h =
      if_stopped table job w s (λ x. kept r o ≡ left_in o (run_end j s.steps x)) n
      (λ e x. if_ended table job w s [] (λ y. kept r o ≡ left_in o (run_end j s.steps (stopped y))) a b (λ c l. refuses c (number d) 0 0 s.steps r o (ap number (f c l.limit)) q) e x) κ h

  pub overflow_end : s.mode ≡ is.Overflowed → r ≡ said.refusal (number JoinedTooLong) 0 0 s.steps → Finishes job w s o r o
  overflow_end m = limit_end JoinedTooLong (λ c l. (limit_cause l).0 m) (λ z. cc) (λ z. cc) (λ z. cc)

  pub exceed_end : s.mode ≡ is.Exceeded → r ≡ said.refusal (number FieldsTooMany) 0 0 s.steps → Finishes job w s o r o
  exceed_end m = limit_end FieldsTooMany (λ c l. (limit_cause l).1 m) (λ z. cc) (λ z. cc) (λ z. cc)

  -- no run ends so
  pub other_end : (n : ℕ) → s.mode ≡ is.Other n → r ≡ said.refusal (number FieldsTooMany) 0 0 s.steps → Finishes job w s o r o
  other_end n m = limit_end FieldsTooMany (λ c l. absurd (limit_not_other n l m)) (λ z. cc) (λ z. cc) (λ z. cc)

-- the end of a run that succeeded
module _ (job : List ℕ) (term : ℕ) (w : List ℕ) (s : State) (m : s.mode ≡ is.Proved) (q : FinishGiven job term w s) where
  not_running : s.mode ≡ is.Running → ⊥
  not_running z = cc

  -- the hiproof is all that is held
  hiproof_small : (table : List ℕ) (p : Term) (g : List Goal) → Proved table job w s p g [] → s.out ≤ 5 * most_held
  unfolding FramesAt M.held
  hiproof_small table p g a = omega (arith, a.out_is, a.frames.1, a.held_is, a.sizes.held_fits, size_most p)

  -- its numbers are small
  pub finish_small : (term ≤ 515) × (term ≤ length job) × (s.out ≤ 5 * most_held) × (s.count ≤ 256) × (s.start + s.count * 2 ≤ s.arena) × (s.arena ≤ length w)
  finish_small =
      let place = place_small job q.the_job q.job_stands term q.term_is in
      if_stopped q.table job w s (λ x. Small) not_running
      (λ e i. if_proved q.table job w s [] (λ y. Small) m (λ p g a. (
        place.0,
        place.1,
        hiproof_small q.table p g a,
        a.goals.few,
        a.goals.high,
        omega (arith, a.sizes.goals_fit, a.sizes.held_fits, q.space),
      )) e i) q.control q.shows
    where
      Small : Type 0
      Small = (term ≤ 515) × (term ≤ length job) × (s.out ≤ 5 * most_held) × (s.count ≤ 256) × (s.start + s.count * 2 ≤ s.arena) × (s.arena ≤ length w)

  module _ (o : List ℕ) (r : Answer) where
    -- what is said of every last state that the code may stand for
    if_success : (v : List ℕ) → ((table : List ℕ) (j : Job) (p : Term) (g : List Goal) → JobStands job j → Proved table job w s p g [] → job_term_place j ≡ term
        → kept r v ≡ left_in o (success (proof_bytes (record { goals = j.goals; term = p; remaining = g })) s.steps))
        → Finishes job w s o r v
    unfolding run_end
    if_success v f table j κ st h =
        if_stopped table job w s (λ x. kept r v ≡ left_in o (run_end j s.steps x)) not_running
        (λ e i. if_proved table job w s [] (λ y. kept r v ≡ left_in o (run_end j s.steps (stopped y))) m (λ p g a. f table j p g st a (same_place job q.the_job q.job_stands term q.term_is j st)) e i) κ h

  pub file_given : (o : List ℕ) → file_size term s.out s.count ≤ length o → FileGiven job term w 0 s.out s.start s.count o
  file_given o h =
      let z = finish_small in
      record { list_inside = z.1; term_inside = omega (arith, z.2, q.space); few = z.3; goals_inside = omega (arith, z.4, z.5); fits = h }

  -- the hiproof is all that stands in the output's region
  module _ (table : List ℕ) (p : Term) (g : List Goal) (a : Proved table job w s p g []) where
    size_is : size p ≡ s.out
    unfolding FramesAt
    size_is = omega (arith, a.out_is, a.frames.1)

    from_start : Stands w 0 p
    unfolding FramesAt
    from_start = subst (λ (i : ℕ). Stands w i p) a.frames.1 a.stands

  module _ (o : List ℕ) (r : Answer) where
    pub short_end : length o < file_size term s.out s.count → r ≡ said.refusal 26 0 0 s.steps → Finishes job w s o r o
    short_end h e = if_success o r o (λ table j p g st a place. entry.short_end w term s.out s.start s.count j p g place (size_is table p g a) a.goals.are s.steps o r h e)

    pub success_end : (v : List ℕ) → file_size term s.out s.count ≤ length o → FileWritten job term w 0 s.out s.start s.count o v → r ≡ said.wrote (file_size term s.out s.count) s.steps → Finishes job w s o r v
    success_end v h f e = if_success o r v (λ table j p g st a place.
        entry.success_end w term s.out s.start s.count j p g place (size_is table p g a) a.goals.are job 0 s.steps o v r h st (from_start table p g a) f e)

-- the whole job
module _ (bytes : List ℕ) (first definitions : ℕ) (job : List ℕ) (parts : JobParts) (budget : ℕ) (w : List ℕ) (q : JobGiven bytes first definitions job parts budget w) where
  pub fill_given : FillGiven bytes first definitions w
  fill_given = record { small = q.table_small; space = q.space; table = q.table; table_stands = q.table_stands; count_is = q.count_is }

  module _ (w₁ : List ℕ) (f : Filled bytes first definitions w w₁) where
    pub start_given : StartGiven job parts w₁
    start_given = record { space = omega (arith, q.space, f.same_length); the_job = q.the_job; job_stands = q.job_stands; parts_are = q.parts_are }

    module _ (w₂ : List ℕ) (s : State) (b : Starts job parts w₁ w₂ s) where
      arities_there : (T : Table) → TableStands bytes first T → UniqueDefinitions T → definitions ≡ length T.definitions → ArityTable w₂ (arities T)
      arities_there T st unique c = known_same w₁ w₂ (arities T) (λ i l r. b.beyond i l) (f.filled T st unique c)

      pub run_given : Started bytes first job w₂ s budget
      run_given = record {
        steps_left = omega (arith, b.no_steps, q.budget_fits);
        space = omega (arith, q.space, f.same_length, b.same_length);
        table_small = q.table_small;
        job_small = omega (arith, q.job_stands.short);
        table = q.table;
        table_stands = q.table_stands;
        known = arities_there q.table q.table_stands q.unique q.count_is;
        place = record { file = 1; at = job_term_place q.the_job };
        term = q.the_job.term;
        goals = q.the_job.goals;
        frames = [];
        runs = b.runs bytes q.the_job q.job_stands q.parts_are;
      }

      module _ (w₃ : List ℕ) (r : State) (a : Ran bytes first job w₂ s budget w₃ r) where
        pub job_ran : JobRan bytes first definitions job parts budget w₃ r
        unfolding M.start
        job_ran = record {
          few_steps = omega (arith, a.few_steps, b.no_steps);
          known = λ T st unique c. known_same w₂ w₃ (arities T) (λ i l r. a.beyond i l) (arities_there T st unique c);
          shows = λ T j st unique c js p.
              subst (λ (n : ℕ). ShowsState bytes job w₃ r (M.run T budget (after n (running (record { file = 1; at = job_term_place j }) j.term j.goals [])))) b.no_steps
              (a.shows T (record { file = 1; at = job_term_place j }) j.term j.goals [] st (arities_there T st unique c) (b.runs bytes j js p));
        }
