-- A job: its first state shows the machine's, the search is the machine's run, and its last state says which of the entry's outcomes it is.
-- Assumes nothing.
use Prim.Native.Nat.{ℕ, suc, ◌+◌, ◌*◌, ◌-◌, ◌%◌, ◌≤◌, ◌<◌}
use mathlib.Core.Path.{◌≡◌, refl, sym, ap, subst, ◌∙◌}
use mathlib.Core.List.{List, []}
use native.Mathlib.Omega.{arith}
use lib.ListN.{length, drop}
use lib.Seq.{paste}
use Rattle.format.specs.declared.values.Goal.{Goal}
use Rattle.format.specs.declared.refusals.Cause.TheVariants.{BudgetSpent, NoEvaluation}
use Rattle.format.specs.Refusals.{number}
use Rattle.format.specs.Goals.{goals_at}
use Rattle.format.specs.Terms.{Term, size, Hiproof}
use Rattle.format.specs.Standing.{Stands}
use Rattle.tables.specs.Tables.{Table}
use Rattle.tables.specs.Standing.{TableStands}
use Rattle.files.specs.declared.jobs.JobParts.{JobParts}
use Rattle.files.specs.Proofs.{proof_bytes}
use Rattle.files.specs.Jobs.{Job}
use Rattle.files.specs.Counts.{job_term_place}
use Rattle.files.specs.Standing.{JobStands}
use Rattle.files.specs.Shapes.{job_parts_of}
use Rattle.hitac.proofs.ValidatesLaws.{validates_hiproof}
use Rattle.evaluation.proofs.BigStep.{evaluates_validates}
use Rattle.answers.specs.declared.Answer.{Answer}
use Rattle.answers.specs.Answers as said
use Rattle.entries.specs.Outcomes.{success, no_file}
use Rattle.entries.specs.Search.{search_end}
use Rattle.entries.specs.Left.{kept, left_in}
use Rattle.entries.proofs.LeftLaws.{refuses}
use Rattle.search.specs.Answer.{Searched, search}
use Rattle.search.specs.Machine as M
use Rattle.search.specs.Machine.{running, finished, nothing, after, outcome}
use Rattle.search.proofs.SearchLaws.{search_found}
use Rattle.search.proofs.TraceEvaluates.{found_evaluates}
use Rattle.search.proofs.Refines.{machine_searches}
use Rattle.outline.specs.Layout.{most_size}
use Rattle.outline.specs.Whole.{Outlined, HiproofWritten}
use Rattle.outline.proofs.WholeLaws.{size_fits, before_written}
use Rattle.tactics.specs.Memory.{Only}
use Rattle.tactics.specs.File.{file_size, FileGiven, FileWritten}
use Rattle.tactics.proofs.MemoryLaws.{only_copy, same_goals}
use Rattle.tactics.proofs.SourceLaws.{from_job}
use Rattle.tactics.proofs.JobLaws.{same_place, place_small, goals_few, goals_inside, term_place_lem, term_stands, goals_copied}
use Rattle.tactics.proofs.EntryLaws as entry
use Rattle.search_machine.specs.declared.state.Mode.TheVariants as is
use Rattle.search_machine.specs.declared.state.State.{State}
use Rattle.search_machine.specs.Layout.{arena_low, arena_end, space_end}
use Rattle.search_machine.specs.Outlines.{waiting_outline}
use Rattle.search_machine.specs.Shows.{FramesAt, set_aside, ChoicesAt, Gave}
use Rattle.search_machine.specs.Step.{ShowsState, Started, Ran}
use Rattle.search_machine.proofs.StepLaws.{indexed_still}
use Rattle.search_machine.proofs.RunLaws.{if_running, if_finished, if_nothing}
use Rattle.searcher.specs.Jobs.{StartGiven, Starts, FoundHiproof, FinishGiven, Finishes, JobGiven, JobRan}

-- the first state
abbrev start_state : (below : ℕ) → JobParts → State
start_state below parts = record { mode = is.Running; level = below * 2 + 1; at = parts.term; start = arena_low; count = parts.goals; link = 0; choice = 0; arena = arena_low + parts.goals * 2; outline = 0; steps = 0 }

pub start_few : (below : ℕ) (job : List ℕ) (parts : JobParts) (w : List ℕ) → StartGiven below job parts w → (parts.goals ≤ 256) × (3 + parts.goals * 2 ≤ length job)
start_few below job parts w q = (goals_few job q.the_job q.job_stands parts q.parts_are, goals_inside job q.the_job q.job_stands parts q.parts_are)

pub start_end : (below : ℕ) (job : List ℕ) (parts : JobParts) (w v : List ℕ) → StartGiven below job parts w → v ≡ paste w arena_low (drop 3 job) (parts.goals * 2)
    → Starts below job parts w v (start_state below parts)
unfolding FramesAt ChoicesAt set_aside waiting_outline
start_end below job parts w v q e =
    let few = start_few below job parts w q in
    let only : Only arena_low (arena_low + parts.goals * 2) w v =
    subst (λ (x : List ℕ). Only arena_low (arena_low + parts.goals * 2) w x) (sym e) (only_copy w job arena_low 3 (parts.goals * 2) (omega (arith, few, q.space)) few.1) in
    record {
      same_length = only.same_length;
      index_same = λ i a b. only.kept.below i b;
      no_steps = refl;
      runs = λ table j st p. record {
        mode_is = refl;
        low = omega arith;
        below_is = omega arith;
        stands = subst (λ (b : List ℕ). Stands b parts.term j.term) (sym (from_job table job ((below * 2 + 1) % 2) (λ z. omega (arith, z)))) (term_stands job j st parts p);
        goals = record { low = omega arith; inside = omega arith; few = few.0; are = goals_copied job j st parts p w v arena_low e (omega (arith, few, q.space)) };
        frames = refl;
        outlined = record { is = refl; long = refl };
        choices = refl;
        fits = record { space = omega (arith, few.0); fields = omega arith };
      };
    }

-- the end of a search, by the last state's mode
module _ (job w : List ℕ) (s : State) (o : List ℕ) (r : Answer) where
  pub spent_end : s.mode ≡ is.Running → r ≡ said.refusal (number BudgetSpent) no_file 0 s.steps → Finishes job w s o r o
  unfolding search_end outcome
  spent_end m q table j κ st h f =
      if_running table job w s (λ x. kept r o ≡ left_in o (search_end j (outcome s.steps x))) m (λ b t g k c i. refuses BudgetSpent (number BudgetSpent) no_file 0 s.steps r o refl q) κ h

  pub none_end : s.mode ≡ is.Lost → r ≡ said.refusal (number NoEvaluation) no_file 0 s.steps → Finishes job w s o r o
  unfolding search_end outcome
  none_end l q table j κ st h f =
      if_nothing table job w s (λ x. kept r o ≡ left_in o (search_end j (outcome s.steps x))) (λ m. cc (l, m)) (λ n. cc (l, n)) (refuses NoEvaluation (number NoEvaluation) no_file 0 s.steps r o refl q) κ h

-- the end of a search that found an evaluation
module _ (job : List ℕ) (term : ℕ) (w : List ℕ) (s : State) (m : s.mode ≡ is.Gave) (q : FinishGiven job term w s) where
  -- its outline is all that stands at the beginning of the work space
  outlined : (table : List ℕ) (p : Term) (g : List Goal) (c : List M.Choice) → Gave table job w s p g [] c → Hiproof p → Outlined w s.outline space_end p
  unfolding waiting_outline
  outlined table p g c a h = record {
    hiproof = h;
    bytes_are = a.outlined.is;
    length_is = a.outlined.long;
    few = omega (arith, a.fits.fields, q.few_steps);
    room = omega arith;
    inside = q.space;
  }

  -- what the code found
  record Found : Type 0 where
    pub the_term : Term
    pub the_goals : List Goal
    pub the_choices : List M.Choice
    pub gave : Gave q.table job w s the_term the_goals [] the_choices
    pub whole : Outlined w s.outline space_end the_term

  found : Found
  unfolding FoundHiproof
  found =
      if_finished q.table job w s (λ x. FoundHiproof x → Found) m
      (λ p g c a h. record { the_term = p; the_goals = g; the_choices = c; gave = a; whole = outlined q.table p g c a h }) q.control q.shows q.hiproof

  pub write_given : (p : Term) × Outlined w s.outline space_end p
  write_given = (found.the_term, found.whole)

  goals_low : (table : List ℕ) (p : Term) (g : List Goal) (c : List M.Choice) → Gave table job w s p g [] c → s.start + s.count * 2 ≤ arena_end
  unfolding set_aside
  goals_low table p g c a = omega (arith, a.goals.inside, a.fits.space, q.few_steps)

  module _ (v : List ℕ) (from : ℕ) (d : (p : Term) → Outlined w s.outline space_end p → HiproofWritten w v from space_end p) where
    abbrev bytes : ℕ
    bytes = space_end - from

    -- its numbers are small
    pub finish_small : (term ≤ 515) × (term ≤ length job) × (from ≤ space_end) × (bytes ≤ most_size) × (s.count ≤ 256) × (s.start + s.count * 2 ≤ arena_end)
    finish_small =
        let place = place_small job q.the_job q.job_stands term q.term_is in
        let f = found in
        let x = d f.the_term f.whole in (
          place.0,
          place.1,
          omega (arith, x.ends),
          omega (arith, x.ends, size_fits w s.outline space_end f.the_term f.whole),
          f.gave.goals.few,
          goals_low q.table f.the_term f.the_goals f.the_choices f.gave,
        )

    same_space : length v ≡ length w
    same_space = (d found.the_term found.whole).around.same_length

    pub file_given : (o : List ℕ) → file_size term bytes s.count ≤ length o → FileGiven job term v from bytes s.start s.count o
    file_given o h =
        let z = finish_small in
        record { list_inside = z.1; term_inside = omega (arith, z.2, same_space, q.space); few = z.4; goals_inside = omega (arith, z.5, same_space, q.space); fits = h }

    module _ (table : List ℕ) (p : Term) (g : List Goal) (c : List M.Choice) (a : Gave table job w s p g [] c) (h : Hiproof p) where
      whole : Outlined w s.outline space_end p
      whole = outlined table p g c a h

      size_is : size p ≡ bytes
      size_is = omega (arith, (d p whole).ends)

      goals_are : goals_at v s.start s.count ≡ g
      goals_are =
          same_goals w v s.count s.start
          (λ i x y. before_written w v s.outline from space_end p whole (d p whole) i (omega (arith, x, a.goals.low)) (omega (arith, y, goals_low table p g c a))) ∙ a.goals.are

    module _ (o : List ℕ) (r : Answer) where
      -- what is said of every last state that the code may stand for
      if_success : (u : List ℕ)
          → ((table : List ℕ) (j : Job) (p : Term) (g : List Goal) (c : List M.Choice) → JobStands job j → Gave table job w s p g [] c → Hiproof p → job_term_place j ≡ term
          → kept r u ≡ left_in o (success (proof_bytes (record { goals = j.goals; term = p; remaining = g })) s.steps))
          → Finishes job w s o r u
      unfolding search_end outcome FoundHiproof
      if_success u f table j κ st h i =
          if_finished table job w s (λ x. FoundHiproof x → kept r u ≡ left_in o (search_end j (outcome s.steps x))) m
          (λ p g c a e. f table j p g c st a e (same_place job q.the_job q.job_stands term q.term_is j st)) κ h i

      pub short_end : length o < file_size term bytes s.count → r ≡ said.refusal 26 0 0 s.steps → Finishes job w s o r o
      short_end h e = if_success o (λ table j p g c st a i place.
          entry.short_end v term bytes s.start s.count j p g place (size_is table p g c a i) (goals_are table p g c a i) s.steps o r h e)

      pub success_end : (u : List ℕ) → file_size term bytes s.count ≤ length o → FileWritten job term v from bytes s.start s.count o u → r ≡ said.wrote (file_size term bytes s.count) s.steps
          → Finishes job w s o r u
      success_end u h f e = if_success u (λ table j p g c st a i place.
          entry.success_end v term bytes s.start s.count j p g place (size_is table p g c a i) (goals_are table p g c a i) job from s.steps o u r h st (d p (whole table p g c a i)).stands f e)

-- the machine finds hiproofs
found_hiproof : (T : Table) (b h : ℕ) (t : Term) (g : List Goal) → FoundHiproof (M.run T b (M.start h t g)).control
unfolding FoundHiproof outcome
found_hiproof T b h t g = let σ = M.run T b (M.start h t g) in go σ.steps σ.control (machine_searches T b h t g)
  where
    go : (n : ℕ) (κ : M.Control) → outcome n κ ≡ search T (suc h) b t g → FoundHiproof κ
    go n (running d u k f c) e = tt
    go n (finished p k c) e = validates_hiproof (evaluates_validates (found_evaluates T (suc h) t g p k (search_found T (suc h) t g b (sym e))))
    go n nothing e = tt

-- the whole job
module _ (bytes : List ℕ) (first : ℕ) (job : List ℕ) (parts : JobParts) (below budget : ℕ) (w : List ℕ) (q : JobGiven bytes first job parts below budget w) where
  pub start_given : StartGiven below job parts w
  start_given = record { few_levels = q.few_levels; space = q.space; the_job = q.the_job; job_stands = q.job_stands; parts_are = q.parts_are }

  module _ (w₂ : List ℕ) (s : State) (b : Starts below job parts w w₂ s) where
    pub run_given : Started bytes first job w₂ s budget
    run_given = record {
      steps_left = omega (arith, b.no_steps, q.budget_fits);
      space = omega (arith, q.space, b.same_length);
      table_small = q.table_small;
      job_small = omega (arith, q.job_stands.short);
      table = q.table;
      table_stands = q.table_stands;
      indexed = indexed_still bytes first w w₂ b.same_length b.index_same q.indexed;
      below = below;
      term = q.the_job.term;
      goals = q.the_job.goals;
      frames = [];
      choices = [];
      runs = b.runs bytes q.the_job q.job_stands q.parts_are;
    }

    module _ (w₃ : List ℕ) (r : State) (a : Ran bytes first job w₂ s budget w₃ r) where
      -- what the last state shows
      last : (T : Table) (j : Job) → TableStands bytes first T → JobStands job j → job_parts_of j ≡ parts → ShowsState bytes job w₃ r (M.run T budget (M.start below j.term j.goals))
      unfolding M.start
      last T j st js p =
          subst (λ (n : ℕ). ShowsState bytes job w₃ r (M.run T budget (after n (running below j.term j.goals [] [])))) b.no_steps
          (a.shows T below j.term j.goals [] [] st (b.runs bytes j js p))

      pub finish_given : FinishGiven job parts.term w₃ r
      finish_given =
          let l = last q.table q.the_job q.table_stands q.job_stands q.parts_are in
          record {
            few_steps = omega (arith, a.few_steps, b.no_steps, q.budget_fits);
            space = omega (arith, q.space, b.same_length, a.same_length);
            the_job = q.the_job;
            job_stands = q.job_stands;
            term_is = term_place_lem job q.the_job q.job_stands parts q.parts_are;
            table = bytes;
            control = (M.run q.table budget (M.start below q.the_job.term q.the_job.goals)).control;
            shows = l.shows;
            hiproof = found_hiproof q.table budget below q.the_job.term q.the_job.goals;
          }

      pub job_end : (o : List ℕ) (x : Answer) (v : List ℕ) → Finishes job w₃ r o x v → JobRan bytes first job parts below budget o x v
      job_end o x v h T j st js p =
          let l = last T j st js p in
          let σ = M.run T budget (M.start below j.term j.goals) in
          subst (λ (y : Searched). kept x v ≡ left_in o (search_end j y)) (ap (λ (n : ℕ). outcome n σ.control) l.steps_are ∙ machine_searches T budget below j.term j.goals)
          (h bytes j σ.control js l.shows (found_hiproof T budget below j.term j.goals))
