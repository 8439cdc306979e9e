-- A run: steps until the budget is used up or the run has ended; what is left of the run comes to the same all along.
-- Assumes nothing.
use Prim.Native.Nat.{ℕ, zero, suc, ◌+◌, ◌*◌, ◌-◌, ◌≤◌, ◌<◌}
use mathlib.Core.Path.{◌≡◌, refl, sym, ap, subst, ◌∙◌}
use mathlib.Core.List.{List, []}
use mathlib.Core.Option.{Option}
use native.Mathlib.Omega.{arith}
use lib.ListN.{length, get_or}
use Rattle.format.specs.declared.values.Goal.{Goal}
use Rattle.format.specs.declared.values.TacticNo.{TacticNo}
use Rattle.format.specs.Terms.{Term}
use Rattle.tables.specs.Tables.{Table}
use Rattle.tables.specs.Standing.{TableStands}
use Rattle.evaluation.specs.Outcomes.{Ending}
use Rattle.evaluation.specs.Machine as M
use Rattle.evaluation.specs.Machine.{Control, running, stopped, after, step_from, step, run}
use Rattle.evaluation.proofs.RunLaws.{run_stopped}
use Rattle.arities.specs.Layout.{frames_end, space_end}
use Rattle.arities.specs.Arities.{ArityTable, arities}
use Rattle.tactics.specs.Memory.{Same}
use Rattle.tactics.specs.Source.{source}
use Rattle.tactics.proofs.MemoryLaws.{same_word}
use Rattle.tactics.proofs.SourceLaws.{source_small}
use Rattle.machine.specs.declared.state.Mode.TheVariants as is
use Rattle.machine.specs.declared.state.State.{State}
use Rattle.machine.specs.Shows.{Runs, Ends, Shows}
use Rattle.machine.specs.Step.{Grown, Given, Stepped}
use Rattle.machine.proofs.UnwindLaws.{not_running}
use Rattle.runner.specs.Run.{ShowsState, Started, Ran}

-- what is left of the run comes to the same
pub record Onward (bytes job w : List ℕ) (s : State) (T : Table) (left : ℕ) (end : M.State) : Type 0 where
  pub control : Control
  pub shows : Shows bytes job w s control
  pub same : run T left (after s.steps control) ≡ end

-- the bytes behind the frames are as they were
abbrev pub Far : List ℕ → List ℕ → Type 0
Far w₀ w = (i : ℕ) → frames_end ≤ i → get_or w i 0 ≡ get_or w₀ i 0

-- what holds at every turn
pub record Way (bytes : List ℕ) (first : ℕ) (job w₀ : List ℕ) (s₀ : State) (budget : ℕ) (w : List ℕ) (s : State) (left : ℕ) : Type 0 where
  pub onward : (T : Table) (π : M.Place) (t : Term) (g : List Goal) (k : List M.Frame) → TableStands bytes first T → ArityTable w₀ (arities T) → Runs bytes job w₀ s₀ π t g k
      → Onward bytes job w s T left (run T budget (after s₀.steps (running π t g k)))
  pub far : Far w₀ w
  pub same_length : length w ≡ length w₀
  pub few_steps : s.steps + left ≤ s₀.steps + budget

-- and with them the arities
pub known_same : (w₀ w : List ℕ) (known : TacticNo → Option ℕ) → Same frames_end space_end w₀ w → ArityTable w₀ known → ArityTable w known
known_same w₀ w known s h d b = same_word w₀ w frames_end space_end (frames_end + d * 2) s (omega arith) (omega arith) ∙ h d b

run_one : (T : Table) (left n : ℕ) (π : M.Place) (t : Term) (g : List Goal) (k : List M.Frame) → 0 < left → run T left (after n (running π t g k)) ≡ run T (left - 1) (after (n + 1) (M.begin T π t g k))
unfolding run step step_from
run_one T zero n π t g k h = absurd (omega arith)
run_one T (suc left) n π t g k h =
    let e : left ≡ suc left - 1 = omega arith in
    let f : suc n ≡ n + 1 = omega arith in
    ap (λ (j : ℕ). run T j (after (suc n) (M.begin T π t g k))) e ∙ ap (λ (j : ℕ). run T (suc left - 1) (after j (M.begin T π t g k))) f

run_none : (T : Table) (left : ℕ) (σ : M.State) → left ≤ 0 → run T left σ ≡ σ
unfolding run
run_none T zero σ h = refl
run_none T (suc left) σ h = absurd (omega arith)

-- a state in which a term is to begin, and one in which none is
pub if_running : (bytes job w : List ℕ) (s : State) (P : Control → Type 0) → s.mode ≡ is.Running → ((π : M.Place) (t : Term) (g : List Goal) (k : List M.Frame) → Runs bytes job w s π t g k → P (running π t g k))
    → (κ : Control) → Shows bytes job w s κ → P κ
unfolding Shows
if_running bytes job w s P m f (running π t g k) h = f π t g k h
if_running bytes job w s P m f (stopped e) h = absurd (not_running w s bytes job e _ h m)

pub if_stopped : (bytes job w : List ℕ) (s : State) (P : Control → Type 0) → (s.mode ≡ is.Running → ⊥) → ((e : Ending) → Ends bytes job w s e [] → P (stopped e)) → (κ : Control) → Shows bytes job w s κ → P κ
unfolding Shows
if_stopped bytes job w s P n f (running π t g k) h = absurd (n h.mode_is)
if_stopped bytes job w s P n f (stopped e) h = f e h

pub way_start : (bytes : List ℕ) (first : ℕ) (job w : List ℕ) (s : State) (budget : ℕ) → Way bytes first job w s budget w s budget
unfolding Shows
way_start bytes first job w s budget = record {
  onward = λ T π t g k st known h. record { control = running π t g k; shows = h; same = refl };
  far = λ i b. refl;
  same_length = refl;
  few_steps = omega arith;
}

module _ (bytes : List ℕ) (first : ℕ) (job w₀ : List ℕ) (s₀ : State) (budget : ℕ) (w : List ℕ) (s : State) (left : ℕ) (way : Way bytes first job w₀ s₀ budget w s left) where
  -- the run has ended
  pub ran_end : (s.mode ≡ is.Running → ⊥) → Ran bytes first job w₀ s₀ budget w s
  ran_end n = record {
    same_length = way.same_length;
    beyond = way.far;
    few_steps = omega (arith, way.few_steps);
    shows = λ T π t g k st known h.
        let o = way.onward T π t g k st known h in
        let rest : after s.steps o.control ≡ run T left (after s.steps o.control) =
        if_stopped bytes job w s (λ κ. after s.steps κ ≡ run T left (after s.steps κ)) n (λ e h. sym (run_stopped T left s.steps e)) o.control o.shows in
        subst (λ (σ : M.State). ShowsState bytes job w s σ) (rest ∙ o.same) (record { steps_are = refl; shows = o.shows });
  }

  -- the budget is used up
  pub ran_out : left ≤ 0 → Ran bytes first job w₀ s₀ budget w s
  ran_out z = record {
    same_length = way.same_length;
    beyond = way.far;
    few_steps = omega (arith, way.few_steps);
    shows = λ T π t g k st known h.
        let o = way.onward T π t g k st known h in
        subst (λ (σ : M.State). ShowsState bytes job w s σ) (sym (run_none T left (after s.steps o.control) z) ∙ o.same) (record { steps_are = refl; shows = o.shows });
  }

  module _ (more : 0 < left) (m : s.mode ≡ is.Running) where
    pub given : Started bytes first job w₀ s₀ budget → Given bytes first (source bytes job s.file) w s
    given q =
        let o = way.onward q.table q.place q.term q.goals q.frames q.table_stands q.known q.runs in
        if_running bytes job w s (λ κ. Given bytes first (source bytes job s.file) w s) m (λ π t g k h. record {
          steps_left = omega (arith, more, way.few_steps, q.steps_left);
          space = omega (arith, way.same_length, q.space);
          src_small = source_small bytes job s.file 65536 q.table_small q.job_small;
          table = q.table;
          table_stands = q.table_stands;
          known = known_same w₀ w (arities q.table) (λ i l r. way.far i l) q.known;
          job = job;
          so = refl;
          place = π;
          term = t;
          goals = g;
          frames = k;
          runs = h;
        }) o.control o.shows

    pub way_next : (v : List ℕ) (r : State) → Stepped bytes first (source bytes job s.file) w s v r → Grown w s v r → Way bytes first job w₀ s₀ budget v r (left - 1)
    way_next v r st gr = record {
      onward = λ T π t g k stands known h.
          let o = way.onward T π t g k stands known h in
          if_running bytes job w s (λ κ. run T left (after s.steps κ) ≡ run T budget (after s₀.steps (running π t g k)) → Onward bytes job v r T (left - 1) (run T budget (after s₀.steps (running π t g k)))) m
          (λ π' t' g' k' h' e. record {
            control = M.begin T π' t' g' k';
            shows = st T job π' t' g' k' stands refl (known_same w₀ w (arities T) (λ i l r. way.far i l) known) h';
            same = ap (λ (n : ℕ). run T (left - 1) (after n (M.begin T π' t' g' k'))) gr.one_step ∙ sym (run_one T left s.steps π' t' g' k' more) ∙ e;
          }) o.control o.shows o.same;
      far = λ i b. gr.beyond i b ∙ way.far i b;
      same_length = gr.same_length ∙ way.same_length;
      few_steps = omega (arith, way.few_steps, gr.one_step, more);
    }
