-- A run of the search: steps until the budget is used up or the search has ended; what is left of the run comes to the same all along.
-- Assumes nothing.
use Prim.Native.Nat.{ℕ, zero, suc, ◌+◌, ◌-◌, ◌%◌, ◌≤◌, ◌<◌}
use mathlib.Core.Path.{◌≡◌, refl, sym, ap, subst, ◌∙◌}
use mathlib.Core.List.{List, []}
use native.Mathlib.Omega.{arith}
use lib.ListN.{length}
use Rattle.format.specs.declared.values.Goal.{Goal}
use Rattle.format.specs.Terms.{Term}
use Rattle.tables.specs.Tables.{Table}
use Rattle.tables.specs.Standing.{TableStands}
use Rattle.outline.specs.Layout.{outline_end}
use Rattle.tactics.specs.Memory.{Same}
use Rattle.tactics.specs.Source.{source}
use Rattle.tactics.proofs.SourceLaws.{source_small}
use Rattle.search.specs.Machine as M
use Rattle.search.specs.Machine.{Control, running, finished, nothing, after, step_from, step, run}
use Rattle.search_machine.specs.declared.state.Mode.TheVariants as is
use Rattle.search_machine.specs.declared.state.State.{State}
use Rattle.search_machine.specs.Layout.{arena_low}
use Rattle.search_machine.specs.Shows.{Runs, Gave, Shows}
use Rattle.search_machine.specs.Step.{Given, Stepped, Grown, ShowsState, Started, Ran}
use Rattle.search_machine.proofs.StepLaws.{indexed_still}

-- what is left of the run comes to the same
pub record Onward (bytes job w : List ℕ) (s : State) (T : Table) (left : ℕ) (end : M.State) : Type 0 where
  pub control : Control
  pub shows : Shows bytes job w s control
  pub same : run T left (after s.steps control) ≡ end

-- what holds at every turn
pub record Way (bytes : List ℕ) (first : ℕ) (job w₀ : List ℕ) (s₀ : State) (budget : ℕ) (w : List ℕ) (s : State) (left : ℕ) : Type 0 where
  pub onward : (T : Table) (b : ℕ) (t : Term) (g : List Goal) (k : List M.Frame) (c : List M.Choice) → TableStands bytes first T → Runs bytes job w₀ s₀ b t g k c
      → Onward bytes job w s T left (run T budget (after s₀.steps (running b t g k c)))
  pub same_length : length w ≡ length w₀
  pub few_steps : s.steps + left ≤ s₀.steps + budget
  pub index_same : Same outline_end arena_low w₀ w

run_one : (T : Table) (left n b : ℕ) (t : Term) (g : List Goal) (k : List M.Frame) (c : List M.Choice) → 0 < left
    → run T left (after n (running b t g k c)) ≡ run T (left - 1) (after (n + 1) (M.begin T b t g k c))
unfolding run step step_from
run_one T zero n b t g k c h = absurd (omega arith)
run_one T (suc left) n b t g k c h =
    let e : left ≡ suc left - 1 = omega arith in
    let f : suc n ≡ n + 1 = omega arith in
    ap (λ (j : ℕ). run T j (after (suc n) (M.begin T b t g k c))) e ∙ ap (λ (j : ℕ). run T (suc left - 1) (after j (M.begin T b t g k c))) f

run_none : (T : Table) (left : ℕ) (σ : M.State) → left ≤ 0 → run T left σ ≡ σ
unfolding run
run_none T zero σ h = refl
run_none T (suc left) σ h = absurd (omega arith)

run-finished : (T : Table) (left n : ℕ) (s : Term) (g : List Goal) (c : List M.Choice) → run T left (after n (finished s g c)) ≡ after n (finished s g c)
unfolding run step step_from
run-finished T zero n s g c = refl
run-finished T (suc left) n s g c = run-finished T left n s g c

run_nothing : (T : Table) (left n : ℕ) → run T left (after n nothing) ≡ after n nothing
unfolding run step step_from
run_nothing T zero n = refl
run_nothing T (suc left) n = run_nothing T left n

-- the control that a state's mode says
module _ (bytes job w : List ℕ) (s : State) (P : Control → Type 0) where
  pub if_running : s.mode ≡ is.Running → ((b : ℕ) (t : Term) (g : List Goal) (k : List M.Frame) (c : List M.Choice) → Runs bytes job w s b t g k c → P (running b t g k c)) → (κ : Control)
      → Shows bytes job w s κ → P κ
  unfolding Shows
  if_running m f (running b t g k c) h = f b t g k c h
  if_running m f (finished p g c) h = absurd (cc (m, h.mode_is))
  if_running m f nothing h = absurd (cc (m, h.mode_is))

  pub if_finished : s.mode ≡ is.Gave → ((p : Term) (g : List Goal) (c : List M.Choice) → Gave bytes job w s p g [] c → P (finished p g c)) → (κ : Control) → Shows bytes job w s κ → P κ
  unfolding Shows
  if_finished m f (running b t g k c) h = absurd (cc (m, h.mode_is))
  if_finished m f (finished p g c) h = f p g c h
  if_finished m f nothing h = absurd (cc (m, h.mode_is))

  pub if_nothing : (s.mode ≡ is.Running → ⊥) → (s.mode ≡ is.Gave → ⊥) → P nothing → (κ : Control) → Shows bytes job w s κ → P κ
  unfolding Shows
  if_nothing m n f (running b t g k c) h = absurd (m h.mode_is)
  if_nothing m n f (finished p g c) h = absurd (n h.mode_is)
  if_nothing m n f nothing h = f

stays : (bytes job w : List ℕ) (s : State) (T : Table) (left : ℕ) → (s.mode ≡ is.Running → ⊥) → (κ : Control) → Shows bytes job w s κ → after s.steps κ ≡ run T left (after s.steps κ)
unfolding Shows
stays bytes job w s T left n (running b t g k c) h = absurd (n h.mode_is)
stays bytes job w s T left n (finished p g c) h = sym (run-finished T left s.steps p g c)
stays bytes job w s T left n nothing h = sym (run_nothing T left s.steps)

pub way_start : (bytes : List ℕ) (first : ℕ) (job w : List ℕ) (s : State) (budget left : ℕ) → left ≡ budget → Way bytes first job w s budget w s left
unfolding Shows
way_start bytes first job w s budget left e = subst (λ (n : ℕ). Way bytes first job w s budget w s n) (sym e) (record {
  onward = λ T b t g k c st h. record { control = running b t g k c; shows = h; same = refl };
  same_length = refl;
  few_steps = omega arith;
  index_same = λ i a b. refl;
})

module _ (bytes : List ℕ) (first : ℕ) (job w₀ : List ℕ) (s₀ : State) (budget : ℕ) (w : List ℕ) (s : State) (left : ℕ) (way : Way bytes first job w₀ s₀ budget w s left) where
  -- the run has come to its end
  ran : ((T : Table) (κ : Control) → Shows bytes job w s κ → after s.steps κ ≡ run T left (after s.steps κ)) → Ran bytes first job w₀ s₀ budget w s
  ran f = record {
    same_length = way.same_length;
    few_steps = omega (arith, way.few_steps);
    shows = λ T b t g k c st h.
        let o = way.onward T b t g k c st h in
        subst (λ (σ : M.State). ShowsState bytes job w s σ) (f T o.control o.shows ∙ o.same) (record { steps_are = refl; shows = o.shows });
  }

  -- the search has ended
  pub ran_end : (s.mode ≡ is.Running → ⊥) → Ran bytes first job w₀ s₀ budget w s
  ran_end n = ran (λ T κ h. stays bytes job w s T left n κ h)

  -- the budget is used up
  pub ran_out : left ≤ 0 → Ran bytes first job w₀ s₀ budget w s
  ran_out z = ran (λ T κ h. sym (run_none T left (after s.steps κ) z))

  module _ (more : 0 < left) (m : s.mode ≡ is.Running) where
    pub given : Started bytes first job w₀ s₀ budget → Given bytes first (source bytes job (s.level % 2)) w s
    given q =
        let o = way.onward q.table q.below q.term q.goals q.frames q.choices q.table_stands q.runs in
        if_running bytes job w s (λ κ. Given bytes first (source bytes job (s.level % 2)) w s) m (λ b t g k c h. record {
          steps_left = omega (arith, more, way.few_steps, q.steps_left);
          space = omega (arith, way.same_length, q.space);
          src_small = source_small bytes job (s.level % 2) 65536 q.table_small q.job_small;
          table = q.table;
          table_stands = q.table_stands;
          indexed = indexed_still bytes first w₀ w way.same_length way.index_same q.indexed;
          job = job;
          so = refl;
          below = b;
          term = t;
          goals = g;
          frames = k;
          choices = c;
          runs = h;
        }) o.control o.shows

    pub way_next : (v : List ℕ) (r : State) → Stepped bytes first (source bytes job (s.level % 2)) w s v r → Grown w s v r → (less : ℕ) → less ≡ left - 1 → Way bytes first job w₀ s₀ budget v r less
    way_next v r st gr less fewer = subst (λ (n : ℕ). Way bytes first job w₀ s₀ budget v r n) (sym fewer) (record {
      onward = λ T b t g k c stands h.
          let o = way.onward T b t g k c stands h in
          let end = run T budget (after s₀.steps (running b t g k c)) in
          if_running bytes job w s (λ κ. run T left (after s.steps κ) ≡ end → Onward bytes job v r T (left - 1) end) m (λ b' t' g' k' c' h' e. record {
            control = M.begin T b' t' g' k' c';
            shows = st T job b' t' g' k' c' stands refl h';
            same = ap (λ (n : ℕ). run T (left - 1) (after n (M.begin T b' t' g' k' c'))) gr.one_step ∙ sym (run_one T left s.steps b' t' g' k' c' more) ∙ e;
          }) o.control o.shows o.same;
      same_length = gr.same_length ∙ way.same_length;
      few_steps = omega (arith, way.few_steps, gr.one_step, more);
      index_same = λ i a b. gr.index_same i a b ∙ way.index_same i a b;
    })
