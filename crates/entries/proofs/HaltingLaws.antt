-- The entries run_halting and resume by cases: whether the lent spaces suffice, whether the steps are within the limit, what the files are read to, and whether
-- the saved state is genuine. Assumes nothing.
use Prim.Native.Nat.{ℕ, ◌+◌, ◌≤◌, ◌<◌}
use native.Mathlib.Omega.{arith}
use native.Mathlib.Decide.{dec_lt}
use mathlib.Core.Path.{◌≡◌, refl, ◌∙◌}
use mathlib.Core.Bool.{Bool, true, false, cond}
use mathlib.Core.List.{List}
use mathlib.Core.Option.{some}
use lib.Dec.{ltb}
use lib.ListN.{length}
use borrow.Author.Tests.{lt-ltb, le-ltb}
use Rattle.format.specs.Limits.{most_steps}
use Rattle.format.specs.declared.refusals.Cause.{Cause}
use Rattle.format.specs.declared.refusals.Cause.TheVariants.{BudgetTooLarge, StateNotGenuine}
use Rattle.format.specs.Refusals.{number}
use Rattle.format.specs.Results.{Result, gives, refused}
use Rattle.tables.specs.Tables.{Table}
use Rattle.tables.specs.ReadTables.{read_table}
use Rattle.files.specs.Jobs.{Job, read_job}
use Rattle.evaluation.specs.Machine.{run}
use Rattle.answers.specs.Answers as answer
use Rattle.lent_frames.specs.declared.LentFrame.{LentFrame}
use Rattle.entries.specs.Outcomes.{refusal, in_file}
use Rattle.entries.specs.LentSpace.{write_out}
use Rattle.entries.specs.Run.{begins, run_result, run_outcome}
use Rattle.entries.specs.SavedState.{saved_size, saved_state}
use Rattle.entries.specs.Halting.{HaltingOutcome, unbegun, ran_for, with_job, with_files, within_limit, halting_outcome, steps_of, genuine, going_on, halting_work, most_frames, Halting, cleared_frames, save_in, spaces_after, halt_in}
use Rattle.entries.proofs.SameBytes.{saved_equal, equal_saved}

module _ (work : List ℕ) (frames : List LentFrame) (out state : List ℕ) where
  abbrev Enough : Type 0
  Enough = (halting_work ≤ length work) × (most_frames ≤ length frames) × (saved_size ≤ length state)

  pub enough_or_not : Dec Enough
  enough_or_not = by_work (dec_lt (length work) halting_work)
    where
      by_state : halting_work ≤ length work → most_frames ≤ length frames → Dec (length state < saved_size) → Dec Enough
      by_state a b (yes l) = no (λ e. omega (arith, l, e.2))
      by_state a b (no l) = yes (a, b, omega arith)

      by_frames : halting_work ≤ length work → Dec (length frames < most_frames) → Dec Enough
      by_frames a (yes l) = no (λ e. omega (arith, l, e.1))
      by_frames a (no l) = by_state a (omega arith) (dec_lt (length state) saved_size)

      by_work : Dec (length work < halting_work) → Dec Enough
      by_work (yes l) = no (λ e. omega (arith, l, e.0))
      by_work (no l) = by_frames (omega arith) (dec_lt (length frames) most_frames)

  -- the spaces suffice
  pub lent_enough : Enough → (h : HaltingOutcome) → halt_in work frames out state h ≡ spaces_after (write_out work out h.outcome) (cleared_frames frames) (save_in state h.saved)
  unfolding halt_in
  lent_enough e h = rw (le-ltb (length work) halting_work e.0, le-ltb (length frames) most_frames e.1, le-ltb (length state) saved_size e.2)

  -- 29
  abbrev pub untouched : Halting
  untouched = record { answer = answer.refusal 29 0 0 0; work = work; frames = frames; out = out; state = state }

  pub lent_short : (Enough → ⊥) → (h : HaltingOutcome) → halt_in work frames out state h ≡ untouched
  unfolding halt_in number
  lent_short d h = by_work (dec_lt (length work) halting_work)
    where
      by_state : halting_work ≤ length work → most_frames ≤ length frames → Dec (length state < saved_size) → halt_in work frames out state h ≡ untouched
      by_state a b (yes l) = rw (le-ltb (length work) halting_work a, le-ltb (length frames) most_frames b, lt-ltb (length state) saved_size l)
      by_state a b (no l) = absurd (d (a, b, omega arith))

      by_frames : halting_work ≤ length work → Dec (length frames < most_frames) → halt_in work frames out state h ≡ untouched
      by_frames a (yes l) = rw (le-ltb (length work) halting_work a, lt-ltb (length frames) most_frames l)
      by_frames a (no l) = by_state a (omega arith) (dec_lt (length state) saved_size)

      by_work : Dec (length work < halting_work) → halt_in work frames out state h ≡ untouched
      by_work (yes l) = rw (lt-ltb (length work) halting_work l)
      by_work (no l) = by_frames (omega arith) (dec_lt (length frames) most_frames)

module _ (t f : List ℕ) where
  module _ (n : ℕ) (next : Table → Job → HaltingOutcome) where
    -- 25
    pub over_limit : most_steps < n → within_limit n t f next ≡ unbegun (refusal BudgetTooLarge 0 0 0)
    unfolding within_limit
    over_limit l = rw (lt-ltb most_steps n l)

    module _ (l : n ≤ most_steps) where
      within_limit_lem : within_limit n t f next ≡ with_files (read_table t) (read_job f) next
      unfolding within_limit
      within_limit_lem = rw (le-ltb most_steps n l)

      -- a file is refused
      pub table_refused : (c : Cause) (p : ℕ) → read_table t ≡ refused c p → within_limit n t f next ≡ unbegun (refusal c 1 p 0)
      unfolding with_files
      table_refused c p e = within_limit_lem ∙ rw e refl

      pub job_refused : (T : Table) → read_table t ≡ gives T → (c : Cause) (p : ℕ) → read_job f ≡ refused c p → within_limit n t f next ≡ unbegun (refusal c 2 p 0)
      unfolding with_files with_job
      job_refused T e c p g = within_limit_lem ∙ rw (e, g) refl

      -- both are read
      pub both_read : (T : Table) (j : Job) → read_table t ≡ gives T → read_job f ≡ gives j → within_limit n t f next ≡ next T j
      unfolding with_files with_job
      both_read T j e g = within_limit_lem ∙ rw (e, g) refl

  -- but for the saved state, a run that may halt is the entry run
  pub halting_run : (b : ℕ) → (halting_outcome t f b).outcome ≡ run_outcome t f b
  unfolding halting_outcome within_limit run_outcome with_files with_job ran_for
  halting_run b = go (ltb most_steps b) (read_table t) (read_job f)
    where
      go : (x : Bool) (r : Result Table) (q : Result Job)
          → (cond x (unbegun (refusal BudgetTooLarge 0 0 0)) (with_files r q (λ T j. ran_for T j b))).outcome
          ≡ cond x (refusal BudgetTooLarge 0 0 0) (in_file 1 r (λ T. in_file 2 q (λ j. run_result j (run T b (begins j)))))
      go true r q = refl
      go false (gives T) (gives j) = refl
      go false (gives T) (refused c p) = refl
      go false (refused c p) q = refl

-- a state is genuine exactly if it is the saved one after its steps
module _ (T : Table) (j : Job) (s : List ℕ) where
  pub genuine_saved : genuine T j s ≡ true → saved_state (run T (steps_of s) (begins j)) ≡ some s
  unfolding genuine
  genuine_saved q = saved_equal (saved_state (run T (steps_of s) (begins j))) s q

  pub saved_genuine : saved_state (run T (steps_of s) (begins j)) ≡ some s → genuine T j s ≡ true
  unfolding genuine
  saved_genuine q = equal_saved (saved_state (run T (steps_of s) (begins j))) s q

  -- then the run goes on, and else it is 30
  pub genuine_goes_on : (c : ℕ) → genuine T j s ≡ true → going_on s c T j ≡ ran_for T j (steps_of s + c)
  unfolding going_on
  genuine_goes_on c q = rw q refl

  pub not_genuine : (c : ℕ) → genuine T j s ≡ false → going_on s c T j ≡ unbegun (refusal StateNotGenuine 0 0 0)
  unfolding going_on
  not_genuine c q = rw q refl
