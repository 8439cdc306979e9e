-- The promises of run_halting: by what it comes to, and by the entry run. Assumes nothing.
use Prim.Native.Nat.{ℕ, ◌≤◌}
use native.Mathlib.Omega.{arith}
use mathlib.Core.Path.{◌≡◌, refl, sym, subst, ap, ◌∙◌}
use mathlib.Core.List.{List, []}
use mathlib.Core.Option.{none, some, none-ne-some}
use lib.ListN.{length}
use borrow.Author.Tests.{le-ltb}
use Rattle.format.specs.Limits.{most_steps}
use Rattle.format.specs.declared.refusals.Cause.TheVariants.{BudgetSpent}
use Rattle.format.specs.Refusals.{number}
use Rattle.format.specs.Results.{Result, gives, refused}
use Rattle.tables.specs.Tables.{Table}
use Rattle.tables.specs.ReadTables.{read_table}
use Rattle.files.specs.Jobs.{Job, read_job}
use Rattle.evaluation.specs.Machine.{Control, running, stopped, State, after, run, start}
use Rattle.evaluation.proofs.RunLaws.{more_budget}
use Rattle.lent_frames.specs.declared.LentFrame.{LentFrame}
use Rattle.entries.specs.Outcomes.{refusal}
use Rattle.entries.specs.LentSpace.{Written, write_out, write_in}
use Rattle.entries.specs.Run.{begins, run_end, run_result, run_outcome, run_work, run_tactic}
use Rattle.entries.specs.SavedState.{saved_size, zeros_to, saved_in, saved_state}
use Rattle.entries.specs.Halting.{HaltingOutcome, ran_for, halting_outcome, Halting, halt_in, run_halting}
use Rattle.entries.proofs.HaltingLaws.{enough_or_not, lent_enough, lent_short, table_refused, job_refused, both_read, halting_run}
use Rattle.entries.proofs.SavedStateLaws.{contents_fit}
use Rattle.promises.specs.Ended as ended
use Rattle.run_promises.specs.RunPromises.{RunRefuses}
use Rattle.run_promises.specs.HaltingPromises as promise
use Rattle.run_promises.specs.HaltingPromises.{Enough, HaltsAfter, EndsHalting}
use Rattle.promises.proofs.LentLaws.{Answers, ends_written}
use Rattle.run_promises.proofs.RunPromises.{at_job, run-outcome_lem}
use Rattle.run_promises.proofs.HaltingCases.{HaltingComes, comes_halted, comes_ended, RunMay, run_unlisted, halting_comes, other_number, lent_halt, writes_state, unsaved}

-- HALTS AS RUN: with spaces that suffice, all but the second space and the frames is as in the entry run.
pub halts_as_run : promise.Halts-as-run
unfolding run_halting run_tactic write_in
halts_as_run t f b w fs o st l =
    let q = lent_enough w fs o st l (halting_outcome t f b) in
    let r : write_in run_work w o (run_outcome t f b) ≡ write_out w o (halting_outcome t f b).outcome =
    rw (le-ltb (length w) run_work (omega (arith, l.0))) (ap (write_out w o) (sym (halting_run t f b))) in (
      ap (λ (x : Halting). x.answer) q ∙ sym (ap (λ (x : Written). x.answer) r),
      ap (λ (x : Halting). x.work) q ∙ sym (ap (λ (x : Written). x.work) r),
      ap (λ (x : Halting). x.out) q ∙ sym (ap (λ (x : Written). x.out) r),
    )

pub not_24 : RunMay 24 → ⊥
not_24 = run_unlisted 24 (omega arith) (omega arith) (λ q. omega (arith, q))

-- STATE SIZE: what is saved has room in the size that docs/ names.
pub state_size : promise.State-size
state_size t f n l x = contents_fit t f x.table x.job x.table_read x.job_read n l n x.place x.term x.goals x.waiting x.stands

-- HALTS: a run that has not ended is a halt, with all of its answer and every byte of the lent spaces.
halts_at : (t f : List ℕ) (b : ℕ) → b ≤ most_steps → (x : HaltsAfter t f b)
    → halting_outcome t f b ≡ record { outcome = refusal BudgetSpent 0 0 b; saved = some (zeros_to saved_size (promise.contents_of x)) }
unfolding halting_outcome ran_for run_result run_end saved_state saved_in
halts_at t f b l x =
    both_read t f b (λ T j. ran_for T j b) l x.table x.job x.table_read x.job_read
    ∙ ap (λ (σ : State). record { outcome = run_result x.job σ; saved = saved_state σ }) x.stands

pub halting_halts : promise.Halting-halts
unfolding run_halting
halting_halts t f b w fs o st l k x = ap (halt_in w fs o st) (halts_at t f b k x) ∙ lent_halt w fs o st l b (promise.contents_of x) (state_size t f b k x)

-- WRITES: a halt is 24 and fills the second space, and nothing else does.
pub halting_writes : promise.Halting-writes
unfolding run_halting
halting_writes t f b w fs o st = writes_state w fs o st RunMay not_24 t f b (halting_outcome t f b) (halting_comes t f b)

-- ZERO: a budget of 0 halts before the first term.
pub zero_halts : promise.Zero-halts
unfolding run start
zero_halts t f T j e g w fs o st l =
    halting_halts t f 0 w fs o st l (omega arith) (record { table = T; job = j; table_read = e; job_read = g; place = at_job j; term = j.term; goals = j.goals; waiting = []; stands = refl })

-- ENDS: demand 1, of a call that may halt

module _ (t f w : List ℕ) (fs : List LentFrame) (o st : List ℕ) (Own : (number file place steps : ℕ) → Type 0) where
  begun_ends : Enough w fs st → (h : HaltingOutcome) → Answers t f Own h.outcome → ((halt_in w fs o st h).answer.number ≡ 29 → ⊥) → EndsHalting t f w fs o st Own (halt_in w fs o st h)
  unfolding write_in
  begun_ends l h a d =
      let q = lent_enough w fs o st l h in
      let z : write_in 0 w o h.outcome ≡ write_out w o h.outcome = rw (le-ltb (length w) 0 (omega arith)) in
      let r = subst (ended.EndsWritten t f w o 0 Own) z (ends_written t f w o Own 0 h.outcome a) in
      rw q (record { answers = r.answers; clears = λ m. (r.clears (omega arith), refl, subst (λ (x : Halting). x.answer.number ≡ 29 → ⊥) q d); keeps = λ n. absurd (n l); refused = r.refused; succeeded = r.succeeded })

  unbegun_ends : (Enough w fs st → ⊥) → (h : HaltingOutcome) → EndsHalting t f w fs o st Own (halt_in w fs o st h)
  unbegun_ends d h =
      subst (EndsHalting t f w fs o st Own) (sym (lent_short w fs o st d h))
      (record { answers = ended.EndedWriting.ended_unstarted; clears = λ l. absurd (d l); keeps = λ n. refl; refused = λ n. (refl, refl); succeeded = λ z. absurd (omega (arith, z)) })

  pub ends_halting : (h : HaltingOutcome) → Answers t f Own h.outcome → (Enough w fs st → (halt_in w fs o st h).answer.number ≡ 29 → ⊥) → EndsHalting t f w fs o st Own (halt_in w fs o st h)
  ends_halting h a d = go (enough_or_not w fs o st)
    where
      go : Dec (Enough w fs st) → EndsHalting t f w fs o st Own (halt_in w fs o st h)
      go (yes l) = begun_ends l h a (d l)
      go (no n) = unbegun_ends n h

-- 29 is not among the answers of a call that was begun
pub not_short : (w : List ℕ) (fs : List LentFrame) (o st : List ℕ) (May : (number : ℕ) → Type 0) → (May 29 → ⊥) → (t f : List ℕ) (n : ℕ) (h : HaltingOutcome) → HaltingComes May t f n h → Enough w fs st
    → (halt_in w fs o st h).answer.number ≡ 29 → ⊥
unfolding write_out number
not_short w fs o st May d t f n h (comes_halted x fit) l z =
    let q = ap (λ (y : Halting). y.answer.number) (lent_enough w fs o st l h) in omega (arith, z, q)
not_short w fs o st May d t f n h (comes_ended x r) l z = other_number w fs o st May l x r 29 d (λ q. omega (arith, q)) (λ q. omega (arith, q)) z

pub halting_ends : promise.Halting-ends
unfolding run_halting
halting_ends t f b w fs o st =
    ends_halting t f w fs o st (RunRefuses b) (halting_outcome t f b) (subst (Answers t f (RunRefuses b)) (sym (halting_run t f b)) (run-outcome_lem t f b))
    (not_short w fs o st RunMay (run_unlisted 29 (omega arith) (omega arith) (λ q. omega (arith, q))) t f b (halting_outcome t f b) (halting_comes t f b))

-- MORE BUDGET (P14): any answer but 24 stays, with every byte of the lent spaces.

module _ (b c : ℕ) (l : b ≤ c) where
  -- a run that did not halt is the same under a larger budget
  same_run : (T : Table) (j : Job) → (ran_for T j b).saved ≡ none → ran_for T j c ≡ ran_for T j b
  unfolding ran_for saved_state saved_in
  same_run T j q = go (run T b (begins j)).control refl q
    where
      go : (κ : Control) → (run T b (begins j)).control ≡ κ → saved_in (run T b (begins j)).steps κ ≡ none → ran_for T j c ≡ ran_for T j b
      go (running π u x v) p z = absurd (none-ne-some _ (sym z))
      go (stopped x) p z =
          let k = (run T b (begins j)).steps in
          ap (λ (y : State). record { outcome = run_result j y; saved = saved_in y.steps y.control }) (more_budget T b c (begins j) k x (ap (after k) p) l ∙ sym (ap (after k) p))

  module _ (t f : List ℕ) (k : c ≤ most_steps) where
    abbrev Same : Type 0
    Same = (halting_outcome t f b).saved ≡ none → halting_outcome t f c ≡ halting_outcome t f b

    abbrev for : ℕ → Table → Job → HaltingOutcome
    for n T j = ran_for T j n

    by_job : (T : Table) → read_table t ≡ gives T → (r : Result Job) → read_job f ≡ r → Same
    unfolding halting_outcome
    by_job T e (gives j) g q =
        let p = both_read t f b (for b) (omega (arith, l, k)) T j e g in
        both_read t f c (for c) k T j e g ∙ same_run T j (ap (λ (h : HaltingOutcome). h.saved) (sym p) ∙ q) ∙ sym p
    by_job T e (refused x p) g q = job_refused t f c (for c) k T e x p g ∙ sym (job_refused t f b (for b) (omega (arith, l, k)) T e x p g)

    by_table : (r : Result Table) → read_table t ≡ r → Same
    unfolding halting_outcome
    by_table (gives T) e q = by_job T e (read_job f) refl q
    by_table (refused x p) e q = table_refused t f c (for c) k x p e ∙ sym (table_refused t f b (for b) (omega (arith, l, k)) x p e)

    pub same_halting : Same
    same_halting = by_table (read_table t) refl

-- two outcomes that are the same without a saved state answer alike
pub same_call : (w : List ℕ) (fs : List LentFrame) (o st : List ℕ) (May : (number : ℕ) → Type 0) → (May 24 → ⊥) → (t f : List ℕ) (n : ℕ) (h h' : HaltingOutcome) → HaltingComes May t f n h
    → (h.saved ≡ none → h' ≡ h) → ((halt_in w fs o st h).answer.number ≡ 24 → ⊥) → halt_in w fs o st h' ≡ halt_in w fs o st h
same_call w fs o st May m t f n h h' k q d = go (enough_or_not w fs o st)
  where
    go : Dec (Enough w fs st) → halt_in w fs o st h' ≡ halt_in w fs o st h
    go (yes l) = ap (halt_in w fs o st) (q (unsaved w fs o st May m t f n l h k d))
    go (no l) = lent_short w fs o st l h' ∙ sym (lent_short w fs o st l h)

pub more_budget_halting : promise.More-budget-halting
unfolding run_halting
more_budget_halting t f b c w fs o st l k d = same_call w fs o st RunMay not_24 t f b (halting_outcome t f b) (halting_outcome t f c) (halting_comes t f b) (same_halting b c l t f k) d
