-- The promises of resume: what is read of a saved state is its step count, after so many steps the machine stands where it halted, and from there it is a single run.
-- Assumes nothing.
use Prim.Native.Nat.{ℕ, ◌+◌, ◌≤◌}
use native.Mathlib.Omega.{arith}
use mathlib.Core.Path.{◌≡◌, refl, sym, subst, ap, ◌∙◌}
use mathlib.Core.Logic.{inl, inr}
use mathlib.Core.Bool.{Bool, true, false}
use mathlib.Core.List.{List, ◌∷◌}
use mathlib.Core.Option.{none, some, none-ne-some}
use lib.ListN.{length, take}
use borrow.Author.Tests.{lt-ltb, le-ltb}
use Rattle.words.specs.Word.{word}
use Rattle.format.specs.Limits.{most_steps}
use Rattle.format.specs.declared.refusals.Cause.{Cause}
use Rattle.format.specs.declared.refusals.Cause.TheVariants.{BudgetTooLarge, StateNotGenuine}
use Rattle.format.specs.Refusals.{number}
use Rattle.format.specs.Results.{Result, gives, refused}
use Rattle.tables.specs.Tables.{Table}
use Rattle.tables.specs.ReadTables.{read_table}
use Rattle.tables.proofs.RefusedTable.{table_place}
use Rattle.files.specs.Jobs.{Job, read_job}
use Rattle.files.proofs.RefusedFiles.{Job-refused}
use Rattle.evaluation.specs.Machine.{run}
use Rattle.lent_frames.specs.declared.LentFrame.{LentFrame}
use Rattle.entries.specs.Outcomes.{Outcome, success, refusal}
use Rattle.entries.specs.LentSpace.{write_out}
use Rattle.entries.specs.Run.{begins}
use Rattle.entries.specs.SavedState.{saved_size, saved_state}
use Rattle.entries.specs.Halting.{HaltingOutcome, unbegun, ran_for, halting_outcome, steps_of, genuine, resume_outcome, Halting, save_in, halt_in, run_halting, resume_run}
use Rattle.entries.proofs.HaltingLaws.{enough_or_not, lent_enough, lent_short, both_read, halting_run, genuine_saved, saved_genuine}
use Rattle.entries.proofs.SavedStateLaws.{some_of, saved_length, saved_steps}
use Rattle.promises.specs.Ended as ended
use Rattle.promises.specs.Ended.{EndedWriting, ended_wrote, ended_output, ended_unstarted}
use Rattle.run_promises.specs.RunPromises.{RunRefuses}
use Rattle.run_promises.specs.HaltingPromises.{Enough}
use Rattle.run_promises.specs.ResumePromises as promise
use Rattle.run_promises.specs.ResumePromises.{refused_as, ResumeRefuses}
use Rattle.promises.proofs.LentLaws.{Answers}
use Rattle.run_promises.proofs.RunPromises.{run-outcome_lem}
use Rattle.run_promises.proofs.HaltingCases.{HaltingComes, comes_halted, comes_ended, RunMay, ResumeMay, run_unlisted, resume_unlisted, halting_comes, other_number, writes_state, saved_first, saved_answer}
use Rattle.run_promises.proofs.HaltingPromises.{not_24, ends_halting, not_short, same_halting, same_call}
use Rattle.run_promises.proofs.ResumeCases.{resume_over, resume_table, resume_job, resume_forged, resume_run_lem, Resumes, over, in_table, in_job, forged, as_run, resumes, resume_comes}

-- STEPS: b is the number in the first two bytes, and 0 of a state that is shorter.
pub steps_of_lem : promise.Steps-of
unfolding steps_of word
steps_of_lem s = (λ l. rw (lt-ltb (length s) 2 l), λ x y. rw (le-ltb (length (x ∷ y ∷ s)) 2 (omega arith)) (omega arith))

module _ (t f : List ℕ) (T : Table) (j : Job) (e : read_table t ≡ gives T) (g : read_job f ≡ gives j) where
  saved_is : (b : ℕ) → b ≤ most_steps → (halting_outcome t f b).saved ≡ saved_state (run T b (begins j))
  unfolding halting_outcome ran_for
  saved_is b l = ap (λ (h : HaltingOutcome). h.saved) (both_read t f b (λ T j. ran_for T j b) l T j e g)

  module _ (s : List ℕ) (k : steps_of s ≤ most_steps) (w : List ℕ) (fs : List LentFrame) (o st : List ℕ) (l : Enough w fs st) where
    abbrev h : HaltingOutcome
    h = halting_outcome t f (steps_of s)

    abbrev Halts-so : Type 0
    Halts-so = ((halt_in w fs o st h).answer.number ≡ 24) × (take saved_size (halt_in w fs o st h).state ≡ s)

    to_halt : genuine T j s ≡ true → Halts-so
    to_halt q =
        let z = saved_is (steps_of s) k ∙ genuine_saved T j s q in
        let n = saved_answer w fs o st RunMay not_24 t f (steps_of s) l h (halting_comes t f (steps_of s)) s z in
        let x = saved_first w fs o st RunMay not_24 t f (steps_of s) h (halting_comes t f (steps_of s)) n in
        (n, x.2 ∙ some_of (sym x.1 ∙ z))

    of_halt : Halts-so → genuine T j s ≡ true
    of_halt q =
        let x = saved_first w fs o st RunMay not_24 t f (steps_of s) h (halting_comes t f (steps_of s)) q.0 in
        saved_genuine T j s (sym (saved_is (steps_of s) k) ∙ x.1 ∙ ap some (sym x.2 ∙ q.1))

-- GENUINE: a state is genuine exactly if the same table and job, run for its step count, halt with those bytes.
pub genuine_is : promise.Genuine-is
unfolding run_halting
genuine_is t f s T j e g k w fs o st l = (to_halt t f T j e g s k w fs o st l, of_halt t f T j e g s k w fs o st l)

pub other_size : promise.Other-size
other_size t f s T j e g k q = saved_length t f T j e g (steps_of s) k s (genuine_saved T j s q)

-- GOES ON: after a halt at b, going on with c is a run with b + c, with all of the answer and every byte of the lent spaces.
record Halt (t f : List ℕ) (b : ℕ) (s : List ℕ) : Type 0 where
  table : Table
  job : Job
  table_read : read_table t ≡ gives table
  job_read : read_job f ≡ gives job
  saved : saved_state (run table b (begins job)) ≡ some s

halt_of : (t f : List ℕ) (b : ℕ) (s : List ℕ) (h : HaltingOutcome) → halting_outcome t f b ≡ h → HaltingComes RunMay t f b h → b ≤ most_steps → h.saved ≡ some s → Halt t f b s
halt_of t f b s h p (comes_halted x fit) l q = record {
  table = x.table;
  job = x.job;
  table_read = x.table_read;
  job_read = x.job_read;
  saved = sym (saved_is t f x.table x.job x.table_read x.job_read b l) ∙ ap (λ (y : HaltingOutcome). y.saved) p ∙ q;
}
halt_of t f b s h p (comes_ended x r) l q = absurd (none-ne-some s q)

pub goes_on : promise.Goes_on
unfolding run_halting resume_run
goes_on t f b c l w fs o st n w' fs' o' st' =
    let x = saved_first w fs o st RunMay not_24 t f b (halting_outcome t f b) (halting_comes t f b) n in
    let s = x.0 in
    let y = halt_of t f b s (halting_outcome t f b) refl (halting_comes t f b) (omega (arith, l)) x.1 in
    let T = y.table in
    let j = y.job in
    let k : steps_of s ≡ b = saved_steps t f T j y.table_read y.job_read b (omega (arith, l)) s y.saved in
    let q : genuine T j s ≡ true = saved_genuine T j s (ap (λ (i : ℕ). saved_state (run T i (begins j))) k ∙ y.saved) in
    ap (λ (i : List ℕ). halt_in w' fs' o' st' (resume_outcome t f i c)) x.2
    ∙ ap (halt_in w' fs' o' st') (resume_run_lem t f s c (omega (arith, l, k)) T y.table_read j y.job_read q ∙ ap (λ (i : ℕ). halting_outcome t f (i + c)) k)

-- ORDER: each refusal of resume, by its cause, and the single run.
lent_refused : (w : List ℕ) (fs : List LentFrame) (o st : List ℕ) → Enough w fs st → (x : Cause) (file p : ℕ) → halt_in w fs o st (unbegun (refusal x file p 0)) ≡ refused_as (number x) file p w fs o st
unfolding write_out save_in
lent_refused w fs o st l x file p = lent_enough w fs o st l (unbegun (refusal x file p 0))

pub resume_order : promise.Resume-order
unfolding resume_run run_halting number
resume_order t f s c w fs o st l = record {
  budget = λ k. ap (halt_in w fs o st) (resume_over t f s c k) ∙ lent_refused w fs o st l BudgetTooLarge 0 0;
  table = λ k x p e. ap (halt_in w fs o st) (resume_table t f s c k x p e) ∙ lent_refused w fs o st l x 1 p;
  job = λ k T e x p g. ap (halt_in w fs o st) (resume_job t f s c k T e x p g) ∙ lent_refused w fs o st l x 2 p;
  forged = λ k T j e g d. ap (halt_in w fs o st) (resume_forged t f s c k T e j g d) ∙ lent_refused w fs o st l StateNotGenuine 0 0;
  goes_on = λ k T j e g q. ap (halt_in w fs o st) (resume_run_lem t f s c k T e j g q);
}

-- NOT GENUINE: 30 exactly if neither 29 nor 25 applies, the files are read and the state is not genuine.
module _ (t f s : List ℕ) (c : ℕ) (w : List ℕ) (fs : List LentFrame) (o st : List ℕ) where
  abbrev call : HaltingOutcome → Halting
  call = halt_in w fs o st

  abbrev Forged : Type 0
  Forged = Enough w fs st × (steps_of s + c ≤ most_steps) × ((T : Table) × (j : Job) × (read_table t ≡ gives T) × (read_job f ≡ gives j) × (genuine T j s ≡ true → ⊥))

  module _ (l : Enough w fs st) where
    refusal_30 : (x : Cause) (file p : ℕ) → (call (unbegun (refusal x file p 0))).answer.number ≡ 30 → number x ≡ 30
    refusal_30 x file p z = ap (λ (y : Halting). y.answer.number) (sym (lent_refused w fs o st l x file p)) ∙ z

    run_30 : (n : ℕ) (h : HaltingOutcome) → HaltingComes RunMay t f n h → (call h).answer.number ≡ 30 → ⊥
    unfolding write_out number
    run_30 n h (comes_halted x fit) z = let q = ap (λ (y : Halting). y.answer.number) (lent_enough w fs o st l h) in omega (arith, z, q)
    run_30 n h (comes_ended x r) z =
        other_number w fs o st RunMay l x r 30 (run_unlisted 30 (omega arith) (omega arith) (λ q. omega (arith, q))) (λ q. omega (arith, q)) (λ q. omega (arith, q)) z

    to_forged : (h : HaltingOutcome) → Resumes t f s c h → (call h).answer.number ≡ 30 → Forged
    unfolding number
    to_forged h (over k) z = absurd (omega (arith, refusal_30 BudgetTooLarge 0 0 z))
    to_forged h (in_table k x p e) z = absurd (omega (arith, refusal_30 x 1 p z, (table_place t x p e).most))
    to_forged h (in_job k x p g) z = absurd (omega (arith, refusal_30 x 2 p z, (Job-refused f x p g).most))
    to_forged h (forged k T j e g d) z = (l, k, (T, j, e, g, d))
    to_forged h (as_run k) z = absurd (run_30 (steps_of s + c) h (halting_comes t f (steps_of s + c)) z)

  by_spaces : Dec (Enough w fs st) → (call (resume_outcome t f s c)).answer.number ≡ 30 → Forged
  by_spaces (yes l) z = to_forged l (resume_outcome t f s c) (resumes t f s c) z
  by_spaces (no d) z = absurd (let q = ap (λ (y : Halting). y.answer.number) (lent_short w fs o st d (resume_outcome t f s c)) in omega (arith, z, q))

  of_forged : Forged → (call (resume_outcome t f s c)).answer.number ≡ 30
  unfolding number
  of_forged (l, k, (T, j, e, g, d)) =
      ap (λ (h : HaltingOutcome). (call h).answer.number) (resume_forged t f s c k T e j g d) ∙ ap (λ (x : Halting). x.answer.number) (lent_refused w fs o st l StateNotGenuine 0 0)

pub not_genuine : promise.Not-genuine
unfolding resume_run
not_genuine t f s c w fs o st = (by_spaces t f s c w fs o st (enough_or_not w fs o st), of_forged t f s c w fs o st)

-- WRITES, ENDS, MORE BUDGET
resume_not_24 : ResumeMay 24 → ⊥
resume_not_24 = resume_unlisted 24 (omega arith) (omega arith) (λ q. omega (arith, q)) (λ q. omega (arith, q))

pub resume_writes : promise.Resume-writes
unfolding resume_run
resume_writes t f s c w fs o st = writes_state w fs o st ResumeMay resume_not_24 t f (steps_of s + c) (resume_outcome t f s c) (resume_comes t f s c (resume_outcome t f s c) (resumes t f s c))

module _ (t f s : List ℕ) (c : ℕ) where
  run_ended : (a : _) → EndedWriting t f (RunRefuses (steps_of s + c)) a → EndedWriting t f (ResumeRefuses s c) a
  run_ended a (ended_wrote n k) = ended_wrote n k
  run_ended a (ended.EndedWriting.ended_table n q l m h) = ended.EndedWriting.ended_table n q l m h
  run_ended a (ended.EndedWriting.ended_other n q l m h) = ended.EndedWriting.ended_other n q l m h
  run_ended a (ended.EndedWriting.ended_own n file q k r) = ended.EndedWriting.ended_own n file q k (inl r)
  run_ended a (ended_output k) = ended_output k
  run_ended a ended_unstarted = ended_unstarted

  run_answers : (o : Outcome (List ℕ)) → Answers t f (RunRefuses (steps_of s + c)) o → Answers t f (ResumeRefuses s c) o
  unfolding Answers
  run_answers (success b k) r = tt
  run_answers (refusal x file p k) r = run_ended _ r

  resume_answers : (h : HaltingOutcome) → Resumes t f s c h → Answers t f (ResumeRefuses s c) h.outcome
  unfolding Answers number
  resume_answers h (over l) = ended.EndedWriting.ended_own 25 0 0 0 (inl (refl, refl, inr (inr (refl, l, refl))))
  resume_answers h (in_table l x p e) = let r = table_place t x p e in ended.EndedWriting.ended_table (number x) p r.least r.most r.within
  resume_answers h (in_job l x p g) = let r = Job-refused f x p g in ended.EndedWriting.ended_other (number x) p r.least r.most r.within
  resume_answers h (forged l T j e g d) = ended.EndedWriting.ended_own 30 0 0 0 (inr (refl, refl, refl, refl))
  resume_answers h (as_run l) =
      run_answers h.outcome (subst (Answers t f (RunRefuses (steps_of s + c))) (sym (halting_run t f (steps_of s + c))) (run-outcome_lem t f (steps_of s + c)))

pub resume_ends : promise.Resume-ends
unfolding resume_run
resume_ends t f s c w fs o st =
    ends_halting t f w fs o st (ResumeRefuses s c) (resume_outcome t f s c) (resume_answers t f s c (resume_outcome t f s c) (resumes t f s c))
    (not_short w fs o st ResumeMay (resume_unlisted 29 (omega arith) (omega arith) (λ q. omega (arith, q)) (λ q. omega (arith, q))) t f (steps_of s + c) (resume_outcome t f s c) (resume_comes t f s c (resume_outcome t f s c) (resumes t f s c)))

module _ (t f s : List ℕ) (b c : ℕ) (l : b ≤ c) (k : steps_of s + c ≤ most_steps) where
  abbrev Same : Type 0
  Same = (resume_outcome t f s b).saved ≡ none → resume_outcome t f s c ≡ resume_outcome t f s b

  within : steps_of s + b ≤ most_steps
  within = omega (arith, l, k)

  by_state : (T : Table) (j : Job) → read_table t ≡ gives T → read_job f ≡ gives j → (x : Bool) → genuine T j s ≡ x → Same
  by_state T j e g true q z =
      let p = resume_run_lem t f s b within T e j g q in
      resume_run_lem t f s c k T e j g q ∙ same_halting (steps_of s + b) (steps_of s + c) (omega (arith, l)) t f k (ap (λ (h : HaltingOutcome). h.saved) (sym p) ∙ z) ∙ sym p
  by_state T j e g false q z =
      let d : genuine T j s ≡ true → ⊥ = λ y. absurd (let r : ◌≡◌ {A = ℕ} 0 1 = cc in omega arith) in
      resume_forged t f s c k T e j g d ∙ sym (resume_forged t f s b within T e j g d)

  by_job : (T : Table) → read_table t ≡ gives T → (r : Result Job) → read_job f ≡ r → Same
  by_job T e (gives j) g z = by_state T j e g (genuine T j s) refl z
  by_job T e (refused x p) g z = resume_job t f s c k T e x p g ∙ sym (resume_job t f s b within T e x p g)

  by_table : (r : Result Table) → read_table t ≡ r → Same
  by_table (gives T) e z = by_job T e (read_job f) refl z
  by_table (refused x p) e z = resume_table t f s c k x p e ∙ sym (resume_table t f s b within x p e)

pub more_budget_resume : promise.More-budget-resume
unfolding resume_run
more_budget_resume t f s b c w fs o st l k d =
    same_call w fs o st ResumeMay resume_not_24 t f (steps_of s + b) (resume_outcome t f s b) (resume_outcome t f s c) (resume_comes t f s b (resume_outcome t f s b) (resumes t f s b)) (by_table t f s b c l k (read_table t) refl) d
