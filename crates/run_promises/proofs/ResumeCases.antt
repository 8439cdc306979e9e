-- What resume comes to: 25, a refusal of the table or of the job, 30, or the single run. Assumes nothing.
use Prim.Native.Nat.{ℕ, ◌+◌, ◌≤◌, ◌<◌}
use native.Mathlib.Omega.{arith}
use native.Mathlib.Decide.{dec_lt}
use mathlib.Core.Path.{◌≡◌, refl, sym, subst, ◌∙◌}
use mathlib.Core.Logic.{inl, inr}
use mathlib.Core.Bool.{Bool, true, false, false≢true}
use mathlib.Core.List.{List}
use Rattle.format.specs.Limits.{most_steps}
use Rattle.format.specs.declared.refusals.Cause.{Cause}
use Rattle.format.specs.declared.refusals.Cause.TheVariants.{BudgetTooLarge, StateNotGenuine}
use Rattle.format.specs.Refusals.{number}
use Rattle.format.specs.Results.{Result, gives, refused}
use Rattle.tables.specs.Tables.{Table}
use Rattle.tables.specs.ReadTables.{read_table}
use Rattle.tables.proofs.RefusedTable.{table_place}
use Rattle.files.specs.Jobs.{Job, read_job}
use Rattle.files.proofs.RefusedFiles.{Job-refused}
use Rattle.entries.specs.Outcomes.{Outcome, success, refusal}
use Rattle.entries.specs.Halting.{HaltingOutcome, unbegun, ran_for, halting_outcome, steps_of, genuine, going_on, resume_outcome}
use Rattle.entries.proofs.HaltingLaws.{over_limit, table_refused, job_refused, both_read, genuine_goes_on, not_genuine}
use Rattle.run_promises.proofs.HaltingCases.{HaltingComes, comes_halted, comes_ended, RunMay, ResumeMay, Refused, halting_comes}

pub is_false : (x : Bool) → (x ≡ true → ⊥) → x ≡ false
is_false true d = absurd (d refl)
is_false false d = refl

module _ (t f s : List ℕ) (c : ℕ) where
  pub resume_over : most_steps < steps_of s + c → resume_outcome t f s c ≡ unbegun (refusal BudgetTooLarge 0 0 0)
  unfolding resume_outcome
  resume_over l = over_limit t f (steps_of s + c) (going_on s c) l

  module _ (l : steps_of s + c ≤ most_steps) where
    pub resume_table : (x : Cause) (p : ℕ) → read_table t ≡ refused x p → resume_outcome t f s c ≡ unbegun (refusal x 1 p 0)
    unfolding resume_outcome
    resume_table x p e = table_refused t f (steps_of s + c) (going_on s c) l x p e

    module _ (T : Table) (e : read_table t ≡ gives T) where
      pub resume_job : (x : Cause) (p : ℕ) → read_job f ≡ refused x p → resume_outcome t f s c ≡ unbegun (refusal x 2 p 0)
      unfolding resume_outcome
      resume_job x p g = job_refused t f (steps_of s + c) (going_on s c) l T e x p g

      module _ (j : Job) (g : read_job f ≡ gives j) where
        pub resume_forged : (genuine T j s ≡ true → ⊥) → resume_outcome t f s c ≡ unbegun (refusal StateNotGenuine 0 0 0)
        unfolding resume_outcome
        resume_forged d = both_read t f (steps_of s + c) (going_on s c) l T j e g ∙ not_genuine T j s c (is_false (genuine T j s) d)

        pub resume_run_lem : genuine T j s ≡ true → resume_outcome t f s c ≡ halting_outcome t f (steps_of s + c)
        unfolding resume_outcome halting_outcome
        resume_run_lem q =
            both_read t f (steps_of s + c) (going_on s c) l T j e g ∙ genuine_goes_on T j s c q ∙ sym (both_read t f (steps_of s + c) (λ T j. ran_for T j (steps_of s + c)) l T j e g)

-- the five of them
pub data Resumes (t f s : List ℕ) (c : ℕ) : HaltingOutcome → Type 0 where
  over : most_steps < steps_of s + c → Resumes t f s c (unbegun (refusal BudgetTooLarge 0 0 0))
  in_table : steps_of s + c ≤ most_steps → (x : Cause) (p : ℕ) → read_table t ≡ refused x p → Resumes t f s c (unbegun (refusal x 1 p 0))
  in_job : steps_of s + c ≤ most_steps → (x : Cause) (p : ℕ) → read_job f ≡ refused x p → Resumes t f s c (unbegun (refusal x 2 p 0))
  forged : steps_of s + c ≤ most_steps → (T : Table) (j : Job) → read_table t ≡ gives T → read_job f ≡ gives j → (genuine T j s ≡ true → ⊥) → Resumes t f s c (unbegun (refusal StateNotGenuine 0 0 0))
  as_run : steps_of s + c ≤ most_steps → Resumes t f s c (halting_outcome t f (steps_of s + c))

module _ (t f s : List ℕ) (c : ℕ) where
  abbrev R : HaltingOutcome → Type 0
  R = Resumes t f s c

  by_state : steps_of s + c ≤ most_steps → (T : Table) (j : Job) → read_table t ≡ gives T → read_job f ≡ gives j → (x : Bool) → genuine T j s ≡ x → R (resume_outcome t f s c)
  by_state l T j e g true q = subst R (sym (resume_run_lem t f s c l T e j g q)) (as_run l)
  by_state l T j e g false q = let d : genuine T j s ≡ true → ⊥ = λ z. false≢true (sym q ∙ z) in subst R (sym (resume_forged t f s c l T e j g d)) (forged l T j e g d)

  by_job : steps_of s + c ≤ most_steps → (T : Table) → read_table t ≡ gives T → (r : Result Job) → read_job f ≡ r → R (resume_outcome t f s c)
  by_job l T e (gives j) g = by_state l T j e g (genuine T j s) refl
  by_job l T e (refused x p) g = subst R (sym (resume_job t f s c l T e x p g)) (in_job l x p g)

  by_table : steps_of s + c ≤ most_steps → (r : Result Table) → read_table t ≡ r → R (resume_outcome t f s c)
  by_table l (gives T) e = by_job l T e (read_job f) refl
  by_table l (refused x p) e = subst R (sym (resume_table t f s c l x p e)) (in_table l x p e)

  by_budget : Dec (most_steps < steps_of s + c) → R (resume_outcome t f s c)
  by_budget (yes l) = subst R (sym (resume_over t f s c l)) (over l)
  by_budget (no l) = by_table (omega arith) (read_table t) refl

  pub resumes : R (resume_outcome t f s c)
  resumes = by_budget (dec_lt most_steps (steps_of s + c))

-- a halt with 24 and a saved state, or an answer without one
more_may : (o : Outcome (List ℕ)) → Refused RunMay o → Refused ResumeMay o
more_may (success b k) r = tt
more_may (refusal c f p k) r = inl r

more_come : {t f : List ℕ} {n : ℕ} {h : HaltingOutcome} → HaltingComes RunMay t f n h → HaltingComes ResumeMay t f n h
more_come (comes_halted x fit) = comes_halted x fit
more_come (comes_ended o r) = comes_ended o (more_may o r)

pub resume_comes : (t f s : List ℕ) (c : ℕ) (h : HaltingOutcome) → Resumes t f s c h → HaltingComes ResumeMay t f (steps_of s + c) h
unfolding number
resume_comes t f s c h (over l) = comes_ended (refusal BudgetTooLarge 0 0 0) (inl (inr (inl refl)))
resume_comes t f s c h (in_table l x p e) = comes_ended (refusal x 1 p 0) (inl (inl (omega (arith, (table_place t x p e).most))))
resume_comes t f s c h (in_job l x p g) = comes_ended (refusal x 2 p 0) (inl (inl (omega (arith, (Job-refused f x p g).most))))
resume_comes t f s c h (forged l T j e g d) = comes_ended (refusal StateNotGenuine 0 0 0) (inr refl)
resume_comes t f s c h (as_run l) = more_come (halting_comes t f (steps_of s + c))
