-- The promises of run: by the theorem of hitac that the machine decides the deterministic rules within its budget.
-- Assumes nothing.
use Prim.Native.Nat.{ℕ, ◌≤◌, ◌<◌}
use native.Mathlib.Omega.{arith}
use native.Mathlib.Decide.{dec_lt}
use mathlib.Core.Path.{◌≡◌, refl, sym, subst, ap, ◌∙◌}
use mathlib.Core.Logic.{inl, inr}
use mathlib.Core.List.{List}
use lib.ListN.{length}
use borrow.Author.Tests.{lt-ltb, le-ltb}
use Rattle.format.specs.declared.values.Goal.{Goal}
use Rattle.format.specs.Encoding.{Bytes, GoalValues, TermValues}
use Rattle.format.specs.Limits.{most_steps}
use Rattle.format.specs.declared.refusals.Cause.{Cause}
use Rattle.format.specs.declared.refusals.Cause.TheVariants.{JoinedTooLong, FieldsTooMany, TacticFailed, BudgetSpent, BudgetTooLarge}
use Rattle.format.specs.Refusals.{number}
use Rattle.format.specs.Results.{Result, gives, refused}
use Rattle.format.specs.Terms.{Term}
use Rattle.tables.specs.Tables.{Table, HasRule, UniqueRules, UniqueDefinitions}
use Rattle.tables.specs.ReadTables.{read_table}
use Rattle.tables.proofs.ReadsTable.{reads_unique_rules, reads_unique_definitions, reads_few_premises, reads_table}
use Rattle.tables.proofs.RefusedTable.{table_place}
use Rattle.files.specs.Jobs.{Job, read_job}
use Rattle.files.specs.Counts.{job_term_place}
use Rattle.files.specs.Within.{ProofWithin, JobWithin}
use Rattle.files.proofs.ReadsJob.{reads_job}
use Rattle.files.proofs.ReadsProof.{proof_back_lem}
use Rattle.files.proofs.RefusedFiles.{Job-refused}
use Rattle.evaluation.specs.Ends.{End, proof, failure, overflow, excess, FewHeld, Ends}
use Rattle.evaluation.specs.EndingOf.{ending_of}
use Rattle.evaluation.specs.RunSizes.{held_fields}
use Rattle.evaluation.specs.Evaluates.{Evaluates}
use Rattle.hitac.specs.Validates.{AtMost256, Validates}
use Rattle.evaluation.proofs.BigStep.{ends_evaluates, evaluates_validates}
use Rattle.evaluation.proofs.RunBounds.{proof_goals}
use Rattle.evaluation.proofs.HeldBounds.{excess_late, run-held}
use Rattle.hitac.proofs.ValidatesLaws.{validates_hiproof}
use Rattle.evaluation.specs.Machine.{Place, Control, running, stopped, State, after, Running, run, start}
use Rattle.evaluation.specs.Outcomes.{Ending, proved, failed, ended}
use Rattle.evaluation.proofs.MachineMeaning.{run↔ends, run-ending, running↔no_end}
use Rattle.evaluation.proofs.RunLaws.{spent_steps, run_steps}
use Rattle.answers.specs.Answers as answer
use Rattle.entries.specs.Outcomes.{Outcome, success, refusal}
use Rattle.entries.specs.LentSpace.{Written, write_out, write_in}
use Rattle.entries.specs.Run.{begins, run_end, run_result, run_outcome, run_work, run_tactic}
use Rattle.promises.specs.Accepted.{Accepted}
use Rattle.promises.specs.Ended as ended-specs
use Rattle.promises.specs.Results.{result_of, wrote_after}
use Rattle.run_promises.specs.RunPromises.{RunAnswers, Run-answers, Run-accepted, RunRefuses, Run-ends, Run-limit}
use Rattle.promises.proofs.LentLaws.{Answers, ends_written}
use Rattle.run_promises.proofs.RunWithin.{evaluated_values}

-- where a job's term stands
abbrev pub at_job : Job → Place
at_job j = record { file = 1; at = job_term_place j }

module _ (t f : List ℕ) (b : ℕ) (T : Table) (j : Job) (l : b ≤ most_steps) (e : read_table t ≡ gives T) (g : read_job f ≡ gives j) where
  abbrev σ : State
  σ = run T b (begins j)

  rules : UniqueRules T
  rules = reads_unique_rules t T e

  definitions : UniqueDefinitions T
  definitions = reads_unique_definitions t T e

  pub outcome : run_outcome t f b ≡ run_result j σ
  unfolding run_outcome
  outcome = rw (le-ltb most_steps b l, e, g)

  -- the outcome of a run that has ended
  ended_so : (n : ℕ) (x : End) → Ends T FewHeld 0 j.goals j.term n x → n ≤ b → run_outcome t f b ≡ run_end j n (stopped (ending_of x))
  unfolding run_result
  ended_so n x d h = outcome ∙ ap (run_result j) ((run↔ends T rules definitions (at_job j) j.term j.goals b n x).1 (d, h))

  -- and of one that has not
  pub still_running : (κ : Control) → Running κ → (n : ℕ) → run_end j n κ ≡ refusal BudgetSpent 0 0 n
  unfolding run_end
  still_running (running π u h w) r n = refl
  still_running (stopped _) r n = elim r [ ]

  spent_so : ((n : ℕ) (x : End) → Ends T FewHeld 0 j.goals j.term n x → n ≤ b → ⊥) → run_outcome t f b ≡ refusal BudgetSpent 0 0 b
  unfolding run_result
  spent_so none =
      let r = (running↔no_end T rules definitions (at_job j) j.term j.goals b).1 none in
      outcome ∙ still_running σ.control r σ.steps ∙ ap (λ (n : ℕ). refusal BudgetSpent 0 0 n) (spent_steps T b (at_job j) j.term j.goals r)

  pub answer_of : (w o : List ℕ) → run_work ≤ length w → (c : Cause) (n : ℕ) → run_outcome t f b ≡ refusal c 0 0 n → (run_tactic t f b w o).answer ≡ answer.refusal (number c) 0 0 n
  unfolding run_tactic write_in write_out
  answer_of w o h c n q = rw (le-ltb (length w) run_work h, q)

  writes : (n : ℕ) (s : Term) (h : List Goal) → Ends T FewHeld 0 j.goals j.term n (proof s h) → n ≤ b
      → (w o : List ℕ) → run_work ≤ length w → length (result_of j s h) ≤ length o → run_tactic t f b w o ≡ wrote_after n (result_of j s h) w o
  unfolding run_tactic write_in write_out run_end
  writes n s h d k w o x y = rw (ended_so n (proof s h) d k, le-ltb (length w) run_work x, le-ltb (length o) (length (result_of j s h)) y)

  fails : (n : ℕ) → Ends T FewHeld 0 j.goals j.term n failure → n ≤ b → (w o : List ℕ) → run_work ≤ length w → (run_tactic t f b w o).answer ≡ answer.refusal 23 0 0 n
  unfolding run_end number
  fails n d k w o x = answer_of w o x TacticFailed n (ended_so n failure d k)

  overflows : (n : ℕ) → Ends T FewHeld 0 j.goals j.term n overflow → n ≤ b → (w o : List ℕ) → run_work ≤ length w → (run_tactic t f b w o).answer ≡ answer.refusal 22 0 0 n
  unfolding run_end number
  overflows n d k w o x = answer_of w o x JoinedTooLong n (ended_so n overflow d k)

  exceeds : (n : ℕ) → Ends T FewHeld 0 j.goals j.term n excess → n ≤ b → (w o : List ℕ) → run_work ≤ length w → (run_tactic t f b w o).answer ≡ answer.refusal 40 0 0 n
  unfolding run_end number
  exceeds n d k w o x = answer_of w o x FieldsTooMany n (ended_so n excess d k)

  spends : ((n : ℕ) (x : End) → Ends T FewHeld 0 j.goals j.term n x → n ≤ b → ⊥) → (w o : List ℕ) → run_work ≤ length w → (run_tactic t f b w o).answer ≡ answer.refusal 24 0 0 b
  unfolding number
  spends none w o x = answer_of w o x BudgetSpent b (spent_so none)

  -- demand 1, for a run that was begun
  steps_few : σ.steps ≤ b
  steps_few = run_steps T b (at_job j) j.term j.goals

  abbrev May : Outcome (List ℕ) → Type 0
  May = Answers t f (RunRefuses b)

  own : (c : Cause) (n : ℕ) → 22 ≤ number c → number c ≤ 24 → n ≤ b → May (refusal c 0 0 n)
  unfolding Answers
  own c n x y z = ended-specs.EndedWriting.ended_own (number c) 0 0 n (refl, refl, inl (x, y, z))

  late : (n : ℕ) → 4096 < n → n ≤ b → May (refusal FieldsTooMany 0 0 n)
  unfolding Answers number
  late n x z = ended-specs.EndedWriting.ended_own 40 0 0 n (refl, refl, inr (inl (refl, x, z)))

  by_limit : (c : Cause) (n : ℕ) (x : End) → ending_of x ≡ ended c → Ends T FewHeld 0 j.goals j.term n x → n ≤ b → May (refusal c 0 0 n)
  unfolding number
  by_limit c n (proof s h) q d l = absurd (let z : ◌≡◌ {A = ℕ} 0 1 = cc in omega arith)
  by_limit c n failure q d l = absurd (let z : ◌≡◌ {A = ℕ} 0 1 = cc in omega arith)
  by_limit c n overflow q d l = let z : JoinedTooLong ≡ c = cc in subst (λ (x : Cause). May (refusal x 0 0 n)) z (own JoinedTooLong n (omega arith) (omega arith) l)
  by_limit c n excess q d l = let z : FieldsTooMany ≡ c = cc in subst (λ (x : Cause). May (refusal x 0 0 n)) z (late n (excess_late d) l)

  by_control : (κ : Control) → σ.control ≡ κ → May (run_end j σ.steps κ)
  unfolding run_end Answers number
  by_control (running π u h w) q = own BudgetSpent σ.steps (omega arith) (omega arith) steps_few
  by_control (stopped (proved s h)) q = tt
  by_control (stopped failed) q = own TacticFailed σ.steps (omega arith) (omega arith) steps_few
  by_control (stopped (ended c)) q =
      let r = run-ending T rules definitions (at_job j) j.term j.goals b σ.steps (ended c) (ap (λ (κ : Control). after σ.steps κ) q) in
      by_limit c σ.steps r.0 r.1 r.2 steps_few

  begun : May (run_outcome t f b)
  unfolding run_result
  begun = subst May (sym outcome) (by_control σ.control refl)

pub run_answers : Run-answers
run_answers t f b T j l e g = record { proves = writes t f b T j l e g; fails = fails t f b T j l e g; overflows = overflows t f b T j l e g; exceeds = exceeds t f b T j l e g; spends = spends t f b T j l e g }

-- accepted
module _ (t f : List ℕ) (table_bytes_lem : Bytes t) (job-bytes : Bytes f) (T : Table) (j : Job) (e : read_table t ≡ gives T) (g : read_job f ≡ gives j) where
  module _ (n : ℕ) (s : Term) (h : List Goal) (d : Ends T FewHeld 0 j.goals j.term n (proof s h)) where
    job_within : JobWithin j
    job_within = ((reads_job f j job-bytes).0 g).1

    evaluates : Evaluates T AtMost256 n j.goals j.term s h
    evaluates = ends_evaluates d

    ran : run T n (begins j) ≡ after n (stopped (proved s h))
    ran = (run↔ends T (reads_unique_rules t T e) (reads_unique_definitions t T e) (at_job j) j.term j.goals n n (proof s h)).1 (d, omega arith)

    values : TermValues s × GoalValues h
    values = evaluated_values T ((reads_table t T table_bytes_lem).0 e).1 evaluates job_within.term_values job_within.goal_values

    validates : Validates (HasRule T) AtMost256 s j.goals h
    validates = evaluates_validates evaluates

    within : ProofWithin (record { goals = j.goals; term = s; remaining = h })
    within = record {
      few_goals = job_within.few_goals;
      goal_values = job_within.goal_values;
      hiproof = validates_hiproof validates;
      few_fields = subst (λ (σ : State). held_fields σ.control ≤ 4096) ran (run-held T n (at_job j) j.term j.goals);
      term_values = values.0;
      few_remaining = proof_goals T n (at_job j) j.term j.goals (λ a γ k m. reads_few_premises t T e _ m) job_within.few_goals ran;
      remaining_values = values.1;
    }

    accepted : Accepted t (result_of j s h)
    accepted = record { the_table = T; the_proof = record { goals = j.goals; term = s; remaining = h }; table_reads = e; proof_reads = proof_back_lem _ within; validates = validates }

pub run_accepted : Run-accepted
run_accepted t f table_bytes_lem job-bytes T j e g n s h d = accepted t f table_bytes_lem job-bytes T j e g n s h d

-- demand 1
module _ (t f : List ℕ) (b : ℕ) where
  abbrev Ok : Outcome (List ℕ) → Type 0
  Ok = Answers t f (RunRefuses b)

  over_budget : most_steps < b → run_outcome t f b ≡ refusal BudgetTooLarge 0 0 0
  unfolding run_outcome
  over_budget h = rw (lt-ltb most_steps b h)

  pub table_refused : b ≤ most_steps → (c : Cause) (q : ℕ) → read_table t ≡ refused c q → run_outcome t f b ≡ refusal c 1 q 0
  unfolding run_outcome
  table_refused h c q e = rw (le-ltb most_steps b h, e)

  pub job_refused : b ≤ most_steps → (T : Table) (c : Cause) (q : ℕ) → read_table t ≡ gives T → read_job f ≡ refused c q → run_outcome t f b ≡ refusal c 2 q 0
  unfolding run_outcome
  job_refused h T c q e g = rw (le-ltb most_steps b h, e, g)

  too_large : most_steps < b → Ok (refusal BudgetTooLarge 0 0 0)
  unfolding Answers number
  too_large h = ended-specs.EndedWriting.ended_own 25 0 0 0 (refl, refl, inr (inr (refl, h, refl)))

  in_table : (c : Cause) (q : ℕ) → read_table t ≡ refused c q → Ok (refusal c 1 q 0)
  unfolding Answers
  in_table c q e = let r = table_place t c q e in ended-specs.EndedWriting.ended_table (number c) q r.least r.most r.within

  in_job : (c : Cause) (q : ℕ) → read_job f ≡ refused c q → Ok (refusal c 2 q 0)
  unfolding Answers
  in_job c q e = let r = Job-refused f c q e in ended-specs.EndedWriting.ended_other (number c) q r.least r.most r.within

  by_job : b ≤ most_steps → (T : Table) → read_table t ≡ gives T → (r : Result Job) → read_job f ≡ r → Ok (run_outcome t f b)
  by_job h T e (gives j) g = begun t f b T j h e g
  by_job h T e (refused c q) g = subst Ok (sym (job_refused h T c q e g)) (in_job c q g)

  by_table : b ≤ most_steps → (r : Result Table) → read_table t ≡ r → Ok (run_outcome t f b)
  by_table h (gives T) e = by_job h T e (read_job f) refl
  by_table h (refused c q) e = subst Ok (sym (table_refused h c q e)) (in_table c q e)

  by_budget : Dec (most_steps < b) → Ok (run_outcome t f b)
  by_budget (yes h) = subst Ok (sym (over_budget h)) (too_large h)
  by_budget (no h) = by_table (omega arith) (read_table t) refl

  pub run-outcome_lem : Ok (run_outcome t f b)
  run-outcome_lem = by_budget (dec_lt most_steps b)

pub run_ends : Run-ends
unfolding run_tactic
run_ends t f b w o = ends_written t f w o (RunRefuses b) run_work (run_outcome t f b) (run-outcome_lem t f b)

pub run_limit : Run-limit
unfolding run_tactic write_in write_out number
run_limit t f b w o enough h = rw (le-ltb (length w) run_work enough, over_budget t f b h)
