-- The promises of P12: by what 40 says of its steps (demand 1), by the bounds on the held fields, and by the theorem of evaluation that up to 4,096 steps the rules with
-- the limit and without it have the same ends. Assumes nothing.
use Prim.Native.Nat.{ℕ, ◌+◌, ◌≤◌, ◌<◌}
use native.Mathlib.Omega.{arith}
use mathlib.Core.Path.{◌≡◌, subst}
use mathlib.Core.Logic.{inl, inr}
use mathlib.Core.List.{List}
use Rattle.format.specs.Terms.{fields}
use Rattle.tables.proofs.ReadsTable.{reads_unique_rules, reads_unique_definitions}
use Rattle.evaluation.specs.Ends.{End, proof, failure, overflow, excess, FewHeld, AnyHeld, Ends}
use Rattle.evaluation.specs.Machine.{Place, State, run}
use Rattle.evaluation.specs.RunSizes.{held_fields}
use Rattle.evaluation.proofs.HeldBounds.{no_excess, early_as_before, run-held, run-held_steps}
use Rattle.evaluation.proofs.MachineMeaning.{run↔ends}
use Rattle.answers.specs.declared.Answer.{Answer}
use Rattle.entries.specs.Halting.{steps_of}
use Rattle.promises.specs.Ended as ended
use Rattle.promises.specs.Ended.{EndedWriting, ended_wrote, ended_output, ended_unstarted}
use Rattle.run_promises.specs.RunPromises.{RunRefuses}
use Rattle.run_promises.specs.ResumePromises.{ResumeRefuses}
use Rattle.run_promises.specs.HeldPromises as promise
use Rattle.run_promises.specs.HeldPromises.{LateExcess}
use Rattle.run_promises.proofs.RunPromises.{at_job, run_answers, run_ends}
use Rattle.run_promises.proofs.HaltingPromises.{halting_ends}
use Rattle.run_promises.proofs.ResumePromises.{resume_ends}

-- among the answers of an entry 40 is one of its own
module _ (t f : List ℕ) (Own : (number file place steps : ℕ) → Type 0) (n : ℕ) (own : (file q k : ℕ) → Own 40 file q k → (4096 < k) × (k ≤ n)) where
  steps_of_40 : (a : Answer) → EndedWriting t f Own a → a.number ≡ 40 → (4096 < a.steps) × (a.steps ≤ n)
  steps_of_40 a (ended_wrote m k) z = absurd (omega (arith, z))
  steps_of_40 a (ended.EndedWriting.ended_table m q l h p) z = absurd (omega (arith, z, h))
  steps_of_40 a (ended.EndedWriting.ended_other m q l h p) z = absurd (omega (arith, z, h))
  steps_of_40 a (ended.EndedWriting.ended_own m file q k r) z = own file q k (subst (λ (x : ℕ). Own x file q k) z r)
  steps_of_40 a (ended_output k) z = absurd (omega (arith, z))
  steps_of_40 a ended_unstarted z = absurd (omega (arith, z))

  late_excess : (a : Answer) → EndedWriting t f Own a → LateExcess n a
  late_excess a r = record {
    never_early = λ l z. let k = steps_of_40 a r z in omega (arith, l, k.0, k.1);
    late = λ z. (steps_of_40 a r z).0;
  }

own_40 : (b file q k : ℕ) → RunRefuses b 40 file q k → (4096 < k) × (k ≤ b)
own_40 b file q k (x, y, inl r) = absurd (omega (arith, r.1))
own_40 b file q k (x, y, inr (inl r)) = (r.1, r.2)
own_40 b file q k (x, y, inr (inr r)) = absurd (omega (arith, r.0))

resume_40 : (s : List ℕ) (c file q k : ℕ) → ResumeRefuses s c 40 file q k → (4096 < k) × (k ≤ steps_of s + c)
resume_40 s c file q k (inl r) = own_40 (steps_of s + c) file q k r
resume_40 s c file q k (inr r) = absurd (omega (arith, r.2))

-- LATE: 40 never comes within 4,096 steps.
pub run_late : promise.Run-late
run_late t f b w o = late_excess t f (RunRefuses b) b (own_40 b) _ (run_ends t f b w o).answers

pub halting_late : promise.Halting-late
halting_late t f b w fs o st = late_excess t f (RunRefuses b) b (own_40 b) _ (halting_ends t f b w fs o st).answers

pub resume_late : promise.Resume-late
resume_late t f s c w fs o st = late_excess t f (ResumeRefuses s c) (steps_of s + c) (resume_40 s c) _ (resume_ends t f s c w fs o st).answers

-- HELD: at most 4,096 fields, and at most the steps, in every state and in the proof.
pub held_few : promise.Held-few
held_few T j b = (run-held T b (at_job j) j.term j.goals, run-held_steps T b (at_job j) j.term j.goals)

pub proof_few : promise.Proof-few
proof_few t T e a s g h n d =
    let π : Place = record { file = 0; at = 0 } in
    let ran = (run↔ends T (reads_unique_rules t T e) (reads_unique_definitions t T e) π a g n n (proof s h)).1 (d, omega arith) in (
      subst (λ (σ : State). held_fields σ.control ≤ 4096) ran (run-held T n π a g),
      subst (λ (σ : State). held_fields σ.control ≤ σ.steps) ran (run-held_steps T n π a g),
    )

-- AS BEFORE: each answer is that of the rules without the limit.
pub as_before : promise.As-before
as_before t f b T j l e g =
    let r = run_answers t f b T j (omega (arith, l)) e g in
    let back : (n : ℕ) (x : End) → n ≤ b → Ends T AnyHeld 0 j.goals j.term n x → Ends T FewHeld 0 j.goals j.term n x =
    λ n x k d. (early_as_before T j.goals j.term n x (omega (arith, l, k))).1 d in
    record {
      proves = λ n s h d k. r.proves n s h (back n (proof s h) k d) k;
      fails = λ n d k. r.fails n (back n failure k d) k;
      overflows = λ n d k. r.overflows n (back n overflow k d) k;
      exceeds = λ n d k. r.exceeds n (back n excess k d) k;
      spends = λ none. r.spends (λ n x d k. none n x ((early_as_before T j.goals j.term n x (omega (arith, l, k))).0 d) k);
    }

pub before_none : promise.Before-none
before_none T a g n d = no_excess d
