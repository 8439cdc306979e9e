-- What a call that may halt comes to: a refusal without steps, or the outcome of a run in its last state.
-- Assumes nothing.
use Prim.Native.Nat.{ℕ, ◌≤◌, ◌<◌}
use mathlib.Core.Path.{◌≡◌, refl, sym, ap, subst, ◌∙◌}
use mathlib.Core.List.{List}
use Rattle.std.specs.Prelude as std
use Rattle.format.specs.Limits.{most_steps}
use Rattle.format.specs.declared.refusals.Cause.TheVariants.{BudgetTooLarge}
use Rattle.format.specs.Refusals.{number}
use Rattle.tables.specs.Tables.{Table}
use Rattle.files.specs.Jobs.{Job}
use Rattle.answers.specs.declared.Answer.{Answer}
use Rattle.answers.specs.Answers as said
use Rattle.entries.specs.Halting.{HaltingOutcome, ran_for, within_limit}
use Rattle.entries.specs.Left.{left_in}
use Rattle.entries.proofs.LeftLaws.{refuses}
use Rattle.entries.proofs.HaltingLaws.{over_limit, table_refused, job_refused}
use Rattle.tactics.specs.Entry.{FilesRefused, no_table, no_job}
use Rattle.machine.specs.declared.state.State.{State}
use Rattle.runner.specs.LastState.{Reached}
use Rattle.runner.proofs.LastLaws.{finish_end}
use Rattle.halting.specs.declared.halted.Halted.{Halted}
use Rattle.halting.specs.Halted.{refused_call, Answered, Keeps, KeepsLast, Comes}
use Rattle.halting.specs.Again.{Refuses}
use Rattle.halting.proofs.HaltLaws.{keeps}

-- 25, and the refusals of the files
module _ (t s : List ℕ) (n : ℕ) (next : Table → Job → HaltingOutcome) where
  pub limit_refuses : (a : Answer) → most_steps < n → a ≡ said.refusal (number BudgetTooLarge) 0 0 0 → Refuses a (within_limit n t s next)
  limit_refuses a h e = record { cause = BudgetTooLarge; file = 0; place = 0; answer_is = e; outcome_is = over_limit t s n next h }

  pub files_refuse : n ≤ most_steps → (a : Answer) → FilesRefused t s a → Refuses a (within_limit n t s next)
  files_refuse h a (no_table c p e q) = record { cause = c; file = 1; place = p; answer_is = q; outcome_is = table_refused t s n next h c p e }
  files_refuse h a (no_job T c p e f q) = record { cause = c; file = 2; place = p; answer_is = q; outcome_is = job_refused t s n next h T e c p f }

-- a refusal without steps, whatever the work space holds
pub refusal_comes : (o : HaltingOutcome) (v out : List ℕ) (a : Answer) (h : Halted) → Refuses a o → h ≡ refused_call a → Comes o out v h out
unfolding KeepsLast
refusal_comes o v out a h r e = subst (λ (x : Halted). Comes o out v x out) (sym e) (record {
  answer_is = refuses r.cause (number r.cause) r.file r.place 0 a out refl r.answer_is ∙ ap (λ (x : HaltingOutcome). left_in out x.outcome) (sym r.outcome_is);
  keeps = ap (λ (x : HaltingOutcome). x.saved) r.outcome_is;
})

-- a run in its last state
pub run_comes : (t s : List ℕ) (b : ℕ) (v : List ℕ) (x : State) (first term : ℕ) (q : Reached t s b v x first term) → b ≤ most_steps → (o : HaltingOutcome) → o ≡ ran_for q.table q.job b
    → (out : List ℕ) (h : Halted) (u : List ℕ) → Answered x s v out h u → Comes o out v h u
unfolding ran_for KeepsLast
run_comes t s b v x first term q fits o e out h u a = record {
  answer_is = finish_end t s b v x first term q out h.answer u a.finishes ∙ ap (λ (y : HaltingOutcome). left_in out y.outcome) (sym e);
  keeps = subst (λ (y : std.Option State). KeepsLast v y o.saved) (sym a.state_is) (subst (λ (y : HaltingOutcome). Keeps v x y.saved) (sym e) (keeps t s b v x first term q fits));
}
