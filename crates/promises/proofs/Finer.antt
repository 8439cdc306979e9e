-- The answers of check and flatten before and after P5: by induction over the term for the walk, then by the cases of reading, of the walk and of lent space.
-- Assumes nothing.
use Prim.Native.Nat.{ℕ, ◌+◌, ◌≤◌, ◌<◌}
use native.Mathlib.Omega.{arith}
use native.Mathlib.Decide.{dec_lt}
use mathlib.Core.Path.{◌≡◌, refl, sym, subst, ap, ◌∙◌}
use mathlib.Core.Bool.{Bool, true, false, cond}
use mathlib.Core.Logic.{◌⊎◌, inl, inr}
use mathlib.Core.Option.{Option, none, some}
use mathlib.Core.List.{List, [], ◌∷◌, ◌++◌}
use lib.Dec.{ltb}
use lib.ListN.{length, take, drop}
use borrow.Author.Tests.{lt-ltb, le-ltb}
use Rattle.format.specs.declared.values.Goal.{Goal}
use Rattle.format.specs.declared.refusals.Cause.{Cause}
use Rattle.format.specs.declared.refusals.Cause.TheVariants.{RuleMissing, GoalCountWrong, GoalsTooFew, JoinedTooLong, RemainingDiffer}
use Rattle.format.specs.Refusals.{number}
use Rattle.format.specs.Results.{Result, gives, refused, and_then}
use Rattle.format.specs.Terms.{Term, atomic, id, label, sequence, tensor, empty, alternation, assert, defined, size}
use Rattle.tables.specs.Tables.{Table}
use Rattle.tables.specs.Lookup.{FoundRule, find_rule}
use Rattle.tables.specs.ReadTables.{read_table}
use Rattle.tables.proofs.RefusedTable.{table_place}
use Rattle.files.specs.Proofs.{Proof, read_proof, term_place, remaining_place}
use Rattle.files.proofs.RefusedFiles.{Proof-refused}
use Rattle.hitac.specs.Hiproofs.{input_arity}
use Rattle.hitac.specs.Walk.{on_one_goal, on_no_goal, premises_or, too_long, joined, walk}
use Rattle.answers.specs.declared.Answer.{Answer}
use Rattle.answers.specs.Answers as answer
use Rattle.entries.specs.Outcomes.{Outcome, success, refusal, in_file, done, table_file, other_file}
use Rattle.entries.specs.LentSpace.{Counts, counted_answer, check_in, Written, write_out, write_in}
use Rattle.entries.specs.Check.{same_goals, remaining_are, checked, on_proof, proof_counts, forest_file, check_work, flatten_work, check, flatten}
use Rattle.promises.proofs.OutcomeLaws.{both_in_file}
use Rattle.promises.specs.Finer.{one_goal_before, no_goal_before, walk_before, on_proof_before, check_before, flatten_before, Reason, Finer, unchanged, refined, Check-finer, Flatten-finer}

-- a number of before other than 20
abbrev Kept : ℕ → Type 0
Kept n = Reason n → ⊥

kept : (n : ℕ) → n ≤ 29 → (n ≡ 20 → ⊥) → Kept n
kept n l z (inl e) = z e
kept n l z (inr (inl e)) = omega (arith, l)
kept n l z (inr (inr e)) = omega (arith, l)

-- what a walk came to before, and what it comes to
data FinerResult {A : Type 0} : Result A → Result A → Type 0 where
  same_value : (a : A) → FinerResult (gives a) (gives a)
  same_refusal : (c : Cause) (q : ℕ) → Kept (number c) → FinerResult (refused c q) (refused c q)
  finer_refusal : (c : Cause) (q : ℕ) → Reason (number c) → FinerResult (refused RuleMissing q) (refused c q)

miscounted : {A : Type 0} (q : ℕ) → FinerResult {A = A} (refused RuleMissing q) (refused GoalCountWrong q)
unfolding number
miscounted q = finer_refusal GoalCountWrong q (inr (inl refl))

finer_then : {A B : Type 0} {r r' : Result A} {next next' : A → Result B} → FinerResult r r' → ((a : A) → FinerResult (next a) (next' a)) → FinerResult (and_then r next) (and_then r' next')
unfolding and_then
finer_then (same_value a) more = more a
finer_then (same_refusal c q k) more = same_refusal c q k
finer_then (finer_refusal c q k) more = finer_refusal c q k

finer_test : {A : Type 0} (b : Bool) (p : ℕ) {r r' : Result A} → FinerResult r r' → FinerResult (cond b (refused RuleMissing p) r) (cond b (refused GoalsTooFew p) r')
unfolding number
finer_test true p x = finer_refusal GoalsTooFew p (inr (inr refl))
finer_test false p x = x

finer_one : (p : ℕ) (next next' : Goal → Result (List Goal)) (g : List Goal) → ((γ : Goal) → FinerResult (next γ) (next' γ)) → FinerResult (one_goal_before p next g) (on_one_goal p next' g)
unfolding one_goal_before on_one_goal
finer_one p next next' [] more = miscounted p
finer_one p next next' (γ ∷ []) more = more γ
finer_one p next next' (γ ∷ δ ∷ g) more = miscounted p

finer_none : (p : ℕ) (g : List Goal) → FinerResult (no_goal_before p g) (on_no_goal p g)
unfolding no_goal_before on_no_goal
finer_none p [] = same_value []
finer_none p (γ ∷ g) = miscounted p

finer_premises : (p : ℕ) (o : Option FoundRule) → FinerResult (premises_or RuleMissing p o) (premises_or RuleMissing p o)
unfolding premises_or number
finer_premises p none = finer_refusal RuleMissing p (inl refl)
finer_premises p (some r) = same_value r.premises

finer_joined : (p : ℕ) (g : List Goal) → FinerResult (joined p g) (joined p g)
unfolding joined number
finer_joined p g = by_test (too_long g)
  where
    by_test : (b : Bool) → FinerResult (cond b (refused JoinedTooLong p) (gives g)) (cond b (refused JoinedTooLong p) (gives g))
    by_test true = same_refusal JoinedTooLong p (kept _ (omega arith) (λ z. omega arith))
    by_test false = same_value g

finer_walk : (T : Table) (s : Term) (p : ℕ) (g : List Goal) → FinerResult (walk_before T s p g) (walk T s p g)
unfolding walk_before walk
finer_walk T (atomic a) p g = finer_one p _ _ g (λ γ. finer_premises p (find_rule T a γ))
finer_walk T id p g = finer_one p _ _ g (λ γ. same_value (γ ∷ []))
finer_walk T (label l s) p g = finer_one p _ _ g (λ γ. finer_walk T s (p + 5) (γ ∷ []))
finer_walk T (sequence s t) p g = finer_then (finer_walk T s (p + 3) g) (λ h. finer_walk T t (p + 3 + size s) h)
finer_walk T (tensor s t) p g =
    finer_test (ltb (length g) (input_arity s)) p
    (finer_then (finer_walk T s (p + 3) (take (input_arity s) g))
    (λ h. finer_then (finer_walk T t (p + 3 + size s) (drop (input_arity s) g)) (λ k. finer_joined p (h ++ k))))
finer_walk T empty p g = finer_none p g
finer_walk T (alternation s t) p g = miscounted p
finer_walk T (assert γ) p g = miscounted p
finer_walk T (defined n) p g = miscounted p

finer_remaining : {A : Type 0} (x : Proof) (a : A) (h : List Goal) → FinerResult (remaining_are x a h) (remaining_are x a h)
unfolding remaining_are number
finer_remaining {A} x a h = by_comparison (same_goals h x.remaining)
  where
    by_comparison : (b : Bool) → FinerResult {A = A} (cond b (gives a) (refused RemainingDiffer (remaining_place x))) (cond b (gives a) (refused RemainingDiffer (remaining_place x)))
    by_comparison true = same_value a
    by_comparison false = same_refusal RemainingDiffer (remaining_place x) (kept _ (omega arith) (λ z. omega arith))

-- the same of a call on two files, before lent space is looked at
data FinerOutcome {A : Type 0} : Outcome A → Outcome A → Type 0 where
  same_success : (a : A) → FinerOutcome (done a) (done a)
  same_outcome : (c : Cause) (f q : ℕ) → Kept (number c) → FinerOutcome (refusal c f q 0) (refusal c f q 0)
  finer_outcome : (c : Cause) (q : ℕ) → Reason (number c) → FinerOutcome (refusal RuleMissing other_file q 0) (refusal c other_file q 0)

in_proof : {A : Type 0} {r r' : Result A} → FinerResult r r' → FinerOutcome (in_file other_file r done) (in_file other_file r' done)
in_proof (same_value a) = same_success a
in_proof (same_refusal c q k) = same_outcome c other_file q k
in_proof (finer_refusal c q k) = finer_outcome c q k

on_proof_lem : {A : Type 0} (value : Table → Proof → A) (t p : List ℕ) → FinerOutcome (on_proof_before value t p) (on_proof value t p)
unfolding on_proof_before on_proof checked
on_proof_lem value t p =
    both_in_file FinerOutcome table_file (read_table t)
    (λ c q e. let b = table_place t c q e in same_outcome c table_file q (kept _ (omega (arith, b.most)) (λ z. omega (arith, b.most))))
    (λ T. both_in_file FinerOutcome other_file (read_proof p)
    (λ c q e. let b = Proof-refused p c q e in same_outcome c other_file q (kept _ (omega (arith, b.most)) (λ z. omega (arith, b.most))))
    (λ x. in_proof (finer_then (finer_walk T x.term (term_place x) x.goals) (λ h. finer_remaining x (value T x) h))))

-- a refusal of before, and a 20 of before, as answers
same_answer : (n f q k : ℕ) → Kept n → Finer (answer.refusal n f q k) (answer.refusal n f q k)
same_answer n f q k z = unchanged (answer.refusal n f q k) z

twenty : (c : Cause) (q : ℕ) → Reason (number c) → Finer (answer.refusal (number RuleMissing) 2 q 0) (answer.refusal (number c) 2 q 0)
unfolding number
twenty c q k = refined (number c) q k

-- an entry that writes nothing, with any work space
counted_finer : {o o' : Outcome Counts} → FinerOutcome o o' → Finer (counted_answer o) (counted_answer o')
counted_finer (same_success c) = unchanged (answer.counted c.fields c.uses c.remaining c.rules) (kept 0 (omega arith) (λ z. omega arith))
counted_finer (same_outcome c f q k) = same_answer (number c) f q 0 k
counted_finer (finer_outcome c q k) = twenty c q k

checked_finer : (size : ℕ) (w : List ℕ) {o o' : Outcome Counts} → FinerOutcome o o' → Finer (check_in size w o).answer (check_in size w o').answer × ((check_in size w o).work ≡ (check_in size w o').work)
unfolding check_in number
checked_finer size w {o} {o'} x = by_space (dec_lt (length w) size)
  where
    by_space : Dec (length w < size) → Finer (check_in size w o).answer (check_in size w o').answer × ((check_in size w o).work ≡ (check_in size w o').work)
    by_space (yes h) = rw (lt-ltb (length w) size h) (same_answer 29 0 0 0 (kept _ (omega arith) (λ z. omega arith)), refl)
    by_space (no h) = rw (le-ltb (length w) size (omega arith)) (counted_finer x, refl)

pub check_finer : Check-finer
unfolding check_before check
check_finer t p w = checked_finer check_work w (on_proof_lem proof_counts t p)

-- an entry that writes, with any lent space
module _ (w v : List ℕ) where
  abbrev FinerWritten : Written → Written → Type 0
  FinerWritten x y = Finer x.answer y.answer × (x.work ≡ y.work) × (x.out ≡ y.out)

  by_output : (b : List ℕ) → Dec (length v < length b) → FinerWritten (write_out w v (done b)) (write_out w v (done b))
  unfolding write_out number
  by_output b (yes h) = rw (lt-ltb (length v) (length b) h) (same_answer 26 0 0 0 (kept _ (omega arith) (λ z. omega arith)), refl, refl)
  by_output b (no h) = rw (le-ltb (length v) (length b) (omega arith)) (unchanged (answer.wrote (length b) 0) (kept 0 (omega arith) (λ z. omega arith)), refl, refl)

  by_outcome : {o o' : Outcome (List ℕ)} → FinerOutcome o o' → FinerWritten (write_out w v o) (write_out w v o')
  unfolding write_out
  by_outcome (same_success b) = by_output b (dec_lt (length v) (length b))
  by_outcome (same_outcome c f q k) = (same_answer (number c) f q 0 k, refl, refl)
  by_outcome (finer_outcome c q k) = (twenty c q k, refl, refl)

  written_finer : (size : ℕ) {o o' : Outcome (List ℕ)} → FinerOutcome o o' → FinerWritten (write_in size w v o) (write_in size w v o')
  unfolding write_in number
  written_finer size {o} {o'} x = by_space (dec_lt (length w) size)
    where
      by_space : Dec (length w < size) → FinerWritten (write_in size w v o) (write_in size w v o')
      by_space (yes h) = rw (lt-ltb (length w) size h) (same_answer 29 0 0 0 (kept _ (omega arith) (λ z. omega arith)), refl, refl)
      by_space (no h) = rw (le-ltb (length w) size (omega arith)) (by_outcome x)

pub flatten_finer : Flatten-finer
unfolding flatten_before flatten
flatten_finer t p w o = written_finer w o flatten_work (on_proof_lem forest_file t p)
