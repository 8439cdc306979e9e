-- The promises of search: by the theorems of crate search that its events hold what Fig. 3 derives, and that the first of them is given, or none, or the budget is spent.
-- Assumes nothing.
use Prim.Native.Nat.{ℕ, ◌≤◌, ◌<◌}
use native.Mathlib.Omega.{arith}
use native.Mathlib.Decide.{dec_lt}
use mathlib.Core.Path.{◌≡◌, refl, sym, subst, ap, ◌∙◌}
use mathlib.Core.Logic.{◌↔◌, ◌⊎◌, inl, inr}
use mathlib.Core.List.{List}
use lib.ListN.{length}
use borrow.Author.Tests.{lt-ltb, le-ltb}
use Rattle.format.specs.declared.values.Goal.{Goal}
use Rattle.format.specs.Encoding.{Bytes, GoalValues, TermValues}
use Rattle.format.specs.Limits.{least_height, most_height, most_search_steps}
use Rattle.format.specs.declared.refusals.Cause.{Cause}
use Rattle.format.specs.declared.refusals.Cause.TheVariants.{BudgetSpent, BudgetTooLarge, NoEvaluation as none_found, HeightOutside}
use Rattle.format.specs.Refusals.{number}
use Rattle.format.specs.Results.{Result, gives, refused}
use Rattle.format.specs.Terms.{Term}
use Rattle.tables.specs.Tables.{Table, HasRule, UniqueRules, UniqueDefinitions}
use Rattle.tables.specs.ReadTables.{read_table}
use Rattle.tables.proofs.ReadsTable.{reads_unique_rules, reads_unique_definitions, reads_few_premises, reads_table}
use Rattle.tables.proofs.RefusedTable.{table_place}
use Rattle.files.specs.Jobs.{Job, read_job}
use Rattle.files.specs.Within.{ProofWithin, JobWithin}
use Rattle.files.proofs.ReadsJob.{reads_job}
use Rattle.files.proofs.ReadsProof.{proof_back_lem}
use Rattle.files.proofs.RefusedFiles.{Job-refused}
use Rattle.files.proofs.WhatStands.{job_stands}
use Rattle.evaluation.specs.Evaluates.{Evaluates}
use Rattle.hitac.specs.Premises.{FewPremises}
use Rattle.hitac.specs.Validates.{AtMost256, Validates}
use Rattle.evaluation.proofs.BigStep.{evaluates_validates}
use Rattle.hitac.proofs.ValidatesLaws.{validates_hiproof}
use Rattle.search.specs.Events.{FoundIn, First}
use Rattle.search.specs.Answer.{Searched, proved, exhausted, spent, search}
use Rattle.search.specs.EvaluatesWithin.{EvaluatesWithin}
use Rattle.search.proofs.TraceEvaluates.{found_evaluates}
use Rattle.search.proofs.SearchLaws.{NoneFound, Foremost, first_or_none, first_found_in, first_steps, search_first, search_first_spent, search_none, search_none_spent, search_spent}
use Rattle.search.proofs.ListLaws.{gives_short, found↔within}
use Rattle.search.proofs.Bounds.{search-fields, steps_of, search_steps}
use Rattle.answers.specs.declared.Answer.{Answer}
use Rattle.answers.specs.Answers as answer
use Rattle.entries.specs.Outcomes.{Outcome, success, refusal}
use Rattle.entries.specs.LentSpace.{Written, write_out, write_in}
use Rattle.entries.specs.Search.{search_end, search_outcome, search_work, search_tactic}
use Rattle.promises.specs.Accepted.{Accepted}
use Rattle.promises.specs.Ended as ended-specs
use Rattle.promises.specs.Results.{result_of, wrote_after}
use Rattle.run_promises.specs.SearchPromises.{events_of, Search-finds, NoEvaluation, SearchAnswers, Search-answers, Search-obeys, Search-accepted, SearchLimits, Search-limits, Outside, SearchRefuses, none_exists, budget_ends, budget_large, outside_heights, Search-ends}
use Rattle.promises.proofs.LentLaws.{Answers, ends_written}
use Rattle.run_promises.proofs.RunWithin.{evaluated_values}

module _ (t f : List ℕ) (T : Table) (j : Job) (e : read_table t ≡ gives T) (g : read_job f ≡ gives j) where
  few : FewPremises T
  few a γ k m = reads_few_premises t T e _ m

  short : length j.goals ≤ 256
  short = (job_stands f j g).goals_stand.few

  finds : (h : ℕ) (s : Term) (k : List Goal) → FoundIn (events_of T h j) s k ↔ EvaluatesWithin T h j.goals j.term s k
  finds h s k = found↔within T few (reads_unique_rules t T e) (reads_unique_definitions t T e) h j.term j.goals short s k

  -- no evaluation, and none among the events
  none_among : (h : ℕ) → NoEvaluation T h j → NoneFound (events_of T h j)
  none_among h never s k i = never s k ((finds h s k).0 i)

  none_derived : (h : ℕ) → NoneFound (events_of T h j) → NoEvaluation T h j
  none_derived h never s k ev = never s k ((finds h s k).1 ev)

  module _ (h b : ℕ) (low : 1 ≤ h) (high : h ≤ 64) (l : b ≤ 4096) where
    abbrev result : Searched
    result = search T h b j.term j.goals

    outcome : search_outcome t f h b ≡ search_end j result
    unfolding search_outcome
    outcome = rw (le-ltb most_search_steps b l, le-ltb h least_height low, le-ltb most_height h high, e, g)

    module _ (w o : List ℕ) (enough : search_work ≤ length w) where
      abbrev call : Written
      call = search_tactic t f h b w o

      refuses : (c : Cause) (n : ℕ) → search_outcome t f h b ≡ refusal c 0 0 n → call.answer ≡ answer.refusal (number c) 0 0 n
      unfolding search_tactic write_in write_out
      refuses c n q = rw (le-ltb (length w) search_work enough, q)

      -- what each way to end answers
      module _ (n : ℕ) (s : Term) (k : List Goal) (first : First (events_of T h j) n s k) where
        written : n ≤ b → search_outcome t f h b ≡ success (result_of j s k) n
        unfolding search_end
        written m = outcome ∙ ap (search_end j) (search_first T h j.term j.goals b first m)

        writes : n ≤ b → length (result_of j s k) ≤ length o → call ≡ wrote_after n (result_of j s k) w o
        unfolding search_tactic write_in write_out
        writes m y = rw (written m, le-ltb (length w) search_work enough, le-ltb (length o) (length (result_of j s k)) y)

        no_room : n ≤ b → length o < length (result_of j s k) → call.answer ≡ answer.refusal 26 0 0 n
        unfolding search_tactic write_in write_out number
        no_room m y = rw (written m, le-ltb (length w) search_work enough, lt-ltb (length o) (length (result_of j s k)) y)

        late : b < n → call.answer ≡ answer.refusal 24 0 0 b
        unfolding search_end number
        late m = refuses BudgetSpent b (outcome ∙ ap (search_end j) (search_first_spent T h j.term j.goals b first m))

      module _ (never : NoneFound (events_of T h j)) where
        none_known : length (events_of T h j) ≤ b → call.answer ≡ answer.refusal 41 0 0 (length (events_of T h j))
        unfolding search_end number
        none_known m = refuses none_found _ (outcome ∙ ap (search_end j) (search_none T h j.term j.goals b never m))

        none_unknown : b < length (events_of T h j) → call.answer ≡ answer.refusal 24 0 0 b
        unfolding search_end number
        none_unknown m = refuses BudgetSpent b (outcome ∙ ap (search_end j) (search_none_spent T h j.term j.goals b never m))

      -- one of the four
      data Way : Type 0 where
        way_written : (n : ℕ) (s : Term) (k : List Goal) → First (events_of T h j) n s k → n ≤ b → length (result_of j s k) ≤ length o → Way
        way_no_room : (n : ℕ) (s : Term) (k : List Goal) → First (events_of T h j) n s k → n ≤ b → length o < length (result_of j s k) → Way
        way_late : (n : ℕ) (s : Term) (k : List Goal) → First (events_of T h j) n s k → b < n → Way
        way_none : NoneFound (events_of T h j) → length (events_of T h j) ≤ b → Way
        way_unknown : NoneFound (events_of T h j) → b < length (events_of T h j) → Way

      way : Way
      way = by_events (first_or_none (events_of T h j))
        where
          by_room : (x : Foremost (events_of T h j)) → x.steps ≤ b → Dec (length o < length (result_of j x.term x.gave)) → Way
          by_room x m (yes y) = way_no_room x.steps x.term x.gave x.first m y
          by_room x m (no y) = way_written x.steps x.term x.gave x.first m (omega arith)

          by_steps : (x : Foremost (events_of T h j)) → Dec (b < x.steps) → Way
          by_steps x (yes m) = way_late x.steps x.term x.gave x.first m
          by_steps x (no m) = by_room x (omega arith) (dec_lt (length o) (length (result_of j x.term x.gave)))

          by_all : NoneFound (events_of T h j) → Dec (b < length (events_of T h j)) → Way
          by_all never (yes m) = way_unknown never m
          by_all never (no m) = way_none never (omega arith)

          by_events : Foremost (events_of T h j) ⊎ NoneFound (events_of T h j) → Way
          by_events (inl x) = by_steps x (dec_lt b x.steps)
          by_events (inr never) = by_all never (dec_lt b (length (events_of T h j)))

      -- an answer is not another one
      numbered : (a : Answer) (n m : ℕ) → call.answer ≡ a → call.answer.number ≡ n → a.number ≡ m → n ≡ m
      numbered a n m q p r = omega (arith, ap (λ (x : Answer). x.number) q, p, r)

      only : call.answer.number ≡ 0 → (n : ℕ) × (s : Term) × (k : List Goal) × First (events_of T h j) n s k × (n ≤ b) × (length (result_of j s k) ≤ length o)
      only q = go way
        where
          go : Way → (n : ℕ) × (s : Term) × (k : List Goal) × First (events_of T h j) n s k × (n ≤ b) × (length (result_of j s k) ≤ length o)
          go (way_written n s k x m y) = (n, s, k, x, m, y)
          go (way_no_room n s k x m y) = absurd (omega (arith, numbered (answer.refusal 26 0 0 n) 0 26 (no_room n s k x m y) q refl))
          go (way_late n s k x m) = absurd (omega (arith, numbered (answer.refusal 24 0 0 b) 0 24 (late n s k x m) q refl))
          go (way_none never m) = absurd (omega (arith, numbered (answer.refusal 41 0 0 _) 0 41 (none_known never m) q refl))
          go (way_unknown never m) = absurd (omega (arith, numbered (answer.refusal 24 0 0 b) 0 24 (none_unknown never m) q refl))

      abbrev Exhausted : (steps : ℕ) → Type 0
      Exhausted n = NoEvaluation T h j × (length (events_of T h j) ≡ n) × (n ≤ b)

      none_to : (n : ℕ) → call.answer ≡ answer.refusal 41 0 0 n → Exhausted n
      none_to n q = go way
        where
          is : call.answer.number ≡ 41
          is = ap (λ (x : Answer). x.number) q

          go : Way → Exhausted n
          go (way_written i s k x m y) = absurd (omega (arith, numbered (answer.wrote _ i) 41 0 (ap (λ (c : Written). c.answer) (writes i s k x m y)) is refl))
          go (way_no_room i s k x m y) = absurd (omega (arith, numbered (answer.refusal 26 0 0 i) 41 26 (no_room i s k x m y) is refl))
          go (way_late i s k x m) = absurd (omega (arith, numbered (answer.refusal 24 0 0 b) 41 24 (late i s k x m) is refl))
          go (way_none never m) =
              let p : length (events_of T h j) ≡ n = ap (λ (x : Answer). x.steps) (sym (none_known never m) ∙ q) in
              (none_derived h never, p, omega (arith, m, p))
          go (way_unknown never m) = absurd (omega (arith, numbered (answer.refusal 24 0 0 b) 41 24 (none_unknown never m) is refl))

      none_from : (n : ℕ) → Exhausted n → call.answer ≡ answer.refusal 41 0 0 n
      none_from n x = none_known (none_among h x.0) (omega (arith, x.1, x.2)) ∙ ap (λ (i : ℕ). answer.refusal 41 0 0 i) x.1

      abbrev Unknown : (steps : ℕ) → Type 0
      Unknown n = (n ≡ b) × ((m : ℕ) (s : Term) (k : List Goal) → First (events_of T h j) m s k → b < m) × (NoEvaluation T h j → b < length (events_of T h j))

      spent_to : (n : ℕ) → call.answer ≡ answer.refusal 24 0 0 n → Unknown n
      spent_to n q = go way
        where
          is : call.answer.number ≡ 24
          is = ap (λ (x : Answer). x.number) q

          steps_are : call.answer ≡ answer.refusal 24 0 0 b → n ≡ b
          steps_are p = ap (λ (x : Answer). x.steps) (sym q ∙ p)

          go : Way → Unknown n
          go (way_written i s k x m y) = absurd (omega (arith, numbered (answer.wrote _ i) 24 0 (ap (λ (c : Written). c.answer) (writes i s k x m y)) is refl))
          go (way_no_room i s k x m y) = absurd (omega (arith, numbered (answer.refusal 26 0 0 i) 24 26 (no_room i s k x m y) is refl))
          go (way_late i s k x m) = (
            steps_are (late i s k x m),
            (λ i' s' k' x'. omega (arith, m, first_steps x x')),
            (λ never. absurd (none_among h never s k (first_found_in x))),
          )
          go (way_none never m) = absurd (omega (arith, numbered (answer.refusal 41 0 0 _) 24 41 (none_known never m) is refl))
          go (way_unknown never m) = (steps_are (none_unknown never m), (λ i s k x. absurd (never s k (first_found_in x))), (λ no. m))

      spent_from : (n : ℕ) → Unknown n → call.answer ≡ answer.refusal 24 0 0 n
      spent_from n u = go way ∙ ap (λ (i : ℕ). answer.refusal 24 0 0 i) (sym u.0)
        where
          go : Way → call.answer ≡ answer.refusal 24 0 0 b
          go (way_written i s k x m y) = absurd (omega (arith, m, u.1 i s k x))
          go (way_no_room i s k x m y) = absurd (omega (arith, m, u.1 i s k x))
          go (way_late i s k x m) = late i s k x m
          go (way_none never m) = absurd (omega (arith, m, u.2 (none_derived h never)))
          go (way_unknown never m) = none_unknown never m

      answers : SearchAnswers t f h b T j w o
      answers = record { writes = writes; no_room = no_room; only = only; none_exists = λ n. (none_to n, none_from n); budget_ends = λ n. (spent_to n, spent_from n) }

    -- demand 1, for a search that was begun
    abbrev May : Outcome (List ℕ) → Type 0
    May = Answers t f (SearchRefuses h b)

    inside : Outside h → ⊥
    inside (inl x) = omega (arith, x, low)
    inside (inr x) = omega (arith, x, high)

    few_steps : (r : Searched) → result ≡ r → steps_of r ≤ b
    few_steps r q = subst (λ (x : Searched). steps_of x ≤ b) q (search_steps T h b j.term j.goals)

    by_result : (r : Searched) → result ≡ r → May (search_end j r)
    unfolding search_end Answers number
    by_result (proved s k n) q = tt
    by_result (exhausted n) q = ended-specs.EndedWriting.ended_own 41 0 0 n (none_exists n (few_steps (exhausted n) q) l inside)
    by_result (spent n) q =
        ended-specs.EndedWriting.ended_own 24 0 0 n
        (subst (λ (i : ℕ). SearchRefuses h b 24 0 0 i) (sym (search_spent T h j.term j.goals b q)) (budget_ends l inside))

    begun : May (search_outcome t f h b)
    begun = subst May (sym outcome) (by_result result refl)

pub search_finds : Search-finds
search_finds t f T j e g h s k = finds t f T j e g h s k

pub search_answers : Search-answers
search_answers t f T j e g h b low high l w o enough = answers t f T j e g h b low high l w o enough

pub search_obeys : Search-obeys
search_obeys t f T j e g h n s k first = (finds t f T j e g h s k).0 (first_found_in first)

-- accepted
module _ (t f : List ℕ) (table_bytes_lem : Bytes t) (job-bytes : Bytes f) (T : Table) (j : Job) (e : read_table t ≡ gives T) (g : read_job f ≡ gives j) where
  module _ (h n : ℕ) (s : Term) (k : List Goal) (first : First (events_of T h j) n s k) (l : n ≤ 4096) where
    job_within : JobWithin j
    job_within = ((reads_job f j job-bytes).0 g).1

    evaluates : Evaluates T AtMost256 h j.goals j.term s k
    evaluates = found_evaluates T h j.term j.goals s k (first_found_in first)

    values : TermValues s × GoalValues k
    values = evaluated_values T ((reads_table t T table_bytes_lem).0 e).1 evaluates job_within.term_values job_within.goal_values

    validates : Validates (HasRule T) AtMost256 s j.goals k
    validates = evaluates_validates evaluates

    within : ProofWithin (record { goals = j.goals; term = s; remaining = k })
    within = record {
      few_goals = job_within.few_goals;
      goal_values = job_within.goal_values;
      hiproof = validates_hiproof validates;
      few_fields = omega (arith, search-fields T h n j.term j.goals (search_first T h j.term j.goals n first (omega arith)), l);
      term_values = values.0;
      few_remaining = gives_short T (few t f T j e g) evaluates (short t f T j e g);
      remaining_values = values.1;
    }

    accepted : Accepted t (result_of j s k)
    accepted = record { the_table = T; the_proof = record { goals = j.goals; term = s; remaining = k }; table_reads = e; proof_reads = proof_back_lem _ within; validates = validates }

pub search_accepted : Search-accepted
search_accepted t f table_bytes_lem job-bytes T j e g h n s k first l = accepted t f table_bytes_lem job-bytes T j e g h n s k first l

-- demand 1
module _ (t f : List ℕ) (h b : ℕ) where
  abbrev Ok : Outcome (List ℕ) → Type 0
  Ok = Answers t f (SearchRefuses h b)

  over_budget : most_search_steps < b → search_outcome t f h b ≡ refusal BudgetTooLarge 0 0 0
  unfolding search_outcome
  over_budget x = rw (lt-ltb most_search_steps b x)

  too_low : b ≤ most_search_steps → h < least_height → search_outcome t f h b ≡ refusal HeightOutside 0 0 0
  unfolding search_outcome
  too_low x y = rw (le-ltb most_search_steps b x, lt-ltb h least_height y)

  too_high : b ≤ most_search_steps → most_height < h → search_outcome t f h b ≡ refusal HeightOutside 0 0 0
  unfolding search_outcome
  too_high x y = rw (le-ltb most_search_steps b x, le-ltb h least_height (omega (arith, y)), lt-ltb most_height h y)

  too_large : most_search_steps < b → Ok (refusal BudgetTooLarge 0 0 0)
  unfolding Answers number
  too_large x = ended-specs.EndedWriting.ended_own 25 0 0 0 (budget_large x)

  outside : b ≤ most_search_steps → Outside h → Ok (refusal HeightOutside 0 0 0)
  unfolding Answers number
  outside l x = ended-specs.EndedWriting.ended_own 42 0 0 0 (outside_heights l x)

  module _ (l : b ≤ most_search_steps) (low : least_height ≤ h) (high : h ≤ most_height) where
    table_refused : (c : Cause) (q : ℕ) → read_table t ≡ refused c q → search_outcome t f h b ≡ refusal c 1 q 0
    unfolding search_outcome
    table_refused c q e = rw (le-ltb most_search_steps b l, le-ltb h least_height low, le-ltb most_height h high, e)

    job_refused : (T : Table) (c : Cause) (q : ℕ) → read_table t ≡ gives T → read_job f ≡ refused c q → search_outcome t f h b ≡ refusal c 2 q 0
    unfolding search_outcome
    job_refused T c q e g = rw (le-ltb most_search_steps b l, le-ltb h least_height low, le-ltb most_height h high, e, g)

    in_table : (c : Cause) (q : ℕ) → read_table t ≡ refused c q → Ok (refusal c 1 q 0)
    unfolding Answers
    in_table c q e = let r = table_place t c q e in ended-specs.EndedWriting.ended_table (number c) q r.least r.most r.within

    in_job : (c : Cause) (q : ℕ) → read_job f ≡ refused c q → Ok (refusal c 2 q 0)
    unfolding Answers
    in_job c q e = let r = Job-refused f c q e in ended-specs.EndedWriting.ended_other (number c) q r.least r.most r.within

    by_job : (T : Table) → read_table t ≡ gives T → (r : Result Job) → read_job f ≡ r → Ok (search_outcome t f h b)
    by_job T e (gives j) g = begun t f T j e g h b low high l
    by_job T e (refused c q) g = subst Ok (sym (job_refused T c q e g)) (in_job c q g)

    by_table : (r : Result Table) → read_table t ≡ r → Ok (search_outcome t f h b)
    by_table (gives T) e = by_job T e (read_job f) refl
    by_table (refused c q) e = subst Ok (sym (table_refused c q e)) (in_table c q e)

  by_height : b ≤ most_search_steps → Dec (h < least_height) → Dec (most_height < h) → Ok (search_outcome t f h b)
  by_height l (yes x) y = subst Ok (sym (too_low l x)) (outside l (inl x))
  by_height l (no x) (yes y) = subst Ok (sym (too_high l y)) (outside l (inr y))
  by_height l (no x) (no y) = by_table l (omega arith) (omega arith) (read_table t) refl

  by_budget : Dec (most_search_steps < b) → Ok (search_outcome t f h b)
  by_budget (yes x) = subst Ok (sym (over_budget x)) (too_large x)
  by_budget (no x) = by_height (omega arith) (dec_lt h least_height) (dec_lt most_height h)

pub search_ends : Search-ends
unfolding search_tactic
search_ends t f h b w o = ends_written t f w o (SearchRefuses h b) search_work (search_outcome t f h b) (by_budget t f h b (dec_lt most_search_steps b))

-- 25 and 42
module _ (t f : List ℕ) (h b : ℕ) (w o : List ℕ) (enough : search_work ≤ length w) where
  refused_so : (c : Cause) → search_outcome t f h b ≡ refusal c 0 0 0 → (search_tactic t f h b w o).answer ≡ answer.refusal (number c) 0 0 0
  unfolding search_tactic write_in write_out
  refused_so c q = rw (le-ltb (length w) search_work enough, q)

  by_side : b ≤ most_search_steps → Outside h → search_outcome t f h b ≡ refusal HeightOutside 0 0 0
  by_side l (inl x) = too_low t f h b l x
  by_side l (inr x) = too_high t f h b l x

  limits : SearchLimits t f h b w o
  unfolding number
  limits = record { budget = λ x. refused_so BudgetTooLarge (over_budget t f h b x); height = λ l x. refused_so HeightOutside (by_side l x) }

pub search_limits : Search-limits
search_limits t f h b w o enough = limits t f h b w o enough
