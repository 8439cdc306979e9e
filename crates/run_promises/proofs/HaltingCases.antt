-- What a call that may halt comes to, before lent space is looked at and after: a halt, which is 24 and has a saved state, or an end or a refusal, which is not
-- and has none. Assumes nothing.
use Prim.Native.Nat.{ℕ, ◌≤◌, ◌<◌}
use native.Mathlib.Omega.{arith}
use native.Mathlib.Decide.{dec_lt}
use mathlib.Core.Path.{◌≡◌, refl, sym, subst, ap, ◌∙◌}
use mathlib.Core.Logic.{◌⊎◌, inl, inr}
use mathlib.Core.Bool.{Bool, true, false, cond}
use mathlib.Core.List.{List, ◌++◌}
use mathlib.Core.Option.{none, some, none-ne-some}
use lib.Dec.{ltb}
use lib.ListN.{length, take, drop, replicate}
use lib.Seq.{take_at}
use Rattle.format.specs.Limits.{most_steps}
use Rattle.format.specs.declared.refusals.Cause.TheVariants.{JoinedTooLong, FieldsTooMany, BudgetSpent, BudgetTooLarge}
use Rattle.format.specs.Refusals.{number}
use Rattle.format.specs.Results.{Result, gives, refused}
use Rattle.tables.specs.Tables.{Table}
use Rattle.tables.specs.ReadTables.{read_table}
use Rattle.tables.proofs.ReadsTable.{reads_unique_rules, reads_unique_definitions}
use Rattle.tables.proofs.RefusedTable.{table_place}
use Rattle.files.specs.Jobs.{Job, read_job}
use Rattle.files.proofs.RefusedFiles.{Job-refused}
use Rattle.evaluation.specs.Ends.{End, proof, failure, overflow, excess}
use Rattle.evaluation.specs.EndingOf.{ending_of}
use Rattle.evaluation.specs.Machine.{Control, running, stopped, State, after, Running, run}
use Rattle.evaluation.specs.Outcomes.{Ending, proved, failed, ended}
use Rattle.evaluation.proofs.MachineMeaning.{run-ending}
use Rattle.evaluation.proofs.RunLaws.{spent_steps}
use Rattle.answers.specs.Answers as answer
use Rattle.lent_frames.specs.declared.LentFrame.{LentFrame}
use Rattle.lent_frames.specs.Frames.{no_frame}
use Rattle.entries.specs.Outcomes.{Outcome, success, refusal}
use Rattle.entries.specs.LentSpace.{Written, write_out}
use Rattle.entries.specs.Run.{begins, run_end, run_result}
use Rattle.entries.specs.SavedState.{saved_size, saved_contents, zeros_to, saved_in, saved_state}
use Rattle.entries.specs.Halting.{HaltingOutcome, unbegun, ran_for, halting_outcome, Halting, save_in, halt_in}
use Rattle.entries.proofs.HaltingLaws.{enough_or_not, lent_enough, lent_short, over_limit, table_refused, job_refused, both_read}
use Rattle.entries.proofs.SavedStateLaws.{contents_fit, zeros_length}
use Rattle.run_promises.specs.HaltingPromises.{Enough, HaltsAfter, contents_of, halted_after, WritesState}
use Rattle.run_promises.proofs.RunPromises.{at_job}

-- the numbers with which an outcome may be refused
abbrev pub Refused : (May : (number : ℕ) → Type 0) → Outcome (List ℕ) → Type 0
Refused May (success b k) = Unit {0}
Refused May (refusal c f p k) = May (number c)

-- run_halting, and resume; without a halt
abbrev pub RunMay : (number : ℕ) → Type 0
RunMay k = (k ≤ 23) ⊎ (k ≡ 25) ⊎ (k ≡ 40)

abbrev pub ResumeMay : (number : ℕ) → Type 0
ResumeMay k = RunMay k ⊎ (k ≡ 30)

pub data HaltingComes (May : (number : ℕ) → Type 0) (t f : List ℕ) (n : ℕ) : HaltingOutcome → Type 0 where
  comes_halted : (x : HaltsAfter t f n) → length (contents_of x) ≤ saved_size → HaltingComes May t f n (record { outcome = refusal BudgetSpent 0 0 n; saved = some (zeros_to saved_size (contents_of x)) })
  comes_ended : (o : Outcome (List ℕ)) → Refused May o → HaltingComes May t f n (unbegun o)

-- a run of a table and a job that were read

module _ (t f : List ℕ) (T : Table) (j : Job) (e : read_table t ≡ gives T) (g : read_job f ≡ gives j) (n : ℕ) where
  ended_refused : (k : ℕ) (x : Ending) → run T n (begins j) ≡ after k (stopped x) → Refused RunMay (run_end j k (stopped x))
  unfolding run_end number
  ended_refused k (proved s h) q = tt
  ended_refused k failed q = inl (omega arith)
  ended_refused k (ended c) q =
      let r = run-ending T (reads_unique_rules t T e) (reads_unique_definitions t T e) (at_job j) j.term j.goals n k (ended c) q in
      go r.0 r.1
    where
      go : (x : End) → ending_of x ≡ ended c → RunMay (number c)
      go (proof s h) p = absurd (let z : ◌≡◌ {A = ℕ} 0 1 = cc in omega arith)
      go failure p = absurd (let z : ◌≡◌ {A = ℕ} 0 1 = cc in omega arith)
      go overflow p = let z : JoinedTooLong ≡ c = cc in inl (omega (arith, ap number z))
      go excess p = let z : FieldsTooMany ≡ c = cc in inr (inr (sym (ap number z)))

  module _ (l : n ≤ most_steps) where
    by_control : (k : ℕ) (κ : Control) → run T n (begins j) ≡ after k κ → HaltingComes RunMay t f n (record { outcome = run_end j k κ; saved = saved_in k κ })
    unfolding saved_in run_end
    by_control k (running π u h w) q =
        let r : Running (run T n (begins j)).control = subst (λ (σ : State). Running σ.control) (sym q) tt in
        let s : k ≡ n = ap (λ (σ : State). σ.steps) (sym q) ∙ spent_steps T n (at_job j) j.term j.goals r in
        let p : run T n (begins j) ≡ after n (running π u h w) = q ∙ ap (λ (m : ℕ). after m (running π u h w)) s in
        subst (λ (m : ℕ). HaltingComes RunMay t f n (record { outcome = refusal BudgetSpent 0 0 m; saved = some (zeros_to saved_size (saved_contents m π h w)) })) (sym s)
        (comes_halted (record { table = T; job = j; table_read = e; job_read = g; place = π; term = u; goals = h; waiting = w; stands = p }) (contents_fit t f T j e g n l n π u h w p))
    by_control k (stopped x) q = comes_ended (run_end j k (stopped x)) (ended_refused k x q)

    pub ran_comes : HaltingComes RunMay t f n (ran_for T j n)
    unfolding ran_for run_result saved_state
    ran_comes = by_control (run T n (begins j)).steps (run T n (begins j)).control refl

-- run_halting, by its budget and its files
module _ (t f : List ℕ) (b : ℕ) where
  abbrev C : HaltingOutcome → Type 0
  C = HaltingComes RunMay t f b

  abbrev next : Table → Job → HaltingOutcome
  next T j = ran_for T j b

  by_job : b ≤ most_steps → (T : Table) → read_table t ≡ gives T → (r : Result Job) → read_job f ≡ r → C (halting_outcome t f b)
  unfolding halting_outcome
  by_job l T e (gives j) g = subst C (sym (both_read t f b next l T j e g)) (ran_comes t f T j e g b l)
  by_job l T e (refused c p) g = subst C (sym (job_refused t f b next l T e c p g)) (comes_ended (refusal c 2 p 0) (inl (omega (arith, (Job-refused f c p g).most))))

  by_table : b ≤ most_steps → (r : Result Table) → read_table t ≡ r → C (halting_outcome t f b)
  unfolding halting_outcome
  by_table l (gives T) e = by_job l T e (read_job f) refl
  by_table l (refused c p) e = subst C (sym (table_refused t f b next l c p e)) (comes_ended (refusal c 1 p 0) (inl (omega (arith, (table_place t c p e).most))))

  by_budget : Dec (most_steps < b) → C (halting_outcome t f b)
  unfolding halting_outcome number
  by_budget (yes l) = subst C (sym (over_limit t f b next l)) (comes_ended (refusal BudgetTooLarge 0 0 0) (inr (inl refl)))
  by_budget (no l) = by_table (omega arith) (read_table t) refl

  pub halting_comes : C (halting_outcome t f b)
  halting_comes = by_budget (dec_lt most_steps b)

-- the answer of a call that was begun

module _ (May : (number : ℕ) → Type 0) (w o : List ℕ) where
  pub answer_number : (x : Outcome (List ℕ)) → Refused May x → (k : ℕ) → (write_out w o x).answer.number ≡ k → ((k ≡ 0) ⊎ (k ≡ 26)) ⊎ May k
  unfolding write_out number
  answer_number (refusal c f p n) r k z = inr (subst May z r)
  answer_number (success b n) r k z = go (ltb (length o) (length b)) z
    where
      go : (y : Bool) → (cond {A = Written} y (record { answer = answer.refusal 26 0 0 n; work = replicate (length w) 0; out = o }) (record { answer = answer.wrote (length b) n; work = replicate (length w) 0; out = b ++ drop (length b) o })).answer.number ≡ k
          → ((k ≡ 0) ⊎ (k ≡ 26)) ⊎ May k
      go true z = inl (inr (sym z))
      go false z = inl (inl (sym z))

-- numbers that are not among them
pub run_unlisted : (k : ℕ) → 23 < k → k < 40 → (k ≡ 25 → ⊥) → RunMay k → ⊥
run_unlisted k l m d (inl h) = omega (arith, l, h)
run_unlisted k l m d (inr (inl h)) = d h
run_unlisted k l m d (inr (inr h)) = omega (arith, m, h)

pub resume_unlisted : (k : ℕ) → 23 < k → k < 40 → (k ≡ 25 → ⊥) → (k ≡ 30 → ⊥) → ResumeMay k → ⊥
resume_unlisted k l m d r (inl h) = run_unlisted k l m d h
resume_unlisted k l m d r (inr h) = r h

module _ (w : List ℕ) (fs : List LentFrame) (o st : List ℕ) where
  abbrev call : HaltingOutcome → Halting
  call h = halt_in w fs o st h

  -- a number that does not come
  pub other_number : (May : (number : ℕ) → Type 0) → Enough w fs st → (x : Outcome (List ℕ)) → Refused May x → (k : ℕ) → (May k → ⊥) → (k ≡ 0 → ⊥) → (k ≡ 26 → ⊥) → (call (unbegun x)).answer.number ≡ k → ⊥
  other_number May l x r k d a b z = go (answer_number May w o x r k (ap (λ (y : Halting). y.answer.number) (sym (lent_enough w fs o st l (unbegun x))) ∙ z))
    where
      go : ((k ≡ 0) ⊎ (k ≡ 26)) ⊎ May k → ⊥
      go (inl (inl q)) = a q
      go (inl (inr q)) = b q
      go (inr q) = d q

  -- what is answered with 24 has lent spaces that suffice
  pub spent_enough : (h : HaltingOutcome) → (call h).answer.number ≡ 24 → Enough w fs st
  spent_enough h z = go (enough_or_not w fs o st)
    where
      go : Dec (Enough w fs st) → Enough w fs st
      go (yes l) = l
      go (no d) = absurd (let q = ap (λ (y : Halting). y.answer.number) (lent_short w fs o st d h) in omega (arith, z, q))

  -- a halt, in spaces that suffice
  pub lent_halt : Enough w fs st → (n : ℕ) (c : List ℕ) → length c ≤ saved_size
      → call (record { outcome = refusal BudgetSpent 0 0 n; saved = some (zeros_to saved_size c) }) ≡ halted_after n c w fs o st
  unfolding write_out save_in number
  lent_halt l n c fit =
      lent_enough w fs o st l (record { outcome = refusal BudgetSpent 0 0 n; saved = some (zeros_to saved_size c) })
      ∙ ap (λ (k : ℕ). record { answer = answer.refusal 24 0 0 n; work = replicate (length w) 0; frames = replicate (length fs) no_frame; out = o; state = zeros_to saved_size c ++ drop k st })
      (zeros_length saved_size c fit)

  module _ (May : (number : ℕ) → Type 0) (not_24 : May 24 → ⊥) (t f : List ℕ) (n : ℕ) where
    ended_24 : Enough w fs st → (x : Outcome (List ℕ)) → Refused May x → (call (unbegun x)).answer.number ≡ 24 → ⊥
    ended_24 l x r = other_number May l x r 24 not_24 (λ q. omega (arith, q)) (λ q. omega (arith, q))

    enough_writes : Enough w fs st → (h : HaltingOutcome) → HaltingComes May t f n h → WritesState t f n w fs o st (call h)
    unfolding save_in
    enough_writes l h (comes_halted x fit) =
        let q = lent_halt l n (contents_of x) fit in record { fills = λ z. (x, q); keeps = λ z. absurd (z (ap (λ (y : Halting). y.answer.number) q)) }
    enough_writes l h (comes_ended x r) = record {
      fills = λ z. absurd (ended_24 l x r z);
      keeps = λ z. ap (λ (y : Halting). y.state) (lent_enough w fs o st l (unbegun x));
    }

    -- WRITES: the second space is filled by a halt, and by nothing else.
    pub writes_state : (h : HaltingOutcome) → HaltingComes May t f n h → WritesState t f n w fs o st (call h)
    writes_state h k = go (enough_or_not w fs o st)
      where
        go : Dec (Enough w fs st) → WritesState t f n w fs o st (call h)
        go (yes l) = enough_writes l h k
        go (no d) = subst (WritesState t f n w fs o st) (sym (lent_short w fs o st d h)) (record { fills = λ z. absurd (omega (arith, z)); keeps = λ z. refl })

    -- a halt: what is saved stands first in the second space
    pub saved_first : (h : HaltingOutcome) → HaltingComes May t f n h → (call h).answer.number ≡ 24 → (s : List ℕ) × (h.saved ≡ some s) × (take saved_size (call h).state ≡ s)
    saved_first h (comes_halted x fit) z =
        let s = zeros_to saved_size (contents_of x) in
        let q = lent_halt (spent_enough (record { outcome = refusal BudgetSpent 0 0 n; saved = some s }) z) n (contents_of x) fit in
        (s, refl, ap (λ (y : Halting). take saved_size y.state) q ∙ take_at s (drop saved_size st) saved_size (zeros_length saved_size (contents_of x) fit))
    saved_first h (comes_ended x r) z = absurd (ended_24 (spent_enough (unbegun x) z) x r z)

    -- and what is saved is answered with 24
    pub saved_answer : Enough w fs st → (h : HaltingOutcome) → HaltingComes May t f n h → (s : List ℕ) → h.saved ≡ some s → (call h).answer.number ≡ 24
    saved_answer l h (comes_halted x fit) s q = ap (λ (y : Halting). y.answer.number) (lent_halt l n (contents_of x) fit)
    saved_answer l h (comes_ended x r) s q = absurd (none-ne-some s q)

    -- an answer other than 24 has no saved state
    pub unsaved : Enough w fs st → (h : HaltingOutcome) → HaltingComes May t f n h → ((call h).answer.number ≡ 24 → ⊥) → h.saved ≡ none
    unsaved l h (comes_halted x fit) d =
        absurd (d (saved_answer l (record { outcome = refusal BudgetSpent 0 0 n; saved = some (zeros_to saved_size (contents_of x)) }) (comes_halted x fit) (zeros_to saved_size (contents_of x)) refl))
    unsaved l h (comes_ended x r) d = refl
