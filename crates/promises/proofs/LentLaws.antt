-- An entry by the tests of its work space and its output space, whatever the call comes to.
-- Assumes nothing.
use Prim.Native.Nat.{ℕ, ◌≤◌, ◌<◌}
use native.Mathlib.Omega.{arith}
use native.Mathlib.Decide.{dec_lt}
use mathlib.Core.Path.{◌≡◌, refl, sym, subst, ap, ◌∙◌}
use mathlib.Core.List.{List, ◌++◌}
use lib.ListN.{length, take, drop, replicate}
use lib.Seq.{take_at}
use borrow.Author.Tests.{lt-ltb, le-ltb}
use Rattle.format.specs.declared.refusals.Cause.{Cause}
use Rattle.format.specs.declared.refusals.Cause.TheVariants.{OutputTooShort}
use Rattle.format.specs.Refusals.{number}
use Rattle.format.specs.Results.{Result, gives, refused}
use Rattle.format.proofs.ResultLaws.{number_positive}
use Rattle.answers.specs.Answers as answer
use Rattle.entries.specs.Outcomes.{Outcome, success, refusal, in_file, done, other_file}
use Rattle.entries.specs.Left.{left_in}
use Rattle.entries.proofs.LeftLaws.{no_room, enough_room, too_short, long_enough}
use Rattle.entries.specs.LentSpace.{Counts, counted_answer, check_in, Written, write_out, write_in}
use Rattle.promises.specs.Ended as ended
use Rattle.promises.specs.Ended.{Ended, ended_unstarted, EndsChecked, EndedWriting, ended_wrote, ended_output, EndsWritten}
use Rattle.promises.specs.WriteProofPromises.{wrote}

module _ (size : ℕ) (work : List ℕ) (o : Outcome Counts) where
  -- the answer, once the work space is long enough
  pub answered : size ≤ length work → (check_in size work o).answer ≡ counted_answer o
  unfolding check_in
  answered h = rw (le-ltb (length work) size h)

  cleared : size ≤ length work → (check_in size work o).work ≡ replicate (length work) 0
  unfolding check_in
  cleared h = rw (le-ltb (length work) size h)

  kept : length work < size → ((check_in size work o).answer ≡ answer.refusal 29 0 0 0) × ((check_in size work o).work ≡ work)
  unfolding check_in number
  kept h = (rw (lt-ltb (length work) size h), rw (lt-ltb (length work) size h))

  pub ends_checked : (table other : List ℕ) (Own : (number place : ℕ) → Type 0) → Ended table other Own (counted_answer o) → EndsChecked table other work size Own (check_in size work o)
  ends_checked table other Own e = record { answers = by_space (dec_lt (length work) size); clears = cleared; keeps = kept }
    where
      by_space : Dec (length work < size) → Ended table other Own (check_in size work o).answer
      by_space (yes h) = subst (Ended table other Own) (sym (kept h).0) ended_unstarted
      by_space (no h) = subst (Ended table other Own) (sym (answered (omega arith))) e

-- what an outcome may be, for the answer of a call that writes
unfoldable pub Answers : (table other : List ℕ) (Own : (number file place steps : ℕ) → Type 0) → Outcome (List ℕ) → Type 0
Answers table other Own (success b k) = Unit {0}
Answers table other Own (refusal c f q k) = EndedWriting table other Own (answer.refusal (number c) f q k)

-- all but the work space, which is long enough
record Ends (table other out : List ℕ) (Own : (number file place steps : ℕ) → Type 0) (c : Written) : Type 0 where
  answers : EndedWriting table other Own c.answer
  refused : (c.answer.number ≡ 0 → ⊥) → (c.out ≡ out) × (c.answer.length ≡ 0)
  succeeded : c.answer.number ≡ 0 → ended.Result out c

module _ (table other work out : List ℕ) (Own : (number file place steps : ℕ) → Type 0) where
  abbrev E : Written → Type 0
  E = Ends table other out Own

  -- a refusal, for any reason, with any work space
  refuses : (c : Cause) (f q k : ℕ) (w : List ℕ) → EndedWriting table other Own (answer.refusal (number c) f q k) → E (record { answer = answer.refusal (number c) f q k; work = w; out = out })
  refuses c f q k w e = record { answers = e; refused = λ z. (refl, refl); succeeded = λ z. absurd (omega (arith, z, number_positive c)) }

  over : (k : ℕ) → EndedWriting table other Own (answer.refusal (number OutputTooShort) 0 0 k)
  unfolding number
  over k = ended_output k

  -- 26, or the result
  by_output : (b : List ℕ) (k : ℕ) → Dec (length out < length b) → E (write_out work out (success b k))
  unfolding write_out
  by_output b k (yes h) = rw (lt-ltb (length out) (length b) h) (refuses OutputTooShort 0 0 k (replicate (length work) 0) (over k))
  by_output b k (no h) =
      rw
      (le-ltb (length out) (length b) (omega arith))
      (record { answers = ended_wrote (length b) k; refused = λ z. absurd (z refl); succeeded = λ z. record { bytes = b; fits = omega arith; length_is = refl; out_is = refl } })

  by_outcome : (o : Outcome (List ℕ)) → Answers table other Own o → E (write_out work out o)
  unfolding Answers write_out
  by_outcome (success b k) e = by_output b k (dec_lt (length out) (length b))
  by_outcome (refusal c f q k) e = refuses c f q k (replicate (length work) 0) e

  -- the work space after a call that was begun
  cleared-after : (o : Outcome (List ℕ)) → (write_out work out o).work ≡ replicate (length work) 0
  unfolding write_out
  cleared-after (refusal c f q k) = refl
  cleared-after (success b k) = by_length (dec_lt (length out) (length b))
    where
      by_length : Dec (length out < length b) → (write_out work out (success b k)).work ≡ replicate (length work) 0
      by_length (yes h) = rw (lt-ltb (length out) (length b) h)
      by_length (no h) = rw (le-ltb (length out) (length b) (omega arith))

  unstarted : EndedWriting table other Own (answer.refusal 29 0 0 0)
  unstarted = ended_unstarted

  -- 29, or a call that was begun
  abbrev unbegun : Written
  unbegun = record { answer = answer.refusal 29 0 0 0; work = work; out = out }

  module _ (size : ℕ) (o : Outcome (List ℕ)) where
    short : length work < size → write_in size work out o ≡ unbegun
    unfolding write_in number
    short h = rw (lt-ltb (length work) size h)

    long : size ≤ length work → write_in size work out o ≡ write_out work out o
    unfolding write_in
    long h = rw (le-ltb (length work) size h)

    pub ends_written : Answers table other Own o → EndsWritten table other work out size Own (write_in size work out o)
    ends_written e = record {
      answers = (by_space (dec_lt (length work) size)).answers;
      clears = λ h. ap (λ (c : Written). c.work) (long h) ∙ cleared-after o;
      keeps = λ h. (ap (λ (c : Written). c.answer) (short h), ap (λ (c : Written). c.work) (short h));
      refused = (by_space (dec_lt (length work) size)).refused;
      succeeded = (by_space (dec_lt (length work) size)).succeeded;
    }
      where
        by_space : Dec (length work < size) → E (write_in size work out o)
        by_space (yes h) = subst E (sym (short h)) (record { answers = unstarted; refused = λ z. (refl, refl); succeeded = λ z. absurd (omega (arith, z)) })
        by_space (no h) = subst E (sym (long (omega arith))) (by_outcome o e)

-- a call that wrote these bytes was begun, came to no refusal, and came to these bytes
module _ (size : ℕ) (work out f : List ℕ) where
  wrote-begun : (o : Outcome (List ℕ)) → write_in size work out o ≡ wrote f work out → left_in out o ≡ record { answer = answer.wrote (length f) 0; work = (left_in out o).work; out = f ++ drop (length f) out }
  wrote-begun o e = by_work (dec_lt (length work) size)
    where
      by_work : Dec (length work < size) → left_in out o ≡ record { answer = answer.wrote (length f) 0; work = (left_in out o).work; out = f ++ drop (length f) out }
      by_work (yes h) = absurd (let z = ap (λ (c : Written). c.answer.number) (sym (too_short size work out o h) ∙ e) in omega (arith, z))
      by_work (no h) =
          let q = sym (long_enough size work out o (omega arith)) ∙ e in
          λ i. record { answer = (q i).answer; work = (left_in out o).work; out = (q i).out }

  pub never_wrote : (c : Cause) (file q k : ℕ) → write_in size work out (refusal c file q k) ≡ wrote f work out → ⊥
  unfolding write_out
  never_wrote c file q k e = let z = ap (λ (x : Written). x.answer.number) (wrote-begun (refusal c file q k) e) in omega (arith, z, number_positive c)

  pub wrote_bytes : (b : List ℕ) → write_in size work out (done b) ≡ wrote f work out → b ≡ f
  wrote_bytes b e = by_room (dec_lt (length out) (length b)) (wrote-begun (done b) e)
    where
      by_room : Dec (length out < length b) → left_in out (done b) ≡ record { answer = answer.wrote (length f) 0; work = (left_in out (done b)).work; out = f ++ drop (length f) out } → b ≡ f
      by_room (yes h) q = absurd (let z = ap (λ (c : Written). c.answer.number) (no_room b 0 out h ∙ q) in omega (arith, z))
      by_room (no h) q =
          let r = enough_room b 0 out (omega arith) ∙ q in
          sym (take_at b (drop (length b) out) (length b) refl)
          ∙ ap (λ (c : Written). take (length b) c.out) r
          ∙ take_at f (drop (length f) out) (length b) (sym (ap (λ (c : Written). c.answer.length) r))

-- what is written from another file alone has no answer about a table
pub other_file_lem : {A : Type 0} (size : ℕ) (work out : List ℕ) (r : Result A) (bytes : A → List ℕ) → (write_in size work out (in_file other_file r (λ a. done (bytes a)))).answer.file ≡ 1 → ⊥
unfolding write_out
other_file_lem {A} size work out r bytes e = by_work (dec_lt (length work) size)
  where
    by_result : (q : Result A) → (left_in out (in_file other_file q (λ a. done (bytes a)))).answer.file ≡ 1 → ⊥
    by_result (refused c p) f = omega (arith, f)
    by_result (gives a) f = by_room (dec_lt (length out) (length (bytes a)))
      where
        by_room : Dec (length out < length (bytes a)) → ⊥
        by_room (yes h) = let z = ap (λ (c : Written). c.answer.file) (no_room (bytes a) 0 out h) in omega (arith, z, f)
        by_room (no h) = let z = ap (λ (c : Written). c.answer.file) (enough_room (bytes a) 0 out (omega arith)) in omega (arith, z, f)

    by_work : Dec (length work < size) → ⊥
    by_work (yes h) = let z = ap (λ (c : Written). c.answer.file) (too_short size work out (in_file other_file r (λ a. done (bytes a))) h) in omega (arith, z, e)
    by_work (no h) = by_result r (sym (ap (λ (c : Written). c.answer.file) (long_enough size work out (in_file other_file r (λ a. done (bytes a))) (omega arith))) ∙ e)
