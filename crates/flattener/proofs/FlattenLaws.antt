-- The endings of the entry flatten: which case of the entry's definition holds.
-- Assumes nothing.
use Rattle.std.specs.Prelude.{Ok, Err}
use Rattle.std.specs.Prelude as std
use mathlib.Core.Path.{◌≡◌, refl}
use mathlib.Core.Bool.{Bool, true, false, cond}
use mathlib.Core.List.{List, [], ◌++◌}
use Prim.Native.Nat.{ℕ, ◌≤◌, ◌<◌}
use lib.Dec.{ltb}
use lib.ListN.{length, drop, replicate}
use borrow.Author.Tests.{lt-ltb, le-ltb}
use Rattle.format.specs.declared.refusals.Refusal.{Refusal}
use Rattle.format.specs.declared.refusals.Cause.TheVariants.{OutputTooShort, WorkTooShort}
use Rattle.format.specs.Refusals.{number}
use Rattle.format.specs.Results.{gives, refused}
use Rattle.tables.specs.Tables.{Table}
use Rattle.tables.specs.ReadTables.{read_table}
use Rattle.files.specs.Proofs.{Proof, read_proof}
use Rattle.answers.specs.declared.Answer.{Answer}
use Rattle.answers.specs.Answers as answer
use Rattle.entries.specs.Outcomes.{Outcome, success, refusal, no_file}
use Rattle.entries.specs.LentSpace.{Written, write_out, write_in, cleared}
use Rattle.entries.specs.Check.{on_proof, forest_file, flatten_work, flatten}
use Rattle.flattener.specs.Forests.{written, flattened}

-- ---- 26, or the flat file

abbrev pub outcome_of : Answer → (out : List ℕ) → Written
outcome_of a out = record { answer = a; work = []; out = out }

pub no_room : (T : Table) (p : Proof) (out : List ℕ) → length out < length (forest_file T p) → written T p out ≡ outcome_of (answer.refusal (number OutputTooShort) 0 0 0) out
unfolding write_out
no_room T p out h = rw (lt-ltb (length out) (length (forest_file T p)) h)

pub has_room : (T : Table) (p : Proof) (out : List ℕ) → length (forest_file T p) ≤ length out
    → written T p out ≡ outcome_of (answer.wrote (length (forest_file T p)) 0) (forest_file T p ++ drop (length (forest_file T p)) out)
unfolding write_out
has_room T p out h = rw (le-ltb (length out) (length (forest_file T p)) h)

-- ---- the files, by how they read

module _ (t s out : List ℕ) where
  pub table_refused : (f : Refusal) → read_table t ≡ refused f.cause f.place → write_out [] out (on_proof forest_file t s) ≡ outcome_of (answer.refusal (number f.cause) 1 f.place 0) out
  unfolding on_proof write_out
  table_refused f e = rw e

  pub proof_refused : (T : Table) (f : Refusal) → read_table t ≡ gives T → read_proof s ≡ refused f.cause f.place → write_out [] out (on_proof forest_file t s) ≡ outcome_of (answer.refusal (number f.cause) 2 f.place 0) out
  unfolding on_proof write_out
  proof_refused T f e r = rw (e, r)

  pub both_read : (T : Table) (p : Proof) → read_table t ≡ gives T → read_proof s ≡ gives p → write_out [] out (on_proof forest_file t s) ≡ flattened T p out
  unfolding on_proof
  both_read T p e f = rw (e, f)

-- ---- the work space: 29, or cleared

pub record Alike (w : List ℕ) (x y : Written) : Type 0 where
  pub answer_same : x.answer ≡ y.answer
  pub out_same : x.out ≡ y.out
  pub work_is : x.work ≡ replicate (length w) 0

alike : (w out : List ℕ) (o : Outcome (List ℕ)) → Alike w (write_out w out o) (write_out [] out o)
unfolding write_out
alike w out (refusal c f p k) = record { answer_same = refl; out_same = refl; work_is = refl }
alike w out (success bytes k) = by (ltb (length out) (length bytes))
  where
    by : (b : Bool) → Alike w
        (cond b (record { answer = answer.refusal (number OutputTooShort) no_file 0 k; work = cleared w; out = out }) (record { answer = answer.wrote (length bytes) k; work = cleared w; out = bytes ++ drop (length bytes) out }))
        (cond b (record { answer = answer.refusal (number OutputTooShort) no_file 0 k; work = cleared []; out = out }) (record { answer = answer.wrote (length bytes) k; work = cleared []; out = bytes ++ drop (length bytes) out }))
    by true = record { answer_same = refl; out_same = refl; work_is = refl }
    by false = record { answer_same = refl; out_same = refl; work_is = refl }

module _ (t s w out : List ℕ) where
  pub too_short : length w < flatten_work → flatten t s w out ≡ record { answer = answer.refusal (number WorkTooShort) 0 0 0; work = w; out = out }
  unfolding flatten write_in
  too_short h = rw (lt-ltb (length w) flatten_work h)

  pub long_enough : flatten_work ≤ length w → Alike w (flatten t s w out) (write_out [] out (on_proof forest_file t s))
  unfolding flatten write_in
  long_enough h = rw (le-ltb (length w) flatten_work h) (alike w out (on_proof forest_file t s))

-- the two cases of what the code answers
pub either : {A E : Type 0} (x : std.Result A E) {G : Type 0} → ((a : A) → x ≡ Ok a → G) → ((e : E) → x ≡ Err e → G) → G
either (Ok a) ok err = ok a refl
either (Err e) ok err = err e refl
