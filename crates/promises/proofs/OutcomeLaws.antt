-- What a call on a table and another file comes to, before lent space is looked at: a value, or a refusal of one of the two files, or one of the entry's own. From it both kinds of ending.
-- Assumes nothing.
use Prim.Native.Nat.{ℕ, ◌≤◌}
use mathlib.Core.Path.{◌≡◌, refl}
use mathlib.Core.List.{List}
use lib.ListN.{length}
use Rattle.format.specs.declared.refusals.Cause.{Cause}
use Rattle.format.specs.Refusals.{number}
use Rattle.format.specs.Results.{Result, gives, refused}
use Rattle.tables.specs.Tables.{Table}
use Rattle.tables.specs.ReadTables.{read_table}
use Rattle.tables.proofs.RefusedTable.{table_place}
use Rattle.files.specs.RefusedFiles.{FileRefusal}
use Rattle.entries.specs.Outcomes.{Outcome, success, refusal, in_file, done, table_file, other_file}
use Rattle.entries.specs.LentSpace.{Counts, counted_answer}
use Rattle.promises.specs.Ended.{Ended, ended_counted, InOther}
use Rattle.promises.specs.Ended as ended
use Rattle.promises.proofs.LentLaws.{Answers}

pub data Comes {A : Type 0} (table other : List ℕ) (Own : (number place : ℕ) → Type 0) : Outcome A → Type 0 where
  comes_done : (a : A) → Comes table other Own (done a)
  comes_table : (c : Cause) (q : ℕ) → 1 ≤ number c → number c ≤ 9 → q ≤ length table → Comes table other Own (refusal c table_file q 0)
  comes_other : (c : Cause) (q : ℕ) → 1 ≤ number c → number c ≤ 5 → q ≤ length other → Comes table other Own (refusal c other_file q 0)
  comes_own : (c : Cause) (q : ℕ) → Own (number c) q → Comes table other Own (refusal c other_file q 0)

-- both files are read, then comes what the entry does
module _ {A B : Type 0} (t p : List ℕ) (Own : (number place : ℕ) → Type 0) (reading : Result B) (entry : Table → B → Result A) where
  abbrev call : Outcome A
  call = in_file table_file (read_table t) (λ T. in_file other_file reading (λ x. in_file other_file (entry T x) done))

  pub comes : ((c : Cause) (q : ℕ) → reading ≡ refused c q → FileRefusal p c q)
      → ((T : Table) (x : B) → read_table t ≡ gives T → reading ≡ gives x → (c : Cause) (q : ℕ) → entry T x ≡ refused c q → Own (number c) q)
      → Comes t p Own call
  comes file own = by_table (read_table t) refl
    where
      by_entry : (T : Table) (x : B) → read_table t ≡ gives T → reading ≡ gives x → (r : Result A) → entry T x ≡ r → Comes t p Own (in_file other_file (entry T x) done)
      by_entry T x e f (gives a) g = rw g (comes_done a)
      by_entry T x e f (refused c q) g = rw g (comes_own c q (own T x e f c q g))

      by_file : (T : Table) → read_table t ≡ gives T → (r : Result B) → reading ≡ r → Comes t p Own (in_file other_file reading (λ x. in_file other_file (entry T x) done))
      by_file T e (gives x) f = rw f (by_entry T x e f (entry T x) refl)
      by_file T e (refused c q) f = let b = file c q f in rw f (comes_other c q b.least b.most b.within)

      by_table : (r : Result Table) → read_table t ≡ r → Comes t p Own call
      by_table (gives T) e = rw e (by_file T e reading refl)
      by_table (refused c q) e = let b = table_place t c q e in rw e (comes_table c q b.least b.most b.within)

pub counted_ends : {t p : List ℕ} {Own : (number place : ℕ) → Type 0} {o : Outcome Counts} → Comes t p Own o → Ended t p Own (counted_answer o)
counted_ends (comes_done a) = ended_counted _ _ _ _
counted_ends (comes_table c q l m w) = ended.Ended.ended_table (number c) q l m w
counted_ends (comes_other c q l m w) = ended.Ended.ended_other (number c) q l m w
counted_ends (comes_own c q x) = ended.Ended.ended_own (number c) q x

pub written_ends : {t p : List ℕ} {Own : (number place : ℕ) → Type 0} {o : Outcome (List ℕ)} → Comes t p Own o → Answers t p (InOther Own) o
unfolding Answers
written_ends (comes_done a) = tt
written_ends (comes_table c q l m w) = ended.EndedWriting.ended_table (number c) q l m w
written_ends (comes_other c q l m w) = ended.EndedWriting.ended_other (number c) q l m w
written_ends (comes_own c q x) = ended.EndedWriting.ended_own (number c) 2 q 0 (refl, refl, x)

-- two calls that read the same file: refused alike, or related in what follows
pub both_in_file : {A B X : Type 0} (R : Outcome A → Outcome B → Type 0) (file : ℕ) (r : Result X) {next : X → Outcome A} {other : X → Outcome B}
    → ((c : Cause) (q : ℕ) → r ≡ refused c q → R (refusal c file q 0) (refusal c file q 0)) → ((x : X) → R (next x) (other x)) → R (in_file file r next) (in_file file r other)
both_in_file R file (gives x) same more = more x
both_in_file R file (refused c q) same more = same c q refl
