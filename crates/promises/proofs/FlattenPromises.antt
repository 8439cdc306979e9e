-- The promises of flatten: the forest of an accepted proof is a right derivation within the limits, by `Flatten` in hitac; and the same without labels.
-- Assumes nothing.
use Prim.Native.Nat.{ℕ, ◌+◌, ◌*◌, ◌≤◌, ◌<◌}
use native.Mathlib.Omega.{arith}
use mathlib.Core.Path.{◌≡◌, refl, sym, subst, ap, ◌∙◌}
use mathlib.Core.Bool.{Bool, true, false, cond}
use mathlib.Core.Logic.{inl, inr}
use mathlib.Core.List.{List, [], ◌∷◌}
use lib.ListN.{length}
use borrow.Author.Tests.{le-ltb}
use Rattle.format.specs.declared.values.Goal.{Goal}
use Rattle.format.specs.Encoding.{Bytes}
use Rattle.format.specs.declared.refusals.Cause.{Cause}
use Rattle.format.specs.declared.refusals.Cause.TheVariants.{RemainingDiffer}
use Rattle.format.specs.Results.{Result, gives, refused, and_then}
use Rattle.format.specs.Terms.{fields}
use Rattle.format.proofs.ResultLaws.{same_value}
use Rattle.tables.specs.Tables.{Table, HasRule, UniqueRules}
use Rattle.tables.specs.ReadTables.{read_table}
use Rattle.tables.proofs.ReadsTable.{reads_unique_rules, reads_table}
use Rattle.files.specs.Derivations.{Derivation, Entry, read_flat, flat_bytes}
use Rattle.files.specs.Proofs.{Proof, proof_bytes, term_place, remaining_place, empty_proof, read_proof}
use Rattle.files.specs.Within.{ProofWithin, ProofFile, FlatWithin}
use Rattle.files.proofs.Sizes.{length-proof_bytes}
use Rattle.files.proofs.ReadsProof.{proof_back_lem, reads_none, reads_proof, read_within}
use Rattle.files.proofs.ReadsFlat.{flat_back}
use Rattle.hitac.specs.Derives.{Derives}
use Rattle.hitac.specs.Forest.{Tree, leaves, entries, forest}
use Rattle.hitac.specs.Hiproofs.{atomics, drop_labels}
use Rattle.hitac.specs.Validates.{AtMost256, Validates}
use Rattle.hitac.specs.Walk.{walk}
use Rattle.hitac.proofs.DroppedLabels.{still_hiproof, no_more, unlabelled}
use Rattle.hitac.proofs.EntryCounts.{uses-counted, opens_counted}
use Rattle.hitac.proofs.Flatten.{forest-right, forest-leaves, forest-uses, forest_all_uses, unlabelled_walk, unlabelled_same}
use Rattle.hitac.proofs.FlatWalks.{flat_walk↔derives}
use Rattle.hitac.proofs.ForestRules.{forest↔flattens}
use Rattle.hitac.proofs.TermBounds.{atomics-fields}
use Rattle.hitac.proofs.WalkValidates.{walk↔validates}
use Rattle.answers.specs.declared.Answer.{Answer}
use Rattle.entries.specs.Outcomes.{Outcome, refusal, in_file, done, table_file, other_file}
use Rattle.entries.specs.LentSpace.{Counts, counted_answer, Written, write_out, write_in}
use Rattle.entries.specs.Left.{left_in}
use Rattle.entries.specs.Check.{same_goals, remaining_are, checked, on_proof, proof_counts, forest_file, check_work, flatten_work, check, flatten}
use Rattle.entries.proofs.LeftLaws.{long_enough}
use Rattle.entries.proofs.SameGoals.{equal_same}
use Rattle.promises.specs.Accepted.{Accepted}
use Rattle.promises.specs.Right.{Right}
use Rattle.promises.specs.Ended.{InOther}
use Rattle.promises.specs.CheckPromises.{CheckRefuses}
use Rattle.promises.specs.WriteProofPromises.{wrote}
use Rattle.promises.specs.FlattenPromises.{derivation_of, plain, plain_file, FlattensRight, Flattens-right, Flatten-refuses, Flatten-ends}
use Rattle.promises.proofs.LentLaws.{answered, ends_written}
use Rattle.promises.proofs.OutcomeLaws.{both_in_file, written_ends}
use Rattle.promises.proofs.CheckPromises.{proof_comes}
use Rattle.promises.proofs.FlattenedWithin.{derived_values, plain_values, five_each}

-- a call on a proof that is accepted writes the file of its forest
module _ (t p : List ℕ) (a : Accepted t p) where
  abbrev T₀ : Table
  T₀ = a.the_table

  abbrev x₀ : Proof
  x₀ = a.the_proof

  pub accepted_walk : (q : ℕ) → walk T₀ x₀.term q x₀.goals ≡ gives x₀.remaining
  accepted_walk q = (walk↔validates T₀ (reads_unique_rules t T₀ a.table_reads) x₀.term q x₀.goals x₀.remaining).1 a.validates

  pub outcome : on_proof forest_file t p ≡ done (forest_file T₀ x₀)
  unfolding on_proof checked and_then remaining_are
  outcome = rw (a.table_reads, a.proof_reads, accepted_walk (term_place x₀), equal_same x₀.remaining)

  pub writes_forest : (b w o : List ℕ) → forest_file T₀ x₀ ≡ b → flatten_work ≤ length w → length b ≤ length o → flatten t p w o ≡ wrote b w o
  unfolding flatten write_in write_out
  writes_forest b w o e h k = rw (outcome, e, le-ltb (length w) flatten_work h, le-ltb (length o) (length b) k)

-- the empty proof has no label
plain_empty : empty_proof ≡ plain empty_proof
unfolding empty_proof drop_labels
plain_empty = refl

module _ (t p : List ℕ) (table_bytes_lem : Bytes t) (proof-bytes : Bytes p) (a : Accepted t p) where
  abbrev T : Table
  T = a.the_table

  abbrev x : Proof
  x = a.the_proof

  abbrev trees : List Tree
  trees = forest T x.term x.goals

  abbrev pub d : Derivation
  d = derivation_of x trees

  unique : UniqueRules T
  unique = reads_unique_rules t T a.table_reads

  proof_within : ProofWithin x
  proof_within = read_within p x proof-bytes a.proof_reads

  walked : walk T x.term 0 x.goals ≡ gives x.remaining
  walked = accepted_walk t p a 0

  pub derives : Derives (HasRule T) x.goals (entries trees) []
  derives = (flat_walk↔derives T unique 0 x.goals (entries trees) []).0 (forest-right T x.term 0 x.goals x.remaining walked 0)

  open_leaves : leaves (entries trees) ≡ x.remaining
  open_leaves = forest-leaves T x.term 0 x.goals x.remaining walked

  within : FlatWithin d
  within = record {
    few_roots = proof_within.few_goals;
    root_values = proof_within.goal_values;
    few_uses = omega (arith, uses-counted (entries trees), forest_all_uses T x.term 0 x.goals x.remaining walked, atomics-fields x.term, proof_within.few_fields);
    few_opens = omega (arith, opens_counted (entries trees), ap (λ (h : List Goal). length h) open_leaves, proof_within.few_remaining);
    entry_values = derived_values T ((reads_table t T table_bytes_lem).0 a.table_reads).1.rules_within derives proof_within.goal_values;
  }

  pub reads : read_flat (flat_bytes d) ≡ gives d
  reads = flat_back d within

  -- without labels
  plain-within : ProofWithin (plain x)
  plain-within = record {
    few_goals = proof_within.few_goals;
    goal_values = proof_within.goal_values;
    hiproof = still_hiproof x.term proof_within.hiproof;
    few_fields = omega (arith, (no_more x.term).fewer_fields, proof_within.few_fields);
    term_values = plain_values x.term proof_within.term_values;
    few_remaining = proof_within.few_remaining;
    remaining_values = proof_within.remaining_values;
  }

  plain_reads : read_proof (plain_file p x) ≡ gives (plain x)
  unfolding plain_file
  plain_reads = by_bytes p a.proof_reads
    where
      by_bytes : (s : List ℕ) → read_proof s ≡ gives x → read_proof (plain_file s x) ≡ gives (plain x)
      by_bytes [] e = reads_none ∙ ap gives (plain_empty ∙ ap plain (same_value (sym reads_none ∙ e)))
      by_bytes (b ∷ s) e = proof_back_lem (plain x) plain-within

  plain_shorter : length (plain_file p x) + fields x.term * 5 ≡ length p + fields (plain x).term * 5
  unfolding plain_file remaining_place term_place
  plain_shorter = by_bytes p proof-bytes a.proof_reads
    where
      encoded : (s : List ℕ) → ProofFile s x → 0 < length s → length s ≡ length (proof_bytes x)
      encoded s (inl q) some = ap (λ (l : List ℕ). length l) q.0
      encoded s (inr q) some = absurd (omega (arith, some, ap (λ (l : List ℕ). length l) q.0))

      by_bytes : (s : List ℕ) → Bytes s → read_proof s ≡ gives x → length (plain_file s x) + fields x.term * 5 ≡ length s + fields (plain x).term * 5
      by_bytes [] bytes e = omega (arith, subst (λ (y : Proof). fields y.term ≡ fields (plain y).term) (same_value (sym reads_none ∙ e)) (ap (λ (y : Proof). fields y.term) plain_empty))
      by_bytes (b ∷ s) bytes e = omega (arith, encoded (b ∷ s) ((reads_proof (b ∷ s) x bytes).0 e) (omega arith), length-proof_bytes x, length-proof_bytes (plain x), five_each x.term)

  abbrev plain_accepted : Accepted t (plain_file p x)
  plain_accepted = record { the_table = T; the_proof = plain x; table_reads = a.table_reads; proof_reads = plain_reads; validates = unlabelled a.validates }

  pub file : forest_file T x ≡ flat_bytes d
  unfolding forest_file
  file = refl

  plain_file_lem : forest_file T (plain x) ≡ flat_bytes d
  unfolding forest_file
  plain_file_lem = ap (λ (f : List Tree). flat_bytes (derivation_of x f)) (unlabelled_same T x.term 0 x.goals x.remaining walked)

  flattened : FlattensRight t p a
  flattened = record {
    trees = trees;
    by_rules = (forest↔flattens T unique a.validates trees).0 refl;
    writes = λ w o h k. writes_forest t p a (flat_bytes d) w o file h k;
    reads_back = reads;
    is_right = record { the_table = T; the_derivation = d; table_reads = a.table_reads; flat_reads = reads; derives = derives };
    open_leaves = open_leaves;
    one_for_one = forest-uses T x.term 0 x.goals x.remaining walked;
    plain_reads = plain_reads;
    plain_shorter = plain_shorter;
    plain_accepted = plain_accepted;
    plain_flattens = λ w o h k. writes_forest t (plain_file p x) plain_accepted (flat_bytes d) w o plain_file_lem h k;
  }

pub flattens_right : Flattens-right
flattens_right t p table_bytes_lem proof-bytes a = flattened t p table_bytes_lem proof-bytes a

-- two calls on one proof are refused alike, whatever they give for an accepted one
data Alike {A B : Type 0} : Outcome A → Outcome B → Type 0 where
  both_done : (a : A) (b : B) → Alike (done a) (done b)
  both_refused : (c : Cause) (f q : ℕ) → Alike (refusal c f q 0) (refusal c f q 0)

module _ {A B : Type 0} (value : Table → Proof → A) (other : Table → Proof → B) where
  checked_alike : (T : Table) (x : Proof) → Alike (in_file other_file (checked T x (value T x)) done) (in_file other_file (checked T x (other T x)) done)
  unfolding checked and_then remaining_are
  checked_alike T x = by_walk (walk T x.term (term_place x) x.goals)
    where
      by_comparison : (b : Bool)
          → Alike (in_file other_file (cond b (gives (value T x)) (refused RemainingDiffer (remaining_place x))) done) (in_file other_file (cond b (gives (other T x)) (refused RemainingDiffer (remaining_place x))) done)
      by_comparison true = both_done (value T x) (other T x)
      by_comparison false = both_refused RemainingDiffer other_file (remaining_place x)

      by_walk : (r : Result (List Goal)) → Alike (in_file other_file (and_then r (remaining_are x (value T x))) done) (in_file other_file (and_then r (remaining_are x (other T x))) done)
      by_walk (gives h) = by_comparison (same_goals h x.remaining)
      by_walk (refused c q) = both_refused c other_file q

  alike : (t p : List ℕ) → Alike (on_proof value t p) (on_proof other t p)
  unfolding on_proof
  alike t p =
      both_in_file Alike table_file (read_table t) (λ c q e. both_refused c table_file q)
      (λ T. both_in_file Alike other_file (read_proof p) (λ c q e. both_refused c other_file q) (λ x. checked_alike T x))

refused_alike : (o : List ℕ) {c : Outcome Counts} {f : Outcome (List ℕ)} → Alike c f → ((counted_answer c).number ≡ 0 → ⊥) → (left_in o f).answer ≡ counted_answer c
unfolding write_out
refused_alike o (both_done a b) z = absurd (z refl)
refused_alike o (both_refused c f q) z = refl

pub flatten_refuses : Flatten-refuses
unfolding check flatten
flatten_refuses t p w v o h k z =
    let a = answered check_work w (on_proof proof_counts t p) h in
    ap (λ (x : Written). x.answer) (long_enough flatten_work v o (on_proof forest_file t p) k)
    ∙ refused_alike o (alike proof_counts forest_file t p) (λ e. z (ap (λ (x : Answer). x.number) a ∙ e))
    ∙ sym a

pub flatten_ends : Flatten-ends
unfolding flatten
flatten_ends t p w o = ends_written t p w o (InOther (CheckRefuses p)) flatten_work (on_proof forest_file t p) (written_ends (proof_comes forest_file t p))
