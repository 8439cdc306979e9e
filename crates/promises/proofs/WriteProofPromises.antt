-- The promises of write_proof: the written proof is within the limits, so it reads back; its walk and its forest are those of `Written` in hitac.
-- Assumes nothing.
use Prim.Native.Nat.{ℕ, ◌+◌, ◌*◌, ◌-◌, ◌≤◌, ◌<◌}
use native.Mathlib.Omega.{arith}
use native.Mathlib.Decide.{dec_lt}
use mathlib.Core.Path.{◌≡◌, refl, sym, subst, ap, ◌∙◌}
use mathlib.Core.Logic.{inl, inr}
use mathlib.Core.List.{List, [], ◌∷◌}
use lib.ListN.{length}
use borrow.Author.Tests.{lt-ltb, le-ltb}
use Rattle.format.specs.declared.values.Goal.{Goal}
use Rattle.format.specs.Encoding.{Bytes}
use Rattle.format.specs.Limits.{most_entries}
use Rattle.format.specs.declared.refusals.Cause.{Cause}
use Rattle.format.specs.declared.refusals.Cause.TheVariants.{EntriesTooMany}
use Rattle.format.specs.Refusals.{number}
use Rattle.format.proofs.ResultLaws.{same_place, same_cause}
use Rattle.format.specs.Results.{Result, gives, refused, and_then}
use Rattle.format.specs.Terms.{Term, fields}
use Rattle.tables.specs.Tables.{Table, HasRule, UniqueRules}
use Rattle.tables.specs.ReadTables.{read_table}
use Rattle.tables.proofs.ReadsTable.{reads_unique_rules}
use Rattle.files.specs.Derivations.{Derivation, Entry, read_flat, flat_bytes, entries_place}
use Rattle.files.specs.Proofs.{Proof, read_proof, proof_bytes, term_place}
use Rattle.files.specs.Within.{ProofWithin, FlatWithin}
use Rattle.files.proofs.RefusedFiles.{Flat-refused}
use Rattle.files.proofs.ReadsProof.{proof_back_lem}
use Rattle.files.proofs.ReadsFlat.{reads_flat}
use Rattle.hitac.specs.Derives.{Derives}
use Rattle.hitac.specs.FlatWalk.{flat_walk}
use Rattle.hitac.specs.Forest.{leaves, entries, forest}
use Rattle.hitac.specs.Validates.{AtMost256, Validates}
use Rattle.hitac.specs.Walk.{walk}
use Rattle.hitac.specs.Write.{tree_terms, written}
use Rattle.hitac.specs.Writes.{Writes}
use Rattle.hitac.proofs.EntryCounts.{opens_counted}
use Rattle.hitac.proofs.FlatWalks.{flat_walk↔derives}
use Rattle.hitac.proofs.ValidatesLaws.{validates_hiproof}
use Rattle.hitac.proofs.WalkValidates.{walk↔validates}
use Rattle.hitac.proofs.Written.{written-walk, written-forest, written-fields}
use Rattle.hitac.proofs.WrittenRules.{written↔writes}
use Rattle.entries.specs.Outcomes.{done}
use Rattle.entries.specs.LentSpace.{write_out, write_in}
use Rattle.entries.specs.Check.{remaining_are, checked, on_proof, forest_file, flatten_work, flatten}
use Rattle.entries.specs.CheckFlat.{none_pending, right, written_proof, written_file, write_outcome, write_proof_work, write_proof}
use Rattle.entries.proofs.SameGoals.{equal_same}
use Rattle.promises.specs.Accepted.{Accepted}
use Rattle.promises.specs.Right.{Right}
use Rattle.promises.specs.Ended.{InOther}
use Rattle.promises.specs.WriteProofPromises.{wrote, proof_of, WritesBack, Writes-back, WriteRefuses, Write-ends}
use Rattle.promises.proofs.WrittenWithin.{written_values, leaf_values}
use Rattle.promises.proofs.LentLaws.{ends_written}
use Rattle.promises.proofs.OutcomeLaws.{comes, written_ends}
use Rattle.promises.proofs.CheckFlatPromises.{right_refuses}

module _ (t f : List ℕ) (bytes : Bytes f) (r : Right t f) (few : length r.the_derivation.entries ≤ 2048) where
  abbrev T : Table
  T = r.the_table

  abbrev d : Derivation
  d = r.the_derivation

  abbrev u : Term
  u = written T d.entries

  abbrev pub p : Proof
  p = proof_of d u

  unique : UniqueRules T
  unique = reads_unique_rules t T r.table_reads

  -- the file is the derivation's bytes, within the limits
  stands : (f ≡ flat_bytes d) × FlatWithin d
  stands = (reads_flat f d bytes).0 r.flat_reads

  pub few_leaves : length (leaves d.entries) ≤ 256
  few_leaves = omega (arith, opens_counted d.entries, stands.1.few_opens)

  pub walks : flat_walk T (entries_place d) d.roots d.entries ≡ gives []
  walks = (flat_walk↔derives T unique (entries_place d) d.roots d.entries []).1 r.derives

  by_rules : Writes (HasRule T) d.roots d.entries u
  by_rules = (written↔writes T unique d.roots d.entries u).0 (r.derives, refl)

  takes : (q : ℕ) → walk T u q d.roots ≡ gives (leaves d.entries)
  takes = written-walk T (entries_place d) d.roots d.entries walks few_leaves

  pub validates : Validates (HasRule T) AtMost256 u d.roots (leaves d.entries)
  validates = (walk↔validates T unique u 0 d.roots (leaves d.entries)).0 (takes 0)

  -- "One or more entries e make 2e − 1 term fields", and no entries make one
  one_field : fields (written T []) ≡ 1
  unfolding written tree_terms fields
  one_field = refl

  few_fields : (es : List Entry) → d.entries ≡ es → fields u ≤ 4096
  few_fields [] e = subst (λ (x : List Entry). fields (written T x) ≤ 4096) (sym e) (omega (arith, one_field))
  few_fields (x ∷ es) e = omega (arith, few, written-fields T (entries_place d) d.roots d.entries walks few_leaves (subst (λ (y : List Entry). 0 < length y) (sym e) (omega arith)))

  within : ProofWithin p
  within = record {
    few_goals = stands.1.few_roots;
    goal_values = stands.1.root_values;
    hiproof = validates_hiproof validates;
    few_fields = few_fields d.entries refl;
    term_values = written_values by_rules stands.1.entry_values;
    few_remaining = few_leaves;
    remaining_values = leaf_values d.entries stands.1.entry_values;
  }

  pub reads : read_proof (proof_bytes p) ≡ gives p
  reads = proof_back_lem p within

  -- the call
  pub outcome : write_outcome t f ≡ done (proof_bytes p)
  unfolding write_outcome written_file right and_then none_pending written_proof
  outcome = rw (r.table_reads, r.flat_reads, le-ltb most_entries (length d.entries) few, walks)

  result : (w o : List ℕ) → write_proof_work ≤ length w → length (proof_bytes p) ≤ length o → write_proof t f w o ≡ wrote (proof_bytes p) w o
  unfolding write_proof write_in write_out
  result w o h k = rw (outcome, le-ltb (length w) write_proof_work h, le-ltb (length o) (length (proof_bytes p)) k)

  -- and back
  same_file : forest_file T p ≡ f
  unfolding forest_file
  same_file = ap (λ (es : List Entry). flat_bytes (record { roots = d.roots; entries = es })) (written-forest T (entries_place d) d.roots d.entries walks few_leaves) ∙ sym stands.0

  flat_outcome : on_proof forest_file t (proof_bytes p) ≡ done f
  unfolding on_proof checked and_then remaining_are
  flat_outcome = rw (r.table_reads, reads, takes (term_place p), equal_same (leaves d.entries), same_file)

  flattens : (w o : List ℕ) → flatten_work ≤ length w → length f ≤ length o → flatten t (proof_bytes p) w o ≡ wrote f w o
  unfolding flatten write_in write_out
  flattens w o h k = rw (flat_outcome, le-ltb (length w) flatten_work h, le-ltb (length o) (length f) k)

  back : WritesBack t f r
  back = record {
    term = u;
    by_rules = by_rules;
    result = result;
    reads_back = reads;
    accepted = record { the_table = T; the_proof = p; table_reads = r.table_reads; proof_reads = reads; validates = validates };
    flattens = flattens;
    term_fields = written-fields T (entries_place d) d.roots d.entries walks few_leaves;
  }

pub writes_back : Writes-back
writes_back t f bytes r few = back t f bytes r few

-- demand 1
module _ (t f : List ℕ) (T : Table) (d : Derivation) (g : read_flat f ≡ gives d) where
  pub too_many : most_entries < length d.entries → written_file T d (length f) ≡ refused EntriesTooMany 0
  unfolding written_file
  too_many h = rw (lt-ltb most_entries (length d.entries) h)

  enough : length d.entries ≤ most_entries → written_file T d (length f) ≡ right T d (length f) (proof_bytes (written_proof T d))
  unfolding written_file
  enough h = rw (le-ltb most_entries (length d.entries) h)

  number_28 : number EntriesTooMany ≡ 28
  unfolding number
  number_28 = refl

  own : Dec (most_entries < length d.entries) → (c : Cause) (q : ℕ) → written_file T d (length f) ≡ refused c q → WriteRefuses f (number c) q
  own (yes h) c q e = let m = sym (too_many h) ∙ e in inl (ap number (sym (same_cause m)) ∙ number_28, sym (same_place m))
  own (no h) c q e = inr (right_refuses f T d g (proof_bytes (written_proof T d)) (flat_walk T (entries_place d) d.roots d.entries) refl c q (sym (enough (omega arith)) ∙ e))

pub write_ends : Write-ends
unfolding write_proof write_outcome
write_ends t f w o =
    ends_written t f w o (InOther (WriteRefuses f)) write_proof_work (write_outcome t f)
    (written_ends
    (comes t f (WriteRefuses f) (read_flat f) (λ T d. written_file T d (length f)) (λ c q e. Flat-refused f c q e)
    (λ T d e g c q h. own t f T d g (dec_lt most_entries (length d.entries)) c q h)))
