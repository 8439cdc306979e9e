-- The promises of P6: the count of a proof and of a derivation is that of their sets by `Used`; a forest uses the rules of its walk, by hitac's `UsedRuleLaws`, and both ways of writing a file keep it.
-- Assumes nothing.
use Prim.Native.Nat.{ℕ, ◌≤◌, ◌<◌}
use native.Mathlib.Omega.{arith}
use native.Mathlib.Decide.{dec_lt}
use mathlib.Core.Path.{◌≡◌, refl, sym, subst, ap, ◌∙◌}
use mathlib.Core.List.{List, []}
use lib.ListN.{length}
use Rattle.format.specs.declared.values.Goal.{Goal}
use Rattle.format.specs.Limits.{most_entries}
use Rattle.format.specs.declared.refusals.Cause.TheVariants.{EntriesTooMany}
use Rattle.format.specs.Results.{gives}
use Rattle.rule_set.specs.Different.{different, SetSize}
use Rattle.tables.specs.Tables.{Table, HasRule}
use Rattle.tables.specs.ReadTables.{read_table}
use Rattle.tables.proofs.ReadsTable.{reads_unique_rules}
use Rattle.tables.proofs.RuleLookup.{found↔numbered}
use Rattle.files.specs.Derivations.{Derivation, Entry, read_flat, flat_bytes, entries_place}
use Rattle.files.specs.Proofs.{Proof, read_proof, proof_bytes}
use Rattle.hitac.specs.Validates.{AtMost256, Validates}
use Rattle.hitac.specs.Derives.{Derives}
use Rattle.hitac.specs.Counts.{uses, every_use}
use Rattle.hitac.specs.Forest.{leaves, entries, forest}
use Rattle.hitac.specs.UsedRules.{flat_rules}
use Rattle.hitac.proofs.Flatten.{forest-leaves, forest_all_uses}
use Rattle.hitac.proofs.WalkValidates.{walk↔validates}
use Rattle.hitac.proofs.ForestUsedRules.{forest-different}
use Rattle.hitac.proofs.Written.{written-forest}
use Rattle.answers.specs.declared.Answer.{Answer}
use Rattle.answers.specs.Answers as answer
use Rattle.entries.specs.Outcomes.{refusal, other_file}
use Rattle.entries.specs.LentSpace.{write_in}
use Rattle.entries.specs.Check.{forest_file, check_work, flatten_work, check, flatten}
use Rattle.entries.specs.CheckFlat.{write_outcome, check_flat_work, write_proof_work, check_flat, write_proof}
use Rattle.promises.specs.Accepted.{Accepted}
use Rattle.promises.specs.Right.{Right}
use Rattle.promises.specs.Used.{UsedIn, UsedFlat}
use Rattle.promises.specs.RulesPromises.{Rules-numbered, Rules-used, Rules-flat, FewRules, Rules-few, CountedAlike, Rules-alike, Rules-back}
use Rattle.promises.proofs.Used.{six, used-uses, used_table, flat_uses, flat_table}
use Rattle.promises.proofs.LentLaws.{never_wrote, wrote_bytes}
use Rattle.promises.proofs.CheckPromises.{check_answers, check-counts}
use Rattle.promises.proofs.CheckFlatPromises.{check_flat_answers, check_flat-counts}
use Rattle.promises.proofs.WriteProofPromises as back
use Rattle.promises.proofs.FlattenPromises as flat

pub rules_numbered : Rules-numbered
rules_numbered t T e a γ n h = found↔numbered T a γ (six t T e) n h

pub rules_used : Rules-used
rules_used t p w h a =
    let (k, s, e) = check-counts t p w h a in
    subst (λ (j : ℕ). SetSize (UsedIn a.the_table a.the_proof) j) (sym (ap (λ (x : Answer). x.rules) e)) s

pub rules_flat : Rules-flat
rules_flat t f w h r =
    let (k, s, e) = check_flat-counts t f w h r in
    subst (λ (j : ℕ). SetSize (UsedFlat r.the_table r.the_derivation) j) (sym (ap (λ (x : Answer). x.rules) e)) s

few_used : (t p w : List ℕ) → check_work ≤ length w → (a : Accepted t p) → FewRules a.the_table (check t p w).answer
few_used t p w h a =
    let e = check_answers t p w h a in
    let u = ap (λ (x : Answer). x.uses) e in
    let r = ap (λ (x : Answer). x.rules) e in
    record { within_uses = omega (arith, u, r, used-uses a.the_table a.the_proof); within_table = omega (arith, r, used_table a.the_table a.the_proof) }

few_flat : (t f w : List ℕ) → check_flat_work ≤ length w → (r : Right t f) → FewRules r.the_table (check_flat t f w).answer
few_flat t f w h r =
    let e = check_flat_answers t f w h r in
    let es = r.the_derivation.entries in
    let u = ap (λ (x : Answer). x.uses) e in
    let k = ap (λ (x : Answer). x.rules) e in
    record { within_uses = omega (arith, u, k, flat_uses r.the_table es); within_table = omega (arith, k, flat_table r.the_table es) }

pub rules_few : Rules-few
rules_few = (few_used, few_flat)

-- a proof that is accepted, and a right derivation of which the entries are those of the proof's forest
module _ (t p f : List ℕ) (T : Table) (x : Proof) (d : Derivation) (table_reads : read_table t ≡ gives T) (proof_reads : read_proof p ≡ gives x) (flat_reads : read_flat f ≡ gives d) where
  alike : Validates (HasRule T) AtMost256 x.term x.goals x.remaining → Derives (HasRule T) d.roots d.entries [] → entries (forest T x.term x.goals) ≡ d.entries → CountedAlike t p f
  alike validates derives same w v h k =
      let c = check_answers t p w h (record { the_table = T; the_proof = x; table_reads = table_reads; proof_reads = proof_reads; validates = validates }) in
      let g = check_flat_answers t f v k (record { the_table = T; the_derivation = d; table_reads = table_reads; flat_reads = flat_reads; derives = derives }) in
      let walked = (walk↔validates T (reads_unique_rules t T table_reads) x.term 0 x.goals x.remaining).1 validates in
      let u : uses every_use d.entries ≡ (check t p w).answer.uses =
      ap (λ (es : List Entry). uses every_use es) (sym same) ∙ forest_all_uses T x.term 0 x.goals x.remaining walked ∙ sym (ap (λ (b : Answer). b.uses) c) in
      let o : length (leaves d.entries) ≡ (check t p w).answer.remaining =
      ap (λ (es : List Entry). length (leaves es)) (sym same) ∙ ap (λ (l : List Goal). length l) (forest-leaves T x.term 0 x.goals x.remaining walked) ∙ sym (ap (λ (b : Answer). b.remaining) c) in
      let r : different (flat_rules T d.entries) ≡ (check t p w).answer.rules =
      ap (λ (es : List Entry). different (flat_rules T es)) (sym same) ∙ forest-different T x.term 0 x.goals x.remaining walked ∙ sym (ap (λ (b : Answer). b.rules) c) in
      g ∙ (λ i. answer.counted 0 (u i) (o i) (r i))

pub rules_alike : Rules-alike
unfolding flatten
rules_alike t p table_bytes_lem proof-bytes a f v o e =
    let d = flat.d t p table_bytes_lem proof-bytes a in
    let same : flat_bytes d ≡ f =
    sym (flat.file t p table_bytes_lem proof-bytes a)
    ∙ wrote_bytes flatten_work v o f (forest_file a.the_table a.the_proof) (sym (ap (write_in flatten_work v o) (flat.outcome t p a)) ∙ e) in
    alike t p f a.the_table a.the_proof d a.table_reads a.proof_reads (ap read_flat (sym same) ∙ flat.reads t p table_bytes_lem proof-bytes a) a.validates (flat.derives t p table_bytes_lem proof-bytes a) refl

-- a derivation of over 2,048 entries is not written
too_many : (t f : List ℕ) (r : Right t f) → most_entries < length r.the_derivation.entries → write_outcome t f ≡ refusal EntriesTooMany other_file 0 0
unfolding write_outcome
too_many t f r l = rw (r.table_reads, r.flat_reads, back.too_many t f r.the_table r.the_derivation r.flat_reads l)

pub rules_back : Rules-back
unfolding write_proof
rules_back t f bytes r p v o e = by_entries (dec_lt most_entries (length r.the_derivation.entries))
  where
    few : length r.the_derivation.entries ≤ 2048 → CountedAlike t p f
    few l =
        let x = back.p t f bytes r l in
        let d = r.the_derivation in
        let same : proof_bytes x ≡ p = wrote_bytes write_proof_work v o p (proof_bytes x) (sym (ap (write_in write_proof_work v o) (back.outcome t f bytes r l)) ∙ e) in
        alike t p f r.the_table x d
        r.table_reads
        (ap read_proof (sym same) ∙ back.reads t f bytes r l)
        r.flat_reads
        (back.validates t f bytes r l)
        r.derives
        (written-forest r.the_table (entries_place d) d.roots d.entries (back.walks t f bytes r l) (back.few_leaves t f bytes r l))

    by_entries : Dec (most_entries < length r.the_derivation.entries) → CountedAlike t p f
    by_entries (yes l) = absurd (never_wrote write_proof_work v o p EntriesTooMany other_file 0 0 (sym (ap (write_in write_proof_work v o) (too_many t f r l)) ∙ e))
    by_entries (no l) = few (omega arith)
