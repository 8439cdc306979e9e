-- What a file reads as stands in it, within the limits: each step of reading says what stands there and where the next begins.
-- Assumes nothing.
use mathlib.Core.Path.{◌≡◌, subst, ◌∙◌}
use mathlib.Core.List.{List}
use Prim.Native.Nat.{ℕ, ◌+◌, ◌*◌}
use native.Mathlib.Omega.{arith}
use lib.Dec.{eqb, ltb}
use lib.ListN.{length}
use borrow.Author.Tests.{eqb-true, ltb-false}
use Rattle.format.specs.Limits.{most_bytes}
use Rattle.format.specs.declared.refusals.Cause.TheVariants.{InputTooLong, LengthWrong}
use Rattle.format.specs.Results.{gives}
use Rattle.format.specs.Tags.{hiproof_kind, tactic_kind}
use Rattle.format.specs.Terms.{Term, size}
use Rattle.format.specs.ReadTerms.{read_term}
use Rattle.format.specs.Goals.{read_goals}
use Rattle.format.specs.Standing.{Stands}
use Rattle.format.proofs.ResultLaws.{and_gives, passed, kept, same_value}
use Rattle.format.proofs.ReadLaw.{read_gives}
use Rattle.format.proofs.GoalListBytes.{goals_stand}
use Rattle.files.specs.Proofs.{Proof, remaining_of, hiproof_of, proof_of, read_proof_fields, term_place, remaining_place, or_empty_proof, read_proof}
use Rattle.files.specs.Jobs.{Job, last_term_of, read_last_term, job_of, read_job}
use Rattle.files.specs.TermFiles.{read_term_file}
use Rattle.files.specs.Derivations.{Derivation, read_entries, derivation_of, read_flat, entries_place}
use Rattle.files.specs.Counts.{job_term_place}
use Rattle.files.specs.Standing.{EntriesStand, ProofStands, JobStands, TermFileStands, FlatStands}
use Rattle.files.proofs.EntriesLaw.{entries_found}
use Rattle.files.proofs.Files.{list_stands, begun}

module _ (s : List ℕ) where
  pub proof_stands : (p : Proof) → read_proof_fields s ≡ gives p → ProofStands s p
  unfolding read_proof_fields proof_of hiproof_of remaining_of term_place remaining_place
  proof_stands p e =
      let b = begun s (proof_of s) p e in
      let g = b.parsed in
      let t = and_gives (read_term (length s + 1) s hiproof_kind g.next (length s) 0) b.rest in
      let l = read_gives (length s + 1) s hiproof_kind (omega arith) g.next (length s) 0 (omega arith) t.0 t.1 in
      let r = and_gives (read_goals s t.0.next (length s)) t.2 in
      let m = goals_stand s t.0.next (length s) (omega arith) r.0 r.1 in
      let k = kept (eqb r.0.next (length s)) LengthWrong r.0.next _ r.2 in
      let at : g.next ≡ 3 + length g.goals * 2 = omega (arith, b.list.next_is) in
      let to : t.0.next ≡ 3 + length g.goals * 2 + size t.0.term = omega (arith, at, l.next_is) in
      subst (ProofStands s) (same_value k.1) (record {
        short = b.short;
        goals_stand = list_stands s 0 (length s) g b.list 0 (omega arith);
        term_stands = subst (λ (i : ℕ). Stands s i t.0.term) at l.stands;
        hiproof = l.plain (omega arith);
        few_fields = omega (arith, l.count_is, l.room);
        remaining_stand = list_stands s t.0.next (length s) r.0 m _ to;
        end_is = omega (arith, to, m.next_is, eqb-true r.0.next (length s) k.0);
      })

  pub job_stands : (j : Job) → read_job s ≡ gives j → JobStands s j
  unfolding read_job job_of read_last_term last_term_of job_term_place
  job_stands j e =
      let b = begun s (job_of s) j e in
      let g = b.parsed in
      let u = and_gives (read_last_term s tactic_kind g.next) b.rest in
      let t = and_gives (read_term (length s + 1) s tactic_kind g.next (length s) 0) u.1 in
      let l = read_gives (length s + 1) s tactic_kind (omega arith) g.next (length s) 0 (omega arith) t.0 t.1 in
      let k = kept (eqb t.0.next (length s)) LengthWrong t.0.next _ t.2 in
      let at : g.next ≡ 3 + length g.goals * 2 = omega (arith, b.list.next_is) in
      subst (JobStands s) ((λ i. record { goals = g.goals; term = same_value k.1 i }) ∙ same_value u.2) (record {
        short = b.short;
        goals_stand = list_stands s 0 (length s) g b.list 0 (omega arith);
        term_stands = subst (λ (i : ℕ). Stands s i t.0.term) at l.stands;
        few_fields = omega (arith, l.count_is, l.room);
        end_is = omega (arith, at, l.next_is, eqb-true t.0.next (length s) k.0);
      })

  pub term_file_stands : (t : Term) → read_term_file s ≡ gives t → TermFileStands s t
  unfolding read_term_file read_last_term last_term_of
  term_file_stands t e =
      let p = passed (ltb most_bytes (length s)) InputTooLong 0 _ e in
      let u = and_gives (read_term (length s + 1) s tactic_kind 0 (length s) 0) p.1 in
      let l = read_gives (length s + 1) s tactic_kind (omega arith) 0 (length s) 0 (omega arith) u.0 u.1 in
      let k = kept (eqb u.0.next (length s)) LengthWrong u.0.next _ u.2 in
      subst (TermFileStands s) (same_value k.1) (record {
        short = ltb-false most_bytes (length s) p.0;
        term_stands = l.stands;
        few_fields = omega (arith, l.count_is, l.room);
        end_is = omega (arith, l.next_is, eqb-true u.0.next (length s) k.0);
      })

  pub flat_stands : (d : Derivation) → read_flat s ≡ gives d → FlatStands s d
  unfolding read_flat derivation_of entries_place
  flat_stands d e =
      let b = begun s (derivation_of s) d e in
      let g = b.parsed in
      let u = and_gives (read_entries (length s + 1) s g.next 0 0) b.rest in
      let at : g.next ≡ 3 + length g.goals * 2 = omega (arith, b.list.next_is) in
      let f = entries_found (length s + 1) s g.next 0 0 b.list.within u.0 u.1 in
      subst (FlatStands s) (same_value u.2) (record {
        short = b.short;
        roots_stand = list_stands s 0 (length s) g b.list 0 (omega arith);
        entries_stand = subst (λ (i : ℕ). EntriesStand s i (length s) u.0) at f.stand;
        few_uses = omega (arith, f.few_uses (omega arith));
        few_opens = omega (arith, f.few_opens (omega arith));
      })

-- of a proof file, in the bytes that are read of it
pub read_stands : (s : List ℕ) (p : Proof) → read_proof s ≡ gives p → ProofStands (or_empty_proof s) p
unfolding read_proof
read_stands s p e = proof_stands (or_empty_proof s) p e
