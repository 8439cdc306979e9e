-- Where files are refused: each step of reading is refused within the file, with a number from 2 to 5; 1 comes before them all.
-- Assumes nothing.
use mathlib.Core.Path.{◌≡◌, sym, ◌∙◌}
use mathlib.Core.Bool.{Bool, true, false, cond}
use mathlib.Core.List.{List, [], ◌∷◌}
use Prim.Native.Nat.{ℕ, ◌+◌, ◌≤◌, ◌<◌}
use native.Mathlib.Omega.{arith}
use lib.Dec.{eqb}
use lib.ListN.{length}
use Rattle.format.specs.declared.refusals.Cause.{Cause}
use Rattle.format.specs.declared.refusals.Cause.TheVariants.{LengthWrong}
use Rattle.format.specs.Refusals.{number}
use Rattle.format.specs.Results.{gives, refused}
use Rattle.format.specs.Tags.{hiproof_kind, tactic_kind}
use Rattle.format.proofs.ResultLaws.{never_gives}
use Rattle.format.proofs.ReadLaw.{read_gives}
use Rattle.format.proofs.GoalListBytes.{goals_stand}
use Rattle.format.proofs.RefusedPlace.{RefusedWithin, steps, further, goals_place, term_place_lem}
use Rattle.files.specs.Proofs.{remaining_of, hiproof_of, proof_of, read_proof_fields, read_proof}
use Rattle.files.specs.Jobs.{last_term_of, read_last_term, job_of, read_job}
use Rattle.files.specs.TermFiles.{read_term_file}
use Rattle.files.specs.Derivations.{derivation_of, read_flat}
use Rattle.files.specs.RefusedFiles.{FileRefusal}
use Rattle.files.proofs.EntriesLaw.{entries_place_lem}
use Rattle.files.proofs.Files.{size_refused, refused_at}
use Rattle.files.proofs.EmptyProof.{read_itself}
use Rattle.files.proofs.ReadsProof.{reads_none}

-- bytes left behind the last field, the first of them within the file
left : {A : Type 0} (s : List ℕ) (b : Bool) (a : A) (next : ℕ) → next ≤ length s → RefusedWithin 0 (length s) (cond b (gives a) (refused LengthWrong next))
unfolding RefusedWithin number
left s true a next h = tt
left s false a next h = record { above = omega arith; below = h; least = omega arith; most = omega arith }

-- a value is no refusal
value : {A : Type 0} (s : List ℕ) (a : A) → RefusedWithin 0 (length s) (gives a)
unfolding RefusedWithin
value s a = tt

module _ (s : List ℕ) where
  pub Fields-refused : (c : Cause) (p : ℕ) → read_proof_fields s ≡ refused c p → FileRefusal s c p
  unfolding read_proof_fields proof_of hiproof_of remaining_of
  Fields-refused =
      refused_at s (proof_of s) (λ g h.
      steps 0 (length s) _ _ (further g.next (length s) (length s) 0 (omega arith) (omega arith) _ (term_place_lem (length s + 1) s hiproof_kind (omega arith) g.next (length s) 0 h.within (omega arith))) (λ t e.
      let l = read_gives (length s + 1) s hiproof_kind (omega arith) g.next (length s) 0 (omega arith) t e in
      steps 0 (length s) _ _ (further t.next t.next (length s) 0 (omega arith) l.within _ (goals_place s t.next (length s))) (λ r q.
      left s (eqb r.next (length s)) _ r.next (goals_stand s t.next (length s) (omega arith) r q).within)))

  -- a file of no bytes is not refused
  pub Proof-refused : (c : Cause) (p : ℕ) → read_proof s ≡ refused c p → FileRefusal s c p
  Proof-refused c p e = Fields-refused c p (sym (read_itself s some) ∙ e)
    where
      go : (l : List ℕ) → read_proof l ≡ refused c p → 0 < length l
      go [] f = never_gives (sym f ∙ reads_none)
      go (b ∷ l) f = omega arith

      some : 0 < length s
      some = go s e

  -- the term that ends a file
  last_term_within : (at : ℕ) → at ≤ length s → RefusedWithin 0 (length s) (read_last_term s tactic_kind at)
  unfolding read_last_term last_term_of
  last_term_within at h =
      steps 0 (length s) _ _ (further at (length s) (length s) 0 (omega arith) (omega arith) _ (term_place_lem (length s + 1) s tactic_kind (omega arith) at (length s) 0 h (omega arith))) (λ t e.
      left s (eqb t.next (length s)) _ t.next (read_gives (length s + 1) s tactic_kind (omega arith) at (length s) 0 (omega arith) t e).within)

  pub Job-refused : (c : Cause) (p : ℕ) → read_job s ≡ refused c p → FileRefusal s c p
  unfolding read_job job_of
  Job-refused = refused_at s (job_of s) (λ g h. steps 0 (length s) _ _ (last_term_within g.next h.within) (λ t e. value s _))

  pub TermFile-refused : (c : Cause) (p : ℕ) → read_term_file s ≡ refused c p → FileRefusal s c p
  unfolding read_term_file
  TermFile-refused = size_refused s (read_last_term s tactic_kind 0) (last_term_within 0 (omega arith))

  pub Flat-refused : (c : Cause) (p : ℕ) → read_flat s ≡ refused c p → FileRefusal s c p
  unfolding read_flat derivation_of
  Flat-refused =
      refused_at s (derivation_of s) (λ g h.
      steps 0 (length s) _ _ (further g.next (length s) (length s) 0 (omega arith) (omega arith) _ (entries_place_lem (length s + 1) s g.next 0 0 h.within)) (λ es e. value s _))
