-- Reading a proof file, by what the code tells of its two lists and its term: one law for each way in which its reading ends.
-- Assumes nothing.
use Rattle.std.specs.Prelude.{Ok}
use Rattle.std.specs.Prelude as std
use mathlib.Core.Path.{◌≡◌, ap, ◌∙◌}
use mathlib.Core.List.{List}
use Prim.Native.Nat.{ℕ, ◌+◌}
use native.Mathlib.Omega.{arith}
use lib.ListN.{length}
use borrow.Author.Tests.{eq-eqb, ne_eqb}
use Rattle.format.specs.declared.values.Goal.{Goal}
use Rattle.format.specs.GoalsRead as G
use Rattle.format.specs.TermRead as T
use Rattle.format.specs.declared.refusals.Cause.{Cause}
use Rattle.format.specs.declared.refusals.Cause.TheVariants.{LengthWrong}
use Rattle.format.specs.declared.refusals.Refusal.{Refusal}
use Rattle.format.specs.Results.{and_then, told, refused_at}
use Rattle.format.specs.Inputs.{of_size}
use Rattle.format.specs.Tags.{hiproof_kind}
use Rattle.format.specs.Terms.{Term, size}
use Rattle.format.specs.ReadTerms.{read_term}
use Rattle.format.specs.Goals.{read_goals}
use Rattle.format.specs.Shapes.{goals_shape, term_shape}
use Rattle.format.proofs.ReadLaw.{read_gives}
use Rattle.files.specs.declared.proofs.ProofParts.{ProofParts}
use Rattle.files.specs.Proofs.{Proof, remaining_of, hiproof_of, proof_of, read_proof_fields, term_place, remaining_place}
use Rattle.files.specs.Shapes.{proof_parts, parts_of, proof_shape}
use Rattle.files.proofs.ToldLaws.{Pair, first_refused, first_read, goals_tell, goals_kept, term_tells, term_kept, of_size_and, stated_end}

-- what the code tells of a proof
abbrev parts : Proof → std.Result ProofParts Refusal
parts p = Ok (parts_of p)

same_parts : {a b c d a' b' c' d' : ℕ} → a ≡ a' → b ≡ b' → c ≡ c' → d ≡ d' → ◌≡◌ {A = std.Result ProofParts Refusal} (Ok (proof_parts a b c d)) (Ok (proof_parts a' b' c' d'))
same_parts p q r t = λ i. Ok (proof_parts (p i) (q i) (r i) (t i))

module _ (s : List ℕ) where
  proof_steps : read_proof_fields s ≡ and_then (of_size s (read_goals s 0 (length s))) (proof_of s)
  unfolding read_proof_fields
  proof_steps = of_size_and s (read_goals s 0 (length s)) (proof_of s)

  pub stated_refused : (k : Cause) (p : ℕ) → goals_shape (of_size s (read_goals s 0 (length s))) ≡ G.Refused k p → proof_shape (read_proof_fields s) ≡ refused_at k p
  unfolding proof_shape goals_shape
  stated_refused k p e = rw proof_steps (first_refused goals_tell goals_kept refused_at parts (proof_of s) _ k p e)

  -- n goals are stated, and behind them, at `to`, stands what follows
  module _ (n to : ℕ) (stated : goals_shape (of_size s (read_goals s 0 (length s))) ≡ G.Read n to) where
    pub hiproof_refused : (k : Cause) (p : ℕ) → term_shape (read_term (length s + 1) s hiproof_kind to (length s) 0) ≡ T.Refused k p → proof_shape (read_proof_fields s) ≡ refused_at k p
    unfolding proof_shape goals_shape term_shape proof_of
    hiproof_refused k p e =
        rw proof_steps
        (first_read goals_tell goals_kept refused_at parts (proof_of s) _ (n, to) _ stated (λ g given kept.
        first_refused term_tells term_kept refused_at parts (hiproof_of s g.goals) _ k p (rw (ap (λ (q : Pair). q.1) kept) e)))

    -- a term of m fields stands there, and behind it, at `rest`, stands the last list
    module _ (rest m : ℕ) (hiproof : term_shape (read_term (length s + 1) s hiproof_kind to (length s) 0) ≡ T.Read rest m) where
      behind : (y : std.Result ProofParts Refusal) → ((g : List Goal) (t : Term) → length g ≡ n → to + size t ≡ rest → proof_shape (and_then (read_goals s rest (length s)) (remaining_of s g t)) ≡ y) → proof_shape (read_proof_fields s) ≡ y
      unfolding proof_shape goals_shape term_shape proof_of hiproof_of
      behind y h =
          rw proof_steps
          (first_read goals_tell goals_kept refused_at parts (proof_of s) _ (n, to) y stated (λ g given kept.
          let count : length g.goals ≡ n = ap (λ (q : Pair). q.0) kept in
          let at : g.next ≡ to = ap (λ (q : Pair). q.1) kept in
          first_read term_tells term_kept refused_at parts (hiproof_of s g.goals) _ (rest, m) y (rw at hiproof) (λ t read held.
          let l = read_gives (length s + 1) s hiproof_kind (omega arith) g.next (length s) 0 (omega arith) t read in
          let next : t.next ≡ rest = ap (λ (q : Pair). q.0) held in
          rw next (h g.goals t.term count (omega (arith, l.next_is, at, next))))))

      pub list_refused : (k : Cause) (p : ℕ) → goals_shape (read_goals s rest (length s)) ≡ G.Refused k p → proof_shape (read_proof_fields s) ≡ refused_at k p
      unfolding proof_shape goals_shape
      list_refused k p e = behind _ (λ g t count size. first_refused goals_tell goals_kept refused_at parts (remaining_of s g t) _ k p e)

      pub bytes_left : (j next : ℕ) → goals_shape (read_goals s rest (length s)) ≡ G.Read j next → (next ≡ length s → ⊥) → proof_shape (read_proof_fields s) ≡ refused_at LengthWrong next
      unfolding proof_shape goals_shape remaining_of told
      bytes_left j next e f =
          behind _ (λ g t count size.
          first_read goals_tell goals_kept refused_at parts (remaining_of s g t) _ (j, next) _ e (λ h given kept.
          let to-next : h.next ≡ next = ap (λ (q : Pair). q.1) kept in
          simp (to-next, ne_eqb next (length s) f)))

      pub proof_read : (j next : ℕ) → goals_shape (read_goals s rest (length s)) ≡ G.Read j next → next ≡ length s → proof_shape (read_proof_fields s) ≡ Ok (proof_parts n to rest j)
      unfolding proof_shape goals_shape remaining_of told parts_of term_place remaining_place
      proof_read j next e f =
          let place = (stated_end s n to stated).0 in
          behind _ (λ g t count size.
          first_read goals_tell goals_kept refused_at parts (remaining_of s g t) _ (j, next) _ e (λ h given kept.
          rw (eq-eqb h.next (length s) (ap (λ (q : Pair). q.1) kept ∙ f))
          (same_parts count (omega (arith, count, place)) (omega (arith, count, place, size)) (ap (λ (q : Pair). q.0) kept))))
