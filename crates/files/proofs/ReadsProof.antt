-- READING A PROOF: a file of bytes reads as a proof exactly if it is the proof's bytes and the proof is within the limits, or has no bytes and the proof is the empty one. What stands in the file is the encoding, part by part; and each part is read from its encoding.
-- Assumes nothing.
use mathlib.Core.Path.{◌≡◌, refl, sym, ap, subst, ◌∙◌}
use mathlib.Core.Logic.{◌⊎◌, inl, inr, ◌↔◌}
use mathlib.Core.List.{List, [], ◌∷◌, ◌++◌, append-nil, append_assoc}
use Prim.Native.Nat.{ℕ, ◌+◌, ◌*◌, ◌≤◌, ◌<◌}
use native.Mathlib.Omega.{arith}
use lib.ListN.{length, drop}
use lib.Seq.{drop-length}
use borrow.Author.Tests.{eq-eqb}
use Rattle.format.specs.Results.{gives, and_then}
use Rattle.format.specs.Tags.{hiproof_kind}
use Rattle.format.specs.Terms.{size, fields, Hiproof}
use Rattle.format.specs.Encoding.{Bytes, GoalValues, TermValues, term_bytes, goal_list_bytes}
use Rattle.format.proofs.ResultLaws.{same_value}
use Rattle.format.proofs.Encoded.{term_bytes_lem}
use Rattle.format.proofs.TermBytes.{values_stand, bytes_read}
use Rattle.format.proofs.GoalListBytes.{list_bytes, list_read}
use Rattle.format.proofs.EncodedBytes.{append_bytes, list_is_bytes, term_is_bytes}
use Rattle.files.specs.Proofs.{Proof, remaining_of, hiproof_of, proof_of, read_proof_fields, proof_bytes, term_place, remaining_place, empty_proof, read_proof}
use Rattle.files.specs.Standing.{ProofStands}
use Rattle.files.specs.Within.{ProofWithin, ProofFile}
use Rattle.files.proofs.Files.{begins, behind_term_lem}
use Rattle.files.proofs.WhatStands.{proof_stands}
use Rattle.files.proofs.Sizes.{size_most, length-proof_bytes, proof_most}
use Rattle.files.proofs.EmptyProof.{none, read_itself, read_alike}

module _ (s : List ℕ) (bytes : Bytes s) (p : Proof) where
  abbrev g : List ℕ
  g = goal_list_bytes p.goals

  abbrev t : List ℕ
  t = term_bytes p.term

  abbrev r : List ℕ
  r = goal_list_bytes p.remaining

  pub proof_encoded : ProofStands s p → (s ≡ proof_bytes p) × ProofWithin p
  unfolding proof_bytes remaining_place term_place
  proof_encoded st =
      let goals = list_bytes s bytes 0 p.goals st.goals_stand.head st.goals_stand.goals_are in
      let term = term_bytes_lem s bytes p.term (term_place p) st.term_stands in
      let rest = list_bytes s bytes (remaining_place p) p.remaining st.remaining_stand.head st.remaining_stand.goals_are in
      let none = ap (λ (i : ℕ). r ++ drop i s) st.end_is ∙ ap (λ (l : List ℕ). r ++ l) (drop-length s) ∙ append-nil r in (
        goals.0 ∙ ap (λ (l : List ℕ). g ++ l) (term ∙ ap (λ (l : List ℕ). t ++ l) (rest.0 ∙ none)) ∙ sym (append_assoc g t r),
        record {
          few_goals = st.goals_stand.few;
          goal_values = goals.1;
          hiproof = st.hiproof;
          few_fields = st.few_fields;
          term_values = values_stand s bytes p.term (term_place p) st.term_stands;
          few_remaining = st.remaining_stand.few;
          remaining_values = rest.1;
        },
      )

  pub proof_decoded : s ≡ proof_bytes p → ProofWithin p → read_proof_fields s ≡ gives p
  unfolding read_proof_fields proof_of hiproof_of remaining_of and_then proof_bytes remaining_place term_place
  proof_decoded e w =
      let at = 3 + length p.goals * 2 in
      let to = at + size p.term in
      let all : length s ≡ to + 3 + length p.remaining * 2 = ap length e ∙ length-proof_bytes p in
      let most : length s ≤ 21510 = rw e (proof_most p w) in
      let b = begins s (proof_of s) p.goals (t ++ r) w.goal_values w.few_goals (omega arith) (e ∙ append_assoc g t r) in
      let term = bytes_read s bytes hiproof_kind (omega arith) p.term (length s + 1) at (length s) 0 r w.term_values (omega (arith, most, all)) b.1 (λ h. w.hiproof) (omega (arith, all)) (omega (arith, w.few_fields)) (omega (arith, all)) in
      let rest = list_read s to (length s) p.remaining [] w.remaining_values w.few_remaining (behind_term_lem s at p.term r b.1 ∙ sym (append-nil r)) (omega (arith, all)) in
      b.0 ∙ rw (term, rest.0, eq-eqb (to + 3 + length p.remaining * 2) (length s) (sym all))

pub reads-fields : (s : List ℕ) (p : Proof) → Bytes s → (read_proof_fields s ≡ gives p) ↔ ((s ≡ proof_bytes p) × ProofWithin p)
reads-fields s p bytes = (λ e. proof_encoded s bytes p (proof_stands s p e), λ q. proof_decoded s bytes p q.0 q.1)

-- the encoding is bytes, and not nothing
encoding_bytes : (p : Proof) → ProofWithin p → Bytes (proof_bytes p)
unfolding proof_bytes
encoding_bytes p w =
    append_bytes (goal_list_bytes p.goals ++ term_bytes p.term) (goal_list_bytes p.remaining)
    (append_bytes (goal_list_bytes p.goals) (term_bytes p.term) (list_is_bytes p.goals w.goal_values (omega (arith, w.few_goals))) (term_is_bytes p.term w.term_values (omega (arith, size_most p.term, w.few_fields))))
    (list_is_bytes p.remaining w.remaining_values (omega (arith, w.few_remaining)))

encoding_some : (p : Proof) → 0 < length (proof_bytes p)
unfolding remaining_place term_place
encoding_some p = omega (arith, length-proof_bytes p)

-- encoding, then reading, gives the proof back
pub proof_back_lem : (p : Proof) → ProofWithin p → read_proof (proof_bytes p) ≡ gives p
proof_back_lem p w = read_itself (proof_bytes p) (encoding_some p) ∙ (reads-fields (proof_bytes p) p (encoding_bytes p w)).1 (refl, w)

empty_within : ProofWithin empty_proof
unfolding empty_proof GoalValues Hiproof fields TermValues
empty_within = record {
  few_goals = omega arith;
  goal_values = tt;
  hiproof = tt;
  few_fields = omega arith;
  term_values = tt;
  few_remaining = omega arith;
  remaining_values = tt;
}

-- no bytes are read as the encoding of the empty proof
pub reads_none : read_proof [] ≡ gives empty_proof
reads_none = sym (read_alike []) ∙ ap read_proof (none [] refl) ∙ proof_back_lem empty_proof empty_within

-- what a file of bytes reads as
pub reads_proof : (s : List ℕ) (p : Proof) → Bytes s → (read_proof s ≡ gives p) ↔ ProofFile s p
reads_proof s p bytes = (forth s bytes, back)
  where
    forth : (s : List ℕ) → Bytes s → read_proof s ≡ gives p → ProofFile s p
    forth [] bytes e = inr (refl, same_value (sym e ∙ reads_none))
    forth (b ∷ l) bytes e = inl ((reads-fields (b ∷ l) p bytes).0 (sym (read_itself (b ∷ l) (omega arith)) ∙ e))

    back : ProofFile s p → read_proof s ≡ gives p
    back (inl (e, w)) = ap read_proof e ∙ proof_back_lem p w
    back (inr (e, is)) = ap read_proof e ∙ reads_none ∙ ap gives (sym is)

-- two files of bytes read as the empty proof: none, and its encoding
pub reads_empty : (s : List ℕ) → Bytes s → (read_proof s ≡ gives empty_proof) ↔ ((s ≡ []) ⊎ (s ≡ proof_bytes empty_proof))
reads_empty s bytes = (λ e. forth ((reads_proof s empty_proof bytes).0 e), λ q. (reads_proof s empty_proof bytes).1 (back q))
  where
    forth : ProofFile s empty_proof → (s ≡ []) ⊎ (s ≡ proof_bytes empty_proof)
    forth (inl q) = inr q.0
    forth (inr q) = inl q.0

    back : (s ≡ []) ⊎ (s ≡ proof_bytes empty_proof) → ProofFile s empty_proof
    back (inl e) = inr (e, refl)
    back (inr e) = inl (e, empty_within)

-- what a file of bytes reads as is within the limits
pub read_within : (s : List ℕ) (p : Proof) → Bytes s → read_proof s ≡ gives p → ProofWithin p
read_within s p bytes e = go ((reads_proof s p bytes).0 e)
  where
    go : ProofFile s p → ProofWithin p
    go (inl q) = q.1
    go (inr q) = subst ProofWithin (sym q.1) empty_within
