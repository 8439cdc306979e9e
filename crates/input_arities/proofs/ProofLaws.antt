-- What is known of a proof that reads: its sizes, where its term stands and ends, and that there is room for the arities of it.
-- Assumes nothing.
use mathlib.Core.Path.{◌≡◌, refl, subst}
use mathlib.Core.List.{List}
use Prim.Native.Nat.{ℕ, ◌+◌, ◌*◌, ◌≤◌}
use native.Mathlib.Omega.{arith}
use lib.ListN.{length}
use Rattle.format.specs.Limits.{most_bytes, most_goals}
use Rattle.format.specs.Results.{gives}
use Rattle.format.specs.Terms.{size}
use Rattle.format.specs.Standing.{Stands}
use Rattle.files.specs.declared.proofs.ProofParts.{ProofParts}
use Rattle.files.specs.Proofs.{Proof, read_proof_fields, term_place, remaining_place}
use Rattle.files.specs.Shapes.{parts_of}
use Rattle.files.specs.Standing.{ProofStands}
use Rattle.files.proofs.WhatStands.{proof_stands}
use Rattle.files.proofs.Sizes.{proof_size_lem}
use Rattle.input_arities.specs.Layout.{arities_end}
use Rattle.input_arities.specs.Threads.{slot, Room}

pub record Small (s : List ℕ) (q : ProofParts) : Type 0 where
  pub goals : q.goals ≤ most_goals
  pub goals_inside : 3 + q.goals * 2 ≤ length s
  pub remaining : q.remaining ≤ most_goals
  pub remaining_inside : q.rest + 3 + q.remaining * 2 ≤ length s
  pub file : length s ≤ most_bytes

module _ (s : List ℕ) (p : Proof) (e : read_proof_fields s ≡ gives p) where
  pub standing : ProofStands s p
  standing = proof_stands s p e

  small_of : Small s (parts_of p)
  unfolding parts_of term_place remaining_place
  small_of =
      let st = standing in
      record {
        goals = st.goals_stand.few;
        goals_inside = omega (arith, st.goals_stand.head);
        remaining = st.remaining_stand.few;
        remaining_inside = omega (arith, st.end_is);
        file = omega (arith, proof_size_lem s p e);
      }

  room_of : (w : List ℕ) → arities_end ≤ length w → Room s (term_place p) (term_place p + size p.term) w p.term
  unfolding slot term_place remaining_place
  room_of w h =
      let st = standing in
      let z = proof_size_lem s p e in
      record {
        stands = st.term_stands;
        ends = refl;
        slots = omega (arith, st.end_is, z);
        small = omega (arith, st.end_is, z);
        few = st.few_fields;
        space = h;
      }

  -- the same by the parts that the reader gave
  module _ (q : ProofParts) (is : parts_of p ≡ q) where
    pub small : Small s q
    small = subst (Small s) is small_of

    -- the term ends where the list of those remaining begins
    pub term_there : Stands s q.term p.term × (q.rest ≡ q.term + size p.term)
    unfolding parts_of remaining_place
    term_there = subst (λ (x : ProofParts). Stands s x.term p.term × (x.rest ≡ x.term + size p.term)) is (standing.term_stands, refl)

    pub term_room : (w : List ℕ) → arities_end ≤ length w → Room s q.term (q.term + size p.term) w p.term
    unfolding parts_of
    term_room w h = subst (λ (x : ProofParts). Room s x.term (x.term + size p.term) w p.term) is (room_of w h)
