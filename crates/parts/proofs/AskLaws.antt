-- What may stand where a state is, by the part that is read.
-- Assumes nothing.
use mathlib.Core.Path.{◌≡◌, refl}
use mathlib.Core.Bool.{true, false}
use mathlib.Core.List.{List}
use Prim.Native.Nat.{ℕ}
use lib.Dec.{leb}
use Rattle.format.specs.Limits.{most_term_fields}
use Rattle.format.specs.Tags.{definition_kind, goal_list_kind, hiproof_kind, tactic_kind, entry_kind}
use Rattle.format.specs.Next.{full_table, lowest, full_flat}
use Rattle.parts.specs.declared.state.Part.TheVariants.{Entries, Fields, JobTerm, ProofTerm}
use Rattle.parts.specs.declared.state.State.{State}
use Rattle.parts.specs.States.{is_term, is_list, low_of, high_of, full_of}
use Rattle.parts.proofs.PartLaws.{list_chosen, term_chosen}

module _ (s : List ℕ) (x : State) where
  pub asks_entry : x.part ≡ Entries → (low_of x ≡ entry_kind) × (high_of x.part ≡ entry_kind) × (full_of s x ≡ full_flat s x.at x.first x.second)
  unfolding low_of high_of full_of
  asks_entry p = (rw p, rw p, rw p)

  pub asks_field : x.part ≡ Fields → (low_of x ≡ lowest x.second) × (high_of x.part ≡ definition_kind) × (full_of s x ≡ full_table s x.at x.first x.second)
  unfolding low_of high_of full_of
  asks_field p = (rw p, rw p, rw p)

  pub asks_list : is_list x.part ≡ true → (low_of x ≡ goal_list_kind) × (high_of x.part ≡ goal_list_kind) × (full_of s x ≡ false)
  unfolding low_of high_of full_of
  asks_list p = (list_chosen x.part _ _ _ _ p, list_chosen x.part _ _ _ _ p, list_chosen x.part _ _ _ _ p)

  pub asks_term : is_term x.part ≡ true → (low_of x ≡ hiproof_kind) × (full_of s x ≡ leb most_term_fields x.fields)
  unfolding low_of full_of
  asks_term p = (term_chosen x.part _ _ _ _ p, term_chosen x.part _ _ _ _ p)

-- the highest kind in the term of a job and of a proof
pub high_of_job : high_of JobTerm ≡ tactic_kind
unfolding high_of
high_of_job = refl

pub high_of_proof : high_of ProofTerm ≡ hiproof_kind
unfolding high_of
high_of_proof = refl
