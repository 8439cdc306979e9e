-- Document 01, "Fields": "Proof file: a goal list, one term of tags 16 to 21 (a hiproof), a goal list of those remaining."
use Rattle.std.specs.Prelude.{ℕ, ◌+◌, ◌*◌, cond, List, [], ◌∷◌, ◌++◌, eqb, length}
use Rattle.format.specs.declared.values.Goal.{Goal}
use Rattle.format.specs.declared.refusals.Cause.TheVariants.{LengthWrong}
use Rattle.format.specs.Results.{Result, gives, refused, and_then}
use Rattle.format.specs.Inputs.{of_size}
use Rattle.format.specs.Tags.{hiproof_kind}
use Rattle.format.specs.Terms.{Term, empty, size}
use Rattle.format.specs.ReadTerms.{ParsedTerm, read_term}
use Rattle.format.specs.Goals.{ParsedGoals, read_goals}
use Rattle.format.specs.Encoding.{term_bytes, goal_list_bytes}

pub record Proof : Type 0 where
  pub goals : List Goal
  pub term : Term
  pub remaining : List Goal

-- the proof, once its last list is read: "bytes left .. behind the last field of a job or proof file", 4 at the first of them
unfoldable pub remaining_of : List ℕ → List Goal → Term → ParsedGoals → Result Proof
remaining_of s g t r = cond (eqb r.next (length s)) (gives (record { goals = g; term = t; remaining = r.goals })) (refused LengthWrong r.next)

-- once its term is read
unfoldable pub hiproof_of : List ℕ → List Goal → ParsedTerm → Result Proof
hiproof_of s g t = and_then (read_goals s t.next (length s)) (remaining_of s g t.term)

-- once its stated goals are read
unfoldable pub proof_of : List ℕ → ParsedGoals → Result Proof
proof_of s g = and_then (read_term (length s + 1) s hiproof_kind g.next (length s) 0) (hiproof_of s g.goals)

-- its three fields, one behind the other
unfoldable pub read_proof_fields : List ℕ → Result Proof
read_proof_fields s = of_size s (and_then (read_goals s 0 (length s)) (proof_of s))

-- its bytes
unfoldable pub proof_bytes : Proof → List ℕ
proof_bytes p = goal_list_bytes p.goals ++ term_bytes p.term ++ goal_list_bytes p.remaining

-- the places of its term and of the list of those remaining
unfoldable pub term_place : Proof → ℕ
term_place p = 3 + length p.goals * 2

unfoldable pub remaining_place : Proof → ℕ
remaining_place p = term_place p + size p.term

-- Document 02, P7: "Zero bytes now mean no goals, the empty hiproof and none remaining".
unfoldable pub empty_proof : Proof
empty_proof = record { goals = []; term = empty; remaining = [] }

-- the bytes that are read of a proof file: its own, or, in the place of none, those of that proof
unfoldable pub or_empty_proof : List ℕ → List ℕ
or_empty_proof [] = proof_bytes empty_proof
or_empty_proof (b ∷ s) = b ∷ s

-- a proof file, as every entry reads it
unfoldable pub read_proof : List ℕ → Result Proof
read_proof s = read_proof_fields (or_empty_proof s)
