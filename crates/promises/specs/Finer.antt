-- Document 02, P5: what the finer reasons change in the answers of check and flatten, and that nothing else changes. The entries as they stood before are kept here, over document 01's walk
-- and with the counts of now, so that P6's rules are among them.
use Rattle.std.specs.Prelude.{ℕ, ◌+◌, ◌≡◌, cond, ◌⊎◌, List, [], ◌∷◌, ◌++◌, ltb, length, take, drop}
use Rattle.format.specs.declared.values.Goal.{Goal}
use Rattle.format.specs.declared.refusals.Cause.TheVariants.{RuleMissing}
use Rattle.format.specs.Results.{Result, gives, refused, and_then}
use Rattle.format.specs.Terms.{Term, atomic, id, label, sequence, tensor, empty, alternation, assert, defined, size}
use Rattle.tables.specs.Tables.{Table}
use Rattle.tables.specs.Lookup.{find_rule}
use Rattle.tables.specs.ReadTables.{read_table}
use Rattle.files.specs.Proofs.{Proof, read_proof, term_place}
use Rattle.hitac.specs.Hiproofs.{input_arity}
use Rattle.hitac.specs.Walk.{premises_or, joined}
use Rattle.answers.specs.declared.Answer.{Answer}
use Rattle.answers.specs.Answers as answer
use Rattle.entries.specs.Outcomes.{Outcome, in_file, done, table_file, other_file}
use Rattle.entries.specs.LentSpace.{Checked, check_in, Written, write_in}
use Rattle.entries.specs.Check.{remaining_are, proof_counts, forest_file, check_work, flatten_work, check, flatten}

-- "20: hiproof does not validate; place of the first term in the walk that cannot take its goals", for whatever reason: the cause that still has the number 20
abbrev pub refused_before : (place : ℕ) → Result (List Goal)
refused_before p = refused RuleMissing p

-- the walk before P5: one number for every term that cannot take its goals
unfoldable pub one_goal_before : (place : ℕ) → (Goal → Result (List Goal)) → List Goal → Result (List Goal)
one_goal_before p next [] = refused_before p
one_goal_before p next (γ ∷ []) = next γ
one_goal_before p next (γ ∷ δ ∷ g) = refused_before p

unfoldable pub no_goal_before : (place : ℕ) → List Goal → Result (List Goal)
no_goal_before p [] = gives []
no_goal_before p (γ ∷ g) = refused_before p

unfoldable pub walk_before : Table → Term → (place : ℕ) → List Goal → Result (List Goal)
walk_before T (atomic a) p g = one_goal_before p (λ γ. premises_or RuleMissing p (find_rule T a γ)) g
walk_before T id p g = one_goal_before p (λ γ. gives (γ ∷ [])) g
walk_before T (label l s) p g = one_goal_before p (λ γ. walk_before T s (p + 5) (γ ∷ [])) g
walk_before T (sequence s t) p g = and_then (walk_before T s (p + 3) g) (λ h. walk_before T t (p + 3 + size s) h)
walk_before T (tensor s t) p g =
    cond (ltb (length g) (input_arity s))
    (refused_before p)
    (and_then (walk_before T s (p + 3) (take (input_arity s) g))
    (λ h. and_then (walk_before T t (p + 3 + size s) (drop (input_arity s) g)) (λ k. joined p (h ++ k))))
walk_before T empty p g = no_goal_before p g
walk_before T (alternation s t) p g = refused_before p
walk_before T (assert γ) p g = refused_before p
walk_before T (defined n) p g = refused_before p

-- check and flatten with the walk of before P5: both files are read, then that walk, then 21
unfoldable pub on_proof_before : {A : Type 0} → (Table → Proof → A) → (table proof : List ℕ) → Outcome A
on_proof_before value table proof =
    in_file table_file (read_table table) (λ T.
    in_file other_file (read_proof proof) (λ p.
    in_file other_file (and_then (walk_before T p.term (term_place p) p.goals) (remaining_are p (value T p))) done))

unfoldable pub check_before : (table proof work : List ℕ) → Checked
check_before table proof work = check_in check_work work (on_proof_before proof_counts table proof)

unfoldable pub flatten_before : (table proof work out : List ℕ) → Written
flatten_before table proof work out = write_in flatten_work work out (on_proof_before forest_file table proof)

-- the numbers that a term that cannot take its goals may have
abbrev pub Reason : ℕ → Type 0
Reason n = (n ≡ 20) ⊎ ((n ≡ 34) ⊎ (n ≡ 35))

-- P5's two numbers "both at 20's place in the walk": every answer of before but 20 is the same in all its values, a success included, and none was 34 or 35;
-- a 20 of before is 20, 34 or 35 in the same file at the same place.
pub data Finer : (before after : Answer) → Type 0 where
  unchanged : (a : Answer) → (Reason a.number → ⊥) → Finer a a
  refined : (n q : ℕ) → Reason n → Finer (answer.refusal 20 2 q 0) (answer.refusal n 2 q 0)

abbrev pub Check-finer : Type 0
Check-finer = (t p w : List ℕ) → Finer (check_before t p w).answer (check t p w).answer × ((check_before t p w).work ≡ (check t p w).work)

abbrev pub Flatten-finer : Type 0
Flatten-finer = (t p w o : List ℕ)
    → Finer (flatten_before t p w o).answer (flatten t p w o).answer × ((flatten_before t p w o).work ≡ (flatten t p w o).work) × ((flatten_before t p w o).out ≡ (flatten t p w o).out)
