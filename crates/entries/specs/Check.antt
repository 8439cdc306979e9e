-- Document 01, "Checking a hiproof": the entry check, and "Flat derivations": the entry flatten.
use Rattle.std.specs.Prelude.{ℕ, Bool, true, false, cond, ◌&&◌, List, [], ◌∷◌, length}
use Rattle.format.specs.declared.values.Goal.{Goal}
use Rattle.format.specs.declared.refusals.Cause.TheVariants.{RemainingDiffer}
use Rattle.format.specs.Results.{Result, gives, refused, and_then}
use Rattle.format.specs.Terms.{fields}
use Rattle.rule_set.specs.Different.{different}
use Rattle.tables.specs.Tables.{Table}
use Rattle.tables.specs.Lookup.{same_goal}
use Rattle.tables.specs.ReadTables.{read_table}
use Rattle.files.specs.Proofs.{Proof, read_proof, term_place, remaining_place}
use Rattle.files.specs.Derivations.{Derivation, flat_bytes}
use Rattle.hitac.specs.Hiproofs.{atomics}
use Rattle.hitac.specs.Walk.{walk}
use Rattle.hitac.specs.Forest.{entries, forest}
use Rattle.hitac.specs.UsedRules.{walked_rules}
use Rattle.entries.specs.Outcomes.{Outcome, in_file, done, table_file, other_file}
use Rattle.entries.specs.LentSpace.{Counts, Checked, check_in, Written, write_in}

-- the same goals in the same order
unfoldable pub same_goals : List Goal → List Goal → Bool
same_goals [] [] = true
same_goals [] (δ ∷ h) = false
same_goals (γ ∷ g) [] = false
same_goals (γ ∷ g) (δ ∷ h) = same_goal γ δ && same_goals g h

-- "the list given at the end is that of the stated remaining goals"; "21: stated remaining goals differ; place of that list"
unfoldable pub remaining_are : {A : Type 0} → Proof → A → List Goal → Result A
remaining_are p a h = cond (same_goals h p.remaining) (gives a) (refused RemainingDiffer (remaining_place p))

-- the walk on the stated goals, with its 20, 22, 34 and 35, then 21
unfoldable pub checked : {A : Type 0} → Table → Proof → A → Result A
checked T p a = and_then (walk T p.term (term_place p) p.goals) (remaining_are p a)

-- "The table is read first", then the proof file; whatever the walk then gives is in the proof file
unfoldable pub on_proof : {A : Type 0} → (Table → Proof → A) → (table proof : List ℕ) → Outcome A
on_proof value table proof =
    in_file table_file (read_table table) (λ T.
    in_file other_file (read_proof proof) (λ p.
    in_file other_file (checked T p (value T p)) done))

-- "(term fields, uses, remaining goals)"; document 02, P6: "a proof's acceptance gives the count of different rules used", those that the walk on the stated goals looks up
unfoldable pub proof_counts : Table → Proof → Counts
proof_counts T p = record { fields = fields p.term; uses = atomics p.term; remaining = length p.remaining; rules = different (walked_rules T p.term p.goals) }

-- the flat file of a proof's forest: "Written with the stated goals as roots, then depth first, left first."
unfoldable pub forest_file : Table → Proof → List ℕ
forest_file T p = flat_bytes (record { roots = p.goals; entries = entries (forest T p.term p.goals) })

-- the sizes of the work spaces that docs/ENTRIES.md names
abbrev pub check_work : ℕ
check_work = 65536

abbrev pub flatten_work : ℕ
flatten_work = 200704

unfoldable pub check : (table proof work : List ℕ) → Checked
check table proof work = check_in check_work work (on_proof proof_counts table proof)

unfoldable pub flatten : (table proof work out : List ℕ) → Written
flatten table proof work out = write_in flatten_work work out (on_proof forest_file table proof)
