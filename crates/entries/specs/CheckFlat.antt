-- Document 01, "Flat derivations": the entries check_flat and write_proof.
use Rattle.std.specs.Prelude.{ℕ, cond, List, [], ◌∷◌, ltb, length}
use Rattle.format.specs.declared.values.Goal.{Goal}
use Rattle.format.specs.Limits.{most_entries}
use Rattle.format.specs.declared.refusals.Cause.TheVariants.{GoalsPending, EntriesTooMany}
use Rattle.format.specs.Results.{Result, gives, refused, and_then}
use Rattle.rule_set.specs.Different.{different}
use Rattle.tables.specs.Tables.{Table}
use Rattle.tables.specs.ReadTables.{read_table}
use Rattle.files.specs.Proofs.{Proof, proof_bytes}
use Rattle.files.specs.Derivations.{Derivation, read_flat, entries_place}
use Rattle.hitac.specs.Forest.{leaves}
use Rattle.hitac.specs.FlatWalk.{flat_walk}
use Rattle.hitac.specs.Counts.{uses, every_use}
use Rattle.hitac.specs.UsedRules.{flat_rules}
use Rattle.hitac.specs.Write.{written}
use Rattle.entries.specs.Outcomes.{Outcome, in_file, done, table_file, other_file}
use Rattle.entries.specs.LentSpace.{Counts, Checked, check_in, Written, write_in}

-- "nothing is pending at its end"; "27: flat file wrong; .. the file's length if goals are pending"
unfoldable pub none_pending : {A : Type 0} → (end : ℕ) → A → List Goal → Result A
none_pending end a [] = gives a
none_pending end a (γ ∷ g) = refused GoalsPending end

-- "every entry applies and nothing is pending at its end", in a file that ends at `end`
unfoldable pub right : {A : Type 0} → Table → Derivation → (end : ℕ) → A → Result A
right T d end a = and_then (flat_walk T (entries_place d) d.roots d.entries) (none_pending end a)

-- uses and open leaves; document 02, P6: "the flat check gives the same count", of the rules of the uses
unfoldable pub flat_counts : Table → Derivation → Counts
flat_counts T d = record { fields = 0; uses = uses every_use d.entries; remaining = length (leaves d.entries); rules = different (flat_rules T d.entries) }

unfoldable pub check_flat_outcome : (table flat : List ℕ) → Outcome Counts
check_flat_outcome table flat =
    in_file table_file (read_table table) (λ T.
    in_file other_file (read_flat flat) (λ d.
    in_file other_file (right T d (length flat) (flat_counts T d)) done))

-- "Writing a proof: the stated goals are the roots, the remaining ones those of the open leaves in order, and the term is the whole forest"
unfoldable pub written_proof : Table → Derivation → Proof
written_proof T d = record { goals = d.roots; term = written T d.entries; remaining = leaves d.entries }

-- "28: over 2,048 entries when writing a proof; file 2, place 0", "28 before 27"
unfoldable pub written_file : Table → Derivation → (end : ℕ) → Result (List ℕ)
written_file T d end = cond (ltb most_entries (length d.entries)) (refused EntriesTooMany 0) (right T d end (proof_bytes (written_proof T d)))

unfoldable pub write_outcome : (table flat : List ℕ) → Outcome (List ℕ)
write_outcome table flat =
    in_file table_file (read_table table) (λ T.
    in_file other_file (read_flat flat) (λ d.
    in_file other_file (written_file T d (length flat)) done))

-- the sizes of the work spaces that docs/ENTRIES.md names
abbrev pub check_flat_work : ℕ
check_flat_work = 65536

abbrev pub write_proof_work : ℕ
write_proof_work = 65536

unfoldable pub check_flat : (table flat work : List ℕ) → Checked
check_flat table flat work = check_in check_flat_work work (check_flat_outcome table flat)

unfoldable pub write_proof : (table flat work out : List ℕ) → Written
write_proof table flat work out = write_in write_proof_work work out (write_outcome table flat)
