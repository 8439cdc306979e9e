-- A flat file that is right in a table and within the limits of writing, and its proof file.
use Rattle.std.specs.Prelude.{ℕ, ◌≤◌, ◌≡◌, List, [], length}
use Rattle.format.specs.Limits.{most_entries}
use Rattle.format.specs.Results.{gives}
use Rattle.tables.specs.Tables.{Table}
use Rattle.files.specs.Proofs.{proof_bytes}
use Rattle.files.specs.Derivations.{Derivation, entries_place}
use Rattle.files.specs.Standing.{FlatStands}
use Rattle.hitac.specs.FlatWalk.{flat_walk}
use Rattle.entries.specs.CheckFlat.{written_proof}
use Rattle.writer.specs.Plan.{Planned}

-- with n roots
pub record Right (s : List ℕ) (n : ℕ) : Type 0 where
  pub table : Table
  pub derivation : Derivation
  pub flat : FlatStands s derivation
  pub count : length derivation.roots ≡ n
  pub right : flat_walk table (entries_place derivation) derivation.roots derivation.entries ≡ gives []
  pub few : length derivation.entries ≤ most_entries

abbrev pub proof_of : {s : List ℕ} {n : ℕ} → Right s n → List ℕ
proof_of r = proof_bytes (written_proof r.table r.derivation)

-- the plan of its entries
abbrev pub PlannedRight : (p : List ℕ) {s : List ℕ} {n : ℕ} → Right s n → Type 0
PlannedRight p r = Planned r.table p 0 r.derivation.entries
