-- The entries of a flat file from a place to its end, and the goals of their open leaves.
use Rattle.std.specs.Prelude.{ℕ, List, length}
use Rattle.format.specs.declared.values.Goal.{Goal}
use Rattle.files.specs.Derivations.{Entry}
use Rattle.files.specs.Standing.{EntriesStand}
use Rattle.hitac.specs.Forest.{leaves}

pub record Rest (s : List ℕ) (at : ℕ) : Type 0 where
  pub entries : List Entry
  pub stand : EntriesStand s at (length s) entries

abbrev pub leaves_of : {s : List ℕ} {at : ℕ} → Rest s at → List Goal
leaves_of r = leaves r.entries
