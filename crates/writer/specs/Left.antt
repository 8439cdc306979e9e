-- What a call of the writer leaves, given the work space: answer and output space.
use Rattle.std.specs.Prelude.{ℕ, List}
use Rattle.tables.specs.Tables.{Table}
use Rattle.files.specs.Derivations.{Derivation}
use Rattle.entries.specs.Outcomes.{in_file, done, other_file}
use Rattle.entries.specs.LentSpace.{Written}
use Rattle.entries.specs.Left.{left_in}
use Rattle.entries.specs.CheckFlat.{written_file}

-- for a derivation in a file that ends at `end`
unfoldable pub written_entries : Table → Derivation → (end : ℕ) → (out : List ℕ) → Written
written_entries T d end out = left_in out (in_file other_file (written_file T d end) done)
