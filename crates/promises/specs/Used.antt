-- Document 02, P6: which rules of a table a proof and a flat derivation use. A rule is told from others by "its number in the table, counting from 0": one name has a rule for each of several goals,
-- and these are different rules.
use Rattle.std.specs.Prelude.{ℕ}
use Rattle.tables.specs.Tables.{Table}
use Rattle.files.specs.Proofs.{Proof, term_place}
use Rattle.files.specs.Derivations.{Derivation}
use Rattle.hitac.specs.UsedRules.{UsedInWalk, UsedInEntries}

-- the rule with that number is used in the walk of a proof on the stated goals
abbrev pub UsedIn : Table → Proof → (number : ℕ) → Type 0
UsedIn T x = UsedInWalk T x.term (term_place x) x.goals

-- it is used in a flat derivation
abbrev pub UsedFlat : Table → Derivation → (number : ℕ) → Type 0
UsedFlat T d = UsedInEntries T d.entries
