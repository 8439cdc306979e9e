-- The arities of the defined tactics in work space, by tactic number.
use Rattle.std.specs.Prelude.{ℕ, ◌+◌, ◌*◌, ◌<◌, ◌≡◌, List, length}
use Rattle.std.proofs.Math.Option.{Option, none, some}
use Rattle.words.specs.Word.{word}
use Rattle.format.specs.declared.values.TacticNo.{TacticNo}
use Rattle.format.specs.Values.{tactic_no}
use Rattle.format.specs.Terms.{Term, size}
use Rattle.format.specs.Standing.{Stands}
use Rattle.tables.specs.Tables.{Table}
use Rattle.evaluation.specs.TacticArity.{arity_after}
use Rattle.arities.specs.Layout.{frames_end}

-- an arity as the code has it: with one added, and 0 for none
abbrev pub arity_code : Option ℕ → ℕ
arity_code none = 0
arity_code (some n) = n + 1

-- the work space has these arities
abbrev pub ArityTable : List ℕ → (TacticNo → Option ℕ) → Type 0
ArityTable w known = (d : ℕ) → d < 65536 → word w (frames_end + d * 2) ≡ arity_code (known (tactic_no d))

-- the arities of the defined tactics of a table
abbrev pub arities : Table → TacticNo → Option ℕ
arities T = arity_after (length T.definitions) T.definitions

-- two terms behind one another, as the inner terms of a field
abbrev pub Pair : List ℕ → (at : ℕ) → Term → Term → Type 0
Pair src at t u = Stands src (at + 3) t × Stands src (at + 3 + size t) u
