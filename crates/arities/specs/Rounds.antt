-- The arities of the defined tactics, found by rounds: what lies in work space between the rounds.
use Rattle.std.specs.Prelude.{ℕ, zero, suc, ◌+◌, ◌*◌, ◌≤◌, ◌<◌, ◌≡◌, Bool, true, false, cond, List, ltb, length}
use Rattle.std.proofs.Math.Option.{Option, none, some}
use Rattle.words.specs.Word.{word, put_word}
use Rattle.format.specs.declared.values.TacticNo.{TacticNo}
use Rattle.tables.specs.Tables.{Table, UniqueDefinitions}
use Rattle.tables.specs.Standing.{TableStands}
use Rattle.evaluation.specs.TacticArity.{arity_after}
use Rattle.arities.specs.Layout.{frames_end, space_end}
use Rattle.arities.specs.Arities.{ArityTable, arities}

-- the arity that a number stands for
abbrev pub decoded : ℕ → Option ℕ
decoded zero = none
decoded (suc n) = some n

-- the arities that the work space has
unfoldable pub known_in : List ℕ → TacticNo → Option ℕ
known_in w d = cond (ltb d.0 65536) (decoded (word w (frames_end + d.0 * 2))) none

-- after so many rounds: no arity is wrong, and those that so many unfoldings give are there
pub record Between (T : Table) (rounds : ℕ) (w : List ℕ) : Type 0 where
  pub sound : (d : TacticNo) (n : ℕ) → known_in w d ≡ some n → arities T d ≡ some n
  pub complete : (d : TacticNo) (n : ℕ) → arity_after rounds T.definitions d ≡ some n → known_in w d ≡ some n

-- one arity stored, if it was another
pub record Updated (w : List ℕ) (tactic arity : ℕ) (v : List ℕ) (changed : Bool) : Type 0 where
  pub same_length : length v ≡ length w
  pub unchanged : changed ≡ false → (v ≡ w) × (word w (frames_end + tactic * 2) ≡ arity)
  pub stored : changed ≡ true → v ≡ put_word w (frames_end + tactic * 2) arity

-- what a round is given and what it does: one round more; if nothing changed, the arities are all there
pub record RoundGiven (bytes : List ℕ) (first : ℕ) (w : List ℕ) : Type 0 where
  pub small : length bytes < 65536
  pub space : space_end ≤ length w
  pub table : Table
  pub table_stands : TableStands bytes first table

pub record Rounded (bytes : List ℕ) (first : ℕ) (w v : List ℕ) (changed : Bool) : Type 0 where
  pub same_length : length v ≡ length w
  pub further : (T : Table) → TableStands bytes first T → UniqueDefinitions T → (k : ℕ) → Between T k w → Between T (suc k) v
  pub settled : (T : Table) → TableStands bytes first T → UniqueDefinitions T → (k : ℕ) → Between T k w → changed ≡ false → ArityTable v (arities T)

-- what the whole is given and what it does
pub record FillGiven (bytes : List ℕ) (first definitions : ℕ) (w : List ℕ) : Type 0 where
  pub small : length bytes < 65536
  pub space : space_end ≤ length w
  pub table : Table
  pub table_stands : TableStands bytes first table
  pub count_is : definitions ≡ length table.definitions

-- the rounds, once no arity is known
pub record Settled (bytes : List ℕ) (first definitions : ℕ) (w v : List ℕ) : Type 0 where
  pub same_length : length v ≡ length w
  pub settled : (T : Table) → TableStands bytes first T → UniqueDefinitions T → definitions ≡ length T.definitions → Between T 0 w → ArityTable v (arities T)

-- no arity is known
pub record Cleared (w v : List ℕ) : Type 0 where
  pub same_length : length v ≡ length w
  pub none_known : (d : TacticNo) → known_in v d ≡ none

pub record Filled (bytes : List ℕ) (first definitions : ℕ) (w v : List ℕ) : Type 0 where
  pub same_length : length v ≡ length w
  pub filled : (T : Table) → TableStands bytes first T → UniqueDefinitions T → definitions ≡ length T.definitions → ArityTable v (arities T)
