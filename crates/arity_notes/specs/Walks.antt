-- A walk: what its state and its work space stand for, and what a turn does.
use Rattle.std.specs.Prelude.{ℕ, ◌+◌, ◌≤◌, ◌<◌, ◌≡◌, List, [], length, get_or}
use Rattle.format.specs.declared.values.TacticNo.{TacticNo}
use Rattle.format.specs.Terms.{Term, defined}
use Rattle.tables.specs.Tables.{Table}
use Rattle.tables.specs.Standing.{TableStands}
use Rattle.index.specs.Build.{DefinitionsIndexed}
use Rattle.arities.specs.Layout.{space_end}
use Rattle.arity_notes.specs.Regions.{notes_room, definitions_place, regions_end}
use Rattle.arity_notes.specs.declared.walk.Walk.{Walk}
use Rattle.arity_notes.specs.Waits.{Wait, StackAt}
use Rattle.arity_notes.specs.Asked.{Asked, Turn, asks, asked_by, TurnIs, turn_weight, stack_weight, Standing, Told}
use Rattle.arity_notes.specs.Cells.{cell, Cells, unwalked}
use Rattle.arity_notes.specs.Noting.{Noting}

-- A walk finds the arities of defined tactics, in the table; or it notes the tensors of a term, once all defined tactics are known.
pub data Mode : Type 0 where
  finds : Mode
  notes : (from : ℕ) → (root : Term) → (w₀ : List ℕ) → Mode

unfoldable pub ModeIs : Mode → Table → (bytes src : List ℕ) → (base : ℕ) → List ℕ → Turn → List Wait → Type 0
ModeIs finds T bytes src base w c k = src ≡ bytes
ModeIs (notes from root w₀) T bytes src base w c k = Noting T base from root w₀ w c k

-- the notes of a file
pub record Base (base : ℕ) : Type 0 where
  pub low : space_end ≤ base
  pub high : base + notes_room ≤ definitions_place

pub record Walking (m : Mode) (T : Table) (bytes : List ℕ) (first : ℕ) (src : List ℕ) (base : ℕ) (w : List ℕ) (s : Walk) (c : Turn) (k : List Wait) : Type 0 where
  pub small : length src < 65536
  pub space : regions_end ≤ length w
  pub base_is : Base base
  pub table_stands : TableStands bytes first T
  pub indexed : DefinitionsIndexed bytes first w definitions_place
  pub turn_is : TurnIs T src s c
  pub stack : StackAt src w k s.top
  pub standing : Standing c k
  pub asked : Asked T (asked_by c) k
  pub cells : Cells T w k
  pub few : turn_weight c + stack_weight k + unwalked w T.definitions ≤ 65536
  pub mode_is : ModeIs m T bytes src base w c k

-- one turn of a walk: less is left to do, what was known stays known, and the indexes stay
pub record Turned (m : Mode) (T : Table) (bytes : List ℕ) (first : ℕ) (src : List ℕ) (base : ℕ) (w : List ℕ) (weight : ℕ) (v : List ℕ) (r : Walk) : Type 0 where
  pub turn : Turn
  pub stack : List Wait
  pub walking : Walking m T bytes first src base v r turn stack
  pub less : turn_weight turn + stack_weight stack + unwalked v T.definitions < weight
  pub same_length : length v ≡ length w
  pub grows : (d : ℕ) → d < 65536 → cell v d ≡ 0 → cell w d ≡ 0
  pub beyond : (i : ℕ) → definitions_place ≤ i → get_or v i 0 ≡ get_or w i 0

-- what a turn is given
pub record Given (bytes : List ℕ) (first : ℕ) (src : List ℕ) (base : ℕ) (w : List ℕ) (s : Walk) : Type 0 where
  pub mode : Mode
  pub table : Table
  pub turn : Turn
  pub stack : List Wait
  pub walking : Walking mode table bytes first src base w s turn stack

-- what it does, whatever the walk stands for
abbrev pub Turns : (bytes : List ℕ) → (first : ℕ) → (src : List ℕ) → (base : ℕ) → (w : List ℕ) → Walk → (v : List ℕ) → Walk → Type 0
Turns bytes first src base w s v r =
    (m : Mode) (T : Table) (c : Turn) (k : List Wait) → Walking m T bytes first src base w s c k
    → Turned m T bytes first src base w (turn_weight c + stack_weight k + unwalked w T.definitions) v r

-- a defined tactic asked for its arity
pub record TacticGiven (bytes : List ℕ) (first : ℕ) (w : List ℕ) (s : Walk) (number : ℕ) : Type 0 where
  pub src : List ℕ
  pub base : ℕ
  pub mode : Mode
  pub table : Table
  pub at : ℕ
  pub tactic : TacticNo
  pub stack : List Wait
  pub number_is : number ≡ tactic.0
  pub walking : Walking mode table bytes first src base w s (asks at (defined tactic)) stack

abbrev pub TacticTurns : (bytes : List ℕ) → (first : ℕ) → (w : List ℕ) → Walk → (number : ℕ) → (v : List ℕ) → Walk → Type 0
TacticTurns bytes first w s number v r =
    (src : List ℕ) (base : ℕ) (m : Mode) (T : Table) (at : ℕ) (d : TacticNo) (k : List Wait) → number ≡ d.0 → Walking m T bytes first src base w s (asks at (defined d)) k
    → Turned m T bytes first src base w (turn_weight (asks at (defined d)) + stack_weight k + unwalked w T.definitions) v r

-- the end of a walk: nothing waits
pub record Ended (m : Mode) (T : Table) (bytes : List ℕ) (first : ℕ) (src : List ℕ) (base : ℕ) (w v : List ℕ) : Type 0 where
  pub turn : Turn
  pub mode_is : ModeIs m T bytes src base v turn []
  pub told : Told turn
  pub cells : Cells T v []
  pub indexed : DefinitionsIndexed bytes first v definitions_place
  pub same_length : length v ≡ length w
  pub grows : (d : ℕ) → d < 65536 → cell v d ≡ 0 → cell w d ≡ 0
  pub beyond : (i : ℕ) → definitions_place ≤ i → get_or v i 0 ≡ get_or w i 0

abbrev pub Walks : (bytes : List ℕ) → (first : ℕ) → (src : List ℕ) → (base : ℕ) → (w : List ℕ) → Walk → (v : List ℕ) → Type 0
Walks bytes first src base w s v = (m : Mode) (T : Table) (c : Turn) (k : List Wait) → Walking m T bytes first src base w s c k → Ended m T bytes first src base w v
