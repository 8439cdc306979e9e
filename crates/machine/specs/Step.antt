-- A step: what the code is given, and what it shows afterwards.
use Rattle.std.specs.Prelude.{ℕ, ◌+◌, ◌<◌, ◌≤◌, ◌≡◌, List, length, get_or}
use Rattle.format.specs.declared.values.Goal.{Goal}
use Rattle.format.specs.Limits.{most_steps}
use Rattle.format.specs.Terms.{Term}
use Rattle.tables.specs.Tables.{Table}
use Rattle.tables.specs.Standing.{TableStands}
use Rattle.evaluation.specs.Machine as M
use Rattle.arities.specs.Layout.{frames_end, space_end}
use Rattle.arities.specs.Arities.{ArityTable, arities}
use Rattle.tactics.specs.Source.{source}
use Rattle.machine.specs.declared.state.State.{State}
use Rattle.machine.specs.Shows.{Runs, Holds, Shows}
use Rattle.machine.specs.Begun.{begun, Ready}

-- after a term was begun: the arities are the same, and one step was counted
pub record Grown (w : List ℕ) (s : State) (v : List ℕ) (r : State) : Type 0 where
  pub beyond : (i : ℕ) → frames_end ≤ i → get_or v i 0 ≡ get_or w i 0
  pub same_length : length v ≡ length w
  pub one_step : r.steps ≡ s.steps + 1

-- what the machine's step is given: a state in which a term is to begin, a table that was read, and its arities in work space
pub record Given (bytes : List ℕ) (first : ℕ) (src w : List ℕ) (s : State) : Type 0 where
  pub steps_left : s.steps < most_steps
  pub space : space_end ≤ length w
  pub src_small : length src < 65536
  pub table : Table
  pub table_stands : TableStands bytes first table
  pub known : ArityTable w (arities table)
  pub job : List ℕ
  pub so : source bytes job s.file ≡ src
  pub place : M.Place
  pub term : Term
  pub goals : List Goal
  pub frames : List M.Frame
  pub runs : Runs bytes job w s place term goals frames

-- what is said of every state that the code may stand for
abbrev pub ForAny : (bytes : List ℕ) → (first : ℕ) → (src w : List ℕ) → State → (List ℕ → Table → M.Place → Term → List Goal → List M.Frame → Type 0) → Type 0
ForAny bytes first src w s P =
    (T : Table) (job : List ℕ) (π : M.Place) (t : Term) (g : List Goal) (k : List M.Frame) → TableStands bytes first T → source bytes job s.file ≡ src → ArityTable w (arities T)
    → Runs bytes job w s π t g k → P job T π t g k

-- one term begun
abbrev pub BeginsAny : (bytes : List ℕ) → (first : ℕ) → (src w : List ℕ) → State → List ℕ → State → Type 0
BeginsAny bytes first src w s v r = ForAny bytes first src w s (λ job T π t g k. Holds bytes job v r (begun T π t g k))

-- "A step begins one term and leaves the next state": what the code shows is where the machine stands next
abbrev pub Stepped : (bytes : List ℕ) → (first : ℕ) → (src w : List ℕ) → State → List ℕ → State → Type 0
Stepped bytes first src w s v r = ForAny bytes first src w s (λ job T π t g k. Shows bytes job v r (M.begin T π t g k))

-- what beginning a term with two inner terms is given and does
pub record PairStands (src w : List ℕ) (s : State) (tag : ℕ) : Type 0 where
  pub ready : Ready w s
  pub src_small : length src < 65536
  pub tag_is : get_or src s.at 0 ≡ tag
  pub pair : (tag ≡ 17 → ⊥) × (tag ≡ 21 → ⊥) × (tag ≡ 16 → ⊥) × (tag ≡ 18 → ⊥) × (tag ≡ 23 → ⊥) × (tag ≡ 24 → ⊥)
  pub bytes : List ℕ
  pub job : List ℕ
  pub so : source bytes job s.file ≡ src
  pub place : M.Place
  pub term : Term
  pub goals : List Goal
  pub frames : List M.Frame
  pub runs : Runs bytes job w s place term goals frames

abbrev pub BeginsPair : (src w : List ℕ) → State → List ℕ → State → Type 0
BeginsPair src w s v r =
    (bytes job : List ℕ) (T : Table) (π : M.Place) (t : Term) (g : List Goal) (k : List M.Frame) → source bytes job s.file ≡ src → ArityTable w (arities T)
    → Runs bytes job w s π t g k → Holds bytes job v r (begun T π t g k)
