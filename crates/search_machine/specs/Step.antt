-- A step and a run of the search: what the code is given, and what it shows afterwards.
use Rattle.std.specs.Prelude.{ℕ, ◌+◌, ◌%◌, ◌<◌, ◌≤◌, ◌≡◌, List, length, get_or}
use Rattle.format.specs.declared.values.Goal.{Goal}
use Rattle.format.specs.Limits.{most_search_steps}
use Rattle.format.specs.Terms.{Term}
use Rattle.tables.specs.Tables.{Table}
use Rattle.tables.specs.Standing.{TableStands}
use Rattle.search.specs.Machine as M
use Rattle.search_machine.specs.declared.state.State.{State}
use Rattle.index.specs.Build.{RulesIndexed, DefinitionsIndexed}
use Rattle.outline.specs.Layout.{outline_end}
use Rattle.tactics.specs.Memory.{Same}
use Rattle.tactics.specs.Source.{source}
use Rattle.search_machine.specs.Layout.{definitions_place, rules_place, arena_low, space_end}
use Rattle.search_machine.specs.Shows.{Begun, Runs, Holds, Shows}
use Rattle.search_machine.specs.Begun.{begun}

-- rules and definitions are found by the index in the work space
pub record TableIndexed (bytes : List ℕ) (first : ℕ) (w : List ℕ) : Type 0 where
  pub rules : RulesIndexed bytes first w rules_place
  pub definitions : DefinitionsIndexed bytes first w definitions_place

-- a term that was counted and is begun
pub record Stood (src w : List ℕ) (s : State) : Type 0 where
  pub few_steps : s.steps ≤ most_search_steps
  pub space : space_end ≤ length w
  pub src_small : length src < 65536
  pub bytes : List ℕ
  pub job : List ℕ
  pub so : source bytes job (s.level % 2) ≡ src
  pub below : ℕ
  pub term : Term
  pub goals : List Goal
  pub frames : List M.Frame
  pub choices : List M.Choice
  pub starts : Begun bytes job w s below term goals frames choices

-- its tag is not one of a form without inner terms, and a level is left
pub record InnerTag (src : List ℕ) (s : State) (tag down : ℕ) : Type 0 where
  pub tag_is : get_or src s.at 0 ≡ tag
  pub not_17 : tag ≡ 17 → ⊥
  pub not_21 : tag ≡ 21 → ⊥
  pub not_16 : tag ≡ 16 → ⊥
  pub not_23 : tag ≡ 23 → ⊥
  pub down_is : down + 2 ≡ s.level

-- nor of one with one inner term
pub record PairTag (src : List ℕ) (s : State) (tag down : ℕ) : Type 0 where
  pub inner : InnerTag src s tag down
  pub not_18 : tag ≡ 18 → ⊥
  pub not_24 : tag ≡ 24 → ⊥

abbrev pub BeginsAny : (bytes : List ℕ) → (first : ℕ) → (src w : List ℕ) → State → List ℕ → State → Type 0
BeginsAny bytes first src w s v r =
    (T : Table) (job : List ℕ) (b : ℕ) (t : Term) (g : List Goal) (k : List M.Frame) (c : List M.Choice) → TableStands bytes first T → source bytes job (s.level % 2) ≡ src
    → Begun bytes job w s b t g k c → Holds bytes job v r (begun T b t g k c)

abbrev pub BeginsPair : (src w : List ℕ) → State → List ℕ → State → Type 0
BeginsPair src w s v r =
    (bytes job : List ℕ) (T : Table) (b : ℕ) (t : Term) (g : List Goal) (k : List M.Frame) (c : List M.Choice) → source bytes job (s.level % 2) ≡ src
    → Begun bytes job w s b t g k c → Holds bytes job v r (begun T b t g k c)

-- what the search's step is given: a state in which a term is to begin, and a table that was read
pub record Given (bytes : List ℕ) (first : ℕ) (src w : List ℕ) (s : State) : Type 0 where
  pub steps_left : s.steps < most_search_steps
  pub space : space_end ≤ length w
  pub src_small : length src < 65536
  pub table : Table
  pub table_stands : TableStands bytes first table
  pub indexed : TableIndexed bytes first w
  pub job : List ℕ
  pub so : source bytes job (s.level % 2) ≡ src
  pub below : ℕ
  pub term : Term
  pub goals : List Goal
  pub frames : List M.Frame
  pub choices : List M.Choice
  pub runs : Runs bytes job w s below term goals frames choices

-- what the code shows is where the machine stands next
abbrev pub Stepped : (bytes : List ℕ) → (first : ℕ) → (src w : List ℕ) → State → List ℕ → State → Type 0
Stepped bytes first src w s v r =
    (T : Table) (job : List ℕ) (b : ℕ) (t : Term) (g : List Goal) (k : List M.Frame) (c : List M.Choice) → TableStands bytes first T → source bytes job (s.level % 2) ≡ src
    → Runs bytes job w s b t g k c → Shows bytes job v r (M.begin T b t g k c)

pub record Grown (w : List ℕ) (s : State) (v : List ℕ) (r : State) : Type 0 where
  pub same_length : length v ≡ length w
  pub one_step : r.steps ≡ s.steps + 1
  pub index_same : Same outline_end arena_low w v

-- a state of the machine: its steps, and where it stands
pub record ShowsState (table job w : List ℕ) (s : State) (σ : M.State) : Type 0 where
  pub steps_are : s.steps ≡ σ.steps
  pub shows : Shows table job w s σ.control

-- what a run is given
pub record Started (bytes : List ℕ) (first : ℕ) (job w : List ℕ) (s : State) (budget : ℕ) : Type 0 where
  pub steps_left : s.steps + budget ≤ most_search_steps
  pub space : space_end ≤ length w
  pub table_small : length bytes < 65536
  pub job_small : length job < 65536
  pub table : Table
  pub table_stands : TableStands bytes first table
  pub indexed : TableIndexed bytes first w
  pub below : ℕ
  pub term : Term
  pub goals : List Goal
  pub frames : List M.Frame
  pub choices : List M.Choice
  pub runs : Runs bytes job w s below term goals frames choices

-- a run: what the code shows is the machine's state after at most so many steps
pub record Ran (bytes : List ℕ) (first : ℕ) (job w : List ℕ) (s : State) (budget : ℕ) (v : List ℕ) (r : State) : Type 0 where
  pub same_length : length v ≡ length w
  pub few_steps : r.steps ≤ s.steps + budget
  pub shows : (T : Table) (b : ℕ) (t : Term) (g : List Goal) (k : List M.Frame) (c : List M.Choice) → TableStands bytes first T → Runs bytes job w s b t g k c
      → ShowsState bytes job v r (M.run T budget (M.after s.steps (M.running b t g k c)))
