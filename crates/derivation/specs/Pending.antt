-- The pending goals: those of lists of premises in the table, the last list first, then roots in the flat file.
use Rattle.std.specs.Prelude.{ℕ, zero, suc, ◌+◌, ◌*◌, ◌-◌, ◌/◌, ◌≤◌, ◌<◌, ◌≡◌, Bool, true, false, List, [], ◌∷◌, ◌++◌, length, drop, Option, None, Some}
use Rattle.words.specs.Word.{word}
use Rattle.words.specs.Kept.{Kept}
use Rattle.format.specs.declared.values.Goal.{Goal}
use Rattle.format.specs.Goals.{goals_at}
use Rattle.tables.specs.Lookup.{same_goal}
use Rattle.derivation.specs.declared.pending.Pending.{Pending}
use Rattle.derivation.specs.Layout.{cursors_place}

-- the place of the first goal that is left of a list, and how many are left, by the list's cursor
unfoldable pub place_in : List ℕ → (cursor : ℕ) → ℕ
place_in w d = word w (cursors_place + d * 4)

unfoldable pub left_in : List ℕ → (cursor : ℕ) → ℕ
left_in w d = word w (cursors_place + d * 4 + 2)

-- the goals that are left of so many lists, those of the last in front
unfoldable pub waiting : (table work : List ℕ) → (lists : ℕ) → List Goal
waiting table w zero = []
waiting table w (suc d) = goals_at table (place_in w d) (left_in w d) ++ waiting table w d

-- the place of the first entry behind so many roots
abbrev pub first_entry : (roots : ℕ) → ℕ
first_entry n = 3 + n * 2

-- the last of so many roots
abbrev pub last_roots : List ℕ → (roots left : ℕ) → List Goal
last_roots flat n k = goals_at flat (first_entry (n - k)) k

abbrev pub pending_in : (table flat : List ℕ) → (roots : ℕ) → (work : List ℕ) → Pending → List Goal
pending_in table flat n w p = waiting table w p.lists ++ last_roots flat n p.roots

-- a goal is left of a list, and those that are left lie within the table
pub record Cursor (table : List ℕ) (place left : ℕ) : Type 0 where
  pub some_left : 0 < left
  pub inside : place + left * 2 ≤ length table

-- so it is for every list; the roots lie within the flat file
pub record Pends (table flat : List ℕ) (roots : ℕ) (work : List ℕ) (p : Pending) : Type 0 where
  pub cursors : (d : ℕ) → d < p.lists → Cursor table (place_in work d) (left_in work d)
  pub room : cursors_place + p.lists * 4 ≤ length work
  pub few_roots : p.roots ≤ roots
  pub roots_inside : first_entry roots ≤ length flat

-- "Each entry must carry the first pending goal."
unfoldable pub carries_first : Goal → (pending : List Goal) → Bool
carries_first γ [] = false
carries_first γ (δ ∷ g) = same_goal γ δ

-- the first goal less
pub record Passes (table flat : List ℕ) (roots : ℕ) (w w' : List ℕ) (p r : Pending) : Type 0 where
  pub others : pending_in table flat roots w' r ≡ drop 1 (pending_in table flat roots w p)
  pub pends : Pends table flat roots w' r
  pub few : r.lists ≤ p.lists
  pub kept : Kept w w' cursors_place (cursors_place + p.lists * 4)

-- if it is this goal
unfoldable pub Takes : (table flat : List ℕ) → (roots : ℕ) → (w w' : List ℕ) → Pending → Goal → Option Pending → Type 0
Takes table flat n w w' p γ None = (carries_first γ (pending_in table flat n w p) ≡ false) × (w' ≡ w)
Takes table flat n w w' p γ (Some r) = (carries_first γ (pending_in table flat n w p) ≡ true) × Passes table flat n w w' p r

-- the field of a rule of at most eight premises lies within the table
pub record RuleInside (table : List ℕ) (rule : ℕ) : Type 0 where
  pub seven : rule + 7 ≤ length table
  pub least : 4 ≤ word table (rule + 1)
  pub most : word table (rule + 1) ≤ 20
  pub inside : rule + 3 + word table (rule + 1) ≤ length table

-- the premises of a rule more, in front
pub record Pushes (table flat : List ℕ) (roots : ℕ) (w w' : List ℕ) (rule : ℕ) (p r : Pending) : Type 0 where
  pub in_front : pending_in table flat roots w' r ≡ goals_at table (rule + 7) (word table (rule + 1) / 2 - 2) ++ pending_in table flat roots w p
  pub pends : Pends table flat roots w' r
  pub few : r.lists ≤ p.lists + 1
  pub kept : Kept w w' cursors_place (cursors_place + p.lists * 4 + 4)
