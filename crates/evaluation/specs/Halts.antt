-- Document 02, P1: what a halted run holds, as its saved state gives it: "the fields finished so far, and the waiting terms, each with its goals still
-- to come, innermost last".
use Rattle.std.specs.Prelude.{ℕ, ◌+◌, ◌-◌, ◌≡◌, cond, List, [], ◌∷◌, ◌++◌, eqb, length, take}
use Rattle.format.specs.declared.values.Goal.{Goal}
use Rattle.format.specs.Terms.{size}
use Rattle.evaluation.specs.Machine.{Place, Frame, labelled, sequence_left, sequence_right, tensor_left, tensor_right, alternation_left}

-- which of its inner terms a waiting term waits for
abbrev pub stage : Frame → ℕ
stage (labelled π l) = 1
stage (sequence_left π u) = 2
stage (sequence_right π s) = 3
stage (tensor_left π u h) = 4
stage (tensor_right π s h) = 5
stage (alternation_left π u h) = 6

-- the place of its last inner term
abbrev pub last_place : Frame → Place
last_place (labelled π l) = π
last_place (sequence_left π u) = π
last_place (sequence_right π s) = π
last_place (tensor_left π u h) = π
last_place (tensor_right π s h) = π
last_place (alternation_left π u h) = π

-- The goals of a waiting term that no term inside it holds: those of a tensor's right term that is to begin, those that a tensor's left term gave, and
-- of an alternation's list those that the terms inside have used up. Those inside hold the last `inside` goals of the list on which it was begun.
abbrev pub own_goals : (inside : ℕ) → Frame → List Goal
own_goals x (labelled π l) = []
own_goals x (sequence_left π u) = []
own_goals x (sequence_right π s) = []
own_goals x (tensor_left π u h) = h
own_goals x (tensor_right π s h) = h
own_goals x (alternation_left π u h) = take (length h - x) h

-- how many goals of the list on which it was begun it holds, together with the terms inside it; a sequence's right term has a list of its own
abbrev pub held_of : (inside : ℕ) → Frame → ℕ
held_of x (labelled π l) = x
held_of x (sequence_left π u) = x
held_of x (sequence_right π s) = 0
held_of x (tensor_left π u h) = x + length h
held_of x (tensor_right π s h) = x
held_of x (alternation_left π u h) = length h

-- those goals themselves, as one who reads a saved state rebuilds them at a waiting term: from its stage and its own goals, which are saved, and from the goals
-- rebuilt inside it; those of the term to begin are all saved
abbrev pub rebuilt : (inside : List Goal) → (stage : ℕ) → (own : List Goal) → List Goal
rebuilt y k g = cond (eqb k 3) [] (cond (eqb k 4) (y ++ g) (cond (eqb k 6) (g ++ y) y))

abbrev pub held_goals : (inside : List Goal) → Frame → List Goal
held_goals y f = rebuilt y (stage f) (own_goals (length y) f)

-- these are all goals of an alternation, on which its right term is to begin
abbrev pub IsWhole : Frame → List Goal → Type 0
IsWhole (labelled π l) g = Unit {0}
IsWhole (sequence_left π u) g = Unit {0}
IsWhole (sequence_right π s) g = Unit {0}
IsWhole (tensor_left π u h) g = Unit {0}
IsWhole (tensor_right π s h) g = Unit {0}
IsWhole (alternation_left π u h) g = h ≡ g

abbrev pub Rebuilt : (inside : List Goal) → Frame → Type 0
Rebuilt y f = IsWhole f (held_goals y f)

-- of every alternation that waits all goals are rebuilt: the waiting terms share their goals with those inside them
unfoldable pub Shared : (inside : List Goal) → List Frame → Type 0
Shared y [] = Unit {0}
Shared y (f ∷ w) = Rebuilt y f × Shared (held_goals y f) w

-- all own goals of the waiting terms, innermost first
unfoldable pub own_count : (inside : ℕ) → List Frame → ℕ
own_count x [] = 0
own_count x (f ∷ w) = length (own_goals x f) + own_count (held_of x f) w

-- the bytes of the term that a waiting term keeps
abbrev pub kept_size : Frame → ℕ
kept_size (labelled π l) = 0
kept_size (sequence_left π u) = 0
kept_size (sequence_right π s) = size s
kept_size (tensor_left π u h) = 0
kept_size (tensor_right π s h) = size s
kept_size (alternation_left π u h) = 0

-- those that the waiting terms keep
unfoldable pub kept_bytes : List Frame → ℕ
kept_bytes [] = 0
kept_bytes (f ∷ w) = kept_size f + kept_bytes w
