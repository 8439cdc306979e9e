-- Document 01, "Fields": goal lists; reading one: the header, then "goal count 5".
use Rattle.std.specs.Prelude.{ℕ, zero, suc, ◌+◌, ◌/◌, cond, false, List, [], ◌∷◌, ltb}
use Rattle.words.specs.Word.{word}
use Rattle.format.specs.declared.values.Goal.{Goal}
use Rattle.format.specs.Limits.{most_goals}
use Rattle.format.specs.Refusals.{LimitPassed}
use Rattle.format.specs.Results.{Result, gives, refused, and_then}
use Rattle.format.specs.Values.{goal}
use Rattle.format.specs.Tags.{goal_list_kind}
use Rattle.format.specs.Headers.{Header, header_at}

-- so many goals from a place on
unfoldable pub goals_at : List ℕ → (at count : ℕ) → List Goal
goals_at s at zero = []
goals_at s at (suc k) = goal (word s at) ∷ goals_at s (at + 2) k

-- a goal list, and the offset behind it
pub record ParsedGoals : Type 0 where
  pub goals : List Goal
  pub next : ℕ

-- the goal list at a place, once its header is read
unfoldable pub goals_of : List ℕ → (at : ℕ) → Header → Result ParsedGoals
goals_of s at h =
    cond (ltb most_goals (h.len / 2)) (refused LimitPassed at)
    (gives (record { goals = goals_at s (at + 3) (h.len / 2); next = at + 3 + h.len }))

-- the goal list at a place, within what ends at `end`
unfoldable pub read_goals : List ℕ → (at end : ℕ) → Result ParsedGoals
read_goals s at end = and_then (header_at s at end goal_list_kind goal_list_kind false) (goals_of s at)
