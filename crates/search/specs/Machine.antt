-- The search as a machine without recursion: a term to begin, the terms that wait for it, and the choices to go back to.
use Rattle.std.specs.Prelude.{ℕ, zero, suc, cond, List, [], ◌∷◌, ◌++◌}
use Rattle.std.proofs.Math.Option.{Option, none, some}
use Rattle.format.specs.declared.values.Goal.{Goal}
use Rattle.format.specs.declared.values.Label.{Label}
use Rattle.format.specs.Terms.{Term, atomic, id, label, sequence, tensor, empty, alternation, assert, defined}
use Rattle.tables.specs.Tables.{Table}
use Rattle.tables.specs.Lookup.{find_body}
use Rattle.evaluation.specs.Outcomes.{rule_gives, one_goal, no_goal, assert_gives, joined_fits}
use Rattle.search.specs.Answer.{Searched, proved, exhausted, spent}

-- A term that waits for an inner term to end, with what it still needs. `below` is how many levels may begin below the right term.
pub data Frame : Type 0 where
  labelled : Label → Frame
  sequence_left : (below : ℕ) (right : Term) → Frame
  sequence_right : (left : Term) → Frame
  tensor_left : (below : ℕ) (right : Term) (goals : List Goal) → Frame
  tensor_right : (left : Term) (gave : List Goal) → Frame

-- What can be tried when a later term fails, with the terms that waited: an alternation's right term, or a tensor's next split.
pub data Choice : Type 0 where
  or_else : (below : ℕ) (right : Term) (goals : List Goal) → List Frame → Choice
  next_split : (below : ℕ) (left right : Term) (left_goals right_goals : List Goal) → List Frame → Choice

-- a term that is to begin, its goals, the terms that wait, innermost first, and the choices, last first; or an evaluation that was found; or the end
pub data Control : Type 0 where
  running : (below : ℕ) → Term → List Goal → List Frame → List Choice → Control
  finished : Term → List Goal → List Choice → Control
  nothing : Control

pub record State : Type 0 where
  pub steps : ℕ
  pub control : Control

abbrev pub after : (steps : ℕ) → Control → State
after n κ = record { steps = n; control = κ }

-- the choices with a tensor's next split, if there is one
unfoldable pub with_next : (below : ℕ) (left right : Term) (left_goals right_goals : List Goal) → List Frame → List Choice → List Choice
with_next b t u g₁ [] k c = c
with_next b t u g₁ (γ ∷ g₂) k c = next_split b t u (g₁ ++ (γ ∷ [])) g₂ k ∷ c

-- a tensor on one split of its goals
unfoldable pub split : (below : ℕ) (left right : Term) (left_goals right_goals : List Goal) → List Frame → List Choice → Control
split b t u g₁ g₂ k c = running b t g₁ (tensor_left b u g₂ ∷ k) (with_next b t u g₁ g₂ k c)

-- "going back when a later term fails"
unfoldable pub back : List Choice → Control
back [] = nothing
back (or_else b u g k ∷ c) = running b u g k c
back (next_split b t u g₁ g₂ k ∷ c) = split b t u g₁ g₂ k c

-- from the end of a term to the next term to begin
unfoldable pub give : Term → List Goal → List Frame → List Choice → Control
give s g [] c = finished s g c
give s g (labelled l ∷ k) c = give (label l s) g k c
give s g (sequence_left b u ∷ k) c = running b u g (sequence_right s ∷ k) c
give s g (sequence_right r ∷ k) c = give (sequence r s) g k c
give s g (tensor_left b u h ∷ k) c = running b u h (tensor_right s g ∷ k) c
give s g (tensor_right r h ∷ k) c = cond (joined_fits (h ++ g)) (give (tensor r s) (h ++ g) k c) (back c)

-- a term without inner terms
abbrev pub give_if : Term → Option (List Goal) → List Frame → List Choice → Control
give_if s none k c = back c
give_if s (some g) k c = give s g k c

abbrev pub enter_or_back : {A : Type 0} → Option A → List Choice → (A → Control) → Control
enter_or_back none c next = back c
enter_or_back (some a) c next = next a

-- an inner term is begun only if a level is left
abbrev pub level_or_back : (below : ℕ) → List Choice → (ℕ → Control) → Control
level_or_back zero c next = back c
level_or_back (suc b) c next = next b

-- what a term does when it begins
unfoldable pub begin : Table → (below : ℕ) → Term → List Goal → List Frame → List Choice → Control
begin T b (atomic a) g k c = give_if (atomic a) (rule_gives T a g) k c
begin T b id g k c = give_if id (one_goal g) k c
begin T b (label l t) g k c = level_or_back b c λ d. enter_or_back (one_goal g) c λ h. running d t h (labelled l ∷ k) c
begin T b (sequence t u) g k c = level_or_back b c λ d. running d t g (sequence_left d u ∷ k) c
begin T b (tensor t u) g k c = level_or_back b c λ d. split d t u [] g k c
begin T b empty g k c = give_if empty (no_goal g) k c
begin T b (alternation t u) g k c = level_or_back b c λ d. running d t g k (or_else d u g k ∷ c)
begin T b (assert γ) g k c = give_if id (assert_gives T γ g) k c
begin T b (defined n) g k c = level_or_back b c λ d. enter_or_back (find_body T n) c λ t. running d t g k c

unfoldable pub step_from : Table → (steps : ℕ) → Control → State
step_from T n (running b t g k c) = after (suc n) (begin T b t g k c)
step_from T n (finished s g c) = after n (finished s g c)
step_from T n nothing = after n nothing

unfoldable pub step : Table → State → State
step T σ = step_from T σ.steps σ.control

unfoldable pub run : Table → (budget : ℕ) → State → State
run T zero σ = σ
run T (suc b) σ = run T b (step T σ)

-- what the machine has come to
unfoldable pub outcome : (steps : ℕ) → Control → Searched
outcome n (running b t g k c) = spent n
outcome n (finished s g c) = proved s g n
outcome n nothing = exhausted n

-- the term on its goals, nothing begun; `below` is one less than the height
unfoldable pub start : (below : ℕ) → Term → List Goal → State
start b t g = after 0 (running b t g [] [])
