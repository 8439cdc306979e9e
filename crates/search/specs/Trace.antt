-- Document 02, P13, "Free choice with a way back": all evaluations of a term on its goals at most so many rules high, in the order of the search, with every beginning.
use Rattle.std.specs.Prelude.{ℕ, zero, suc, cond, List, [], ◌∷◌, ◌++◌}
use Rattle.std.proofs.Math.Option.{Option, none, some}
use Rattle.format.specs.declared.values.Goal.{Goal}
use Rattle.format.specs.declared.values.Label.{Label}
use Rattle.format.specs.Terms.{Term, atomic, id, label, sequence, tensor, empty, alternation, assert, defined}
use Rattle.tables.specs.Tables.{Table}
use Rattle.tables.specs.Lookup.{find_body}
use Rattle.evaluation.specs.Outcomes.{rule_gives, one_goal, no_goal, assert_gives, joined_fits}
use Rattle.search.specs.Events.{Event, begun, found, for_each}

-- a term on a list of goals, and its events
abbrev pub Searches : Type 0
Searches = Term → List Goal → List Event

-- a form without inner terms has one evaluation or none
abbrev pub found_if : Term → Option (List Goal) → List Event
found_if s none = []
found_if s (some g) = found s g ∷ []

-- Document 01, "Running a tactic": "a term that cannot take its goals .. fails", and of a defined tactic "one without a definition fails"; nothing inside is begun.
abbrev pub enter_if : {A : Type 0} → Option A → (A → List Event) → List Event
enter_if none next = []
enter_if (some a) next = next a

-- a label round what its inner term left
unfoldable pub in_label : Label → List Event → List Event
in_label l es = for_each es λ s g. found (label l s) g ∷ []

-- the right term of a sequence on what the left one gave
unfoldable pub then_right : Searches → (right : Term) → List Event → List Event
then_right inner u es = for_each es λ s g. for_each (inner u g) λ r h. found (sequence s r) h ∷ []

-- the two lists joined; a list over 256 is no evaluation
abbrev pub found_joined : (left : Term) → List Goal → (right : Term) → List Goal → List Event
found_joined s g r h = cond (joined_fits (g ++ h)) (found (tensor s r) (g ++ h) ∷ []) []

-- one split of a tensor's goals: each evaluation of the left on its part, with each of the right on the others
unfoldable pub beside_right : Searches → (right : Term) → (goals : List Goal) → List Event → List Event
beside_right inner u g₂ es = for_each es λ s h₁. for_each (inner u g₂) λ r h₂. found_joined s h₁ r h₂

-- "shortest left part of a split first": the splits of the goals from the one with this left part on
unfoldable pub splits : Searches → (left right : Term) → (left_goals right_goals : List Goal) → List Event
splits inner t u g₁ [] = beside_right inner u [] (inner t g₁)
splits inner t u g₁ (γ ∷ g₂) = beside_right inner u (γ ∷ g₂) (inner t g₁) ++ splits inner t u (g₁ ++ (γ ∷ [])) g₂

-- What follows the beginning of a term, by its form; "left alternative first". Document 01: "alternations and defined tactics leave no field, assert leaves id, each other term leaves its own field."
unfoldable pub following : Table → Searches → Searches
following T inner (atomic a) g = found_if (atomic a) (rule_gives T a g)
following T inner id g = found_if id (one_goal g)
following T inner (label l t) g = enter_if (one_goal g) λ h. in_label l (inner t h)
following T inner (sequence t u) g = then_right inner u (inner t g)
following T inner (tensor t u) g = splits inner t u [] g
following T inner empty g = found_if empty (no_goal g)
following T inner (alternation t u) g = inner t g ++ inner u g
following T inner (assert γ) g = found_if id (assert_gives T γ g)
following T inner (defined n) g = enter_if (find_body T n) λ t. inner t g

-- "None is begun below depth h"
unfoldable pub trace : Table → (height : ℕ) → Searches
trace T zero t g = []
trace T (suc h) t g = begun ∷ following T (trace T h) t g
