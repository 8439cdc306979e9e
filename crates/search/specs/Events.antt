-- Document 02, P13, "Free choice with a way back": what a search does, one event after the other.
use Rattle.std.specs.Prelude.{ℕ, suc, List, [], ◌∷◌, ◌++◌}
use Rattle.format.specs.declared.values.Goal.{Goal}
use Rattle.format.specs.Terms.{Term}

-- "Each beginning of a term on a list of goals, first or again, is one step"; an evaluation that was found, its hiproof and the goals that remain, is none
pub data Event : Type 0 where
  begun : Event
  found : Term → List Goal → Event

-- For each evaluation found, what is done next; "going back when a later term fails": the events behind it come when all of that is done.
-- "taking up a finished term for its next evaluation is no step of its own": going back adds no event.
unfoldable pub for_each : List Event → (Term → List Goal → List Event) → List Event
for_each [] next = []
for_each (begun ∷ es) next = begun ∷ for_each es next
for_each (found s g ∷ es) next = next s g ++ for_each es next

-- an evaluation is among the events
pub data FoundIn : List Event → Term → List Goal → Type 0 where
  here : {es : List Event} {s : Term} {g : List Goal} → FoundIn (found s g ∷ es) s g
  later : {e : Event} {es : List Event} {s : Term} {g : List Goal} → FoundIn es s g → FoundIn (e ∷ es) s g

-- it is the first one, and comes after so many steps
pub data First : List Event → (steps : ℕ) → Term → List Goal → Type 0 where
  at_once : {es : List Event} {s : Term} {g : List Goal} → First (found s g ∷ es) 0 s g
  one_more : {es : List Event} {n : ℕ} {s : Term} {g : List Goal} → First es n s g → First (begun ∷ es) (suc n) s g
