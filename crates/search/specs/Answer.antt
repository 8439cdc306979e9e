-- Document 02, P13, "Free choice with a way back": what a search comes to under a budget.
use Rattle.std.specs.Prelude.{ℕ, zero, suc, List, [], ◌∷◌}
use Rattle.format.specs.declared.values.Goal.{Goal}
use Rattle.format.specs.Terms.{Term}
use Rattle.tables.specs.Tables.{Table}
use Rattle.search.specs.Events.{Event, begun, found}
use Rattle.search.specs.Trace.{trace}

-- a proof; "41, only if no such evaluation exists"; "24 if the budget ends before either is known"; each after so many steps
pub data Searched : Type 0 where
  proved : Term → List Goal → (steps : ℕ) → Searched
  exhausted : (steps : ℕ) → Searched
  spent : (steps : ℕ) → Searched

-- "is one step against the budget, in that order": the events one after the other, with so many steps left and so many taken, up to the first evaluation
unfoldable pub first_found : (left taken : ℕ) → List Event → Searched
first_found b n [] = exhausted n
first_found b n (found s g ∷ es) = proved s g n
first_found zero n (begun ∷ es) = spent n
first_found (suc b) n (begun ∷ es) = first_found b (suc n) es

-- a term on its goals: "takes a height h .. and a budget"
unfoldable pub search : Table → (height budget : ℕ) → Term → List Goal → Searched
search T h b t g = first_found b 0 (trace T h t g)
