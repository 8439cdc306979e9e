-- What a state of the search's machine stands for: the events that are still to come.
use Rattle.std.specs.Prelude.{suc, cond, List, [], ◌∷◌, ◌++◌}
use Rattle.format.specs.declared.values.Goal.{Goal}
use Rattle.format.specs.Terms.{Term, label, sequence, tensor}
use Rattle.tables.specs.Tables.{Table}
use Rattle.evaluation.specs.Outcomes.{joined_fits}
use Rattle.search.specs.Events.{Event, found, for_each}
use Rattle.search.specs.Trace.{trace, splits}
use Rattle.search.specs.Machine.{Frame, labelled, sequence_left, sequence_right, tensor_left, tensor_right, Choice, or_else, next_split, Control, running, finished, nothing}

-- what the waiting terms make of an evaluation of the inner term
unfoldable pub onward : Table → List Frame → Term → List Goal → List Event
onward T [] s g = found s g ∷ []
onward T (labelled l ∷ k) s g = onward T k (label l s) g
onward T (sequence_left b u ∷ k) s g = for_each (trace T (suc b) u g) λ r h. onward T k (sequence s r) h
onward T (sequence_right r ∷ k) s g = onward T k (sequence r s) g
onward T (tensor_left b u h ∷ k) s g = for_each (trace T (suc b) u h) λ r m. cond (joined_fits (g ++ m)) (onward T k (tensor s r) (g ++ m)) []
onward T (tensor_right r h ∷ k) s g = cond (joined_fits (h ++ g)) (onward T k (tensor r s) (h ++ g)) []

-- what comes of the choices
unfoldable pub later : Table → List Choice → List Event
later T [] = []
later T (or_else b u g k ∷ c) = for_each (trace T (suc b) u g) (onward T k) ++ later T c
later T (next_split b t u g₁ g₂ k ∷ c) = for_each (splits (trace T (suc b)) t u g₁ g₂) (onward T k) ++ later T c

unfoldable pub events : Table → Control → List Event
events T (running b t g k c) = for_each (trace T (suc b) t g) (onward T k) ++ later T c
events T (finished s g c) = found s g ∷ later T c
events T nothing = []
