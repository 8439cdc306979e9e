-- Document 02, P1: the places in a saved state, "0 the table, 1 the job" and a byte offset, are those of fields: a debugger finds there the term to begin, and of each
-- waiting term its last inner term.
use Rattle.std.specs.Prelude.{ℕ, cond, List, eqb}
use Rattle.evaluation.specs.Placed.{StandsAt, AllPlaced}
use Rattle.run_promises.specs.HaltingPromises.{HaltsAfter}

abbrev pub file_of : (table job : List ℕ) → (file : ℕ) → List ℕ
file_of t f n = cond (eqb n 0) t f

abbrev pub Places-stand : Type 0
Places-stand = (t f : List ℕ) (n : ℕ) (x : HaltsAfter t f n) → StandsAt (file_of t f) x.place x.term × AllPlaced (file_of t f) x.waiting
