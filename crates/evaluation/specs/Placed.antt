-- Document 02, P1: what stands at the places that a halted run tells, in the bytes of its two files.
use Rattle.std.specs.Prelude.{ℕ, List, [], ◌∷◌}
use Rattle.format.specs.Standing.{Stands}
use Rattle.format.specs.Terms.{Term}
use Rattle.evaluation.specs.Machine.{Place, Frame, labelled, sequence_left, sequence_right, tensor_left, tensor_right, alternation_left}

-- the field of this term stands there
abbrev pub StandsAt : (bytes : (file : ℕ) → List ℕ) → Place → Term → Type 0
StandsAt bytes π t = Stands (bytes π.file) π.at t

-- At the place of a waiting term stands the field of its last inner term: of the right term that it keeps, and else, where that has begun already, of some term.
abbrev pub Placed : (bytes : (file : ℕ) → List ℕ) → Frame → Type 0
Placed b (labelled π l) = (t : Term) × StandsAt b π t
Placed b (sequence_left π u) = StandsAt b π u
Placed b (sequence_right π s) = (t : Term) × StandsAt b π t
Placed b (tensor_left π u h) = StandsAt b π u
Placed b (tensor_right π s h) = (t : Term) × StandsAt b π t
Placed b (alternation_left π u h) = StandsAt b π u

unfoldable pub AllPlaced : (bytes : (file : ℕ) → List ℕ) → List Frame → Type 0
AllPlaced b [] = Unit {0}
AllPlaced b (f ∷ w) = Placed b f × AllPlaced b w
