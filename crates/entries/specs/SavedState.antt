-- Document 02, P1: the saved state of a halted run, byte for byte, as docs/FORMAT.md gives its layout. "A halted run is written .. in a layout given in docs/:
-- its step count, the fields finished so far, and the waiting terms, each with its goals still to come, innermost last."
use Rattle.std.specs.Prelude.{ℕ, ◌+◌, ◌-◌, List, [], ◌∷◌, ◌++◌, length, replicate}
use Rattle.std.proofs.Math.Option.{Option, none, some}
use Rattle.format.specs.declared.values.Goal.{Goal}
use Rattle.format.specs.Encoding.{word_bytes, term_bytes, goal_bytes}
use Rattle.evaluation.specs.Machine.{Place, Frame, labelled, sequence_left, sequence_right, tensor_left, tensor_right, alternation_left, Control, running, stopped, State}
use Rattle.evaluation.specs.Halts.{stage, last_place, own_goals, held_of}

-- "as many as docs/ names": the bytes of every saved state. A halted run of n steps has at most n waiting terms and finished fields together, and of these (P12) at
-- most 4,096 fields: 6 bytes for each waiting term, and 5 + 16 for each finished field and the goals that it gave; the job's 256 goals, the term to begin and three
-- numbers make 524 more.
abbrev pub saved_size : ℕ
saved_size = 160268

-- the field of a left term that ended, "finished so far"
abbrev pub finished_field : Frame → List ℕ
finished_field (labelled π l) = []
finished_field (sequence_left π u) = []
finished_field (sequence_right π s) = term_bytes s
finished_field (tensor_left π u h) = []
finished_field (tensor_right π s h) = term_bytes s
finished_field (alternation_left π u h) = []

-- "the fields finished so far", outermost first
unfoldable pub finished_fields : List Frame → List ℕ
finished_fields [] = []
finished_fields (f ∷ w) = finished_fields w ++ finished_field f

-- a term that waits or is to begin: its stage, the file and the place of a term, and goals
abbrev pub waiting_term : (stage : ℕ) → Place → List Goal → List ℕ
waiting_term k π g = k ∷ π.file ∷ word_bytes π.at ++ word_bytes (length g) ++ goal_bytes g

-- "the waiting terms, each with its goals still to come, innermost last"; those inside hold so many goals of the list on which the next one was begun
unfoldable pub waiting_terms : (inside : ℕ) → List Frame → List ℕ
waiting_terms x [] = []
waiting_terms x (f ∷ w) = waiting_terms (held_of x f) w ++ waiting_term (stage f) (last_place f) (own_goals x f)

-- "its step count, the fields finished so far, and the waiting terms", the term to begin with all its goals as the last of these
unfoldable pub saved_contents : (steps : ℕ) → Place → List Goal → List Frame → List ℕ
saved_contents n π g w =
    word_bytes n ++ word_bytes (length (finished_fields w)) ++ finished_fields w ++ word_bytes (length w + 1) ++ waiting_terms (length g) w ++ waiting_term 0 π g

-- "zeros last"
abbrev pub zeros_to : (size : ℕ) → List ℕ → List ℕ
zeros_to n s = s ++ replicate (n - length s) 0

-- the saved state of a run that halts; there is none of a run that has ended
unfoldable pub saved_in : (steps : ℕ) → Control → Option (List ℕ)
saved_in n (running π t g w) = some (zeros_to saved_size (saved_contents n π g w))
saved_in n (stopped e) = none

unfoldable pub saved_state : State → Option (List ℕ)
saved_state σ = saved_in σ.steps σ.control
