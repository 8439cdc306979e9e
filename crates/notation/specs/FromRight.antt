-- P8: reading from the last mark to the first, with a stack of what waits to its left. Chains group to the right and a label reaches to the right,
-- so that whatever a mark is to take has been read before it.
use Rattle.std.specs.Prelude.{ℕ, cond, List, [], ◌∷◌, leb}
use Rattle.std.proofs.Math.Option.{Option, none, some}
use Rattle.format.specs.Terms.{Term}
use Rattle.notation.specs.Marks.{Sign, Mark, leaf, label_mark, sign, opening, closing, leaf_term, label_term, sign_term}
use Rattle.notation.specs.Written.{rank}

-- a sign whose right part was read, or a closing bracket; the last met comes first
pub data Frame : Type 0 where
  waiting : Sign → (right : Term) → Frame
  bracket : Frame

-- an operand is due, to the left; or a term was read; or the marks are none of the notation
pub data State : Type 0 where
  due : List Frame → State
  had : Term → List Frame → State
  stuck : State

-- the term made with every waiting sign that binds at least as tight, and the frames that are left
unfoldable pub reduced_term : (least : ℕ) → Term → List Frame → Term
reduced_term n t [] = t
reduced_term n t (bracket ∷ fs) = t
reduced_term n t (waiting s u ∷ fs) = cond (leb n (rank s)) (reduced_term n (sign_term s t u) fs) t

unfoldable pub reduced_frames : (least : ℕ) → List Frame → List Frame
reduced_frames n [] = []
reduced_frames n (bracket ∷ fs) = bracket ∷ fs
reduced_frames n (waiting s u ∷ fs) = cond (leb n (rank s)) (reduced_frames n fs) (waiting s u ∷ fs)

-- an opening bracket takes its closing one away
unfoldable pub unbracket : Term → List Frame → State
unbracket t [] = stuck
unbracket t (bracket ∷ fs) = had t fs
unbracket t (waiting s u ∷ fs) = stuck

unfoldable pub on_mark : Mark → State → State
on_mark m stuck = stuck
on_mark (leaf w) (due fs) = had (leaf_term w) fs
on_mark (leaf w) (had t fs) = stuck
on_mark (label_mark n) (due fs) = stuck
on_mark (label_mark n) (had t fs) = had (label_term n (reduced_term 0 t fs)) (reduced_frames 0 fs)
on_mark (sign s) (due fs) = stuck
on_mark (sign s) (had t fs) = due (waiting s (reduced_term (rank s) t fs) ∷ reduced_frames (rank s) fs)
on_mark opening (due fs) = stuck
on_mark opening (had t fs) = unbracket (reduced_term 0 t fs) (reduced_frames 0 fs)
on_mark closing (due fs) = due (bracket ∷ fs)
on_mark closing (had t fs) = stuck

-- the state once the marks are read, from the last to the first
unfoldable pub state_of : List Mark → State
state_of [] = due []
state_of (m ∷ ms) = on_mark m (state_of ms)

-- the term of marks that were all read
unfoldable pub whole_of : Term → List Frame → Option Term
whole_of t [] = some t
whole_of t (f ∷ fs) = none

unfoldable pub term_of : State → Option Term
term_of (due fs) = none
term_of (had t fs) = whole_of (reduced_term 0 t fs) (reduced_frames 0 fs)
term_of stuck = none
