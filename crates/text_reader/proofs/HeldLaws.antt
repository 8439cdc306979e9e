-- The sizes of what is held, and when a state is stuck.
-- Assumes nothing.
use mathlib.Core.Path.{◌≡◌, refl, ap, ◌∙◌}
use mathlib.Core.Bool.{Bool, true, false, cond}
use mathlib.Core.List.{List, [], ◌∷◌, ◌++◌}
use Prim.Native.Nat.{ℕ, zero, suc, ◌+◌, ◌*◌, ◌≤◌}
use native.Mathlib.Omega.{arith}
use lib.Dec.{leb}
use lib.ListN.{length, drop, length-append}
use Rattle.format.specs.Terms.{Term, size}
use Rattle.format.specs.Encoding.{term_bytes}
use Rattle.format.proofs.Encoded.{length-term_bytes}
use Rattle.notation.specs.Marks.{Sign, Mark, leaf, label_mark, sign, opening, closing, label_term, sign_term}
use Rattle.notation.specs.Written.{rank}
use Rattle.notation.specs.Passing.{mark_size, sizes}
use Rattle.notation.specs.FromRight.{Frame, waiting, bracket, State, due, had, stuck, reduced_term, reduced_frames, unbracket, on_mark, state_of}
use Rattle.notation.proofs.PassingLaws.{size-sign_term, leaf-size_lem}
use Rattle.text_reader.specs.Held.{rest_bytes, waits, NotStuck, frames_of}

-- the bytes of a state, and the headers that wait
unfoldable pub needs : State → ℕ
needs (due fs) = length (rest_bytes fs) + 3 * waits fs
needs (had t fs) = size t + length (rest_bytes fs) + 3 * waits fs
needs stuck = 0

rest_length : (s : Sign) (u : Term) (fs : List Frame) → length (rest_bytes (waiting s u ∷ fs)) ≡ size u + length (rest_bytes fs)
unfolding rest_bytes
rest_length s u fs = length-append (term_bytes u) (rest_bytes fs) ∙ ap (λ (n : ℕ). n + length (rest_bytes fs)) (length-term_bytes u)

pub reduced_size : (n : ℕ) (t : Term) (fs : List Frame) → size (reduced_term n t fs) + length (rest_bytes (reduced_frames n fs)) + 3 * waits (reduced_frames n fs) ≡ size t + length (rest_bytes fs) + 3 * waits fs
unfolding reduced_term reduced_frames waits rest_bytes
reduced_size n t [] = refl
reduced_size n t (bracket ∷ fs) = refl
reduced_size n t (waiting s u ∷ fs) = go (leb n (rank s)) (reduced_size n (sign_term s t u) fs)
  where
    go : (c : Bool) → size (reduced_term n (sign_term s t u) fs) + length (rest_bytes (reduced_frames n fs)) + 3 * waits (reduced_frames n fs) ≡ size (sign_term s t u) + length (rest_bytes fs) + 3 * waits fs
        → size (cond c (reduced_term n (sign_term s t u) fs) t) + length (rest_bytes (cond c (reduced_frames n fs) (waiting s u ∷ fs))) + 3 * waits (cond c (reduced_frames n fs) (waiting s u ∷ fs)) ≡ size t + length (term_bytes u ++ rest_bytes fs) + 3 * (1 + waits fs)
    go true ih = ih ∙ omega (arith, size-sign_term s t u, rest_length s u fs)
    go false ih = refl

unbracket-size : (t : Term) (fs : List Frame) → NotStuck (unbracket t fs) → needs (unbracket t fs) ≡ size t + length (rest_bytes fs) + 3 * waits fs
unfolding unbracket needs rest_bytes waits
unbracket-size t [] h = absurd h
unbracket-size t (bracket ∷ fs) h = refl
unbracket-size t (waiting s u ∷ fs) h = absurd h

label_size : (n : ℕ) (t : Term) → size (label_term n t) ≡ 5 + size t
unfolding size
label_size n t = refl

pub mark_size_lem : (m : Mark) (σ : State) → NotStuck (on_mark m σ) → needs (on_mark m σ) ≡ mark_size m + needs σ
unfolding on_mark needs mark_size rest_bytes waits
mark_size_lem m stuck h = absurd h
mark_size_lem (leaf w) (due fs) h = omega (arith, leaf-size_lem w)
mark_size_lem (leaf w) (had t fs) h = absurd h
mark_size_lem (label_mark n) (due fs) h = absurd h
mark_size_lem (label_mark n) (had t fs) h = omega (arith, reduced_size 0 t fs, label_size n (reduced_term 0 t fs))
mark_size_lem (sign s) (due fs) h = absurd h
mark_size_lem (sign s) (had t fs) h = omega (arith, reduced_size (rank s) t fs, rest_length s (reduced_term (rank s) t fs) (reduced_frames (rank s) fs))
mark_size_lem opening (due fs) h = absurd h
mark_size_lem opening (had t fs) h = omega (arith, reduced_size 0 t fs, unbracket-size (reduced_term 0 t fs) (reduced_frames 0 fs) h)
mark_size_lem closing (due fs) h = omega arith
mark_size_lem closing (had t fs) h = absurd h

pub mark_unstuck : (m : Mark) (σ : State) → NotStuck (on_mark m σ) → NotStuck σ
unfolding on_mark
mark_unstuck m stuck h = absurd h
mark_unstuck m (due fs) h = tt
mark_unstuck m (had t fs) h = tt

pub drop_unstuck : (i : ℕ) (ms : List Mark) → NotStuck (state_of ms) → NotStuck (state_of (drop i ms))
unfolding state_of
drop_unstuck zero ms h = h
drop_unstuck (suc i) [] h = h
drop_unstuck (suc i) (m ∷ ms) h = drop_unstuck i ms (mark_unstuck m (state_of ms) h)

-- the bytes of a state and the headers that wait are those of the marks read
pub state_size : (ms : List Mark) → NotStuck (state_of ms) → needs (state_of ms) ≡ sizes ms
unfolding state_of sizes needs rest_bytes waits
state_size [] h = refl
state_size (m ∷ ms) h = mark_size_lem m (state_of ms) h ∙ ap (λ (n : ℕ). mark_size m + n) (state_size ms (mark_unstuck m (state_of ms) h))

-- no more frames than marks
left_few : (n : ℕ) (fs : List Frame) → length (reduced_frames n fs) ≤ length fs
unfolding reduced_frames
left_few n [] = omega arith
left_few n (bracket ∷ fs) = omega arith
left_few n (waiting s u ∷ fs) = go (leb n (rank s)) (left_few n fs)
  where
    go : (c : Bool) → length (reduced_frames n fs) ≤ length fs → length (cond c (reduced_frames n fs) (waiting s u ∷ fs)) ≤ suc (length fs)
    go true h = omega arith
    go false h = omega arith

unbracket_few : (t : Term) (fs : List Frame) → length (frames_of (unbracket t fs)) ≤ length fs
unfolding unbracket
unbracket_few t [] = omega arith
unbracket_few t (bracket ∷ fs) = omega arith
unbracket_few t (waiting s u ∷ fs) = omega arith

mark_few : (m : Mark) (σ : State) → length (frames_of (on_mark m σ)) ≤ 1 + length (frames_of σ)
unfolding on_mark
mark_few m stuck = omega arith
mark_few (leaf w) (due fs) = omega arith
mark_few (leaf w) (had t fs) = omega arith
mark_few (label_mark n) (due fs) = omega arith
mark_few (label_mark n) (had t fs) = omega (arith, left_few 0 fs)
mark_few (sign s) (due fs) = omega arith
mark_few (sign s) (had t fs) = omega (arith, left_few (rank s) fs)
mark_few opening (due fs) = omega arith
mark_few opening (had t fs) = omega (arith, left_few 0 fs, unbracket_few (reduced_term 0 t fs) (reduced_frames 0 fs))
mark_few closing (due fs) = omega arith
mark_few closing (had t fs) = omega arith

pub few_frames : (ms : List Mark) → length (frames_of (state_of ms)) ≤ length ms
unfolding state_of
few_frames [] = omega arith
few_frames (m ∷ ms) = omega (arith, mark_few m (state_of ms), few_frames ms)
