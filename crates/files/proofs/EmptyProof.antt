-- A proof file of no bytes, and any other: what is read of them, by the two cases of a list.
-- Assumes nothing.
use mathlib.Core.Path.{◌≡◌, refl}
use mathlib.Core.List.{List, [], ◌∷◌}
use Prim.Native.Nat.{ℕ, ◌<◌}
use native.Mathlib.Omega.{arith}
use lib.ListN.{length}
use Rattle.format.specs.Encoding.{term_bytes, goal_bytes}
use Rattle.files.specs.Proofs.{read_proof_fields, proof_bytes, empty_proof, or_empty_proof, read_proof}

-- the encoding of the empty proof, byte by byte
pub empty_bytes : proof_bytes empty_proof ≡ 3 ∷ 0 ∷ 0 ∷ 21 ∷ 0 ∷ 0 ∷ 3 ∷ 0 ∷ 0 ∷ []
unfolding proof_bytes goal_bytes empty_proof term_bytes
empty_bytes = refl

-- what is read is never nothing
pub some_read : (s : List ℕ) → 0 < length (or_empty_proof s)
unfolding or_empty_proof
some_read [] = rw empty_bytes (omega arith)
some_read (b ∷ s) = omega arith

-- a file with a byte is read as it stands
pub itself : (s : List ℕ) → 0 < length s → or_empty_proof s ≡ s
unfolding or_empty_proof
itself [] h = absurd (omega (arith, h))
itself (b ∷ s) h = refl

pub none : (s : List ℕ) → length s ≡ 0 → or_empty_proof s ≡ proof_bytes empty_proof
unfolding or_empty_proof
none [] h = refl
none (b ∷ s) h = absurd (omega (arith, h))

pub read_itself : (s : List ℕ) → 0 < length s → read_proof s ≡ read_proof_fields s
unfolding read_proof
read_itself s h = rw (itself s h)

-- the bytes that are put in the place of none are read as the file is
pub read_alike : (s : List ℕ) → read_proof (or_empty_proof s) ≡ read_proof s
unfolding read_proof
read_alike s = rw (itself (or_empty_proof s) (some_read s))
