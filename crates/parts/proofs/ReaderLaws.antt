-- A header that is read ends within what encloses it, by the tests of `header_at`.
-- Assumes nothing.
use mathlib.Core.Path.{◌≡◌, refl}
use mathlib.Core.Bool.{Bool}
use mathlib.Core.List.{List}
use Prim.Native.Nat.{ℕ}
use Rattle.format.specs.Results.{Result, gives, refused, told}
use Rattle.format.specs.Headers.{Header, header_at}
use Rattle.format.specs.Shapes.{header_shape}
use Rattle.format.proofs.HeaderLaws.{is_field}
use Rattle.parts.specs.Reader.{Encloses}

-- a header that is read ends within what encloses it
pub encloses : (s : List ℕ) (at end low high : ℕ) (full : Bool) → Encloses at end (header_shape (header_at s at end low high full))
unfolding Encloses header_shape told
encloses s at end low high full = go (header_at s at end low high full) refl
  where
    go : (x : Result Header) → header_at s at end low high full ≡ x → Encloses at end (header_shape x)
    go (gives h) e = (is_field s at end low high full h.tag h.len e).contents
    go (refused c p) e = tt
