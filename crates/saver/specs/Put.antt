-- Blocks of bytes put into work space: what the writing functions say of it.
use Rattle.std.specs.Prelude.{ℕ, ◌+◌, ◌≡◌, List, length}
use Rattle.std.proofs.Math.Seq.{paste}

-- a list with a block in it from a place on
abbrev pub put : List ℕ → (at : ℕ) → List ℕ → List ℕ
put w at b = paste w at b (length b)

-- the block was written from a place on, and the result is where it ends
abbrev pub Writes : List ℕ → (to : ℕ) → List ℕ → (end : ℕ) → List ℕ → Type 0
Writes w to b r v = (r ≡ to + length b) × (v ≡ put w to b)
