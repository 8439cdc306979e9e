-- What a write into work space leaves as it was.
use Rattle.std.specs.Prelude.{ℕ, ◌≤◌, ◌<◌, ◌≡◌, List, length, get_or}
use Rattle.words.specs.Kept.{Kept}

-- the bytes from one place up to another are the same
abbrev pub Same : (from to : ℕ) → List ℕ → List ℕ → Type 0
Same from to w v = (i : ℕ) → from ≤ i → i < to → get_or v i 0 ≡ get_or w i 0

-- only bytes from one place up to another may differ
pub record Only (from to : ℕ) (w v : List ℕ) : Type 0 where
  pub same_length : length v ≡ length w
  pub kept : Kept w v from to
