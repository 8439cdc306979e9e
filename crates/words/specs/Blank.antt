-- A part of the work space that was cleared.
use Rattle.std.specs.Prelude.{ℕ, ◌+◌, ◌≤◌, ◌<◌, ◌≡◌, List, get_or}
use Rattle.words.specs.Kept.{Kept}

-- n bytes from a place on are 0, and no other changed
pub record Blank (w w' : List ℕ) (from n : ℕ) : Type 0 where
  pub zeros : (i : ℕ) → from ≤ i → i < from + n → get_or w' i 0 ≡ 0
  pub kept : Kept w w' from (from + n)
