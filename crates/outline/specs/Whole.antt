-- A hiproof from its outline.
use Rattle.std.specs.Prelude.{ℕ, ◌+◌, ◌≤◌, ◌≡◌, List, length, take}
use Rattle.format.specs.Terms.{Term, size, Hiproof}
use Rattle.format.specs.Standing.{Stands}
use Rattle.outline.specs.Layout.{outline_end, sizes_end, most_size}
use Rattle.outline.specs.Outline.{outline_of}
use Rattle.outline.specs.Memory.{Around}

-- the outline of a hiproof is at the beginning of the work space, and the hiproof may be written up to `end`
pub record Outlined (w : List ℕ) (count end : ℕ) (p : Term) : Type 0 where
  pub hiproof : Hiproof p
  pub bytes_are : take count w ≡ outline_of p
  pub length_is : length (outline_of p) ≡ count
  pub few : count ≤ outline_end
  pub room : sizes_end + most_size ≤ end
  pub inside : end ≤ length w

-- the hiproof stands from a place up to `end`, and nothing else was written but sizes
pub record HiproofWritten (w v : List ℕ) (start end : ℕ) (p : Term) : Type 0 where
  pub stands : Stands v start p
  pub ends : start + size p ≡ end
  pub around : Around start end w v
