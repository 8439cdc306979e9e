-- The outline of what is finished and kept: the fields of the hiproof so far, in their order, by tag and value.
use Rattle.std.specs.Prelude.{ℕ, ◌≡◌, List, [], ◌∷◌, ◌++◌, length, take}
use Rattle.format.specs.Encoding.{word_bytes}
use Rattle.outline.specs.Outline.{outline_of}
use Rattle.search.specs.Machine as M
use Rattle.search.specs.Machine.{labelled, sequence_left, sequence_right, tensor_left, tensor_right}

-- a field
abbrev pub field : (tag value : ℕ) → List ℕ
field tag value = tag ∷ word_bytes value

-- of a term that waits: its own field, and its left term once that is finished
abbrev pub frame_outline : M.Frame → List ℕ
frame_outline (labelled l) = field 18 l.0
frame_outline (sequence_left b u) = field 19 0
frame_outline (sequence_right s) = field 19 0 ++ outline_of s
frame_outline (tensor_left b u h) = field 20 0
frame_outline (tensor_right s g) = field 20 0 ++ outline_of s

-- of the terms that wait, the outermost first
unfoldable pub waiting_outline : List M.Frame → List ℕ
waiting_outline [] = []
waiting_outline (x ∷ k) = waiting_outline k ++ frame_outline x

-- the outline of so many bytes at the beginning of the work space
pub record OutlineIs (w : List ℕ) (n : ℕ) (o : List ℕ) : Type 0 where
  pub is : take n w ≡ o
  pub long : length o ≡ n
