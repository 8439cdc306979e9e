-- How the terms that wait lie in the work space: four bytes for each, its place and one value. While a tensor waits for its left term the value is the end of the values that it takes; while it waits for its right term, where the values that it gives begin, and 32,768.
use Rattle.std.specs.Prelude.{ℕ, ◌+◌, ◌*◌, ◌≤◌, ◌<◌, ◌≡◌, List, [], ◌∷◌, length, get_or}
use Rattle.words.specs.Word.{word, put_word}
use Rattle.format.specs.Terms.{size}
use Rattle.format.specs.Standing.{Stands}
use Rattle.input_arities.specs.Layout.{stack_end}
use Rattle.walks.specs.Layout.{began}
use Rattle.walks.specs.Values.{values_at}
use Rattle.walks.specs.Waiting.{Waiting, sequence_left, tensor_left, tensor_right}

-- a frame stored at a place
unfoldable pub put_frame : List ℕ → (at place value : ℕ) → List ℕ
put_frame w at q v = put_word (put_word w at q) (at + 2) v

-- the last frame before p is at p' and names a place of the file with that tag
pub record Framed (s w : List ℕ) (p p' q tag : ℕ) : Type 0 where
  pub next : p ≡ p' + 4
  pub above : stack_end ≤ p'
  pub place_is : word w p' ≡ q
  pub inside : q < length s
  pub tag_is : get_or s q 0 ≡ tag

-- a tensor that waits for its left term: the values for its right term lie between the left's end and its own
pub record Beside (w : List ℕ) (p' end e c : ℕ) (g : List ℕ) : Type 0 where
  pub value_is : word w (p' + 2) ≡ e
  pub ends : end + c * 2 ≡ e
  pub below : e ≤ stack_end
  pub rest : g ≡ values_at w end c

-- a tensor that waits for its right term: what its left gave lies just below what its right is to give
pub record Joins (w : List ℕ) (p' l n low : ℕ) (h : List ℕ) : Type 0 where
  pub value_is : word w (p' + 2) ≡ began + l
  pub starts : l + n * 2 ≡ low
  pub below : low ≤ stack_end
  pub gave : h ≡ values_at w l n

-- The frames from the stacks' end to p show the terms that wait for a term that ends at the place `at` of the file, gives its values from `low` on and takes those before `end`.
unfoldable pub Shown : List ℕ → List ℕ → (p at low end : ℕ) → List Waiting → Type 0
Shown s w p at low end [] = (p ≡ stack_end) × (low ≡ 0) × (end ≡ stack_end)
Shown s w p at low end (sequence_left u r ∷ f) = (p' : ℕ) × (q : ℕ) × Framed s w p p' q 19 × (r ≡ at) × Stands s at u × Shown s w p' (at + size u) low end f
Shown s w p at low end (tensor_left q u r g ∷ f) = (p' : ℕ) × (e : ℕ) × (c : ℕ) × Framed s w p p' q 20 × Beside w p' end e c g × (r ≡ at) × Stands s at u × Shown s w p' (at + size u) low e f
Shown s w p at low end (tensor_right q h ∷ f) = (p' : ℕ) × (l : ℕ) × (n : ℕ) × Framed s w p p' q 20 × Joins w p' l n low h × Shown s w p' at l end f
