-- How the code holds the terms that are written: their bytes one behind the other, and their sizes on a stack that comes down from the end of its room; the size of the first term is held apart.
use Rattle.std.specs.Prelude.{ℕ, ◌+◌, ◌≤◌, ◌<◌, ◌≡◌, List, [], ◌∷◌, length}
use Rattle.words.specs.Word.{word}
use Rattle.format.specs.Terms.{Term, size}
use Rattle.format.specs.Standing.{Stands}
use Rattle.outline.specs.Layout.{outline_end, sizes_end, most_size}
use Rattle.outline.specs.Built.{Built}

-- the bytes of the terms, from one place up to another
unfoldable pub AllStand : List ℕ → (front end : ℕ) → List Term → Type 0
AllStand w front end [] = front ≡ end
AllStand w front end (t ∷ ts) = Stands w front t × AllStand w (front + size t) end ts

-- the sizes: `last` that of the first term, and those of the others from `low` on, behind them what was held before any term was written
unfoldable pub Stacked : List ℕ → (low last : ℕ) → List Term → Type 0
Stacked w low last [] = low ≡ sizes_end
Stacked w low last (t ∷ ts) = (last ≡ size t) × Stacked w (low + 2) (word w low) ts

pub record Shown (w : List ℕ) (end : ℕ) (ts : List Term) (front low last : ℕ) : Type 0 where
  pub stand : AllStand w front end ts
  pub stacked : Stacked w low last ts

-- what the writing of the field at a place needs: it belongs to the outline of so many bytes, and the terms of the fields behind it are held
pub record FieldGiven (w : List ℕ) (count end at front low last : ℕ) : Type 0 where
  pub terms : List Term
  pub built : Built w count at terms
  pub held : (ts : List Term) → Built w count (at + 3) ts → Shown w end ts front low last
  pub more : at < count
  pub few : count ≤ outline_end
  pub room : sizes_end + most_size ≤ end
  pub inside : end ≤ length w
