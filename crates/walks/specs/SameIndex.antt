-- What a step leaves alone behind the arities: the index over the rules.
use Rattle.std.specs.Prelude.{ℕ, ◌≤◌, ◌<◌, ◌≡◌, List, get_or}
use Rattle.input_arities.specs.Layout.{arities_end}
use Rattle.walks.specs.Layout.{index_end}

abbrev pub SameIndex : (w w' : List ℕ) → Type 0
SameIndex w w' = (i : ℕ) → arities_end ≤ i → i < index_end → get_or w' i 0 ≡ get_or w i 0
