-- The plan from which a term is written: three bytes for each entry of a flat file, the rule name of a use and the number of its premises, or the mark of an open in the number's place.
use Rattle.std.specs.Prelude.{ℕ, ◌+◌, ◌*◌, ◌<◌, ◌≡◌, List, [], ◌∷◌, length, get_or}
use Rattle.words.specs.Word.{word}
use Rattle.words.specs.Kept.{Kept}
use Rattle.format.specs.Limits.{most_entries}
use Rattle.tables.specs.Tables.{Table}
use Rattle.files.specs.Derivations.{Entry, use_entry, open_entry}
use Rattle.hitac.specs.Forest.{premises_of}

-- the bytes of the plan of the most entries
abbrev pub plan_size : ℕ
plan_size = most_entries * 3

-- no rule has so many premises
abbrev pub open_mark : ℕ
open_mark = 255

-- the place behind these entries, the first of which is at a place
abbrev pub behind : (at : ℕ) → List Entry → ℕ
behind at es = at + length es * 3

-- the plan of these entries, from a place on
unfoldable pub Planned : Table → List ℕ → (at : ℕ) → List Entry → Type 0
Planned T p at [] = Unit {0}
Planned T p at (use_entry a γ ∷ es) =
    (word p at ≡ a.0) × (get_or p (at + 2) 0 ≡ length (premises_of T a γ)) × (length (premises_of T a γ) < open_mark) × Planned T p (at + 3) es
Planned T p at (open_entry γ ∷ es) = (get_or p (at + 2) 0 ≡ open_mark) × Planned T p (at + 3) es

-- the plan of one entry was stored at a place, and nothing else
pub record Noted (p p' : List ℕ) (at name count : ℕ) : Type 0 where
  pub name_is : word p' at ≡ name
  pub count_is : get_or p' (at + 2) 0 ≡ count
  pub kept : Kept p p' at (at + 3)
