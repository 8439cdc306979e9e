-- The search for 6, 7, 8 and 9 over the bytes of a table: over headers one behind the other, by what is repeated.
use Rattle.std.specs.Prelude.{Some, None, ℕ, ◌+◌, ◌≤◌, ◌≡◌, Bool, true, ◌&&◌, not, List, [], ◌∷◌, eqb, length, get_or}
use Rattle.std.specs.Prelude as std
use Rattle.std.proofs.Math.Option.{Option, none, some}
use Rattle.words.specs.Word.{word}
use Rattle.format.specs.Tags.{least_of}
use Rattle.tables.specs.declared.repeats.Repeat.{Repeat}
use Rattle.tables.specs.declared.repeats.Repeat.TheVariants as K
use Rattle.tables.specs.Repeats.{Placed}
use Rattle.tables.specs.Standing.{InRow}

-- the tag of the fields that the search is about: rules, definitions, labels
unfoldable pub searched_tag : Repeat → ℕ
searched_tag K.Rule = 1
searched_tag K.PremiseCount = 1
searched_tag K.Tactic = 2
searched_tag K.Label = 18

-- from one header to the next: for 9 over the values in front of the inner terms, else over the whole field
unfoldable pub step_at : Repeat → List ℕ → (at : ℕ) → ℕ
step_at K.Rule s at = 3 + word s (at + 1)
step_at K.PremiseCount s at = 3 + word s (at + 1)
step_at K.Tactic s at = 3 + word s (at + 1)
step_at K.Label s at = 3 + least_of (get_or s at 0)

-- a header and the values in front lie within the file
abbrev pub Room : List ℕ → (at : ℕ) → Type 0
Room s at = at + 3 + least_of (get_or s at 0) ≤ length s

-- what must hold besides equal first values: for 6 equal goals, for 7 other lengths
unfoldable pub besides : Repeat → List ℕ → (at earlier : ℕ) → Bool
besides K.Rule s at earlier = eqb (word s (at + 5)) (word s (earlier + 5))
besides K.PremiseCount s at earlier = not (eqb (word s (at + 1)) (word s (earlier + 1)))
besides K.Tactic s at earlier = true
besides K.Label s at earlier = true

-- the fields at two places clash
unfoldable pub clash_at : Repeat → List ℕ → (at earlier : ℕ) → Bool
clash_at kind s at earlier =
    eqb (get_or s at 0) (searched_tag kind)
    && (eqb (get_or s earlier 0) (searched_tag kind)
    && (eqb (word s (at + 3)) (word s (earlier + 3)) && besides kind s at earlier))

-- headers at these places, one behind the other from a place to another
abbrev pub Headers : Repeat → List ℕ → (from : ℕ) → List ℕ → (to : ℕ) → Type 0
Headers kind s = InRow (λ at p. (p ≡ at) × Room s at) (step_at kind s)

-- places as values at their places
unfoldable pub places : List ℕ → List (Placed ℕ)
places [] = []
places (p ∷ ps) = record { value = p; place = p } ∷ places ps

-- the answer of the search
unfoldable pub clash_told : std.Option ℕ → Option ℕ
clash_told None = none
clash_told (Some p) = some p
