-- The table of what was seen: four bits for each value of two bytes, 0 where no field of the value was seen, else the mark of the fields seen.
use Rattle.std.specs.Prelude.{Option, ℕ, ◌+◌, ◌*◌, ◌/◌, ◌%◌, ◌<◌, ◌≡◌, Bool, false, cond, ◌⊎◌, ltb, get_or, set}
use mathlib.Core.List.{List, [], ◌∷◌, ◌++◌, Memᴰ}
use Rattle.words.specs.Word.{word}
use Rattle.words.specs.Kept.{Kept}
use Rattle.tables.specs.declared.repeats.Repeat.{Repeat}
use Rattle.tables.specs.declared.repeats.Repeat.TheVariants as K
use Rattle.tables.specs.Repeats.{clashes_any, first_clash}
use Rattle.tables.specs.Search.{searched_tag, clash_at, Headers, places, clash_told}
use Rattle.seen.specs.Layout.{seen_room}

-- a byte of the table is that of two values: its low half that of a value below the table's size, its high half that of one above
unfoldable pub half : (byte value : ℕ) → ℕ
half b v = cond (ltb v seen_room) (b % 16) (b / 16)

-- the byte with a mark in a half that was 0
unfoldable pub put_half : (byte value mark : ℕ) → ℕ
put_half b v m = cond (ltb v seen_room) (b + m) (b + m * 16)

-- what was seen of a value, and the table with a mark for it
unfoldable pub seen_at : List ℕ → (base value : ℕ) → ℕ
seen_at w base v = half (get_or w (base + v % seen_room) 0) v

unfoldable pub put_seen : List ℕ → (base value mark : ℕ) → List ℕ
put_seen w base v m = set w (base + v % seen_room) (put_half (get_or w (base + v % seen_room) 0) v m)

-- the mark of a field: for 9 it is 1; for 7 it is half the length of the rule, the count of its premises and 2
unfoldable pub mark_of : Repeat → List ℕ → (at : ℕ) → ℕ
mark_of K.Label s at = 1
mark_of K.PremiseCount s at = word s (at + 1) / 2
mark_of K.Rule s at = word s (at + 1) / 2
mark_of K.Tactic s at = word s (at + 1) / 2

-- a mark is not 0, fits into four bits, and for 7 says the length
pub record Marked (kind : Repeat) (s : List ℕ) (at : ℕ) : Type 0 where
  pub some : 0 < mark_of kind s at
  pub fits : mark_of kind s at < 16
  pub says : (kind ≡ K.Label) ⊎ ((kind ≡ K.PremiseCount) × (word s (at + 1) ≡ mark_of kind s at * 2))

-- a field that the search is about has such a mark
abbrev pub Markable : (kind : Repeat) → List ℕ → (at : ℕ) → Type 0
Markable kind s at = get_or s at 0 ≡ searched_tag kind → Marked kind s at

-- the mark of a field is there for its value
pub record Noted (kind : Repeat) (s w : List ℕ) (base at : ℕ) : Type 0 where
  pub own : Marked kind s at
  pub small : word s (at + 3) < 65536
  pub there : seen_at w base (word s (at + 3)) ≡ mark_of kind s at

-- the value of one of these fields
abbrev pub ValueOf : (kind : Repeat) → List ℕ → List ℕ → (value : ℕ) → Type 0
ValueOf kind s ps v = (p : ℕ) × Memᴰ p ps × (get_or s p 0 ≡ searched_tag kind) × (word s (p + 3) ≡ v)

-- the table of the fields seen: the mark of each is there, and where there is a mark for the value of any of the fields, one of that value was seen
pub record Seen (kind : Repeat) (s all seen w : List ℕ) (base : ℕ) : Type 0 where
  pub held : (p : ℕ) → Memᴰ p seen → get_or s p 0 ≡ searched_tag kind → Noted kind s w base p
  pub only : (v : ℕ) → ValueOf kind s all v → v < 65536 → 0 < seen_at w base v → ValueOf kind s seen v

-- one field more: whether it clashes with one seen; if not, it is in the table
pub record Meets (kind : Repeat) (s w w' : List ℕ) (base at : ℕ) (r : Bool) : Type 0 where
  pub told : (all seen : List ℕ) → Memᴰ at all → Seen kind s all seen w base → clashes_any (clash_at kind s) at seen ≡ r
  pub entered : (all seen : List ℕ) → Seen kind s all seen w base → r ≡ false → Seen kind s all (seen ++ (at ∷ [])) w' base
  pub kept : Kept w w' base (base + seen_room)

-- the byte of a field's value
abbrev pub byte_of : List ℕ → List ℕ → (base at : ℕ) → ℕ
byte_of s w base at = get_or w (base + word s (at + 3) % seen_room) 0

-- one byte more is 0, that of the field at a place
pub record Forgets (kind : Repeat) (s w w' : List ℕ) (base at : ℕ) : Type 0 where
  pub gone : get_or s at 0 ≡ searched_tag kind → byte_of s w' base at ≡ 0
  pub zeros : (i : ℕ) → get_or w i 0 ≡ 0 → get_or w' i 0 ≡ 0
  pub kept : Kept w w' base (base + seen_room)

-- the bytes of the fields from a place to another are 0
pub record Readies (kind : Repeat) (s w w' : List ℕ) (base from to : ℕ) : Type 0 where
  pub zeros : (ps : List ℕ) → Headers kind s from ps to → (p : ℕ) → Memᴰ p ps → get_or s p 0 ≡ searched_tag kind → byte_of s w' base p ≡ 0
  pub kept : Kept w w' base (base + seen_room)

-- the search: the first clash, and what is left alone
pub record Repeats (kind : Repeat) (s w w' : List ℕ) (base from to : ℕ) (r : Option ℕ) : Type 0 where
  pub first : (ps : List ℕ) → Headers kind s from ps to → first_clash (clash_at kind s) [] (places ps) ≡ clash_told r
  pub kept : Kept w w' base (base + seen_room)
