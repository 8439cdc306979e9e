-- Reading a file: what holds all along, and what one turn of the reading leaves.
use Rattle.std.specs.Prelude.{ℕ, ◌+◌, ◌≤◌, ◌<◌, ◌≡◌, true, false, List, length}
use Rattle.words.specs.Kept.{Kept}
use Rattle.std.specs.Prelude as std
use Rattle.format.specs.declared.headers.Header as read
use Rattle.format.specs.declared.refusals.Refusal.{Refusal}
use Rattle.format.specs.Headers.{header_at}
use Rattle.format.specs.Shapes.{header_shape}
use Rattle.parts.specs.declared.state.State.{State}
use Rattle.parts.specs.declared.state.Mode.TheVariants.{Reads}
use Rattle.parts.specs.declared.state.Part.TheVariants.{Entries, Fields, Body}
use Rattle.parts.specs.States.{by_mode, is_term, low_of, high_of, full_of, taken, end_of, behind_term}
use Rattle.reading.specs.Waiting.{reading_room, Going, weight, Turned}

-- what holds all along: each field that was counted has bytes; outside terms nothing waits and the file encloses the field; a definition whose body is read lies in the file; and where an entry or a field of a table is read the file does not end
pub record Reading (s w : List ℕ) (base : ℕ) (x : State) : Type 0 where
  pub going : Going s w base x
  pub counts : (x.first ≤ x.at) × (x.second ≤ x.at)
  pub outside : is_term x.part ≡ false → (x.depth ≡ 0) × (x.end ≡ length s)
  pub body : x.part ≡ Body → (end_of s x.field ≤ length s) × (x.second < x.at)
  pub entries : x.part ≡ Entries → x.mode ≡ Reads → x.at < length s
  pub fields : x.part ≡ Fields → x.mode ≡ Reads → x.at < length s

-- the header of the field to read
unfoldable pub header_of : List ℕ → State → std.Result read.Header Refusal
header_of s x = header_shape (header_at s x.at x.end (low_of x) (high_of x.part) (full_of s x))

-- what is known before a turn
pub record ReadsOn (s w : List ℕ) (base : ℕ) (x : State) (h : std.Result read.Header Refusal) : Type 0 where
  pub reading : Reading s w base x
  pub mode_is : x.mode ≡ Reads
  pub header_is : h ≡ header_of s x

-- behind a turn within a term: what follows the term once it is read
unfoldable pub settled : List ℕ → State → State
settled s x = by_mode x.mode x x (behind_term s x)

-- what a turn is: a field outside terms, or a turn within a term and what follows it
pub data Turns (s w : List ℕ) (base : ℕ) (x : State) (w' : List ℕ) (r : State) : Type 0 where
  field : is_term x.part ≡ false → w' ≡ w → r ≡ taken s x (header_of s x) → Turns s w base x w' r
  term : is_term x.part ≡ true → (y : State) → Turned s w (high_of x.part) base x w' y → r ≡ settled s y → Turns s w base x w' r

-- one turn of the reading
pub record Step (s w : List ℕ) (base : ℕ) (x : State) (w' : List ℕ) (r : State) : Type 0 where
  pub reading : Reading s w' base r
  pub kept : Kept w w' base (base + reading_room)
  pub less : weight s r < weight s x
  pub turns : Turns s w base x w' r

-- any number of turns, from the bytes w and the state x to w' and y
pub data Reaches (s : List ℕ) (base : ℕ) (w : List ℕ) (x : State) : List ℕ → State → Type 0 where
  none : Reaches s base w x w x
  more : (v : List ℕ) (y : State) (w' : List ℕ) (r : State) → Reaches s base w x v y → y.mode ≡ Reads → Step s v base y w' r → Reaches s base w x w' r
