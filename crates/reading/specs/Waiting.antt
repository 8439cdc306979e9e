-- Enclosing fields that wait while an inner term is read: what is still to be done with what the inner term comes to.
use Rattle.std.specs.Prelude.{ℕ, zero, suc, ◌+◌, ◌*◌, ◌-◌, ◌≤◌, ◌<◌, ◌≡◌, List, ◌⊎◌, leb, length}
use Rattle.words.specs.Word.{word, put_word}
use Rattle.words.specs.Kept.{Kept}
use Rattle.std.specs.Prelude as std
use Rattle.format.specs.declared.headers.Header as read
use Rattle.format.specs.declared.refusals.Refusal as refusal
use Rattle.format.specs.TermRead.{TermRead, Refused, Read}
use Rattle.format.specs.Limits.{most_term_fields}
use Rattle.format.specs.Tags.{hiproof_kind}
use Rattle.format.specs.Headers.{header_at}
use Rattle.format.specs.ReadTerms.{read_term}
use Rattle.format.specs.Shapes.{header_shape, term_shape, ending}
use Rattle.parts.specs.declared.state.State.{State}
use Rattle.parts.specs.declared.state.Mode.TheVariants.{Reads, Gave}
use Rattle.parts.specs.States.{cause_of, by_mode, end_of}

-- the bytes that the fields that wait take: at most every term field of a file waits, in four bytes
abbrev pub reading_room : ℕ
reading_room = most_term_fields * 4

-- go on behind a term that was read; a refusal stands
unfoldable pub go_on : TermRead → (ℕ → ℕ → TermRead) → TermRead
go_on (Refused c p) next = Refused c p
go_on (Read to n) next = next to n

-- a term as the code tells it, at a depth that is enough for every term of the file
unfoldable pub reads : List ℕ → (high at end count : ℕ) → TermRead
reads s high at end n = term_shape (read_term (suc (length s)) s high at end n)

-- what a field does with what its inner term came to: it ends there, or one more is read by rec first
unfoldable pub closing : (rec : ℕ → ℕ → ℕ → TermRead) → (at end left : ℕ) → TermRead → TermRead
closing rec at end zero r = go_on r (ending at end)
closing rec at end (suc k) r = go_on r (λ next m. go_on (rec next end m) (ending at end))

-- a field that waits takes four bytes: how far behind the place of the field around it it stands, and how many inner terms follow the one that is read now
unfoldable pub put_waiting : List ℕ → (low gap left : ℕ) → List ℕ
put_waiting w low gap left = put_word (put_word w low gap) (low + 2) left

-- what all fields that wait, the innermost at the place top, do with what the innermost term came to
unfoldable pub resumed : (s w : List ℕ) (high base top depth : ℕ) → TermRead → TermRead
resumed s w high base top zero r = r
resumed s w high base top (suc k) r =
    resumed s w high base (top - word w (base + k * 4)) k (closing (reads s high) top (end_of s top) (word w (base + k * 4 + 2)) r)

-- what a state in which nothing is left to read comes to
unfoldable pub told : State → TermRead
told x = by_mode x.mode (Refused (cause_of x.why) x.place) (Read x.at x.fields) (Read x.at x.fields)

-- what the loop comes to from here on
unfoldable pub outcome : (s w : List ℕ) (high base : ℕ) → State → TermRead
outcome s w high base x =
    by_mode x.mode (Refused (cause_of x.why) x.place)
    (resumed s w high base x.top x.depth (reads s high x.at x.end x.fields))
    (resumed s w high base x.top x.depth (Read x.at x.fields))

-- fields that wait stand in one another, and the innermost, at the place top, holds what ends at `end`
unfoldable pub Waits : (s w : List ℕ) (base top end depth : ℕ) → Type 0
Waits s w base top end zero = end ≤ length s
Waits s w base top end (suc k) =
    (end ≤ end_of s top) × (end_of s top ≤ top + 65538) × (word w (base + k * 4) ≤ top) × Waits s w base (top - word w (base + k * 4)) (end_of s top) k

-- what holds all along
pub record Going (s w : List ℕ) (base : ℕ) (x : State) : Type 0 where
  pub ordered : x.at ≤ x.end
  pub waits : Waits s w base x.top x.end x.depth
  pub few : x.depth ≤ x.fields
  pub most : x.depth ≤ most_term_fields
  pub behind : x.top ≤ x.at
  pub near : x.mode ≡ Reads → (x.at ≡ x.top) ⊎ (x.end ≤ x.top + 65538)
  pub room : base + reading_room ≤ length w

-- what falls with each turn
unfoldable pub weight : List ℕ → State → ℕ
weight s x = (length s - x.at) * 2 + x.depth + by_mode x.mode 0 1 2

-- what stays while a term is read: the part of the file, and what was counted before the term
pub record Held (x r : State) : Type 0 where
  pub part : r.part ≡ x.part
  pub goals : r.goals ≡ x.goals
  pub first : r.first ≡ x.first
  pub second : r.second ≡ x.second
  pub from : r.from ≡ x.from
  pub field : r.field ≡ x.field

-- one step
pub record Moved (s w : List ℕ) (high base : ℕ) (x : State) (w' : List ℕ) (r : State) : Type 0 where
  pub going : Going s w' base r
  pub same : outcome s w' high base r ≡ outcome s w high base x
  pub kept : Kept w w' base (base + reading_room)
  pub less : weight s r < weight s x
  pub held : Held x r
  pub ahead : x.at ≤ r.at

-- what is known before a field: it is the one at the place of a term that is to be read
pub record Enters (s w : List ℕ) (high base : ℕ) (x : State) (h : std.Result read.Header refusal.Refusal) : Type 0 where
  pub going : Going s w base x
  pub reading : x.mode ≡ Reads
  pub header_is : h ≡ header_shape (header_at s x.at x.end hiproof_kind high (leb most_term_fields x.fields))

-- one turn: to the next term that is to be read, or to the end of the outermost
pub record Turned (s w : List ℕ) (high base : ℕ) (x : State) (w' : List ℕ) (r : State) : Type 0 where
  pub moved : Moved s w high base x w' r
  pub over : (r.mode ≡ Reads → ⊥) → outcome s w' high base r ≡ told r
  pub bare : r.mode ≡ Gave → r.depth ≡ 0
