-- How the code holds a state of the reading from the right: the bytes of the terms at the end of the output space, and the frames at the end of the work space, three bytes each, the last met lowest.
use Rattle.std.specs.Prelude.{ℕ, ◌+◌, ◌*◌, ◌≤◌, ◌<◌, ◌≡◌, Bool, false, List, [], ◌∷◌, ◌++◌, leb, length, get_or, drop}
use Rattle.std.proofs.Math.Option.{some}
use Rattle.words.specs.Word.{word}
use Rattle.format.specs.Terms.{Term}
use Rattle.format.specs.Encoding.{term_bytes}
use Rattle.notation.specs.Marks.{Sign, semicolon, bar, star, Mark, closing}
use Rattle.notation.specs.Passing.{sizes}
use Rattle.notation.specs.FromRight.{Frame, waiting, bracket, State, due, had, stuck, reduced_term, reduced_frames, state_of, term_of}
use Rattle.notation.specs.Written.{rank}
use Rattle.entries.specs.Texts.{read_text_work}
use Rattle.text_reader.specs.MarkList.{MarkStands, MarksStand}

-- where the frames end: the size of the work space
abbrev pub frames_end : ℕ
frames_end = read_text_work

-- the tag of a sign's term
abbrev pub sign_tag : Sign → ℕ
sign_tag semicolon = 19
sign_tag bar = 22
sign_tag star = 20

-- the terms of the frames, one behind the other
unfoldable pub rest_bytes : List Frame → List ℕ
rest_bytes [] = []
rest_bytes (bracket ∷ fs) = rest_bytes fs
rest_bytes (waiting s u ∷ fs) = term_bytes u ++ rest_bytes fs

-- the frames that wait for a header
unfoldable pub waits : List Frame → ℕ
waits [] = 0
waits (bracket ∷ fs) = waits fs
waits (waiting s u ∷ fs) = 1 + waits fs

-- The frames as they stand in the work space from a place on: 0 for a bracket, or a sign's tag and where its right part ends in an output space of so many bytes.
unfoldable pub Stacked : (work : List ℕ) → (total low : ℕ) → List Frame → Type 0
Stacked w total low [] = low ≡ frames_end
Stacked w total low (bracket ∷ fs) = (get_or w low 0 ≡ 0) × Stacked w total (low + 3) fs
Stacked w total low (waiting s u ∷ fs) = (get_or w low 0 ≡ sign_tag s) × (word w (low + 1) + length (rest_bytes fs) ≡ total) × Stacked w total (low + 3) fs

-- an operand is due: the bytes of the frames' terms begin at `front`
pub record ShownDue (fs : List Frame) (work out : List ℕ) (front low : ℕ) : Type 0 where
  pub bytes : drop front out ≡ rest_bytes fs
  pub within : front ≤ length out
  pub stacked : Stacked work (length out) low fs

-- a term was read: its bytes stand from `front` to `stop`
pub record ShownHad (t : Term) (fs : List Frame) (work out : List ℕ) (front stop low : ℕ) : Type 0 where
  pub bytes : drop front out ≡ term_bytes t ++ rest_bytes fs
  pub within : front ≤ length out
  pub ends : stop + length (rest_bytes fs) ≡ length out
  pub stacked : Stacked work (length out) low fs

abbrev pub Shown : State → (work out : List ℕ) → (front stop low : ℕ) → Type 0
Shown (due fs) work out front stop low = ShownDue fs work out front low
Shown (had t fs) work out front stop low = ShownHad t fs work out front stop low
Shown stuck work out front stop low = ⊥

abbrev pub NotStuck : State → Type 0
NotStuck (due fs) = Unit {0}
NotStuck (had t fs) = Unit {0}
NotStuck stuck = ⊥

abbrev pub frames_of : State → List Frame
frames_of (due fs) = fs
frames_of (had t fs) = fs
frames_of stuck = []

-- whether the first frame is taken
unfoldable pub reduces_more : (least : ℕ) → List Frame → Bool
reduces_more n [] = false
reduces_more n (bracket ∷ fs) = false
reduces_more n (waiting s u ∷ fs) = leb n (rank s)

-- signs are taken, so far
pub record Reduced (n : ℕ) (t : Term) (fs : List Frame) (work out : List ℕ) (front stop low : ℕ) : Type 0 where
  pub term : Term
  pub frames : List Frame
  pub shown : ShownHad term frames work out front stop low
  pub reduced_same : reduced_term n term frames ≡ reduced_term n t fs
  pub left_same : reduced_frames n frames ≡ reduced_frames n fs
  pub ahead : 3 * waits frames ≤ front

-- bytes below a place are as they were
abbrev pub SameBelow : (low : ℕ) → (w w' : List ℕ) → Type 0
SameBelow low w w' = (i : ℕ) → i < low → get_or w' i 0 ≡ get_or w i 0

-- what the reading of the mark at a place in the list needs
pub record MarkReady (ms : List Mark) (at : ℕ) (work out : List ℕ) (front stop low : ℕ) : Type 0 where
  pub inside : at < length ms
  pub stands : MarkStands work (3 * at) (get_or ms at closing)
  pub shown : Shown (state_of (drop (at + 1) ms)) work out front stop low
  pub unstuck : NotStuck (state_of (drop at ms))
  pub room : sizes (drop at ms) ≤ length out
  pub few : length ms < 65536
  pub space : frames_end ≤ length work
  pub short : length out < 65536

-- the marks of a text that was scanned to its end, in work space, and just as many bytes as their term has
pub record Prepared (ms : List Mark) (work : List ℕ) (count room : ℕ) : Type 0 where
  pub term : Term
  pub found : term_of (state_of ms) ≡ some term
  pub total : sizes ms ≡ room
  pub stand : MarksStand work ms count
  pub all : count ≡ length ms
  pub few : length ms < 65536
  pub space : frames_end ≤ length work
  pub short : room < 65536
