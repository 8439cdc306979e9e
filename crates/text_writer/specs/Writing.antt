-- How far a term is written: what each mark leaves, and what holds before each field.
use Rattle.std.specs.Prelude.{ℕ, ◌+◌, ◌*◌, ◌-◌, ◌≤◌, ◌<◌, ◌≡◌, Bool, true, false, List, ◌++◌, leb, length, get_or, take}
use Rattle.format.specs.Limits.{most_bytes}
use Rattle.format.specs.Terms.{Term, size, fields}
use Rattle.format.specs.Standing.{Stands}
use Rattle.text_writer.specs.declared.writing.Writing.{Writing}
use Rattle.notation.specs.Signs.{rank_tag}
use Rattle.text_writer.specs.Spelling.{text_in, wraps_tag}
use Rattle.text_writer.specs.Stack.{Frame, stack_place, tag_in, Stacked, bracket_on_top, rest_text, rest_fields, RightsStand}

-- at most two frames for each of 4,096 term fields
abbrev pub most_frames : ℕ
most_frames = 8192

-- the text, and the stack behind it
abbrev pub writing_room : ℕ
writing_room = stack_place + most_frames

-- the states behind a bracket, behind the header of a pair, behind a label or a leaf of so many bytes in the file and in the text, behind a closing bracket, and behind the sign of the pair of a byte
abbrev pub opened : Writing → Writing
opened x = record { at = x.at; len = x.len + 1; top = x.top + 1; binds = 0; followed = false }

abbrev pub into_pair : Writing → (tag : ℕ) → Writing
into_pair x k = record { at = x.at + 3; len = x.len; top = x.top + 1; binds = rank_tag k + 1; followed = true }

abbrev pub passed : Writing → (size n : ℕ) → Writing
passed x m n = record { at = x.at + m; len = x.len + n; top = x.top; binds = 0; followed = false }

abbrev pub closed : Writing → Writing
closed x = record { at = x.at; len = x.len + 1; top = x.top - 1; binds = 0; followed = false }

abbrev pub taken_up : Writing → (byte : ℕ) → Writing
taken_up x b = record { at = x.at; len = x.len + 3; top = x.top - 1; binds = rank_tag (tag_in b); followed = leb 64 b }

-- the bytes written and what is still to be written make the whole text; the frames stand on the stack
pub record Holds (whole w : List ℕ) (len top : ℕ) (todo : List ℕ) (fs : List Frame) : Type 0 where
  pub room : writing_room ≤ length w
  pub short : length whole < stack_place
  pub within : len ≤ length w
  pub text : take len w ++ todo ≡ whole
  pub height : top ≡ length fs
  pub stacked : Stacked w fs

-- the term t is to be written next, and the frames follow it
pub record Due (s whole w : List ℕ) (most : ℕ) (x : Writing) (t : Term) (fs : List Frame) : Type 0 where
  pub held : Holds whole w x.len x.top (text_in t x.binds x.followed ++ rest_text fs) fs
  pub file : length s ≤ most_bytes
  pub stands : Stands s x.at t
  pub rights : RightsStand s (x.at + size t) fs
  pub few : length fs + 2 * (fields t + rest_fields fs) ≤ most

-- the same of a term that needs no brackets, or whose bracket is open: so one frame more may stand there
pub record Plain (s w : List ℕ) (x : Writing) (tag : ℕ) : Type 0 where
  pub whole : List ℕ
  pub term : Term
  pub frames : List Frame
  pub due : Due s whole w (most_frames + 1) x term frames
  pub tag_is : tag ≡ get_or s x.at 0
  pub bare : wraps_tag tag x.binds x.followed ≡ false

-- a term was written, and the frames follow
pub record Rests (s whole w : List ℕ) (x : Writing) (fs : List Frame) : Type 0 where
  pub held : Holds whole w x.len x.top (rest_text fs) fs
  pub file : length s ≤ most_bytes
  pub rights : RightsStand s x.at fs
  pub few : length fs + 2 * rest_fields fs ≤ most_frames

-- brackets were closed from the state x on, and one more is to be closed or not
pub record Settled (s whole w : List ℕ) (x y : Writing) (more : Bool) : Type 0 where
  pub frames : List Frame
  pub rests : Rests s whole w y frames
  pub at_same : y.at ≡ x.at
  pub on_top : more ≡ bracket_on_top w y.top

-- the whole text is written
pub record Over (s whole w : List ℕ) (x : Writing) : Type 0 where
  pub at_end : x.at ≡ length s
  pub within : x.len ≤ length w
  pub text : take x.len w ≡ whole

-- a term is to be written next, or nothing
pub data Going (s whole w : List ℕ) (x : Writing) : Type 0 where
  due : (t : Term) (fs : List Frame) → Due s whole w most_frames x t fs → Going s whole w x
  over : Over s whole w x → Going s whole w x
