-- What follows the term that is written now: brackets to close, and pairs whose right part is still to be written. They stand on a stack in the work space, a byte each. Fields come in byte order, so each right part begins where what comes before it ends, and no place is kept.
use Rattle.std.specs.Prelude.{ℕ, ◌+◌, ◌-◌, ◌≡◌, Bool, true, false, cond, List, [], ◌∷◌, ◌++◌, eqb, leb, length, get_or}
use Rattle.format.specs.Terms.{Term, size, fields}
use Rattle.format.specs.Standing.{Stands}
use Rattle.notation.specs.Signs.{is_pair, rank_tag}
use Rattle.text_writer.specs.Spelling.{text_in, sign_text}

pub data Frame : Type 0 where
  bracket : Frame
  pair : (tag : ℕ) → (right : Term) → (followed : Bool) → Frame

-- the place of the stack in the work space
abbrev pub stack_place : ℕ
stack_place = 28672

-- the byte of a pair: its tag, and 64 more where a sign follows it
unfoldable pub pair_byte : (tag : ℕ) → (followed : Bool) → ℕ
pair_byte k f = cond f (k + 64) k

unfoldable pub tag_in : (byte : ℕ) → ℕ
tag_in b = cond (leb 64 b) (b - 64) b

unfoldable pub frame_byte : Frame → ℕ
frame_byte bracket = 0
frame_byte (pair k u f) = pair_byte k f

-- the frames stand on the stack, the first on top
unfoldable pub Stacked : (work : List ℕ) → List Frame → Type 0
Stacked w [] = Unit {0}
Stacked w (f ∷ fs) = (get_or w (stack_place + length fs) 0 ≡ frame_byte f) × Stacked w fs

-- a bracket stands on top of a stack of so many frames
unfoldable pub bracket_on_top : (work : List ℕ) → (top : ℕ) → Bool
bracket_on_top w top = cond (eqb top 0) false (eqb (get_or w (stack_place + (top - 1)) 0) 0)

-- the text that follows
unfoldable pub rest_text : List Frame → List ℕ
rest_text [] = []
rest_text (bracket ∷ fs) = 41 ∷ rest_text fs
rest_text (pair k u f ∷ fs) = sign_text k ++ (text_in u (rank_tag k) f ++ rest_text fs)

-- the term fields that follow
unfoldable pub rest_fields : List Frame → ℕ
rest_fields [] = 0
rest_fields (bracket ∷ fs) = rest_fields fs
rest_fields (pair k u f ∷ fs) = fields u + rest_fields fs

-- the right parts of the pairs stand one behind the other from a place up to the end of the file
unfoldable pub RightsStand : (s : List ℕ) → (at : ℕ) → List Frame → Type 0
RightsStand s at [] = at ≡ length s
RightsStand s at (bracket ∷ fs) = RightsStand s at fs
RightsStand s at (pair k u f ∷ fs) = (is_pair k ≡ true) × Stands s at u × RightsStand s (at + size u) fs
