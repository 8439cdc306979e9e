-- Document 02, P1: "the fields finished so far" as they lie in work space, outermost first.
use Rattle.std.specs.Prelude.{ℕ, zero, suc, ◌+◌, ◌*◌, ◌-◌, ◌≤◌, ◌≡◌, Bool, true, cond, List, [], ◌++◌, eqb, length, take, drop}
use Rattle.arities.specs.Layout.{frames_end, space_end}
use Rattle.frames.specs.declared.Frame.{Frame}
use Rattle.frames.specs.Frames.{frame_at}
use Rattle.saver.specs.Put.{Writes}

-- so many bytes from a place on
abbrev pub block : List ℕ → (from size : ℕ) → List ℕ
block w from n = take n (drop from w)

-- the left term of a sequence or a tensor whose right term runs has ended
unfoldable pub keeps_field : (kind : ℕ) → Bool
keeps_field k = cond (eqb k 3) true (eqb k 5)

-- its field: behind the header of the waiting term's own field, up to where the output of the inner term begins
unfoldable pub left_field : List ℕ → Frame → (end : ℕ) → List ℕ
left_field w f o = cond (keeps_field f.kind) (block w (f.mark + 3) (o - (f.mark + 3))) []

-- where the output inside the frame at a place begins: at the mark of the next frame inside, or at the output's end
unfoldable pub inside_of : List ℕ → (at top out : ℕ) → ℕ
inside_of w at top out = cond (eqb at top) out (frame_at w (at - 19)).mark

-- the fields of so many frames from a place on, outermost first
unfoldable pub left_fields : List ℕ → (at end count : ℕ) → List ℕ
left_fields w at o zero = []
left_fields w at o (suc k) = left_fields w (at + 19) (frame_at w at).mark k ++ left_field w (frame_at w at) o

-- the field of a left term that ended begins and ends in order, in the part that a run uses
pub record Marked (f : Frame) (end : ℕ) : Type 0 where
  pub begins : keeps_field f.kind ≡ true → f.mark + 3 ≤ end
  pub low : end ≤ space_end

unfoldable pub AllMarked : List ℕ → (at end count : ℕ) → Type 0
AllMarked w at o zero = Unit {0}
AllMarked w at o (suc k) = Marked (frame_at w at) o × AllMarked w (at + 19) (frame_at w at).mark k

-- what writing the field of one frame is given
pub record FieldGiven (w : List ℕ) (at end to : ℕ) : Type 0 where
  pub frame_inside : at + 19 ≤ length w
  pub marked : Marked (frame_at w at) end
  pub above : space_end ≤ to
  pub room : to + length (left_field w (frame_at w at) end) ≤ length w

-- what writing the fields of all frames from a place on is given and does
pub record FinishedGiven (w : List ℕ) (top out to : ℕ) : Type 0 where
  pub count : ℕ
  pub ends : top + 19 * count ≡ frames_end
  pub marked : AllMarked w top out count
  pub above : space_end ≤ to
  pub room : to + length (left_fields w top out count) ≤ length w

abbrev pub FinishedWritten : List ℕ → (top out to : ℕ) → (end : ℕ) → List ℕ → Type 0
FinishedWritten w top out to r v = (n : ℕ) → top + 19 * n ≡ frames_end → Writes w to (left_fields w top out n) r v
