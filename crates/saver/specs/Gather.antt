-- Document 02, P1: the waiting terms of a halted run as they are saved, taken from the frames in work space, innermost first.
use Rattle.std.specs.Prelude.{ℕ, zero, suc, ◌+◌, ◌*◌, ◌-◌, ◌≤◌, ◌≡◌, cond, List, [], ◌∷◌, ◌++◌, eqb, length, drop}
use Rattle.lent_frames.specs.declared.LentFrame.{LentFrame}
use Rattle.arities.specs.Layout.{frames_end}
use Rattle.frames.specs.declared.Frame.{Frame}
use Rattle.frames.specs.Frames.{frame_at}
use Rattle.saver.specs.declared.gather.Gathered.{Gathered}

-- how many of a waiting term's goals no term inside it holds (evaluation's `own_goals`)
unfoldable pub own_count_of : (kind count inside : ℕ) → ℕ
own_count_of k c x = cond (eqb k 4) c (cond (eqb k 5) c (cond (eqb k 6) (c - x) 0))

-- how many goals of its list it holds, together with the terms inside it (evaluation's `held_of`)
unfoldable pub held_after : (kind count inside : ℕ) → ℕ
held_after k c x = cond (eqb k 4) (x + c) (cond (eqb k 6) c (cond (eqb k 3) 0 x))

-- where its own goals lie; nowhere if it has none
unfoldable pub own_start : (own start : ℕ) → ℕ
own_start c s = cond (eqb c 0) 0 s

-- the lent frame of a waiting term: the file and the place of its last inner term as one number, its own goals, and its stage
unfoldable pub lent_frame : Frame → (inside : ℕ) → LentFrame
lent_frame f x = record {
  term = f.file * 65536 + f.at;
  goals = own_start (own_count_of f.kind f.count x) f.start;
  count = own_count_of f.kind f.count x;
  stage = f.kind;
}

unfoldable pub gathered_of : Frame → (inside : ℕ) → Gathered
gathered_of f x = record { frame = lent_frame f x; inside = held_after f.kind f.count x }

-- what gathering a frame asks: the goals inside an alternation are no more than its whole list has
pub record FrameFits (f : Frame) (inside : ℕ) : Type 0 where
  pub few : inside ≤ 65535
  pub shared : f.kind ≡ 6 → inside ≤ f.count

-- so many waiting terms from a place on, innermost first
unfoldable pub gathered : List ℕ → (at inside count : ℕ) → List LentFrame
gathered w at x zero = []
gathered w at x (suc k) = lent_frame (frame_at w at) x ∷ gathered w (at + 19) (held_after (frame_at w at).kind (frame_at w at).count x) k

unfoldable pub AllFit : List ℕ → (at inside count : ℕ) → Type 0
AllFit w at x zero = Unit {0}
AllFit w at x (suc k) = FrameFits (frame_at w at) x × AllFit w (at + 19) (held_after (frame_at w at).kind (frame_at w at).count x) k

-- what gathering all frames from a place on is given: they end where the frames end, and as many are lent
pub record GatherGiven (w : List ℕ) (fs : List LentFrame) (top inside : ℕ) : Type 0 where
  pub count : ℕ
  pub ends : top + 19 * count ≡ frames_end
  pub room : count ≤ length fs
  pub fit : AllFit w top inside count
  pub space : frames_end ≤ length w

-- all of them, innermost first, and the other lent frames as they were
abbrev pub Gathers : List ℕ → List LentFrame → (top inside : ℕ) → (result : ℕ) → List LentFrame → Type 0
Gathers w fs top x r fs' = (n : ℕ) → top + 19 * n ≡ frames_end → (r ≡ n) × (fs' ≡ gathered w top x n ++ drop n fs)
