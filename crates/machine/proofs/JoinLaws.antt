-- A tensor's right term proved its goals: the lists are joined in the place of all goals since the tensor began, and the field is closed; or they are too long, or
-- one more field cannot be held.
-- Assumes nothing.
use Prim.Native.Nat.{ℕ, ◌+◌, ◌*◌, ◌-◌, ◌≤◌, ◌<◌}
use mathlib.Core.Path.{◌≡◌, refl, sym, ap, ap₂, subst, ◌∙◌}
use mathlib.Core.Bool.{Bool, true, false, cond}
use mathlib.Core.List.{List, ◌∷◌, ◌++◌}
use native.Mathlib.Omega.{arith}
use lib.ListN.{length, get_or, length-append}
use borrow.Author.Tests.{le-leb, lt-leb}
use Rattle.words.specs.Word.{put_word}
use Rattle.words.proofs.WordLaws.{word_same}
use Rattle.format.specs.declared.values.Goal.{Goal}
use Rattle.format.specs.Limits.{most_held}
use Rattle.format.specs.declared.refusals.Cause.TheVariants.{JoinedTooLong}
use Rattle.format.specs.Terms.{Term, tensor, size, fields}
use Rattle.format.specs.Standing.{Head, Stands}
use Rattle.format.proofs.GoalsLaws.{length-goals_at}
use Rattle.files.proofs.Sizes.{size_most}
use Rattle.evaluation.specs.Outcomes.{Ending, proved, ended, within, joined_fits, beside_left}
use Rattle.evaluation.specs.Machine as M
use Rattle.evaluation.specs.Machine.{tensor_right, held}
use Rattle.tactics.specs.Memory.{Only}
use Rattle.tactics.specs.Goals.{Joined}
use Rattle.tactics.proofs.MemoryLaws.{only_word, same_term, same_goals}
use Rattle.frames.specs.declared.Frame.{Frame}
use Rattle.machine.specs.declared.state.Mode.{Mode}
use Rattle.machine.specs.declared.state.Mode.TheVariants as is
use Rattle.machine.specs.declared.state.State.{State}
use Rattle.machine.specs.Shows.{GoalsIs, FrameIs, Began, FramesAt, Sizes, overflows, exceeds, Proved, Lost, Ends, Holds}
use Rattle.machine.specs.Popping.{pop, Fits, Smaller, Loaded, Joins, Popped, joined, ended_by}
use Rattle.machine.proofs.KeepLaws.{kept_output, kept-behind, frames_kept}
use Rattle.machine.proofs.WaitingLaws.{by_kind, if_proved, under, innermost}
use Rattle.machine.proofs.HeldLaws.{within-fits, within_over}
use Rattle.machine.proofs.PopLaws.{lost_under}

module _ (w : List ℕ) (s : State) (f : Frame) (load : Loaded w s f) (n : f.kind ≡ 5) where
  fits : Fits w s
  fits = load.fits

  -- what a waiting tensor says
  pub record Beside (table job : List ℕ) (q : Term) (i : List Goal) (p : Term) (g : List Goal) (k : List M.Frame) : Type 0 where
    pub stands : Stands w (f.mark + 3 + size q) p
    pub out_is : s.out ≡ f.mark + 3 + size q + size p
    pub goals : GoalsIs w s.arena s.start s.count g
    pub tag : get_or w f.mark 0 ≡ 20
    pub left : Stands w (f.mark + 3) q
    pub gave : GoalsIs w s.arena f.start f.count i
    pub left_goals : f.count ≤ 8 * fields q
    pub right_goals : s.count ≤ 8 * fields p
    pub frames : FramesAt table job w f.arena k (s.top + 19) f.mark
    pub began : Began f s.arena k
    pub held_is : s.held ≡ fields q + held k + fields p
    pub sizes : Sizes s
    pub lost : (mode : Mode) → Lost mode table job w (ended_by mode s) k

  -- a statement of every ending and every frame is one of a proof and a tensor whose right term ended
  if_beside : (P : Ending → M.Frame → Type 0) (table job : List ℕ) (k : List M.Frame)
      → ((π : M.Place) (q : Term) (i : List Goal) (p : Term) (g : List Goal) → Beside table job q i p g k → P (proved p g) (tensor_right π q i))
      → (z : Ending) (x : M.Frame) → Ends table job w s z (x ∷ k) → P z x
  unfolding FrameIs Ends held
  if_beside P table job k h z x ends =
      if_proved table job w s (x ∷ k) (λ y. P y x) load.mode_is
      (λ p g a. let t = innermost table job w s f a.from x k load.frame_is a.frames in
      by_kind (λ y. Proved table job w s p g (y ∷ k) → FrameIs table job w s.arena f a.from y → P (proved p g) y) 5
      (λ π q i b o. h π q i p g (record {
        stands = subst (λ (y : ℕ). Stands w y p) o.1 a.stands;
        out_is = omega (arith, a.out_is, o.1);
        goals = a.goals;
        tag = o.2;
        left = o.3;
        gave = o.4;
        left_goals = o.6;
        right_goals = a.few_goals;
        frames = t.rest;
        began = t.began;
        held_is = b.held_is;
        sizes = b.sizes;
        lost = λ mode. lost_under w s mode table job x k (under table job w s (proved p g) (x ∷ k) a);
      })) x (sym n ∙ t.kind) a t.frame) z ends

  pub joins : Joins s f
  joins = if_beside (λ z x. Joins s f) load.waiting.table load.waiting.job load.waiting.frames (λ π q i p g b. record {
    closes = record { room = omega (arith, b.out_is); short = omega (arith, b.out_is, size_most p, size_most q, b.held_is, b.sizes.held_fits) };
    left_few = b.gave.few;
    left_high = b.gave.high;
  }) load.waiting.ending load.waiting.frame load.waiting.ends

  room : f.mark + 3 ≤ s.out
  room = joins.closes.room

  counted : (i g : List Goal) → GoalsIs w s.arena f.start f.count i → GoalsIs w s.arena s.start s.count g → length (i ++ g) ≡ f.count + s.count
  counted i g a b =
      let x : length i ≡ f.count = sym (ap length a.are) ∙ length-goals_at f.count w f.start in
      let y : length g ≡ s.count = sym (ap length b.are) ∙ length-goals_at s.count w s.start in
      length-append i g ∙ ap₂ (λ (j k : ℕ). j + k) x y

  joined_or_not : (kept : ℕ) (q p : Term) (i g : List Goal) (t : Bool) → joined_fits (i ++ g) ≡ t
      → beside_left kept q i (proved p g) ≡ cond t (within kept (tensor q p) (i ++ g)) (ended JoinedTooLong)
  joined_or_not kept q p i g t h = ap (λ (b : Bool). cond b (within kept (tensor q p) (i ++ g)) (ended JoinedTooLong)) h

  -- too many goals
  pub overflow_end : (r : State) → 256 < f.count + s.count → r ≡ ended_by is.Overflowed s → Popped w s w r
  unfolding Ends Holds pop
  overflow_end r c o =
      subst (λ (y : State). Popped w s w y) (sym o) (
      λ table job z x k h. if_beside (λ y j. Holds table job w (ended_by is.Overflowed s) (pop y j k)) table job k
      (λ π q i p g b.
      subst (λ (y : Ending). Ends table job w (ended_by is.Overflowed s) y k)
      (sym (joined_or_not (held k) q p i g false (lt-leb (length (i ++ g)) 256 (omega (arith, c, counted i g b.gave b.goals)))))
      (record { limit = overflows; lost = b.lost is.Overflowed })) z x h
      )

  -- not too many: a field more than may be held
  pub exceed_end : (r : State) → f.count + s.count ≤ 256 → most_held ≤ s.held → r ≡ ended_by is.Exceeded s → Popped w s w r
  unfolding Ends Holds pop fields
  exceed_end r c over o =
      subst (λ (y : State). Popped w s w y) (sym o) (
      λ table job z x k h. if_beside (λ y j. Holds table job w (ended_by is.Exceeded s) (pop y j k)) table job k
      (λ π q i p g b.
      subst (λ (y : Ending). Ends table job w (ended_by is.Exceeded s) y k)
      (sym (joined_or_not (held k) q p i g true (le-leb (length (i ++ g)) 256 (omega (arith, c, counted i g b.gave b.goals)))
      ∙ within_over (held k) (tensor q p) (i ++ g) (omega (arith, over, b.held_is))))
      (record { limit = exceeds; lost = b.lost is.Exceeded })) z x h
      )

  module _ (c : f.count + s.count ≤ 256) (under-most : s.held < most_held) (y : List ℕ) (jo : Joined w y f.arena s.arena f.start f.count s.start s.count) where
    abbrev len : ℕ
    len = s.out - f.mark - 3

    abbrev v : List ℕ
    v = put_word y (f.mark + 1) len

    abbrev arena' : ℕ
    arena' = f.arena + (f.count + s.count) * 2

    o₁ : Only f.arena (s.arena + (f.count + s.count) * 2) w y
    o₁ = jo.only

    o₂ : Only (f.mark + 1) (f.mark + 1 + 2) y v
    o₂ = only_word y (f.mark + 1) len

    behind : (i : ℕ) → f.mark + 3 ≤ i → i < s.out → get_or v i 0 ≡ get_or w i 0
    behind i a b = o₂.kept.above i (omega arith) ∙ o₁.kept.below i (omega (arith, fits.output_fits, load.arena_low))

    size_same : length v ≡ length w
    size_same = o₂.same_length ∙ o₁.same_length

    term_stays : (t : Term) (at : ℕ) → f.mark + 3 ≤ at → at + size t ≤ s.out → Stands w at t → Stands v at t
    term_stays t at a b st = same_term w v size_same t (f.mark + 3) s.out at (λ i l r. behind i l r) a b st

    head_there : (len' : ℕ) → get_or w f.mark 0 ≡ 20 → f.mark + 3 + len' ≡ s.out → Head v f.mark 20 len'
    head_there len' t o =
        let ly : length y ≡ length w = o₁.same_length in
        record {
          tag_is = o₂.kept.below f.mark (omega arith) ∙ o₁.kept.below f.mark (omega (arith, room, fits.output_fits, load.arena_low)) ∙ t;
          length_is = word_same y (f.mark + 1) len (omega (arith, ly, fits.space, fits.output_fits, room)) ∙ omega (arith, o);
          inside = omega (arith, size_same, o, fits.output_fits, fits.space);
        }

    goals_there : (i g : List Goal) → GoalsIs w s.arena f.start f.count i → GoalsIs w s.arena s.start s.count g → GoalsIs v arena' f.arena (f.count + s.count) (i ++ g)
    goals_there i g a b = record {
      low = load.arena_low;
      high = omega arith;
      few = c;
      are = same_goals y v (f.count + s.count) f.arena (λ j l r. o₂.kept.above j (omega (arith, load.arena_low, room, fits.output_fits)))
          ∙ jo.goals ∙ ap₂ (λ (x z : List Goal). x ++ z) a.are b.are;
    }

    frames_there : (table job : List ℕ) (k : List M.Frame) → FramesAt table job w f.arena k (s.top + 19) f.mark → FramesAt table job v arena' k (s.top + 19) f.mark
    frames_there table job k h =
        frames_kept y v f.arena arena' (omega arith) table job k (s.top + 19) f.mark
        (kept_output (f.mark + 1) (f.mark + 1 + 2) f.mark f.arena (s.top + 19) y v o₂ (omega arith) (omega (arith, room, fits.output_fits)) (omega (arith, fits.frames_low)))
        (frames_kept w y f.arena f.arena (omega arith) table job k (s.top + 19) f.mark
        (kept-behind f.arena (s.arena + (f.count + s.count) * 2) f.mark f.arena (s.top + 19) w y o₁
        (omega (arith, room, fits.output_fits, load.arena_low)) (omega arith) (omega (arith, fits.goals_fit, c, fits.frames_low))) h)

    join_popped : Popped w s v (joined s f)
    unfolding Ends Holds pop Stands size fields
    join_popped table job z x k h = if_beside (λ y j. Holds table job v (joined s f) (pop y j k)) table job k
        (λ π q i p g b.
        subst (λ (y : Ending). Ends table job v (joined s f) y k)
        (sym (joined_or_not (held k) q p i g true (le-leb (length (i ++ g)) 256 (omega (arith, c, counted i g b.gave b.goals)))
        ∙ within-fits (held k) (tensor q p) (i ++ g) (omega (arith, under-most, b.held_is))))
        (record {
          mode_is = refl;
          from = f.mark;
          stands = (
            head_there (size q + size p) b.tag (omega (arith, b.out_is)),
            term_stays q (f.mark + 3) (omega arith) (omega (arith, b.out_is)) b.left,
            term_stays p (f.mark + 3 + size q) (omega arith) (omega (arith, b.out_is)) b.stands,
          );
          out_is = omega (arith, b.out_is);
          goals = goals_there i g b.gave b.goals;
          few_goals = omega (arith, b.left_goals, b.right_goals);
          frames = frames_there table job k b.frames;
          held_is = omega (arith, b.held_is);
          sizes = record {
            output_fits = b.sizes.output_fits;
            held_fits = omega (arith, under-most);
            goals_low = omega (arith, load.arena_low);
            goals_fit = omega (arith, b.began.goals_fit, b.began.held_is, b.held_is, b.left_goals, b.right_goals);
            frames_fit = omega (arith, b.sizes.frames_fit);
          };
        })) z x h

    pub join_end : (x : List ℕ) → x ≡ v → Popped w s x (joined s f) × Smaller w s x (joined s f)
    join_end x q =
        subst (λ (z : List ℕ). Popped w s z (joined s f) × Smaller w s z (joined s f)) (sym q) (
          join_popped,
          record {
            beyond = λ i b. o₂.kept.above i (omega (arith, room, fits.output_fits)) ∙ o₁.kept.above i (omega (arith, fits.goals_fit, c));
            same_length = size_same;
            same_steps = refl;
            further = λ z. omega arith;
          },
        )
