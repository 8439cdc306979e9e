-- A waiting term that was loaded; and the turns of gathering, which keep what is gathered and what is still to come together.
-- Assumes nothing.
use Prim.Native.Nat.{ℕ, zero, suc, ◌+◌, ◌*◌, ◌-◌, ◌≤◌, ◌<◌}
use mathlib.Core.Path.{◌≡◌, refl, sym, ap, ap₂, subst, ◌∙◌}
use mathlib.Core.List.{List, [], ◌∷◌, ◌++◌, append_assoc, append-nil}
use native.Mathlib.Omega.{arith}
use lib.ListN.{length, get_or, set, take, drop, length-set, take-append-drop}
use lib.Seq.{take-suc-set, drop-set-lt}
use borrow.Author.Tests.{ne_eqb}
use Rattle.format.specs.Encoding.{Bytes}
use Rattle.lent_frames.specs.declared.LentFrame.{LentFrame}
use Rattle.arities.specs.Layout.{frames_end}
use Rattle.tactics.specs.Numbers.{triple}
use Rattle.frames.specs.declared.Frame.{Frame}
use Rattle.frames.specs.Frames.{frame_at}
use Rattle.saver.specs.declared.gather.Gathered.{Gathered}
use Rattle.saver.specs.Gather.{own_count_of, held_after, own_start, lent_frame, gathered_of, FrameFits, gathered, AllFit, Gathers}

-- where own goals begin
module _ (c s : ℕ) where
  pub start_some : (c ≡ 0 → ⊥) → s ≡ own_start c s
  unfolding own_start
  start_some n = rw (ne_eqb c 0 n) refl

-- a frame that was loaded
module _ (f g : Frame) (x : ℕ) (e : f ≡ g) where
  pub fits_own : FrameFits g x → (x ≤ 65535) × (f.kind ≡ 6 → x ≤ f.count)
  fits_own h = let i : FrameFits f x = subst (λ (y : Frame). FrameFits y x) (sym e) h in (i.few, i.shared)

  pub gather_end : (o h s : ℕ) → o ≡ own_count_of f.kind f.count x → h ≡ held_after f.kind f.count x → s ≡ own_start o f.start
      → ◌≡◌ {A = Gathered} (record { frame = record { term = f.file * 65536 + f.at; goals = s; count = o; stage = f.kind }; inside = h }) (gathered_of g x)
  unfolding gathered_of lent_frame
  gather_end o h s p r q =
      let u : s ≡ own_start (own_count_of f.kind f.count x) f.start = q ∙ ap (λ (y : ℕ). own_start y f.start) p in
      (λ i. record { frame = record { term = f.file * 65536 + f.at; goals = u i; count = p i; stage = f.kind }; inside = r i }) ∙ ap (λ (y : Frame). gathered_of y x) e

-- where its goals begin is a number of three bytes
pub start_small : (w : List ℕ) → Bytes w → (at : ℕ) (f : Frame) → f ≡ frame_at w at → f.start < 4294967296
unfolding frame_at triple
start_small w bytes at f e =
    let z : f.start ≡ get_or w (at + 8) 0 + get_or w (at + 8 + 1) 0 * 256 + get_or w (at + 8 + 2) 0 * 65536 = ap (λ (x : Frame). x.start) e in
    omega (arith, z, bytes (at + 8), bytes (at + 8 + 1), bytes (at + 8 + 2))

-- what holds at every turn: the frames gathered so far, with those still to come, are all of them
pub record GatherTurn (w : List ℕ) (fs₀ : List LentFrame) (top inside : ℕ) (fs : List LentFrame) (n at x : ℕ) : Type 0 where
  pub total : ℕ
  pub left : ℕ
  pub ends : top + 19 * total ≡ frames_end
  pub ends_here : at + 19 * left ≡ frames_end
  pub counted : n + left ≡ total
  pub room : total ≤ length fs
  pub space : frames_end ≤ length w
  pub fit : AllFit w at x left
  pub same : take n fs ++ gathered w at x left ++ drop total fs ≡ gathered w top inside total ++ drop total fs₀

module _ (w : List ℕ) (fs₀ : List LentFrame) (top inside : ℕ) (fs : List LentFrame) (n at x : ℕ) (q : GatherTurn w fs₀ top inside fs n at x) where
  -- a frame is still to come
  one_left : at < frames_end → (k : ℕ) × (q.left ≡ suc k)
  one_left h = go q.left refl
    where
      go : (m : ℕ) → q.left ≡ m → (k : ℕ) × (q.left ≡ suc k)
      go zero e = absurd (omega (arith, h, q.ends_here, e))
      go (suc k) e = (k, e)

  first_fits : (k : ℕ) → q.left ≡ suc k → FrameFits (frame_at w at) x × AllFit w (at + 19) (held_after (frame_at w at).kind (frame_at w at).count x) k
  unfolding AllFit
  first_fits k e = subst (λ (m : ℕ). AllFit w at x m) e q.fit

  pub gather_at_given : at < frames_end → (at + 18 < length w) × FrameFits (frame_at w at) x
  gather_at_given h = let o = one_left h in (omega (arith, q.ends_here, o.1, q.space), (first_fits o.0 o.1).0)

  gather_push_given : at < frames_end → n < length fs
  gather_push_given h = let o = one_left h in omega (arith, q.counted, q.room, o.1)

  pub gather_next : at < frames_end → (g : Gathered) → g ≡ gathered_of (frame_at w at) x → (n' : ℕ) → n' ≡ n + 1 → (fs' : List LentFrame) → fs' ≡ set fs n g.frame
      → GatherTurn w fs₀ top inside fs' n' (at + 19) g.inside
  unfolding gathered gathered_of
  gather_next h g e n' en fs' ef =
      let o = one_left h in
      let k = o.0 in
      let f = lent_frame (frame_at w at) x in
      let y = held_after (frame_at w at).kind (frame_at w at).count x in
      let set_is : fs' ≡ set fs n f = ef ∙ ap (λ (z : Gathered). set fs n z.frame) e in
      let len : length fs' ≡ length fs = ap length set_is ∙ length-set fs n f in
      let inner : n < length fs = gather_push_given h in
      let one_more : suc n ≡ n' = omega (arith, en) in
      let front : take n' fs' ≡ take n fs ++ (f ∷ []) = ap₂ take (sym one_more) set_is ∙ take-suc-set fs n f inner in
      let rest : drop q.total fs' ≡ drop q.total fs = ap (drop q.total) set_is ∙ drop-set-lt q.total fs n f (omega (arith, q.counted, o.1)) in
      let same : take n' fs' ++ gathered w (at + 19) y k ++ drop q.total fs' ≡ gathered w top inside q.total ++ drop q.total fs₀ =
      ap₂ (λ (a b : List LentFrame). a ++ gathered w (at + 19) y k ++ b) front rest
      ∙ ap (λ (a : List LentFrame). a ++ drop q.total fs) (append_assoc (take n fs) (f ∷ []) (gathered w (at + 19) y k))
      ∙ sym (ap (λ (m : ℕ). take n fs ++ gathered w at x m ++ drop q.total fs) o.1)
      ∙ q.same in
      record {
        total = q.total;
        left = k;
        ends = q.ends;
        ends_here = omega (arith, q.ends_here, o.1);
        counted = omega (arith, q.counted, o.1, en);
        room = omega (arith, q.room, len);
        space = q.space;
        fit = subst (λ (z : Gathered). AllFit w (at + 19) z.inside k) (sym e) (first_fits k o.1).1;
        same = subst (λ (z : Gathered). take n' fs' ++ gathered w (at + 19) z.inside k ++ drop q.total fs' ≡ gathered w top inside q.total ++ drop q.total fs₀) (sym e) same;
      }

  pub gather_all : frames_end ≤ at → Gathers w fs₀ top inside n fs
  unfolding gathered
  gather_all h m e =
      let none : q.left ≡ 0 = omega (arith, h, q.ends_here) in
      let total_is : q.total ≡ m = omega (arith, q.ends, e) in
      let n_is : n ≡ m = omega (arith, q.counted, none, total_is) in
      let here : take n fs ++ drop m fs ≡ gathered w top inside m ++ drop m fs₀ =
      sym (ap (λ (a : List LentFrame). a ++ drop m fs) (append-nil (take n fs)))
      ∙ subst (λ (j : ℕ). take n fs ++ gathered w at x j ++ drop m fs ≡ gathered w top inside m ++ drop m fs₀) none
      (subst (λ (j : ℕ). take n fs ++ gathered w at x q.left ++ drop j fs ≡ gathered w top inside j ++ drop j fs₀) total_is q.same) in
      (n_is, sym (take-append-drop m fs) ∙ ap (λ (j : ℕ). take j fs ++ drop m fs) (sym n_is) ∙ here)
