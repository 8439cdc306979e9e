-- The saved state of a run that halts: what each function of `save` is given, by what those before it wrote; and the bytes that all of them leave.
-- Assumes nothing.
use Prim.Native.Nat.{ℕ, zero, suc, ◌+◌, ◌*◌, ◌-◌, ◌≤◌}
use mathlib.Core.Path.{◌≡◌, refl, sym, ap, ap₂, subst, ◌∙◌}
use mathlib.Core.List.{List, ◌++◌}
use Rattle.std.specs.Prelude.{Some}
use native.Mathlib.Omega.{arith}
use lib.ListN.{length, take, drop, length-append}
use lib.Seq.{take_at}
use Rattle.format.specs.declared.values.Goal.{Goal}
use Rattle.format.specs.Goals.{goals_at}
use Rattle.format.specs.Limits.{most_steps}
use Rattle.format.specs.Terms.{Term}
use Rattle.format.proofs.GoalsLaws.{length-goals_at}
use Rattle.format.proofs.StandsLaws.{known}
use Rattle.evaluation.specs.Machine as M
use Rattle.lent_frames.specs.declared.LentFrame.{LentFrame}
use Rattle.entries.specs.SavedState.{saved_size, waiting_term, waiting_terms, saved_contents}
use Rattle.entries.proofs.SavedStateLaws.{term_length}
use Rattle.entries.specs.Halting.{halting_work}
use Rattle.arities.specs.Layout.{frames_end, space_end}
use Rattle.tactics.specs.Source.{source}
use Rattle.tactics.proofs.SourceLaws.{source_small}
use Rattle.tactics.proofs.MemoryLaws.{same_goals}
use Rattle.machine.specs.declared.state.Mode.TheVariants as is
use Rattle.machine.specs.declared.state.State.{State}
use Rattle.machine.specs.Shows.{here, Runs}
use Rattle.saver.specs.Put.{put, Writes}
use Rattle.saver.specs.Gather.{gathered, AllFit, GatherGiven, Gathers}
use Rattle.saver.specs.Waiting.{frames_bytes, AllLow, WaitingGiven}
use Rattle.saver.specs.Head.{head_bytes, HeadGiven, Heads}
use Rattle.saver.specs.Last.{last_bytes, LastGiven}
use Rattle.saver.specs.Save.{Halts, SaveGiven, SavesUpTo, Saves}
use Rattle.saver.proofs.PutLaws.{length-put, take_put, block-put, put-behind, same_below}
use Rattle.saver.proofs.WaitingLaws.{frames_same}
use Rattle.saver.proofs.SavedLaws.{counted, frames_end_lem, all_fit, frames_are, frames_low}

length-gathered : (w : List ℕ) (at x n : ℕ) → length (gathered w at x n) ≡ n
unfolding gathered
length-gathered w at x zero = refl
length-gathered w at x (suc n) = ap suc (length-gathered w (at + 19) _ n)

-- the contents are the head, the waiting terms and the term to begin
contents_parts : (n : ℕ) (π : M.Place) (g : List Goal) (k : List M.Frame) → saved_contents n π g k ≡ head_bytes n k (length k) ++ waiting_terms (length g) k ++ waiting_term 0 π g
unfolding saved_contents head_bytes
contents_parts n π g k = refl

module _ (w : List ℕ) (fs : List LentFrame) (s : State) (q : SaveGiven w fs s) (m : s.mode ≡ is.Running) where
  abbrev h : Halts w s
  h = q.halts m

  arena_low_lem : s.arena ≤ space_end
  arena_low_lem = omega (arith, h.runs.sizes.goals_fit, h.runs.sizes.held_fits)

  count_is : (table job : List ℕ) (π : M.Place) (t : Term) (g : List Goal) (k : List M.Frame) → Runs table job w s π t g k → length g ≡ s.count
  count_is table job π t g k r = counted w s.arena s.start s.count g r.goals

  ends_at : (table job : List ℕ) (π : M.Place) (t : Term) (g : List Goal) (k : List M.Frame) → Runs table job w s π t g k → s.top + 19 * length k ≡ frames_end
  ends_at table job π t g k r = frames_end_lem table job w s.arena k s.top s.out r.frames

  ends : s.top + 19 * length h.frames ≡ frames_end
  ends = ends_at h.table h.job h.place h.term h.goals h.frames h.runs

  few_frames : length h.frames ≤ most_steps
  few_frames = omega (arith, ends, h.runs.sizes.frames_fit, h.few_steps)

  pub gather_given : GatherGiven w fs s.top s.count
  gather_given = record {
    count = length h.frames;
    ends = ends;
    room = omega (arith, few_frames, q.lent);
    fit = subst (λ (x : ℕ). AllFit w s.top x (length h.frames)) (count_is h.table h.job h.place h.term h.goals h.frames h.runs)
        (all_fit h.table h.job w s.arena h.frames s.top s.out h.goals h.goals_counted h.shared h.runs.frames);
    space = omega (arith, q.space);
  }

  module _ (n : ℕ) (fs' : List LentFrame) (a : Gathers w fs s.top s.count n fs') where
    n_is : (k : List M.Frame) → s.top + 19 * length k ≡ frames_end → n ≡ length k
    n_is k e = (a (length k) e).0

    -- the frames that were gathered
    front : take n fs' ≡ gathered w s.top s.count n
    front =
        let i = n_is h.frames ends in
        let t : s.top + 19 * n ≡ frames_end = omega (arith, ends, i) in
        ap (take n) (a n t).1 ∙ take_at (gathered w s.top s.count n) (drop n fs) n (length-gathered w s.top s.count n)

    long_enough : n ≤ length fs'
    long_enough =
        let i = n_is h.frames ends in
        let t : s.top + 19 * n ≡ frames_end = omega (arith, ends, i) in
        let l : length fs' ≡ length (gathered w s.top s.count n) + length (drop n fs) = ap length (a n t).1 ∙ length-append (gathered w s.top s.count n) (drop n fs) in
        omega (arith, l, length-gathered w s.top s.count n)

    pub head_given : HeadGiven w s n
    head_given = record {
      space = q.space;
      few_steps = h.few_steps;
      few_waiting = omega (arith, few_frames, n_is h.frames ends);
      table = h.table;
      job = h.job;
      place = h.place;
      term = h.term;
      goals = h.goals;
      frames = h.frames;
      runs = h.runs;
    }

    module _ (r₁ : ℕ) (v₁ : List ℕ) (b : Heads w s n r₁ v₁) where
      -- the waiting terms' bytes, whatever machine's state the code stands for
      waiting_are : (table job : List ℕ) (π : M.Place) (t : Term) (g : List Goal) (k : List M.Frame) → Runs table job w s π t g k → frames_bytes w (gathered w s.top s.count n) ≡ waiting_terms (length g) k
      waiting_are table job π t g k r =
          ap (λ (j : ℕ). frames_bytes w (gathered w s.top s.count j)) (n_is k (ends_at table job π t g k r))
          ∙ frames_are table job w s.arena b.bytes k s.top s.out s.count r.frames
          ∙ ap (λ (x : ℕ). waiting_terms x k) (sym (count_is table job π t g k r))

      all_low : AllLow (take n fs')
      all_low = subst AllLow (sym (front ∙ ap (gathered w s.top s.count) (n_is h.frames ends)))
          (frames_low h.table h.job w s.arena b.bytes h.frames s.top s.out s.count arena_low_lem h.in_files h.runs.frames)

      -- the three parts of the contents fit
      abbrev head : List ℕ
      head = head_bytes s.steps h.frames n

      abbrev waiting : List ℕ
      waiting = frames_bytes w (gathered w s.top s.count n)

      head_writes : Writes w space_end head r₁ v₁
      head_writes = b.writes h.table h.job h.place h.term h.goals h.frames h.runs

      parts_fit : length head + length waiting + (6 + s.count * 2) ≤ saved_size
      parts_fit =
          let k = h.frames in
          let r = h.runs in
          let c = count_is h.table h.job h.place h.term h.goals k r in
          let e : saved_contents s.steps h.place h.goals k ≡ head ++ waiting ++ waiting_term 0 h.place h.goals =
          contents_parts s.steps h.place h.goals k
          ∙ ap₂ (λ (j : ℕ) (x : List ℕ). head_bytes s.steps k j ++ x ++ waiting_term 0 h.place h.goals) (sym (n_is k ends)) (sym (waiting_are h.table h.job h.place h.term h.goals k r)) in
          omega (
            arith,
            h.fits,
            ap length e,
            length-append (head ++ waiting) (waiting_term 0 h.place h.goals),
            length-append head waiting,
            term_length 0 h.place h.goals,
            c,
          )

      head_room : space_end + length head ≤ length w
      head_room = omega (arith, parts_fit, q.space)

      same_length : length v₁ ≡ length w
      same_length = ap length head_writes.1 ∙ length-put w head space_end head_room

      before : take space_end v₁ ≡ take space_end w
      before = ap (take space_end) head_writes.1 ∙ take_put w head space_end head_room

      -- the goals lie before what was written
      waiting_same : frames_bytes v₁ (take n fs') ≡ waiting
      waiting_same = frames_same w v₁ space_end before (omega arith) (take n fs') all_low ∙ ap (frames_bytes w) front

      pub waiting_given : WaitingGiven v₁ fs' n r₁
      waiting_given = record {
        lent = long_enough;
        above = omega (arith, head_writes.0);
        low = all_low;
        room = omega (arith, ap length waiting_same, head_writes.0, parts_fit, q.space, same_length);
      }

      module _ (r₂ : ℕ) (v₂ : List ℕ) (c : Writes v₁ r₁ (frames_bytes v₁ (take n fs')) r₂ v₂) where
        -- the head and the waiting terms as one block
        r₂_is : r₂ ≡ space_end + length head + length waiting
        r₂_is = omega (arith, c.0, ap length waiting_same, head_writes.0)

        both_written : (k : List ℕ) → length k ≡ length head → v₁ ≡ put w space_end k → v₂ ≡ put w space_end (k ++ waiting)
        both_written k l e =
            c.1
            ∙ ap₂ (λ (x y : List ℕ). put x r₁ y) e waiting_same
            ∙ put-behind w k waiting space_end r₁ (omega (arith, head_writes.0, l)) (omega (arith, head_writes.0, parts_fit, q.space))

        v₂_is : v₂ ≡ put w space_end (head ++ waiting)
        v₂_is = both_written head refl head_writes.1

        both_room : space_end + length (head ++ waiting) ≤ length w
        both_room = omega (arith, length-append head waiting, parts_fit, q.space)

        same_length₂ : length v₂ ≡ length w
        same_length₂ = ap length v₂_is ∙ length-put w (head ++ waiting) space_end both_room

        before₂ : take space_end v₂ ≡ take space_end w
        before₂ = ap (take space_end) v₂_is ∙ take_put w (head ++ waiting) space_end both_room

        pub last_given : LastGiven v₂ s r₂
        last_given =
            let r = h.runs in
            let st = known (source h.table h.job s.file) s.at h.term r.stands in
            record {
              space = omega (arith, q.space, same_length₂);
              file_known = omega (arith, ap (λ (π : M.Place). π.file) r.place_is, h.file_known);
              place_small = omega (arith, st.inside, st.three, source_small h.table h.job s.file 65536 h.table_small h.job_small);
              few = r.goals.few;
              goals_low = omega (arith, r.goals.high, arena_low_lem);
              above = omega (arith, r₂_is);
              room = omega (arith, r₂_is, parts_fit);
            }

        -- the term to begin
        last_same : last_bytes v₂ s ≡ last_bytes w s
        unfolding last_bytes
        last_same =
            ap (λ (g : List Goal). waiting_term 0 (here s) g)
            (same_goals w v₂ s.count s.start (λ i l u. same_below w v₂ space_end before₂ i (omega (arith, h.runs.goals.high, arena_low_lem))))

        last_is : (table job : List ℕ) (π : M.Place) (t : Term) (g : List Goal) (k : List M.Frame) → Runs table job w s π t g k → last_bytes w s ≡ waiting_term 0 π g
        unfolding last_bytes
        last_is table job π t g k r = ap₂ (λ (ρ : M.Place) (j : List Goal). waiting_term 0 ρ j) r.place_is r.goals.are

        length_last : length (last_bytes w s) ≡ 6 + s.count * 2
        unfolding last_bytes
        length_last = omega (arith, term_length 0 (here s) (goals_at w s.start s.count), length-goals_at s.count w s.start)

        -- all that was written, whatever machine's state the code stands for
        halted_end : (r₃ : ℕ) (v : List ℕ) → Writes v₂ r₂ (last_bytes v₂ s) r₃ v → (table job : List ℕ) (π : M.Place) (t : Term) (g : List Goal) (k : List M.Frame) → Runs table job w s π t g k
            → Writes w space_end (saved_contents s.steps π g k) r₃ v
        halted_end r₃ v d table job π t g k r =
            let first = head_bytes s.steps k n in
            let p = b.writes table job π t g k r in
            let l : length first ≡ length head = omega (arith, p.0, head_writes.0) in
            let e : v₂ ≡ put w space_end (first ++ waiting) = both_written first l p.1 in
            let two : length (first ++ waiting) ≡ length head + length waiting = length-append first waiting ∙ ap (λ (j : ℕ). j + length waiting) l in
            let all : first ++ waiting ++ last_bytes w s ≡ saved_contents s.steps π g k =
            ap₂ (λ (x y : List ℕ). first ++ x ++ y) (waiting_are table job π t g k r) (last_is table job π t g k r)
            ∙ ap (λ (j : ℕ). head_bytes s.steps k j ++ waiting_terms (length g) k ++ waiting_term 0 π g) (n_is k (ends_at table job π t g k r))
            ∙ sym (contents_parts s.steps π g k) in
            let f : v ≡ put w space_end (first ++ waiting ++ last_bytes w s) =
            d.1
            ∙ ap₂ (λ (x y : List ℕ). put x r₂ y) e last_same
            ∙ put-behind w (first ++ waiting) (last_bytes w s) space_end r₂ (omega (arith, two, r₂_is)) (omega (arith, length_last, r₂_is, parts_fit, q.space)) in
            (omega (arith, d.0, ap length last_same, r₂_is, two, length-append (first ++ waiting) (last_bytes w s), ap length all), f ∙ ap (put w space_end) all)

        pub save_end : (r₃ : ℕ) (v : List ℕ) → Writes v₂ r₂ (last_bytes v₂ s) r₃ v → Saves w s (Some r₃) v
        save_end r₃ v d = record { ended = λ z. absurd (z m); halted = λ _. (r₃, refl, halted_end r₃ v d) }

-- what the work space holds afterwards: the contents of the saved state, and what lay before them
module _ (w : List ℕ) (s : State) (end : ℕ) (v : List ℕ) (b : SavesUpTo w s end v) (table job : List ℕ) (π : M.Place) (t : Term) (g : List Goal) (k : List M.Frame) (r : Runs table job w s π t g k)
    (space : halting_work ≤ length w) (fits : length (saved_contents s.steps π g k) ≤ saved_size) where
  abbrev bytes : List ℕ
  bytes = saved_contents s.steps π g k

  written : Writes w space_end bytes end v
  written = b table job π t g k r

  room : space_end + length bytes ≤ length w
  room = omega (arith, fits, space)

  pub saved_within : (space_end ≤ end) × (end ≤ space_end + saved_size)
  saved_within = (omega (arith, written.0), omega (arith, written.0, fits))

  pub saved_length : length v ≡ length w
  saved_length = ap length written.1 ∙ length-put w bytes space_end room

  pub saved_front : take space_end v ≡ take space_end w
  saved_front = ap (take space_end) written.1 ∙ take_put w bytes space_end room

  pub saved_block : take (end - space_end) (drop space_end v) ≡ bytes
  saved_block = let n : end - space_end ≡ length bytes = omega (arith, written.0) in ap₂ (λ (j : ℕ) (x : List ℕ). take j (drop space_end x)) n written.1 ∙ block-put w bytes space_end room
