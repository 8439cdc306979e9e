-- The saved state of a halted run: how long its contents are, that they fit into the size that docs/ names, and that its first two bytes are its step count.
-- Assumes nothing.
use Prim.Native.Nat.{ℕ, ◌+◌, ◌-◌, ◌*◌, ◌/◌, ◌%◌, ◌≤◌, ◌<◌}
use native.Mathlib.Omega.{arith}
use mathlib.Core.Path.{◌≡◌, refl, sym, subst, ap, ◌∙◌}
use mathlib.Core.List.{List, [], ◌∷◌, ◌++◌}
use mathlib.Core.Option.{some, none-ne-some}
use lib.ListN.{length, replicate, length-append, length-replicate}
use borrow.Author.Tests.{le-ltb}
use Rattle.words.specs.Word.{word}
use Rattle.format.specs.declared.values.Goal.{Goal}
use Rattle.format.specs.Encoding.{word_bytes}
use Rattle.format.specs.Limits.{most_steps}
use Rattle.format.specs.Results.{gives}
use Rattle.format.specs.Terms.{Term}
use Rattle.format.proofs.Encoded.{length-term_bytes}
use Rattle.format.proofs.GoalBytes.{length-goal_bytes}
use Rattle.tables.specs.Tables.{Table}
use Rattle.tables.specs.ReadTables.{read_table}
use Rattle.tables.proofs.ReadsTable.{reads_few_premises}
use Rattle.files.specs.Jobs.{Job, read_job}
use Rattle.files.specs.Counts.{job_term_place}
use Rattle.files.proofs.WhatStands.{job_stands}
use Rattle.evaluation.specs.Machine.{held, Place, Frame, labelled, sequence_left, sequence_right, tensor_left, tensor_right, alternation_left, Control, running, stopped, State, after, Running, run}
use Rattle.evaluation.specs.RunSizes.{held_fields}
use Rattle.evaluation.specs.Halts.{stage, last_place, own_goals, held_of, own_count, kept_size, kept_bytes}
use Rattle.evaluation.proofs.RunBounds.{running_kept}
use Rattle.evaluation.proofs.RunLaws.{spent_steps, run_steps}
use Rattle.evaluation.proofs.HeldBounds.{run-held}
use Rattle.evaluation.proofs.HaltBounds.{waiting_is, kept_bytes_lem, held_goals_lem}
use Rattle.entries.specs.Run.{begins}
use Rattle.entries.specs.SavedState.{saved_size, waiting_term, finished_field, finished_fields, waiting_terms, saved_contents, zeros_to, saved_in, saved_state}
use Rattle.entries.specs.Halting.{steps_of}

finished-length : (f : Frame) → length (finished_field f) ≡ kept_size f
finished-length (labelled π l) = refl
finished-length (sequence_left π u) = refl
finished-length (sequence_right π s) = length-term_bytes s
finished-length (tensor_left π u h) = refl
finished-length (tensor_right π s h) = length-term_bytes s
finished-length (alternation_left π u h) = refl

pub fields-length : (w : List Frame) → length (finished_fields w) ≡ kept_bytes w
unfolding finished_fields kept_bytes
fields-length [] = refl
fields-length (f ∷ w) = rw length-append (omega (arith, fields-length w, finished-length f))

pub term_length : (k : ℕ) (π : Place) (g : List Goal) → length (waiting_term k π g) ≡ 6 + 2 * length g
term_length k π g = omega (arith, length-goal_bytes g)

pub terms_length : (x : ℕ) (w : List Frame) → length (waiting_terms x w) ≡ 6 * length w + 2 * own_count x w
unfolding waiting_terms own_count
terms_length x [] = refl
terms_length x (f ∷ w) =
    omega (arith, length-append (waiting_terms (held_of x f) w) (waiting_term (stage f) (last_place f) (own_goals x f)), terms_length (held_of x f) w, term_length (stage f) (last_place f) (own_goals x f))

-- LENGTH of what is saved, the zeros not counted
pub contents-length : (n : ℕ) (π : Place) (g : List Goal) (w : List Frame)
    → length (saved_contents n π g w) ≡ 12 + kept_bytes w + 6 * length w + 2 * (length g + own_count (length g) w)
unfolding saved_contents
contents-length n π g w =
    let a = finished_fields w in
    let b = waiting_terms (length g) w in
    let c = waiting_term 0 π g in
    omega (
      arith,
      length-append (word_bytes n ++ word_bytes (length a) ++ a ++ word_bytes (length w + 1) ++ b) c,
      length-append (word_bytes n ++ word_bytes (length a) ++ a ++ word_bytes (length w + 1)) b,
      length-append (word_bytes n ++ word_bytes (length a) ++ a) (word_bytes (length w + 1)),
      length-append (word_bytes n ++ word_bytes (length a)) a,
      fields-length w,
      terms_length (length g) w,
      term_length 0 π g,
    )

pub zeros_length : (n : ℕ) (s : List ℕ) → length s ≤ n → length (zeros_to n s) ≡ n
zeros_length n s h = omega (arith, length-append s (replicate (n - length s) 0), length-replicate {A = ℕ} (n - length s) 0)

-- the step count is the number in the first two bytes
pub steps_read : (n : ℕ) (s : List ℕ) → n < 65536 → steps_of (word_bytes n ++ s) ≡ n
unfolding steps_of word
steps_read n s h = rw (le-ltb (length (n / 256 ∷ n % 256 ∷ s)) 2 (omega arith)) (omega arith)

pub some_of : {x y : List ℕ} → some x ≡ some y → x ≡ y
some_of q = cc

-- A table and a job that were read, and at most as many steps as are allowed.
module _ (t f : List ℕ) (T : Table) (j : Job) (e : read_table t ≡ gives T) (g : read_job f ≡ gives j) (n : ℕ) (l : n ≤ most_steps) where
  abbrev at_job : Place
  at_job = record { file = 1; at = job_term_place j }

  -- what a halted run of k steps saves, with the fields that it holds
  contents_most : (k : ℕ) (π : Place) (u : Term) (h : List Goal) (w : List Frame) → run T n (begins j) ≡ after k (running π u h w)
      → length (saved_contents k π h w) ≤ 524 + 6 * k + 15 * held w
  contents_most k π u h w q =
      let a = running_kept T n at_job j.term j.goals q in
      let few = held_goals_lem T (λ a γ h m. reads_few_premises t T e _ m) n k at_job π j.term u j.goals h w (job_stands f j g).goals_stand.few q in
      omega (arith, contents-length k π h w, a.0, waiting_is w, kept_bytes_lem w, few)

  -- FITS: it has room in the size that docs/ names.
  pub contents_fit : (k : ℕ) (π : Place) (u : Term) (h : List Goal) (w : List Frame) → run T n (begins j) ≡ after k (running π u h w) → length (saved_contents k π h w) ≤ saved_size
  contents_fit k π u h w q =
      let s : k ≤ n = subst (λ (x : State). x.steps ≤ n) q (run_steps T n at_job j.term j.goals) in
      let v : held w ≤ 4096 = subst (λ (x : State). held_fields x.control ≤ 4096) q (run-held T n at_job j.term j.goals) in
      omega (arith, l, contents_most k π u h w q, s, v)

  -- SIZE: every saved state has that size;
  pub saved_length : (s : List ℕ) → saved_state (run T n (begins j)) ≡ some s → length s ≡ saved_size
  unfolding saved_state saved_in
  saved_length s q = go (run T n (begins j)).steps (run T n (begins j)).control refl q
    where
      go : (k : ℕ) (κ : Control) → run T n (begins j) ≡ after k κ → saved_in k κ ≡ some s → length s ≡ saved_size
      go k (running π u h w) p z = ap length (sym (some_of z)) ∙ zeros_length saved_size (saved_contents k π h w) (contents_fit k π u h w p)
      go k (stopped x) p z = absurd (none-ne-some s z)

  -- STEPS: and its first two bytes are the number of steps.
  pub saved_steps : (s : List ℕ) → saved_state (run T n (begins j)) ≡ some s → steps_of s ≡ n
  unfolding saved_state saved_in saved_contents
  saved_steps s q = go (run T n (begins j)).control refl q
    where
      go : (κ : Control) → (run T n (begins j)).control ≡ κ → saved_in (run T n (begins j)).steps κ ≡ some s → steps_of s ≡ n
      go (running π u h w) p z =
          let k : (run T n (begins j)).steps ≡ n = spent_steps T n at_job j.term j.goals (subst Running (sym p) tt) in
          ap steps_of (sym (some_of z)) ∙ steps_read (run T n (begins j)).steps _ (omega (arith, k, l)) ∙ k
      go (stopped x) p z = absurd (none-ne-some s z)
