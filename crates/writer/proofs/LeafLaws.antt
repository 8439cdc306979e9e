-- The open leaves of a flat file written one by one: those before a place are written, those from it on are not. One law for each turn of the loop.
-- Assumes nothing.
use Prim.Native.Nat.{ℕ, suc, ◌+◌, ◌*◌, ◌≤◌, ◌<◌}
use mathlib.Core.Path.{◌≡◌, refl, sym, ap, ◌∙◌}
use mathlib.Core.List.{List, [], ◌∷◌, ◌++◌, append_assoc, append-nil}
use native.Mathlib.Omega.{arith}
use lib.ListN.{length, get_or, drop, length-append}
use Rattle.words.specs.Word.{word, put_word}
use Rattle.format.specs.declared.values.Goal.{Goal}
use Rattle.format.specs.Values.{goal}
use Rattle.format.specs.Encoding.{goal_bytes}
use Rattle.files.proofs.EntriesStanding.{none_left, first_use, first_open}
use Rattle.hitac.specs.Forest.{leaves}
use Rattle.writer.specs.Leaves.{Rest, leaves_of}
use Rattle.writer.proofs.GoalLaws.{goals_next}

module _ {s : List ℕ} {here : ℕ} (r : Rest s here) where
  -- an open stands here
  pub rest_open : here < length s → (get_or s here 0 ≡ 32 → ⊥) → (q : Rest s (here + 5)) × (leaves_of r ≡ goal (word s (here + 3)) ∷ leaves_of q) × (here + 5 ≤ length s)
  rest_open h t =
      let f = first_open s here (length s) r.entries r.stand h t in
      (record { entries = f.others; stand = f.others_stand }, ap leaves f.all_are, f.inside)

  -- a use stands here
  pub rest_use : here < length s → get_or s here 0 ≡ 32 → (q : Rest s (here + 7)) × (leaves_of r ≡ leaves_of q) × (here + 7 ≤ length s)
  rest_use h t =
      let f = first_use s here (length s) r.entries r.stand h t in
      (record { entries = f.others; stand = f.others_stand }, ap leaves f.all_are, f.inside)

  -- the file ends here
  pub rest_end : length s ≤ here → leaves_of r ≡ []
  rest_end h = ap leaves (none_left s here (length s) r.entries r.stand h)

-- the leaves before a place are written, those from it on are not
pub record LeavesAt (s : List ℕ) (at : ℕ) (p : Rest s at) (o out : List ℕ) (here len : ℕ) : Type 0 where
  pub done : List Goal
  pub rest : Rest s here
  pub goals : leaves_of p ≡ done ++ leaves_of rest
  pub len_is : len ≡ length done * 2
  pub bytes_are : out ≡ goal_bytes done ++ drop len o

pub leaves-start : {s : List ℕ} {at : ℕ} (p : Rest s at) (o : List ℕ) → LeavesAt s at p o o at 0
unfolding goal_bytes
leaves-start p o = record { done = []; rest = p; goals = refl; len_is = refl; bytes_are = refl }

module _ {s : List ℕ} {at : ℕ} {p : Rest s at} {o out : List ℕ} {here len : ℕ} (l : LeavesAt s at p o out here len) (inside : here < length s) where
  pub leaves_use : get_or s here 0 ≡ 32 → LeavesAt s at p o out (here + 7) len
  leaves_use t =
      let q = rest_use l.rest inside t in
      record { done = l.done; rest = q.0; goals = l.goals ∙ ap {B = List Goal} (λ g. l.done ++ g) q.1; len_is = l.len_is; bytes_are = l.bytes_are }

  pub open_fits : (get_or s here 0 ≡ 32 → ⊥) → length (leaves_of p) * 2 ≤ length o → len + 2 ≤ length o
  open_fits t h =
      let q = rest_open l.rest inside t in
      let a : length (leaves_of p) ≡ length (l.done ++ leaves_of l.rest) = ap length l.goals in
      let b : length (leaves_of l.rest) ≡ suc (length (leaves_of q.0)) = ap length q.1 in
      omega (arith, length-append l.done (leaves_of l.rest), l.len_is)

  pub leaves_open : (v : ℕ) (out' : List ℕ) → (get_or s here 0 ≡ 32 → ⊥) → v ≡ word s (here + 3) → len + 2 ≤ length o → out' ≡ put_word out len v → LeavesAt s at p o out' (here + 5) (len + 2)
  leaves_open v out' t e h b =
      let q = rest_open l.rest inside t in
      let γ : Goal = goal (word s (here + 3)) in
      record {
        done = l.done ++ (γ ∷ []);
        rest = q.0;
        goals = l.goals ∙ ap {B = List Goal} (λ g. l.done ++ g) q.1 ∙ sym (append_assoc l.done (γ ∷ []) (leaves_of q.0));
        len_is = omega (arith, l.len_is, length-append l.done (γ ∷ []));
        bytes_are = b ∙ ap (put_word out len) e ∙ goals_next l.done γ o out len l.len_is h l.bytes_are;
      }

pub leaves-done : {s : List ℕ} {at : ℕ} {p : Rest s at} {o out : List ℕ} {here len : ℕ} → LeavesAt s at p o out here len → length s ≤ here
    → (len ≡ length (leaves_of p) * 2) × (out ≡ goal_bytes (leaves_of p) ++ drop (length (leaves_of p) * 2) o)
leaves-done {p = p} {o = o} l h =
    let e : leaves_of p ≡ l.done = l.goals ∙ ap {B = List Goal} (λ g. l.done ++ g) (rest_end l.rest h) ∙ append-nil l.done in
    rw e (l.len_is, l.bytes_are ∙ ap (λ (k : ℕ). goal_bytes l.done ++ drop k o) l.len_is)
