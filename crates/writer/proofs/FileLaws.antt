-- The proof file of a right flat file: what its parts are given, and its bytes, part behind part.
-- Assumes nothing.
use Prim.Native.Nat.{ℕ, ◌+◌, ◌*◌, ◌-◌, ◌≤◌}
use mathlib.Core.Path.{◌≡◌, sym, ap, subst, ◌∙◌}
use mathlib.Core.List.{List, ◌++◌, append_assoc}
use native.Mathlib.Omega.{arith}
use lib.ListN.{length, take, drop, length-append}
use lib.Seq.{drop-drop, take-append_seam, drop-append_seam}
use borrow.Rule.Slice.PartMut.{put_mid}
use Rattle.format.specs.declared.values.Goal.{Goal}
use Rattle.format.specs.Limits.{most_goals}
use Rattle.format.specs.Terms.{Term, size}
use Rattle.format.specs.Goals.{goals_at}
use Rattle.format.specs.Encoding.{term_bytes, goal_list_bytes}
use Rattle.format.proofs.Encoded.{length-term_bytes}
use Rattle.files.specs.Proofs.{proof_bytes}
use Rattle.files.specs.Derivations.{Entry, entries_place}
use Rattle.files.specs.Standing.{EntriesStand}
use Rattle.files.proofs.Files.{length-goal_list_bytes}
use Rattle.hitac.specs.Premises.{Finds}
use Rattle.hitac.specs.Forest.{leaves}
use Rattle.hitac.specs.Write.{written}
use Rattle.hitac.proofs.WalkValidates.{finds_agrees}
use Rattle.hitac.proofs.FlatWalks.{flat_walk→derives}
use Rattle.entries.specs.CheckFlat.{written_proof}
use Rattle.writer.specs.Trees.{Trees, Ready, Done}
use Rattle.writer.specs.Leaves.{Rest}
use Rattle.writer.specs.Right.{Right, proof_of, PlannedRight}
use Rattle.writer.proofs.Lent.{placed, put-placed}
use Rattle.writer.proofs.SizeLaws.{term_small}

-- a part written behind what was written
next_part : (z o y : List ℕ) (a : ℕ) → a ≡ length z → placed a (z ++ drop a o) y ≡ (z ++ y) ++ drop (a + length y) o
next_part z o y a e =
    rw (e, take-append_seam z (drop (length z) o), drop-append_seam z (drop (length z) o), drop-drop (length y) (length z) o)
    (sym (append_assoc z y (drop (length z + length y) o)))

module _ {s : List ℕ} {n : ℕ} (d : Right s n) where
  abbrev pub entries_of : List Entry
  entries_of = d.derivation.entries

  abbrev pub term : Term
  term = written d.table entries_of

  pub few_roots : n ≤ most_goals
  few_roots = omega (arith, d.flat.roots_stand.few, d.count)

  pub roots_inside : 3 + n * 2 ≤ length s
  roots_inside = omega (arith, d.flat.roots_stand.head.inside, d.count)

  roots_are : goals_at s 3 n ≡ d.derivation.roots
  roots_are = ap (goals_at s 3) (sym d.count) ∙ sym d.flat.roots_stand.goals_are

  pub stand : EntriesStand s (3 + n * 2) (length s) entries_of
  unfolding entries_place
  stand = subst (λ (k : ℕ). EntriesStand s (3 + k * 2) (length s) entries_of) d.count d.flat.entries_stand

  abbrev pub trees_of : {p : List ℕ} → PlannedRight p d → Trees p 0 n
  trees_of planned =
      record {
        table = d.table;
        goals = d.derivation.roots;
        count = d.count;
        entries = entries_of;
        planned = planned;
        inside = omega (arith, d.few);
        right = flat_walk→derives d.table (Finds d.table) (finds_agrees d.table) (entries_place d.derivation) d.derivation.roots entries_of d.right;
      }

  abbrev pub forest_ready : {p : List ℕ} (room : ℕ) → PlannedRight p d → size term ≤ room → Ready p 0 n room
  forest_ready room planned h = record { trees = trees_of planned; fits = h; small = omega (arith, term_small d) }

  abbrev pub rest_of : Rest s (3 + n * 2)
  rest_of = record { entries = entries_of; stand = stand }

  -- roots, term and open leaves, one behind the other
  pub file_bytes : (at end next len3 from : ℕ) (o o1 o2 o3 l2 l3 : List ℕ) → at ≡ 3 + n * 2 → from ≡ at + size term
      → o1 ≡ goal_list_bytes (goals_at s 3 n) ++ drop (3 + n * 2) o
      → Done term end next (take (length o1 - at) (drop at o1)) l2
      → o2 ≡ put_mid at (length o1 - at) o1 l2
      → len3 ≡ 3 + length (leaves entries_of) * 2
      → l3 ≡ goal_list_bytes (leaves entries_of) ++ drop (3 + length (leaves entries_of) * 2) (take (length o2 - from) (drop from o2))
      → o3 ≡ put_mid from (length o2 - from) o2 l3
      → (from + len3 ≡ length (proof_of d)) × (o3 ≡ proof_of d ++ drop (length (proof_of d)) o)
  unfolding proof_bytes written_proof
  file_bytes at end next len3 from o o1 o2 o3 l2 l3 f g b1 d2 p2 e3 b3 p3 =
      let x = goal_list_bytes d.derivation.roots in
      let y = term_bytes term in
      let z = goal_list_bytes (leaves entries_of) in
      let lx : length x ≡ at = length-goal_list_bytes d.derivation.roots ∙ omega (arith, d.count) in
      let ly : length y ≡ size term = length-term_bytes term in
      let lz : length z ≡ len3 = length-goal_list_bytes (leaves entries_of) ∙ sym e3 in
      let q1 : o1 ≡ x ++ drop at o = b1 ∙ ap (λ (h : List Goal). goal_list_bytes h ++ drop (3 + n * 2) o) roots_are ∙ ap (λ (k : ℕ). x ++ drop k o) (sym f) in
      let q2 : o2 ≡ (x ++ y) ++ drop (at + length y) o =
      p2 ∙ put-placed at (size term) o1 l2 y (sym (length-term_bytes term)) d2.bytes_are ∙ ap (λ (l : List ℕ). placed at l y) q1 ∙ next_part x o y at (sym lx) in
      let far : at + length y ≡ from = omega arith in
      let q2' : o2 ≡ (x ++ y) ++ drop from o = q2 ∙ ap (λ (k : ℕ). (x ++ y) ++ drop k o) far in
      let lxy : from ≡ length (x ++ y) = omega (arith, length-append x y) in
      let q3 : o3 ≡ ((x ++ y) ++ z) ++ drop (from + length z) o =
      p3 ∙ put-placed from (3 + length (leaves entries_of) * 2) o2 l3 z (sym (length-goal_list_bytes (leaves entries_of))) b3 ∙ ap (λ (l : List ℕ). placed from l z) q2' ∙ next_part (x ++ y) o z from lxy in
      let all : from + length z ≡ length ((x ++ y) ++ z) = omega (arith, length-append (x ++ y) z) in
      (omega arith, q3 ∙ ap (λ (k : ℕ). ((x ++ y) ++ z) ++ drop k o) all)
