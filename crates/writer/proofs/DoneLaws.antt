-- The cases of the two writers: what an inner writer is given, and what is written in the end. Each by the term of the trees in that case.
-- Assumes nothing.
use Prim.Native.Nat.{ℕ, zero, suc, ◌+◌, ◌-◌, ◌≤◌, ◌<◌}
use mathlib.Core.Path.{◌≡◌, refl, sym, ap, ◌∙◌}
use mathlib.Core.Logic.{◌⊎◌, inl, inr}
use mathlib.Core.List.{List, ◌++◌}
use native.Mathlib.Omega.{arith}
use lib.ListN.{length, get_or, take, drop}
use borrow.Author.Tests.{eq-eqb, ne_eqb}
use borrow.Rule.Slice.PartMut.{put_mid}
use Rattle.words.specs.Word.{word}
use Rattle.format.specs.declared.values.RuleName.{RuleName}
use Rattle.format.specs.Terms.{Term, atomic, id, sequence, tensor, empty, size}
use Rattle.format.specs.Encoding.{term_bytes}
use Rattle.writer.specs.Fields.{header}
use Rattle.writer.specs.Plan.{open_mark, behind}
use Rattle.writer.specs.Trees.{Trees, Ready, Done, term_of, end_of, lead}
use Rattle.writer.proofs.Lent.{tail_part, after, pair_bytes, lent_size}
use Rattle.writer.proofs.TreeLaws.{none_term, tree_open, UseTree, several, moved, name_path}

-- a term that was written, by what it is
done_by : (t t' : Term) (end next : ℕ) (o o' : List ℕ) → t ≡ t' → next ≡ end → o' ≡ term_bytes t' ++ drop (size t') o → Done t end next o o'
done_by t t' end next o o' e n b = record { passed = n; bytes_are = b ∙ ap (λ (x : Term). term_bytes x ++ drop (size x) o) (sym e) }

-- its size, read back where it was lent from a place on
pub done-size : {t : Term} {end next : ℕ} (a : ℕ) (o l : List ℕ) → Done t end next (take (length o - a) (drop a o)) l → a ≤ length o → size t < 65536
    → 3 + word (put_mid a (length o - a) o l) (a + 1) ≡ size t
done-size {t} a o l d h small = lent_size t a o _ l h small d.bytes_are refl

-- trees from a place that was told otherwise
pub done-moved : {p : List ℕ} {at at' n next : ℕ} {o o' : List ℕ} (e : at ≡ at') (q : Trees p at n) → Done (term_of (moved e q)) (end_of (moved e q)) next o o' → Done (term_of q) (end_of q) next o o'
done-moved e q d = record { passed = d.passed ∙ ap (λ (k : ℕ). behind k q.entries) (sym e); bytes_are = d.bytes_are }

-- room for a term, by what it is
room_by : {p : List ℕ} {at n room : ℕ} (r : Ready p at n room) (t : Term) → term_of r.trees ≡ t → size t ≤ room
room_by r t e = omega (arith, r.fits, ap size e)

-- a forest of no trees
module _ {p : List ℕ} {at n : ℕ} where
  pub none_room : {room : ℕ} → Ready p at n room → n ≡ 0 → 3 ≤ room
  unfolding size
  none_room r z = room_by r empty (none_term r.trees z).0

  pub done_none : (q : Trees p at n) (o o' : List ℕ) → n ≡ 0 → o' ≡ header 21 0 ++ drop 3 o → Done (term_of q) (end_of q) at o o'
  unfolding size term_bytes
  done_none q o o' z b = done_by (term_of q) empty (end_of q) at o o' (none_term q z).0 (none_term q z).1 b

-- the bytes before the first tree
pub lead_one : {n : ℕ} → n ≡ 1 → lead n ≡ 0
unfolding lead
lead_one {n} e = rw (eq-eqb n 1 e)

pub lead_more : {n : ℕ} → (n ≡ 1 → ⊥) → lead n ≡ 3
unfolding lead
lead_more {n} e = rw (ne_eqb n 1 e)

by_count : (n : ℕ) → 1 ≤ n → (n ≡ 1) ⊎ (2 ≤ n)
by_count zero h = absurd (omega arith)
by_count (suc zero) h = inl refl
by_count (suc (suc n)) h = inr (omega arith)

-- a forest of one tree or more
module _ {p : List ℕ} {at n : ℕ} (q : Trees p at n) (some : 1 ≤ n) where
  one_size : n ≡ 1 → size (term_of q) ≡ size (term_of (several q some).first)
  one_size e = ap size ((several q some).term_one e).0

  pub more_size : 2 ≤ n → size (term_of q) ≡ 3 + (size (term_of (several q some).first) + size (term_of (several q some).others))
  unfolding size
  more_size m = ap size ((several q some).term_more m) ∙ omega arith

  first_fits : lead n + size (term_of (several q some).first) ≤ size (term_of q)
  first_fits = go (by_count n some)
    where
      go : (n ≡ 1) ⊎ (2 ≤ n) → lead n + size (term_of (several q some).first) ≤ size (term_of q)
      go (inl e) = omega (arith, lead_one e, one_size e)
      go (inr m) = omega (arith, lead_more {n = n} (λ e. omega (arith, e, m)), more_size m)

  pub done_one : (o l : List ℕ) (k next : ℕ) → k ≡ lead n → n ≡ 1
      → Done (term_of (several q some).first) (end_of (several q some).first) next (take (length o - k) (drop k o)) l
      → Done (term_of q) (end_of q) next o (put_mid k (length o - k) o l)
  done_one o l k next f e d =
      let x = term_of (several q some).first in
      let t = (several q some).term_one e in
      let z : k ≡ 0 = f ∙ lead_one e in
      let b : l ≡ term_bytes x ++ drop (size x) o = d.bytes_are ∙ ap (λ (j : ℕ). term_bytes x ++ drop (size x) (take (length o - j) (drop j o))) z ∙ ap (λ (u : List ℕ). term_bytes x ++ drop (size x) u) (tail_part 0 o) in
      let w : put_mid k (length o - k) o l ≡ l = ap (λ (j : ℕ). put_mid j (length o - j) o l) z ∙ after 0 o l in
      done_by (term_of q) x (end_of q) next o _ t.0 (d.passed ∙ t.1) (w ∙ b)

  pub done_more : (m : 2 ≤ n) (o o1 o2 o3 l1 l2 : List ℕ) (k next1 from next2 len : ℕ) → k ≡ 3 → from ≡ 3 + size (term_of (several q some).first)
      → Done (term_of (several q some).first) (end_of (several q some).first) next1 (take (length o - k) (drop k o)) l1
      → Done (term_of (several q some).others) (end_of (several q some).others) next2 (take (length o1 - from) (drop from o1)) l2
      → o1 ≡ put_mid k (length o - k) o l1 → o2 ≡ put_mid from (length o1 - from) o1 l2 → size (term_of q) ≤ length o
      → len ≡ size (term_of (several q some).first) + size (term_of (several q some).others) → o3 ≡ header 20 len ++ drop 3 o2
      → Done (term_of q) (end_of q) next2 o o3
  unfolding size term_bytes
  done_more m o o1 o2 o3 l1 l2 k next1 from next2 len ek ef d1 d2 p1 p2 room el b =
      let s = several q some in
      let x = term_of s.first in
      let y = term_of s.others in
      let fit : 3 + (size x + size y) ≤ length o = omega (arith, more_size m) in
      done_by (term_of q) (tensor x y) (end_of q) next2 o o3 (s.term_more m) (d2.passed ∙ s.passes)
      (pair_bytes x y 20 o o1 o2 o3 l1 l2 k from len ek ef fit el d1.bytes_are p1 d2.bytes_are p2 b)

module _ {p : List ℕ} {at n room : ℕ} (r : Ready p at n room) (some : 1 ≤ n) where
  pub first_room : (lead n + size (term_of (several r.trees some).first) ≤ room) × (size (term_of (several r.trees some).first) < 65536)
  first_room = (omega (arith, first_fits r.trees some, r.fits), omega (arith, first_fits r.trees some, r.small))

  abbrev pub first_ready : (room' : ℕ) → room' ≡ room - lead n → Ready p at 1 room'
  first_ready room' e = record { trees = (several r.trees some).first; fits = omega (arith, first_room.0); small = first_room.1 }

  abbrev pub others_ready : 2 ≤ n → (next from room' : ℕ) → next ≡ end_of (several r.trees some).first → from ≡ 3 + size (term_of (several r.trees some).first) → room' ≡ room - from
      → Ready p next (n - 1) room'
  others_ready m next from room' e f g =
      let s = more_size r.trees some m in
      record { trees = moved (sym e) (several r.trees some).others; fits = omega (arith, s, r.fits); small = omega (arith, s, r.small) }

-- an open
module _ {p : List ℕ} {at : ℕ} where
  pub open_room : {room : ℕ} → Ready p at 1 room → get_or p (at + 2) 0 ≡ open_mark → 3 ≤ room
  unfolding size
  open_room r m = room_by r id (tree_open r.trees m).0

  pub done_open : (q : Trees p at 1) (o o' : List ℕ) → get_or p (at + 2) 0 ≡ open_mark → o' ≡ header 17 0 ++ drop 3 o → Done (term_of q) (end_of q) (at + 3) o o'
  unfolding size term_bytes
  done_open q o o' m b = done_by (term_of q) id (end_of q) (at + 3) o o' (tree_open q m).0 (tree_open q m).1 b

-- a use
module _ {p : List ℕ} {at count : ℕ} where
  pub atomic_room : {room : ℕ} (r : Ready p at 1 room) → UseTree p at r.trees count → count ≡ 0 → 5 ≤ room
  unfolding size
  atomic_room r u z = room_by r _ (u.term_none z).0

  pub done_atomic : (q : Trees p at 1) (name : RuleName) (o o' : List ℕ) → UseTree p at q count → count ≡ 0 → name.0 ≡ word p at
      → o' ≡ term_bytes (atomic name) ++ drop 5 o → Done (term_of q) (end_of q) (at + 3) o o'
  unfolding size
  done_atomic q name o o' u z e b =
      let v = u.term_none z in
      done_by (term_of q) (atomic name) (end_of q) (at + 3) o o' (v.0 ∙ ap atomic (sym (name_path e))) v.1 b

  use_size : (q : Trees p at 1) (u : UseTree p at q count) → (count ≡ 0 → ⊥) → size (term_of q) ≡ 8 + size (term_of u.inner)
  unfolding size
  use_size q u some = ap size (u.term_some some) ∙ omega arith

  module _ {room : ℕ} (r : Ready p at 1 room) (u : UseTree p at r.trees count) (some : count ≡ 0 → ⊥) where
    pub use_room : (8 + size (term_of u.inner) ≤ room) × (size (term_of u.inner) < 65528)
    use_room = let s = use_size r.trees u some in (omega (arith, r.fits, s), omega (arith, r.small, s))

    abbrev pub inner_ready : (room' : ℕ) → room' ≡ room - 8 → Ready p (at + 3) count room'
    inner_ready room' e = record { trees = u.inner; fits = omega (arith, use_room.0); small = omega (arith, use_room.1) }

  pub done_use : (q : Trees p at 1) (u : UseTree p at q count) (some : count ≡ 0 → ⊥) (name : RuleName) (o o1 o2 o3 l1 l2 : List ℕ) (next len : ℕ)
      → name.0 ≡ word p at
      → l1 ≡ term_bytes (atomic name) ++ drop 5 (take (length o - 3) (drop 3 o))
      → Done (term_of u.inner) (end_of u.inner) next (take (length o1 - 8) (drop 8 o1)) l2
      → o1 ≡ put_mid 3 (length o - 3) o l1 → o2 ≡ put_mid 8 (length o1 - 8) o1 l2 → size (term_of q) ≤ length o
      → len ≡ 5 + size (term_of u.inner) → o3 ≡ header 19 len ++ drop 3 o2
      → Done (term_of q) (end_of q) next o o3
  unfolding size term_bytes
  done_use q u some name o o1 o2 o3 l1 l2 next len en b1 d2 p1 p2 room el b =
      let x = atomic name in
      let y = term_of u.inner in
      let fit : 3 + (5 + size y) ≤ length o = omega (arith, use_size q u some) in
      done_by (term_of q) (sequence x y) (end_of q) next o o3
      (u.term_some some ∙ ap (λ (a : RuleName). sequence (atomic a) y) (sym (name_path en))) (d2.passed ∙ u.passes)
      (pair_bytes x y 19 o o1 o2 o3 l1 l2 3 8 len refl refl fit el b1 p1 d2.bytes_are p2 b)
