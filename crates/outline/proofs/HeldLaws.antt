-- The terms that are held: their sizes, that a write elsewhere leaves them, and the room that is left before and below them.
-- Assumes nothing.
use Prim.Native.Nat.{ℕ, ◌+◌, ◌*◌, ◌≤◌}
use mathlib.Core.Path.{◌≡◌, sym, subst}
use mathlib.Core.List.{List, [], ◌∷◌}
use native.Mathlib.Omega.{arith}
use lib.ListN.{length}
use Rattle.words.specs.Word.{word}
use Rattle.format.specs.Terms.{Term, size}
use Rattle.tactics.specs.Memory.{Same}
use Rattle.tactics.proofs.MemoryLaws.{same_word, same_term}
use Rattle.outline.specs.Layout.{outline_end, sizes_end}
use Rattle.outline.specs.Built.{Built, B-End, B-Atomic, B-Identity, B-Label, B-Sequence, B-Tensor, B-Empty}
use Rattle.outline.specs.Held.{AllStand, Stacked, FieldGiven}
use Rattle.outline.proofs.BuiltLaws.{sizes_of, built_few, built_size}

pub stand_size : (w : List ℕ) (front end : ℕ) (ts : List Term) → AllStand w front end ts → front + sizes_of ts ≡ end
unfolding AllStand sizes_of
stand_size w front end [] h = omega arith
stand_size w front end (t ∷ ts) h = omega (arith, stand_size w (front + size t) end ts h.1)

pub stacked_length : (w : List ℕ) (low last : ℕ) (ts : List Term) → Stacked w low last ts → low + 2 * length ts ≡ sizes_end
unfolding Stacked
stacked_length w low last [] h = omega arith
stacked_length w low last (t ∷ ts) h = omega (arith, stacked_length w (low + 2) (word w low) ts h.1)

module _ (w v : List ℕ) where
  pub stand_kept : (front end : ℕ) (ts : List Term) → length v ≡ length w → Same front end w v → AllStand w front end ts → AllStand v front end ts
  unfolding AllStand
  stand_kept front end [] len same h = h
  stand_kept front end (t ∷ ts) len same h =
      let more = stand_size w (front + size t) end ts h.1 in
      (same_term w v len t front end front same (omega arith) (omega arith) h.0, stand_kept (front + size t) end ts len (λ i l r. same i (omega arith) r) h.1)

  pub stacked_kept : (low last : ℕ) (ts : List Term) → Same low sizes_end w v → Stacked w low last ts → Stacked v low last ts
  unfolding Stacked
  stacked_kept low last [] same h = h
  stacked_kept low last (t ∷ ts) same h =
      let more = stacked_length w (low + 2) (word w low) ts h.1 in
      let word-is : word v low ≡ word w low = same_word w v low sizes_end low same (omega arith) (omega arith) in
      (h.0, subst (λ (n : ℕ). Stacked v (low + 2) n ts) (sym word-is) (stacked_kept (low + 2) (word w low) ts (λ i l r. same i (omega arith) r) h.1))

-- there is room for one field more and its size
pub record Bounds (end front low : ℕ) : Type 0 where
  pub before : sizes_end + 5 ≤ front
  pub within : front ≤ end
  pub below : outline_end + 2 ≤ low
  pub under : low ≤ sizes_end

module _ (w : List ℕ) (count end at front low last : ℕ) (g : FieldGiven w count end at front low last) where
  abbrev Inner : List Term → Type 0
  Inner ts = Built w count (at + 3) ts

  inner_bounds : (ts : List Term) → Inner ts → Bounds end front low
  inner_bounds ts b =
      let x = g.held ts b in
      let n = stacked_length w low last ts x.stacked in
      let m = stand_size w front end ts x.stand in
      let f = built_few w count b in
      let s = built_size w count b in
      record { before = omega (arith, n, m, f, s, g.few, g.room); within = omega (arith, m); below = omega (arith, n, f, g.few); under = omega (arith, n) }

  pub bounds : Bounds end front low
  bounds = go g.built
    where
      go : {ts : List Term} → Built w count at ts → Bounds end front low
      go (B-End e) = absurd (omega (arith, g.more))
      go (B-Atomic a b i) = inner_bounds _ i
      go (B-Identity a i) = inner_bounds _ i
      go (B-Label a b i) = inner_bounds _ i
      go (B-Sequence a i) = inner_bounds _ i
      go (B-Tensor a i) = inner_bounds _ i
      go (B-Empty a i) = inner_bounds _ i
