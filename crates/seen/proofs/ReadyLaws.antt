-- Making the table of what was seen ready: each field has its byte set to 0, or is still ahead.
-- Assumes nothing.
use mathlib.Core.Path.{◌≡◌, refl, sym, subst, ap, ◌∙◌}
use mathlib.Core.Bool.{Bool, true, false}
use mathlib.Core.Logic.{◌⊎◌, inl, inr}
use mathlib.Core.List.Memᴰ
use mathlib.Core.List.{List, [], ◌∷◌, Memᴰ}
use Prim.Native.Nat.{ℕ, ◌+◌, ◌%◌, ◌≤◌, ◌<◌}
use native.Mathlib.Omega.{arith}
use lib.Dec.{eqb}
use lib.ListN.{length, get_or, set}
use lib.Seq.{get_or-set_same, get_or-set_other}
use borrow.Author.Tests.{eqb-true, eqb-false}
use Rattle.words.specs.Word.{word}
use Rattle.words.specs.Kept.{Kept}
use Rattle.words.proofs.KeptLaws.{kept_same}
use Rattle.tables.specs.declared.repeats.Repeat.{Repeat}
use Rattle.tables.specs.Standing.{InRow}
use Rattle.tables.specs.Search.{step_at, Room, Headers}
use Rattle.tables.proofs.SearchLaws.{header-here}
use Rattle.words.specs.Blank.{Blank}
use Rattle.index.specs.Keys.{Tagged}
use Rattle.index.proofs.TurnLaws.{nothing_left}
use Rattle.seen.specs.Layout.{seen_room}
use Rattle.seen.specs.Seen.{byte_of, Forgets, Readies}

-- one byte set to 0
set_zero : (w : List ℕ) (k : ℕ) → k < length w → (i : ℕ) → get_or w i 0 ≡ 0 → get_or (set w k 0) i 0 ≡ 0
set_zero w k l i z = go (eqb i k) refl
  where
    go : (b : Bool) → eqb i k ≡ b → get_or (set w k 0) i 0 ≡ 0
    go true e = ap (λ (j : ℕ). get_or (set w k 0) j 0) (eqb-true i k e) ∙ get_or-set_same w k 0 0 l
    go false e = get_or-set_other w k i 0 0 (λ q. eqb-false i k e (omega arith)) ∙ z

module _ (kind : Repeat) (s w : List ℕ) (base at : ℕ) where
  -- a field of another tag
  pub left_alone : (Tagged kind s at → ⊥) → Forgets kind s w w base at
  left_alone h = record { gone = λ t. absurd (h t); zeros = λ i z. z; kept = kept_same w base (base + seen_room) }

  pub forgotten : (value : ℕ) → value ≡ word s (at + 3) → base + seen_room ≤ length w → Forgets kind s w (set w (base + value % seen_room) 0) base at
  forgotten value e room = record {
    gone = λ t. ap (λ (v : ℕ). get_or (set w (base + value % seen_room) 0) (base + v % seen_room) 0) (sym e) ∙ get_or-set_same w (base + value % seen_room) 0 0 (omega arith);
    zeros = set_zero w (base + value % seen_room) (omega arith);
    kept = record {
      below = λ i h. get_or-set_other w (base + value % seen_room) i 0 0 (omega arith);
      above = λ i h. get_or-set_other w (base + value % seen_room) i 0 0 (omega arith);
    };
  }

module _ (kind : Repeat) (s : List ℕ) (base to : ℕ) (ps : List ℕ) where
  -- at a header: those ahead, and the others of these fields have their bytes set to 0
  pub record Ahead (w : List ℕ) (at : ℕ) : Type 0 where
    pub left : List ℕ
    pub row : Headers kind s at left to
    pub each : (p : ℕ) → Memᴰ p ps → Tagged kind s p → Memᴰ p left ⊎ (byte_of s w base p ≡ 0)

  pub ahead_first : (w : List ℕ) (from : ℕ) → Headers kind s from ps to → Ahead w from
  ahead_first w from h = record { left = ps; row = h; each = λ p m t. inl m }

  pub ahead_header : (w : List ℕ) (at : ℕ) → Ahead w at → at < to → Room s at × (at + step_at kind s at ≤ to)
  ahead_header w at a l = header-here kind s a.left at to a.row l

  module _ (w w' : List ℕ) (at : ℕ) (f : Forgets kind s w w' base at) where
    one : (q : ℕ) → q ≡ at → (rest : List ℕ) (p : ℕ) → Tagged kind s p → Memᴰ p (q ∷ rest) ⊎ (byte_of s w base p ≡ 0) → Memᴰ p rest ⊎ (byte_of s w' base p ≡ 0)
    one q e rest p t (inr z) = inr (f.zeros (base + word s (p + 3) % seen_room) z)
    one q e rest p t (inl m) = go (Memᴰ.append_cases (q ∷ []) m)
      where
        go : Memᴰ p (q ∷ []) ⊎ Memᴰ p rest → Memᴰ p rest ⊎ (byte_of s w' base p ≡ 0)
        go (inr r) = inl r
        go (inl r) =
            let is = Memᴰ.eq_of_singleton r ∙ e in
            inr (subst (λ (x : ℕ). byte_of s w' base x ≡ 0) (sym is) (f.gone (subst (λ (x : ℕ). Tagged kind s x) is t)))

    next : (left : List ℕ) → at < to → Headers kind s at left to → ((p : ℕ) → Memᴰ p ps → Tagged kind s p → Memᴰ p left ⊎ (byte_of s w base p ≡ 0)) → Ahead w' (at + step_at kind s at)
    unfolding InRow
    next [] l h each = absurd (omega arith)
    next (q ∷ rest) l h each = record {
      left = rest;
      row = subst (λ (k : ℕ). Headers kind s (at + step_at kind s k) rest to) h.0.0 h.1;
      each = λ p m t. one q h.0.0 rest p t (each p m t);
    }

    pub ahead_next : Ahead w at → at < to → Ahead w' (at + step_at kind s at)
    ahead_next a l = next a.left l a.row a.each

  ahead_last : (w : List ℕ) (at : ℕ) → Ahead w at → to ≤ at → (p : ℕ) → Memᴰ p ps → Tagged kind s p → byte_of s w base p ≡ 0
  ahead_last w at a l p m t = go (a.each p m t)
    where
      go : Memᴰ p a.left ⊎ (byte_of s w base p ≡ 0) → byte_of s w base p ≡ 0
      go (inr z) = z
      go (inl r) = absurd (Memᴰ.not-nil (subst (Memᴰ p) (nothing_left kind s (Tagged kind s) to ps at a.left a.row l) r))

module _ (kind : Repeat) (s w w' : List ℕ) (base from to : ℕ) where
  pub ready_blank : Blank w w' base seen_room → Readies kind s w w' base from to
  ready_blank b = record {
    zeros = λ ps h p m t. b.zeros (base + word s (p + 3) % seen_room) (omega arith) (omega arith);
    kept = b.kept;
  }

  pub ready_last : (at : ℕ) → Kept w w' base (base + seen_room) → ((ps : List ℕ) → Headers kind s from ps to → Ahead kind s base to ps w' at) → to ≤ at → Readies kind s w w' base from to
  ready_last at k a l = record { zeros = λ ps h. ahead_last kind s base to ps w' at (a ps h) l; kept = k }
