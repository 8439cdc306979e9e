-- A field in front of the terms that are held, for each kind of field.
-- Assumes nothing.
use Prim.Native.Nat.{ℕ, ◌+◌, ◌≤◌, ◌<◌}
use mathlib.Core.Path.{◌≡◌, refl, sym, ap, ap₂, subst, ◌∙◌}
use mathlib.Core.List.{List, ◌∷◌}
use native.Mathlib.Omega.{arith}
use lib.ListN.{length}
use Rattle.words.specs.Word.{word, put_word}
use Rattle.words.proofs.WordLaws.{word_same}
use Rattle.format.specs.Terms.{Term, atomic, label, size}
use Rattle.format.specs.Standing.{Head, Stands}
use Rattle.tactics.specs.Memory.{Only}
use Rattle.tactics.specs.Numbers.{put_header}
use Rattle.tactics.proofs.MemoryLaws.{only_then, only_wider, only_word, same_head, same_term}
use Rattle.tactics.proofs.NumberLaws.{only_header, header_head}
use Rattle.outline.specs.Layout.{sizes_end}
use Rattle.outline.specs.Memory.{put_valued, Around}
use Rattle.outline.specs.Held.{AllStand, Stacked, Shown, FieldGiven}
use Rattle.outline.proofs.AroundLaws.{around_field, around_size, around_then}
use Rattle.outline.proofs.BuiltLaws.{sizes_of, built_size}
use Rattle.outline.proofs.HeldLaws.{stand_size, stacked_length, stand_kept, stacked_kept, Bounds, bounds}
use Rattle.outline.proofs.TagLaws.{IsAtomic, IsLabel, IsPlain, IsPair}

-- what the code's writes come to
pub word-behind : (u v w : List ℕ) (at n : ℕ) → v ≡ put_word u at n → u ≡ w → v ≡ put_word w at n
word-behind u v w at n e f = e ∙ ap (λ (z : List ℕ). put_word z at n) f

pub header_of : (v w : List ℕ) (at tag n m k : ℕ) → v ≡ put_header w at tag (n + m) → m ≡ k → v ≡ put_header w at tag (n + k)
header_of v w at tag n m k e f = e ∙ ap (λ (z : ℕ). put_header w at tag (n + z)) f

only_valued : (w : List ℕ) (at tag len v : ℕ) → Only at (at + 5) w (put_valued w at tag len v)
only_valued w at tag len v =
    only_then at (at + 5) w (put_header w at tag len) _
    (only_wider at (at + 3) at (at + 5) w _ (only_header w at tag len) (omega arith) (omega arith))
    (only_wider (at + 3) (at + 3 + 2) at (at + 5) _ _ (only_word _ (at + 3) v) (omega arith) (omega arith))

valued_head : (w : List ℕ) (at tag len v : ℕ) → at + 3 + len ≤ length w → Head (put_valued w at tag len v) at tag len
valued_head w at tag len v h =
    let u = put_header w at tag len in
    same_head u (put_word u (at + 3) v) (only_word u (at + 3) v).same_length at (at + 3) at tag len (λ i l r. (only_word u (at + 3) v).kept.below i r) (omega arith) (omega arith) (header_head w at tag len h)

valued_value : (w : List ℕ) (at tag len v : ℕ) → at + 5 ≤ length w → word (put_valued w at tag len v) (at + 3) ≡ v
valued_value w at tag len v h = word_same (put_header w at tag len) (at + 3) v (omega (arith, (only_header w at tag len).same_length))

module _ (w : List ℕ) (count end at front low last : ℕ) (g : FieldGiven w count end at front low last) (next : ℕ) where
  b : Bounds end front low
  b = bounds w count end at front low last g

  -- a term without inner terms: its bytes are written, then the size of the first term so far is put on the stack
  leaf_shown : (u v : List ℕ) (t : Term) (ts : List Term) (under : ℕ) → Shown w end ts front low last → Only next front w u → Stands u next t → next + size t ≡ front → sizes_end ≤ next → under + 2 ≡ low
      → v ≡ put_word u under last → Shown v end (t ∷ ts) next under (size t)
  unfolding AllStand Stacked
  leaf_shown u v t ts under x o st ends above lower e =
      let p = only_word u under last in
      let q : Only under (under + 2) u v = subst (λ (z : List ℕ). Only under (under + 2) u z) (sym e) p in
      let len : length v ≡ length w = q.same_length ∙ o.same_length in
      let word-is : word v under ≡ last = ap (λ (z : List ℕ). word z under) e ∙ word_same u under last (omega (arith, o.same_length, b.under, b.before, b.within, g.inside)) in
      let stack : Stacked v low last ts = stacked_kept w v low last ts (λ i l r. q.kept.above i (omega arith) ∙ o.kept.below i (omega arith)) x.stacked in
      let bytes : AllStand v front end ts = stand_kept w v front end ts len (λ i l r. q.kept.above i (omega (arith, b.under, b.before)) ∙ o.kept.above i l) x.stand in
      record {
        stand = (
          same_term u v q.same_length t next front next (λ i l r. q.kept.above i (omega (arith, b.under))) (omega arith) (omega arith) st,
          subst (λ (i : ℕ). AllStand v i end ts) (sym ends) bytes,
        );
        stacked = (refl, subst (λ (i : ℕ). Stacked v i (word v under) ts) (sym lower) (subst (λ (n : ℕ). Stacked v low n ts) (sym word-is) stack));
      }

  -- what a field written in front of the terms leaves of them
  module _ (v : List ℕ) (ts : List Term) (x : Shown w end ts front low last) (o : Only next front w v) (above : sizes_end ≤ next) where
    stays : AllStand v front end ts
    stays = stand_kept w v front end ts o.same_length (λ i l r. o.kept.above i l) x.stand

    sizes_stay : Stacked v low last ts
    sizes_stay = stacked_kept w v low last ts (λ i l r. o.kept.below i (omega arith)) x.stacked

  label_shown : (v : List ℕ) (ts : List Term) (value after : ℕ) (k : IsLabel w count at ts) → value ≡ word w (at + 1) → v ≡ put_valued w next 18 (last + 2) value → next + 5 ≡ front → after ≡ last + 5
      → Shown v end (label k.name k.term ∷ k.rest) next low after
  unfolding AllStand Stacked Stands size sizes_of
  label_shown v ts value after k value_is e ends after_is =
      let u = k.term in
      let x = g.held (u ∷ k.rest) k.inner in
      let total = stand_size w front end (u ∷ k.rest) x.stand in
      let last_is : last ≡ size u = x.stacked.0 in
      let o : Only next front w v = subst (λ (j : ℕ). Only next j w v) ends (subst (λ (z : List ℕ). Only next (next + 5) w z) (sym e) (only_valued w next 18 (last + 2) value)) in
      let h : Head v next 18 (last + 2) = subst (λ (z : List ℕ). Head z next 18 (last + 2)) (sym e) (valued_head w next 18 (last + 2) value (omega (arith, g.inside))) in
      let len : last + 2 ≡ 2 + size u = omega arith in
      let word-is : word v (next + 3) ≡ k.name.0 = ap (λ (z : List ℕ). word z (next + 3)) e ∙ valued_value w next 18 (last + 2) value (omega (arith, g.inside)) ∙ value_is ∙ k.value_is in
      let bytes = stays v (u ∷ k.rest) x o (omega (arith, b.before)) in
      let stack = sizes_stay v (u ∷ k.rest) x o (omega (arith, b.before)) in
      let behind : front + size u ≡ next + (5 + size u) = omega arith in
      record {
        stand = (
          (subst (λ (n : ℕ). Head v next 18 n) len h, word-is, subst (λ (i : ℕ). Stands v i u) (sym ends) bytes.0),
          subst (λ (i : ℕ). AllStand v i end k.rest) behind bytes.1,
        );
        stacked = (omega arith, stack.1);
      }

  pair_shown : (v : List ℕ) (ts : List Term) (tag after lower : ℕ) (k : IsPair w count at tag ts) → v ≡ put_header w next tag (last + word w low) → next + 3 ≡ front → after ≡ last + word w low + 3 → lower ≡ low + 2
      → Shown v end (k.pair ∷ k.rest) next lower after
  unfolding AllStand Stacked sizes_of
  pair_shown v ts tag after lower k e ends after_is lower-is =
      let l = k.left in
      let r = k.right in
      let x = g.held (l ∷ r ∷ k.rest) k.inner in
      let total = stand_size w front end (l ∷ r ∷ k.rest) x.stand in
      let left_is : last ≡ size l = x.stacked.0 in
      let right_is : word w low ≡ size r = x.stacked.1.0 in
      let len : last + word w low ≡ size l + size r = ap₂ (λ (i j : ℕ). i + j) left_is right_is in
      let o : Only next front w v = subst (λ (j : ℕ). Only next j w v) ends (subst (λ (z : List ℕ). Only next (next + 3) w z) (sym e) (only_header w next tag (last + word w low))) in
      let h : Head v next tag (last + word w low) = subst (λ (z : List ℕ). Head z next tag (last + word w low)) (sym e) (header_head w next tag (last + word w low) (omega (arith, g.inside))) in
      let bytes = stays v (l ∷ r ∷ k.rest) x o (omega (arith, b.before)) in
      let stack = sizes_stay v (l ∷ r ∷ k.rest) x o (omega (arith, b.before)) in
      let second : front + size l ≡ next + 3 + size l = omega arith in
      let behind : front + size l + size r ≡ next + size k.pair = omega (arith, k.size_is) in
      record {
        stand = (
          k.stand v next (subst (λ (n : ℕ). Head v next tag n) len h) (subst (λ (i : ℕ). Stands v i l) (sym ends) bytes.0) (subst (λ (i : ℕ). Stands v i r) second bytes.1.0),
          subst (λ (i : ℕ). AllStand v i end k.rest) behind bytes.1.1,
        );
        stacked = (omega (arith, k.size_is), subst (λ (i : ℕ). Stacked v (i + 2) (word v i) k.rest) (sym lower-is) stack.1.1);
      }

  -- the returns of the code: the terms from the field on are held, and nothing else was written
  module _ (v : List ℕ) (ts : List Term) (after : ℕ) where
    pub plain_done : (tag under : ℕ) → IsPlain w count at tag ts → v ≡ put_word (put_header w next tag 0) under last → next + 3 ≡ front → under + 2 ≡ low → after ≡ 3 → Shown v end ts next under after
    plain_done tag under k e ends lower after_is =
        let t = k.term in
        let o : Only next front w (put_header w next tag 0) = subst (λ (j : ℕ). Only next j w (put_header w next tag 0)) ends (only_header w next tag 0) in
        let st : Stands (put_header w next tag 0) next t = k.stand (put_header w next tag 0) next (header_head w next tag 0 (omega (arith, b.within, g.inside))) in
        let x = leaf_shown (put_header w next tag 0) v t k.rest under (g.held k.rest k.inner) o st (omega (arith, k.size_is)) (omega (arith, b.before)) lower e in
        subst (λ (l : List Term). Shown v end l next under after) (sym k.all) (subst (λ (n : ℕ). Shown v end (t ∷ k.rest) next under n) (k.size_is ∙ sym after_is) x)

    pub atomic_done : (value under : ℕ) → IsAtomic w count at ts → value ≡ word w (at + 1) → v ≡ put_word (put_valued w next 16 2 value) under last → next + 5 ≡ front → under + 2 ≡ low → after ≡ 5 → Shown v end ts next under after
    unfolding Stands size
    atomic_done value under k value_is e ends lower after_is =
        let u = put_valued w next 16 2 value in
        let o : Only next front w u = subst (λ (j : ℕ). Only next j w u) ends (only_valued w next 16 2 value) in
        let st : Stands u next (atomic k.name) = (
          valued_head w next 16 2 value (omega (arith, b.within, g.inside)),
          valued_value w next 16 2 value (omega (arith, b.within, g.inside)) ∙ value_is ∙ k.value_is,
        ) in
        let x = leaf_shown u v (atomic k.name) k.rest under (g.held k.rest k.inner) o st ends (omega (arith, b.before)) lower e in
        subst (λ (l : List Term). Shown v end l next under after) (sym k.all) (subst (λ (n : ℕ). Shown v end (atomic k.name ∷ k.rest) next under n) (sym after_is) x)

    pub label_done : (value lower : ℕ) → IsLabel w count at ts → value ≡ word w (at + 1) → v ≡ put_valued w next 18 (last + 2) value → next + 5 ≡ front → lower ≡ low → after ≡ last + 5 → Shown v end ts next lower after
    label_done value lower k value_is e ends lower-is after_is =
        subst (λ (l : List Term). Shown v end l next lower after) (sym k.all)
        (subst (λ (i : ℕ). Shown v end (label k.name k.term ∷ k.rest) next i after) (sym lower-is) (label_shown v ts value after k value_is e ends after_is))

    pub pair-done : (tag lower : ℕ) → IsPair w count at tag ts → v ≡ put_header w next tag (last + word w low) → next + 3 ≡ front → lower ≡ low + 2 → after ≡ last + word w low + 3 → Shown v end ts next lower after
    pair-done tag lower k e ends lower-is after_is = subst (λ (l : List Term). Shown v end l next lower after) (sym k.all) (pair_shown v ts tag after lower k e ends after_is lower-is)

  module _ (v : List ℕ) where
    pushed_around : (u : List ℕ) (under : ℕ) → Only next front w u → sizes_end ≤ next → v ≡ put_word u under last → under + 2 ≡ low → Around next front w v
    pushed_around u under o above e lower =
        subst (Around next front w) (sym e)
        (around_then w u (put_word u under last) next front next front next front (around_field w u next front o above)
        (around_size u _ under (under + 2) next front (only_word u under last) (omega (arith, b.below)) (omega (arith, b.under)) (omega (arith, b.before)))
        (omega arith) (omega arith) (omega arith) (omega arith))

    pub plain_around : (tag under : ℕ) → v ≡ put_word (put_header w next tag 0) under last → next + 3 ≡ front → under + 2 ≡ low → Around next front w v
    plain_around tag under e ends lower = pushed_around (put_header w next tag 0) under (subst (λ (j : ℕ). Only next j w (put_header w next tag 0)) ends (only_header w next tag 0)) (omega (arith, b.before)) e lower

    pub atomic_around : (value under : ℕ) → v ≡ put_word (put_valued w next 16 2 value) under last → next + 5 ≡ front → under + 2 ≡ low → Around next front w v
    atomic_around value under e ends lower = pushed_around (put_valued w next 16 2 value) under (subst (λ (j : ℕ). Only next j w (put_valued w next 16 2 value)) ends (only_valued w next 16 2 value)) (omega (arith, b.before)) e lower

    pub label_around : (len value : ℕ) → v ≡ put_valued w next 18 len value → next + 5 ≡ front → Around next front w v
    label_around len value e ends = subst (Around next front w) (sym e) (around_field w _ next front (subst (λ (j : ℕ). Only next j w (put_valued w next 18 len value)) ends (only_valued w next 18 len value)) (omega (arith, b.before)))

    pub pair_around : (tag len : ℕ) → v ≡ put_header w next tag len → next + 3 ≡ front → Around next front w v
    pair_around tag len e ends = subst (Around next front w) (sym e) (around_field w _ next front (subst (λ (j : ℕ). Only next j w (put_header w next tag len)) ends (only_header w next tag len)) (omega (arith, b.before)))

-- the sizes fit
module _ (w : List ℕ) (count end at front low last : ℕ) (g : FieldGiven w count end at front low last) (ts : List Term) where
  pub label_small : IsLabel w count at ts → last + 5 < 65536
  unfolding Stacked sizes_of
  label_small k =
      let last_is : last ≡ size k.term = (g.held (k.term ∷ k.rest) k.inner).stacked.0 in
      omega (arith, built_size w count k.inner, g.few)

  pub pair_small : {tag : ℕ} → IsPair w count at tag ts → (last + word w low + 3 < 65536) × (low + 2 ≤ sizes_end)
  unfolding Stacked sizes_of
  pair_small k =
      let x = (g.held (k.left ∷ k.right ∷ k.rest) k.inner).stacked in
      let left_is : last ≡ size k.left = x.0 in
      let right_is : word w low ≡ size k.right = x.1.0 in
      (omega (arith, built_size w count k.inner, g.few), omega (arith, stacked_length w low last (k.left ∷ k.right ∷ k.rest) x))
