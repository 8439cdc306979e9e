-- The table of what was seen: its four bits, and the clash of a field with those seen by the marks.
-- Assumes nothing.
use Rattle.std.specs.Prelude.{Option}
use mathlib.Core.Path.{◌≡◌, refl, sym, subst, ap, ◌∙◌}
use mathlib.Core.Bool.{Bool, true, false, cond, not}
use mathlib.Core.Logic.{◌⊎◌, inl, inr, ◌≢◌}
use mathlib.Core.List.Memᴰ
use mathlib.Core.List.{List, [], ◌∷◌, ◌++◌, Memᴰ}
use Prim.Native.Nat.{ℕ, ◌+◌, ◌*◌, ◌/◌, ◌%◌, ◌≤◌, ◌<◌}
use native.Mathlib.Omega.{arith}
use lib.Dec.{eqb, ltb}
use lib.ListN.{length, get_or, set}
use lib.Seq.{get_or-set_same, get_or-set_other}
use borrow.Author.Tests.{ltb-true, ltb-false, lt-ltb, le-ltb, eqb-true, eqb-false, eq-eqb, ne_eqb}
use Rattle.words.specs.Word.{word}
use Rattle.words.specs.Kept.{Kept}
use Rattle.words.proofs.KeptLaws.{kept_same, kept_both}
use Rattle.tables.specs.declared.repeats.Repeat.{Repeat}
use Rattle.tables.specs.declared.repeats.Repeat.TheVariants as K
use Rattle.tables.specs.Repeats.{clashes_any, first_clash}
use Rattle.tables.specs.Search.{clash_at, Headers, places, clash_told}
use Rattle.tables.proofs.SearchLaws.{silent, same_value, for_length, for_value, none_clashes}
use Rattle.index.specs.Keys.{Tagged}
use Rattle.index.proofs.TurnLaws.{headers_one}
use Rattle.index.proofs.KeyLaws.{never, key_says, clash_says, any_clash, no_clash}
use Rattle.seen.specs.Layout.{seen_room}
use Rattle.seen.specs.Seen.{half, put_half, seen_at, put_seen, mark_of, Marked, Noted, ValueOf, Seen, Meets, Readies, Repeats}

-- the half of a byte, by the value
pub low_half : (b v : ℕ) → v < seen_room → b % 16 ≡ half b v
unfolding half
low_half b v l = rw (lt-ltb v seen_room l)

pub high_half : (b v : ℕ) → seen_room ≤ v → b / 16 ≡ half b v
unfolding half
high_half b v l = rw (le-ltb v seen_room l)

pub low-put : (b v m : ℕ) → v < seen_room → b + m ≡ put_half b v m
unfolding put_half
low-put b v m l = rw (lt-ltb v seen_room l)

pub high_put : (b v m : ℕ) → seen_room ≤ v → b + m * 16 ≡ put_half b v m
unfolding put_half
high_put b v m l = rw (le-ltb v seen_room l)

module _ (b v m : ℕ) (few : m < 16) (none : half b v ≡ 0) where
  half_back : half (put_half b v m) v ≡ m
  half_back = go (ltb v seen_room) refl
    where
      go : (t : Bool) → ltb v seen_room ≡ t → half (put_half b v m) v ≡ m
      go true e = let l = ltb-true v seen_room e in omega (arith, low_half (put_half b v m) v l, low_half b v l, low-put b v m l)
      go false e = let l = ltb-false v seen_room e in omega (arith, high_half (put_half b v m) v l, high_half b v l, high_put b v m l)

  half_across : (u : ℕ) → ltb u seen_room ≢ ltb v seen_room → half (put_half b v m) u ≡ half b u
  half_across u apart = go (ltb v seen_room) refl (ltb u seen_room) refl
    where
      go : (t : Bool) → ltb v seen_room ≡ t → (r : Bool) → ltb u seen_room ≡ r → half (put_half b v m) u ≡ half b u
      go true e true f = absurd (apart (f ∙ sym e))
      go false e false f = absurd (apart (f ∙ sym e))
      go true e false f =
          let l = ltb-true v seen_room e in
          let k = ltb-false u seen_room f in
          omega (arith, high_half (put_half b v m) u k, high_half b u k, low_half b v l, low-put b v m l)
      go false e true f =
          let l = ltb-false v seen_room e in
          let k = ltb-true u seen_room f in
          omega (arith, low_half (put_half b v m) u k, low_half b u k, high_put b v m l)

-- two values of one byte
other_half : (u v : ℕ) → u < 65536 → v < 65536 → u ≢ v → u % seen_room ≡ v % seen_room → ltb u seen_room ≢ ltb v seen_room
other_half u v a b apart e q = go (ltb v seen_room) refl
  where
    go : (t : Bool) → ltb v seen_room ≡ t → ⊥
    go true f = apart (omega (arith, ltb-true v seen_room f, ltb-true u seen_room (q ∙ f)))
    go false f = apart (omega (arith, ltb-false v seen_room f, ltb-false u seen_room (q ∙ f)))

-- the four bits of a value: a mark is read back, those of no other value change, and nothing outside the table
module _ (w : List ℕ) (base v m : ℕ) where
  abbrev byte : ℕ
  byte = get_or w (base + v % seen_room) 0

  -- a byte has room for a mark
  pub low_room : v < seen_room → seen_at w base v ≡ 0 → byte % 16 ≡ 0
  unfolding seen_at
  low_room l z = low_half byte v l ∙ z

  pub high_room : seen_room ≤ v → seen_at w base v ≡ 0 → byte / 16 ≡ 0
  unfolding seen_at
  high_room l z = high_half byte v l ∙ z

  kept_seen : Kept w (put_seen w base v m) base (base + seen_room)
  unfolding put_seen
  kept_seen = record {
    below = λ i h. get_or-set_other w (base + v % seen_room) i _ 0 (omega arith);
    above = λ i h. get_or-set_other w (base + v % seen_room) i _ 0 (omega arith);
  }

  module _ (few : m < 16) (none : seen_at w base v ≡ 0) (room : base + seen_room ≤ length w) where
    seen_back : seen_at (put_seen w base v m) base v ≡ m
    unfolding seen_at put_seen
    seen_back = ap (λ (b : ℕ). half b v) (get_or-set_same w (base + v % seen_room) _ 0 (omega arith)) ∙ half_back byte v m few none

    seen_other : (u : ℕ) → u < 65536 → v < 65536 → u ≢ v → seen_at (put_seen w base v m) base u ≡ seen_at w base u
    unfolding seen_at put_seen
    seen_other u a b apart = go (eqb (u % seen_room) (v % seen_room)) refl
      where
        go : (t : Bool) → eqb (u % seen_room) (v % seen_room) ≡ t → half (get_or (set w (base + v % seen_room) (put_half byte v m)) (base + u % seen_room) 0) u ≡ half (get_or w (base + u % seen_room) 0) u
        go true e =
            let q = eqb-true (u % seen_room) (v % seen_room) e in
            rw q (ap (λ (b : ℕ). half b u) (get_or-set_same w (base + v % seen_room) _ 0 (omega arith)) ∙ half_across byte v m few none u (other_half u v a b apart q))
        go false e = ap (λ (b : ℕ). half b u) (get_or-set_other w (base + v % seen_room) (base + u % seen_room) _ 0 (λ q. eqb-false (u % seen_room) (v % seen_room) e (omega arith)))

-- the mark of a field, by the number
pub mark_nine : (kind : Repeat) (s : List ℕ) (at : ℕ) → kind ≡ K.Label → mark_of kind s at ≡ 1
unfolding mark_of
mark_nine kind s at e = rw e

pub mark_seven : (kind : Repeat) (s : List ℕ) (at : ℕ) → (kind ≡ K.Label → ⊥) → mark_of kind s at ≡ word s (at + 1) / 2
unfolding mark_of
mark_seven K.Rule s at h = refl
mark_seven K.PremiseCount s at h = refl
mark_seven K.Tactic s at h = refl
mark_seven K.Label s at h = absurd (h refl)

-- numbers of which two are the doubles of the others
doubled : (a b m n : ℕ) → a ≡ m * 2 → b ≡ n * 2 → eqb a b ≡ eqb m n
doubled a b m n p q = go (eqb m n) refl
  where
    go : (t : Bool) → eqb m n ≡ t → eqb a b ≡ t
    go true e = eq-eqb a b (omega (arith, eqb-true m n e))
    go false e = ne_eqb a b (λ h. eqb-false m n e (omega arith))

-- two fields of one value by their marks
module _ (kind : Repeat) (s : List ℕ) (p q : ℕ) (tp : Tagged kind s p) (tq : Tagged kind s q) (same : word s (p + 3) ≡ word s (q + 3)) where
  nine : kind ≡ K.Label → clash_at kind s p q ≡ true
  nine e = same_value kind s p q tp tq same ∙ for_value kind s p q (λ h. cc) (λ h. cc)

  lengths : kind ≡ K.PremiseCount → clash_at kind s p q ≡ not (eqb (word s (p + 1)) (word s (q + 1)))
  lengths e = same_value kind s p q tp tq same ∙ for_length kind s p q e

  seven : Marked kind s p → Marked kind s q → (kind ≡ K.Label → ⊥) → clash_at kind s p q ≡ not (eqb (mark_of kind s p) (mark_of kind s q))
  seven mp mq not-9 = go mp.says mq.says
    where
      go : (kind ≡ K.Label) ⊎ ((kind ≡ K.PremiseCount) × (word s (p + 1) ≡ mark_of kind s p * 2)) → (kind ≡ K.Label) ⊎ ((kind ≡ K.PremiseCount) × (word s (q + 1) ≡ mark_of kind s q * 2)) → clash_at kind s p q ≡ not (eqb (mark_of kind s p) (mark_of kind s q))
      go (inl e) b = absurd (not-9 e)
      go (inr a) (inl e) = absurd (not-9 e)
      go (inr a) (inr b) = lengths a.0 ∙ ap not (doubled (word s (p + 1)) (word s (q + 1)) (mark_of kind s p) (mark_of kind s q) a.1 b.1)

-- what the table says of one field more
module _ (kind : Repeat) (s w : List ℕ) (base at : ℕ) where
  abbrev With : List ℕ → List ℕ → List ℕ → Type 0
  With v all seen = Seen kind s all (seen ++ (at ∷ [])) v base

  -- a table with the marks of those seen has that of one more, where each value seen then is that of a field
  one_more : (v all seen : List ℕ)
      → ((p : ℕ) → Memᴰ p seen → Tagged kind s p → Noted kind s v base p)
      → (Tagged kind s at → Noted kind s v base at)
      → ((u : ℕ) → ValueOf kind s all u → u < 65536 → 0 < seen_at v base u → ValueOf kind s seen u ⊎ (Tagged kind s at × (word s (at + 3) ≡ u)))
      → With v all seen
  one_more v all seen old new only = record {
    held = λ p m t. holds p t (Memᴰ.append_cases seen m);
    only = λ u a l h. finds u (only u a l h);
  }
    where
      holds : (p : ℕ) → Tagged kind s p → Memᴰ p seen ⊎ Memᴰ p (at ∷ []) → Noted kind s v base p
      holds p t (inl m) = old p m t
      holds p t (inr m) =
          let e = Memᴰ.eq_of_singleton m in
          subst (λ (x : ℕ). Noted kind s v base x) (sym e) (new (subst (λ (x : ℕ). Tagged kind s x) e t))

      finds : (u : ℕ) → ValueOf kind s seen u ⊎ (Tagged kind s at × (word s (at + 3) ≡ u)) → ValueOf kind s (seen ++ (at ∷ [])) u
      finds u (inl x) = (x.0, Memᴰ.append_left (at ∷ []) x.1, x.2, x.3)
      finds u (inr x) = (at, Memᴰ.append_right seen (Memᴰ.head refl), x.0, x.1)

  -- a field of another tag
  pub passed : (Tagged kind s at → ⊥) → Meets kind s w w base at false
  passed h = record {
    told = λ all seen m x. none_clashes (clash_at kind s) at (λ q. (silent kind s at h q).0) seen;
    entered = λ all seen x e. one_more w all seen x.held (λ t. absurd (h t)) (λ u a l k. inl (x.only u a l k));
    kept = kept_same w base (base + seen_room);
  }

  module _ (tag : Tagged kind s at) (own : Marked kind s at) (small : word s (at + 3) < 65536) where
    abbrev there : ℕ
    there = seen_at w base (word s (at + 3))

    -- a field seen that clashes has the same value, so its mark is there
    module _ (all seen : List ℕ) (x : Seen kind s all seen w base) where
      same_there : (q : ℕ) → Memᴰ q seen → clash_at kind s at q ≡ true → Tagged kind s q × (word s (at + 3) ≡ word s (q + 3)) × Marked kind s q × (there ≡ mark_of kind s q)
      same_there q m c =
          let t = clash_says kind s at q c in
          let e = (key_says kind s _ _ q t.2).0 in
          let h = x.held q m t.1 in
          (t.1, e, h.own, ap (seen_at w base) e ∙ h.there)

      none_seen : there ≡ 0 → clashes_any (clash_at kind s) at seen ≡ false
      none_seen z = no_clash (clash_at kind s) at seen (λ q m c. let h = same_there q m c in omega (arith, h.2.some, h.3))

      nine_seen : Memᴰ at all → kind ≡ K.Label → 0 < there → clashes_any (clash_at kind s) at seen ≡ true
      nine_seen m e h = let q = x.only (word s (at + 3)) (at, m, tag, refl) small h in any_clash (clash_at kind s) at seen q.0 q.1 (nine kind s at q.0 tag q.2 (sym q.3) e)

      module _ (not-9 : kind ≡ K.Label → ⊥) where
        other_seen : Memᴰ at all → 0 < there → (there ≡ mark_of kind s at → ⊥) → clashes_any (clash_at kind s) at seen ≡ true
        other_seen m h ne =
            let q = x.only (word s (at + 3)) (at, m, tag, refl) small h in
            let k = x.held q.0 q.1 q.2 in
            any_clash (clash_at kind s) at seen q.0 q.1 (seven kind s at q.0 tag q.2 (sym q.3) own k.own not-9 ∙ ap not (ne_eqb _ _ (λ e. ne (ap (seen_at w base) (sym q.3) ∙ k.there ∙ sym e))))

        same_seen : there ≡ mark_of kind s at → clashes_any (clash_at kind s) at seen ≡ false
        same_seen e = no_clash (clash_at kind s) at seen (λ q m c. let h = same_there q m c in never (clash_at kind s at q) c (seven kind s at q tag h.0 h.1 own h.2 not-9 ∙ ap not (eq-eqb _ _ (sym e ∙ h.3))))

    -- one law for each return of the code
    module _ (value mark earlier : ℕ) (value_is : value ≡ word s (at + 3)) (mark-is : mark ≡ mark_of kind s at) (earlier-is : earlier ≡ seen_at w base value) where
      seen_is : earlier ≡ there
      seen_is = earlier-is ∙ ap (seen_at w base) value_is

      known : (all seen : List ℕ) → Seen kind s all seen w base → there ≡ mark_of kind s at → With w all seen
      known all seen x e = one_more w all seen x.held (λ t. record { own = own; small = small; there = e }) (λ u a l k. inl (x.only u a l k))

      pub again : (kind ≡ K.Label) → (earlier ≡ 0 → ⊥) → Meets kind s w w base at true
      again e h = record {
        told = λ all seen m x. nine_seen all seen x m e (omega (arith, seen_is));
        entered = λ all seen x q. never true refl q;
        kept = kept_same w base (base + seen_room);
      }

      pub compared : (kind ≡ K.Label → ⊥) → (earlier ≡ 0 → ⊥) → Meets kind s w w base at (not (eqb earlier mark))
      compared not-9 h = go (eqb earlier mark) refl
        where
          go : (b : Bool) → eqb earlier mark ≡ b → Meets kind s w w base at (not b)
          go true e =
              let q = sym seen_is ∙ eqb-true earlier mark e ∙ mark-is in
              record {
                told = λ all seen m x. same_seen all seen x not-9 q;
                entered = λ all seen x _. known all seen x q;
                kept = kept_same w base (base + seen_room);
              }
          go false e = record {
            told = λ all seen m x. other_seen all seen x not-9 m (omega (arith, seen_is)) (λ q. eqb-false earlier mark e (seen_is ∙ q ∙ sym mark-is));
            entered = λ all seen x q. never true refl q;
            kept = kept_same w base (base + seen_room);
          }

      module _ (room : base + seen_room ≤ length w) where
        abbrev put : List ℕ
        put = put_seen w base (word s (at + 3)) (mark_of kind s at)

        entered : (all seen : List ℕ) → Seen kind s all seen w base → there ≡ 0 → With put all seen
        entered all seen x z = one_more put all seen
            (λ p m t. let k = x.held p m t in record {
              own = k.own;
              small = k.small;
              there = other z (word s (p + 3)) k.small (λ e. let o = sym k.there ∙ ap (seen_at w base) e ∙ z in omega (arith, k.own.some, o)) ∙ k.there;
            })
            (λ t. record { own = own; small = small; there = seen_back w base (word s (at + 3)) (mark_of kind s at) own.fits z room })
            (λ u a l h. go u a l h (eqb u (word s (at + 3))) refl)
          where
            other : there ≡ 0 → (u : ℕ) → u < 65536 → u ≢ word s (at + 3) → seen_at put base u ≡ seen_at w base u
            other z u l = seen_other w base (word s (at + 3)) (mark_of kind s at) own.fits z room u l small

            go : (u : ℕ) → ValueOf kind s all u → u < 65536 → 0 < seen_at put base u → (b : Bool) → eqb u (word s (at + 3)) ≡ b → ValueOf kind s seen u ⊎ (Tagged kind s at × (word s (at + 3) ≡ u))
            go u a l h true e = inr (tag, sym (eqb-true u (word s (at + 3)) e))
            go u a l h false e = inl (x.only u a l (subst (λ (k : ℕ). 0 < k) (other z u l (eqb-false u (word s (at + 3)) e)) h))

        pub marked : earlier ≡ 0 → (w' : List ℕ) → w' ≡ put_seen w base value mark → Meets kind s w w' base at false
        marked z w' told =
            subst (λ (v : List ℕ). Meets kind s w v base at false) (sym (told ∙ ap (λ (v : ℕ). put_seen w base v mark) value_is ∙ ap (put_seen w base (word s (at + 3))) mark-is))
            (record {
              told = λ all seen m x. none_seen all seen x (sym seen_is ∙ z);
              entered = λ all seen x _. entered all seen x (sym seen_is ∙ z);
              kept = kept_seen w base (word s (at + 3)) (mark_of kind s at);
            })

-- nothing was seen where the bytes of all fields are 0
zero_half : (v : ℕ) → half 0 v ≡ 0
unfolding half
zero_half v = go (ltb v seen_room)
  where
    go : (t : Bool) → cond t (0 % 16) (0 / 16) ≡ 0
    go true = refl
    go false = refl

pub seen_nothing : (kind : Repeat) (s w w' : List ℕ) (base from to : ℕ) → Readies kind s w w' base from to → (ps : List ℕ) → Headers kind s from ps to → Seen kind s ps [] w' base
unfolding seen_at
seen_nothing kind s w w' base from to b ps h = record {
  held = λ p m t. absurd (Memᴰ.not-nil m);
  only = λ v a l k. absurd (none v a k);
}
  where
    none : (v : ℕ) → ValueOf kind s ps v → 0 < half (get_or w' (base + v % seen_room) 0) v → ⊥
    none v a k =
        let z = ap (λ (u : ℕ). half (get_or w' (base + u % seen_room) 0) v) (sym a.3) ∙ ap (λ (x : ℕ). half x v) (b.zeros ps h a.0 a.1 a.2) ∙ zero_half v in
        omega (arith, z)

-- the search is over
pub over : (kind : Repeat) (s w w₁ w' : List ℕ) (base from to : ℕ) (r : Option ℕ) (ps : List ℕ) → Headers kind s from ps to → first_clash (clash_at kind s) [] (places ps) ≡ clash_told r
    → Readies kind s w w₁ base from to → Kept w₁ w' base (base + seen_room) → Repeats kind s w w' base from to r
over kind s w w₁ w' base from to r ps h e b k = record {
  first = λ qs g. subst (λ (l : List ℕ). first_clash (clash_at kind s) [] (places l) ≡ clash_told r) (headers_one kind s ps qs from to h g) e;
  kept = kept_both w w₁ w' _ _ _ _ base (base + seen_room) b.kept k (omega arith) (omega arith) (omega arith) (omega arith);
}
