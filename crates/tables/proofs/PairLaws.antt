-- No value of a list clashes with an earlier one exactly where every two values of it do not clash: by induction over the list.
-- Assumes nothing.
use mathlib.Core.Path.{◌≡◌, refl, sym, subst, ap, ◌∙◌}
use mathlib.Core.Bool.{Bool, true, false, cond}
use mathlib.Core.Option.{Option, none, some}
use mathlib.Core.List.{List, [], ◌∷◌, ◌++◌, map, map-append, append_assoc, append-nil}
use Prim.Native.Nat.{ℕ}
use native.Mathlib.Omega.{arith}
use Rattle.tables.specs.Repeats.{Placed, clashes_any, first_clash}
use Rattle.tables.specs.Within.{Pairs}

-- what a choice that is none, or false, says
passed : (b : Bool) (p : ℕ) (x : Option ℕ) → cond b (some p) x ≡ none → (b ≡ false) × (x ≡ none)
passed true p x e = absurd (let z : ◌≡◌ {A = ℕ} 0 1 = cc in omega arith)
passed false p x e = (refl, e)

neither : (b c : Bool) → cond b true c ≡ false → (b ≡ false) × (c ≡ false)
neither true c e = absurd (let z : ◌≡◌ {A = ℕ} 0 1 = cc in omega arith)
neither false c e = (refl, e)

-- pairs of a list and of what a function makes of it
module _ {A B : Type 0} (f : A → B) where
  same_head : {x y : B} {l m : List B} → x ∷ l ≡ y ∷ m → x ≡ y
  same_head e = cc

  same_tail : {x y : B} {l m : List B} → x ∷ l ≡ y ∷ m → l ≡ m
  same_tail e = cc

  -- a value at a place of the images is the image of one at that place
  unmap : (l : List A) (a : List B) (x : B) (c : List B) → map f l ≡ a ++ (x ∷ c) → (k : List A) × (y : A) × (m : List A) × (l ≡ k ++ (y ∷ m)) × (f y ≡ x) × (map f m ≡ c)
  unmap [] [] x c e = absurd (let z : ◌≡◌ {A = ℕ} 0 1 = cc in omega arith)
  unmap [] (b ∷ a) x c e = absurd (let z : ◌≡◌ {A = ℕ} 0 1 = cc in omega arith)
  unmap (y ∷ l) [] x c e = ([], y, l, refl, same_head e, same_tail e)
  unmap (y ∷ l) (b ∷ a) x c e = let u = unmap l a x c (same_tail e) in (y ∷ u.0, u.1, u.2, ap {B = List A} (λ r. y ∷ r) u.3, u.4, u.5)

  pub pairs_map : (P : B → B → Type 0) (l : List A) → Pairs (λ x y. P (f x) (f y)) l → Pairs P (map f l)
  pairs_map P l h a b c x y e =
      let u = unmap l a x (b ++ (y ∷ c)) e in
      let v = unmap u.2 b y c u.5 in
      subst (λ (z : B). P z y) u.4 (subst (λ (z : B). P (f u.1) z) v.4
      (h u.0 v.0 v.2 u.1 v.1 (u.3 ∙ ap (λ (r : List A). u.0 ++ (u.1 ∷ r)) v.3)))

  pub map_pairs : (P : B → B → Type 0) (l : List A) → Pairs P (map f l) → Pairs (λ x y. P (f x) (f y)) l
  map_pairs P l h a b c x y e =
      h (map f a) (map f b) (map f c) (f x) (f y)
      (ap (map f) e ∙ map-append f a (x ∷ (b ++ (y ∷ c))) ∙ ap (λ (r : List B). map f a ++ (f x ∷ r)) (map-append f b (y ∷ c)))

module _ {A : Type 0} (clash : A → A → Bool) where
  abbrev value : Placed A → A
  value p = p.value

  -- no value clashes with one of the earlier ones or with one before it
  unfoldable Clear : List A → List A → Type 0
  Clear earlier [] = Unit {0}
  Clear earlier (v ∷ vs) = (clashes_any clash v earlier ≡ false) × Clear (earlier ++ (v ∷ [])) vs

  none_clear : (xs : List (Placed A)) (earlier : List A) → first_clash clash earlier xs ≡ none → Clear earlier (map value xs)
  unfolding Clear first_clash
  none_clear [] earlier e = tt
  none_clear (x ∷ xs) earlier e = let c = passed (clashes_any clash x.value earlier) x.place _ e in (c.0, none_clear xs (earlier ++ (x.value ∷ [])) c.1)

  clear_none : (xs : List (Placed A)) (earlier : List A) → Clear earlier (map value xs) → first_clash clash earlier xs ≡ none
  unfolding Clear first_clash
  clear_none [] earlier c = refl
  clear_none (x ∷ xs) earlier c = rw c.0 (clear_none xs (earlier ++ (x.value ∷ [])) c.1)

  -- one of the earlier values
  one_of : (v e : A) (l m : List A) → clashes_any clash v (l ++ (e ∷ m)) ≡ false → clash v e ≡ false
  unfolding clashes_any
  one_of v e [] m h = (neither (clash v e) (clashes_any clash v m) h).0
  one_of v e (x ∷ l) m h = one_of v e l m (neither (clash v x) (clashes_any clash v (l ++ (e ∷ m))) h).1

  none_of : (v : A) (l : List A) → ((a b : List A) (e : A) → l ≡ a ++ (e ∷ b) → clash v e ≡ false) → clashes_any clash v l ≡ false
  unfolding clashes_any
  none_of v [] h = refl
  none_of v (x ∷ l) h = rw (h [] l x refl) (none_of v l (λ a b e q. h (x ∷ a) b e (ap {B = List A} (λ r. x ∷ r) q)))

  -- a value against those before it
  against : (pre : List A) (y : A) (post earlier : List A) → Clear earlier (pre ++ (y ∷ post)) → clashes_any clash y (earlier ++ pre) ≡ false
  unfolding Clear
  against [] y post earlier c = ap (clashes_any clash y) (append-nil earlier) ∙ c.0
  against (x ∷ pre) y post earlier c = ap (clashes_any clash y) (sym (append_assoc earlier (x ∷ []) pre)) ∙ against pre y post (earlier ++ (x ∷ [])) c.1

  if_against : (vs earlier : List A) → ((pre : List A) (y : A) (post : List A) → vs ≡ pre ++ (y ∷ post) → clashes_any clash y (earlier ++ pre) ≡ false) → Clear earlier vs
  unfolding Clear
  if_against [] earlier h = tt
  if_against (v ∷ vs) earlier h = (
    ap (clashes_any clash v) (sym (append-nil earlier)) ∙ h [] v vs refl,
    if_against vs (earlier ++ (v ∷ [])) (λ pre y post e. ap (clashes_any clash y) (append_assoc earlier (v ∷ []) pre) ∙ h (v ∷ pre) y post (ap {B = List A} (λ r. v ∷ r) e)),
  )

  pub none_pairs : (xs : List (Placed A)) → first_clash clash [] xs ≡ none → Pairs (λ x y. clash y x ≡ false) (map value xs)
  none_pairs xs e a b c x y q =
      let all = subst (Clear []) (q ∙ sym (append_assoc a (x ∷ b) (y ∷ c))) (none_clear xs [] e) in
      one_of y x a b (against (a ++ (x ∷ b)) y c [] all)

  pub pairs_none : (xs : List (Placed A)) → Pairs (λ x y. clash y x ≡ false) (map value xs) → first_clash clash [] xs ≡ none
  pairs_none xs h =
      clear_none xs []
      (if_against (map value xs) [] (λ pre y post e.
      none_of y pre (λ a b x q. h a b post x y (e ∙ ap (λ (l : List A). l ++ (y ∷ post)) q ∙ append_assoc a (x ∷ b) (y ∷ post)))))
