-- The search over headers is the search over values where each header carries the next value or clashes with none: by induction over the headers.
-- Assumes nothing.
use mathlib.Core.Path.{◌≡◌, refl, sym, subst, ap}
use mathlib.Core.Bool.{Bool, true, false, cond}
use mathlib.Core.Option.{Option, some}
use mathlib.Core.List.{List, [], ◌∷◌, ◌++◌}
use Prim.Native.Nat.{ℕ, ◌+◌}
use Rattle.tables.specs.declared.repeats.Repeat.{Repeat}
use Rattle.tables.specs.Repeats.{Placed, clashes_any, first_clash}
use Rattle.tables.specs.Standing.{InRow}
use Rattle.tables.specs.Search.{step_at, Room, clash_at, Headers, places}
use Rattle.tables.proofs.RowLaws as row
use Rattle.tables.proofs.SearchLaws.{none_clashes, any_more}

-- each of these headers carries the next of these values, or is silent
pub data Values {A : Type 0} (Holds : ℕ → A → Type 0) (Silent : ℕ → Type 0) : List ℕ → List (Placed A) → Type 0 where
  no_value : Values Holds Silent [] []
  value : {p : ℕ} {ps : List ℕ} {a : A} {xs : List (Placed A)} → Holds p a → Values Holds Silent ps xs → Values Holds Silent (p ∷ ps) (record { value = a; place = p } ∷ xs)
  other : {p : ℕ} {ps : List ℕ} {xs : List (Placed A)} → Silent p → Values Holds Silent ps xs → Values Holds Silent (p ∷ ps) xs

module _ {A : Type 0} (Holds : ℕ → A → Type 0) (Silent : ℕ → Type 0) where
  values_append : {ps qs : List ℕ} {xs ys : List (Placed A)} → Values Holds Silent ps xs → Values Holds Silent qs ys → Values Holds Silent (ps ++ qs) (xs ++ ys)
  values_append no_value w = w
  values_append (value h v) w = value h (values_append v w)
  values_append (other h v) w = other h (values_append v w)

  module _ (clash : A → A → Bool) (test : ℕ → ℕ → Bool) (same : (p q : ℕ) (a b : A) → Holds p a → Holds q b → test p q ≡ clash a b)
      (quiet : (p : ℕ) → Silent p → (q : ℕ) → (test p q ≡ false) × (test q p ≡ false)) where
    -- a header clashes with the headers seen exactly where its value clashes with the values seen
    abbrev Agree : List ℕ → List A → Type 0
    Agree seen earlier = (p : ℕ) (a : A) → Holds p a → clashes_any test p seen ≡ clashes_any clash a earlier

    one_more : (seen : List ℕ) (earlier : List A) (p : ℕ) (a : A) → Holds p a → Agree seen earlier → Agree (seen ++ (p ∷ [])) (earlier ++ (a ∷ []))
    one_more seen earlier p a h g q b k = rw (any_more test q p seen, any_more clash b a earlier, g q b k, same q p b a k h)

    none_more : (seen : List ℕ) (earlier : List A) (p : ℕ) → Silent p → Agree seen earlier → Agree (seen ++ (p ∷ [])) earlier
    none_more seen earlier p h g q b k = rw (any_more test q p seen, g q b k, (quiet p h q).1) (whole (clashes_any clash b earlier))
      where
        whole : (c : Bool) → cond c true false ≡ c
        whole true = refl
        whole false = refl

    first_same : {ps : List ℕ} {xs : List (Placed A)} → Values Holds Silent ps xs → (seen : List ℕ) (earlier : List A) → Agree seen earlier → first_clash clash earlier xs ≡ first_clash test seen (places ps)
    unfolding first_clash places
    first_same no_value seen earlier g = refl
    first_same (value {p = p} {a = a} h v) seen earlier g =
        rw (g p a h) (ap (λ (o : Option ℕ). cond (clashes_any clash a earlier) (some p) o) (first_same v (seen ++ (p ∷ [])) (earlier ++ (a ∷ [])) (one_more seen earlier p a h g)))
    first_same (other {p = p} h v) seen earlier g =
        rw (none_clashes test p (λ q. (quiet p h q).0) seen) (first_same v (seen ++ (p ∷ [])) earlier (none_more seen earlier p h g))

-- headers one behind the other that carry these values
pub record Run {A : Type 0} (Holds : ℕ → A → Type 0) (Silent : ℕ → Type 0) (kind : Repeat) (s : List ℕ) (from : ℕ) (xs : List (Placed A)) (to : ℕ) : Type 0 where
  pub at : List ℕ
  pub headers : Headers kind s from at to
  pub values : Values Holds Silent at xs

module _ {A : Type 0} (Holds : ℕ → A → Type 0) (Silent : ℕ → Type 0) (kind : Repeat) (s : List ℕ) where
  abbrev R : ℕ → List (Placed A) → ℕ → Type 0
  R = Run Holds Silent kind s

  pub run_end : (from to : ℕ) → from ≡ to → R from [] to
  unfolding InRow
  run_end from to e = record { at = []; headers = e; values = no_value }

  pub run_value : (from to k : ℕ) (a : A) (xs : List (Placed A)) → Holds from a → Room s from → step_at kind s from ≡ k → R (from + k) xs to → R from (record { value = a; place = from } ∷ xs) to
  unfolding InRow
  run_value from to k a xs h m e r = record {
    at = from ∷ r.at;
    headers = ((refl, m), rw e r.headers);
    values = value h r.values;
  }

  pub run_other : (from to k : ℕ) (xs : List (Placed A)) → Silent from → Room s from → step_at kind s from ≡ k → R (from + k) xs to → R from xs to
  unfolding InRow
  run_other from to k xs h m e r = record {
    at = from ∷ r.at;
    headers = ((refl, m), rw e r.headers);
    values = other h r.values;
  }

  pub run-append : (from mid to : ℕ) (xs ys : List (Placed A)) → R from xs mid → R mid ys to → R from (xs ++ ys) to
  run-append from mid to xs ys a b = record {
    at = a.at ++ b.at;
    headers = row.row-append (λ at p. (p ≡ at) × Room s at) (step_at kind s) a.at b.at from mid to a.headers b.headers;
    values = values_append Holds Silent a.values b.values;
  }

  -- values that stand in a row, each the value of one header
  module _ {B : Type 0} (stands : ℕ → B → Type 0) (size_of : B → ℕ) (value_of : B → A) (placed : ℕ → List B → List (Placed A))
      (nil : (at : ℕ) → placed at [] ≡ []) (cons : (at : ℕ) (x : B) (xs : List B) → placed at (x ∷ xs) ≡ record { value = value_of x; place = at } ∷ placed (at + size_of x) xs)
      (carries : (at : ℕ) (x : B) → stands at x → Holds at (value_of x) × Room s at × (step_at kind s at ≡ size_of x)) where
    pub run_row : (xs : List B) (from to : ℕ) → InRow stands size_of from xs to → R from (placed from xs) to
    unfolding InRow
    run_row [] from to e = subst (λ (v : List (Placed A)). R from v to) (sym (nil from)) (run_end from to e)
    run_row (x ∷ xs) from to h =
        let c = carries from x h.0 in
        subst (λ (v : List (Placed A)). R from v to) (sym (cons from x xs)) (run_value from to (size_of x) (value_of x) _ c.0 c.1 c.2 (run_row xs (from + size_of x) to h.1))

  -- the first clash of the values is that of the headers
  module _ (clash : A → A → Bool) (same : (p q : ℕ) (a b : A) → Holds p a → Holds q b → clash_at kind s p q ≡ clash a b)
      (quiet : (p : ℕ) → Silent p → (q : ℕ) → (clash_at kind s p q ≡ false) × (clash_at kind s q p ≡ false)) where
    pub run_first : (from to : ℕ) (xs : List (Placed A)) → (r : R from xs to) → first_clash clash [] xs ≡ first_clash (clash_at kind s) [] (places r.at)
    unfolding clashes_any
    run_first from to xs r = first_same Holds Silent clash (clash_at kind s) same quiet r.values [] [] (λ p a h. refl)
