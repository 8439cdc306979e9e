-- Laws of `for_each` and of what is found among events, by induction over the events.
-- Assumes nothing.
use Prim.Native.Nat.{ℕ}
use mathlib.Core.Path.{◌≡◌, refl, ap, sym, ◌∙◌, subst⁻¹}
use mathlib.Core.Logic.{◌⊎◌, inl, inr}
use mathlib.Core.List.{List, [], ◌∷◌, ◌++◌, append_assoc}
use native.Mathlib.Omega.{arith}
use Rattle.format.specs.declared.values.Goal.{Goal}
use Rattle.format.specs.Terms.{Term}
use Rattle.search.specs.Events.{Event, begun, found, for_each, FoundIn, here, later}

abbrev Next : Type 0
Next = Term → List Goal → List Event

pub each_append : (es fs : List Event) (f : Next) → for_each (es ++ fs) f ≡ for_each es f ++ for_each fs f
unfolding for_each
each_append [] fs f = refl
each_append (begun ∷ es) fs f = ap {B = List Event} (λ r. begun ∷ r) (each_append es fs f)
each_append (found s g ∷ es) fs f = ap {B = List Event} (λ r. f s g ++ r) (each_append es fs f) ∙ sym (append_assoc (f s g) (for_each es f) (for_each fs f))

-- one after the other
pub each_each : (es : List Event) (f h : Next) → for_each (for_each es f) h ≡ for_each es (λ s g. for_each (f s g) h)
unfolding for_each
each_each [] f h = refl
each_each (begun ∷ es) f h = ap {B = List Event} (λ r. begun ∷ r) (each_each es f h)
each_each (found s g ∷ es) f h = each_append (f s g) (for_each es f) h ∙ ap {B = List Event} (λ r. for_each (f s g) h ++ r) (each_each es f h)

-- the same is done next
pub each_same : (es : List Event) (f h : Next) → ((s : Term) (g : List Goal) → f s g ≡ h s g) → for_each es f ≡ for_each es h
each_same es f h p = λ i. for_each es (λ s g. p s g i)

pub each_found : (es : List Event) → for_each es (λ s g. found s g ∷ []) ≡ es
unfolding for_each
each_found [] = refl
each_found (begun ∷ es) = ap {B = List Event} (λ r. begun ∷ r) (each_found es)
each_found (found s g ∷ es) = ap {B = List Event} (λ r. found s g ∷ r) (each_found es)

-- what is found

pub finds_left : {es : List Event} (fs : List Event) {s : Term} {g : List Goal} → FoundIn es s g → FoundIn (es ++ fs) s g
finds_left fs here = here
finds_left fs (later m) = later (finds_left fs m)

pub finds_right : (es : List Event) {fs : List Event} {s : Term} {g : List Goal} → FoundIn fs s g → FoundIn (es ++ fs) s g
finds_right [] m = m
finds_right (e ∷ es) m = later (finds_right es m)

inversion : {e : Event} {es : List Event} {s : Term} {g : List Goal} → FoundIn (e ∷ es) s g → (e ≡ found s g) ⊎ FoundIn es s g
inversion here = inl refl
inversion (later m) = inr m

pub is_here : {e : Event} {es : List Event} {s : Term} {g : List Goal} → e ≡ found s g → FoundIn (e ∷ es) s g
is_here {e} {es} {s} {g} q = subst⁻¹ (λ (x : Event). FoundIn (x ∷ es) s g) q here

one_later : {e : Event} {es fs : List Event} {s : Term} {g : List Goal} → FoundIn es s g ⊎ FoundIn fs s g → FoundIn (e ∷ es) s g ⊎ FoundIn fs s g
one_later (inl m) = inl (later m)
one_later (inr m) = inr m

pub finds_either : (es fs : List Event) {s : Term} {g : List Goal} → FoundIn (es ++ fs) s g → FoundIn es s g ⊎ FoundIn fs s g
finds_either [] fs m = inr m
finds_either (e ∷ es) fs {s} {g} m = go (inversion m) (finds_either es fs)
  where
    go : (e ≡ found s g) ⊎ FoundIn (es ++ fs) s g → (FoundIn (es ++ fs) s g → FoundIn es s g ⊎ FoundIn fs s g) → FoundIn (e ∷ es) s g ⊎ FoundIn fs s g
    go (inl q) rec = inl (is_here q)
    go (inr m) rec = one_later (rec m)

pub none_found : {s : Term} {g : List Goal} → FoundIn [] s g → ⊥
none_found m = elim m [ ]

pub one_found : {s r : Term} {g h : List Goal} → FoundIn (found s g ∷ []) r h → found s g ≡ found r h
one_found m = go (inversion m)
  where
    go : {s r : Term} {g h : List Goal} → (found s g ≡ found r h) ⊎ FoundIn [] r h → found s g ≡ found r h
    go (inl q) = q
    go (inr m) = absurd (none_found m)

-- what is found after something found
pub finds_each : {es : List Event} (f : Next) {s r : Term} {g h : List Goal} → FoundIn es s g → FoundIn (f s g) r h → FoundIn (for_each es f) r h
unfolding for_each
finds_each {es = found s g ∷ es} f here m = finds_left (for_each es f) m
finds_each {es = begun ∷ es} f (later i) m = later (finds_each f i m)
finds_each {es = found s' g' ∷ es} f (later i) m = finds_right (f s' g') (finds_each f i m)
finds_each {es = []} f {r = r} {h = h} x7 m = elim x7 [ ]

pub record After (es : List Event) (f : Next) (r : Term) (h : List Goal) : Type 0 where
  pub first : Term
  pub gave : List Goal
  pub finds_first : FoundIn es first gave
  pub finds_next : FoundIn (f first gave) r h

after-later : {e : Event} {es : List Event} {f : Next} {r : Term} {h : List Goal} → After es f r h → After (e ∷ es) f r h
after-later a = record { first = a.first; gave = a.gave; finds_first = later a.finds_first; finds_next = a.finds_next }

pub each_finds : (es : List Event) (f : Next) {r : Term} {h : List Goal} → FoundIn (for_each es f) r h → After es f r h
unfolding for_each
each_finds [] f m = absurd (none_found m)
each_finds (begun ∷ es) f {r} {h} m = go (inversion m) (λ i. each_finds es f i)
  where
    go : (begun ≡ found r h) ⊎ FoundIn (for_each es f) r h → (FoundIn (for_each es f) r h → After es f r h) → After (begun ∷ es) f r h
    go (inl q) rec = let z : ◌≡◌ {A = ℕ} 0 1 = cc in absurd (omega arith)
    go (inr i) rec = after-later (rec i)
each_finds (found s g ∷ es) f {r} {h} m = go (finds_either (f s g) (for_each es f) m) (λ i. each_finds es f i)
  where
    go : FoundIn (f s g) r h ⊎ FoundIn (for_each es f) r h → (FoundIn (for_each es f) r h → After es f r h) → After (found s g ∷ es) f r h
    go (inl i) rec = record { first = s; gave = g; finds_first = here; finds_next = i }
    go (inr i) rec = after-later (rec i)
