-- What a search comes to under a budget: the first evaluation of its events, or that there is none, or the end of the budget. By induction over the events.
-- Assumes nothing.
use Prim.Native.Nat.{ℕ, zero, suc, ◌+◌, ◌≤◌, ◌<◌}
use mathlib.Core.Path.{◌≡◌, refl, ap, subst, ◌∙◌}
use mathlib.Core.Logic.{◌⊎◌, inl, inr}
use mathlib.Core.List.{List, [], ◌∷◌}
use native.Mathlib.Omega.{arith}
use lib.ListN.{length}
use Rattle.format.specs.declared.values.Goal.{Goal}
use Rattle.format.specs.Terms.{Term}
use Rattle.tables.specs.Tables.{Table}
use Rattle.search.specs.Events.{Event, begun, found, FoundIn, here, later, First, at_once, one_more}
use Rattle.search.specs.Trace.{trace}
use Rattle.search.specs.Answer.{proved, exhausted, spent, first_found, search}
use Rattle.search.proofs.EventLaws.{none_found}

-- no evaluation is among the events
abbrev pub NoneFound : List Event → Type 0
NoneFound es = (s : Term) (h : List Goal) → FoundIn es s h → ⊥

pub record Foremost (es : List Event) : Type 0 where
  pub steps : ℕ
  pub term : Term
  pub gave : List Goal
  pub first : First es steps term gave

-- there is a first one, or none
pub first_or_none : (es : List Event) → Foremost es ⊎ NoneFound es
first_or_none [] = inr (λ s h i. none_found i)
first_or_none (found s g ∷ es) = inl (record { steps = 0; term = s; gave = g; first = at_once })
first_or_none (begun ∷ es) = go (first_or_none es)
  where
    begun_before : {s : Term} {g : List Goal} → FoundIn (begun ∷ es) s g → FoundIn es s g
    begun_before (later i) = i

    go : Foremost es ⊎ NoneFound es → Foremost (begun ∷ es) ⊎ NoneFound (begun ∷ es)
    go (inl f) = inl (record { steps = suc f.steps; term = f.term; gave = f.gave; first = one_more f.first })
    go (inr never) = inr (λ s h i. never s h (begun_before i))

pub first_found_in : {es : List Event} {n : ℕ} {s : Term} {g : List Goal} → First es n s g → FoundIn es s g
first_found_in at_once = here
first_found_in (one_more f) = later (first_found_in f)

-- there is one number of steps before it
pub first_steps : {es : List Event} {n m : ℕ} {s r : Term} {g h : List Goal} → First es n s g → First es m r h → n ≡ m
first_steps at_once at_once = refl
first_steps (one_more f) (one_more k) = ap suc (first_steps f k)

-- the first one is given, if its steps are within the budget
first_proved : {es : List Event} {n : ℕ} {s : Term} {g : List Goal} → First es n s g → (b m : ℕ) → n ≤ b → first_found b m es ≡ proved s g (m + n)
unfolding first_found
first_proved {s = s} {g = g} at_once b m l = ap (proved s g) (omega arith)
first_proved (one_more f) zero m l = absurd (omega arith)
first_proved {s = s} {g = g} (one_more f) (suc b) m l = first_proved f b (suc m) (omega arith) ∙ ap (proved s g) (omega arith)

-- and else the budget is spent before
first_spent : {es : List Event} {n : ℕ} {s : Term} {g : List Goal} → First es n s g → (b m : ℕ) → b < n → first_found b m es ≡ spent (m + b)
unfolding first_found
first_spent at_once b m l = absurd (omega arith)
first_spent (one_more f) zero m l = ap spent (omega arith)
first_spent (one_more f) (suc b) m l = first_spent f b (suc m) (omega arith) ∙ ap spent (omega arith)

-- Where there is none, every event is a beginning, so that there are as many steps as events: the search ends so after all of them, if they are within the budget.
none_exhausted : (b n : ℕ) (es : List Event) → NoneFound es → length es ≤ b → first_found b n es ≡ exhausted (n + length es)
unfolding first_found
none_exhausted b n [] never l = ap exhausted (omega arith)
none_exhausted b n (found s h ∷ es) never l = absurd (never s h here)
none_exhausted zero n (begun ∷ es) never l = absurd (omega arith)
none_exhausted (suc b) n (begun ∷ es) never l = none_exhausted b (suc n) es (λ s h i. never s h (later i)) (omega arith) ∙ ap exhausted (omega arith)

-- and else the budget is spent before
none_spent : (b n : ℕ) (es : List Event) → NoneFound es → b < length es → first_found b n es ≡ spent (n + b)
unfolding first_found
none_spent b n [] never l = absurd (omega arith)
none_spent b n (found s h ∷ es) never l = absurd (never s h here)
none_spent zero n (begun ∷ es) never l = ap spent (omega arith)
none_spent (suc b) n (begun ∷ es) never l = none_spent b (suc n) es (λ s h i. never s h (later i)) (omega arith) ∙ ap spent (omega arith)

-- what is given is among the events
proved_found : (b n : ℕ) (es : List Event) {s : Term} {h : List Goal} {m : ℕ} → first_found b n es ≡ proved s h m → FoundIn es s h
unfolding first_found
proved_found b n [] q = let z : ◌≡◌ {A = ℕ} 0 1 = cc in absurd (omega arith)
proved_found b n (found r k ∷ es) {s} {h} q =
    let p : r ≡ s = cc in
    let p' : k ≡ h = cc in
    subst (λ (x : Term). FoundIn (found r k ∷ es) x h) p (subst (λ (x : List Goal). FoundIn (found r k ∷ es) r x) p' here)
proved_found zero n (begun ∷ es) q = let z : ◌≡◌ {A = ℕ} 0 1 = cc in absurd (omega arith)
proved_found (suc b) n (begun ∷ es) q = later (proved_found b (suc n) es q)

-- 24 comes with the budget
spent_all : (b n : ℕ) (es : List Event) {m : ℕ} → first_found b n es ≡ spent m → m ≡ n + b
unfolding first_found
spent_all b n [] q = let z : ◌≡◌ {A = ℕ} 0 1 = cc in absurd (omega arith)
spent_all b n (found s g ∷ es) q = let z : ◌≡◌ {A = ℕ} 0 1 = cc in absurd (omega arith)
spent_all zero n (begun ∷ es) {m} q = let p : n ≡ m = cc in omega arith
spent_all (suc b) n (begun ∷ es) q = omega (arith, spent_all b (suc n) es q)

module _ (T : Table) (h : ℕ) (t : Term) (g : List Goal) (b : ℕ) where
  -- FOUND: the first evaluation, after its steps
  pub search_first : {n : ℕ} {s : Term} {k : List Goal} → First (trace T h t g) n s k → n ≤ b → search T h b t g ≡ proved s k n
  unfolding search
  search_first {s = s} {k = k} f l = first_proved f b 0 l ∙ ap (proved s k) (omega arith)

  pub search_first_spent : {n : ℕ} {s : Term} {k : List Goal} → First (trace T h t g) n s k → b < n → search T h b t g ≡ spent b
  unfolding search
  search_first_spent f l = first_spent f b 0 l ∙ ap spent (omega arith)

  -- what is given was found
  pub search_found : {n : ℕ} {s : Term} {k : List Goal} → search T h b t g ≡ proved s k n → FoundIn (trace T h t g) s k
  unfolding search
  search_found q = proved_found b 0 (trace T h t g) q

  -- NONE: after all events, which are beginnings
  pub search_none : NoneFound (trace T h t g) → length (trace T h t g) ≤ b → search T h b t g ≡ exhausted (length (trace T h t g))
  unfolding search
  search_none never l = none_exhausted b 0 (trace T h t g) never l ∙ ap exhausted (omega arith)

  pub search_none_spent : NoneFound (trace T h t g) → b < length (trace T h t g) → search T h b t g ≡ spent b
  unfolding search
  search_none_spent never l = none_spent b 0 (trace T h t g) never l ∙ ap spent (omega arith)

  -- SPENT: 24 comes after as many steps as the budget
  pub search_spent : {n : ℕ} → search T h b t g ≡ spent n → n ≡ b
  unfolding search
  search_spent q = omega (arith, spent_all b 0 (trace T h t g) q)
