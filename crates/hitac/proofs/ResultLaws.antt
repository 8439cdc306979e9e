-- A result of several steps gives a value, or is refused, in one of the ways of its steps, and so does each step of a walk. By cases. Assumes nothing.
use Prim.Native.Nat.{ℕ, ◌≤◌, ◌<◌}
use native.Mathlib.Omega.{arith}
use mathlib.Core.Path.{◌≡◌, refl, ap}
use mathlib.Core.Bool.{Bool, true, false, cond}
use mathlib.Core.Logic.{◌⊎◌, inl, inr, ⊎_elim}
use mathlib.Core.Option.{Option, none, some}
use mathlib.Core.List.{List, [], ◌∷◌}
use lib.ListN.{length}
use borrow.Author.Tests.{ltb-true, ltb-false}
use Rattle.format.specs.declared.values.Goal.{Goal}
use Rattle.format.specs.declared.refusals.Cause.{Cause}
use Rattle.format.specs.declared.refusals.Cause.TheVariants.{GoalCountWrong, JoinedTooLong}
use Rattle.format.specs.Results.{Result, gives, refused, and_then}
use Rattle.tables.specs.Lookup.{FoundRule, found_rule}
use Rattle.hitac.specs.Walk.{on_one_goal, on_no_goal, premises_or, too_long, joined}

pub refused_gives : {A : Type 0} {c : Cause} {p : ℕ} {a : A} → refused c p ≡ gives a → ⊥
refused_gives e = let z : ◌≡◌ {A = ℕ} 0 1 = cc in omega arith

pub gives_refused : {A : Type 0} {c : Cause} {p : ℕ} {a : A} → gives a ≡ refused c p → ⊥
gives_refused e = let z : ◌≡◌ {A = ℕ} 0 1 = cc in omega arith

pub gives_gives : {A : Type 0} {a b : A} → gives a ≡ gives b → a ≡ b
gives_gives e = cc

pub refused_cause : {A : Type 0} {c d : Cause} {p q : ℕ} → ◌≡◌ {A = Result A} (refused c p) (refused d q) → c ≡ d
refused_cause e = cc

pub refused_place : {A : Type 0} {c d : Cause} {p q : ℕ} → ◌≡◌ {A = Result A} (refused c p) (refused d q) → p ≡ q
refused_place e = cc

-- a step and what follows it
pub and_then_gives : {A B : Type 0} {next : A → Result B} {b : B} (r : Result A) → and_then r next ≡ gives b → (a : A) × (r ≡ gives a) × (next a ≡ gives b)
unfolding and_then
and_then_gives (gives a) e = (a, refl, e)
and_then_gives (refused c p) e = absurd (refused_gives e)

pub and_then_refused : {A B : Type 0} {next : A → Result B} {c : Cause} {p : ℕ} (r : Result A) → and_then r next ≡ refused c p
    → (r ≡ refused c p) ⊎ ((a : A) × (r ≡ gives a) × (next a ≡ refused c p))
unfolding and_then
and_then_refused (gives a) e = inr (a, refl, e)
and_then_refused (refused d q) e = inl (cc)

pub and_then_passes : {A B : Type 0} {r : Result A} {a : A} (next : A → Result B) → r ≡ gives a → and_then r next ≡ next a
unfolding and_then
and_then_passes next e = rw e

pub and_then_stops : {A B : Type 0} {r : Result A} {c : Cause} {p : ℕ} (next : A → Result B) → r ≡ refused c p → and_then r next ≡ refused c p
unfolding and_then
and_then_stops next e = rw e

-- a test that refuses
pub test_gives : {A : Type 0} {r : Result A} (c : Cause) (p : ℕ) {a : A} (b : Bool) → cond b (refused c p) r ≡ gives a → (b ≡ false) × (r ≡ gives a)
test_gives c p true e = absurd (refused_gives e)
test_gives c p false e = (refl, e)

pub test_refused : {A : Type 0} {r : Result A} {c d : Cause} {p q : ℕ} (b : Bool) → cond b (refused c p) r ≡ refused d q
    → ((b ≡ true) × (c ≡ d) × (p ≡ q)) ⊎ ((b ≡ false) × (r ≡ refused d q))
test_refused true e = inl (refl, refused_cause e, refused_place e)
test_refused false e = inr (refl, e)

-- the premises found, or the refusal
pub premises_found : (c : Cause) (p : ℕ) {n : ℕ} {h : List Goal} {o : Option FoundRule} → o ≡ some (found_rule n h) → premises_or c p o ≡ gives h
unfolding premises_or
premises_found c p e = rw e

pub premises_missing : (c : Cause) (p : ℕ) {o : Option FoundRule} → o ≡ none → premises_or c p o ≡ refused c p
unfolding premises_or
premises_missing c p e = rw e

pub premises_give : (c : Cause) (p : ℕ) {h : List Goal} (o : Option FoundRule) → premises_or c p o ≡ gives h → (n : ℕ) × (o ≡ some (found_rule n h))
unfolding premises_or
premises_give c p none e = absurd (refused_gives e)
premises_give c p (some r) e = (r.number, ap (λ (l : List Goal). some (found_rule r.number l)) (gives_gives e))

pub premises_refused : {c d : Cause} {p q : ℕ} (o : Option FoundRule) → premises_or c p o ≡ refused d q → (o ≡ none) × (c ≡ d) × (p ≡ q)
unfolding premises_or
premises_refused none e = (refl, refused_cause e, refused_place e)
premises_refused (some r) e = absurd (gives_refused e)

-- exactly one goal, or the refusal
pub one_goal_gives : (p : ℕ) (next : Goal → Result (List Goal)) (g : List Goal) {h : List Goal} → on_one_goal p next g ≡ gives h
    → (γ : Goal) × (g ≡ γ ∷ []) × (next γ ≡ gives h)
unfolding on_one_goal
one_goal_gives p next [] e = absurd (refused_gives e)
one_goal_gives p next (γ ∷ []) e = (γ, refl, e)
one_goal_gives p next (γ ∷ δ ∷ g) e = absurd (refused_gives e)

pub one_goal_refused : (p : ℕ) (next : Goal → Result (List Goal)) (g : List Goal) {c : Cause} {q : ℕ} → on_one_goal p next g ≡ refused c q
    → ((length g ≡ 1 → ⊥) × (GoalCountWrong ≡ c) × (p ≡ q)) ⊎ ((γ : Goal) × (g ≡ γ ∷ []) × (next γ ≡ refused c q))
unfolding on_one_goal
one_goal_refused p next [] e = inl ((λ z. omega arith), refused_cause e, refused_place e)
one_goal_refused p next (γ ∷ []) e = inr (γ, refl, e)
one_goal_refused p next (γ ∷ δ ∷ g) e = inl ((λ z. omega arith), refused_cause e, refused_place e)

pub not_one_goal : (p : ℕ) (next : Goal → Result (List Goal)) (g : List Goal) → (length g ≡ 1 → ⊥) → on_one_goal p next g ≡ refused GoalCountWrong p
unfolding on_one_goal
not_one_goal p next [] z = refl
not_one_goal p next (γ ∷ []) z = absurd (z refl)
not_one_goal p next (γ ∷ δ ∷ g) z = refl

-- no goal, or the refusal
pub no_goal_gives : (p : ℕ) (g : List Goal) {h : List Goal} → on_no_goal p g ≡ gives h → (g ≡ []) × ([] ≡ h)
unfolding on_no_goal
no_goal_gives p [] e = (refl, gives_gives e)
no_goal_gives p (γ ∷ g) e = absurd (refused_gives e)

pub no_goal_refused : (p : ℕ) (g : List Goal) {c : Cause} {q : ℕ} → on_no_goal p g ≡ refused c q → (0 < length g) × (GoalCountWrong ≡ c) × (p ≡ q)
unfolding on_no_goal
no_goal_refused p [] e = absurd (gives_refused e)
no_goal_refused p (γ ∷ g) e = (omega arith, refused_cause e, refused_place e)

pub some_goal : (p : ℕ) (g : List Goal) → 0 < length g → on_no_goal p g ≡ refused GoalCountWrong p
unfolding on_no_goal
some_goal p [] z = absurd (omega arith)
some_goal p (γ ∷ g) z = refl

-- a joined list of at most 256 goals, or the refusal
pub too_long_true : (g : List Goal) → too_long g ≡ true → 256 < length g
unfolding too_long
too_long_true g t = omega (arith, ltb-true)

pub too_long_false : (g : List Goal) → too_long g ≡ false → length g ≤ 256
unfolding too_long
too_long_false g t = omega (arith, ltb-false)

pub joined-fits_lem : (p : ℕ) (g : List Goal) → length g ≤ 256 → joined p g ≡ gives g
unfolding joined
joined-fits_lem p g l = go (too_long g) (too_long_true g)
  where
    go : (b : Bool) → (b ≡ true → 256 < length g) → cond b (refused JoinedTooLong p) (gives g) ≡ gives g
    go true f = absurd (omega (arith, f refl))
    go false f = refl

pub joined_over : (p : ℕ) (g : List Goal) → 256 < length g → joined p g ≡ refused JoinedTooLong p
unfolding joined
joined_over p g l = go (too_long g) (too_long_false g)
  where
    go : (b : Bool) → (b ≡ false → length g ≤ 256) → cond b (refused JoinedTooLong p) (gives g) ≡ refused JoinedTooLong p
    go true f = refl
    go false f = absurd (omega (arith, f refl))

pub joined_gives : (p : ℕ) (g : List Goal) {h : List Goal} → joined p g ≡ gives h → (length g ≤ 256) × (g ≡ h)
unfolding joined
joined_gives p g e = let (b, f) = test_gives JoinedTooLong p (too_long g) e in (too_long_false g b, gives_gives f)

pub joined_refused : (p : ℕ) (g : List Goal) {c : Cause} {q : ℕ} → joined p g ≡ refused c q → (256 < length g) × (JoinedTooLong ≡ c) × (p ≡ q)
unfolding joined
joined_refused p g e =
    ⊎_elim (λ x. (too_long_true g x.0, x.1, x.2)) (λ x. absurd (gives_refused x.1)) (test_refused (too_long g) e)
