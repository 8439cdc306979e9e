-- Laws of results and of what the code tells of them: by the two cases of a result.
-- Assumes nothing.
use Rattle.std.specs.Prelude.{Ok, Err}
use Rattle.std.specs.Prelude as std
use Rattle.format.specs.declared.refusals.Refusal.{Refusal}
use mathlib.Core.Path.{◌≡◌, refl, ap}
use mathlib.Core.Bool.{Bool, true, false, cond}
use Prim.Native.Nat.{ℕ, ◌≤◌}
use native.Mathlib.Omega.{arith}
use Rattle.format.specs.Refusals.{Cause, number}
use Rattle.format.specs.Refusals as C
use Rattle.format.specs.Results.{Result, gives, refused, and_then, told, refused_at}

module _ {A : Type 0} where
  -- a refusal is no value
  pub never_gives : {c : Cause} {p : ℕ} {a : A} {B : Type 0} → refused c p ≡ gives a → B
  never_gives e = absurd (let z : ◌≡◌ {A = ℕ} 0 1 = cc in omega arith)

  pub same_value : {a b : A} → gives a ≡ gives b → a ≡ b
  same_value e = cc

  pub same_place : {c d : Cause} {p q : ℕ} → ◌≡◌ {A = Result A} (refused c p) (refused d q) → p ≡ q
  same_place e = cc

  pub same_cause : {c d : Cause} {p q : ℕ} → ◌≡◌ {A = Result A} (refused c p) (refused d q) → c ≡ d
  same_cause e = cc

  -- a choice between a refusal and something else that gives a value
  pub passed : (b : Bool) (c : Cause) (p : ℕ) (x : Result A) {a : A} → cond b (refused c p) x ≡ gives a → (b ≡ false) × (x ≡ gives a)
  passed true c p x e = never_gives e
  passed false c p x e = (refl, e)

  pub kept : (b : Bool) (c : Cause) (p : ℕ) (x : Result A) {a : A} → cond b x (refused c p) ≡ gives a → (b ≡ true) × (x ≡ gives a)
  kept true c p x e = (refl, e)
  kept false c p x e = never_gives e

module _ {A B : Type 0} where
  -- what gives a value after another gave the other a value first
  pub and_gives : {next : A → Result B} {b : B} (x : Result A) → and_then x next ≡ gives b → (a : A) × (x ≡ gives a) × (next a ≡ gives b)
  unfolding and_then
  and_gives (gives a) e = (a, refl, e)
  and_gives (refused c p) e = never_gives e

  -- a property of a result, through its two steps
  pub and_holds : (P : Result B → Type 0) (x : Result A) (next : A → Result B) → ((c : Cause) (p : ℕ) → x ≡ refused c p → P (refused c p)) → ((a : A) → x ≡ gives a → P (next a)) → P (and_then x next)
  unfolding and_then
  and_holds P (gives a) next r v = v a refl
  and_holds P (refused c p) next r v = r c p refl

  -- the same result, through its two steps
  pub and_same : (x y : Result A) (next other : A → Result B) → x ≡ y → ((a : A) → x ≡ gives a → next a ≡ other a) → and_then x next ≡ and_then y other
  unfolding and_then
  and_same (gives a) y next other e s = rw (← e) (s a refl)
  and_same (refused c p) y next other e s = rw (← e)

-- the parts of what the code answers: a cc joins the answers, and a projection the parts
module _ {A : Type 0} where
  pub same_answered : {E : Type 0} {a b : A} → ◌≡◌ {A = std.Result A E} (Ok a) (Ok b) → a ≡ b
  same_answered e = cc

  pub same_refusal : {E : Type 0} {a b : E} → ◌≡◌ {A = std.Result A E} (Err a) (Err b) → a ≡ b
  same_refusal e = cc

  pub refused_cause : {c d : Cause} {p q : ℕ} → ◌≡◌ {A = std.Result A Refusal} (refused_at c p) (refused_at d q) → c ≡ d
  refused_cause e = ap (λ (r : Refusal). r.cause) (same_refusal e)

  pub refused_place : {c d : Cause} {p q : ℕ} → ◌≡◌ {A = std.Result A Refusal} (refused_at c p) (refused_at d q) → p ≡ q
  refused_place e = ap (λ (r : Refusal). r.place) (same_refusal e)

-- what the code tells of two steps, from what it tells of the first. R and S are how it tells a refusal, K and L what it tells of a value.
module _ {A B X Y : Type 0} (R : Cause → ℕ → X) (K : A → X) (S : Cause → ℕ → Y) (L : B → Y) where
  pub told_refused : (x : Result A) (next : A → Result B) (d : Cause) (p : ℕ) → told R K x ≡ R d p
      → ((c : Cause) (q : ℕ) → R c q ≡ R d p → S c q ≡ S d p) → ((a : A) → K a ≡ R d p → ⊥)
      → told S L (and_then x next) ≡ S d p
  unfolding told and_then
  told_refused (gives a) next d p e same other = absurd (other a e)
  told_refused (refused c q) next d p e same other = same c q e

  pub told_gives : (x : Result A) (next : A → Result B) (t : X) (y : Y) → told R K x ≡ t
      → ((d : Cause) (p : ℕ) → R d p ≡ t → ⊥) → ((a : A) → x ≡ gives a → K a ≡ t → told S L (next a) ≡ y) → told S L (and_then x next) ≡ y
  unfolding told and_then
  told_gives (gives a) next t y e other h = h a refl e
  told_gives (refused c q) next t y e other h = absurd (other c q e)

-- no refusal has the number 0
pub number_positive : (c : Cause) → 1 ≤ number c
unfolding number
number_positive C.InputTooLong = omega arith
number_positive C.FieldTorn = omega arith
number_positive C.TagNotAllowed = omega arith
number_positive C.LengthWrong = omega arith
number_positive C.LimitPassed = omega arith
number_positive C.RuleRepeated = omega arith
number_positive C.PremiseCountDiffers = omega arith
number_positive C.TacticRedefined = omega arith
number_positive C.LabelRepeated = omega arith
number_positive C.RuleMissing = omega arith
number_positive C.GoalCountWrong = omega arith
number_positive C.GoalsTooFew = omega arith
number_positive C.RemainingDiffer = omega arith
number_positive C.JoinedTooLong = omega arith
number_positive C.TacticFailed = omega arith
number_positive C.BudgetSpent = omega arith
number_positive C.BudgetTooLarge = omega arith
number_positive C.OutputTooShort = omega arith
number_positive C.EntryWrong = omega arith
number_positive C.GoalsPending = omega arith
number_positive C.EntriesTooMany = omega arith
number_positive C.WorkTooShort = omega arith
number_positive C.StateNotGenuine = omega arith
number_positive C.TextWrong = omega arith
number_positive C.ValueTooLarge = omega arith
number_positive C.FieldsTooMany = omega arith
number_positive C.NoEvaluation = omega arith
number_positive C.HeightOutside = omega arith
