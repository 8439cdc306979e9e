-- Every list of an evaluation: on at most 256 goals, with at most 8 premises to a rule, it is enough that joined lists have at most 256. By induction over the rules.
-- Assumes nothing.
use Prim.Native.Nat.{ℕ, ◌≤◌}
use mathlib.Core.Logic.{◌↔◌}
use mathlib.Core.List.{List, ◌++◌}
use native.Mathlib.Omega.{arith}
use lib.ListN.{length, length-append}
use Rattle.format.specs.declared.values.Goal.{Goal}
use Rattle.format.specs.Terms.{Term}
use Rattle.tables.specs.Tables.{Table, UniqueRules, UniqueDefinitions}
use Rattle.hitac.specs.Validates.{AnyList, AtMost256}
use Rattle.hitac.specs.Premises.{FewPremises}
use Rattle.evaluation.specs.Evaluates.{Evaluates, B-Atomic, B-Id, B-Label, B-Seq, B-Tensor, B-Empty, B-Alt-L, B-Alt-R, B-Assert, B-Def}
use Rattle.search.specs.Events.{FoundIn}
use Rattle.search.specs.Trace.{trace}
use Rattle.search.specs.EvaluatesWithin.{ListsFit, EvaluatesWithin}
use Rattle.search.proofs.TraceEvaluates.{found_evaluates, evaluates_found}

-- one whose lists all fit joins no longer list
pub joined_fit : {T : Table} {i : ℕ} {g h : List Goal} {t s : Term} (e : Evaluates T AnyList i g t s h) → ListsFit e → Evaluates T AtMost256 i g t s h
unfolding ListsFit
joined_fit (B-Atomic m) l = B-Atomic m
joined_fit B-Id l = B-Id
joined_fit (B-Label r) l = B-Label (joined_fit r l.1)
joined_fit (B-Seq r r') l = B-Seq (joined_fit r l.1) (joined_fit r' l.2)
joined_fit (B-Tensor {h₁ = h₁} {h₂ = h₂} r r' f) l = B-Tensor {h₁ = h₁} {h₂ = h₂} (joined_fit r l.1) (joined_fit r' l.2) l.0.1
joined_fit B-Empty l = B-Empty
joined_fit (B-Alt-L r) l = B-Alt-L (joined_fit r l.1)
joined_fit (B-Alt-R r) l = B-Alt-R (joined_fit r l.1)
joined_fit (B-Assert p) l = B-Assert p
joined_fit (B-Def m r) l = B-Def m (joined_fit r l.1)

module _ (T : Table) (few : FewPremises T) where
  pub gives_short : {i : ℕ} {g h : List Goal} {t s : Term} → Evaluates T AtMost256 i g t s h → length g ≤ 256 → length h ≤ 256
  gives_short (B-Atomic {a = a} {γ = γ} {h = h} m) l = omega (arith, few a γ h m)
  gives_short B-Id l = l
  gives_short (B-Label r) l = gives_short r l
  gives_short (B-Seq r r') l = gives_short r' (gives_short r l)
  gives_short (B-Tensor r r' f) l = f
  gives_short B-Empty l = omega arith
  gives_short (B-Alt-L r) l = gives_short r l
  gives_short (B-Alt-R r) l = gives_short r l
  gives_short (B-Assert p) l = l
  gives_short (B-Def m r) l = gives_short r l

  left_short : (g₁ g₂ : List Goal) → length (g₁ ++ g₂) ≤ 256 → length g₁ ≤ 256
  left_short g₁ g₂ l = omega (arith, l, length-append g₁ g₂)

  right_short : (g₁ g₂ : List Goal) → length (g₁ ++ g₂) ≤ 256 → length g₂ ≤ 256
  right_short g₁ g₂ l = omega (arith, l, length-append g₁ g₂)

  -- one that joins no longer list has no longer list at all
  pub every_list : {i : ℕ} {g h : List Goal} {t s : Term} → Evaluates T AtMost256 i g t s h → length g ≤ 256 → EvaluatesWithin T i g t s h
  unfolding ListsFit
  every_list (B-Atomic {a = a} {γ = γ} {h = h} m) l = (B-Atomic m, (l, omega (arith, few a γ h m)))
  every_list B-Id l = (B-Id, (l, l))
  every_list (B-Label r) l = let x = every_list r l in (B-Label x.0, ((l, gives_short r l), x.1))
  every_list (B-Seq r r') l =
      let x = every_list r l in
      let y = every_list r' (gives_short r l) in
      (B-Seq x.0 y.0, ((l, gives_short r' (gives_short r l)), x.1, y.1))
  every_list (B-Tensor {g₁ = g₁} {g₂ = g₂} {h₁ = h₁} {h₂ = h₂} r r' f) l =
      let x = every_list r (left_short g₁ g₂ l) in
      let y = every_list r' (right_short g₁ g₂ l) in
      (B-Tensor {g₁ = g₁} {g₂ = g₂} {h₁ = h₁} {h₂ = h₂} x.0 y.0 tt, ((l, f), x.1, y.1))
  every_list B-Empty l = (B-Empty, (l, l))
  every_list (B-Alt-L r) l = let x = every_list r l in (B-Alt-L x.0, ((l, gives_short r l), x.1))
  every_list (B-Alt-R r) l = let x = every_list r l in (B-Alt-R x.0, ((l, gives_short r l), x.1))
  every_list (B-Assert p) l = (B-Assert p, (l, l))
  every_list (B-Def m r) l = let x = every_list r l in (B-Def m x.0, ((l, gives_short r l), x.1))

  -- FOUND: an evaluation is among the search's events exactly if Fig. 3 derives it, at most so many rules high and with every list at most 256 goals.
  pub found↔within : UniqueRules T → UniqueDefinitions T → (i : ℕ) (t : Term) (g : List Goal) → length g ≤ 256 → (s : Term) (h : List Goal) → FoundIn (trace T i t g) s h ↔ EvaluatesWithin T i g t s h
  found↔within rules definitions i t g l s h = (λ m. every_list (found_evaluates T i t g s h m) l, λ e. evaluates_found T rules definitions (joined_fit e.0 e.1))
