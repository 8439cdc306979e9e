-- A hiproof runs as it checks: by induction over Fig. 2 each of its rules is a deterministic rule that leaves the term's own field, one step for each
-- field; and by induction over the deterministic rules there is no other proof of a hiproof. Assumes nothing.
use Prim.Native.Nat.{ℕ, ◌+◌, ◌≤◌}
use mathlib.Core.Path.{◌≡◌, refl, sym, ap, ap₂, subst}
use mathlib.Core.Logic.{◌↔◌}
use mathlib.Core.List.{List}
use native.Mathlib.Omega.{arith}
use lib.ListN.{length, length-append}
use Rattle.format.specs.declared.values.Goal.{Goal}
use Rattle.format.specs.Terms.{Term, label, sequence, tensor, fields, Hiproof}
use Rattle.tables.specs.Tables.{Table, HasRule, UniqueRules, UniqueDefinitions}
use Rattle.hitac.specs.Arity.{Arity}
use Rattle.hitac.specs.Validates.{AtMost256, Validates, V-Atomic, V-Identity, V-Label, V-Sequence, V-Tensor, V-Empty}
use Rattle.evaluation.specs.Ends.{proof, FewHeld, holds, D-Alt-Limit, Ends, D-Atomic, D-Id, D-Empty, D-Assert, D-Label, D-Label-Inner, D-Seq, D-Seq-Left, D-Seq-Right, D-Tensor, D-Tensor-Left, D-Tensor-Right, D-Alt-L, D-Alt-R, D-Def}
use Rattle.evaluation.specs.Outcomes.{proved}
use Rattle.evaluation.specs.Machine.{Place, stopped, after, run, start}
use Rattle.hitac.specs.Premises.{FewPremises}
use Rattle.hitac.proofs.ValidatesLaws.{validates_hiproof, arity_of, validates_length}
use Rattle.evaluation.proofs.ArityMeaning.{arity↔input_arity}
use Rattle.evaluation.proofs.MachineMeaning.{run↔ends}
use Rattle.evaluation.proofs.BigStep.{no_proof, evaluates_validates, ends_evaluates}

-- What validates has the arity of its goals.
pub validates_arity : {T : Table} {s : Term} {g h : List Goal} → Validates (HasRule T) AtMost256 s g h → Arity T s (length g)
validates_arity {T} {s} {g} v = (arity↔input_arity T s (length g) (validates_hiproof v)).1 (arity_of v)

-- the same end with its steps written otherwise
counted : {T : Table} {k : ℕ} {g h : List Goal} {t s : Term} {n m : ℕ} → n ≡ m → Ends T FewHeld k g t n (proof s h) → Ends T FewHeld k g t m (proof s h)
counted {T} {k} {g} {h} {t} {s} p r = subst (λ (x : ℕ). Ends T FewHeld k g t x (proof s h)) p r

module _ (T : Table) (few : FewPremises T) where
  given_short : {s : Term} {g h : List Goal} → Validates (HasRule T) AtMost256 s g h → length h ≤ 256
  given_short v = validates_length (λ a γ h m. omega (arith, few a γ h m)) v

  -- while so many fields are held that the hiproof's own can be held too
  validates_ends : {s : Term} {g h : List Goal} → Validates (HasRule T) AtMost256 s g h → length g ≤ 256 → (k : ℕ) → k + fields s ≤ 4096 → Ends T FewHeld k g s (fields s) (proof s h)
  unfolding fields
  validates_ends (V-Atomic m) l k c = D-Atomic m (holds c)
  validates_ends V-Identity l k c = D-Id (holds c)
  validates_ends (V-Label v) l k c = counted (omega arith) (D-Label (validates_ends v l k (omega (arith, c))) (holds c))
  validates_ends (V-Sequence v w) l k c = counted (omega arith) (D-Seq (validates_ends v l k (omega (arith, c))) (validates_ends w (given_short v) _ (omega (arith, c))) (holds c))
  validates_ends (V-Tensor {g₁ = g₁} {g₂ = g₂} v w j) l k c =
      let p : length g₁ ≤ 256 = omega (arith, length-append g₁ g₂, l) in
      let q : length g₂ ≤ 256 = omega (arith, length-append g₁ g₂, l) in
      counted (omega arith) (D-Tensor (validates_arity v) p (validates_ends v p k (omega (arith, c))) (validates_ends w q _ (omega (arith, c))) j (holds c))
  validates_ends V-Empty l k c = D-Empty (holds c)

-- A hiproof proves itself alone, and each of its fields is one step.
ends_itself : {T : Table} {MayHold : ℕ → Type 0} {k : ℕ} {g h : List Goal} {s r : Term} {n : ℕ} → Ends T MayHold k g s n (proof r h) → Hiproof s → (r ≡ s) × (n ≡ fields s)
unfolding fields Hiproof
ends_itself (D-Atomic m (holds z)) p = (refl, refl)
ends_itself (D-Id (holds z)) p = (refl, refl)
ends_itself (D-Empty (holds z)) p = (refl, refl)
ends_itself (D-Assert q (holds z)) p = absurd p
ends_itself (D-Label {l = l} d (holds z)) p = let (c, k) = ends_itself d p in (ap (label l) c, omega arith)
ends_itself (D-Label-Inner d x) p = absurd (no_proof x)
ends_itself (D-Seq d d' (holds z)) p =
    let (c, k) = ends_itself d p.0 in let (c', k') = ends_itself d' p.1 in (ap₂ sequence c c', omega arith)
ends_itself (D-Seq-Left d x) p = absurd (no_proof x)
ends_itself (D-Seq-Right d d' x) p = absurd (no_proof x)
ends_itself (D-Tensor a b d d' j (holds z)) p =
    let (c, k) = ends_itself d p.0 in let (c', k') = ends_itself d' p.1 in (ap₂ tensor c c', omega arith)
ends_itself (D-Tensor-Left g₂ a b d x) p = absurd (no_proof x)
ends_itself (D-Tensor-Right a b d d' x) p = absurd (no_proof x)
ends_itself (D-Alt-L d) p = absurd p
ends_itself (D-Alt-R d d') p = absurd p
ends_itself (D-Alt-Limit d x) p = absurd p
ends_itself (D-Def m d) p = absurd p

-- HIPROOF RUNS: on at most 256 goals a hiproof ends in a proof exactly as it validates; the proof is the hiproof, and its fields are the steps.
pub hiproof↔validates : (T : Table) → FewPremises T → (s : Term) → Hiproof s → (g h : List Goal) → length g ≤ 256 → fields s ≤ 4096 → (r : Term) (n : ℕ) →
    Ends T FewHeld 0 g s n (proof r h) ↔ ((r ≡ s) × (n ≡ fields s) × Validates (HasRule T) AtMost256 s g h)
hiproof↔validates T few s p g h l m r n = (
  (λ d.
      let (c, k) = ends_itself d p in
      (c, k, subst (λ (x : Term). Validates (HasRule T) AtMost256 x g h) c (evaluates_validates (ends_evaluates d)))),
  (λ w.
      let d : Ends T FewHeld 0 g s n (proof s h) = counted (sym w.1) (validates_ends T few w.2 l 0 (omega (arith, m))) in
      subst (λ (x : Term). Ends T FewHeld 0 g s n (proof x h)) (sym w.0) d),
)

-- In the machine: a hiproof that validates is what its run gives, after as many steps as it has fields.
pub hiproof_run : (T : Table) → UniqueRules T → UniqueDefinitions T → FewPremises T → {s : Term} {g h : List Goal} →
    Validates (HasRule T) AtMost256 s g h → length g ≤ 256 → (b : ℕ) (π : Place) → fields s ≤ b → fields s ≤ 4096 → run T b (start π s g) ≡ after (fields s) (stopped (proved s h))
hiproof_run T rules definitions few {s} {g} {h} v l b π c m = (run↔ends T rules definitions π s g b (fields s) (proof s h)).1 (validates_ends T few v l 0 (omega (arith, m)), c)
