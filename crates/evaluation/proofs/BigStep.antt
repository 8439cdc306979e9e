-- What Fig. 3 evaluates validates (the paper's Theorem 1), and what the deterministic rules prove is an evaluation no higher than the steps (its
-- Corollary 2): each by induction over the rules. So what a run proves evaluates and validates. Assumes nothing.
use Prim.Native.Nat.{ℕ, zero, suc, ◌+◌, ◌-◌, ◌≤◌}
use mathlib.Core.Path.{◌≡◌, subst}
use mathlib.Core.List.{List}
use native.Mathlib.Omega.{arith}
use native.Mathlib.Nat.{zero-add, suc-add}
use Rattle.format.specs.declared.values.Goal.{Goal}
use Rattle.format.specs.Terms.{Term}
use Rattle.tables.specs.Tables.{Table, HasRule, UniqueDefinitions}
use Rattle.hitac.specs.Validates.{AnyList, AtMost256, Validates, V-Atomic, V-Identity, V-Label, V-Sequence, V-Tensor, V-Empty}
use Rattle.evaluation.specs.Outcomes.{proved}
use Rattle.evaluation.specs.Machine.{Place, stopped, after, run, start}
use Rattle.evaluation.specs.Ends.{End, proof, failure, overflow, excess, Limit, NoProof, limited, FewHeld, holds, Ends, D-Atomic, D-Id, D-Empty, D-Assert, D-Label, D-Label-Inner, D-Seq, D-Seq-Left, D-Seq-Right, D-Tensor, D-Tensor-Left, D-Tensor-Right, D-Alt-L, D-Alt-R, D-Alt-Limit, D-Def}
use Rattle.evaluation.specs.EndingOf.{ending_of}
use Rattle.evaluation.specs.Evaluates.{Evaluates, B-Atomic, B-Id, B-Label, B-Seq, B-Tensor, B-Empty, B-Alt-L, B-Alt-R, B-Assert, B-Def}
use Rattle.evaluation.proofs.MachineTraced.{run_traced}

-- THEOREM 1 of the paper
pub evaluates_validates : {T : Table} {Fits : List Goal → Type 0} {i : ℕ} {g h : List Goal} {t s : Term} →
    Evaluates T Fits i g t s h → Validates (HasRule T) Fits s g h
evaluates_validates (B-Atomic m) = V-Atomic m
evaluates_validates B-Id = V-Identity
evaluates_validates (B-Label r) = V-Label (evaluates_validates r)
evaluates_validates (B-Seq r r') = V-Sequence (evaluates_validates r) (evaluates_validates r')
evaluates_validates (B-Tensor r r' h) = V-Tensor (evaluates_validates r) (evaluates_validates r') h
evaluates_validates B-Empty = V-Empty
evaluates_validates (B-Alt-L r) = evaluates_validates r
evaluates_validates (B-Alt-R r) = evaluates_validates r
evaluates_validates (B-Assert p) = V-Identity
evaluates_validates (B-Def m r) = evaluates_validates r

-- A weaker condition on the joined lists; so what holds under 256 holds in the paper.
pub evaluates_weaken : {T : Table} {Fits More : List Goal → Type 0} → ((g : List Goal) → Fits g → More g) →
    {i : ℕ} {g h : List Goal} {t s : Term} → Evaluates T Fits i g t s h → Evaluates T More i g t s h
evaluates_weaken w (B-Atomic m) = B-Atomic m
evaluates_weaken w B-Id = B-Id
evaluates_weaken w (B-Label r) = B-Label (evaluates_weaken w r)
evaluates_weaken w (B-Seq r r') = B-Seq (evaluates_weaken w r) (evaluates_weaken w r')
evaluates_weaken w (B-Tensor r r' h) = B-Tensor (evaluates_weaken w r) (evaluates_weaken w r') (w _ h)
evaluates_weaken w B-Empty = B-Empty
evaluates_weaken w (B-Alt-L r) = B-Alt-L (evaluates_weaken w r)
evaluates_weaken w (B-Alt-R r) = B-Alt-R (evaluates_weaken w r)
evaluates_weaken w (B-Assert p) = B-Assert p
evaluates_weaken w (B-Def m r) = B-Def m (evaluates_weaken w r)

higher_suc : {T : Table} {Fits : List Goal → Type 0} {i : ℕ} {g h : List Goal} {t s : Term} → Evaluates T Fits i g t s h → Evaluates T Fits (suc i) g t s h
higher_suc (B-Atomic m) = B-Atomic m
higher_suc B-Id = B-Id
higher_suc (B-Label r) = B-Label (higher_suc r)
higher_suc (B-Seq r r') = B-Seq (higher_suc r) (higher_suc r')
higher_suc (B-Tensor r r' h) = B-Tensor (higher_suc r) (higher_suc r') h
higher_suc B-Empty = B-Empty
higher_suc (B-Alt-L r) = B-Alt-L (higher_suc r)
higher_suc (B-Alt-R r) = B-Alt-R (higher_suc r)
higher_suc (B-Assert p) = B-Assert p
higher_suc (B-Def m r) = B-Def m (higher_suc r)

higher_add : {T : Table} {Fits : List Goal → Type 0} {i : ℕ} {g h : List Goal} {t s : Term} (j : ℕ) → Evaluates T Fits i g t s h →
    Evaluates T Fits (j + i) g t s h
higher_add zero r = rw zero-add r
higher_add (suc j) r = rw suc-add (higher_suc (higher_add j r))

-- An evaluation of some height is one of every greater height.
pub evaluates_higher : {T : Table} {Fits : List Goal → Type 0} {i j : ℕ} {g h : List Goal} {t s : Term} → i ≤ j → Evaluates T Fits i g t s h →
    Evaluates T Fits j g t s h
evaluates_higher {T} {Fits} {i} {j} {g} {h} {t} {s} l r =
    let p : j - i + i ≡ j = omega arith in subst (λ (x : ℕ). Evaluates T Fits x g t s h) p (higher_add (j - i) r)

no_limit : {s : Term} {h : List Goal} → Limit (proof s h) → ⊥
no_limit x = elim x [ ]

pub no_proof : {s : Term} {h : List Goal} → NoProof (proof s h) → ⊥
no_proof (limited x) = no_limit x

-- A proof of the deterministic rules is an evaluation of Fig. 3, no higher than the steps.
pub ends_evaluates : {T : Table} {MayHold : ℕ → Type 0} {k : ℕ} {g h : List Goal} {t s : Term} {n : ℕ} → Ends T MayHold k g t n (proof s h) → Evaluates T AtMost256 n g t s h
ends_evaluates (D-Atomic m (holds l)) = B-Atomic m
ends_evaluates (D-Id (holds l)) = B-Id
ends_evaluates (D-Empty (holds l)) = B-Empty
ends_evaluates (D-Assert p (holds l)) = B-Assert p
ends_evaluates (D-Label r (holds l)) = B-Label (ends_evaluates r)
ends_evaluates (D-Label-Inner r x) = absurd (no_proof x)
ends_evaluates (D-Seq {n = n} {m = m} r r' (holds l)) =
    B-Seq {i = n + m} (evaluates_higher (omega arith) (ends_evaluates r)) (evaluates_higher (omega arith) (ends_evaluates r'))
ends_evaluates (D-Seq-Left r x) = absurd (no_proof x)
ends_evaluates (D-Seq-Right r r' x) = absurd (no_proof x)
ends_evaluates (D-Tensor {n = n} {m = m} a b r r' j (holds l)) =
    B-Tensor {i = n + m} (evaluates_higher (omega arith) (ends_evaluates r)) (evaluates_higher (omega arith) (ends_evaluates r')) j
ends_evaluates (D-Tensor-Left g₂ a b r x) = absurd (no_proof x)
ends_evaluates (D-Tensor-Right a b r r' x) = absurd (no_proof x)
ends_evaluates (D-Alt-L r) = B-Alt-L (ends_evaluates r)
ends_evaluates (D-Alt-Limit r x) = absurd (no_limit x)
ends_evaluates (D-Alt-R {n = n} {m = m} r r') = B-Alt-R {i = n + m} (evaluates_higher (omega arith) (ends_evaluates r'))
ends_evaluates (D-Def m r) = B-Def m (ends_evaluates r)

-- Without any limit, as in the paper.
pub ends_evaluates_freely : {T : Table} {MayHold : ℕ → Type 0} {k : ℕ} {g h : List Goal} {t s : Term} {n : ℕ} → Ends T MayHold k g t n (proof s h) → Evaluates T AnyList n g t s h
ends_evaluates_freely r = evaluates_weaken (λ x l. tt) (ends_evaluates r)

module _ (T : Table) (unique : UniqueDefinitions T) (b : ℕ) (π : Place) (t : Term) (g : List Goal) {n : ℕ} {s : Term} {h : List Goal}
    (q : run T b (start π t g) ≡ after n (stopped (proved s h))) where
  run_proof : Ends T FewHeld 0 g t n (proof s h)
  run_proof = let (e, r, p, l) = run_traced T unique b π t g n (proved s h) q in go e p r
    where
      go : (e : End) → ending_of e ≡ proved s h → Ends T FewHeld 0 g t n e → Ends T FewHeld 0 g t n (proof s h)
      go (proof s' h') p r = let c : proof s' h' ≡ proof s h = cc in subst (Ends T FewHeld 0 g t n) c r
      go failure p r = let z : ◌≡◌ {A = ℕ} 0 1 = cc in absurd (omega arith)
      go overflow p r = let z : ◌≡◌ {A = ℕ} 0 1 = cc in absurd (omega arith)
      go excess p r = let z : ◌≡◌ {A = ℕ} 0 1 = cc in absurd (omega arith)

  -- RUN EVALUATES (Corollary 2): a run that proves is an evaluation with no joined list over 256, no higher than its steps,
  pub run_evaluates : Evaluates T AtMost256 n g t s h
  run_evaluates = ends_evaluates run_proof

  -- and so one of the paper, which has no limit.
  pub run_evaluates_freely : Evaluates T AnyList n g t s h
  run_evaluates_freely = ends_evaluates_freely run_proof

  -- RUN VALIDATES: what a run proves validates.
  pub run_validates : Validates (HasRule T) AtMost256 s g h
  run_validates = evaluates_validates run_evaluates
