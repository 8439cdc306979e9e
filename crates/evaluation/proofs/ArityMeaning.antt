-- The computed arity is the paper's, up to 256: a derivation of it is followed by the fixed point that the unfoldings reach (the other direction stands
-- in ArityDerived). The arity of a hiproof is its input arity. Assumes nothing.
use Prim.Native.Nat.{ℕ, ◌+◌, ◌≤◌}
use mathlib.Core.Path.{◌≡◌, refl, sym, ap₂, ◌∙◌, subst}
use mathlib.Core.Bool.{Bool, true, false}
use mathlib.Core.Logic.{◌↔◌}
use mathlib.Core.Option.{some}
use native.Mathlib.Omega.{arith}
use borrow.Author.Tests.{leb-false, eq-eqb}
use Rattle.format.specs.Terms.{Term, atomic, id, label, sequence, tensor, empty, alternation, assert, defined, Hiproof}
use Rattle.tables.specs.Tables.{Table, UniqueDefinitions}
use Rattle.tables.specs.Lookup.{find_body}
use Rattle.tables.proofs.BodyLookup.{found↔definition}
use Rattle.hitac.specs.Hiproofs.{input_arity}
use Rattle.evaluation.specs.TacticArity.{arity_counts, arity_in, tactic_arity}
use Rattle.hitac.specs.Arity.{Arity, A-Atomic, A-Id, A-Label, A-Seq, A-Tensor, A-Empty, A-Alt, A-Assert, A-Def}
use Rattle.evaluation.proofs.UnfoldingLaws.{after_fixed}
use Rattle.evaluation.proofs.ArityDerived.{tactic_arity_sound}

counts : (n : ℕ) → n ≤ 256 → arity_counts n ≡ true
counts n h = go (arity_counts n) refl
  where
    go : (x : Bool) → arity_counts n ≡ x → x ≡ true
    go true q = refl
    go false q = absurd (omega (arith, leb-false))

module _ (T : Table) where
  module _ (unique : UniqueDefinitions T) where
    -- an arity of the paper's of at most 256 is computed
    pub tactic_arity_complete : {t : Term} {n : ℕ} → Arity T t n → n ≤ 256 → tactic_arity T t ≡ some n
    unfolding tactic_arity arity_in find_body
    tactic_arity_complete A-Atomic h = refl
    tactic_arity_complete A-Id h = refl
    tactic_arity_complete A-Label h = refl
    tactic_arity_complete (A-Seq r) h = tactic_arity_complete r h
    tactic_arity_complete (A-Tensor {n = n} {m = m} r r') h =
        rw (tactic_arity_complete r (omega arith), tactic_arity_complete r' (omega arith), counts (n + m) h)
    tactic_arity_complete A-Empty h = refl
    tactic_arity_complete (A-Alt {n = n} r r') h = rw (tactic_arity_complete r h, tactic_arity_complete r' h, eq-eqb n n refl)
    tactic_arity_complete A-Assert h = refl
    tactic_arity_complete (A-Def {d = d} {t = t} m r) h =
        after_fixed T.definitions d ∙ rw ((found↔definition T d unique t).1 m) (tactic_arity_complete r h)

    -- ARITY: the computed arity of a tactic is the paper's, up to 256.
    pub arity↔computed : (t : Term) (n : ℕ) → (tactic_arity T t ≡ some n) ↔ (Arity T t n × (n ≤ 256))
    arity↔computed t n = (tactic_arity_sound T t n, λ r. tactic_arity_complete r.0 r.1)

  hiproof_arity : (s : Term) → Hiproof s → Arity T s (input_arity s)
  unfolding Hiproof input_arity
  hiproof_arity (atomic a) h = A-Atomic
  hiproof_arity id h = A-Id
  hiproof_arity (label l s) h = A-Label
  hiproof_arity (sequence s t) h = A-Seq (hiproof_arity s h.0)
  hiproof_arity (tensor s t) h = A-Tensor (hiproof_arity s h.0) (hiproof_arity t h.1)
  hiproof_arity empty h = A-Empty
  hiproof_arity (alternation s t) h = absurd h
  hiproof_arity (assert γ) h = absurd h
  hiproof_arity (defined d) h = absurd h

  arity_hiproof : {s : Term} {n : ℕ} → Arity T s n → Hiproof s → n ≡ input_arity s
  unfolding Hiproof input_arity
  arity_hiproof A-Atomic h = refl
  arity_hiproof A-Id h = refl
  arity_hiproof A-Label h = refl
  arity_hiproof (A-Seq r) h = arity_hiproof r h.0
  arity_hiproof (A-Tensor r r') h = ap₂ ◌+◌ (arity_hiproof r h.0) (arity_hiproof r' h.1)
  arity_hiproof A-Empty h = refl
  arity_hiproof (A-Alt r r') h = absurd h
  arity_hiproof A-Assert h = absurd h
  arity_hiproof (A-Def m r) h = absurd h

  -- HIPROOF: the arity of a hiproof is its input arity.
  pub arity↔input_arity : (s : Term) (n : ℕ) → Hiproof s → Arity T s n ↔ (n ≡ input_arity s)
  arity↔input_arity s n h = (λ r. arity_hiproof r h, λ e. subst (Arity T s) (sym e) (hiproof_arity s h))

  -- So the computed arity of a hiproof is its input arity, up to 256.
  pub hiproof↔computed : UniqueDefinitions T → (s : Term) (n : ℕ) → Hiproof s → (tactic_arity T s ≡ some n) ↔ ((n ≡ input_arity s) × (n ≤ 256))
  hiproof↔computed unique s n h = (
    (λ e. let r = tactic_arity_sound T s n e in ((arity↔input_arity s n h).0 r.0, r.1)),
    (λ r. tactic_arity_complete unique ((arity↔input_arity s n h).1 r.0) r.1),
  )
