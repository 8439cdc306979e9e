-- An arity that is computed is derived by the paper's rules, and at most 256: by induction over the term, under any number of unfoldings.
-- Assumes nothing.
use Prim.Native.Nat.{ℕ, zero, suc, ◌+◌, ◌≤◌}
use mathlib.Core.Path.{◌≡◌, refl, ap, ◌∙◌, subst}
use mathlib.Core.Bool.{Bool, true, false, cond}
use mathlib.Core.Option.{Option, none, some, none-ne-some}
use native.Mathlib.Omega.{arith}
use lib.Dec.{eqb}
use lib.ListN.{length}
use borrow.Author.Tests.{leb-true, eqb-true}
use Rattle.format.specs.declared.values.TacticNo.{TacticNo}
use Rattle.format.specs.Terms.{Term, atomic, id, label, sequence, tensor, empty, alternation, assert, defined}
use Rattle.tables.specs.Tables.{Table}
use Rattle.tables.specs.Lookup.{find_body}
use Rattle.tables.proofs.BodyLookup.{body_member}
use Rattle.evaluation.specs.TacticArity.{from_both, arity_counts, arity_in, body_arity, arity_after, tactic_arity}
use Rattle.hitac.specs.Arity.{Arity, A-Atomic, A-Id, A-Label, A-Seq, A-Tensor, A-Empty, A-Alt, A-Assert, A-Def}

-- an arity made of those of both sides comes from one of each
from_both_lem : (f : ℕ → ℕ → Option ℕ) (a b : Option ℕ) (n : ℕ) → from_both f a b ≡ some n → (x y : ℕ) × (a ≡ some x) × (b ≡ some y) × (f x y ≡ some n)
from_both_lem f none b n e = absurd (none-ne-some n e)
from_both_lem f (some x) none n e = absurd (none-ne-some n e)
from_both_lem f (some x) (some y) n e = (x, y, refl, refl, e)

if_so : (c : Bool) (x n : ℕ) → cond c (some x) none ≡ some n → (c ≡ true) × (x ≡ n)
if_so true x n e = (refl, (cc))
if_so false x n e = absurd (none-ne-some n e)

module _ (T : Table) where
  -- an arity that the rules derive, within the limit
  abbrev Derived : Term → ℕ → Type 0
  Derived t n = Arity T t n × (n ≤ 256)

  module _ (ρ : TacticNo → Option ℕ) (known : (d : TacticNo) (n : ℕ) → ρ d ≡ some n → Derived (defined d) n) where
    derived_in : (t : Term) (n : ℕ) → arity_in ρ t ≡ some n → Derived t n
    unfolding arity_in
    derived_in (atomic a) n e = let p : 1 ≡ n = cc in (subst (Arity T (atomic a)) p A-Atomic, omega arith)
    derived_in id n e = let p : 1 ≡ n = cc in (subst (Arity T id) p A-Id, omega arith)
    derived_in (label l t) n e = let p : 1 ≡ n = cc in (subst (Arity T (label l t)) p A-Label, omega arith)
    derived_in (sequence t u) n e = let r = derived_in t n e in (A-Seq r.0, r.1)
    derived_in (tensor t u) n e =
        let (x, y, p, q, f) = from_both_lem _ (arity_in ρ t) (arity_in ρ u) n e in
        let (l, c) = if_so (arity_counts (x + y)) (x + y) n f in
        (subst (Arity T (tensor t u)) c (A-Tensor (derived_in t x p).0 (derived_in u y q).0), omega (arith, leb-true))
    derived_in empty n e = let p : 0 ≡ n = cc in (subst (Arity T empty) p A-Empty, omega arith)
    derived_in (alternation t u) n e =
        let (x, y, p, q, f) = from_both_lem _ (arity_in ρ t) (arity_in ρ u) n e in
        let (l, c) = if_so (eqb x y) x n f in
        let d : y ≡ n = omega (arith, eqb-true) in
        let r = derived_in t n (p ∙ ap some c) in
        (A-Alt r.0 (derived_in u n (q ∙ ap some d)).0, r.1)
    derived_in (assert γ) n e = let p : 1 ≡ n = cc in (subst (Arity T (assert γ)) p A-Assert, omega arith)
    derived_in (defined d) n e = known d n e

  derived_after : (k : ℕ) (d : TacticNo) (n : ℕ) → arity_after k T.definitions d ≡ some n → Derived (defined d) n
  unfolding arity_after find_body
  derived_after zero d n e = absurd (none-ne-some n e)
  derived_after (suc k) d n e = go (find_body T d) refl e (derived_in (arity_after k T.definitions) (derived_after k))
    where
      go : (o : Option Term) → find_body T d ≡ o → body_arity (arity_after k T.definitions) o ≡ some n →
          ((t : Term) (m : ℕ) → arity_in (arity_after k T.definitions) t ≡ some m → Derived t m) → Derived (defined d) n
      go none q b ih = absurd (none-ne-some n b)
      go (some t) q b ih = let r = ih t n b in (A-Def (body_member T d t q) r.0, r.1)

  -- A computed arity is one of the paper's.
  pub tactic_arity_sound : (t : Term) (n : ℕ) → tactic_arity T t ≡ some n → Arity T t n × (n ≤ 256)
  unfolding tactic_arity
  tactic_arity_sound = derived_in (arity_after (length T.definitions) T.definitions) (derived_after (length T.definitions))
