-- More unfoldings give no other arity, and as many as there are definitions give all that any number gives: each further unfolding gives a further
-- definition its arity, or nothing more comes. Assumes nothing.
use Prim.Native.Nat.{ℕ, zero, suc, ◌+◌, ◌≤◌}
use mathlib.Core.Path.{◌≡◌, refl, sym, ◌∙◌, subst}
use mathlib.Core.Bool.{Bool, true, false, cond}
use mathlib.Core.List.{List, [], ◌∷◌}
use mathlib.Core.Option.{Option, none, some, none-ne-some}
use mathlib.Core.Logic.{◌⊎◌, inl, inr}
use native.Mathlib.Omega.{arith}
use native.Mathlib.Nat.{zero-add, suc-add, add_comm}
use native.Mathlib.Decide.{dec_le}
use lib.ListN.{length}
use Rattle.format.specs.declared.values.TacticNo.{TacticNo}
use Rattle.format.specs.Terms.{Term, atomic, id, label, sequence, tensor, empty, alternation, assert, defined}
use Rattle.tables.specs.Tables.{Definition, Table}
use Rattle.tables.specs.Lookup.{same_tactic, find_body_in}
use Rattle.tables.proofs.BodyLookup.{same_tactic_lem}
use Rattle.evaluation.specs.TacticArity.{from_both, arity_in, body_arity, arity_after, tactic_arity}

-- whatever the first gives, the second gives
abbrev pub Within {ℓ} : {A : Type ℓ} → (A → Option ℕ) → (A → Option ℕ) → Type ℓ
Within {A} ρ σ = (t : A) (n : ℕ) → ρ t ≡ some n → σ t ≡ some n

both_within : (f : ℕ → ℕ → Option ℕ) (a b a' b' : Option ℕ) → ((n : ℕ) → a ≡ some n → a' ≡ some n) → ((n : ℕ) → b ≡ some n → b' ≡ some n) →
    (n : ℕ) → from_both f a b ≡ some n → from_both f a' b' ≡ some n
both_within f none b a' b' p q n e = absurd (none-ne-some n e)
both_within f (some x) none a' b' p q n e = absurd (none-ne-some n e)
both_within f (some x) (some y) a' b' p q n e = rw (p x refl, q y refl) e

pub arity_in-within : {ρ σ : TacticNo → Option ℕ} → Within ρ σ → Within (arity_in ρ) (arity_in σ)
unfolding arity_in
arity_in-within h (atomic a) n e = e
arity_in-within h id n e = e
arity_in-within h (label l t) n e = e
arity_in-within h (sequence t u) n e = arity_in-within h t n e
arity_in-within {ρ} {σ} h (tensor t u) n e =
    both_within _ (arity_in ρ t) (arity_in ρ u) (arity_in σ t) (arity_in σ u) (arity_in-within h t) (arity_in-within h u) n e
arity_in-within h empty n e = e
arity_in-within {ρ} {σ} h (alternation t u) n e =
    both_within _ (arity_in ρ t) (arity_in ρ u) (arity_in σ t) (arity_in σ u) (arity_in-within h t) (arity_in-within h u) n e
arity_in-within h (assert γ) n e = e
arity_in-within h (defined d) n e = h d n e

body_within : {ρ σ : TacticNo → Option ℕ} → Within ρ σ → Within (body_arity ρ) (body_arity σ)
body_within h none n e = absurd (none-ne-some n e)
body_within h (some t) n e = arity_in-within h t n e

-- how many of the definitions' tactics have an arity
present : Option ℕ → ℕ
present none = 0
present (some n) = 1

count : (TacticNo → Option ℕ) → List Definition → ℕ
count ρ [] = 0
count ρ (x ∷ ds) = present (ρ x.tactic) + count ρ ds

present_le : (a : Option ℕ) → present a ≤ 1
unfolding present
present_le none = omega arith
present_le (some n) = omega arith

present_mono : (a b : Option ℕ) → ((n : ℕ) → a ≡ some n → b ≡ some n) → present a ≤ present b
unfolding present
present_mono none none f = omega arith
present_mono none (some y) f = omega arith
present_mono (some x) none f = absurd (none-ne-some x (f x refl))
present_mono (some x) (some y) f = omega arith

present_tight : (a b : Option ℕ) → ((n : ℕ) → a ≡ some n → b ≡ some n) → present b ≤ present a → (n : ℕ) → b ≡ some n → a ≡ some n
unfolding present
present_tight none none f h n e = absurd (none-ne-some n e)
present_tight none (some y) f h n e = absurd (omega arith)
present_tight (some x) none f h n e = absurd (none-ne-some n e)
present_tight (some x) (some y) f h n e = sym (f x refl) ∙ e

count_le : (ρ : TacticNo → Option ℕ) (ds : List Definition) → count ρ ds ≤ length ds
unfolding count
count_le ρ [] = omega arith
count_le ρ (x ∷ ds) = omega (arith, present_le (ρ x.tactic), count_le ρ ds)

count_mono : {ρ σ : TacticNo → Option ℕ} → Within ρ σ → (ds : List Definition) → count ρ ds ≤ count σ ds
unfolding count
count_mono h [] = omega arith
count_mono {ρ} {σ} h (x ∷ ds) = omega (arith, present_mono (ρ x.tactic) (σ x.tactic) (h x.tactic), count_mono h ds)

-- as many with an arity, so the same ones
count_tight : {ρ σ : TacticNo → Option ℕ} → Within ρ σ → (ds : List Definition) → count σ ds ≤ count ρ ds →
    (d : TacticNo) (u : Term) → find_body_in ds d ≡ some u → (n : ℕ) → σ d ≡ some n → ρ d ≡ some n
unfolding count find_body_in
count_tight h [] c d u b n e = absurd (none-ne-some u b)
count_tight {ρ} {σ} h (x ∷ ds) c d u b n e = go (same_tactic d x.tactic) refl b (λ r b'. count_tight h ds r d u b' n e)
  where
    first : present (σ x.tactic) ≤ present (ρ x.tactic)
    first = omega (arith, count_mono h ds)

    rest : count σ ds ≤ count ρ ds
    rest = omega (arith, present_mono (ρ x.tactic) (σ x.tactic) (h x.tactic))

    go : (t : Bool) → same_tactic d x.tactic ≡ t → cond t (some x.body) (find_body_in ds d) ≡ some u →
        (count σ ds ≤ count ρ ds → find_body_in ds d ≡ some u → ρ d ≡ some n) → ρ d ≡ some n
    go true q b' ih =
        let p : d ≡ x.tactic = same_tactic_lem d x.tactic q in
        subst (λ y. ρ y ≡ some n) (sym p)
        (present_tight (ρ x.tactic) (σ x.tactic) (h x.tactic) first n (subst (λ y. σ y ≡ some n) p e))
    go false q b' ih = ih rest b'

pub same_arity : (a b : Option ℕ) → ((n : ℕ) → a ≡ some n → b ≡ some n) → ((n : ℕ) → b ≡ some n → a ≡ some n) → a ≡ b
same_arity none none f g = refl
same_arity none (some y) f g = g y refl
same_arity (some x) b f g = sym (f x refl)

module _ (ds : List Definition) where
  suc_within : (j k : ℕ) → Within (arity_after j ds) (arity_after k ds) → Within (arity_after (suc j) ds) (arity_after (suc k) ds)
  unfolding arity_after
  suc_within j k h d n e = body_within h (find_body_in ds d) n e

  -- more unfoldings, same arity
  pub after_suc : (k : ℕ) → Within (arity_after k ds) (arity_after (suc k) ds)
  unfolding arity_after
  after_suc zero d n e = absurd (none-ne-some n e)
  after_suc (suc k) d n e = suc_within k (suc k) (after_suc k) d n e

  after_add : (k j : ℕ) → Within (arity_after k ds) (arity_after (j + k) ds)
  after_add k zero d n e = rw zero-add e
  after_add k (suc j) d n e = rw suc-add (after_suc (j + k) d n (after_add k j d n e))

  -- no further arity comes with one more unfolding
  Stable : ℕ → Type 0
  Stable k = Within (arity_after (suc k) ds) (arity_after k ds)

  -- an arity that an unfolding gives is a definition's
  pub has_body : (k : ℕ) (d : TacticNo) (n : ℕ) → arity_after (suc k) ds d ≡ some n → (u : Term) × (find_body_in ds d ≡ some u)
  unfolding arity_after
  has_body k d n e = go (find_body_in ds d) refl e
    where
      go : (o : Option Term) → find_body_in ds d ≡ o → body_arity (arity_after k ds) o ≡ some n → (u : Term) × (find_body_in ds d ≡ some u)
      go none q b = absurd (none-ne-some n b)
      go (some u) q b = (u, q)

  stable_of_count : (k : ℕ) → count (arity_after (suc k) ds) ds ≤ count (arity_after k ds) ds → Stable k
  unfolding Stable
  stable_of_count k h d n e = let b = has_body k d n e in count_tight (after_suc k) ds h d b.0 b.1 n e

  stable_suc : (k : ℕ) → Stable k → Stable (suc k)
  unfolding Stable
  stable_suc k h = suc_within (suc k) k h

  -- every unfolding gives a further definition its arity, or there is nothing more to give
  counts : (k : ℕ) → (k ≤ count (arity_after k ds) ds) ⊎ Stable k
  counts zero = inl (omega arith)
  counts (suc k) = go (counts k) (dec_le (count (arity_after (suc k) ds) ds) (count (arity_after k ds) ds))
    where
      go : ((k ≤ count (arity_after k ds) ds) ⊎ Stable k) → Dec (count (arity_after (suc k) ds) ds ≤ count (arity_after k ds) ds) →
          (suc k ≤ count (arity_after (suc k) ds) ds) ⊎ Stable (suc k)
      go (inr s) h = inr (stable_suc k s)
      go (inl c) (yes h) = inr (stable_suc k (stable_of_count k h))
      go (inl c) (no h) = inl (omega arith)

  stable_at_length : Stable (length ds)
  stable_at_length = go (counts (length ds))
    where
      go : ((length ds ≤ count (arity_after (length ds) ds) ds) ⊎ Stable (length ds)) → Stable (length ds)
      go (inl c) = stable_of_count (length ds) (omega (arith, count_le (arity_after (suc (length ds)) ds) ds))
      go (inr s) = s

  stays : (j : ℕ) → Within (arity_after (j + length ds) ds) (arity_after (length ds) ds)
  unfolding Stable
  stays zero d n e = rw zero-add at e
  stays (suc j) d n e = stable_at_length d n (suc_within (j + length ds) (length ds) (stays j) d n (rw suc-add at e))

  -- any number of unfoldings gives no more than as many as there are definitions
  pub after-length : (k : ℕ) → Within (arity_after k ds) (arity_after (length ds) ds)
  after-length k d n e = stays k d n (rw add_comm (after_add k (length ds) d n e))

  -- so that number of unfoldings is a fixed point of the definitions
  pub after_fixed : (d : TacticNo) → arity_after (length ds) ds d ≡ body_arity (arity_after (length ds) ds) (find_body_in ds d)
  unfolding arity_after Stable
  after_fixed d =
      same_arity (arity_after (length ds) ds d) (arity_after (suc (length ds)) ds d) (after_suc (length ds) d) (stable_at_length d)

  -- for a table of arities that is updated in place: an entry found from entries that are right is right
  pub after_update : (ρ : TacticNo → Option ℕ) → Within ρ (arity_after (length ds) ds) →
      Within (λ d. body_arity ρ (find_body_in ds d)) (arity_after (length ds) ds)
  after_update ρ h d n e = rw after_fixed (body_within h (find_body_in ds d) n e)

-- Any number of unfoldings gives no more than tactic_arity.
pub arity_all : (T : Table) (k : ℕ) → Within (arity_in (arity_after k T.definitions)) (tactic_arity T)
unfolding tactic_arity
arity_all T k = arity_in-within (after-length T.definitions k)
