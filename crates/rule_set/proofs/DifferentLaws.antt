-- How many different numbers there are depends on which there are, and is at most their bound and the length of the list: by taking a number out of a list.
-- Assumes nothing.
use mathlib.Core.Path.{◌≡◌, refl, sym, ap, ◌∙◌}
use mathlib.Core.Bool.{Bool, true, false, cond}
use mathlib.Core.List.{List, [], ◌∷◌}
use Prim.Native.Nat.{ℕ, zero, suc, ◌+◌, ◌≤◌, ◌<◌}
use native.Mathlib.Omega.{arith}
use lib.Dec.{eqb}
use lib.ListN.{length}
use borrow.Author.Tests.{eqb-true, eqb-false, eq-eqb, ne_eqb}
use Rattle.rule_set.specs.Different.{among, different}
use Rattle.rule_set.proofs.AmongLaws.{both, among_none, among_head, among-past, among_again}

-- 5, 7 and again 5 are two
example : different (5 ∷ (7 ∷ (5 ∷ []))) ≡ 2
unfolding among different
example = refl

-- a number in front of the others, which have it already or have it not
module _ (n : ℕ) (ns : List ℕ) where
  pub different_old : among n ns ≡ true → different (n ∷ ns) ≡ different ns
  unfolding different
  different_old h = rw h

  pub different_new : among n ns ≡ false → different (n ∷ ns) ≡ different ns + 1
  unfolding different
  different_new h = rw h

pub different_none : different [] ≡ 0
unfolding different
different_none = refl

pub different_short : (ns : List ℕ) → different ns ≤ length ns
different_short [] = omega (arith, different_none)
different_short (n ∷ ns) = go (different_short ns) (among n ns) refl
  where
    go : different ns ≤ length ns → (b : Bool) → among n ns ≡ b → different (n ∷ ns) ≤ length (n ∷ ns)
    go l true e = omega (arith, different_old n ns e)
    go l false e = omega (arith, different_new n ns e)

-- the list without a number
unfoldable without : ℕ → List ℕ → List ℕ
without k [] = []
without k (n ∷ ns) = cond (eqb k n) (without k ns) (n ∷ without k ns)

module _ (k n : ℕ) (ns : List ℕ) where
  without_here : k ≡ n → without k (n ∷ ns) ≡ without k ns
  unfolding without
  without_here e = rw (eq-eqb k n e)

  without_past : (k ≡ n → ⊥) → without k (n ∷ ns) ≡ n ∷ without k ns
  unfolding without
  without_past h = rw (ne_eqb k n h)

-- which numbers it has
among_without : (k n : ℕ) (ns : List ℕ) → (n ≡ k → ⊥) → among n (without k ns) ≡ among n ns
unfolding without
among_without k n [] h = refl
among_without k n (m ∷ ms) h = go (among_without k n ms h) (eqb k m) refl (eqb n m) refl
  where
    go : among n (without k ms) ≡ among n ms → (a : Bool) → eqb k m ≡ a → (b : Bool) → eqb n m ≡ b → among n (without k (m ∷ ms)) ≡ among n (m ∷ ms)
    go ih true p b q =
        let e = eqb-true k m p in
        ap (among n) (without_here k m ms e) ∙ ih ∙ sym (among-past n m ms (λ r. h (r ∙ sym e)))
    go ih false p true q =
        let e = eqb-true n m q in
        ap (among n) (without_past k m ms (eqb-false k m p)) ∙ among_head n m (without k ms) e ∙ sym (among_head n m ms e)
    go ih false p false q =
        let apart = eqb-false n m q in
        ap (among n) (without_past k m ms (eqb-false k m p)) ∙ among-past n m (without k ms) apart ∙ ih ∙ sym (among-past n m ms apart)

gone : (k : ℕ) (ns : List ℕ) → among k (without k ns) ≡ false
unfolding without
gone k [] = among_none k
gone k (m ∷ ms) = go (gone k ms) (eqb k m) refl
  where
    go : among k (without k ms) ≡ false → (b : Bool) → eqb k m ≡ b → among k (without k (m ∷ ms)) ≡ false
    go ih true e = ap (among k) (without_here k m ms (eqb-true k m e)) ∙ ih
    go ih false e = let h = eqb-false k m e in ap (among k) (without_past k m ms h) ∙ among-past k m (without k ms) h ∙ ih

-- and how many: one less if the number was there
abbrev one : Bool → ℕ
one b = cond b 1 0

different_without : (k : ℕ) (ns : List ℕ) → different ns ≡ different (without k ns) + one (among k ns)
unfolding without
different_without k [] = omega (arith, ap one (among_none k))
different_without k (n ∷ ns) = go (different_without k ns) (eqb k n) refl (among n ns) refl
  where
    go : different ns ≡ different (without k ns) + one (among k ns) → (a : Bool) → eqb k n ≡ a → (b : Bool) → among n ns ≡ b → different (n ∷ ns) ≡ different (without k (n ∷ ns)) + one (among k (n ∷ ns))
    go ih true p true q =
        let e = eqb-true k n p in
        omega (arith, different_old n ns q, ap different (without_here k n ns e), ap one (among_head k n ns e), ap one (ap (λ (x : ℕ). among x ns) e ∙ q))
    go ih true p false q =
        let e = eqb-true k n p in
        omega (arith, different_new n ns q, ap different (without_here k n ns e), ap one (among_head k n ns e), ap one (ap (λ (x : ℕ). among x ns) e ∙ q))
    go ih false p true q =
        let h = eqb-false k n p in
        omega (arith, different_old n ns q, ap different (without_past k n ns h), ap one (among-past k n ns h), different_old n (without k ns) (among_without k n ns (λ r. h (sym r)) ∙ q))
    go ih false p false q =
        let h = eqb-false k n p in
        omega (arith, different_new n ns q, ap different (without_past k n ns h), ap one (among-past k n ns h), different_new n (without k ns) (among_without k n ns (λ r. h (sym r)) ∙ q))

-- a list with no members
no_members : (ns : List ℕ) → ((n : ℕ) → among n ns ≡ false) → different ns ≡ 0
no_members [] h = different_none
no_members (m ∷ ms) h = absurd (both (among m (m ∷ ms)) (among_head m m ms refl) (h m))

pub different_same : (ms ns : List ℕ) → ((n : ℕ) → among n ms ≡ among n ns) → different ms ≡ different ns
different_same [] ns h = different_none ∙ sym (no_members ns (λ n. sym (h n) ∙ among_none n))
different_same (m ∷ ms) ns h = go (different_same ms) (among m ms) refl
  where
    there : among m ns ≡ true
    there = sym (h m) ∙ among_head m m ms refl

    rest : among m ms ≡ false → (n : ℕ) → among n ms ≡ among n (without m ns)
    rest lacks n = pick (eqb n m) refl
      where
        pick : (b : Bool) → eqb n m ≡ b → among n ms ≡ among n (without m ns)
        pick true e = let q = eqb-true n m e in ap (λ (x : ℕ). among x ms) q ∙ lacks ∙ sym (ap (λ (x : ℕ). among x (without m ns)) q ∙ gone m ns)
        pick false e = let a = eqb-false n m e in sym (among-past n m ms a) ∙ h n ∙ sym (among_without m n ns a)

    go : ((l : List ℕ) → ((n : ℕ) → among n ms ≡ among n l) → different ms ≡ different l) → (b : Bool) → among m ms ≡ b → different (m ∷ ms) ≡ different ns
    go ih true e = different_old m ms e ∙ ih ns (λ n. sym (among_again n m ms e) ∙ h n)
    go ih false e = omega (arith, different_new m ms e, ih (without m ns) (rest e), different_without m ns, ap one there)

-- at most as many as there are below a bound of theirs
pub different_below : (ns : List ℕ) (k : ℕ) → ((n : ℕ) → among n ns ≡ true → n < k) → different ns ≤ k
different_below ns zero h = omega (arith, no_members ns (λ n. none n (among n ns) refl))
  where
    none : (n : ℕ) (b : Bool) → among n ns ≡ b → among n ns ≡ false
    none n true e = absurd (omega (arith, h n e))
    none n false e = e
different_below ns (suc k) h = go (different_below (without k ns) k fewer) (among k ns) refl
  where
    fewer : (n : ℕ) → among n (without k ns) ≡ true → n < k
    fewer n e = pick (eqb n k) refl
      where
        pick : (b : Bool) → eqb n k ≡ b → n < k
        pick true q = absurd (both (among n (without k ns)) e (ap (λ (x : ℕ). among x (without k ns)) (eqb-true n k q) ∙ gone k ns))
        pick false q = let a = eqb-false n k q in omega (arith, a, h n (sym (among_without k n ns a) ∙ e))

    go : different (without k ns) ≤ k → (b : Bool) → among k ns ≡ b → different ns ≤ suc k
    go l true e = omega (arith, different_without k ns, ap one e)
    go l false e = omega (arith, different_without k ns, ap one e)
