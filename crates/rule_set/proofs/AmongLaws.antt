-- A number is one of a list: at the head, behind it, in two lists joined, and as membership.
-- Assumes nothing.
use mathlib.Core.Path.{◌≡◌, refl, sym, ap, ◌∙◌}
use mathlib.Core.Bool.{Bool, true, false, cond}
use mathlib.Core.Logic.{◌⊎◌, inl, inr}
use mathlib.Core.List.Memᴰ
use mathlib.Core.List.{List, [], ◌∷◌, ◌++◌, Memᴰ}
use Prim.Native.Nat.{ℕ}
use native.Mathlib.Omega.{arith}
use lib.Dec.{eqb}
use borrow.Author.Tests.{eqb-true, eqb-false, eq-eqb, ne_eqb}
use Rattle.rule_set.specs.Different.{among}

-- a test is not both
pub both : (b : Bool) → b ≡ true → b ≡ false → ⊥
both b p q = let z : ◌≡◌ {A = ℕ} 0 1 = cc in omega arith

pub among_none : (n : ℕ) → among n [] ≡ false
unfolding among
among_none n = refl

module _ (n m : ℕ) (ms : List ℕ) where
  pub among_head : n ≡ m → among n (m ∷ ms) ≡ true
  unfolding among
  among_head e = rw (eq-eqb n m e)

  pub among-past : (n ≡ m → ⊥) → among n (m ∷ ms) ≡ among n ms
  unfolding among
  among-past h = rw (ne_eqb n m h)

  pub among_tail : among n ms ≡ true → among n (m ∷ ms) ≡ true
  unfolding among
  among_tail h = go (eqb n m)
    where
      go : (b : Bool) → cond b true (among n ms) ≡ true
      go true = refl
      go false = h

  -- at the head or behind it
  pub among_cases : among n (m ∷ ms) ≡ true → (n ≡ m) ⊎ (among n ms ≡ true)
  among_cases h = go (eqb n m) refl
    where
      go : (b : Bool) → eqb n m ≡ b → (n ≡ m) ⊎ (among n ms ≡ true)
      go true e = inl (eqb-true n m e)
      go false e = inr (sym (among-past (eqb-false n m e)) ∙ h)

  -- a head that is behind as well changes nothing
  pub among_again : among m ms ≡ true → among n (m ∷ ms) ≡ among n ms
  among_again h = go (eqb n m) refl
    where
      go : (b : Bool) → eqb n m ≡ b → among n (m ∷ ms) ≡ among n ms
      go true e = let q = eqb-true n m e in among_head q ∙ sym (ap (λ (k : ℕ). among k ms) q ∙ h)
      go false e = among-past (eqb-false n m e)

-- one head before two lists that agree on a number
pub among_under : (n m : ℕ) (ms ns : List ℕ) → among n ms ≡ among n ns → among n (m ∷ ms) ≡ among n (m ∷ ns)
unfolding among
among_under n m ms ns e = ap (λ (b : Bool). cond (eqb n m) true b) e

-- in two lists joined
pub among-append : (n : ℕ) (ms ns : List ℕ) → among n (ms ++ ns) ≡ cond (among n ms) true (among n ns)
unfolding among
among-append n [] ns = refl
among-append n (m ∷ ms) ns = go (eqb n m) (among-append n ms ns)
  where
    go : (b : Bool) → among n (ms ++ ns) ≡ cond (among n ms) true (among n ns) → cond b true (among n (ms ++ ns)) ≡ cond (cond b true (among n ms)) true (among n ns)
    go true e = refl
    go false e = e

-- as membership
pub among→member : (n : ℕ) (ns : List ℕ) → among n ns ≡ true → Memᴰ n ns
among→member n [] h = absurd (both (among n []) h (among_none n))
among→member n (m ∷ ms) h = go (among→member n ms) (among_cases n m ms h)
  where
    go : (among n ms ≡ true → Memᴰ n ms) → (n ≡ m) ⊎ (among n ms ≡ true) → Memᴰ n (m ∷ ms)
    go below (inl e) = Memᴰ.head e
    go below (inr r) = Memᴰ.tail (below r)

pub member→among : (n : ℕ) (ns : List ℕ) → Memᴰ n ns → among n ns ≡ true
member→among n [] m = absurd (Memᴰ.not-nil m)
member→among n (k ∷ ks) m = go (member→among n ks) (Memᴰ.cases_cons m)
  where
    go : (Memᴰ n ks → among n ks ≡ true) → (n ≡ k) ⊎ Memᴰ n ks → among n (k ∷ ks) ≡ true
    go below (inl e) = among_head n k ks e
    go below (inr r) = among_tail n k ks (below r)

-- two lists of the same members
pub among_same : (n : ℕ) (ms ns : List ℕ) → (among n ms ≡ true → among n ns ≡ true) → (among n ns ≡ true → among n ms ≡ true) → among n ms ≡ among n ns
among_same n ms ns to from = go (among n ms) refl (among n ns) refl
  where
    go : (a : Bool) → among n ms ≡ a → (b : Bool) → among n ns ≡ b → among n ms ≡ among n ns
    go true p b q = p ∙ sym (to p)
    go false p true q = from q ∙ sym q
    go false p false q = p ∙ sym q

-- the order of a number in front and the others does not matter
pub among_turned : (n m : ℕ) (ms : List ℕ) → among n (m ∷ ms) ≡ among n (ms ++ (m ∷ []))
among_turned n m ms = go (among n ms) refl (eqb n m) refl
  where
    joined : among n (ms ++ (m ∷ [])) ≡ cond (among n ms) true (among n (m ∷ []))
    joined = among-append n ms (m ∷ [])

    go : (a : Bool) → among n ms ≡ a → (b : Bool) → eqb n m ≡ b → among n (m ∷ ms) ≡ among n (ms ++ (m ∷ []))
    go true p b q = among_tail n m ms p ∙ sym (joined ∙ ap (λ (x : Bool). cond x true (among n (m ∷ []))) p)
    go false p true q = let e = eqb-true n m q in among_head n m ms e ∙ sym (joined ∙ ap (λ (x : Bool). cond x true (among n (m ∷ []))) p ∙ among_head n m [] e)
    go false p false q =
        let h = eqb-false n m q in
        among-past n m ms h ∙ p ∙ sym (joined ∙ ap (λ (x : Bool). cond x true (among n (m ∷ []))) p ∙ among-past n m [] h ∙ among_none n)
