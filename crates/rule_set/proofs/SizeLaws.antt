-- The count of different numbers is the size of the set of them, and a set has one size.
-- Assumes nothing.
use mathlib.Core.Path.{◌≡◌, refl, sym, ap, ◌∙◌}
use mathlib.Core.Bool.{Bool, true, false, cond}
use mathlib.Core.List.{List, [], ◌∷◌}
use Prim.Native.Nat.{ℕ}
use native.Mathlib.Omega.{arith}
use lib.ListN.{length}
use Rattle.rule_set.specs.Different.{among, different, Distinct, SetSize}
use Rattle.rule_set.proofs.AmongLaws.{among_again, among_under, among_same, among→member, member→among}
use Rattle.rule_set.proofs.DifferentLaws.{different_none, different_old, different_new, different_same}

-- a list with each of its numbers where it stands for the last time
unfoldable once : List ℕ → List ℕ
once [] = []
once (n ∷ ns) = cond (among n ns) (once ns) (n ∷ once ns)

module _ (n : ℕ) (ns : List ℕ) where
  once_old : among n ns ≡ true → once (n ∷ ns) ≡ once ns
  unfolding once
  once_old h = rw h

  once_new : among n ns ≡ false → once (n ∷ ns) ≡ n ∷ once ns
  unfolding once
  once_new h = rw h

-- it has the same numbers
among_once : (n : ℕ) (ns : List ℕ) → among n (once ns) ≡ among n ns
unfolding once
among_once n [] = refl
among_once n (m ∷ ms) = go (among_once n ms) (among m ms) refl
  where
    go : among n (once ms) ≡ among n ms → (b : Bool) → among m ms ≡ b → among n (once (m ∷ ms)) ≡ among n (m ∷ ms)
    go ih true e = ap (among n) (once_old m ms e) ∙ ih ∙ sym (among_again n m ms e)
    go ih false e = ap (among n) (once_new m ms e) ∙ among_under n m (once ms) ms ih

distinct_once : (ns : List ℕ) → Distinct (once ns)
unfolding once Distinct
distinct_once [] = tt
distinct_once (n ∷ ns) = go (distinct_once ns) (among n ns) refl
  where
    go : Distinct (once ns) → (b : Bool) → among n ns ≡ b → Distinct (cond (among n ns) (once ns) (n ∷ once ns))
    go d true e = rw e d
    go d false e = rw e (among_once n ns ∙ e, d)

length_once : (ns : List ℕ) → length (once ns) ≡ different ns
unfolding once
length_once [] = sym different_none
length_once (n ∷ ns) = go (length_once ns) (among n ns) refl
  where
    go : length (once ns) ≡ different ns → (b : Bool) → among n ns ≡ b → length (once (n ∷ ns)) ≡ different (n ∷ ns)
    go ih true e = ap length (once_old n ns e) ∙ ih ∙ sym (different_old n ns e)
    go ih false e = omega (arith, ap length (once_new n ns e), different_new n ns e)

pub different-size : (ns : List ℕ) → SetSize (λ n. among n ns ≡ true) (different ns)
different-size ns = record {
  list = once ns;
  distinct = distinct_once ns;
  members = λ n. (λ m. sym (among_once n ns) ∙ member→among n (once ns) m, λ h. among→member n (once ns) (among_once n ns ∙ h));
  size = length_once ns;
}

-- of a list in which no number stands twice every number counts
different_distinct : (ns : List ℕ) → Distinct ns → different ns ≡ length ns
unfolding Distinct
different_distinct [] d = different_none
different_distinct (n ∷ ns) d = omega (arith, different_new n ns d.0, different_distinct ns d.1)

pub set-size_one : {P : ℕ → Type 0} {j k : ℕ} → SetSize P j → SetSize P k → j ≡ k
set-size_one a b =
    sym a.size
    ∙ sym (different_distinct a.list a.distinct)
    ∙ different_same a.list b.list (λ n. among_same n a.list b.list
    (λ h. member→among n b.list ((b.members n).1 ((a.members n).0 (among→member n a.list h))))
    (λ h. member→among n a.list ((a.members n).1 ((b.members n).0 (among→member n b.list h)))))
    ∙ different_distinct b.list b.distinct
    ∙ b.size
