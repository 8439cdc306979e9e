-- The forest that is computed for a hiproof that validates is the one that the rules of `Flattens` allow, and no other.
-- To the rules by induction over Fig. 2; from them by induction over them, as the trees substituted are as many as the open leaves. Assumes nothing.
use Prim.Native.Nat.{◌≤◌}
use native.Mathlib.Omega.{arith}
use mathlib.Core.Path.{◌≡◌, refl, sym, ap, ◌∙◌, subst}
use mathlib.Core.Logic.{◌↔◌}
use mathlib.Core.List.{List, [], ◌∷◌, ◌++◌, map, append-nil}
use lib.ListN.{length, take, drop, length-append, length-drop, take-append-drop}
use lib.Seq.{take_at, drop_at}
use Rattle.format.specs.declared.values.RuleName.{RuleName}
use Rattle.format.specs.declared.values.Goal.{Goal}
use Rattle.format.specs.Terms.{Term}
use Rattle.tables.specs.Tables.{Table, HasRule, UniqueRules}
use Rattle.files.specs.Derivations.{Entry, use_entry, open_entry}
use Rattle.hitac.specs.Premises.{Finds}
use Rattle.hitac.specs.Hiproofs.{input_arity}
use Rattle.hitac.specs.Validates.{System, AtMost256, Validates, V-Atomic, V-Identity, V-Label, V-Sequence, V-Tensor, V-Empty}
use Rattle.hitac.specs.Forest.{Tree, entries, leaves, substitute, substitute_forest, forest}
use Rattle.hitac.specs.Flattens.{InTree, T-End, T-Use, T-Open, InForest, T-None, T-Tree, Flattens, F-Identity, F-Atomic, F-Label, F-Sequence, F-Tensor, F-Empty}
use Rattle.hitac.proofs.ValidatesLaws.{map_system}
use Rattle.hitac.proofs.WalkValidates.{rules_agree}
use Rattle.hitac.proofs.Substitution.{leaves-append, leaves_count, entries-append, substitute_front, leaves-substitute_all, entries-substitute, leaves_opens}
use Rattle.hitac.proofs.DerivesLaws.{trees_length}
use Rattle.hitac.proofs.ForestLaws.{Takes, forest_of, forest_tensor}

-- Substitution by the rules: each tree takes as many trees as it has open leaves.
in_tree : (es : List Entry) (ts : List Tree) → length (leaves es) ≤ length ts → InTree es (take (length (leaves es)) ts) (substitute es ts)
in_tree [] ts l = T-End
in_tree (use_entry a γ ∷ es) ts l = T-Use (in_tree es ts l)
in_tree (open_entry γ ∷ es) [] l = absurd (omega arith)
in_tree (open_entry γ ∷ es) (t ∷ ts) l = T-Open (in_tree es ts (omega arith))

in_forest : (f ts : List Tree) → length ts ≡ length (leaves (entries f)) → InForest f ts (substitute_forest f ts)
in_forest [] [] e = T-None
in_forest [] (t ∷ ts) e = absurd (omega arith)
in_forest (t ∷ f) ts e =
    let n = leaves_count t (entries f) in
    subst
    (λ us. InForest (t ∷ f) us (substitute_forest (t ∷ f) ts))
    (take-append-drop (length (leaves t)) ts)
    (T-Tree (in_tree t ts (omega arith)) (in_forest f (drop (length (leaves t)) ts) (omega (arith, length-drop (length (leaves t)) ts))))

tree_count : {es fs : List Entry} {ts : List Tree} → InTree es ts fs → length ts ≡ length (leaves es)
tree_count T-End = refl
tree_count (T-Use i) = tree_count i
tree_count (T-Open i) = omega (arith, tree_count i)

tree_computed : {es fs : List Entry} {ts : List Tree} → InTree es ts fs → substitute es ts ≡ fs
tree_computed T-End = refl
tree_computed (T-Use {a = a} {γ = γ} i) = ap {B = List Entry} (λ l. use_entry a γ ∷ l) (tree_computed i)
tree_computed (T-Open {t = t} i) = ap {B = List Entry} (λ l. t ++ l) (tree_computed i)

forest_count : {f ts k : List Tree} → InForest f ts k → length ts ≡ length (leaves (entries f))
forest_count T-None = refl
forest_count (T-Tree {t = t} {f = f} {us = us} {vs = vs} i j) = omega (arith, tree_count i, forest_count j, length-append us vs, leaves_count t (entries f))

forest_computed : {f ts k : List Tree} → InForest f ts k → substitute_forest f ts ≡ k
forest_computed T-None = refl
forest_computed (T-Tree {t = t} {us = us} {vs = vs} i j) =
    rw (
      substitute_front t us vs (omega (arith, tree_count i)),
      drop_at us vs (length (leaves t)) (tree_count i),
      tree_computed i,
      forest_computed j,
    )

-- What the rules allow does not depend on the system but by its rules, and takes as many goals as the input arity.
flattens_map : {S R : System} → ((a : RuleName) (γ : Goal) (h : List Goal) → S a γ h → R a γ h) → {s : Term} {g h : List Goal} {f : List Tree}
    → Flattens S s g f h → Flattens R s g f h
flattens_map m F-Identity = F-Identity
flattens_map m (F-Atomic {a = a} {γ = γ} {h = h} e) = F-Atomic (m a γ h e)
flattens_map m (F-Label x) = F-Label (flattens_map m x)
flattens_map m (F-Sequence x y i) = F-Sequence (flattens_map m x) (flattens_map m y) i
flattens_map m (F-Tensor x y) = F-Tensor (flattens_map m x) (flattens_map m y)
flattens_map m F-Empty = F-Empty

flattens_arity : {S : System} {s : Term} {g h : List Goal} {f : List Tree} → Flattens S s g f h → length g ≡ input_arity s
unfolding input_arity
flattens_arity F-Identity = refl
flattens_arity (F-Atomic e) = refl
flattens_arity (F-Label x) = refl
flattens_arity (F-Sequence x y i) = flattens_arity x
flattens_arity (F-Tensor {g₁ = g₁} {g₂ = g₂} x y) = omega (arith, length-append g₁ g₂, flattens_arity x, flattens_arity y)
flattens_arity F-Empty = refl

-- the forest computed is allowed
allowed : (T : Table) {s : Term} {g h : List Goal} → Takes T s g h → Flattens (Finds T) s g (forest T s g) h
unfolding forest
allowed T (V-Atomic e) = rw e.1 (F-Atomic e)
allowed T V-Identity = F-Identity
allowed T (V-Label v) = F-Label (allowed T v)
allowed T (V-Sequence {s = s} {t = t} {g = g} {h = h} v w) =
    let e = (forest_of T v).given_leaves in
    rw e
    (F-Sequence (allowed T v) (allowed T w)
    (in_forest (forest T s g) (forest T t h) (trees_length (forest_of T w).trees ∙ ap length (sym e))))
allowed T (V-Tensor {t = t} {g₂ = g₂} v w l) = rw (forest_tensor T t g₂ v) (F-Tensor (allowed T v) (allowed T w))
allowed T V-Empty = F-Empty

-- and what is allowed is the forest computed
record Computed (T : Table) (s : Term) (g : List Goal) (f : List Tree) (h : List Goal) : Type 0 where
  same : forest T s g ≡ f
  leaves_are : leaves (entries f) ≡ h

computed : (T : Table) {s : Term} {g h : List Goal} {f : List Tree} → Flattens (Finds T) s g f h → Computed T s g f h
unfolding forest
computed T F-Identity = record { same = refl; leaves_are = refl }
computed T (F-Atomic {h = h} e) = record { same = rw e.1; leaves_are = rw (append-nil (map open_entry h), leaves_opens h) }
computed T (F-Label x) = let r = computed T x in record { same = r.same; leaves_are = r.leaves_are }
computed T (F-Sequence {f = f} {k = k} x y i) =
    let l = computed T x in
    let r = computed T y in
    record {
      same = rw (l.same, l.leaves_are, r.same) (forest_computed i);
      leaves_are = rw (← forest_computed i, entries-substitute f k) (leaves-substitute_all (entries f) k (forest_count i) ∙ r.leaves_are);
    }
computed T (F-Tensor {s = s} {g₁ = g₁} {g₂ = g₂} {f₁ = f₁} {f₂ = f₂} x y) =
    let l = computed T x in
    let r = computed T y in
    record {
      same = rw (take_at g₁ g₂ (input_arity s) (flattens_arity x), drop_at g₁ g₂ (input_arity s) (flattens_arity x), l.same, r.same);
      leaves_are = rw (entries-append f₁ f₂, leaves-append (entries f₁) (entries f₂), l.leaves_are, r.leaves_are);
    }
computed T F-Empty = record { same = refl; leaves_are = refl }

-- THE FLATTENER'S FOREST: for a hiproof that takes g to h, the forest is the one that document 01's rules allow, and no other.
pub forest↔flattens : (T : Table) → UniqueRules T → {s : Term} {g h : List Goal} → Validates (HasRule T) AtMost256 s g h → (f : List Tree)
    → (forest T s g ≡ f) ↔ Flattens (HasRule T) s g f h
forest↔flattens T unique {s} {g} {h} v f = (
  (λ e. subst
      (λ k. Flattens (HasRule T) s g k h)
      e
      (flattens_map (λ a γ k. (rules_agree T unique a γ k).0) (allowed T (map_system (λ a γ k. (rules_agree T unique a γ k).1) v)))),
  (λ x. (computed T (flattens_map (λ a γ k. (rules_agree T unique a γ k).1) x)).same),
)
