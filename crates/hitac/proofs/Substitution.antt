-- Laws of entries, leaves and the substitution of trees for open leaves: over joined lists, its leaves and uses, that it is associative,
-- and that open leaves substituted for themselves change nothing. All by induction over the entries or the forest. Assumes nothing.
use Prim.Native.Nat.{ℕ, zero, suc, ◌+◌, ◌≤◌}
use native.Mathlib.Omega.{arith}
use mathlib.Core.Path.{◌≡◌, refl, sym, ap, ◌∙◌}
use mathlib.Core.Bool.{Bool}
use mathlib.Core.List.{List, [], ◌∷◌, ◌++◌, map, append_assoc}
use lib.ListN.{length, take, drop, length-append, length-drop}
use lib.Seq.{drop-append-le, drop-drop, drop_at, drop-nil, take_all}
use Rattle.format.specs.declared.values.RuleName.{RuleName}
use Rattle.format.specs.declared.values.Goal.{Goal}
use Rattle.files.specs.Derivations.{Entry, use_entry, open_entry}
use Rattle.hitac.specs.Forest.{Tree, entries, leaves, substitute, substitute_forest}
use Rattle.hitac.specs.Counts.{uses}

-- Joined lists
pub leaves-append : (es fs : List Entry) → leaves (es ++ fs) ≡ leaves es ++ leaves fs
leaves-append [] fs = refl
leaves-append (use_entry a γ ∷ es) fs = leaves-append es fs
leaves-append (open_entry γ ∷ es) fs = ap {B = List Goal} (λ l. γ ∷ l) (leaves-append es fs)

pub leaves_count : (es fs : List Entry) → length (leaves (es ++ fs)) ≡ length (leaves es) + length (leaves fs)
leaves_count es fs = ap length (leaves-append es fs) ∙ length-append (leaves es) (leaves fs)

pub entries-append : (f k : List Tree) → entries (f ++ k) ≡ entries f ++ entries k
entries-append [] k = refl
entries-append (t ∷ f) k = rw (entries-append f k) (sym (append_assoc t _ _))

pub uses-append : (c : RuleName → Goal → Bool) (es fs : List Entry) → uses c (es ++ fs) ≡ uses c es + uses c fs
uses-append c [] fs = omega arith
uses-append c (use_entry b δ ∷ es) fs = omega (arith, uses-append c es fs)
uses-append c (open_entry δ ∷ es) fs = uses-append c es fs

pub substitute-append : (es fs : List Entry) (ts : List Tree) → substitute (es ++ fs) ts ≡ substitute es ts ++ substitute fs (drop (length (leaves es)) ts)
substitute-append [] fs ts = refl
substitute-append (use_entry a γ ∷ es) fs ts = ap {B = List Entry} (λ l. use_entry a γ ∷ l) (substitute-append es fs ts)
substitute-append (open_entry γ ∷ es) fs [] =
    ap {B = List Entry} (λ l. open_entry γ ∷ l) (substitute-append es fs [] ∙ rw (drop-nil {A = Tree} (length (leaves es))))
substitute-append (open_entry γ ∷ es) fs (t ∷ ts) = rw (substitute-append es fs ts) (sym (append_assoc t _ _))

-- To substitute in a forest is to substitute in its entries.
pub entries-substitute : (f ts : List Tree) → entries (substitute_forest f ts) ≡ substitute (entries f) ts
entries-substitute [] ts = refl
entries-substitute (t ∷ f) ts = rw (substitute-append t (entries f) ts, entries-substitute f (drop (length (leaves t)) ts))

-- With a tree for each leaf, the leaves are those of the trees taken, and no use is lost or added.
pub leaves-substitute : (es : List Entry) (ts : List Tree) → length (leaves es) ≤ length ts
    → leaves (substitute es ts) ≡ leaves (entries (take (length (leaves es)) ts))
leaves-substitute [] ts e = refl
leaves-substitute (use_entry a γ ∷ es) ts e = leaves-substitute es ts e
leaves-substitute (open_entry γ ∷ es) [] e = absurd (omega arith)
leaves-substitute (open_entry γ ∷ es) (t ∷ ts) e =
    rw (
      leaves-append t (substitute es ts),
      leaves-append t (entries (take (length (leaves es)) ts)),
      leaves-substitute es ts (omega arith),
    )

pub leaves-substitute_all : (es : List Entry) (ts : List Tree) → length ts ≡ length (leaves es) → leaves (substitute es ts) ≡ leaves (entries ts)
leaves-substitute_all es ts e =
    leaves-substitute es ts (omega arith) ∙ ap (λ (us : List Tree). leaves (entries us)) (take_all (length (leaves es)) ts (omega arith))

pub uses-substitute : (c : RuleName → Goal → Bool) (es : List Entry) (ts : List Tree) → length ts ≡ length (leaves es)
    → uses c (substitute es ts) ≡ uses c es + uses c (entries ts)
uses-substitute c [] [] e = omega arith
uses-substitute c [] (t ∷ ts) e = absurd (omega arith)
uses-substitute c (use_entry b δ ∷ es) ts e = omega (arith, uses-substitute c es ts e)
uses-substitute c (open_entry δ ∷ es) [] e = absurd (omega arith)
uses-substitute c (open_entry δ ∷ es) (t ∷ ts) e =
    omega (arith, uses-substitute c es ts (omega arith), uses-append c t (substitute es ts), uses-append c t (entries ts))

-- Premises as open leaves
pub leaves_opens : (h : List Goal) → leaves (map open_entry h) ≡ h
leaves_opens [] = refl
leaves_opens (γ ∷ h) = ap {B = List Goal} (λ l. γ ∷ l) (leaves_opens h)

pub uses_opens : (c : RuleName → Goal → Bool) (h : List Goal) → uses c (map open_entry h) ≡ 0
uses_opens c [] = refl
uses_opens c (δ ∷ h) = uses_opens c h

pub substitute_opens : (h : List Goal) (ts : List Tree) → length ts ≡ length h → substitute (map open_entry h) ts ≡ entries ts
substitute_opens [] [] e = refl
substitute_opens [] (t ∷ ts) e = absurd (omega arith)
substitute_opens (γ ∷ h) [] e = absurd (omega arith)
substitute_opens (γ ∷ h) (t ∷ ts) e = ap {B = List Entry} (λ l. t ++ l) (substitute_opens h ts (omega arith))

-- With a tree for each leaf, the trees behind those do not matter.
pub substitute_front : (es : List Entry) (us vs : List Tree) → length (leaves es) ≤ length us → substitute es (us ++ vs) ≡ substitute es us
substitute_front [] us vs e = refl
substitute_front (use_entry a γ ∷ es) us vs e = ap {B = List Entry} (λ l. use_entry a γ ∷ l) (substitute_front es us vs e)
substitute_front (open_entry γ ∷ es) [] vs e = absurd (omega arith)
substitute_front (open_entry γ ∷ es) (u ∷ us) vs e = ap {B = List Entry} (λ l. u ++ l) (substitute_front es us vs (omega arith))

-- Forests side by side are substituted into each by itself.
pub substitute_forest-append : (f k us vs : List Tree) → length us ≡ length (leaves (entries f))
    → substitute_forest (f ++ k) (us ++ vs) ≡ substitute_forest f us ++ substitute_forest k vs
substitute_forest-append [] k [] vs e = refl
substitute_forest-append [] k (u ∷ us) vs e = absurd (omega arith)
substitute_forest-append (t ∷ f) k us vs e =
    let l = leaves_count t (entries f) in
    rw (
      substitute_front t us vs (omega arith),
      drop-append-le (length (leaves t)) us vs (omega arith),
      substitute_forest-append f k (drop (length (leaves t)) us) vs (omega (arith, length-drop (length (leaves t)) us)),
    )

-- SUBSTITUTION IS ASSOCIATIVE, where there is a tree for each leaf.
pub substitute_assoc : (es : List Entry) (ts us : List Tree) → length (leaves es) ≤ length ts
    → substitute (substitute es ts) us ≡ substitute es (substitute_forest ts us)
substitute_assoc [] ts us e = refl
substitute_assoc (use_entry a γ ∷ es) ts us e = ap {B = List Entry} (λ l. use_entry a γ ∷ l) (substitute_assoc es ts us e)
substitute_assoc (open_entry γ ∷ es) [] us e = absurd (omega arith)
substitute_assoc (open_entry γ ∷ es) (t ∷ ts) us e =
    substitute-append t (substitute es ts) us
    ∙ ap {B = List Entry} (λ l. substitute t us ++ l) (substitute_assoc es ts (drop (length (leaves t)) us) (omega arith))

drop-substitute : (n : ℕ) (ts us : List Tree)
    → drop n (substitute_forest ts us) ≡ substitute_forest (drop n ts) (drop (length (leaves (entries (take n ts)))) us)
drop-substitute zero ts us = refl
drop-substitute (suc n) [] us = refl
drop-substitute (suc n) (t ∷ ts) us =
    let e = leaves_count t (entries (take n ts)) in
    drop-substitute n ts (drop (length (leaves t)) us)
    ∙ rw (e, drop-drop (length (leaves (entries (take n ts)))) (length (leaves t)) us)

pub substitute_forest_assoc : (f ts us : List Tree) → length (leaves (entries f)) ≤ length ts
    → substitute_forest (substitute_forest f ts) us ≡ substitute_forest f (substitute_forest ts us)
substitute_forest_assoc [] ts us e = refl
substitute_forest_assoc (t ∷ f) ts us e =
    let l = leaves_count t (entries f) in
    rw (
      substitute_assoc t ts us (omega arith),
      leaves-substitute t ts (omega arith),
      drop-substitute (length (leaves t)) ts us,
      substitute_forest_assoc f (drop (length (leaves t)) ts) (drop (length (leaves (entries (take (length (leaves t)) ts)))) us)
          (omega (arith, length-drop (length (leaves t)) ts)),
    )

-- Open leaves as trees, each substituted for itself
abbrev pub open_trees : List Goal → List Tree
open_trees [] = []
open_trees (γ ∷ g) = (open_entry γ ∷ []) ∷ open_trees g

open_trees_append : (g h : List Goal) → open_trees (g ++ h) ≡ open_trees g ++ open_trees h
open_trees_append [] h = refl
open_trees_append (γ ∷ g) h = ap {B = List Tree} (λ l. (open_entry γ ∷ []) ∷ l) (open_trees_append g h)

open_trees_length : (g : List Goal) → length (open_trees g) ≡ length g
open_trees_length [] = refl
open_trees_length (γ ∷ g) = ap suc (open_trees_length g)

open_trees_same : (es : List Entry) → substitute es (open_trees (leaves es)) ≡ es
open_trees_same [] = refl
open_trees_same (use_entry a γ ∷ es) = ap {B = List Entry} (λ l. use_entry a γ ∷ l) (open_trees_same es)
open_trees_same (open_entry γ ∷ es) = ap {B = List Entry} (λ l. open_entry γ ∷ l) (open_trees_same es)

pub substitute_open_trees : (f : List Tree) → substitute_forest f (open_trees (leaves (entries f))) ≡ f
substitute_open_trees [] = refl
substitute_open_trees (t ∷ f) =
    rw (
      leaves-append t (entries f),
      open_trees_append (leaves t) (leaves (entries f)),
      substitute_front t (open_trees (leaves t)) (open_trees (leaves (entries f))) (omega (arith, open_trees_length (leaves t))),
      open_trees_same t,
      drop_at (open_trees (leaves t)) (open_trees (leaves (entries f))) (length (leaves t)) (open_trees_length (leaves t)),
      substitute_open_trees f,
    )
