-- The term written from a right derivation is the one that the rules of `Writes` allow, and they allow none for another list of entries.
-- To the rules by induction over the derivation; from them by induction over them, with the terms of a use's premises in front. Assumes nothing.
use Prim.Native.Nat.{suc}
use native.Mathlib.Omega.{arith}
use mathlib.Core.Path.{◌≡◌, refl, sym, ap, ◌∙◌, subst}
use mathlib.Core.Logic.{◌↔◌}
use mathlib.Core.List.{List, [], ◌∷◌, ◌++◌, append_assoc}
use lib.ListN.{length, take, drop}
use lib.Seq.{take_at, drop_at}
use Rattle.format.specs.declared.values.RuleName.{RuleName}
use Rattle.format.specs.declared.values.Goal.{Goal}
use Rattle.format.specs.Terms.{Term, atomic, id, sequence, tensor}
use Rattle.tables.specs.Tables.{Table, HasRule, UniqueRules}
use Rattle.files.specs.Derivations.{Entry, use_entry, open_entry}
use Rattle.hitac.specs.Premises.{Finds}
use Rattle.hitac.specs.Validates.{System}
use Rattle.hitac.specs.Derives.{Derives, D-End, D-Open, D-Use}
use Rattle.hitac.specs.Write.{forest_term, use_term, use_and_others, tree_terms, written}
use Rattle.hitac.specs.Writes.{WritesForest, W-None, W-One, W-More, WritesTrees, W-End, W-Open, W-Atomic, W-Sequence, Writes, W-Proof}
use Rattle.hitac.proofs.WalkValidates.{rules_agree}
use Rattle.hitac.proofs.DerivesLaws.{derives_map, derives_append, derives_more}
use Rattle.hitac.proofs.TreeTermLaws.{tree_terms-length, tree_terms-append}

-- a forest's term
forest-written : (ts : List Term) → WritesForest ts (forest_term ts)
forest-written [] = W-None
forest-written (t ∷ []) = W-One
forest-written (t ∷ u ∷ ts) = W-More (forest-written (u ∷ ts))

written-forest_term : {ts : List Term} {t : Term} → WritesForest ts t → forest_term ts ≡ t
written-forest_term W-None = refl
written-forest_term W-One = refl
written-forest_term (W-More {t = t} w) = ap (tensor t) (written-forest_term w)

-- The rules allow terms only for a right derivation.
writes_derive : {S : System} {g : List Goal} {es : List Entry} {ts : List Term} → WritesTrees S g es ts → Derives S g es []
writes_derive W-End = D-End
writes_derive (W-Open w) = D-Open (writes_derive w)
writes_derive (W-Atomic e w) = D-Use e (writes_derive w)
writes_derive (W-Sequence {g = g} e v f w) = D-Use e (derives_append (derives_more (writes_derive v) g) (writes_derive w))

writes_map : {S R : System} → ((a : RuleName) (γ : Goal) (h : List Goal) → S a γ h → R a γ h)
    → {g : List Goal} {es : List Entry} {ts : List Term} → WritesTrees S g es ts → WritesTrees R g es ts
writes_map f W-End = W-End
writes_map f (W-Open w) = W-Open (writes_map f w)
writes_map f (W-Atomic {a = a} {γ = γ} e w) = W-Atomic (f a γ [] e) (writes_map f w)
writes_map f (W-Sequence {a = a} {γ = γ} {δ = δ} {h = h} e v u w) = W-Sequence (f a γ (δ ∷ h) e) (writes_map f v) u (writes_map f w)

-- the trees of the first goals, and of the others
record SplitTrees (S : System) (h g : List Goal) (es : List Entry) (ts : List Term) : Type 0 where
  front : List Entry
  back : List Entry
  front_trees : WritesTrees S h front (take (length h) ts)
  back_trees : WritesTrees S g back (drop (length h) ts)
  whole : front ++ back ≡ es

split_trees : {S : System} (h g : List Goal) {es : List Entry} {ts : List Term} → WritesTrees S (h ++ g) es ts → SplitTrees S h g es ts
split_trees [] g {es} w = record { front = []; back = es; front_trees = W-End; back_trees = w; whole = refl }
split_trees (γ ∷ h) g (W-Open w) =
    let r = split_trees h g w in
    record {
      front = open_entry γ ∷ r.front;
      back = r.back;
      front_trees = W-Open r.front_trees;
      back_trees = r.back_trees;
      whole = ap {B = List Entry} (λ l. open_entry γ ∷ l) r.whole;
    }
split_trees (γ ∷ h) g (W-Atomic {a = a} e w) =
    let r = split_trees h g w in
    record {
      front = use_entry a γ ∷ r.front;
      back = r.back;
      front_trees = W-Atomic e r.front_trees;
      back_trees = r.back_trees;
      whole = ap {B = List Entry} (λ l. use_entry a γ ∷ l) r.whole;
    }
split_trees (γ ∷ h) g (W-Sequence {a = a} {ds = ds} e v u w) =
    let r = split_trees h g w in
    record {
      front = use_entry a γ ∷ ds ++ r.front;
      back = r.back;
      front_trees = W-Sequence e v u r.front_trees;
      back_trees = r.back_trees;
      whole = ap {B = List Entry} (λ l. use_entry a γ ∷ l) (append_assoc ds r.front r.back ∙ ap {B = List Entry} (λ l. ds ++ l) r.whole);
    }

-- a use, over the terms of its premises' trees
use_written : {S : System} {a : RuleName} {γ : Goal} (h g : List Goal) {ds es : List Entry} {us ts : List Term} → S a γ h
    → WritesTrees S h ds us → WritesTrees S g es ts → WritesTrees S (γ ∷ g) (use_entry a γ ∷ ds ++ es) (use_term a us ∷ ts)
use_written [] g e W-End w = W-Atomic e w
use_written (δ ∷ h) g e (W-Open {ts = us} v) w = W-Sequence e (W-Open v) (forest-written (id ∷ us)) w
use_written (δ ∷ h) g e (W-Atomic {a = b} {ts = us} f v) w = W-Sequence e (W-Atomic f v) (forest-written (atomic b ∷ us)) w
use_written (δ ∷ h) g e (W-Sequence {a = b} {ts = us} {u = u} f x y v) w = W-Sequence e (W-Sequence f x y v) (forest-written (sequence (atomic b) u ∷ us)) w

trees_written : (T : Table) {g : List Goal} {es : List Entry} → Derives (Finds T) g es [] → WritesTrees (Finds T) g es (tree_terms T es)
unfolding tree_terms
trees_written T D-End = W-End
trees_written T (D-Open d) = W-Open (trees_written T d)
trees_written T (D-Use {a = a} {γ = γ} {g = g} {h = h} {es = es} e d) =
    let r = split_trees h g (trees_written T d) in
    rw e.1
    (subst
    (λ l. WritesTrees (Finds T) (γ ∷ g) (use_entry a γ ∷ l) (use_and_others a (length h) (tree_terms T es)))
    r.whole
    (use_written h g e r.front_trees r.back_trees))

-- the other direction
written_trees : (T : Table) {g : List Goal} {es : List Entry} {ts : List Term} → WritesTrees (Finds T) g es ts → tree_terms T es ≡ ts
unfolding tree_terms
written_trees T W-End = refl
written_trees T (W-Open w) = ap {B = List Term} (λ l. id ∷ l) (written_trees T w)
written_trees T (W-Atomic {a = a} e w) = rw e.1 (ap {B = List Term} (λ l. atomic a ∷ l) (written_trees T w))
written_trees T (W-Sequence {a = a} {δ = δ} {h = h} {ds = ds} {es = es} {us = us} {ts = ts} {u = u} e v f w) =
    rw (
      e.1,
      tree_terms-append T (writes_derive v) es,
      written_trees T v,
      written_trees T w,
    )
    (others us (ap length (sym (written_trees T v)) ∙ tree_terms-length T (writes_derive v)) f)
  where
    others : (vs : List Term) → length vs ≡ suc (length h) → WritesForest vs u → use_and_others a (suc (length h)) (vs ++ ts) ≡ sequence (atomic a) u ∷ ts
    others [] l x = absurd (omega arith)
    others (t ∷ vs) l x =
        rw (take_at (t ∷ vs) ts (suc (length h)) l, drop_at (t ∷ vs) ts (suc (length h)) l, written-forest_term x)

-- THE WRITER'S TERM: for a right derivation the term written is the one that document 01's rules allow, and no other.
module _ (T : Table) (unique : UniqueRules T) (g : List Goal) (es : List Entry) where
  pub written↔writes : (t : Term) → (Derives (HasRule T) g es [] × (written T es ≡ t)) ↔ Writes (HasRule T) g es t
  unfolding written
  written↔writes t = (
    (λ x. subst
        (Writes (HasRule T) g es)
        x.1
        (W-Proof
        (writes_map (λ a γ h. (rules_agree T unique a γ h).0) (trees_written T (derives_map (λ a γ h. (rules_agree T unique a γ h).1) x.0)))
        (forest-written (tree_terms T es)))),
    (λ x. allowed x),
  )
    where
      allowed : {t : Term} → Writes (HasRule T) g es t → Derives (HasRule T) g es [] × (written T es ≡ t)
      allowed (W-Proof w f) = (
        writes_derive w,
        ap forest_term (written_trees T (writes_map (λ a γ h. (rules_agree T unique a γ h).1) w)) ∙ written-forest_term f,
      )
