-- THE WRITER'S MEANING (demand 3): the term written from a right flat derivation takes the roots to its open leaves, and has it as forest.
-- By induction over the derivation: each use has the terms of its premises' trees, and a forest's term is made tree by tree. Assumes nothing.
use Prim.Native.Nat.{ℕ, ◌+◌, ◌*◌, ◌-◌, ◌≤◌, ◌<◌}
use native.Mathlib.Omega.{arith}
use mathlib.Core.Path.{◌≡◌, refl, ap, ◌∙◌, subst}
use mathlib.Core.List.{List, [], ◌∷◌, ◌++◌, map, append_assoc, append-nil}
use lib.ListN.{length, take, drop, length-append}
use Rattle.format.specs.declared.values.RuleName.{RuleName}
use Rattle.format.specs.declared.values.Goal.{Goal}
use Rattle.format.specs.Results.{gives}
use Rattle.format.specs.Terms.{Term, atomic, id, sequence, fields, size}
use Rattle.tables.specs.Tables.{Table}
use Rattle.files.specs.Derivations.{Entry, use_entry, open_entry}
use Rattle.hitac.specs.Premises.{Finds}
use Rattle.hitac.specs.Validates.{V-Atomic, V-Identity, V-Sequence, V-Tensor, V-Empty}
use Rattle.hitac.specs.Walk.{walk}
use Rattle.hitac.specs.Forest.{Tree, entries, leaves, forest}
use Rattle.hitac.specs.FlatWalk.{flat_walk}
use Rattle.hitac.specs.Derives.{Derives, D-End, D-Open, D-Use}
use Rattle.hitac.specs.Counts.{uses, every_use}
use Rattle.hitac.specs.Write.{forest_term, use_term, use_and_others, tree_terms, written}
use Rattle.hitac.proofs.WalkValidates.{finds_agrees, validates→walk}
use Rattle.hitac.proofs.Substitution.{leaves-append, leaves_count, uses-append, leaves_opens, substitute_opens}
use Rattle.hitac.proofs.DerivesLaws.{trees_length}
use Rattle.hitac.proofs.ForestLaws.{Takes, forest_of, forest_tensor}
use Rattle.hitac.proofs.FlatWalks.{flat_walk→derives}
use Rattle.hitac.proofs.Flatten.{forest-right, forest-leaves}

-- A term for one goal, whose forest is the one tree e, with twice as many fields as entries but one, and as many bytes as its entries say.
pub record TreeTerm (T : Table) (γ : Goal) (t : Term) (e : Tree) : Type 0 where
  pub valid : Takes T t (γ ∷ []) (leaves e)
  pub same : forest T t (γ ∷ []) ≡ e ∷ []
  pub count : fields t + 1 ≡ 2 * length e
  pub bytes : size t + 3 ≡ 8 * uses every_use e + 6 * length (leaves e)

-- such a term for each goal, the entries one after another
pub data TreeTerms (T : Table) : List Goal → List Term → List Entry → Type 0 where
  TT-None : TreeTerms T [] [] []
  TT-Tree : {γ : Goal} {g : List Goal} {t : Term} {ts : List Term} {e : Tree} {es : List Entry}
      → TreeTerm T γ t e → TreeTerms T g ts es → TreeTerms T (γ ∷ g) (t ∷ ts) (e ++ es)

-- the same of a forest
pub record ForestTerm (T : Table) (g : List Goal) (t : Term) (es : List Entry) : Type 0 where
  pub valid : Takes T t g (leaves es)
  pub same : entries (forest T t g) ≡ es
  pub count : 0 < length es → fields t + 1 ≡ 2 * length es
  pub bytes : 0 < length es → size t + 3 ≡ 8 * uses every_use es + 6 * length (leaves es)

-- one more tree in front
add_tree : (T : Table) {γ : Goal} {g : List Goal} {t : Term} {ts : List Term} {e : Tree} {es : List Entry}
    → TreeTerm T γ t e → TreeTerms T g ts es → ForestTerm T g (forest_term ts) es → length (leaves (e ++ es)) ≤ 256
    → ForestTerm T (γ ∷ g) (forest_term (t ∷ ts)) (e ++ es)
unfolding fields size
add_tree T {e = e} x TT-None r b =
    record {
      valid = rw (append-nil e) x.valid;
      same = rw x.same;
      count = λ z. rw (append-nil e) x.count;
      bytes = λ z. rw (append-nil e) x.bytes;
    }
add_tree T {γ = γ} {t = t} {e = e} x (TT-Tree {γ = δ} {g = g} {t = u} {ts = ts} {e = d} {es = es} y w) r b =
    let others : 0 < length (d ++ es) = omega (arith, y.count, length-append d es) in
    record {
      valid = rw (leaves-append e (d ++ es)) (V-Tensor x.valid r.valid (rw (leaves-append e (d ++ es)) at b));
      same =
          ap entries (forest_tensor T (forest_term (u ∷ ts)) (δ ∷ g) x.valid)
          ∙ rw x.same (ap {B = List Entry} (λ l. e ++ l) r.same);
      count = λ z. omega (arith, x.count, r.count others, length-append e (d ++ es));
      bytes = λ z. omega (arith, x.bytes, r.bytes others, uses-append every_use e (d ++ es), leaves_count e (d ++ es));
    }

forest_term_lem : (T : Table) {g : List Goal} {ts : List Term} {es : List Entry} → TreeTerms T g ts es → length (leaves es) ≤ 256 → ForestTerm T g (forest_term ts) es
unfolding forest
forest_term_lem T TT-None b = record { valid = V-Empty; same = refl; count = λ z. absurd (omega arith); bytes = λ z. absurd (omega arith) }
forest_term_lem T (TT-Tree {e = e} {es = es} x w) b = add_tree T x w (forest_term_lem T w (omega (arith, leaves_count e es))) b

use_forest : (T : Table) {a : RuleName} {γ : Goal} {h : List Goal} (f : Term) → Finds T a γ h → length (forest T f h) ≡ length h
    → forest T (sequence (atomic a) f) (γ ∷ []) ≡ (use_entry a γ ∷ entries (forest T f h)) ∷ []
unfolding forest
use_forest T {h = h} f e n = rw (e.1, append-nil (map open_entry h), leaves_opens h, substitute_opens h (forest T f h) n)

-- a use, over the terms of its premises' trees
use_term_lem : (T : Table) {a : RuleName} {γ : Goal} {h : List Goal} {ts : List Term} {es : List Entry}
    → Finds T a γ h → TreeTerms T h ts es → ForestTerm T h (forest_term ts) es → TreeTerm T γ (use_term a ts) (use_entry a γ ∷ es)
unfolding forest fields size
use_term_lem T e TT-None r = record { valid = V-Atomic e; same = rw e.1; count = refl; bytes = refl }
use_term_lem T {a = a} {γ = γ} {h = h} e (TT-Tree {t = t} {ts = ts} {e = d} {es = es} x w) r =
    let f = forest_term (t ∷ ts) in
    record {
      valid = V-Sequence (V-Atomic e) r.valid;
      same = use_forest T f e (trees_length (forest_of T r.valid).trees) ∙ ap {B = List Tree} (λ l. (use_entry a γ ∷ l) ∷ []) r.same;
      count = omega (arith, r.count (omega (arith, x.count, length-append d es)));
      bytes = omega (arith, r.bytes (omega (arith, x.count, length-append d es)));
    }

-- the terms of the first goals' trees, and of the others'
record SplitTerms (T : Table) (h g : List Goal) (ts : List Term) (es : List Entry) : Type 0 where
  front : List Entry
  back : List Entry
  front_terms : TreeTerms T h (take (length h) ts) front
  back_terms : TreeTerms T g (drop (length h) ts) back
  whole : front ++ back ≡ es

split_terms : (T : Table) (h g : List Goal) {ts : List Term} {es : List Entry} → TreeTerms T (h ++ g) ts es → SplitTerms T h g ts es
split_terms T [] g {ts} {es} w = record { front = []; back = es; front_terms = TT-None; back_terms = w; whole = refl }
split_terms T (γ ∷ h) g (TT-Tree {e = e} x w) =
    let r = split_terms T h g w in
    record {
      front = e ++ r.front;
      back = r.back;
      front_terms = TT-Tree x r.front_terms;
      back_terms = r.back_terms;
      whole = append_assoc e r.front r.back ∙ ap {B = List Entry} (λ l. e ++ l) r.whole;
    }

leaf_term_lem : {T : Table} {γ : Goal} → TreeTerm T γ id (open_entry γ ∷ [])
unfolding forest fields size
leaf_term_lem = record { valid = V-Identity; same = refl; count = refl; bytes = refl }

tree_terms_lem : (T : Table) {g : List Goal} {es : List Entry} → Derives (Finds T) g es [] → length (leaves es) ≤ 256 → TreeTerms T g (tree_terms T es) es
unfolding tree_terms
tree_terms_lem T D-End b = TT-None
tree_terms_lem T (D-Open d) b = TT-Tree leaf_term_lem (tree_terms_lem T d (omega arith))
tree_terms_lem T (D-Use {a = a} {γ = γ} {g = g} {h = h} {es = es} e d) b =
    let s = split_terms T h g (tree_terms_lem T d b) in
    let all : length (leaves (s.front ++ s.back)) ≡ length (leaves es) = ap (λ (l : List Entry). length (leaves l)) s.whole in
    let r = forest_term_lem T s.front_terms (omega (arith, leaves_count s.front s.back)) in
    rw e.1
    (subst
    (λ l. TreeTerms T (γ ∷ g) (use_and_others a (length h) (tree_terms T es)) (use_entry a γ ∷ l))
    s.whole
    (TT-Tree (use_term_lem T e s.front_terms r) s.back_terms))

-- From a right derivation whose open leaves are at most 256:
module _ (T : Table) (p : ℕ) (g : List Goal) (es : List Entry) (right : flat_walk T p g es ≡ gives []) (limit : length (leaves es) ≤ 256) where
  all_of : ForestTerm T g (written T es) es
  unfolding written
  all_of = forest_term_lem T (tree_terms_lem T (flat_walk→derives T (Finds T) (finds_agrees T) p g es right) limit) limit

  -- the term written takes the roots to the open leaves in order
  pub written-walk : (q : ℕ) → walk T (written T es) q g ≡ gives (leaves es)
  written-walk q = validates→walk T (Finds T) (finds_agrees T) all_of.valid q

  -- its forest is the derivation
  pub written-forest : entries (forest T (written T es) g) ≡ es
  written-forest = all_of.same

  -- "One or more entries e make 2e − 1 term fields."
  pub written-fields : 0 < length es → fields (written T es) ≡ 2 * length es - 1
  written-fields z = omega (arith, all_of.count z)

  -- each use makes 8 bytes and each open 6, but for the 3 that no tensor or sequence needs
  pub written-size : 0 < length es → size (written T es) + 3 ≡ 8 * uses every_use es + 6 * length (leaves es)
  written-size z = all_of.bytes z

-- Flattened and written back: from a hiproof that the walk takes through and that leaves at most 256 goals, the term written takes the same goals
-- to the same goals, with the same flat derivation.
module _ (T : Table) (s : Term) (p : ℕ) (g h : List Goal) (walked : walk T s p g ≡ gives h) (limit : length h ≤ 256) where
  few : length (leaves (entries (forest T s g))) ≤ 256
  few = rw (forest-leaves T s p g h walked) limit

  pub back-walk : (q : ℕ) → walk T (written T (entries (forest T s g))) q g ≡ gives h
  back-walk q = written-walk T 0 g (entries (forest T s g)) (forest-right T s p g h walked 0) few q ∙ ap gives (forest-leaves T s p g h walked)

  pub back-forest : entries (forest T (written T (entries (forest T s g))) g) ≡ entries (forest T s g)
  back-forest = written-forest T 0 g (entries (forest T s g)) (forest-right T s p g h walked 0) few
