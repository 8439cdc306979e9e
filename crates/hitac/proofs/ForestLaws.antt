-- The forest of a hiproof that validates: a tree for each goal, open leaves that are the goals given, uses one for one, and labels that do not matter.
-- By induction over Fig. 2, with a sequence by the laws of substitution. Assumes nothing.
use native.Mathlib.Omega.{arith}
use mathlib.Core.Path.{◌≡◌, refl, sym, ap, ◌∙◌}
use mathlib.Core.Bool.{Bool}
use mathlib.Core.List.{List, ◌++◌, map, append-nil}
use lib.ListN.{length}
use lib.Seq.{take_at, drop_at}
use Rattle.format.specs.declared.values.RuleName.{RuleName}
use Rattle.format.specs.declared.values.Goal.{Goal}
use Rattle.format.specs.Terms.{Term, tensor}
use Rattle.tables.specs.Tables.{Table}
use Rattle.files.specs.Derivations.{open_entry}
use Rattle.hitac.specs.Premises.{Finds}
use Rattle.hitac.specs.Hiproofs.{input_arity, atomics, drop_labels}
use Rattle.hitac.specs.Validates.{AtMost256, Validates, V-Atomic, V-Identity, V-Label, V-Sequence, V-Tensor, V-Empty}
use Rattle.hitac.specs.Derives.{D-End, D-Open, D-Use}
use Rattle.hitac.specs.Forest.{entries, leaves, forest}
use Rattle.hitac.specs.Counts.{uses, every_use, taken}
use Rattle.hitac.proofs.ValidatesLaws.{arity_of}
use Rattle.hitac.proofs.DroppedLabels.{unlabelled}
use Rattle.hitac.proofs.WalkValidates.{finds_agrees, validates→walk}
use Rattle.hitac.proofs.Substitution.{leaves-append, entries-append, uses-append, entries-substitute, leaves-substitute_all, uses-substitute, leaves_opens, uses_opens}
use Rattle.hitac.proofs.DerivesLaws.{Trees, Trees-None, Trees-More, trees_append, trees_length, substitute_trees, opens_derive}

-- The hiproof takes g to h, with the rules that the look-up finds.
abbrev pub Takes : Table → Term → List Goal → List Goal → Type 0
Takes T s g h = Validates (Finds T) AtMost256 s g h

-- The forest of a tensor whose left part validates.
pub forest_tensor : (T : Table) {s : Term} (t : Term) {g₁ : List Goal} (g₂ : List Goal) {h₁ : List Goal} → Takes T s g₁ h₁
    → forest T (tensor s t) (g₁ ++ g₂) ≡ forest T s g₁ ++ forest T t g₂
unfolding forest
forest_tensor T {s} t {g₁} g₂ v = rw (take_at g₁ g₂ (input_arity s) (arity_of v), drop_at g₁ g₂ (input_arity s) (arity_of v))

-- A forest with a tree for each goal, whose open leaves are the goals given.
pub record ForestOf (T : Table) (s : Term) (g h : List Goal) : Type 0 where
  pub trees : Trees (Finds T) g (forest T s g)
  pub given_leaves : leaves (entries (forest T s g)) ≡ h

pub forest_of : (T : Table) {s : Term} {g h : List Goal} → Takes T s g h → ForestOf T s g h
unfolding forest
forest_of T (V-Atomic {h = h} e) =
    record {
      trees = rw e.1 (Trees-More (D-Use e (opens_derive h)) Trees-None);
      given_leaves = rw (e.1, append-nil (map open_entry h), leaves_opens h);
    }
forest_of T V-Identity = record { trees = Trees-More (D-Open D-End) Trees-None; given_leaves = refl }
forest_of T (V-Label v) = let w = forest_of T v in record { trees = w.trees; given_leaves = w.given_leaves }
forest_of T (V-Sequence {s = s} {t = t} {g = g} {h = h} v w) =
    let l = forest_of T v in
    let r = forest_of T w in
    let e = l.given_leaves in
    record {
      trees = rw e (substitute_trees l.trees (rw e r.trees));
      given_leaves =
          rw (e, entries-substitute (forest T s g) (forest T t h))
          (leaves-substitute_all (entries (forest T s g)) (forest T t h) (trees_length r.trees ∙ ap length (sym e)) ∙ r.given_leaves);
    }
forest_of T (V-Tensor {s = s} {t = t} {g₁ = g₁} {g₂ = g₂} v w f) =
    let l = forest_of T v in
    let r = forest_of T w in
    record {
      trees = rw (forest_tensor T t g₂ v) (trees_append l.trees r.trees);
      given_leaves =
          rw (forest_tensor T t g₂ v, entries-append (forest T s g₁) (forest T t g₂), leaves-append, l.given_leaves, r.given_leaves);
    }
forest_of T V-Empty = record { trees = Trees-None; given_leaves = refl }

-- ONE FOR ONE: as many uses carry a rule name and a goal as atomic fields of that name take that goal in the walk.
pub one_for_one : (T : Table) (c : RuleName → Goal → Bool) {s : Term} {g h : List Goal} → Takes T s g h
    → uses c (entries (forest T s g)) ≡ taken c T s g
unfolding forest taken
one_for_one T c (V-Atomic {h = h} e) = rw (e.1, append-nil (map open_entry h), uses_opens c h) (omega arith)
one_for_one T c V-Identity = refl
one_for_one T c (V-Label v) = one_for_one T c v
one_for_one T c (V-Sequence {s = s} {t = t} {g = g} {h = h} v w) =
    let l = forest_of T v in
    let r = forest_of T w in
    let n = trees_length r.trees ∙ ap length (sym l.given_leaves) in
    rw (
      l.given_leaves,
      entries-substitute (forest T s g) (forest T t h),
      uses-substitute c (entries (forest T s g)) (forest T t h) n,
      validates→walk T (Finds T) (finds_agrees T) v 0,
      one_for_one T c v,
      one_for_one T c w,
    )
one_for_one T c (V-Tensor {s = s} {t = t} {g₁ = g₁} {g₂ = g₂} v w f) =
    rw (
      take_at g₁ g₂ (input_arity s) (arity_of v),
      drop_at g₁ g₂ (input_arity s) (arity_of v),
      entries-append (forest T s g₁) (forest T t g₂),
      uses-append c (entries (forest T s g₁)) (entries (forest T t g₂)),
      one_for_one T c v,
      one_for_one T c w,
    )
one_for_one T c V-Empty = refl

-- Every atomic field is walked once.
pub taken_all : (T : Table) {s : Term} {g h : List Goal} → Takes T s g h → taken every_use T s g ≡ atomics s
unfolding taken atomics
taken_all T (V-Atomic e) = refl
taken_all T V-Identity = refl
taken_all T (V-Label v) = taken_all T v
taken_all T (V-Sequence v w) = rw (validates→walk T (Finds T) (finds_agrees T) v 0, taken_all T v, taken_all T w)
taken_all T (V-Tensor {s = s} {g₁ = g₁} {g₂ = g₂} v w f) =
    rw (take_at g₁ g₂ (input_arity s) (arity_of v), drop_at g₁ g₂ (input_arity s) (arity_of v), taken_all T v, taken_all T w)
taken_all T V-Empty = refl

-- Without its labels a hiproof has the same forest.
pub unlabelled_forest : (T : Table) {s : Term} {g h : List Goal} → Takes T s g h → forest T (drop_labels s) g ≡ forest T s g
unfolding drop_labels forest
unlabelled_forest T (V-Atomic e) = refl
unlabelled_forest T V-Identity = refl
unlabelled_forest T (V-Label v) = unlabelled_forest T v
unlabelled_forest T (V-Sequence v w) = rw (unlabelled_forest T v, (forest_of T v).given_leaves, unlabelled_forest T w)
unlabelled_forest T (V-Tensor {t = t} {g₂ = g₂} v w f) =
    forest_tensor T (drop_labels t) g₂ (unlabelled v) ∙ rw (unlabelled_forest T v, unlabelled_forest T w) (sym (forest_tensor T t g₂ v))
unlabelled_forest T V-Empty = refl
