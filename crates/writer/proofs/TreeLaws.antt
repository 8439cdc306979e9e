-- Trees that are planned: which term is written for them, and which trees stand in them. By the cases of the derivation: no goal is pending, an open, a use.
-- Assumes nothing.
use Prim.Native.Nat.{ℕ, ◌+◌, ◌-◌, ◌≤◌, ◌<◌}
use mathlib.Core.Path.{◌≡◌, refl, sym, ap, subst, ◌∙◌}
use mathlib.Core.List.{List, [], ◌∷◌, ◌++◌, append-nil}
use native.Mathlib.Omega.{arith}
use lib.ListN.{length, get_or, drop, length-append, length-drop}
use lib.Seq.{take_all}
use Rattle.words.specs.Word.{word}
use Rattle.format.specs.declared.values.Goal.{Goal}
use Rattle.format.specs.declared.values.RuleName.{RuleName}
use Rattle.format.specs.Values.{rule_name}
use Rattle.format.specs.Terms.{Term, atomic, id, sequence, tensor, empty}
use Rattle.tables.specs.Tables.{Table}
use Rattle.files.specs.Derivations.{Entry, use_entry, open_entry}
use Rattle.hitac.specs.Premises.{Finds}
use Rattle.hitac.specs.Forest.{premises_of}
use Rattle.hitac.specs.Derives.{Derives, D-End, D-Open, D-Use}
use Rattle.hitac.specs.Write.{forest_term, use_term, tree_terms, written}
use Rattle.hitac.proofs.DerivesLaws.{Parted, parted}
use Rattle.hitac.proofs.TreeTermLaws.{tree_terms-append, tree_terms-length}
use Rattle.writer.specs.Plan.{plan_size, open_mark, behind, Planned}
use Rattle.writer.specs.Trees.{Trees, term_of, end_of}
use Rattle.writer.proofs.PlanLaws.{planned_at, planned_apart}

-- no pending goals, no entries
no_entries : (T : Table) {g : List Goal} {es : List Entry} → Derives (Finds T) g es [] → length g ≡ 0 → es ≡ []
no_entries T D-End z = refl
no_entries T (D-Open d) z = absurd (omega arith)
no_entries T (D-Use e d) z = absurd (omega arith)

none : {A : Type 0} (l : List A) → length l ≡ 0 → l ≡ []
none [] e = refl
none (x ∷ l) e = absurd (omega arith)

-- one tree: an open leaf, or a use and its premises' trees
data OneTree (T : Table) (p : List ℕ) (at : ℕ) : List Entry → Type 0 where
  open_tree : {γ : Goal} → get_or p (at + 2) 0 ≡ open_mark → OneTree T p at (open_entry γ ∷ [])
  use_tree : {a : RuleName} {γ : Goal} {h : List Goal} {es : List Entry} → word p at ≡ a.0 → get_or p (at + 2) 0 ≡ length h → length h < open_mark → Finds T a γ h
      → Planned T p (at + 3) es → Derives (Finds T) h es [] → OneTree T p at (use_entry a γ ∷ es)

last_open : (T : Table) (p : List ℕ) (at : ℕ) (γ : Goal) (es : List Entry) → es ≡ [] → get_or p (at + 2) 0 ≡ open_mark → OneTree T p at (open_entry γ ∷ es)
last_open T p at γ es e m = subst (λ (r : List Entry). OneTree T p at (open_entry γ ∷ r)) (sym e) (open_tree m)

premises_count : (T : Table) (a : RuleName) (γ : Goal) (h : List Goal) → Finds T a γ h → length (premises_of T a γ) ≡ length h
premises_count T a γ h e = rw e.1

one_tree : (T : Table) (p : List ℕ) (at : ℕ) {g : List Goal} {es : List Entry} → Planned T p at es → Derives (Finds T) g es [] → length g ≡ 1 → OneTree T p at es
unfolding Planned
one_tree T p at pl D-End n = absurd (omega arith)
one_tree T p at pl (D-Open {γ = γ} {es = es} d) n = last_open T p at γ es (no_entries T d (omega arith)) pl.0
one_tree T p at pl (D-Use {a = a} {γ = γ} {g = g} {h = h} {es = es} e d) n =
    let z : g ≡ [] = none g (omega arith) in
    let d' : Derives (Finds T) h es [] = subst (λ (x : List Goal). Derives (Finds T) x es []) (ap {B = List Goal} (λ x. h ++ x) z ∙ append-nil h) d in
    let c : length (premises_of T a γ) ≡ length h = premises_count T a γ h e in
    use_tree pl.0 (pl.1 ∙ c) (subst (λ (k : ℕ). k < open_mark) c pl.2) e pl.3 d'

-- the terms of a use's premises are all that stand behind it
written_use : (T : Table) (a : RuleName) (γ : Goal) (h : List Goal) (es : List Entry) → Finds T a γ h → Derives (Finds T) h es []
    → written T (use_entry a γ ∷ es) ≡ use_term a (tree_terms T es)
unfolding written tree_terms
written_use T a γ h es e d =
    let n : length (tree_terms T es) ≡ length h = tree_terms-length T d in
    let r : drop (length h) (tree_terms T es) ≡ [] = none (drop (length h) (tree_terms T es)) (omega (arith, length-drop (length h) (tree_terms T es))) in
    rw (e.1, r, take_all (length h) (tree_terms T es) (omega arith))

use_none : (T : Table) (a : RuleName) (es : List Entry) → es ≡ [] → use_term a (tree_terms T es) ≡ atomic a
unfolding tree_terms
use_none T a es e = rw e

use_terms : (a : RuleName) (ts : List Term) → 0 < length ts → use_term a ts ≡ sequence (atomic a) (forest_term ts)
use_terms a [] z = absurd (omega arith)
use_terms a (t ∷ ts) z = refl

use_some : (T : Table) (a : RuleName) (es : List Entry) → 0 < length (tree_terms T es) → use_term a (tree_terms T es) ≡ sequence (atomic a) (written T es)
unfolding written
use_some T a es z = use_terms a (tree_terms T es) z

abbrev pub moved : {p : List ℕ} {at at' n : ℕ} → at ≡ at' → Trees p at n → Trees p at' n
moved {p = p} e q =
    record {
      table = q.table;
      goals = q.goals;
      count = q.count;
      entries = q.entries;
      planned = planned_at q.table p q.entries e q.planned;
      inside = subst (λ (k : ℕ). behind k q.entries ≤ plan_size) e q.inside;
      right = q.right;
    }

-- no trees
module _ {p : List ℕ} {at n : ℕ} (q : Trees p at n) where
  none_entries : n ≡ 0 → q.entries ≡ []
  none_entries z = no_entries q.table q.right (q.count ∙ z)

  pub none_term : n ≡ 0 → (term_of q ≡ empty) × (at ≡ end_of q)
  unfolding written tree_terms
  none_term z = (rw (none_entries z), omega (arith, ap length (none_entries z)))

module _ {p : List ℕ} {at : ℕ} (q : Trees p at 1) where
  abbrev the_tree : OneTree q.table p at q.entries
  the_tree = one_tree q.table p at q.planned q.right q.count

  -- the first entry's plan stands before the end
  pub tree_ahead : at + 3 ≤ end_of q
  tree_ahead = go the_tree
    where
      go : {es : List Entry} → OneTree q.table p at es → at + 3 ≤ behind at es
      go (open_tree m) = omega arith
      go (use_tree w c f e pl d) = omega arith

  pub tree_inside : at + 3 ≤ plan_size
  tree_inside = omega (arith, tree_ahead, q.inside)

  pub tree_open : get_or p (at + 2) 0 ≡ open_mark → (term_of q ≡ id) × (at + 3 ≡ end_of q)
  tree_open mark = go the_tree
    where
      go : {es : List Entry} → OneTree q.table p at es → (written q.table es ≡ id) × (at + 3 ≡ behind at es)
      go (open_tree m) = unfold written tree_terms in (refl, omega arith)
      go (use_tree w c f e pl d) = absurd (omega (arith, mark, c, f))

-- a use: the trees of its premises, and its term
pub record UseTree (p : List ℕ) (at : ℕ) (q : Trees p at 1) (count : ℕ) : Type 0 where
  pub inner : Trees p (at + 3) count
  pub passes : end_of inner ≡ end_of q
  pub term_none : count ≡ 0 → (term_of q ≡ atomic (rule_name (word p at))) × (at + 3 ≡ end_of q)
  pub term_some : (count ≡ 0 → ⊥) → term_of q ≡ sequence (atomic (rule_name (word p at))) (term_of inner)

pub name_path : {a b : RuleName} → a.0 ≡ b.0 → a ≡ b
name_path e = λ i. record { 0 = e i }

pub use_of : {p : List ℕ} {at : ℕ} (q : Trees p at 1) (count : ℕ) → count ≡ get_or p (at + 2) 0 → (count ≡ open_mark → ⊥) → UseTree p at q count
use_of {p} {at} q count e notOpen = go q.entries q.goals q.count q.planned q.inside q.right (the_tree q)
  where
    go : (es : List Entry) (gs : List Goal) (n : length gs ≡ 1) (pl : Planned q.table p at es) (i : behind at es ≤ plan_size) (r : Derives (Finds q.table) gs es []) → OneTree q.table p at es
        → UseTree p at (record { table = q.table; goals = gs; count = n; entries = es; planned = pl; inside = i; right = r }) count
    go _ gs n pl i r (open_tree m) = absurd (notOpen (e ∙ m))
    go _ gs n pl i r (use_tree {a = a} {γ = γ} {h = h} {es = es} w c f found pl' d) =
        let T = q.table in
        let na : rule_name (word p at) ≡ a = name_path w in
        let k : count ≡ length h = e ∙ c in
        let t : written T (use_entry a γ ∷ es) ≡ use_term a (tree_terms T es) = written_use T a γ h es found d in
        let in' : Trees p (at + 3) count = record { table = T; goals = h; count = sym k; entries = es; planned = pl'; inside = omega (arith, i); right = d } in
        record {
          inner = in';
          passes = omega arith;
          term_none = λ z.
              let empty-handed = no_entries T d (sym k ∙ z) in
              (t ∙ use_none T a es empty-handed ∙ ap atomic (sym na), omega (arith, ap length empty-handed));
          term_some = λ z.
              t ∙ use_some T a es (omega (arith, tree_terms-length T d)) ∙ ap (λ (x : RuleName). sequence (atomic x) (written T es)) (sym na);
        }

-- one tree or more: the first and the others
pub record Several (p : List ℕ) (at n : ℕ) (q : Trees p at n) : Type 0 where
  pub first : Trees p at 1
  pub others : Trees p (end_of first) (n - 1)
  pub passes : end_of others ≡ end_of q
  pub term_one : n ≡ 1 → (term_of q ≡ term_of first) × (end_of first ≡ end_of q)
  pub term_more : 2 ≤ n → term_of q ≡ tensor (term_of first) (term_of others)

join_terms : (a b : List Term) → length a ≡ 1 → 1 ≤ length b → forest_term (a ++ b) ≡ tensor (forest_term a) (forest_term b)
join_terms [] b e h = absurd (omega arith)
join_terms (t ∷ []) [] e h = absurd (omega arith)
join_terms (t ∷ []) (u ∷ b) e h = refl
join_terms (t ∷ u ∷ a) b e h = absurd (omega arith)

several_terms : (T : Table) (g k : List Goal) (front back : List Entry) → Derives (Finds T) g front [] → Derives (Finds T) k back [] → length g ≡ 1 → 1 ≤ length k
    → written T (front ++ back) ≡ tensor (written T front) (written T back)
unfolding written
several_terms T g k front back d m e h =
    ap forest_term (tree_terms-append T d back)
    ∙ join_terms (tree_terms T front) (tree_terms T back) (tree_terms-length T d ∙ e) (omega (arith, tree_terms-length T m))

pub several : {p : List ℕ} {at n : ℕ} (q : Trees p at n) → 1 ≤ n → Several p at n q
several {p} {at} {n} q some = go q.goals q.entries q.count q.planned q.inside q.right
  where
    go : (gs : List Goal) (es : List Entry) (c : length gs ≡ n) (pl : Planned q.table p at es) (i : behind at es ≤ plan_size) (r : Derives (Finds q.table) gs es [])
        → Several p at n (record { table = q.table; goals = gs; count = c; entries = es; planned = pl; inside = i; right = r })
    go [] es c pl i r = absurd (omega arith)
    go (γ ∷ gs) es c pl i r =
        let T = q.table in
        let x : Parted (Finds T) (γ ∷ []) gs es = parted es (γ ∷ []) gs r in
        let parts = planned_apart T p x.front x.back at (subst (Planned T p at) (sym x.whole) pl) in
        let size : length x.front + length x.back ≡ length es = sym (length-append x.front x.back) ∙ ap length x.whole in
        let whole : written T es ≡ written T (x.front ++ x.back) = ap (written T) (sym x.whole) in
        record {
          first = record { table = T; goals = γ ∷ []; count = refl; entries = x.front; planned = parts.0; inside = omega (arith, i); right = x.front_derives };
          others = record { table = T; goals = gs; count = omega arith; entries = x.back; planned = parts.1; inside = omega (arith, i); right = x.back_derives };
          passes = omega arith;
          term_one = λ e.
              let nothing : x.back ≡ [] = no_entries T x.back_derives (omega arith) in
              (whole ∙ ap (written T) (ap {B = List Entry} (λ l. x.front ++ l) nothing ∙ append-nil x.front), omega (arith, ap length nothing));
          term_more = λ e. whole ∙ several_terms T (γ ∷ []) gs x.front x.back x.front_derives x.back_derives refl (omega arith);
        }
