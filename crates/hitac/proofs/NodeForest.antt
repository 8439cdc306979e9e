-- What the nodes show after the walk over them is the forest, and the depth-first pass gives its entries. By induction over Fig. 2, with the
-- invariant `Flattened`: used cells stay, the nodes given are open and distinct, and trees at the nodes given are substituted into the forest.
-- Assumes nothing.
use Prim.Native.Nat.{ℕ, zero, suc, ◌+◌, ◌≤◌, ◌<◌}
use native.Mathlib.Omega.{arith}
use native.Mathlib.Nat.{lt_of_not-le, zero-add, suc-add, add_assoc}
use mathlib.Core.Path.{◌≡◌, refl, sym, ap, ◌∙◌, subst, subst₂}
use mathlib.Core.Logic.{◌⊎◌, inl, inr, ⊎_elim}
use mathlib.Core.List.Memᴰ
use mathlib.Core.List.{List, [], ◌∷◌, ◌++◌, map, append_assoc, append-nil, Memᴰ}
use lib.ListN.{length, take, drop, set, length-append, length-set, take-append-drop, get_or-append, get_or-eq_default}
use lib.Seq.{get_or-set_same, get_or-set_other, get_or-append_seam, append_snoc}
use Rattle.format.specs.declared.values.RuleName.{RuleName}
use Rattle.format.specs.declared.values.Goal.{Goal}
use Rattle.format.specs.Results.{gives}
use Rattle.format.specs.Terms.{Term, atomic, sequence, tensor}
use Rattle.tables.specs.Tables.{Table}
use Rattle.files.specs.Derivations.{Entry, use_entry, open_entry}
use Rattle.hitac.specs.Premises.{Finds}
use Rattle.hitac.specs.Hiproofs.{input_arity}
use Rattle.hitac.specs.Validates.{V-Atomic, V-Identity, V-Label, V-Sequence, V-Tensor, V-Empty}
use Rattle.hitac.specs.Walk.{walk}
use Rattle.hitac.specs.Forest.{Tree, entries, substitute_forest, forest}
use Rattle.hitac.proofs.ValidatesLaws.{arity_of}
use Rattle.hitac.proofs.WalkValidates.{finds_agrees, walk→validates}
use Rattle.hitac.proofs.Substitution.{substitute_opens, substitute_forest_assoc, substitute_forest-append, substitute_open_trees, open_trees}
use Rattle.hitac.proofs.DerivesLaws.{trees_length}
use Rattle.hitac.proofs.ForestLaws.{Takes, forest_of, forest_tensor}
use Rattle.hitac.proofs.Nodes.{Cell, open_cell, use_cell, cell_at, no_cell, range, NodeWalk, mark_use, node_walk, Shows, Shows-None, Shows-Open, Shows-Use, node_entries}

-- Use cells stay.
abbrev pub Extends : List Cell → List Cell → Type 0
Extends A B = (n : ℕ) (a : RuleName) (γ : Goal) (f c : ℕ) → cell_at A n ≡ use_cell a γ f c → cell_at B n ≡ use_cell a γ f c

-- The nodes are open, with those goals.
pub data Opens (A : List Cell) : List ℕ → List Goal → Type 0 where
  Opens-None : Opens A [] []
  Opens-Node : {n : ℕ} {ns : List ℕ} {γ : Goal} {g : List Goal} → n < length A → cell_at A n ≡ open_cell γ → Opens A ns g → Opens A (n ∷ ns) (γ ∷ g)

-- the node is in the list
abbrev pub In : ℕ → List ℕ → Type 0
In n ns = Memᴰ n ns

-- no node is twice in the list
abbrev pub Distinct : List ℕ → Type 0
Distinct [] = Unit {0}
Distinct (n ∷ ns) = (In n ns → ⊥) × Distinct ns

distinct_append : (ns ms : List ℕ) → Distinct ns → Distinct ms → ((n : ℕ) → In n ns → In n ms → ⊥) → Distinct (ns ++ ms)
distinct_append [] ms p q d = q
distinct_append (n ∷ ns) ms p q d = (
  (λ m. ⊎_elim p.0 (d n (Memᴰ.head refl)) (Memᴰ.append_cases ns m)),
  distinct_append ns ms p.1 q (λ k i j. d k (Memᴰ.tail i) j),
)

distinct_left : (ns ms : List ℕ) → Distinct (ns ++ ms) → Distinct ns
distinct_left [] ms d = tt
distinct_left (n ∷ ns) ms d = ((λ i. d.0 (Memᴰ.append_left ms i)), distinct_left ns ms d.1)

distinct_right : (ns ms : List ℕ) → Distinct (ns ++ ms) → Distinct ms
distinct_right [] ms d = d
distinct_right (n ∷ ns) ms d = distinct_right ns ms d.1

distinct_apart : (ns ms : List ℕ) → Distinct (ns ++ ms) → (k : ℕ) → In k ns → In k ms → ⊥
distinct_apart [] ms d k i j = Memᴰ.not-nil i
distinct_apart (n ∷ ns) ms d k i j =
    ⊎_elim (λ e. d.0 (rw (← e) (Memᴰ.append_right ns j))) (λ q. distinct_apart ns ms d.1 k q j) (Memᴰ.cases_cons i)

in_range : (f c m : ℕ) → In m (range f c) → f ≤ m
in_range f zero m i = absurd (Memᴰ.not-nil i)
in_range f (suc c) m i = ⊎_elim (λ (e : m ≡ f). omega arith) (λ q. let h = in_range (suc f) c m q in omega arith) (Memᴰ.cases_cons i)

distinct_range : (f c : ℕ) → Distinct (range f c)
distinct_range f zero = tt
distinct_range f (suc c) = ((λ i. let h = in_range (suc f) c f i in omega arith), distinct_range (suc f) c)

opens_length : {A : List Cell} {ns : List ℕ} {g : List Goal} → Opens A ns g → length ns ≡ length g
opens_length Opens-None = refl
opens_length (Opens-Node l e o) = ap suc (opens_length o)

opens_append : {A : List Cell} {ns ms : List ℕ} {g h : List Goal} → Opens A ns g → Opens A ms h → Opens A (ns ++ ms) (g ++ h)
opens_append Opens-None q = q
opens_append (Opens-Node l e o) q = Opens-Node l e (opens_append o q)

opens_take : {A : List Cell} (g h : List Goal) {ns : List ℕ} → Opens A ns (g ++ h) → Opens A (take (length g) ns) g
opens_take [] h o = Opens-None
opens_take (γ ∷ g) h (Opens-Node l e o) = Opens-Node l e (opens_take g h o)

opens_drop : {A : List Cell} (g h : List Goal) {ns : List ℕ} → Opens A ns (g ++ h) → Opens A (drop (length g) ns) h
opens_drop [] h o = o
opens_drop (γ ∷ g) h (Opens-Node l e o) = opens_drop g h o

longer_by_one : (P : List Cell) (c : Cell) → length (P ++ (c ∷ [])) ≡ suc (length P)
longer_by_one P c = omega (arith, length-append P (c ∷ []))

-- the new nodes of a row of premises
opens_new : (P : List Cell) (h : List Goal) → Opens (P ++ map open_cell h) (range (length P) (length h)) h
opens_new P [] = Opens-None
opens_new P (γ ∷ h) =
    Opens-Node {n = length P}
    (omega (arith, length-append P (open_cell γ ∷ map open_cell h)))
    (get_or-append_seam P (open_cell γ) (map open_cell h) no_cell)
    (subst₂
    (λ (A : List Cell) (f : ℕ). Opens A (range f (length h)) h)
    (append_snoc P (open_cell γ) (map open_cell h))
    (longer_by_one P (open_cell γ))
    (opens_new (P ++ (open_cell γ ∷ [])) h))

opens_bound : {A : List Cell} {ns : List ℕ} {g : List Goal} → Opens A ns g → (m : ℕ) → In m ns → m < length A
opens_bound Opens-None m i = absurd (Memᴰ.not-nil i)
opens_bound (Opens-Node {n = n} l e o) m i = ⊎_elim (λ (q : m ≡ n). omega arith) (λ q. opens_bound o m q) (Memᴰ.cases_cons i)

opens_kept : {A B : List Cell} {ns : List ℕ} {g : List Goal} → Opens A ns g → length A ≤ length B
    → ((m : ℕ) → In m ns → cell_at B m ≡ cell_at A m) → Opens B ns g
opens_kept Opens-None l k = Opens-None
opens_kept (Opens-Node {n = n} b e o) l k = Opens-Node {n = n} (omega arith) (k n (Memᴰ.head refl) ∙ e) (opens_kept o l (λ m i. k m (Memᴰ.tail i)))

opens_show : {A : List Cell} {ns : List ℕ} {g : List Goal} → Opens A ns g → Shows A ns (open_trees g)
opens_show Opens-None = Shows-None
opens_show (Opens-Node b e o) = Shows-Open e (opens_show o)

shows_length : {A : List Cell} {ns : List ℕ} {ts : List Tree} → Shows A ns ts → length ts ≡ length ns
shows_length Shows-None = refl
shows_length (Shows-Open e w) = ap suc (shows_length w)
shows_length (Shows-Use e v w) = ap suc (shows_length w)

shows_append : {A : List Cell} {ns ms : List ℕ} {ts us : List Tree} → Shows A ns ts → Shows A ms us → Shows A (ns ++ ms) (ts ++ us)
shows_append Shows-None v = v
shows_append (Shows-Open e w) v = Shows-Open e (shows_append w v)
shows_append (Shows-Use e x w) v = Shows-Use e x (shows_append w v)

record Halves (A : List Cell) (ns ms : List ℕ) (ts : List Tree) : Type 0 where
  us : List Tree
  vs : List Tree
  whole : us ++ vs ≡ ts
  first_shows : Shows A ns us
  second_shows : Shows A ms vs

halves : {A : List Cell} (ns ms : List ℕ) {ts : List Tree} → Shows A (ns ++ ms) ts → Halves A ns ms ts
halves [] ms {ts} w = record { us = []; vs = ts; whole = refl; first_shows = Shows-None; second_shows = w }
halves (n ∷ ns) ms (Shows-Open {γ = γ} e w) =
    let h = halves ns ms w in
    record {
      us = (open_entry γ ∷ []) ∷ h.us;
      vs = h.vs;
      whole = ap {B = List Tree} (λ l. (open_entry γ ∷ []) ∷ l) h.whole;
      first_shows = Shows-Open e h.first_shows;
      second_shows = h.second_shows;
    }
halves (n ∷ ns) ms (Shows-Use {a = a} {γ = γ} {us = us} e x w) =
    let h = halves ns ms w in
    record {
      us = (use_entry a γ ∷ entries us) ∷ h.us;
      vs = h.vs;
      whole = ap {B = List Tree} (λ l. (use_entry a γ ∷ entries us) ∷ l) h.whole;
      first_shows = Shows-Use e x h.first_shows;
      second_shows = h.second_shows;
    }

range_length : (f c : ℕ) → length (range f c) ≡ c
range_length f zero = refl
range_length f (suc c) = ap suc (range_length (suc f) c)

-- What a walk over the nodes ns leaves: the invariant.
pub record Flattened (T : Table) (s : Term) (g h : List Goal) (A : List Cell) (ns : List ℕ) (r : NodeWalk) : Type 0 where
  pub extends : Extends A r.cells
  pub longer : length A ≤ length r.cells
  pub keeps : (m : ℕ) → m < length A → (In m ns → ⊥) → cell_at r.cells m ≡ cell_at A m
  pub opens : Opens r.cells r.nodes h
  pub distinct : Distinct r.nodes
  pub origin : (m : ℕ) → In m r.nodes → In m ns ⊎ (length A ≤ m)
  pub shows : (B : List Cell) → Extends r.cells B → (us : List Tree) → Shows B r.nodes us → Shows B ns (substitute_forest (forest T s g) us)

open_use : {γ δ : Goal} {a : RuleName} {f c : ℕ} (x : Cell) → x ≡ open_cell γ → x ≡ use_cell a δ f c → ⊥
open_use x p q = let z : ◌≡◌ {A = ℕ} 0 1 = cc in omega arith

use_inside : (A : List Cell) (m : ℕ) {a : RuleName} {γ : Goal} {f c : ℕ} → cell_at A m ≡ use_cell a γ f c → m < length A
use_inside A m e = lt_of_not-le (λ l. open_use (cell_at A m) (get_or-eq_default A no_cell l) e)

module _ (T : Table) (a : RuleName) (γ : Goal) (h : List Goal) (rl : Finds T a γ h) (A : List Cell) (n : ℕ) (inside : n < length A) (here : cell_at A n ≡ open_cell γ) where
  abbrev made : List Cell
  made = (mark_use a A n γ h).cells

  kept : (m : ℕ) → m < length A → (m ≡ n → ⊥) → cell_at made m ≡ cell_at A m
  kept m l d =
      let e = length-set A n (use_cell a γ (length A) (length h)) in
      get_or-append (set A n (use_cell a γ (length A) (length h))) (map open_cell h) no_cell m (omega arith)
      ∙ get_or-set_other A n m (use_cell a γ (length A) (length h)) no_cell d

  marked_here : cell_at made n ≡ use_cell a γ (length A) (length h)
  marked_here =
      let e = length-set A n (use_cell a γ (length A) (length h)) in
      get_or-append (set A n (use_cell a γ (length A) (length h))) (map open_cell h) no_cell n (omega arith)
      ∙ get_or-set_same A n (use_cell a γ (length A) (length h)) no_cell inside

  marked : Flattened T (atomic a) (γ ∷ []) h A (n ∷ []) (mark_use a A n γ h)
  unfolding forest
  marked =
      record {
        extends = λ m b δ f c e. kept m (use_inside A m e) (λ q. open_use (cell_at A m) (ap (λ (x : ℕ). cell_at A x) q ∙ here) e) ∙ e;
        longer =
            omega (
              arith,
              length-append (set A n (use_cell a γ (length A) (length h))) (map open_cell h),
              length-set A n (use_cell a γ (length A) (length h)),
            );
        keeps = λ m l d. kept m l (λ q. d (Memᴰ.head q));
        opens = rw (length-set A n (use_cell a γ (length A) (length h))) at (opens_new (set A n (use_cell a γ (length A) (length h))) h);
        distinct = distinct_range (length A) (length h);
        origin = λ m i. inr (in_range (length A) (length h) m i);
        shows =
            λ B x us w. rw
            (rl.1, substitute_opens h us (shows_length w ∙ range_length (length A) (length h)))
            (Shows-Use (x n a γ (length A) (length h) marked_here) w Shows-None);
      }

-- one walk after another
flattened_sequence : (T : Table) {s t : Term} {g h k : List Goal} {A : List Cell} {ns : List ℕ} {q r : NodeWalk} → Takes T s g h → Takes T t h k
    → Flattened T s g h A ns q → Flattened T t h k q.cells q.nodes r → Flattened T (sequence s t) g k A ns r
unfolding forest
flattened_sequence T {s} {t} {g} {h} {k} {A} {ns} {q} {r} v w x y =
    record {
      extends = λ m b δ f c e. y.extends m b δ f c (x.extends m b δ f c e);
      longer = omega (arith, x.longer, y.longer);
      keeps =
          λ m l d. y.keeps m (omega (arith, x.longer)) (λ i. ⊎_elim d (λ (z : length A ≤ m). omega arith) (x.origin m i))
          ∙ x.keeps m l d;
      opens = y.opens;
      distinct = y.distinct;
      origin = λ m i. ⊎_elim (x.origin m) (λ (z : length q.cells ≤ m). inr (omega (arith, x.longer))) (y.origin m i);
      shows =
          λ B e us z. rw (
            (forest_of T v).given_leaves,
            substitute_forest_assoc (forest T s g) (forest T t h) us
                (omega (arith, trees_length (forest_of T w).trees, ap length (forest_of T v).given_leaves)),
          )
          (x.shows B (λ m b δ f c p. e m b δ f c (y.extends m b δ f c p)) (substitute_forest (forest T t h) us) (y.shows B e us z));
    }

-- two walks side by side
flattened_tensor : (T : Table) {s t : Term} {g₁ g₂ h₁ h₂ : List Goal} {A : List Cell} {ns ms : List ℕ} {q r : NodeWalk} → Takes T s g₁ h₁
    → Opens A ns g₁ → Opens A ms g₂ → Distinct (ns ++ ms)
    → Flattened T s g₁ h₁ A ns q → Flattened T t g₂ h₂ q.cells ms r
    → Flattened T (tensor s t) (g₁ ++ g₂) (h₁ ++ h₂) A (ns ++ ms) (record { cells = r.cells; nodes = q.nodes ++ r.nodes })
flattened_tensor T {s} {t} {g₁} {g₂} {h₁} {h₂} {A} {ns} {ms} {q} {r} v o p d x y =
    record {
      extends = λ m b δ f c e. y.extends m b δ f c (x.extends m b δ f c e);
      longer = omega (arith, x.longer, y.longer);
      keeps =
          λ m l z. y.keeps m (omega (arith, x.longer)) (λ i. z (Memᴰ.append_right ns i)) ∙ x.keeps m l (λ i. z (Memᴰ.append_left ms i));
      opens = opens_append (opens_kept x.opens y.longer (λ m i. y.keeps m (opens_bound x.opens m i) (apart m i))) y.opens;
      distinct =
          distinct_append q.nodes r.nodes x.distinct y.distinct
          (λ m i j. ⊎_elim (apart m i) (λ (z : length q.cells ≤ m). omega (arith, opens_bound x.opens m i)) (y.origin m j));
      origin =
          λ m i. ⊎_elim
          (λ j. ⊎_elim (λ z. inl (Memᴰ.append_left ms z)) (λ z. inr z) (x.origin m j))
          (λ j. ⊎_elim (λ z. inl (Memᴰ.append_right ns z)) (λ (z : length q.cells ≤ m). inr (omega (arith, x.longer))) (y.origin m j))
          (Memᴰ.append_cases q.nodes i);
      shows = λ B e us z. side B e (halves q.nodes r.nodes z);
    }
  where
    apart : (m : ℕ) → In m q.nodes → In m ms → ⊥
    apart m i j = ⊎_elim (λ z. distinct_apart ns ms d m z j) (λ (z : length A ≤ m). omega (arith, opens_bound p m j)) (x.origin m i)

    side : (B : List Cell) → Extends r.cells B → {us : List Tree} → Halves B q.nodes r.nodes us
        → Shows B (ns ++ ms) (substitute_forest (forest T (tensor s t) (g₁ ++ g₂)) us)
    side B e z =
        rw (
          ← z.whole,
          forest_tensor T t g₂ v,
          substitute_forest-append (forest T s g₁) (forest T t g₂) z.us z.vs
              (shows_length z.first_shows ∙ opens_length x.opens ∙ ap length (sym (forest_of T v).given_leaves)),
        )
        (shows_append (x.shows B (λ m b δ f c i. e m b δ f c (y.extends m b δ f c i)) z.us z.first_shows) (y.shows B e z.vs z.second_shows))

id_shows : {B : List Cell} {n : ℕ} (γ : Goal) {us : List Tree} → Shows B (n ∷ []) us → Shows B (n ∷ []) (substitute_forest ((open_entry γ ∷ []) ∷ []) us)
id_shows γ (Shows-Open e Shows-None) = Shows-Open e Shows-None
id_shows γ (Shows-Use {us = us} e w Shows-None) = rw (append-nil (entries us)) (Shows-Use e w Shows-None)

-- THE FLATTENER'S INVARIANT, for every hiproof that validates.
pub flattened : (T : Table) {s : Term} {g h : List Goal} → Takes T s g h → (A : List Cell) {ns : List ℕ} → Opens A ns g → Distinct ns
    → Flattened T s g h A ns (node_walk T s A ns)
unfolding node_walk forest
flattened T (V-Atomic {a = a} {γ = γ} {h = h} rl) A (Opens-Node {n = n} l e Opens-None) d = rw (e, rl.1) (marked T a γ h rl A n l e)
flattened T (V-Identity {γ = γ}) A (Opens-Node {n = n} l e Opens-None) d =
    record {
      extends = λ m b δ f c i. i;
      longer = omega arith;
      keeps = λ m i z. refl;
      opens = Opens-Node l e Opens-None;
      distinct = d;
      origin = λ m i. inl i;
      shows = λ B x us w. id_shows γ w;
    }
flattened T (V-Label v) A o d =
    let x = flattened T v A o d in
    record {
      extends = x.extends;
      longer = x.longer;
      keeps = x.keeps;
      opens = x.opens;
      distinct = x.distinct;
      origin = x.origin;
      shows = x.shows;
    }
flattened T (V-Sequence {s = s} v w) A {ns} o d =
    let x = flattened T v A o d in
    flattened_sequence T v w x (flattened T w (node_walk T s A ns).cells x.opens x.distinct)
flattened T (V-Tensor {s = s} {t = t} {g₁ = g₁} {g₂ = g₂} {h₁ = h₁} {h₂ = h₂} v w f) A {ns} o d =
    let i : Opens A (take (input_arity s) ns) g₁ = rw (← arity_of v) (opens_take g₁ g₂ o) in
    let j : Opens A (drop (input_arity s) ns) g₂ = rw (← arity_of v) (opens_drop g₁ g₂ o) in
    let c : Distinct (take (input_arity s) ns ++ drop (input_arity s) ns) = rw (take-append-drop (input_arity s) ns) d in
    let x = flattened T v A i (distinct_left (take (input_arity s) ns) (drop (input_arity s) ns) c) in
    let k : Opens (node_walk T s A (take (input_arity s) ns)).cells (drop (input_arity s) ns) g₂ =
    opens_kept j x.longer (λ m z. x.keeps m (opens_bound j m z) (λ u. distinct_apart (take (input_arity s) ns) (drop (input_arity s) ns) c m u z)) in
    let y = flattened T w (node_walk T s A (take (input_arity s) ns)).cells k (distinct_right (take (input_arity s) ns) (drop (input_arity s) ns) c) in
    subst
    (λ ks. Flattened T (tensor s t) (g₁ ++ g₂) (h₁ ++ h₂) A ks (node_walk T (tensor s t) A ns))
    (take-append-drop (input_arity s) ns)
    (flattened_tensor T v i j c x y)
flattened T V-Empty A Opens-None d =
    record {
      extends = λ m b δ f c i. i;
      longer = omega arith;
      keeps = λ m i z. refl;
      opens = Opens-None;
      distinct = tt;
      origin = λ m i. inl i;
      shows = λ B x us w. Shows-None;
    }

-- The depth-first pass gives what the nodes show.
pub shown_entries : (A : List Cell) {ns : List ℕ} {ts : List Tree} → Shows A ns ts → (k : ℕ) (ms : List ℕ)
    → node_entries (length (entries ts) + k) A (ns ++ ms) ≡ entries ts ++ node_entries k A ms
unfolding node_entries
shown_entries A Shows-None k ms = ap (λ (q : ℕ). node_entries q A ms) (zero-add k)
shown_entries A (Shows-Open {n = n} {ns = ns} {γ = γ} {ts = ts} e w) k ms =
    rw (suc-add (length (entries ts)) k, e) (ap {B = List Entry} (λ l. open_entry γ ∷ l) (shown_entries A w k ms))
shown_entries A (Shows-Use {n = n} {f = f} {c = c} {ns = ns} {a = a} {γ = γ} {us = us} {ts = ts} e v w) k ms =
    rw (
      suc-add (length (entries us ++ entries ts)) k,
      e,
      length-append (entries us) (entries ts),
      add_assoc (length (entries us)) (length (entries ts)) k,
      shown_entries A v (length (entries ts) + k) (ns ++ ms),
      shown_entries A w k ms,
      append_assoc (entries us) (entries ts) (node_entries k A ms),
    )

node_entries_none : (k : ℕ) (A : List Cell) → node_entries k A [] ≡ []
unfolding node_entries
node_entries_none zero A = refl
node_entries_none (suc k) A = refl

-- THE FLATTENER'S WAY IS RIGHT: from the stated goals as open nodes, the walk over nodes and then the depth-first pass give the forest's entries.
pub nodes_flatten : (T : Table) (s : Term) (p : ℕ) (g h : List Goal) → walk T s p g ≡ gives h → (k : ℕ)
    → node_entries (length (entries (forest T s g)) + k) (node_walk T s (map open_cell g) (range 0 (length g))).cells (range 0 (length g)) ≡ entries (forest T s g)
nodes_flatten T s p g h walked k =
    let v = walk→validates T (Finds T) (finds_agrees T) s p g walked in
    let x = flattened T v (map open_cell g) (opens_new [] g) (distinct_range 0 (length g)) in
    let B = (node_walk T s (map open_cell g) (range 0 (length g))).cells in
    let w : Shows B (range 0 (length g)) (forest T s g) =
    rw (rw (forest_of T v).given_leaves at (substitute_open_trees (forest T s g))) at (x.shows B (λ m b δ f c i. i) (open_trees h) (opens_show x.opens)) in
    let e : node_entries (length (entries (forest T s g)) + k) B (range 0 (length g) ++ []) ≡ entries (forest T s g) ++ node_entries k B [] = shown_entries B w k [] in
    rw (append-nil (range 0 (length g)), node_entries_none k B, append-nil (entries (forest T s g))) at e
