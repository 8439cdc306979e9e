-- What the walk over nodes leaves, of a hiproof that validates: nodes keep their goals, the nodes given carry the goals given, there is one node for each
-- atomic and each goal given, and premises are among the nodes. By induction over Fig. 2.
-- Assumes nothing.
use mathlib.Core.Path.{◌≡◌, refl, sym, ap, subst, subst₂, ◌∙◌}
use mathlib.Core.Logic.{◌⊎◌, inl, inr}
use mathlib.Core.List.{List, [], ◌∷◌, ◌++◌, map}
use Prim.Native.Nat.{ℕ, zero, suc, ◌+◌, ◌≤◌, ◌<◌}
use native.Mathlib.Omega.{arith}
use lib.ListN.{length, take, drop, set, length-append, length-set, length-map, get_or-append}
use lib.Seq.{take_at, drop_at, get_or-set_same, get_or-set_other, get_or-append_seam, append_snoc}
use Rattle.format.specs.declared.values.RuleName.{RuleName}
use Rattle.format.specs.declared.values.Goal.{Goal}
use Rattle.format.specs.Terms.{Term, atomic}
use Rattle.tables.specs.Tables.{Table}
use Rattle.hitac.specs.Hiproofs.{input_arity, atomics}
use Rattle.hitac.specs.Validates.{V-Atomic, V-Identity, V-Label, V-Sequence, V-Tensor, V-Empty}
use Rattle.hitac.specs.Forest.{premises_in, premises_of}
use Rattle.hitac.proofs.ValidatesLaws.{arity_of}
use Rattle.hitac.proofs.ForestLaws.{Takes}
use Rattle.hitac.proofs.Nodes.{Cell, open_cell, use_cell, no_cell, cell_at, goal_of, range, node_walk}
use Rattle.nodes.proofs.CellLaws.{compared, differ}
use Rattle.flattener.specs.Prints.{Closed}

-- the nodes are there and carry those goals
pub data Carry (A : List Cell) : List ℕ → List Goal → Type 0 where
  Carry-None : Carry A [] []
  Carry-Node : {n : ℕ} {ns : List ℕ} {γ : Goal} {g : List Goal} → n < length A → goal_of (cell_at A n) ≡ γ → Carry A ns g → Carry A (n ∷ ns) (γ ∷ g)

-- nodes stay, with their goals
pub record Keeps (A B : List Cell) : Type 0 where
  pub longer : length A ≤ length B
  pub goals : (m : ℕ) → m < length A → goal_of (cell_at B m) ≡ goal_of (cell_at A m)

keeps_both : {A B C : List Cell} → Keeps A B → Keeps B C → Keeps A C
keeps_both x y = record { longer = omega (arith, x.longer, y.longer); goals = λ m l. y.goals m (omega (arith, x.longer)) ∙ x.goals m l }

keeps_same : (A : List Cell) → Keeps A A
keeps_same A = record { longer = omega arith; goals = λ m l. refl }

pub carry_kept : {A B : List Cell} {ns : List ℕ} {g : List Goal} → Keeps A B → Carry A ns g → Carry B ns g
carry_kept k Carry-None = Carry-None
carry_kept k (Carry-Node {n = n} l e c) = Carry-Node {n = n} (omega (arith, k.longer)) (k.goals n l ∙ e) (carry_kept k c)

carry_append : {A : List Cell} {ns ms : List ℕ} {g h : List Goal} → Carry A ns g → Carry A ms h → Carry A (ns ++ ms) (g ++ h)
carry_append Carry-None q = q
carry_append (Carry-Node l e c) q = Carry-Node l e (carry_append c q)

pub carry_take : (j : ℕ) {A : List Cell} {ns : List ℕ} {g : List Goal} → Carry A ns g → Carry A (take j ns) (take j g)
carry_take zero c = Carry-None
carry_take (suc j) Carry-None = Carry-None
carry_take (suc j) (Carry-Node l e c) = Carry-Node l e (carry_take j c)

pub carry_drop : (j : ℕ) {A : List Cell} {ns : List ℕ} {g : List Goal} → Carry A ns g → Carry A (drop j ns) (drop j g)
carry_drop zero c = c
carry_drop (suc j) Carry-None = Carry-None
carry_drop (suc j) (Carry-Node l e c) = carry_drop j c

pub carry_length : {A : List Cell} {ns : List ℕ} {g : List Goal} → Carry A ns g → length ns ≡ length g
carry_length Carry-None = refl
carry_length (Carry-Node l e c) = ap suc (carry_length c)

one_longer : (P : List Cell) (c : Cell) → length (P ++ (c ∷ [])) ≡ suc (length P)
one_longer P c = omega (arith, length-append P (c ∷ []))

-- new nodes carry their goals
pub carry_new : (P : List Cell) (h : List Goal) → Carry (P ++ map open_cell h) (range (length P) (length h)) h
carry_new P [] = Carry-None
carry_new P (γ ∷ h) =
    Carry-Node {n = length P}
    (omega (arith, length-append P (open_cell γ ∷ map open_cell h)))
    (ap goal_of (get_or-append_seam P (open_cell γ) (map open_cell h) no_cell))
    (subst₂
    (λ (A : List Cell) (f : ℕ). Carry A (range f (length h)) h)
    (append_snoc P (open_cell γ) (map open_cell h))
    (one_longer P (open_cell γ))
    (carry_new (P ++ (open_cell γ ∷ [])) h))

-- ---- premises are among the nodes

closed_more : (b b' : ℕ) → b ≤ b' → (A : List Cell) → Closed b A → Closed b' A
unfolding Closed
closed_more b b' l [] c = tt
closed_more b b' l (open_cell γ ∷ A) c = closed_more b b' l A c
closed_more b b' l (use_cell a γ f k ∷ A) c = (omega (arith, c.0), closed_more b b' l A c.1)

closed-set : (b : ℕ) (a : RuleName) (γ : Goal) (f k : ℕ) → f + k ≤ b → (A : List Cell) (n : ℕ) → Closed b A → Closed b (set A n (use_cell a γ f k))
unfolding Closed
closed-set b a γ f k l [] n c = tt
closed-set b a γ f k l (open_cell δ ∷ A) zero c = (l, c)
closed-set b a γ f k l (use_cell d δ i j ∷ A) zero c = (l, c.1)
closed-set b a γ f k l (open_cell δ ∷ A) (suc n) c = closed-set b a γ f k l A n c
closed-set b a γ f k l (use_cell d δ i j ∷ A) (suc n) c = (c.0, closed-set b a γ f k l A n c.1)

pub closed_opens : (b : ℕ) (h : List Goal) → Closed b (map open_cell h)
unfolding Closed
closed_opens b [] = tt
closed_opens b (γ ∷ h) = closed_opens b h

closed-append : (b : ℕ) (A B : List Cell) → Closed b A → Closed b B → Closed b (A ++ B)
unfolding Closed
closed-append b [] B c d = d
closed-append b (open_cell γ ∷ A) B c d = closed-append b A B c d
closed-append b (use_cell a γ f k ∷ A) B c d = (c.0, closed-append b A B c.1 d)

-- What a walk leaves.
pub record Grows (T : Table) (s : Term) (A : List Cell) (ns : List ℕ) (h : List Goal) : Type 0 where
  pub keeps : Keeps A (node_walk T s A ns).cells
  pub carry : Carry (node_walk T s A ns).cells (node_walk T s A ns).nodes h
  pub count : length (node_walk T s A ns).cells + length ns ≡ length A + atomics s + length h
  pub closed : Closed (length A) A → Closed (length (node_walk T s A ns).cells) (node_walk T s A ns).cells

module _ (T : Table) (a : RuleName) (A : List Cell) (n : ℕ) (inside : n < length A) (h : List Goal) (found : premises_of T a (goal_of (cell_at A n)) ≡ h) where
  abbrev γ : Goal
  γ = goal_of (cell_at A n)

  abbrev p : List Goal
  p = premises_of T a γ

  abbrev u : Cell
  u = use_cell a γ (length A) (length p)

  abbrev made : List Cell
  made = set A n u ++ map open_cell p

  made_length : length made ≡ length A + length p
  made_length = omega (arith, length-append (set A n u) (map open_cell p), length-set A n u, length-map p open_cell)

  goal-set : (m : ℕ) → (m ≡ n) ⊎ ((m < n) ⊎ (n < m)) → goal_of (cell_at (set A n u) m) ≡ goal_of (cell_at A m)
  goal-set m (inl e) = rw e (ap goal_of (get_or-set_same A n u no_cell inside))
  goal-set m (inr d) = ap goal_of (get_or-set_other A n m u no_cell (differ d))

  grows_atomic : Grows T (atomic a) A (n ∷ []) h
  unfolding node_walk atomics
  grows_atomic = record {
    keeps = record {
      longer = omega (arith, made_length);
      goals = λ m l. ap goal_of (get_or-append (set A n u) (map open_cell p) no_cell m (omega (arith, length-set A n u))) ∙ goal-set m (compared m n);
    };
    carry = subst (Carry made (range (length A) (length p))) found (subst (λ (k : ℕ). Carry made (range k (length p)) p) (length-set A n u) (carry_new (set A n u) p));
    count = omega (arith, made_length, ap length found);
    closed = λ c. subst (λ (b : ℕ). Closed b made) (sym made_length) (closed-append (length A + length p) (set A n u) (map open_cell p) (closed-set (length A + length p) a γ (length A) (length p) (omega arith) A n (closed_more (length A) (length A + length p) (omega arith) A c)) (closed_opens (length A + length p) p));
  }

pub grows : (T : Table) {s : Term} {g h : List Goal} → Takes T s g h → (A : List Cell) {ns : List ℕ} → Carry A ns g → Grows T s A ns h
unfolding node_walk atomics
grows T (V-Atomic {a = a} {γ = γ} {h = h} rl) A (Carry-Node {n = n} l e Carry-None) = grows_atomic T a A n l h (ap (premises_of T a) e ∙ ap premises_in rl.1)
grows T (V-Identity {γ = γ}) A (Carry-Node l e Carry-None) = record { keeps = keeps_same A; carry = Carry-Node l e Carry-None; count = omega arith; closed = λ c. c }
grows T (V-Label v) A c =
    let x = grows T v A c in
    record { keeps = x.keeps; carry = x.carry; count = x.count; closed = x.closed }
grows T (V-Sequence {s = s} v w) A {ns} c =
    let x = grows T v A c in
    let y = grows T w (node_walk T s A ns).cells x.carry in
    record {
      keeps = keeps_both x.keeps y.keeps;
      carry = y.carry;
      count = omega (arith, x.count, y.count, carry_length x.carry);
      closed = λ k. y.closed (x.closed k);
    }
grows T (V-Tensor {s = s} {t = t} {g₁ = g₁} {g₂ = g₂} {h₁ = h₁} {h₂ = h₂} v w f) A {ns} c =
    let i : Carry A (take (input_arity s) ns) g₁ = subst (Carry A (take (input_arity s) ns)) (take_at g₁ g₂ (input_arity s) (arity_of v)) (carry_take (input_arity s) c) in
    let j : Carry A (drop (input_arity s) ns) g₂ = subst (Carry A (drop (input_arity s) ns)) (drop_at g₁ g₂ (input_arity s) (arity_of v)) (carry_drop (input_arity s) c) in
    let x = grows T v A i in
    let y = grows T w (node_walk T s A (take (input_arity s) ns)).cells (carry_kept x.keeps j) in
    record {
      keeps = keeps_both x.keeps y.keeps;
      carry = carry_append (carry_kept y.keeps x.carry) y.carry;
      count = omega (arith, x.count, y.count, carry_length c, carry_length i, carry_length j, length-append g₁ g₂, length-append h₁ h₂);
      closed = λ k. y.closed (x.closed k);
    }
grows T V-Empty A Carry-None = record { keeps = keeps_same A; carry = Carry-None; count = omega arith; closed = λ c. c }
