-- The walk over nodes and the walk of hitac over their goals come to the same: the same refusal at the same place, or the cells and nodes of hitac's walk over nodes,
-- whose goals are those given. By induction over the term.
-- Assumes nothing.
use mathlib.Core.Path.{◌≡◌, refl, sym, ap₂, subst, ◌∙◌}
use mathlib.Core.Bool.{Bool, true, false, cond}
use mathlib.Core.Option.{Option, none, some}
use mathlib.Core.List.{List, [], ◌∷◌, ◌++◌}
use Prim.Native.Nat.{ℕ, ◌+◌, ◌*◌, ◌≤◌, ◌<◌}
use native.Mathlib.Omega.{arith}
use lib.Dec.{ltb}
use lib.ListN.{length, take, drop, length-append}
use borrow.Author.Tests.{lt-ltb}
use Rattle.format.specs.declared.values.RuleName.{RuleName}
use Rattle.format.specs.declared.values.Goal.{Goal}
use Rattle.format.specs.declared.refusals.Cause.{Cause}
use Rattle.format.specs.declared.refusals.Cause.TheVariants.{RuleMissing, GoalCountWrong, GoalsTooFew, JoinedTooLong}
use Rattle.format.specs.Refusals.{number}
use Rattle.format.specs.Results.{Result, gives, refused, and_then}
use Rattle.format.specs.Terms.{Term, atomic, id, label, sequence, tensor, empty, alternation, assert, defined, size}
use Rattle.format.proofs.ResultLaws.{never_gives, same_place, same_cause, same_value}
use Rattle.tables.specs.Tables.{Table}
use Rattle.tables.specs.Lookup.{FoundRule, find_rule}
use Rattle.hitac.specs.Premises.{Finds, FewPremises}
use Rattle.hitac.specs.Hiproofs.{input_arity, atomics}
use Rattle.hitac.specs.Walk.{walk, on_one_goal, on_no_goal, premises_or, joined, too_long}
use Rattle.hitac.proofs.WalkValidates.{finds_agrees, walk→validates}
use Rattle.hitac.proofs.WalkBounds.{walk_grows}
use Rattle.hitac.proofs.Nodes.{Cell, cell_at, goal_of, NodeWalk, node_walk}
use Rattle.walks.specs.Walks.{Out, on_one_value, joined_values, walk_of}
use Rattle.nodes.specs.Space.{most_nodes}
use Rattle.nodes.specs.NodeActs.{out_of, use_found, use_node, on_no_node, node_act}
use Rattle.flattener.proofs.GrowthLaws.{Carry, Carry-None, Carry-Node, carry_take, carry_drop, carry_kept, carry_length, Grows, grows}

-- what the two walks come to, where the nodes come to x; no walk is refused with a number below 20
unfoldable pub Agrees : NodeWalk → Result (List Goal) → Result (Out Cell) → Type 0
Agrees x (gives h) r = r ≡ gives (out_of x)
Agrees x (refused c p) r = (r ≡ refused c p) × (20 ≤ number c)

-- one walk after another: a refusal of the first stands, and the second goes on with what the first gives
then_agrees : (x y : NodeWalk) (a : Result (List Goal)) (r : Result (Out Cell)) → Agrees x a r
    → (next : List Goal → Result (List Goal)) (more : Out Cell → Result (Out Cell)) → ((h : List Goal) → a ≡ gives h → Agrees y (next h) (more (out_of x))) → Agrees y (and_then a next) (and_then r more)
unfolding Agrees and_then
then_agrees x y (gives h) r e next more k = subst (λ (z : Result (Out Cell)). Agrees y (next h) (and_then z more)) (sym e) (k h refl)
then_agrees x y (refused c p) r e next more k = subst (λ (z : Result (Out Cell)). (and_then z more ≡ refused c p) × (20 ≤ number c)) (sym e.0) (refl, e.1)

-- a test that refuses
test_agrees : (x : NodeWalk) (b : Bool) (c : Cause) (p : ℕ) (a : Result (List Goal)) (r : Result (Out Cell)) → 20 ≤ number c → (b ≡ false → Agrees x a r) → Agrees x (cond b (refused c p) a) (cond b (refused c p) r)
unfolding Agrees
test_agrees x true c p a r h k = (refl, h)
test_agrees x false c p a r h k = k refl

-- both lists of a tensor have as many nodes as goals
joined_agrees : (p : ℕ) (h k : List Goal) (ns : List ℕ) (x : NodeWalk) → length ns ≡ length h → length x.nodes ≡ length k → Agrees (record { cells = x.cells; nodes = ns ++ x.nodes }) (joined p (h ++ k)) (joined_values p ns (out_of x))
unfolding Agrees joined too_long joined_values number
joined_agrees p h k ns x e f =
    let l : length (ns ++ x.nodes) ≡ length (h ++ k) = length-append ns x.nodes ∙ ap₂ (λ (i j : ℕ). i + j) e f ∙ sym (length-append h k) in
    rw l (test_agrees (record { cells = x.cells; nodes = ns ++ x.nodes }) (ltb 256 (length (h ++ k))) JoinedTooLong p (gives (h ++ k)) (gives (out_of (record { cells = x.cells; nodes = ns ++ x.nodes }))) (omega arith) (λ b. refl))

-- what follows from how the walk over nodes ended
pub agreed_refused : (x : NodeWalk) (a : Result (List Goal)) (r : Result (Out Cell)) (c : Cause) (p : ℕ) → Agrees x a r → r ≡ refused c p → (a ≡ refused c p) × (20 ≤ number c)
unfolding Agrees
agreed_refused x (gives h) r c p k e = never_gives (sym e ∙ k)
agreed_refused x (refused d q) r c p k e = let z = sym k.0 ∙ e in (rw (same_cause z, same_place z), subst (λ (i : Cause). 20 ≤ number i) (same_cause z) k.1)

pub agreed_gives : (x : NodeWalk) (a : Result (List Goal)) (r : Result (Out Cell)) (o : Out Cell) → Agrees x a r → r ≡ gives o → (h : List Goal) × (a ≡ gives h) × (o ≡ out_of x)
unfolding Agrees
agreed_gives x (gives h) r o k e = (h, refl, same_value (sym e ∙ k))
agreed_gives x (refused d q) r o k e = never_gives (sym k.0 ∙ e)

module _ (T : Table) (few : FewPremises T) where
  -- what a walk that gives goals leaves
  walked : (t : Term) (p : ℕ) {g h : List Goal} (A : List Cell) {ns : List ℕ} → Carry A ns g → walk T t p g ≡ gives h → Grows T t A ns h
  walked t p {g} A c e = grows T (walk→validates T (Finds T) (finds_agrees T) t p g e) A c

  found_agrees : (a : RuleName) (p : ℕ) (A : List Cell) (n : ℕ) (o : Option FoundRule) → find_rule T a (goal_of (cell_at A n)) ≡ o → Agrees (node_walk T (atomic a) A (n ∷ [])) (premises_or RuleMissing p o) (use_found a p A n o)
  unfolding Agrees premises_or use_found node_walk number
  found_agrees a p A n none e = (refl, omega arith)
  found_agrees a p A n (some r) e = rw e refl

  -- an atomic adds at most eight cells
  pub walked_cells : (t : Term) (p : ℕ) {g h : List Goal} (A : List Cell) {ns : List ℕ} → Carry A ns g → walk T t p g ≡ gives h → length (node_walk T t A ns).cells ≤ length A + 8 * atomics t
  walked_cells t p {g} A c e = omega (arith, (walked t p A c e).count, walk_grows T few t p g e, carry_length c)

  atomic_agrees : (a : RuleName) (p : ℕ) (A : List Cell) {ns : List ℕ} {g : List Goal} → length A + 8 ≤ most_nodes → Carry A ns g → Agrees (node_walk T (atomic a) A ns) (walk T (atomic a) p g) (walk_of (node_act T) (atomic a) p A ns)
  unfolding Agrees walk on_one_goal walk_of node_act on_one_value use_node number
  atomic_agrees a p A m Carry-None = (refl, omega arith)
  atomic_agrees a p A m (Carry-Node {n = n} l e Carry-None) =
      let k : length A + 7 < most_nodes = omega arith in
      rw (lt-ltb n (length A) l, lt-ltb (length A + 7) most_nodes k)
      (subst (λ (δ : Goal). Agrees (node_walk T (atomic a) A (n ∷ [])) (premises_or RuleMissing p (find_rule T a δ)) (use_found a p A n (find_rule T a (goal_of (cell_at A n))))) e (found_agrees a p A n _ refl))
  atomic_agrees a p A m (Carry-Node l e (Carry-Node i f c)) = (refl, omega arith)

  id_agrees : (p : ℕ) (A : List Cell) {ns : List ℕ} {g : List Goal} → Carry A ns g → Agrees (node_walk T id A ns) (walk T id p g) (walk_of (node_act T) id p A ns)
  unfolding Agrees walk on_one_goal walk_of node_act on_one_value node_walk number
  id_agrees p A Carry-None = (refl, omega arith)
  id_agrees p A (Carry-Node l e Carry-None) = refl
  id_agrees p A (Carry-Node l e (Carry-Node i f c)) = (refl, omega arith)

  empty_agrees : (p : ℕ) (A : List Cell) {ns : List ℕ} {g : List Goal} → Carry A ns g → Agrees (node_walk T empty A ns) (walk T empty p g) (walk_of (node_act T) empty p A ns)
  unfolding Agrees walk on_no_goal walk_of node_act on_no_node node_walk number
  empty_agrees p A Carry-None = refl
  empty_agrees p A (Carry-Node l e c) = (refl, omega arith)

  label_agrees : (s : Term) (p : ℕ) (A : List Cell) {ns : List ℕ} {g : List Goal} → Carry A ns g
      → ((n : ℕ) (γ : Goal) → Carry A (n ∷ []) (γ ∷ []) → Agrees (node_walk T s A (n ∷ [])) (walk T s (p + 5) (γ ∷ [])) (walk_of (node_act T) s (p + 5) A (n ∷ [])))
      → Agrees (node_walk T s A ns) (on_one_goal p (λ γ. walk T s (p + 5) (γ ∷ [])) g) (on_one_value p (λ n. walk_of (node_act T) s (p + 5) A (n ∷ [])) ns)
  unfolding Agrees on_one_goal on_one_value number
  label_agrees s p A Carry-None k = (refl, omega arith)
  label_agrees s p A (Carry-Node {n = n} {γ = γ} l e Carry-None) k = k n γ (Carry-Node l e Carry-None)
  label_agrees s p A (Carry-Node l e (Carry-Node m f c)) k = (refl, omega arith)

  -- the nodes for a tensor's right term, once its left term was walked
  right_carry : (s : Term) (p : ℕ) (A : List Cell) {ns : List ℕ} {g h : List Goal} → Carry A ns g → walk T s (p + 3) (take (input_arity s) g) ≡ gives h
      → Carry (node_walk T s A (take (input_arity s) ns)).cells (drop (input_arity s) ns) (drop (input_arity s) g)
  right_carry s p A c e = carry_kept (walked s (p + 3) A (carry_take (input_arity s) c) e).keeps (carry_drop (input_arity s) c)

  tensor_agrees : (s t : Term) (p : ℕ) (A : List Cell) {ns : List ℕ} {g : List Goal} → Carry A ns g
      → Agrees (node_walk T s A (take (input_arity s) ns)) (walk T s (p + 3) (take (input_arity s) g)) (walk_of (node_act T) s (p + 3) A (take (input_arity s) ns))
      → ((h : List Goal) → walk T s (p + 3) (take (input_arity s) g) ≡ gives h
      → Agrees (node_walk T t (node_walk T s A (take (input_arity s) ns)).cells (drop (input_arity s) ns)) (walk T t (p + 3 + size s) (drop (input_arity s) g)) (walk_of (node_act T) t (p + 3 + size s) (node_walk T s A (take (input_arity s) ns)).cells (drop (input_arity s) ns)))
      → Agrees (node_walk T (tensor s t) A ns) (walk T (tensor s t) p g) (walk_of (node_act T) (tensor s t) p A ns)
  unfolding walk walk_of node_walk number
  tensor_agrees s t p A {ns} {g} c left right =
      let q = node_walk T s A (take (input_arity s) ns) in
      let r = node_walk T t q.cells (drop (input_arity s) ns) in
      rw (carry_length c)
      (test_agrees (node_walk T (tensor s t) A ns) (ltb (length g) (input_arity s)) GoalsTooFew p _ _ (omega arith) (λ b.
      then_agrees q (node_walk T (tensor s t) A ns) _ _ left _ _ (λ h e.
      then_agrees r (node_walk T (tensor s t) A ns) _ _ (right h e) _ _ (λ k f.
      joined_agrees p h k q.nodes r (carry_length (walked s (p + 3) A (carry_take (input_arity s) c) e).carry) (carry_length (walked t (p + 3 + size s) q.cells (right_carry s p A c e) f).carry)))))

  no_hiproof : (p : ℕ) (x : NodeWalk) → Agrees x (refused GoalCountWrong p) (refused GoalCountWrong p)
  unfolding Agrees number
  no_hiproof p x = (refl, omega arith)

  pub agrees : (t : Term) (p : ℕ) (A : List Cell) (ns : List ℕ) (g : List Goal) → length A + 8 * atomics t ≤ most_nodes → Carry A ns g → Agrees (node_walk T t A ns) (walk T t p g) (walk_of (node_act T) t p A ns)
  unfolding walk walk_of node_walk node_act atomics
  agrees (atomic a) p A ns g m c = atomic_agrees a p A m c
  agrees id p A ns g m c = id_agrees p A c
  agrees (label l s) p A ns g m c = label_agrees s p A c (λ n γ d. agrees s (p + 5) A (n ∷ []) (γ ∷ []) m d)
  agrees (sequence s t) p A ns g m c =
      then_agrees (node_walk T s A ns) _ (walk T s (p + 3) g) (walk_of (node_act T) s (p + 3) A ns) (agrees s (p + 3) A ns g (omega arith) c) _ _ (λ h e.
      agrees t (p + 3 + size s) (node_walk T s A ns).cells (node_walk T s A ns).nodes h (omega (arith, walked_cells s (p + 3) A c e)) (walked s (p + 3) A c e).carry)
  agrees (tensor s t) p A ns g m c =
      let d = carry_take (input_arity s) c in
      tensor_agrees s t p A c (agrees s (p + 3) A _ _ (omega arith) d) (λ h e. agrees t (p + 3 + size s) _ _ _ (omega (arith, walked_cells s (p + 3) A d e)) (right_carry s p A c e))
  agrees empty p A ns g m c = empty_agrees p A c
  agrees (alternation s t) p A ns g m c = no_hiproof p _
  agrees (assert γ) p A ns g m c = no_hiproof p _
  agrees (defined n) p A ns g m c = no_hiproof p _
