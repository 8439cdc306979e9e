-- The walk over values whose terms act on goals is the walk of hitac, with the rules that it looks up: by induction over the term.
-- Assumes nothing.
use mathlib.Core.Path.{◌≡◌, refl, sym, ap, ap₂, ◌∙◌}
use mathlib.Core.Bool.{Bool, true, false, cond}
use mathlib.Core.List.{List, [], ◌∷◌, ◌++◌, append_assoc, map, map-append}
use Prim.Native.Nat.{ℕ, zero, suc, ◌+◌}
use lib.Dec.{ltb}
use lib.ListN.{length, take, drop, length-map}
use Rattle.format.specs.declared.values.Goal.{Goal}
use Rattle.format.specs.Limits.{most_joined}
use Rattle.format.specs.declared.refusals.Cause.TheVariants.{GoalsTooFew}
use Rattle.format.specs.Results.{Result, gives, refused, and_then}
use Rattle.format.specs.Values.{goal}
use Rattle.format.specs.Terms.{Term, atomic, id, label, sequence, tensor, empty, alternation, assert, defined, size}
use Rattle.tables.specs.Tables.{Table}
use Rattle.hitac.specs.Hiproofs.{input_arity}
use Rattle.hitac.specs.Walk.{on_one_goal, too_long, joined, walk}
use Rattle.hitac.specs.Premises.{Finds}
use Rattle.hitac.specs.Counts.{given_goals}
use Rattle.hitac.specs.UsedRules.{walked_rules}
use Rattle.hitac.proofs.WalkValidates.{finds_agrees, validates→walk, walk→validates}
use Rattle.walks.specs.Values.{value_of}
use Rattle.walks.specs.Walks.{Out, out, on_one_value, joined_values, walk_of}
use Rattle.checker.specs.Acts.{of_goals, goal_act}

-- values of goals are those goals
pub same_goals : (h : List Goal) → map goal (map value_of h) ≡ h
same_goals [] = refl
same_goals (γ ∷ h) = ap {B = List Goal} (λ l. γ ∷ l) (same_goals h)

take_goals : (j : ℕ) (ns : List ℕ) → map goal (take j ns) ≡ take j (map goal ns)
take_goals zero ns = refl
take_goals (suc j) [] = refl
take_goals (suc j) (n ∷ ns) = ap {B = List Goal} (λ l. goal n ∷ l) (take_goals j ns)

drop_goals : (j : ℕ) (ns : List ℕ) → map goal (drop j ns) ≡ drop j (map goal ns)
drop_goals zero ns = refl
drop_goals (suc j) [] = refl
drop_goals (suc j) (n ∷ ns) = drop_goals j ns

-- what a walk gives does not depend on the place
given_anywhere : (T : Table) (s : Term) (p q : ℕ) (g h : List Goal) → walk T s p g ≡ gives h → given_goals (walk T s q g) ≡ h
given_anywhere T s p q g h e = ap given_goals (validates→walk T (Finds T) (finds_agrees T) (walk→validates T (Finds T) (finds_agrees T) s p g e) q)

of_cond : (A : List ℕ) (b : Bool) (x y : Result (List Goal)) → cond b (of_goals A x) (of_goals A y) ≡ of_goals A (cond b x y)
of_cond A true x y = refl
of_cond A false x y = refl

module _ (T : Table) where
  -- go on with what the left term of a sequence gave: A are the rules up to there, B those of both terms
  after_left_lem : (A B : List ℕ) (t : Term) (p : ℕ) → ((ns : List ℕ) → walk_of (goal_act T) t p A ns ≡ of_goals (A ++ walked_rules T t (map goal ns)) (walk T t p (map goal ns))) → (r : Result (List Goal))
      → ((h : List Goal) → r ≡ gives h → A ++ walked_rules T t h ≡ B) → and_then (of_goals A r) (λ o. walk_of (goal_act T) t p o.made o.values) ≡ of_goals B (and_then r (λ h. walk T t p h))
  unfolding of_goals and_then
  after_left_lem A B t p f (gives h) e = f (map value_of h) ∙ ap (λ (g : List Goal). of_goals (A ++ walked_rules T t g) (walk T t p g)) (same_goals h) ∙ ap (λ (C : List ℕ). of_goals C (walk T t p h)) (e h refl)
  after_left_lem A B t p f (refused c q) e = refl

  -- both lists of a tensor
  both : (A : List ℕ) (p : ℕ) (h k : List Goal) → joined_values p (map value_of h) (out A (map value_of k)) ≡ of_goals A (joined p (h ++ k))
  unfolding joined_values joined too_long of_goals
  both A p h k =
      rw (sym (map-append value_of h k), length-map (h ++ k) value_of)
      (of_cond A (ltb most_joined (length (h ++ k))) _ _)

  joins : (A : List ℕ) (p : ℕ) (h : List Goal) (r : Result (List Goal)) → and_then (of_goals A r) (joined_values p (map value_of h)) ≡ of_goals A (and_then r (λ k. joined p (h ++ k)))
  unfolding of_goals and_then
  joins A p h (gives k) = both A p h k
  joins A p h (refused c q) = refl

  after-right : (A B : List ℕ) (t : Term) (p q : ℕ) (ns : List ℕ) (g : List Goal) → walk_of (goal_act T) t q A ns ≡ of_goals B (walk T t q g) → (r : Result (List Goal))
      → and_then (of_goals A r) (λ o. and_then (walk_of (goal_act T) t q o.made ns) (joined_values p o.values)) ≡ of_goals B (and_then r (λ h. and_then (walk T t q g) (λ k. joined p (h ++ k))))
  unfolding of_goals and_then
  after-right A B t p q ns g e (gives h) = ap (λ (x : Result (Out ℕ)). and_then x (joined_values p (map value_of h))) e ∙ joins B p h (walk T t q g)
  after-right A B t p q ns g e (refused c r) = refl

  on_one : (rules : List ℕ → List ℕ) (p : ℕ) (f : ℕ → Result (Out ℕ)) (g : Goal → Result (List Goal)) → ((n : ℕ) → f n ≡ of_goals (rules (n ∷ [])) (g (goal n))) → (ns : List ℕ)
      → on_one_value p f ns ≡ of_goals (rules ns) (on_one_goal p g (map goal ns))
  unfolding on_one_value on_one_goal of_goals
  on_one rules p f g e [] = refl
  on_one rules p f g e (n ∷ []) = e n
  on_one rules p f g e (n ∷ m ∷ ns) = refl

  -- the walk, and the rules that it looks up behind those before it
  pub walks_goals : (A : List ℕ) (t : Term) (p : ℕ) (ns : List ℕ) → walk_of (goal_act T) t p A ns ≡ of_goals (A ++ walked_rules T t (map goal ns)) (walk T t p (map goal ns))
  unfolding walk_of walk walked_rules goal_act of_goals
  walks_goals A (atomic a) p ns = refl
  walks_goals A id p ns = refl
  walks_goals A (label l s) p ns = on_one (λ (ms : List ℕ). A ++ walked_rules T s (map goal ms)) p _ _ (λ n. walks_goals A s (p + 5) (n ∷ [])) ns
  walks_goals A (sequence s t) p ns =
      let g = map goal ns in
      let B = A ++ walked_rules T s g in
      ap (λ (x : Result (Out ℕ)). and_then x (λ o. walk_of (goal_act T) t (p + 3 + size s) o.made o.values)) (walks_goals A s (p + 3) ns)
      ∙ after_left_lem B _ t (p + 3 + size s) (walks_goals B t (p + 3 + size s)) (walk T s (p + 3) g)
      (λ h e. append_assoc A (walked_rules T s g) (walked_rules T t h) ∙ ap (λ (k : List Goal). A ++ (walked_rules T s g ++ walked_rules T t k)) (sym (given_anywhere T s (p + 3) 0 g h e)))
  walks_goals A (tensor s t) p ns =
      let g = take (input_arity s) (map goal ns) in
      let k = drop (input_arity s) (map goal ns) in
      let B = A ++ walked_rules T s g in
      let left : walk_of (goal_act T) s (p + 3) A (take (input_arity s) ns) ≡ of_goals B (walk T s (p + 3) g) = walks_goals A s (p + 3) (take (input_arity s) ns) ∙ ap (λ (l : List Goal). of_goals (A ++ walked_rules T s l) (walk T s (p + 3) l)) (take_goals (input_arity s) ns) in
      let right : walk_of (goal_act T) t (p + 3 + size s) B (drop (input_arity s) ns) ≡ of_goals (A ++ (walked_rules T s g ++ walked_rules T t k)) (walk T t (p + 3 + size s) k) =
      walks_goals B t (p + 3 + size s) (drop (input_arity s) ns) ∙ ap (λ (l : List Goal). of_goals (B ++ walked_rules T t l) (walk T t (p + 3 + size s) l)) (drop_goals (input_arity s) ns) ∙ ap (λ (C : List ℕ). of_goals C (walk T t (p + 3 + size s) k)) (append_assoc A (walked_rules T s g) (walked_rules T t k)) in
      ap₂ (λ (b : Bool) (x : Result (Out ℕ)). cond b (refused GoalsTooFew p) x) (ap (λ (k : ℕ). ltb k (input_arity s)) (sym (length-map ns goal)))
      (ap (λ (x : Result (Out ℕ)). and_then x (λ o. and_then (walk_of (goal_act T) t (p + 3 + size s) o.made (drop (input_arity s) ns)) (joined_values p o.values))) left ∙ after-right B _ t p (p + 3 + size s) (drop (input_arity s) ns) _ right (walk T s (p + 3) g))
      ∙ of_cond _ (ltb (length (map goal ns)) (input_arity s)) (refused GoalsTooFew p) _
  walks_goals A empty p ns = refl
  walks_goals A (alternation s t) p ns = refl
  walks_goals A (assert γ) p ns = refl
  walks_goals A (defined n) p ns = refl
