-- The checker's way: two stacks of goals. A term takes k goals off the inputs and puts the goals that it gives behind the outputs.
-- It comes to the same as the walk, refusals too: by induction over the term, part by part. Assumes nothing.
use Prim.Native.Nat.{ℕ, zero, suc, ◌+◌, ◌-◌, ◌≤◌}
use native.Mathlib.Omega.{arith}
use mathlib.Core.Path.{◌≡◌, refl, ap, ◌∙◌}
use mathlib.Core.Bool.{Bool, true, false, cond}
use mathlib.Core.List.{List, [], ◌∷◌, ◌++◌, append_assoc, append-nil}
use lib.Dec.{ltb}
use lib.ListN.{length, take, drop, length-append, length-drop}
use lib.Seq.{drop_at, take-append_seam, drop-append_seam, take-take, drop-drop, length-take-le, take-add}
use borrow.Author.Tests.{ltb-false}
use Rattle.format.specs.declared.values.Goal.{Goal}
use Rattle.format.specs.Limits.{most_joined}
use Rattle.format.specs.declared.refusals.Cause.TheVariants.{RuleMissing, GoalCountWrong, GoalsTooFew, JoinedTooLong}
use Rattle.format.specs.Results.{Result, gives, refused, and_then}
use Rattle.format.specs.Terms.{Term, atomic, id, label, sequence, tensor, empty, alternation, assert, defined, size}
use Rattle.tables.specs.Tables.{Table}
use Rattle.tables.specs.Lookup.{find_rule}
use Rattle.hitac.specs.Hiproofs.{input_arity}
use Rattle.hitac.specs.Walk.{on_one_goal, on_no_goal, premises_or, too_long, joined, walk}

-- the goals still to take, and the goals given
pub record Stacks : Type 0 where
  pub inputs : List Goal
  pub outputs : List Goal

abbrev pub held : List Goal → List Goal → Result Stacks
held I O = gives (record { inputs = I; outputs = O })

-- the goals of a walk behind the outputs
abbrev pub settled : List Goal → List Goal → Result (List Goal) → Result Stacks
settled I O (gives h) = held I (O ++ h)
settled I O (refused c p) = refused c p

-- exactly one goal: the first of the inputs
abbrev pub take_one_goal : (place : ℕ) → (count : ℕ) → List Goal → (Goal → List Goal → Result Stacks) → Result Stacks
take_one_goal p zero I next = refused GoalCountWrong p
take_one_goal p (suc zero) [] next = refused GoalCountWrong p
take_one_goal p (suc zero) (γ ∷ I) next = next γ I
take_one_goal p (suc (suc k)) I next = refused GoalCountWrong p

-- no goal
abbrev pub take_no_goal : (place : ℕ) → (count : ℕ) → Result Stacks → Result Stacks
take_no_goal p zero r = r
take_no_goal p (suc k) r = refused GoalCountWrong p

-- The term at place p takes the first k of the inputs I and puts what it gives behind the outputs O.
-- A sequence moves what its left term gave onto the inputs.
unfoldable pub stacks : Table → Term → (place : ℕ) → (count : ℕ) → (inputs outputs : List Goal) → Result Stacks
stacks T (atomic a) p k I O = take_one_goal p k I (λ γ J. settled J O (premises_or RuleMissing p (find_rule T a γ)))
stacks T id p k I O = take_one_goal p k I (λ γ J. held J (O ++ (γ ∷ [])))
stacks T (label l s) p k I O = take_one_goal p k I (λ γ J. stacks T s (p + 5) 1 I O)
stacks T (sequence s t) p k I O =
    and_then (stacks T s (p + 3) k I O)
    (λ x. stacks T t (p + 3 + size s) (length x.outputs - length O) (drop (length O) x.outputs ++ x.inputs) (take (length O) x.outputs))
stacks T (tensor s t) p k I O =
    cond (ltb k (input_arity s))
    (refused GoalsTooFew p)
    (and_then (stacks T s (p + 3) (input_arity s) I O)
    (λ x. and_then (stacks T t (p + 3 + size s) (k - input_arity s) x.inputs x.outputs)
    (λ y. cond (ltb most_joined (length y.outputs - length O)) (refused JoinedTooLong p) (gives y))))
stacks T empty p k I O = take_no_goal p k (held I O)
stacks T (alternation s t) p k I O = refused GoalCountWrong p
stacks T (assert γ) p k I O = refused GoalCountWrong p
stacks T (defined n) p k I O = refused GoalCountWrong p

-- a term that takes exactly one goal
one_goal_lem : (p k : ℕ) (I O : List Goal) (f : Goal → Result (List Goal)) (next : Goal → List Goal → Result Stacks) → k ≤ length I
    → ((γ : Goal) (J : List Goal) → I ≡ γ ∷ J → next γ J ≡ settled J O (f γ)) → take_one_goal p k I next ≡ settled (drop k I) O (on_one_goal p f (take k I))
unfolding on_one_goal
one_goal_lem p zero I O f next l e = refl
one_goal_lem p (suc zero) [] O f next l e = refl
one_goal_lem p (suc zero) (γ ∷ I) O f next l e = e γ I refl
one_goal_lem p (suc (suc k)) [] O f next l e = absurd (omega arith)
one_goal_lem p (suc (suc k)) (γ ∷ []) O f next l e = absurd (omega arith)
one_goal_lem p (suc (suc k)) (γ ∷ δ ∷ I) O f next l e = refl

-- what follows a settled walk
after-settled : (J P : List Goal) (r : Result (List Goal)) (f : Stacks → Result Stacks) (next : List Goal → Result (List Goal)) (K O : List Goal)
    → ((h : List Goal) → f (record { inputs = J; outputs = P ++ h }) ≡ settled K O (next h)) → and_then (settled J P r) f ≡ settled K O (and_then r next)
unfolding and_then
after-settled J P (gives h) f next K O e = e h
after-settled J P (refused c p) f next K O e = refl

settled-joined : (K O h : List Goal) (p : ℕ) → cond (ltb most_joined (length h)) (refused JoinedTooLong p) (held K (O ++ h)) ≡ settled K O (joined p h)
unfolding joined too_long
settled-joined K O h p = go (ltb most_joined (length h))
  where
    go : (b : Bool) → cond b (refused JoinedTooLong p) (held K (O ++ h)) ≡ settled K O (cond b (refused JoinedTooLong p) (gives h))
    go true = refl
    go false = refl

count_back : (O h : List Goal) → length (O ++ h) - length O ≡ length h
count_back O h = omega (arith, length-append O h)

drop-take : (a k : ℕ) (I : List Goal) → a ≤ k → k ≤ length I → drop a (take k I) ≡ take (k - a) (drop a I)
drop-take a k I m l =
    let e : k ≡ a + (k - a) = omega arith in
    ap (λ (q : ℕ). drop a (take q I)) e ∙ rw (take-add a (k - a) I) (drop_at (take a I) (take (k - a) (drop a I)) a (length-take-le a I (omega arith)))

tensor_stacks : (T : Table) (s t : Term) (p k : ℕ) (I O : List Goal) → k ≤ length I → (b : Bool) → ltb k (input_arity s) ≡ b
    → (input_arity s ≤ length I → stacks T s (p + 3) (input_arity s) I O ≡ settled (drop (input_arity s) I) O (walk T s (p + 3) (take (input_arity s) I)))
    → ((h : List Goal) → k - input_arity s ≤ length (drop (input_arity s) I)
    → stacks T t (p + 3 + size s) (k - input_arity s) (drop (input_arity s) I) (O ++ h)
    ≡ settled (drop (k - input_arity s) (drop (input_arity s) I)) (O ++ h) (walk T t (p + 3 + size s) (take (k - input_arity s) (drop (input_arity s) I))))
    → stacks T (tensor s t) p k I O ≡ settled (drop k I) O (walk T (tensor s t) p (take k I))
unfolding stacks walk
tensor_stacks T s t p k I O l true e x y = rw (length-take-le k I l, e)
tensor_stacks T s t p k I O l false e x y =
    let m : input_arity s ≤ k = ltb-false k (input_arity s) e in
    let n : k - input_arity s ≤ length (drop (input_arity s) I) = omega (arith, length-drop (input_arity s) I) in
    let j : input_arity s + (k - input_arity s) ≡ k = omega arith in
    let c : drop (k - input_arity s) (drop (input_arity s) I) ≡ drop k I = drop-drop (k - input_arity s) (input_arity s) I ∙ ap (λ (q : ℕ). drop q I) j in
    rw (length-take-le k I l, e, x (omega arith), take-take (input_arity s) k I m, drop-take (input_arity s) k I m l)
    (after-settled (drop (input_arity s) I) O (walk T s (p + 3) (take (input_arity s) I)) _ _ (drop k I) O
    (λ h. rw (y h n, c)
    (after-settled (drop k I) (O ++ h) (walk T t (p + 3 + size s) (take (k - input_arity s) (drop (input_arity s) I))) _ _ (drop k I) O
    (λ h'. rw (append_assoc O h h', count_back O (h ++ h')) (settled-joined (drop k I) O (h ++ h') p)))))

-- THE TWO STACKS ARE THE WALK: the goals taken are off the inputs, the goals given behind the outputs, and a refusal is the walk's.
pub stacks_walk : (T : Table) (s : Term) (p k : ℕ) (I O : List Goal) → k ≤ length I → stacks T s p k I O ≡ settled (drop k I) O (walk T s p (take k I))
unfolding stacks walk on_no_goal
stacks_walk T (atomic a) p k I O l = one_goal_lem p k I O _ _ l (λ γ J e. refl)
stacks_walk T id p k I O l = one_goal_lem p k I O _ _ l (λ γ J e. refl)
stacks_walk T (label m s) p k I O l = one_goal_lem p k I O _ _ l (λ γ J e. rw e (stacks_walk T s (p + 5) 1 (γ ∷ J) O (omega arith)))
stacks_walk T (sequence s t) p k I O l =
    rw (stacks_walk T s (p + 3) k I O l)
    (after-settled (drop k I) O (walk T s (p + 3) (take k I)) _ _ (drop k I) O
    (λ h. rw (count_back O h, drop-append_seam O h, take-append_seam O h)
    (rw (drop-append_seam h (drop k I), take-append_seam h (drop k I)) at
    (stacks_walk T t (p + 3 + size s) (length h) (h ++ drop k I) O (omega (arith, length-append h (drop k I)))))))
stacks_walk T (tensor s t) p k I O l =
    tensor_stacks T s t p k I O l (ltb k (input_arity s)) refl
    (λ m. stacks_walk T s (p + 3) (input_arity s) I O m)
    (λ h m. stacks_walk T t (p + 3 + size s) (k - input_arity s) (drop (input_arity s) I) (O ++ h) m)
stacks_walk T empty p zero I O l = rw (append-nil O)
stacks_walk T empty p (suc k) [] O l = absurd (omega arith)
stacks_walk T empty p (suc k) (γ ∷ I) O l = refl
stacks_walk T (alternation s t) p k I O l = refl
stacks_walk T (assert γ) p k I O l = refl
stacks_walk T (defined n) p k I O l = refl
