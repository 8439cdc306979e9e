-- The waiting terms of a halted run share their goals with those inside them: from the own goals of each, and all goals of the term to begin, every
-- alternation's whole list is rebuilt. The invariant is kept by unwinding, by a beginning and so by a step. Assumes nothing.
use Prim.Native.Nat.{ℕ, zero, suc, ◌+◌, ◌-◌, ◌≤◌}
use mathlib.Core.Path.{◌≡◌, refl, sym, subst, ap, ◌∙◌}
use mathlib.Core.Bool.{Bool, true, false, cond}
use mathlib.Core.List.{List, [], ◌∷◌, ◌++◌, append_assoc, append-nil}
use mathlib.Core.Option.{Option, none, some}
use native.Mathlib.Omega.{arith}
use lib.Dec.{leb}
use lib.ListN.{length, take, length-append, take-append-drop}
use lib.Seq.{take-append_seam}
use Rattle.format.specs.declared.values.Goal.{Goal}
use Rattle.format.specs.declared.values.Label.{Label}
use Rattle.format.specs.Terms.{Term, atomic, id, label, sequence, tensor, empty, alternation, assert, defined, size}
use Rattle.tables.specs.Tables.{Table}
use Rattle.tables.specs.Lookup.{find_body}
use Rattle.tables.specs.Places.{body_place}
use Rattle.evaluation.specs.TacticArity.{tactic_arity}
use Rattle.evaluation.specs.Outcomes.{Ending, proved, failed, ended, rule_gives, one_goal, no_goal, assert_gives, split_at, split_by, finished, in_label, after_left, beside_left}
use Rattle.evaluation.specs.Machine.{held, Place, past, Frame, labelled, sequence_left, sequence_right, tensor_left, tensor_right, alternation_left, Control, running, stopped, State, after, unwind, enter_or_fail, begin, step_from, step, run, start}
use Rattle.evaluation.specs.Halts.{held_of, held_goals, Rebuilt, Shared}

-- the last goals of a list, and those before them
last_of : (p y : List Goal) → p ++ y ≡ take (length (p ++ y) - length y) (p ++ y) ++ y
last_of p y =
    let n : length (p ++ y) - length y ≡ length p = omega (arith, length-append p y) in
    sym (ap (λ (l : List Goal). l ++ y) (ap (λ (k : ℕ). take k (p ++ y)) n ∙ take-append_seam p y))

-- COUNTS: as many goals are rebuilt as are counted
pub held-length : (y : List Goal) (f : Frame) → Rebuilt y f → held_of (length y) f ≡ length (held_goals y f)
held-length y (labelled π l) r = refl
held-length y (sequence_left π u) r = refl
held-length y (sequence_right π s) r = refl
held-length y (tensor_left π u h) r = sym (length-append y h)
held-length y (tensor_right π s h) r = refl
held-length y (alternation_left π u h) r = ap length r

-- those inside an alternation hold no more goals than its list has
pub inside_most : (y : List Goal) (π : Place) (u : Term) (h : List Goal) → Rebuilt y (alternation_left π u h) → length y ≤ length h
inside_most y π u h r =
    let p = take (length h - length y) h in
    let n : length h ≡ length (p ++ y) = ap length r in
    omega (arith, n, length-append p y)

-- with the whole list of the alternation for what is rebuilt
whole : (y : List Goal) (π : Place) (u : Term) (h : List Goal) (w : List Frame) → Shared y (alternation_left π u h ∷ w) → Shared h w
unfolding Shared
whole y π u h w s = subst (λ (l : List Goal). Shared l w) (sym s.0) s.1

alternation_shared : (p y : List Goal) (π : Place) (u : Term) (h : List Goal) (w : List Frame) → h ≡ p ++ y → Shared h w → Shared y (alternation_left π u h ∷ w)
unfolding Shared
alternation_shared p y π u h w e s =
    let r : h ≡ held_goals y (alternation_left π u h) = subst (λ (l : List Goal). l ≡ take (length l - length y) l ++ y) (sym e) (last_of p y) in
    (r, subst (λ (l : List Goal). Shared l w) r s)

-- fewer goals inside: the last ones
last_shared : (p y : List Goal) (w : List Frame) → Shared (p ++ y) w → Shared y w
unfolding Shared
last_shared p y [] s = tt
last_shared p y (labelled π l ∷ w) s = (tt, last_shared p y w s.1)
last_shared p y (sequence_left π u ∷ w) s = (tt, last_shared p y w s.1)
last_shared p y (sequence_right π t ∷ w) s = s
last_shared p y (tensor_left π u h ∷ w) s = (tt, last_shared p (y ++ h) w (subst (λ (l : List Goal). Shared l w) (append_assoc p y h) s.1))
last_shared p y (tensor_right π t h ∷ w) s = (tt, last_shared p y w s.1)
last_shared p y (alternation_left π u h ∷ w) s =
    let q = take (length h - length (p ++ y)) h in
    alternation_shared (q ++ p) y π u h w (s.0 ∙ sym (append_assoc q p y)) (whole (p ++ y) π u h w s)

none_shared : (y : List Goal) (w : List Frame) → Shared y w → Shared [] w
none_shared y w s = last_shared y [] w (subst (λ (l : List Goal). Shared l w) (sym (append-nil y)) s)

abbrev SharedIn : Control → Type 0
SharedIn (running π t g w) = Shared g w
SharedIn (stopped e) = Unit {0}

unwind_shared : (e : Ending) (w : List Frame) → Shared [] w → SharedIn (unwind e w)
unfolding unwind Shared
unwind_shared e [] s = tt
unwind_shared e (labelled π l ∷ w) s = unwind_shared (in_label (held w) l e) w s.1
unwind_shared (proved t g) (sequence_left π u ∷ w) s = (tt, s.1)
unwind_shared failed (sequence_left π u ∷ w) s = unwind_shared failed w s.1
unwind_shared (ended c) (sequence_left π u ∷ w) s = unwind_shared (ended c) w s.1
unwind_shared e (sequence_right π t ∷ w) s = unwind_shared (after_left (held w) t e) w s.1
unwind_shared (proved t g) (tensor_left π u h ∷ w) s = (tt, s.1)
unwind_shared failed (tensor_left π u h ∷ w) s = unwind_shared failed w (none_shared h w s.1)
unwind_shared (ended c) (tensor_left π u h ∷ w) s = unwind_shared (ended c) w (none_shared h w s.1)
unwind_shared e (tensor_right π t g ∷ w) s = unwind_shared (beside_left (held w) t g e) w s.1
unwind_shared (proved t g) (alternation_left π u h ∷ w) s = unwind_shared (proved t g) w (none_shared h w (whole [] π u h w s))
unwind_shared failed (alternation_left π u h ∷ w) s = whole [] π u h w s
unwind_shared (ended c) (alternation_left π u h ∷ w) s = unwind_shared (ended c) w (none_shared h w (whole [] π u h w s))

end_shared : (e : Ending) (g : List Goal) (w : List Frame) → Shared g w → SharedIn (unwind e w)
end_shared e g w s = unwind_shared e w (none_shared g w s)

label_begins : (π : Place) (l : Label) (t : Term) (g : List Goal) (w : List Frame) → Shared g w → SharedIn (enter_or_fail (one_goal g) w λ h. running π t h (labelled π l ∷ w))
unfolding Shared
label_begins π l t [] w s = end_shared failed [] w s
label_begins π l t (γ ∷ []) w s = (tt, s)
label_begins π l t (γ ∷ δ ∷ g) w s = end_shared failed (γ ∷ δ ∷ g) w s

tensor_begins : (π ρ : Place) (o : Option ℕ) (t u : Term) (g : List Goal) (w : List Frame) → Shared g w
    → SharedIn (enter_or_fail (split_by o g) w λ p. running π t p.left_goals (tensor_left ρ u p.right_goals ∷ w))
unfolding Shared
tensor_begins π ρ none t u g w s = end_shared failed g w s
tensor_begins π ρ (some n) t u g w s = go (leb n (length g))
  where
    go : (x : Bool) → SharedIn (enter_or_fail (cond x (some (split_at n g)) none) w λ p. running π t p.left_goals (tensor_left ρ u p.right_goals ∷ w))
    go true = (tt, subst (λ (l : List Goal). Shared l w) (sym (take-append-drop n g)) s)
    go false = end_shared failed g w s

begin_shared : (T : Table) (π : Place) (t : Term) (g : List Goal) (w : List Frame) → Shared g w → SharedIn (begin T π t g w)
unfolding begin Shared
begin_shared T π (atomic a) g w s = end_shared (finished (held w) (atomic a) (rule_gives T a g)) g w s
begin_shared T π id g w s = end_shared (finished (held w) id (one_goal g)) g w s
begin_shared T π (label l t) g w s = label_begins (past π 5) l t g w s
begin_shared T π (sequence t u) g w s = (tt, s)
begin_shared T π (tensor t u) g w s = tensor_begins (past π 3) (past π (3 + size t)) (tactic_arity T t) t u g w s
begin_shared T π empty g w s = end_shared (finished (held w) empty (no_goal g)) g w s
begin_shared T π (alternation t u) g w s = alternation_shared [] g (past π (3 + size t)) u g w refl s
begin_shared T π (assert p) g w s = end_shared (finished (held w) id (assert_gives T p g)) g w s
begin_shared T π (defined d) g w s = go (find_body T d)
  where
    go : (o : Option Term) → SharedIn (enter_or_fail o w λ t. running (record { file = 0; at = body_place T d }) t g w)
    go none = end_shared failed g w s
    go (some t) = s

shared_on : (T : Table) (b n : ℕ) (κ : Control) → SharedIn κ → SharedIn (run T b (after n κ)).control
unfolding run step step_from
shared_on T zero n κ s = s
shared_on T (suc b) n (running π t g w) s = shared_on T b (suc n) (begin T π t g w) (begin_shared T π t g w s)
shared_on T (suc b) n (stopped e) s = shared_on T b n (stopped e) s

-- SHARED: in every halted run each alternation's whole list is its own goals followed by those that the terms inside it hold.
pub run_shared : (T : Table) (b n : ℕ) (π ρ : Place) (t u : Term) (g h : List Goal) (w : List Frame) → run T b (start π t g) ≡ after n (running ρ u h w) → Shared h w
unfolding start Shared
run_shared T b n π ρ t u g h w q = subst (λ (σ : State). SharedIn σ.control) q (shared_on T b 0 (running π t g []) tt)
