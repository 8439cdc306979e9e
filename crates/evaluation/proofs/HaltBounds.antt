-- How large the saved state of a halted run can be: each goal that it holds lies in the job's list or was given by a finished term, and a finished term gives
-- at most eight goals for each of its fields. The invariant is kept by unwinding, by a beginning and so by a step. Assumes nothing.
use Prim.Native.Nat.{ℕ, zero, suc, ◌+◌, ◌*◌, ◌≤◌, ◌-◌}
use mathlib.Core.Path.{◌≡◌, refl, subst, ap}
use mathlib.Core.Bool.{Bool, true, false, cond}
use mathlib.Core.List.{List, [], ◌∷◌, ◌++◌}
use mathlib.Core.Option.{Option, none, some}
use native.Mathlib.Omega.{arith}
use lib.Dec.{leb}
use lib.ListN.{length, length-take, length-drop, length-append}
use borrow.Author.Tests.{leb-true}
use Rattle.format.specs.declared.values.RuleName.{RuleName}
use Rattle.format.specs.declared.values.Goal.{Goal}
use Rattle.format.specs.declared.values.Label.{Label}
use Rattle.format.specs.declared.refusals.Cause.TheVariants.{JoinedTooLong, FieldsTooMany}
use Rattle.format.specs.Limits.{most_held}
use Rattle.format.specs.Terms.{Term, atomic, id, label, sequence, tensor, empty, alternation, assert, defined, size, fields}
use Rattle.files.proofs.Sizes.{size_most}
use Rattle.tables.specs.Tables.{Table}
use Rattle.tables.specs.Lookup.{FoundRule, find_rule, find_body, matches}
use Rattle.tables.specs.Places.{body_place}
use Rattle.tables.proofs.RuleLookup.{found_member}
use Rattle.evaluation.specs.TacticArity.{tactic_arity}
use Rattle.evaluation.specs.Outcomes.{Ending, proved, failed, ended, within, found_premises, on_one, rule_gives, one_goal, no_goal, assert_gives, split_at, split_by, finished, in_label, after_left, joined_fits, beside_left}
use Rattle.evaluation.specs.Machine.{held, frame_fields, Place, past, Frame, labelled, sequence_left, sequence_right, tensor_left, tensor_right, alternation_left, Control, running, stopped, State, after, unwind, enter_or_fail, begin, step_from, step, run, start}
use Rattle.hitac.specs.Premises.{FewPremises}
use Rattle.evaluation.specs.RunSizes.{waiting}
use Rattle.evaluation.specs.Halts.{own_goals, held_of, own_count, kept_size, kept_bytes}

-- a finished term gives at most eight goals for each of its fields
abbrev GroundedEnding : Ending → Type 0
GroundedEnding (proved s g) = length g ≤ 8 * fields s
GroundedEnding failed = Unit {0}
GroundedEnding (ended c) = Unit {0}

-- the same of the waiting terms, where those inside hold so many goals of the list on which the next one was begun
unfoldable GroundedFrames : (inside : ℕ) → List Frame → Type 0
GroundedFrames x [] = x ≤ 256
GroundedFrames x (labelled π l ∷ w) = GroundedFrames x w
GroundedFrames x (sequence_left π u ∷ w) = GroundedFrames x w
GroundedFrames x (sequence_right π s ∷ w) = (x ≤ 8 * fields s) × GroundedFrames 0 w
GroundedFrames x (tensor_left π u h ∷ w) = GroundedFrames (x + length h) w
GroundedFrames x (tensor_right π s h ∷ w) = (length h ≤ 8 * fields s) × GroundedFrames x w
GroundedFrames x (alternation_left π u h ∷ w) = (x ≤ length h) × GroundedFrames (length h) w

abbrev Grounded : Control → Type 0
Grounded (running π t g w) = GroundedFrames (length g) w
Grounded (stopped e) = GroundedEnding e

-- fewer goals inside
fewer : (x y : ℕ) (w : List Frame) → y ≤ x → GroundedFrames x w → GroundedFrames y w
unfolding GroundedFrames
fewer x y [] h v = omega (arith, h, v)
fewer x y (labelled π l ∷ w) h v = fewer x y w h v
fewer x y (sequence_left π u ∷ w) h v = fewer x y w h v
fewer x y (sequence_right π s ∷ w) h v = (omega (arith, h, v.0), v.1)
fewer x y (tensor_left π u g ∷ w) h v = fewer (x + length g) (y + length g) w (omega (arith, h)) v
fewer x y (tensor_right π s g ∷ w) h v = (v.0, fewer x y w h v.1)
fewer x y (alternation_left π u g ∷ w) h v = (omega (arith, h, v.0), v.1)

none_inside : (x : ℕ) (w : List Frame) → GroundedFrames x w → GroundedFrames 0 w
none_inside x w v = fewer x 0 w (omega arith) v

within_grounded : (k : ℕ) (s : Term) (g : List Goal) → length g ≤ 8 * fields s → GroundedEnding (within k s g)
within_grounded k s g h = go (leb (k + fields s) most_held)
  where
    go : (x : Bool) → GroundedEnding (cond x (proved s g) (ended FieldsTooMany))
    go true = h
    go false = tt

label_grounded : (k : ℕ) (l : Label) (e : Ending) → GroundedEnding e → GroundedEnding (in_label k l e)
unfolding fields
label_grounded k l (proved s g) h = within_grounded k (label l s) g (omega (arith, h))
label_grounded k l failed h = tt
label_grounded k l (ended c) h = tt

sequence_grounded : (k : ℕ) (s : Term) (e : Ending) → GroundedEnding e → GroundedEnding (after_left k s e)
unfolding fields
sequence_grounded k s (proved r g) h = within_grounded k (sequence s r) g (omega (arith, h))
sequence_grounded k s failed h = tt
sequence_grounded k s (ended c) h = tt

tensor_grounded : (k : ℕ) (s : Term) (g : List Goal) (e : Ending) → length g ≤ 8 * fields s → GroundedEnding e → GroundedEnding (beside_left k s g e)
unfolding fields
tensor_grounded k s g (proved r h) v z = go (joined_fits (g ++ h))
  where
    go : (x : Bool) → GroundedEnding (cond x (within k (tensor s r) (g ++ h)) (ended JoinedTooLong))
    go true = within_grounded k (tensor s r) (g ++ h) (omega (arith, length-append g h, v, z))
    go false = tt
tensor_grounded k s g failed v z = tt
tensor_grounded k s g (ended c) v z = tt

unwind_grounded : (e : Ending) (w : List Frame) → GroundedEnding e → GroundedFrames 0 w → Grounded (unwind e w)
unfolding unwind GroundedFrames
unwind_grounded e [] h v = h
unwind_grounded e (labelled π l ∷ w) h v = unwind_grounded (in_label (held w) l e) w (label_grounded (held w) l e h) v
unwind_grounded (proved s g) (sequence_left π u ∷ w) h v = (h, v)
unwind_grounded failed (sequence_left π u ∷ w) h v = unwind_grounded failed w tt v
unwind_grounded (ended c) (sequence_left π u ∷ w) h v = unwind_grounded (ended c) w tt v
unwind_grounded e (sequence_right π s ∷ w) h v = unwind_grounded (after_left (held w) s e) w (sequence_grounded (held w) s e h) v.1
unwind_grounded (proved s g) (tensor_left π u k ∷ w) h v = (h, fewer (0 + length k) (length k) w (omega arith) v)
unwind_grounded failed (tensor_left π u k ∷ w) h v = unwind_grounded failed w tt (none_inside (0 + length k) w v)
unwind_grounded (ended c) (tensor_left π u k ∷ w) h v = unwind_grounded (ended c) w tt (none_inside (0 + length k) w v)
unwind_grounded e (tensor_right π s g ∷ w) h v = unwind_grounded (beside_left (held w) s g e) w (tensor_grounded (held w) s g e v.0 h) v.1
unwind_grounded (proved s g) (alternation_left π u k ∷ w) h v = unwind_grounded (proved s g) w h (none_inside (length k) w v.1)
unwind_grounded failed (alternation_left π u k ∷ w) h v = v.1
unwind_grounded (ended c) (alternation_left π u k ∷ w) h v = unwind_grounded (ended c) w tt (none_inside (length k) w v.1)

-- what a form without inner terms gives: at most eight goals
abbrev FewGiven : Option (List Goal) → Type 0
FewGiven none = Unit {0}
FewGiven (some g) = length g ≤ 8

finished_grounded : (k : ℕ) (s : Term) (o : Option (List Goal)) → 1 ≤ fields s → FewGiven o → GroundedEnding (finished k s o)
finished_grounded k s none l h = tt
finished_grounded k s (some g) l h = within_grounded k s g (omega (arith, l, h))

one_few : (f : Goal → Option (List Goal)) → ((γ : Goal) → FewGiven (f γ)) → (g : List Goal) → FewGiven (on_one f g)
one_few f h [] = tt
one_few f h (γ ∷ []) = h γ
one_few f h (γ ∷ δ ∷ g) = tt

none_few : (g : List Goal) → FewGiven (no_goal g)
none_few [] = omega arith
none_few (γ ∷ g) = tt

module _ (T : Table) (few : FewPremises T) where
  rule_few : (a : RuleName) (g : List Goal) → FewGiven (rule_gives T a g)
  rule_few a = one_few (λ γ. found_premises (find_rule T a γ)) (λ γ. go γ (find_rule T a γ) refl)
    where
      go : (γ : Goal) (o : Option FoundRule) → find_rule T a γ ≡ o → FewGiven (found_premises o)
      go γ none q = tt
      go γ (some r) q = omega (arith, few a γ r.premises (found_member T a γ r.number r.premises q))

  assert_few : (p : Goal) (g : List Goal) → FewGiven (assert_gives T p g)
  assert_few p = one_few (λ γ. cond (matches T p γ) (some (γ ∷ [])) none) (λ γ. go γ (matches T p γ))
    where
      go : (γ : Goal) (x : Bool) → FewGiven (cond x (some (γ ∷ [])) none)
      go γ true = omega arith
      go γ false = tt

  end_grounded : (s : Term) (o : Option (List Goal)) (x : ℕ) (w : List Frame) → 1 ≤ fields s → FewGiven o → GroundedFrames x w → Grounded (unwind (finished (held w) s o) w)
  end_grounded s o x w l h v = unwind_grounded (finished (held w) s o) w (finished_grounded (held w) s o l h) (none_inside x w v)

  label_begins : (π : Place) (l : Label) (t : Term) (g : List Goal) (w : List Frame) → GroundedFrames (length g) w
      → Grounded (enter_or_fail (one_goal g) w λ h. running π t h (labelled π l ∷ w))
  unfolding GroundedFrames
  label_begins π l t [] w v = unwind_grounded failed w tt (none_inside 0 w v)
  label_begins π l t (γ ∷ []) w v = v
  label_begins π l t (γ ∷ δ ∷ g) w v = unwind_grounded failed w tt (none_inside _ w v)

  tensor_begins : (π ρ : Place) (o : Option ℕ) (t u : Term) (g : List Goal) (w : List Frame) → GroundedFrames (length g) w
      → Grounded (enter_or_fail (split_by o g) w λ p. running π t p.left_goals (tensor_left ρ u p.right_goals ∷ w))
  unfolding GroundedFrames
  tensor_begins π ρ none t u g w v = unwind_grounded failed w tt (none_inside (length g) w v)
  tensor_begins π ρ (some n) t u g w v = go (leb n (length g)) refl
    where
      go : (x : Bool) → leb n (length g) ≡ x → Grounded (enter_or_fail (cond x (some (split_at n g)) none) w λ p. running π t p.left_goals (tensor_left ρ u p.right_goals ∷ w))
      go true e = fewer (length g) _ w (omega (arith, length-take n g, length-drop n g, leb-true n (length g) e)) v
      go false e = unwind_grounded failed w tt (none_inside (length g) w v)

  begin_grounded : (π : Place) (t : Term) (g : List Goal) (w : List Frame) → GroundedFrames (length g) w → Grounded (begin T π t g w)
  unfolding begin fields GroundedFrames
  begin_grounded π (atomic a) g w v = end_grounded (atomic a) (rule_gives T a g) (length g) w (omega arith) (rule_few a g) v
  begin_grounded π id g w v = end_grounded id (one_goal g) (length g) w (omega arith) (one_few (λ γ. some (γ ∷ [])) (λ γ. omega arith) g) v
  begin_grounded π (label l t) g w v = label_begins (past π 5) l t g w v
  begin_grounded π (sequence t u) g w v = v
  begin_grounded π (tensor t u) g w v = tensor_begins (past π 3) (past π (3 + size t)) (tactic_arity T t) t u g w v
  begin_grounded π empty g w v = end_grounded empty (no_goal g) (length g) w (omega arith) (none_few g) v
  begin_grounded π (alternation t u) g w v = (omega arith, v)
  begin_grounded π (assert p) g w v = end_grounded id (assert_gives T p g) (length g) w (omega arith) (assert_few p g) v
  begin_grounded π (defined d) g w v = go (find_body T d)
    where
      go : (o : Option Term) → Grounded (enter_or_fail o w λ t. running (record { file = 0; at = body_place T d }) t g w)
      go none = unwind_grounded failed w tt (none_inside (length g) w v)
      go (some t) = v

  grounded_on : (b n : ℕ) (κ : Control) → Grounded κ → Grounded (run T b (after n κ)).control
  unfolding run step step_from
  grounded_on zero n κ h = h
  grounded_on (suc b) n (running π t g w) h = grounded_on b (suc n) (begin T π t g w) (begin_grounded π t g w h)
  grounded_on (suc b) n (stopped e) h = grounded_on b n (stopped e) h

-- the goals that are held, by the fields that are kept
own_count_lem : (x : ℕ) (w : List Frame) → GroundedFrames x w → x + own_count x w ≤ 256 + 8 * held w
unfolding GroundedFrames own_count held
own_count_lem x [] v = omega (arith, v)
own_count_lem x (labelled π l ∷ w) v = omega (arith, own_count_lem x w v)
own_count_lem x (sequence_left π u ∷ w) v = omega (arith, own_count_lem x w v)
own_count_lem x (sequence_right π s ∷ w) v = omega (arith, own_count_lem 0 w v.1, v.0)
own_count_lem x (tensor_left π u h ∷ w) v = omega (arith, own_count_lem (x + length h) w v)
own_count_lem x (tensor_right π s h ∷ w) v = omega (arith, own_count_lem x w v.1, v.0)
own_count_lem x (alternation_left π u h ∷ w) v = omega (arith, own_count_lem (length h) w v.1, v.0, length-take (length h - x) h)

-- the waiting terms and the fields that they keep
pub waiting_is : (w : List Frame) → waiting w ≡ length w + held w
unfolding held
waiting_is [] = refl
waiting_is (f ∷ w) = omega (arith, waiting_is w)

kept-size_lem : (f : Frame) → kept_size f ≤ 5 * frame_fields f
kept-size_lem (labelled π l) = omega arith
kept-size_lem (sequence_left π u) = omega arith
kept-size_lem (sequence_right π s) = omega (arith, size_most s)
kept-size_lem (tensor_left π u h) = omega arith
kept-size_lem (tensor_right π s h) = omega (arith, size_most s)
kept-size_lem (alternation_left π u h) = omega arith

pub kept_bytes_lem : (w : List Frame) → kept_bytes w ≤ 5 * held w
unfolding kept_bytes held
kept_bytes_lem [] = omega arith
kept_bytes_lem (f ∷ w) = omega (arith, kept_bytes_lem w, kept-size_lem f)

-- HELD: in a halted run of a job with at most 256 goals the term to begin and the waiting terms hold at most 256 goals, and eight more for each kept field.
pub held_goals_lem : (T : Table) → FewPremises T → (b n : ℕ) (π ρ : Place) (t u : Term) (g h : List Goal) (w : List Frame) → length g ≤ 256
    → run T b (start π t g) ≡ after n (running ρ u h w) → length h + own_count (length h) w ≤ 256 + 8 * held w
unfolding start GroundedFrames
held_goals_lem T few b n π ρ t u g h w l q =
    own_count_lem (length h) w (subst (λ (σ : State). Grounded σ.control) q (grounded_on T few b 0 (running π t g []) l))
