-- What a run's state holds after any number of steps: the waiting terms and kept fields are together at most the steps, and every list has at most 256
-- goals. Each is kept by unwinding, by a beginning and so by a step. Assumes nothing.
use Prim.Native.Nat.{ℕ, zero, suc, ◌+◌, ◌*◌, ◌≤◌}
use mathlib.Core.Path.{◌≡◌, refl, subst}
use mathlib.Core.Bool.{Bool, true, false, cond}
use mathlib.Core.List.{List, [], ◌∷◌, ◌++◌}
use mathlib.Core.Option.{Option, none, some}
use native.Mathlib.Omega.{arith}
use lib.Dec.{leb}
use lib.ListN.{length, length-take, length-drop}
use borrow.Author.Tests.{leb-true}
use Rattle.format.specs.declared.values.RuleName.{RuleName}
use Rattle.format.specs.declared.values.Goal.{Goal}
use Rattle.format.specs.declared.values.Label.{Label}
use Rattle.format.specs.declared.refusals.Cause.TheVariants.{JoinedTooLong, FieldsTooMany}
use Rattle.format.specs.Limits.{most_held}
use Rattle.format.specs.Terms.{Term, atomic, id, label, sequence, tensor, empty, alternation, assert, defined, size, fields}
use Rattle.tables.specs.Tables.{Table}
use Rattle.tables.specs.Lookup.{FoundRule, find_rule, find_body, matches}
use Rattle.tables.specs.Places.{body_place}
use Rattle.tables.proofs.RuleLookup.{found_member}
use Rattle.evaluation.specs.TacticArity.{tactic_arity}
use Rattle.evaluation.specs.Outcomes.{Ending, proved, failed, ended, within, found_premises, on_one, rule_gives, one_goal, no_goal, assert_gives, split_at, split_by, finished, in_label, after_left, joined_fits, beside_left}
use Rattle.evaluation.specs.Machine.{held, Place, past, Frame, labelled, sequence_left, sequence_right, tensor_left, tensor_right, alternation_left, Control, running, stopped, State, after, unwind, enter_or_fail, begin, step_from, step, run, start}
use Rattle.hitac.specs.Premises.{FewPremises}
use Rattle.evaluation.specs.RunSizes.{ending_fields, waiting, waiting_goals, kept, ShortFrames, ShortEnding, Short}

-- the fields

within-fields : (k : ℕ) (s : Term) (g : List Goal) → ending_fields (within k s g) ≤ fields s
within-fields k s g = go (leb (k + fields s) most_held)
  where
    go : (x : Bool) → ending_fields (cond x (proved s g) (ended FieldsTooMany)) ≤ fields s
    go true = omega arith
    go false = omega arith

label_fields : (k : ℕ) (l : Label) (e : Ending) → ending_fields (in_label k l e) ≤ suc (ending_fields e)
unfolding fields
label_fields k l (proved s g) = omega (arith, within-fields k (label l s) g)
label_fields k l failed = omega arith
label_fields k l (ended c) = omega arith

sequence_fields : (k : ℕ) (s : Term) (e : Ending) → ending_fields (after_left k s e) ≤ suc (fields s + ending_fields e)
unfolding fields
sequence_fields k s (proved r g) = omega (arith, within-fields k (sequence s r) g)
sequence_fields k s failed = omega arith
sequence_fields k s (ended c) = omega arith

tensor_fields : (k : ℕ) (s : Term) (g : List Goal) (e : Ending) → ending_fields (beside_left k s g e) ≤ suc (fields s + ending_fields e)
unfolding fields
tensor_fields k s g (proved r h) = go (joined_fits (g ++ h))
  where
    go : (x : Bool) → ending_fields (cond x (within k (tensor s r) (g ++ h)) (ended JoinedTooLong)) ≤ suc (fields s + fields r)
    go true = omega (arith, within-fields k (tensor s r) (g ++ h))
    go false = omega arith
tensor_fields k s g failed = omega arith
tensor_fields k s g (ended c) = omega arith

finished-fields_lem : (k : ℕ) (s : Term) (o : Option (List Goal)) → fields s ≤ 1 → ending_fields (finished k s o) ≤ 1
finished-fields_lem k s none h = omega arith
finished-fields_lem k s (some g) h = omega (arith, within-fields k s g, h)

unwind-kept : (e : Ending) (w : List Frame) → kept (unwind e w) ≤ ending_fields e + waiting w
unfolding unwind
unwind-kept e [] = omega arith
unwind-kept e (labelled π l ∷ w) = omega (arith, unwind-kept (in_label (held w) l e) w, label_fields (held w) l e)
unwind-kept (proved s g) (sequence_left π u ∷ w) = omega arith
unwind-kept failed (sequence_left π u ∷ w) = omega (arith, unwind-kept failed w)
unwind-kept (ended c) (sequence_left π u ∷ w) = omega (arith, unwind-kept (ended c) w)
unwind-kept e (sequence_right π s ∷ w) = omega (arith, unwind-kept (after_left (held w) s e) w, sequence_fields (held w) s e)
unwind-kept (proved s g) (tensor_left π u h ∷ w) = omega arith
unwind-kept failed (tensor_left π u h ∷ w) = omega (arith, unwind-kept failed w)
unwind-kept (ended c) (tensor_left π u h ∷ w) = omega (arith, unwind-kept (ended c) w)
unwind-kept e (tensor_right π s g ∷ w) = omega (arith, unwind-kept (beside_left (held w) s g e) w, tensor_fields (held w) s g e)
unwind-kept (proved s g) (alternation_left π u h ∷ w) = omega (arith, unwind-kept (proved s g) w)
unwind-kept failed (alternation_left π u h ∷ w) = omega arith
unwind-kept (ended c) (alternation_left π u h ∷ w) = omega (arith, unwind-kept (ended c) w)

finished-kept : (s : Term) (o : Option (List Goal)) (w : List Frame) → fields s ≤ 1 → kept (unwind (finished (held w) s o) w) ≤ suc (waiting w)
finished-kept s o w h = omega (arith, unwind-kept (finished (held w) s o) w, finished-fields_lem (held w) s o h)

enter-kept : {A : Type 0} (o : Option A) (w : List Frame) (f : A → Control) → ((a : A) → kept (f a) ≤ suc (waiting w)) →
    kept (enter_or_fail o w f) ≤ suc (waiting w)
enter-kept none w f h = omega (arith, unwind-kept failed w)
enter-kept (some a) w f h = h a

module _ (T : Table) where
  begin-kept : (π : Place) (t : Term) (g : List Goal) (w : List Frame) → kept (begin T π t g w) ≤ suc (waiting w)
  unfolding begin fields
  begin-kept π (atomic a) g w = finished-kept (atomic a) (rule_gives T a g) w (omega arith)
  begin-kept π id g w = finished-kept id (one_goal g) w (omega arith)
  begin-kept π (label l t) g w = enter-kept (one_goal g) w _ (λ h. omega arith)
  begin-kept π (sequence t u) g w = omega arith
  begin-kept π (tensor t u) g w = enter-kept (split_by (tactic_arity T t) g) w _ (λ p. omega arith)
  begin-kept π empty g w = finished-kept empty (no_goal g) w (omega arith)
  begin-kept π (alternation t u) g w = omega arith
  begin-kept π (assert p) g w = finished-kept id (assert_gives T p g) w (omega arith)
  begin-kept π (defined d) g w = enter-kept (find_body T d) w _ (λ t. omega arith)

  kept_on : (b n : ℕ) (κ : Control) → kept κ ≤ n → kept (run T b (after n κ)).control ≤ (run T b (after n κ)).steps
  unfolding run step step_from
  kept_on zero n κ h = h
  kept_on (suc b) n (running π t g w) h = kept_on b (suc n) (begin T π t g w) (omega (arith, begin-kept π t g w))
  kept_on (suc b) n (stopped e) h = kept_on b n (stopped e) h

  -- KEPT: after any number of steps, the waiting terms and the fields that they keep (at its end the fields of the proof) are at most the steps.
  pub run-kept : (b : ℕ) (π : Place) (t : Term) (g : List Goal) → kept (run T b (start π t g)).control ≤ (run T b (start π t g)).steps
  unfolding start
  run-kept b π t g = kept_on b 0 (running π t g []) (omega arith)

-- the lists of goals

-- what a form gives is short
abbrev ShortGiven : Option (List Goal) → Type 0
ShortGiven none = Unit {0}
ShortGiven (some g) = length g ≤ 256

within_short : (k : ℕ) (s : Term) (g : List Goal) → length g ≤ 256 → ShortEnding (within k s g)
within_short k s g h = go (leb (k + fields s) most_held)
  where
    go : (x : Bool) → ShortEnding (cond x (proved s g) (ended FieldsTooMany))
    go true = h
    go false = tt

finished_short : (k : ℕ) (s : Term) (o : Option (List Goal)) → ShortGiven o → ShortEnding (finished k s o)
finished_short k s none h = tt
finished_short k s (some g) h = within_short k s g h

one_short : (f : Goal → Option (List Goal)) → ((γ : Goal) → ShortGiven (f γ)) → (g : List Goal) → ShortGiven (on_one f g)
one_short f h [] = tt
one_short f h (γ ∷ []) = h γ
one_short f h (γ ∷ δ ∷ g) = tt

none_short : (g : List Goal) → ShortGiven (no_goal g)
none_short [] = omega arith
none_short (γ ∷ g) = tt

label_short : (k : ℕ) (l : Label) (e : Ending) → ShortEnding e → ShortEnding (in_label k l e)
label_short k l (proved s g) h = within_short k (label l s) g h
label_short k l failed h = tt
label_short k l (ended c) h = tt

sequence_short : (k : ℕ) (s : Term) (e : Ending) → ShortEnding e → ShortEnding (after_left k s e)
sequence_short k s (proved r g) h = within_short k (sequence s r) g h
sequence_short k s failed h = tt
sequence_short k s (ended c) h = tt

tensor_short : (k : ℕ) (s : Term) (g : List Goal) (e : Ending) → ShortEnding (beside_left k s g e)
tensor_short k s g (proved r h) = go (joined_fits (g ++ h)) refl
  where
    go : (x : Bool) → joined_fits (g ++ h) ≡ x → ShortEnding (cond x (within k (tensor s r) (g ++ h)) (ended JoinedTooLong))
    go true q = within_short k (tensor s r) (g ++ h) (omega (arith, leb-true (length (g ++ h)) 256 q))
    go false q = tt
tensor_short k s g failed = tt
tensor_short k s g (ended c) = tt

unwind_short : (e : Ending) (w : List Frame) → ShortEnding e → ShortFrames w → Short (unwind e w)
unfolding unwind
unwind_short e [] h v = h
unwind_short e (labelled π l ∷ w) h v = unwind_short (in_label (held w) l e) w (label_short (held w) l e h) v.1
unwind_short (proved s g) (sequence_left π u ∷ w) h v = (h, v)
unwind_short failed (sequence_left π u ∷ w) h v = unwind_short failed w h v.1
unwind_short (ended c) (sequence_left π u ∷ w) h v = unwind_short (ended c) w h v.1
unwind_short e (sequence_right π s ∷ w) h v = unwind_short (after_left (held w) s e) w (sequence_short (held w) s e h) v.1
unwind_short (proved s g) (tensor_left π u x ∷ w) h v = (v.0, (h, v.1))
unwind_short failed (tensor_left π u x ∷ w) h v = unwind_short failed w h v.1
unwind_short (ended c) (tensor_left π u x ∷ w) h v = unwind_short (ended c) w h v.1
unwind_short e (tensor_right π s g ∷ w) h v = unwind_short (beside_left (held w) s g e) w (tensor_short (held w) s g e) v.1
unwind_short (proved s g) (alternation_left π u x ∷ w) h v = unwind_short (proved s g) w h v.1
unwind_short failed (alternation_left π u x ∷ w) h v = v
unwind_short (ended c) (alternation_left π u x ∷ w) h v = unwind_short (ended c) w h v.1

split_short : (π ρ : Place) (o : Option ℕ) (t u : Term) (g : List Goal) (w : List Frame) → length g ≤ 256 → ShortFrames w →
    Short (enter_or_fail (split_by o g) w λ p. running π t p.left_goals (tensor_left ρ u p.right_goals ∷ w))
split_short π ρ none t u g w h v = unwind_short failed w tt v
split_short π ρ (some n) t u g w h v = go (leb n (length g))
  where
    go : (x : Bool) → Short (enter_or_fail (cond x (some (split_at n g)) none) w λ p. running π t p.left_goals (tensor_left ρ u p.right_goals ∷ w))
    go true = (omega (arith, length-take n g), (omega (arith, length-drop n g), v))
    go false = unwind_short failed w tt v

module _ (T : Table) (few : FewPremises T) where
  rule_short : (a : RuleName) (g : List Goal) → ShortGiven (rule_gives T a g)
  rule_short a = one_short (λ γ. found_premises (find_rule T a γ)) (λ γ. go γ (find_rule T a γ) refl)
    where
      go : (γ : Goal) (o : Option FoundRule) → find_rule T a γ ≡ o → ShortGiven (found_premises o)
      go γ none q = tt
      go γ (some r) q = omega (arith, few a γ r.premises (found_member T a γ r.number r.premises q))

  id_short : (g : List Goal) → ShortGiven (one_goal g)
  id_short = one_short (λ γ. some (γ ∷ [])) (λ γ. omega arith)

  assert_short : (p : Goal) (g : List Goal) → ShortGiven (assert_gives T p g)
  assert_short p = one_short (λ γ. cond (matches T p γ) (some (γ ∷ [])) none) (λ γ. go γ (matches T p γ))
    where
      go : (γ : Goal) (x : Bool) → ShortGiven (cond x (some (γ ∷ [])) none)
      go γ true = omega arith
      go γ false = tt

  end_short : (s : Term) (o : Option (List Goal)) (w : List Frame) → ShortGiven o → ShortFrames w → Short (unwind (finished (held w) s o) w)
  end_short s o w h v = unwind_short (finished (held w) s o) w (finished_short (held w) s o h) v

  begin_short : (π : Place) (t : Term) (g : List Goal) (w : List Frame) → length g ≤ 256 → ShortFrames w → Short (begin T π t g w)
  unfolding begin
  begin_short π (atomic a) g w h v = end_short (atomic a) (rule_gives T a g) w (rule_short a g) v
  begin_short π id g w h v = end_short id (one_goal g) w (id_short g) v
  begin_short π (label l t) g w h v = go (one_goal g) (id_short g)
    where
      go : (o : Option (List Goal)) → ShortGiven o → Short (enter_or_fail o w λ x. running (past π 5) t x (labelled (past π 5) l ∷ w))
      go none c = unwind_short failed w tt v
      go (some x) c = (c, (omega arith, v))
  begin_short π (sequence t u) g w h v = (h, (omega arith, v))
  begin_short π (tensor t u) g w h v = split_short (past π 3) (past π (3 + size t)) (tactic_arity T t) t u g w h v
  begin_short π empty g w h v = end_short empty (no_goal g) w (none_short g) v
  begin_short π (alternation t u) g w h v = (h, (h, v))
  begin_short π (assert p) g w h v = end_short id (assert_gives T p g) w (assert_short p g) v
  begin_short π (defined d) g w h v = go (find_body T d)
    where
      go : (o : Option Term) → Short (enter_or_fail o w λ t. running (record { file = 0; at = body_place T d }) t g w)
      go none = unwind_short failed w tt v
      go (some t) = (h, v)

  short_on : (b n : ℕ) (κ : Control) → Short κ → Short (run T b (after n κ)).control
  unfolding run step step_from
  short_on zero n κ h = h
  short_on (suc b) n (running π t g w) h = short_on b (suc n) (begin T π t g w) (begin_short π t g w h.0 h.1)
  short_on (suc b) n (stopped e) h = short_on b n (stopped e) h

  -- SHORT: if the job's list has at most 256 goals, then after any number of steps so has every list: that of the term to begin, those of the waiting
  -- terms, and the one given at the end.
  pub run_short : (b : ℕ) (π : Place) (t : Term) (g : List Goal) → length g ≤ 256 → Short (run T b (start π t g)).control
  unfolding start
  run_short b π t g h = short_on b 0 (running π t g []) (h, tt)

-- There are no more waiting terms than they and their fields together,
waiting-length : (w : List Frame) → length w ≤ waiting w
waiting-length [] = omega arith
waiting-length (x ∷ w) = omega (arith, waiting-length w)

-- and they keep at most 256 goals each.
pub waiting_goals_lem : (w : List Frame) → ShortFrames w → waiting_goals w ≤ 256 * length w
waiting_goals_lem [] h = omega arith
waiting_goals_lem (x ∷ w) h = omega (arith, waiting_goals_lem w h.1)

module _ (T : Table) (b : ℕ) (π : Place) (t : Term) (g : List Goal) where
  -- WAITING: after n steps there are at most n waiting terms, together with the fields that they keep.
  pub running_kept : {n : ℕ} {ρ : Place} {u : Term} {h : List Goal} {w : List Frame} → run T b (start π t g) ≡ after n (running ρ u h w) →
      (waiting w ≤ n) × (length w ≤ n)
  running_kept {n} {w = w} q =
      let k : waiting w ≤ n = subst (λ (σ : State). kept σ.control ≤ σ.steps) q (run-kept T b π t g) in (k, omega (arith, waiting-length w))

  -- PROOF: the proof of a run has at most as many fields as steps were taken.
  pub proof_fields : {n : ℕ} {s : Term} {h : List Goal} → run T b (start π t g) ≡ after n (stopped (proved s h)) → fields s ≤ n
  proof_fields q = subst (λ (σ : State). kept σ.control ≤ σ.steps) q (run-kept T b π t g)

  module _ (few : FewPremises T) (l : length g ≤ 256) where
    -- GOALS: the term to begin has at most 256 goals, each waiting term keeps at most 256, and so all of them at most 256 for each step.
    pub running_goals : {n : ℕ} {ρ : Place} {u : Term} {h : List Goal} {w : List Frame} → run T b (start π t g) ≡ after n (running ρ u h w) →
        (length h ≤ 256) × ShortFrames w × (waiting_goals w ≤ 256 * n)
    running_goals {n} {h = h} {w = w} q =
        let s : (length h ≤ 256) × ShortFrames w = subst (λ (σ : State). Short σ.control) q (run_short T few b π t g l) in
        let k = running_kept q in
        (s.0, s.1, omega (arith, waiting_goals_lem w s.1))

    -- The proof of a run gives at most 256 goals.
    pub proof_goals : {n : ℕ} {s : Term} {h : List Goal} → run T b (start π t g) ≡ after n (stopped (proved s h)) → length h ≤ 256
    proof_goals q = subst (λ (σ : State). Short σ.control) q (run_short T few b π t g l)
