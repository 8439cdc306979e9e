-- P12: up to 4,096 steps there is no 40 and every end is that of the rules without a limit; in every state of a run at most 4,096 fields are held, and no more than
-- steps were taken. By induction over the rules and over the budget. Assumes nothing.
use Prim.Native.Nat.{ℕ, zero, suc, ◌+◌, ◌≤◌, ◌<◌}
use mathlib.Core.Path.{◌≡◌, refl}
use mathlib.Core.Logic.{◌↔◌}
use mathlib.Core.Bool.{Bool, true, false, cond}
use mathlib.Core.List.{List, [], ◌∷◌, ◌++◌}
use mathlib.Core.Option.{Option, none, some}
use native.Mathlib.Omega.{arith}
use lib.Dec.{leb}
use borrow.Author.Tests.{leb-true, leb-false}
use Rattle.format.specs.declared.values.Goal.{Goal}
use Rattle.format.specs.declared.values.Label.{Label}
use Rattle.format.specs.Limits.{most_held}
use Rattle.format.specs.declared.refusals.Cause.TheVariants.{JoinedTooLong, FieldsTooMany}
use Rattle.format.specs.Terms.{Term, atomic, id, label, sequence, tensor, empty, alternation, assert, defined, fields}
use Rattle.tables.specs.Tables.{Table}
use Rattle.tables.specs.Lookup.{find_body}
use Rattle.evaluation.specs.TacticArity.{tactic_arity}
use Rattle.evaluation.specs.Outcomes.{Ending, proved, failed, ended, within, rule_gives, one_goal, no_goal, assert_gives, split_by, finished, in_label, after_left, joined_fits, beside_left}
use Rattle.evaluation.specs.Machine.{held, Place, Frame, labelled, sequence_left, sequence_right, tensor_left, tensor_right, alternation_left, Control, running, stopped, after, unwind, enter_or_fail, begin, step_from, step, run, start}
use Rattle.evaluation.specs.RunSizes.{ending_fields, held_fields, kept}
use Rattle.evaluation.specs.Ends.{End, proof, failure, overflow, excess, Limit, overflows, exceeds, NoProof, fails, limited, FewHeld, AnyHeld, Finishes, holds, over_held, Ends, D-Atomic, D-Atomic-Rule, D-Atomic-Goals, D-Id, D-Id-Goals, D-Empty, D-Empty-Goals, D-Assert, D-Assert-Other, D-Assert-Goals, D-Label, D-Label-Inner, D-Label-Goals, D-Seq, D-Seq-Left, D-Seq-Right, D-Tensor, D-Tensor-Joined, D-Tensor-Left, D-Tensor-Right, D-Tensor-Arity, D-Alt-L, D-Alt-R, D-Alt-Limit, D-Def, D-Def-Missing}
use Rattle.evaluation.proofs.RunBounds.{run-kept}
use Rattle.evaluation.proofs.HaltBounds.{waiting_is}

module _ (T : Table) (MayHold : ℕ → Type 0) where
  -- after n steps, while k fields are held: a proof has at most n fields, and 40 needs that not all these may be held
  abbrev Late : (k n : ℕ) → End → Type 0
  Late k n (proof s h) = fields s ≤ n
  Late k n failure = Unit {0}
  Late k n overflow = Unit {0}
  Late k n excess = ((m : ℕ) → m ≤ k + n → MayHold m) → ⊥

  finishes_late : {k : ℕ} {s : Term} {h : List Goal} {e : End} (n : ℕ) → fields s ≤ n → Finishes MayHold k s h e → Late k n e
  finishes_late n c (holds l) = c
  finishes_late {k} {s} n c (over_held l) = λ all. l (all (k + fields s) (omega (arith, c)))

  -- the same with more steps
  later : (k n j m : ℕ) → k + n ≤ j + m → (e : End) → n ≤ m → Late k n e → Late j m e
  later k n j m c (proof s h) l r = omega (arith, l, r)
  later k n j m c failure l r = tt
  later k n j m c overflow l r = tt
  later k n j m c excess l r = λ all. r (λ i b. all i (omega (arith, b, c)))

  -- an end without a proof, of an inner term that was begun while more fields were held and after which as many steps were counted before
  passes_late : {e : End} (k n j m : ℕ) → k + n ≤ j + m → NoProof e → Late k n e → Late j m e
  passes_late k n j m c fails r = tt
  passes_late k n j m c (limited overflows) r = tt
  passes_late k n j m c (limited exceeds) r = λ all. r (λ i b. all i (omega (arith, b, c)))

  late : {k : ℕ} {g : List Goal} {t : Term} {n : ℕ} {e : End} → Ends T MayHold k g t n e → Late k n e
  unfolding fields
  late (D-Atomic m z) = finishes_late 1 (omega arith) z
  late (D-Atomic-Rule h) = tt
  late (D-Atomic-Goals h) = tt
  late (D-Id z) = finishes_late 1 (omega arith) z
  late (D-Id-Goals h) = tt
  late (D-Empty z) = finishes_late 1 (omega arith) z
  late (D-Empty-Goals h) = tt
  late (D-Assert q z) = finishes_late 1 (omega arith) z
  late (D-Assert-Other h) = tt
  late (D-Assert-Goals h) = tt
  late (D-Label {n = n} r z) = finishes_late (suc n) (omega (arith, late r)) z
  late (D-Label-Inner {k = k} {n = n} r x) = passes_late k n k (suc n) (omega arith) x (late r)
  late (D-Label-Goals h) = tt
  late (D-Seq {n = n} {m = m} r r' z) = finishes_late (suc (n + m)) (omega (arith, late r, late r')) z
  late (D-Seq-Left {k = k} {n = n} r x) = passes_late k n k (suc n) (omega arith) x (late r)
  late (D-Seq-Right {k = k} {s = s} {n = n} {m = m} r r' x) = passes_late (k + fields s) m k (suc (n + m)) (omega (arith, late r)) x (late r')
  late (D-Tensor {n = n} {m = m} a b r r' j z) = finishes_late (suc (n + m)) (omega (arith, late r, late r')) z
  late (D-Tensor-Joined a b r r' j) = tt
  late (D-Tensor-Left {k = k} g₂ {n = n} a b r x) = passes_late k n k (suc n) (omega arith) x (late r)
  late (D-Tensor-Right {k = k} {s = s} {n = n} {m = m} a b r r' x) = passes_late (k + fields s) m k (suc (n + m)) (omega (arith, late r)) x (late r')
  late (D-Tensor-Arity h) = tt
  late (D-Alt-L {n = n} r) = omega (arith, late r)
  late (D-Alt-R {k = k} {n = n} {m = m} {e = e} r r') = later k m k (suc (n + m)) (omega arith) e (omega arith) (late r')
  late (D-Alt-Limit {k = k} {n = n} r x) = passes_late k n k (suc n) (omega arith) (limited x) (late r)
  late (D-Def {k = k} {n = n} {e = e} m r) = later k n k (suc n) (omega arith) e (omega arith) (late r)
  late (D-Def-Missing h) = tt

-- NO 40 EARLY: 40 comes after more than 4,096 steps only.
pub excess_late : {T : Table} {g : List Goal} {t : Term} {n : ℕ} → Ends T FewHeld 0 g t n excess → 4096 < n
excess_late {T} {n = n} r = go (leb n 4096) refl
  where
    go : (x : Bool) → leb n 4096 ≡ x → 4096 < n
    go true q = absurd (late T FewHeld r (λ m l. omega (arith, l, leb-true n 4096 q)))
    go false q = omega (arith, leb-false n 4096 q)

-- without a limit there is no 40
pub no_excess : {T : Table} {k : ℕ} {g : List Goal} {t : Term} {n : ℕ} → Ends T AnyHeld k g t n excess → ⊥
no_excess {T} r = late T AnyHeld r (λ m l. tt)

-- where as many fields may be held by either, either gives the same end
module _ (T : Table) (MayHold Other : ℕ → Type 0) where
  abbrev Both : ℕ → Type 0
  Both x = (m : ℕ) → m ≤ x → MayHold m × Other m

  fewer : (x y : ℕ) → x ≤ y → Both y → Both x
  fewer x y c v = λ m l. v m (omega (arith, c, l))

  finishes_so : {k : ℕ} {s : Term} {h : List Goal} {e : End} (n : ℕ) → fields s ≤ n → Both (k + n) → Finishes MayHold k s h e → Finishes Other k s h e
  finishes_so {k} {s} n c v (holds l) = holds (v (k + fields s) (omega (arith, c))).1
  finishes_so {k} {s} n c v (over_held l) = absurd (l (v (k + fields s) (omega (arith, c))).0)

  ends_so : {k : ℕ} {g : List Goal} {t : Term} {n : ℕ} {e : End} → Both (k + n) → Ends T MayHold k g t n e → Ends T Other k g t n e
  unfolding fields
  ends_so v (D-Atomic m z) = D-Atomic m (finishes_so 1 (omega arith) v z)
  ends_so v (D-Atomic-Rule h) = D-Atomic-Rule h
  ends_so v (D-Atomic-Goals h) = D-Atomic-Goals h
  ends_so v (D-Id z) = D-Id (finishes_so 1 (omega arith) v z)
  ends_so v (D-Id-Goals h) = D-Id-Goals h
  ends_so v (D-Empty z) = D-Empty (finishes_so 1 (omega arith) v z)
  ends_so v (D-Empty-Goals h) = D-Empty-Goals h
  ends_so v (D-Assert q z) = D-Assert q (finishes_so 1 (omega arith) v z)
  ends_so v (D-Assert-Other h) = D-Assert-Other h
  ends_so v (D-Assert-Goals h) = D-Assert-Goals h
  ends_so v (D-Label {k = k} {n = n} r z) = D-Label (ends_so (fewer (k + n) (k + suc n) (omega arith) v) r) (finishes_so (suc n) (omega (arith, late T MayHold r)) v z)
  ends_so v (D-Label-Inner {k = k} {n = n} r x) = D-Label-Inner (ends_so (fewer (k + n) (k + suc n) (omega arith) v) r) x
  ends_so v (D-Label-Goals h) = D-Label-Goals h
  ends_so v (D-Seq {k = k} {s = s} {n = n} {m = m} r r' z) =
      let w = fewer (k + n) (k + suc (n + m)) (omega arith) v in
      let w' = fewer (k + fields s + m) (k + suc (n + m)) (omega (arith, late T MayHold r)) v in
      D-Seq (ends_so w r) (ends_so w' r') (finishes_so (suc (n + m)) (omega (arith, late T MayHold r, late T MayHold r')) v z)
  ends_so v (D-Seq-Left {k = k} {n = n} r x) = D-Seq-Left (ends_so (fewer (k + n) (k + suc n) (omega arith) v) r) x
  ends_so v (D-Seq-Right {k = k} {s = s} {n = n} {m = m} r r' x) =
      let w = fewer (k + n) (k + suc (n + m)) (omega arith) v in
      let w' = fewer (k + fields s + m) (k + suc (n + m)) (omega (arith, late T MayHold r)) v in
      D-Seq-Right (ends_so w r) (ends_so w' r') x
  ends_so v (D-Tensor {k = k} {s = s} {n = n} {m = m} a b r r' j z) =
      let w = fewer (k + n) (k + suc (n + m)) (omega arith) v in
      let w' = fewer (k + fields s + m) (k + suc (n + m)) (omega (arith, late T MayHold r)) v in
      D-Tensor a b (ends_so w r) (ends_so w' r') j (finishes_so (suc (n + m)) (omega (arith, late T MayHold r, late T MayHold r')) v z)
  ends_so v (D-Tensor-Joined {k = k} {s = s} {n = n} {m = m} a b r r' j) =
      let w = fewer (k + n) (k + suc (n + m)) (omega arith) v in
      let w' = fewer (k + fields s + m) (k + suc (n + m)) (omega (arith, late T MayHold r)) v in
      D-Tensor-Joined a b (ends_so w r) (ends_so w' r') j
  ends_so v (D-Tensor-Left {k = k} g₂ {n = n} a b r x) = D-Tensor-Left g₂ a b (ends_so (fewer (k + n) (k + suc n) (omega arith) v) r) x
  ends_so v (D-Tensor-Right {k = k} {s = s} {n = n} {m = m} a b r r' x) =
      let w = fewer (k + n) (k + suc (n + m)) (omega arith) v in
      let w' = fewer (k + fields s + m) (k + suc (n + m)) (omega (arith, late T MayHold r)) v in
      D-Tensor-Right a b (ends_so w r) (ends_so w' r') x
  ends_so v (D-Tensor-Arity h) = D-Tensor-Arity h
  ends_so v (D-Alt-L {k = k} {n = n} r) = D-Alt-L (ends_so (fewer (k + n) (k + suc n) (omega arith) v) r)
  ends_so v (D-Alt-R {k = k} {n = n} {m = m} r r') =
      let w = fewer (k + n) (k + suc (n + m)) (omega arith) v in
      let w' = fewer (k + m) (k + suc (n + m)) (omega arith) v in
      D-Alt-R (ends_so w r) (ends_so w' r')
  ends_so v (D-Alt-Limit {k = k} {n = n} r x) = D-Alt-Limit (ends_so (fewer (k + n) (k + suc n) (omega arith) v) r) x
  ends_so v (D-Def {k = k} {n = n} m r) = D-Def m (ends_so (fewer (k + n) (k + suc n) (omega arith) v) r)
  ends_so v (D-Def-Missing h) = D-Def-Missing h

-- AS BEFORE: up to 4,096 steps the rules with the limit and those without it, which are the rules before P12, have the same ends.
pub early_as_before : (T : Table) (g : List Goal) (t : Term) (n : ℕ) (e : End) → n ≤ 4096 → Ends T FewHeld 0 g t n e ↔ Ends T AnyHeld 0 g t n e
early_as_before T g t n e c = (
  (λ r. ends_so T FewHeld AnyHeld (λ m l. (omega (arith, c, l), tt)) r),
  (λ r. ends_so T AnyHeld FewHeld (λ m l. (tt, omega (arith, c, l))) r),
)

-- what is held in a state

within_held : (s : Term) (g : List Goal) (w : List Frame) → held w ≤ 4096 → held w + ending_fields (within (held w) s g) ≤ 4096
within_held s g w l = go (leb (held w + fields s) most_held) refl
  where
    go : (x : Bool) → leb (held w + fields s) most_held ≡ x → held w + ending_fields (cond x (proved s g) (ended FieldsTooMany)) ≤ 4096
    go true q = omega (arith, leb-true (held w + fields s) most_held q)
    go false q = omega (arith, l)

label_held : (l : Label) (e : Ending) (w : List Frame) → held w ≤ 4096 → held w + ending_fields (in_label (held w) l e) ≤ 4096
label_held l (proved s g) w h = within_held (label l s) g w h
label_held l failed w h = omega (arith, h)
label_held l (ended c) w h = omega (arith, h)

sequence_held : (s : Term) (e : Ending) (w : List Frame) → held w ≤ 4096 → held w + ending_fields (after_left (held w) s e) ≤ 4096
sequence_held s (proved r g) w h = within_held (sequence s r) g w h
sequence_held s failed w h = omega (arith, h)
sequence_held s (ended c) w h = omega (arith, h)

tensor_held : (s : Term) (g : List Goal) (e : Ending) (w : List Frame) → held w ≤ 4096 → held w + ending_fields (beside_left (held w) s g e) ≤ 4096
tensor_held s g (proved r k) w h = go (joined_fits (g ++ k))
  where
    go : (x : Bool) → held w + ending_fields (cond x (within (held w) (tensor s r) (g ++ k)) (ended JoinedTooLong)) ≤ 4096
    go true = within_held (tensor s r) (g ++ k) w h
    go false = omega (arith, h)
tensor_held s g failed w h = omega (arith, h)
tensor_held s g (ended c) w h = omega (arith, h)

unwind-held : (e : Ending) (w : List Frame) → held w + ending_fields e ≤ 4096 → held_fields (unwind e w) ≤ 4096
unfolding unwind held
unwind-held e [] h = omega (arith, h)
unwind-held e (labelled π l ∷ w) h = unwind-held (in_label (held w) l e) w (label_held l e w (omega (arith, h)))
unwind-held (proved s g) (sequence_left π u ∷ w) h = omega (arith, h)
unwind-held failed (sequence_left π u ∷ w) h = unwind-held failed w (omega (arith, h))
unwind-held (ended c) (sequence_left π u ∷ w) h = unwind-held (ended c) w (omega (arith, h))
unwind-held e (sequence_right π s ∷ w) h = unwind-held (after_left (held w) s e) w (sequence_held s e w (omega (arith, h)))
unwind-held (proved s g) (tensor_left π u k ∷ w) h = omega (arith, h)
unwind-held failed (tensor_left π u k ∷ w) h = unwind-held failed w (omega (arith, h))
unwind-held (ended c) (tensor_left π u k ∷ w) h = unwind-held (ended c) w (omega (arith, h))
unwind-held e (tensor_right π s g ∷ w) h = unwind-held (beside_left (held w) s g e) w (tensor_held s g e w (omega (arith, h)))
unwind-held (proved s g) (alternation_left π u k ∷ w) h = unwind-held (proved s g) w (omega (arith, h))
unwind-held failed (alternation_left π u k ∷ w) h = omega (arith, h)
unwind-held (ended c) (alternation_left π u k ∷ w) h = unwind-held (ended c) w (omega (arith, h))

finished-held : (s : Term) (o : Option (List Goal)) (w : List Frame) → held w ≤ 4096 → held_fields (unwind (finished (held w) s o) w) ≤ 4096
finished-held s none w h = unwind-held failed w (omega (arith, h))
finished-held s (some g) w h = unwind-held (within (held w) s g) w (within_held s g w h)

enter-held : {A : Type 0} (o : Option A) (w : List Frame) (f : A → Control) → held w ≤ 4096 → ((a : A) → held_fields (f a) ≤ 4096) → held_fields (enter_or_fail o w f) ≤ 4096
enter-held none w f h k = unwind-held failed w (omega (arith, h))
enter-held (some a) w f h k = k a

-- the held fields are no more than they and the waiting terms together
held_kept : (κ : Control) → held_fields κ ≤ kept κ
held_kept (running π t g w) = omega (arith, waiting_is w)
held_kept (stopped e) = omega arith

module _ (T : Table) where
  begin-held : (π : Place) (t : Term) (g : List Goal) (w : List Frame) → held w ≤ 4096 → held_fields (begin T π t g w) ≤ 4096
  unfolding begin held
  begin-held π (atomic a) g w h = finished-held (atomic a) (rule_gives T a g) w h
  begin-held π id g w h = finished-held id (one_goal g) w h
  begin-held π (label l t) g w h = enter-held (one_goal g) w _ h (λ x. omega (arith, h))
  begin-held π (sequence t u) g w h = omega (arith, h)
  begin-held π (tensor t u) g w h = enter-held (split_by (tactic_arity T t) g) w _ h (λ p. omega (arith, h))
  begin-held π empty g w h = finished-held empty (no_goal g) w h
  begin-held π (alternation t u) g w h = omega (arith, h)
  begin-held π (assert p) g w h = finished-held id (assert_gives T p g) w h
  begin-held π (defined d) g w h = enter-held (find_body T d) w _ h (λ t. h)

  held_on : (b n : ℕ) (κ : Control) → held_fields κ ≤ 4096 → held_fields (run T b (after n κ)).control ≤ 4096
  unfolding run step step_from
  held_on zero n κ h = h
  held_on (suc b) n (running π t g w) h = held_on b (suc n) (begin T π t g w) (begin-held π t g w h)
  held_on (suc b) n (stopped e) h = held_on b n (stopped e) h

  module _ (b : ℕ) (π : Place) (t : Term) (g : List Goal) where
    -- HELD: in every state of a run at most 4,096 fields are held, whatever the budget; so many has the proof at its end, which therefore always reads.
    pub run-held : held_fields (run T b (start π t g)).control ≤ 4096
    unfolding start held
    run-held = held_on b 0 (running π t g []) (omega arith)

    -- Nor are more fields held than steps were taken.
    pub run-held_steps : held_fields (run T b (start π t g)).control ≤ (run T b (start π t g)).steps
    run-held_steps = omega (arith, held_kept (run T b (start π t g)).control, run-kept T b π t g)
