-- From the end of a run each beginning of a term is traced back to its rule: by induction over the budget, with the whole of a state's end as what is
-- handed back (`EndsFrom`). Assumes nothing.
use Prim.Native.Nat.{ℕ, zero, suc, ◌+◌, ◌≤◌, ◌<◌}
use mathlib.Core.Path.{◌≡◌, refl, ap, sym, ◌∙◌, subst}
use mathlib.Core.Bool.{Bool, true, false, cond}
use mathlib.Core.List.{List, [], ◌∷◌, ◌++◌}
use mathlib.Core.Option.{Option, none, some, none-ne-some}
use native.Mathlib.Omega.{arith}
use lib.Dec.{leb}
use lib.ListN.{length, take, length-take, take-append-drop}
use borrow.Author.Tests.{leb-true, leb-false, eqb-false}
use Rattle.format.specs.declared.values.RuleName.{RuleName}
use Rattle.format.specs.declared.values.Goal.{Goal}
use Rattle.format.specs.declared.values.Label.{Label}
use Rattle.format.specs.declared.values.TacticNo.{TacticNo}
use Rattle.format.specs.declared.refusals.Cause.TheVariants.{JoinedTooLong, FieldsTooMany}
use Rattle.format.specs.Limits.{most_held}
use Rattle.format.specs.Terms.{Term, atomic, id, label, sequence, tensor, empty, alternation, assert, defined, size, fields}
use Rattle.tables.specs.Tables.{Table, UniqueDefinitions}
use Rattle.tables.specs.Lookup.{FoundRule, find_rule, find_body, matches}
use Rattle.tables.specs.Places.{body_place}
use Rattle.tables.proofs.RuleLookup.{same_goal_lem, found_member, missing↔no_rule}
use Rattle.tables.proofs.BodyLookup.{body_member, missing↔no_definition}
use Rattle.evaluation.specs.TacticArity.{tactic_arity}
use Rattle.hitac.specs.Arity.{Arity}
use Rattle.evaluation.specs.Outcomes.{Ending, proved, ended, within, found_premises, on_one, rule_gives, one_goal, no_goal, assert_gives, Split, split_at, split_by, finished, joined_fits}
use Rattle.evaluation.specs.Machine.{held, Place, past, Frame, labelled, sequence_left, sequence_right, tensor_left, tensor_right, alternation_left, Control, running, stopped, State, after, unwind, enter_or_fail, begin, step_from, step, run, start}
use Rattle.evaluation.specs.Ends.{End, proof, failure, overflow, excess, Limit, overflows, exceeds, fails, limited, FewHeld, Finishes, holds, over_held, Ends, D-Atomic, D-Atomic-Rule, D-Atomic-Goals, D-Id, D-Id-Goals, D-Empty, D-Empty-Goals, D-Assert, D-Assert-Other, D-Assert-Goals, D-Label, D-Label-Inner, D-Label-Goals, D-Seq, D-Seq-Left, D-Seq-Right, D-Tensor, D-Tensor-Joined, D-Tensor-Left, D-Tensor-Right, D-Tensor-Arity, D-Alt-L, D-Alt-R, D-Alt-Limit, D-Def, D-Def-Missing}
use Rattle.evaluation.specs.EndingOf.{ending_of}
use Rattle.evaluation.proofs.ArityDerived.{tactic_arity_sound}
use Rattle.evaluation.proofs.ArityMeaning.{tactic_arity_complete}

-- the whole of a state ends: its next term ends by the rules, and then what waits
data EndsFrom (T : Table) : Control → ℕ → Ending → Type 0 where
  already : {f : Ending} → EndsFrom T (stopped f) 0 f
  onward : {π : Place} {t : Term} {g : List Goal} {w : List Frame} {n m i : ℕ} {e : End} {f : Ending} → Ends T FewHeld (held w) g t n e → EndsFrom T (unwind (ending_of e) w) m f →
      n + m ≡ i → EndsFrom T (running π t g w) i f

-- a term that begins and ends at once, as the machine ends it
abbrev EndsAs : Table → ℕ → List Goal → Term → Ending → Type 0
EndsAs T k g t f = (e : End) × Ends T FewHeld k g t 1 e × (ending_of e ≡ f)

-- how a term that finishes ends
finishes_as : (k : ℕ) (s : Term) (h : List Goal) → (e : End) × Finishes FewHeld k s h e × (ending_of e ≡ within k s h)
finishes_as k s h = go (leb (k + fields s) most_held) refl
  where
    go : (x : Bool) → leb (k + fields s) most_held ≡ x → (e : End) × Finishes FewHeld k s h e × (ending_of e ≡ cond x (proved s h) (ended FieldsTooMany))
    go true q = (proof s h, holds (leb-true (k + fields s) most_held q), refl)
    go false q = (excess, over_held (λ l. omega (arith, l, leb-false (k + fields s) most_held q)), refl)

-- what a split of the goals by the left's arity comes to
data Splits (T : Table) (t : Term) : List Goal → Option Split → Type 0 where
  splits : {g₁ g₂ : List Goal} → Arity T t (length g₁) → length g₁ ≤ 256 → Splits T t (g₁ ++ g₂) (some (record { left_goals = g₁; right_goals = g₂ }))
  unsplit : {g : List Goal} → ((n : ℕ) → Arity T t n → n ≤ 256 → n ≤ length g → ⊥) → Splits T t g none

module _ {T : Table} where
  -- the constructor as a function: a call of it takes its implicit arguments from the goal
  onwards : {π : Place} {t : Term} {g : List Goal} {w : List Frame} {n m i : ℕ} {e : End} {f : Ending} → Ends T FewHeld (held w) g t n e → EndsFrom T (unwind (ending_of e) w) m f →
      n + m ≡ i → EndsFrom T (running π t g w) i f
  onwards r r' p = onward r r' p

  -- the forms without inner terms, while k fields are held
  module _ (k : ℕ) where
    one_ends : {t : Term} (s : Term) (f : Goal → Option (List Goal)) → ((g : List Goal) → (length g ≡ 1 → ⊥) → Ends T FewHeld k g t 1 failure) →
        ((γ : Goal) → EndsAs T k (γ ∷ []) t (finished k s (f γ))) → (g : List Goal) → EndsAs T k g t (finished k s (on_one f g))
    one_ends s f other one [] = (failure, other [] (λ q. omega arith), refl)
    one_ends s f other one (γ ∷ []) = one γ
    one_ends s f other one (γ ∷ δ ∷ g) = (failure, other (γ ∷ δ ∷ g) (λ q. omega arith), refl)

    atomic_ends : (a : RuleName) (g : List Goal) → EndsAs T k g (atomic a) (finished k (atomic a) (rule_gives T a g))
    atomic_ends a = one_ends (atomic a) (λ γ. found_premises (find_rule T a γ)) (λ g. D-Atomic-Goals) (λ γ. go γ (find_rule T a γ) refl)
      where
        go : (γ : Goal) (o : Option FoundRule) → find_rule T a γ ≡ o → EndsAs T k (γ ∷ []) (atomic a) (finished k (atomic a) (found_premises o))
        go γ none q = (failure, D-Atomic-Rule ((missing↔no_rule T a γ).0 q), refl)
        go γ (some r) q = let z = finishes_as k (atomic a) r.premises in (z.0, D-Atomic (found_member T a γ r.number r.premises q) z.1, z.2)

    id_ends : (g : List Goal) → EndsAs T k g id (finished k id (one_goal g))
    id_ends = one_ends id (λ γ. some (γ ∷ [])) (λ g. D-Id-Goals) (λ γ. let z = finishes_as k id (γ ∷ []) in (z.0, D-Id z.1, z.2))

    assert_ends : (p : Goal) (g : List Goal) → EndsAs T k g (assert p) (finished k id (assert_gives T p g))
    unfolding matches
    assert_ends p = one_ends id (λ γ. cond (matches T p γ) (some (γ ∷ [])) none) (λ g. D-Assert-Goals) (λ γ. go γ (matches T p γ) refl)
      where
        go : (γ : Goal) (x : Bool) → matches T p γ ≡ x → EndsAs T k (γ ∷ []) (assert p) (finished k id (cond x (some (γ ∷ [])) none))
        go γ true q = let z = finishes_as k id (γ ∷ []) in (z.0, D-Assert (same_goal_lem p γ q) z.1, z.2)
        go γ false q = (failure, D-Assert-Other (λ e. eqb-false p.0 γ.0 q (ap (λ (x : Goal). x.0) e)), refl)

    empty_ends : (g : List Goal) → EndsAs T k g empty (finished k empty (no_goal g))
    empty_ends [] = let z = finishes_as k empty [] in (z.0, D-Empty z.1, z.2)
    empty_ends (γ ∷ g) = (failure, D-Empty-Goals {g = γ ∷ g} (omega arith), refl)

  -- the same held count, written otherwise
  outside : (w : List Frame) {k : ℕ} {g : List Goal} {t : Term} {n : ℕ} {e : End} → k ≡ held w → Ends T FewHeld k g t n e → Ends T FewHeld (held w) g t n e
  outside w {k} {g} {t} {n} {e} q r = subst (λ (x : ℕ). Ends T FewHeld x g t n e) q r

  beside : (w : List Frame) (s : Term) {k : ℕ} {g : List Goal} {t : Term} {n : ℕ} {e : End} → k ≡ held w + fields s → Ends T FewHeld k g t n e → Ends T FewHeld (held w + fields s) g t n e
  beside w s {k} {g} {t} {n} {e} q r = subst (λ (x : ℕ). Ends T FewHeld x g t n e) q r

  -- the same ending, written otherwise
  unwound : (w : List Frame) (x y : Ending) {m : ℕ} {f : Ending} → y ≡ x → EndsFrom T (unwind x w) m f → EndsFrom T (unwind y w) m f
  unwound w x y {m} {f} q r = subst (λ (z : Ending). EndsFrom T (unwind z w) m f) (sym q) r

  module _ {m : ℕ} {f : Ending} (w : List Frame) where
    back_end : {π : Place} {t : Term} {g : List Goal} {x : Ending} → EndsAs T (held w) g t x → EndsFrom T (unwind x w) m f → EndsFrom T (running π t g w) (suc m) f
    back_end c r = onwards c.1 (subst (λ (y : Ending). EndsFrom T (unwind y w) m f) (sym c.2) r) (omega arith)

    back_inner : {π ρ ς : Place} {t : Term} {γ : Goal} (l : Label) → EndsFrom T (running ρ t (γ ∷ []) (labelled ς l ∷ w)) m f →
        EndsFrom T (running π (label l t) (γ ∷ []) w) (suc m) f
    unfolding unwind held
    back_inner l (onward {e = proof s h} r r' p) =
        let z = finishes_as (held w) (label l s) h in
        onwards (D-Label (outside w (omega arith) r) z.1) (unwound w _ _ z.2 r') (omega (arith, p))
    back_inner l (onward {e = failure} r r' p) = onwards (D-Label-Inner (outside w (omega arith) r) fails) r' (omega (arith, p))
    back_inner l (onward {e = overflow} r r' p) = onwards (D-Label-Inner (outside w (omega arith) r) (limited overflows)) r' (omega (arith, p))
    back_inner l (onward {e = excess} r r' p) = onwards (D-Label-Inner (outside w (omega arith) r) (limited exceeds)) r' (omega (arith, p))

    back_label : {π : Place} (ρ ς : Place) {t : Term} (l : Label) (g : List Goal) → EndsFrom T (enter_or_fail (one_goal g) w λ h. running ρ t h (labelled ς l ∷ w)) m f →
        EndsFrom T (running π (label l t) g w) (suc m) f
    back_label ρ ς l [] r = onwards (D-Label-Goals (λ q. omega arith)) r (omega arith)
    back_label ρ ς l (γ ∷ []) r = back_inner l r
    back_label ρ ς l (γ ∷ δ ∷ g) r = onwards (D-Label-Goals (λ q. omega arith)) r (omega arith)

    back_seq_r : {π ρ ς : Place} {t u s : Term} {g h : List Goal} {n c : ℕ} → Ends T FewHeld (held w) g t n (proof s h) → n + c ≡ m →
        EndsFrom T (running ρ u h (sequence_right ς s ∷ w)) c f → EndsFrom T (running π (sequence t u) g w) (suc m) f
    unfolding unwind held
    back_seq_r {s = s} r q (onward {e = proof x h} r₁ r' p) =
        let z = finishes_as (held w) (sequence s x) h in
        onwards (D-Seq r (beside w s (omega arith) r₁) z.1) (unwound w _ _ z.2 r') (omega (arith, p, q))
    back_seq_r {s = s} r q (onward {e = failure} r₁ r' p) = onwards (D-Seq-Right r (beside w s (omega arith) r₁) fails) r' (omega (arith, p, q))
    back_seq_r {s = s} r q (onward {e = overflow} r₁ r' p) = onwards (D-Seq-Right r (beside w s (omega arith) r₁) (limited overflows)) r' (omega (arith, p, q))
    back_seq_r {s = s} r q (onward {e = excess} r₁ r' p) = onwards (D-Seq-Right r (beside w s (omega arith) r₁) (limited exceeds)) r' (omega (arith, p, q))

    back_seq : {π ρ ς : Place} {t u : Term} {g : List Goal} → EndsFrom T (running ρ t g (sequence_left ς u ∷ w)) m f → EndsFrom T (running π (sequence t u) g w) (suc m) f
    unfolding unwind held
    back_seq (onward {e = proof s h} r r' p) = back_seq_r (outside w (omega arith) r) p r'
    back_seq (onward {e = failure} r r' p) = onwards (D-Seq-Left (outside w (omega arith) r) fails) r' (omega (arith, p))
    back_seq (onward {e = overflow} r r' p) = onwards (D-Seq-Left (outside w (omega arith) r) (limited overflows)) r' (omega (arith, p))
    back_seq (onward {e = excess} r r' p) = onwards (D-Seq-Left (outside w (omega arith) r) (limited exceeds)) r' (omega (arith, p))

    back-joined : {π : Place} {t u s r : Term} {g₁ g₂ h₁ h₂ : List Goal} {n₁ n₂ c : ℕ} → Arity T t (length g₁) → length g₁ ≤ 256 → Ends T FewHeld (held w) g₁ t n₁ (proof s h₁) → Ends T FewHeld (held w + fields s) g₂ u n₂ (proof r h₂) → n₁ + (n₂ + c) ≡ m → (x : Bool) → joined_fits (h₁ ++ h₂) ≡ x
        → EndsFrom T (unwind (cond x (within (held w) (tensor s r) (h₁ ++ h₂)) (ended JoinedTooLong)) w) c f → EndsFrom T (running π (tensor t u) (g₁ ++ g₂) w) (suc m) f
    back-joined {s = s} {r = x} {h₁ = h₁} {h₂ = h₂} a b r₁ r₂ q true j r' =
        let z = finishes_as (held w) (tensor s x) (h₁ ++ h₂) in
        onwards (D-Tensor {h₁ = h₁} {h₂ = h₂} a b r₁ r₂ (omega (arith, leb-true (length (h₁ ++ h₂)) 256 j)) z.1) (unwound w _ _ z.2 r') (omega (arith, q))
    back-joined {h₁ = h₁} {h₂ = h₂} a b r₁ r₂ q false j r' =
        onwards (D-Tensor-Joined {h₁ = h₁} {h₂ = h₂} a b r₁ r₂ (omega (arith, leb-false (length (h₁ ++ h₂)) 256 j))) r' (omega (arith, q))

    back_tensor_r : {π ρ ς : Place} {t u s : Term} {g₁ g₂ h : List Goal} {n c : ℕ} → Arity T t (length g₁) → length g₁ ≤ 256 → Ends T FewHeld (held w) g₁ t n (proof s h) → n + c ≡ m →
        EndsFrom T (running ρ u g₂ (tensor_right ς s h ∷ w)) c f → EndsFrom T (running π (tensor t u) (g₁ ++ g₂) w) (suc m) f
    unfolding unwind held
    back_tensor_r {s = s} a b r q (onward {e = proof x h} r₁ r' p) = back-joined a b r (beside w s (omega arith) r₁) (omega (arith, p, q)) _ refl r'
    back_tensor_r {s = s} a b r q (onward {e = failure} r₁ r' p) = onwards (D-Tensor-Right a b r (beside w s (omega arith) r₁) fails) r' (omega (arith, p, q))
    back_tensor_r {s = s} a b r q (onward {e = overflow} r₁ r' p) = onwards (D-Tensor-Right a b r (beside w s (omega arith) r₁) (limited overflows)) r' (omega (arith, p, q))
    back_tensor_r {s = s} a b r q (onward {e = excess} r₁ r' p) = onwards (D-Tensor-Right a b r (beside w s (omega arith) r₁) (limited exceeds)) r' (omega (arith, p, q))

    back_tensor_l : {π ρ ς : Place} {t u : Term} {g₁ : List Goal} (g₂ : List Goal) → Arity T t (length g₁) → length g₁ ≤ 256 →
        EndsFrom T (running ρ t g₁ (tensor_left ς u g₂ ∷ w)) m f → EndsFrom T (running π (tensor t u) (g₁ ++ g₂) w) (suc m) f
    unfolding unwind held
    back_tensor_l g₂ a b (onward {e = proof s h} r r' p) = back_tensor_r a b (outside w (omega arith) r) p r'
    back_tensor_l g₂ a b (onward {e = failure} r r' p) = onwards (D-Tensor-Left g₂ a b (outside w (omega arith) r) fails) r' (omega (arith, p))
    back_tensor_l g₂ a b (onward {e = overflow} r r' p) = onwards (D-Tensor-Left g₂ a b (outside w (omega arith) r) (limited overflows)) r' (omega (arith, p))
    back_tensor_l g₂ a b (onward {e = excess} r r' p) = onwards (D-Tensor-Left g₂ a b (outside w (omega arith) r) (limited exceeds)) r' (omega (arith, p))

    back_tensor : {π : Place} (ρ ς : Place) {t u : Term} {g : List Goal} {o : Option Split} → Splits T t g o →
        EndsFrom T (enter_or_fail o w λ p. running ρ t p.left_goals (tensor_left ς u p.right_goals ∷ w)) m f → EndsFrom T (running π (tensor t u) g w) (suc m) f
    back_tensor ρ ς (splits {g₂ = g₂} a b) r = back_tensor_l g₂ a b r
    back_tensor ρ ς (unsplit h) r = onwards (D-Tensor-Arity h) r (omega arith)

    back_alt_r : {π ρ : Place} {t u : Term} {g : List Goal} {n c : ℕ} → Ends T FewHeld (held w) g t n failure → n + c ≡ m → EndsFrom T (running ρ u g w) c f →
        EndsFrom T (running π (alternation t u) g w) (suc m) f
    back_alt_r r q (onward r₁ r' p) = onwards (D-Alt-R r r₁) r' (omega (arith, p, q))

    back_alt : {π ρ ς : Place} {t u : Term} {g : List Goal} → EndsFrom T (running ρ t g (alternation_left ς u g ∷ w)) m f → EndsFrom T (running π (alternation t u) g w) (suc m) f
    unfolding unwind held
    back_alt (onward {e = proof s h} r r' p) = onwards (D-Alt-L (outside w (omega arith) r)) r' (omega (arith, p))
    back_alt (onward {e = failure} r r' p) = back_alt_r (outside w (omega arith) r) p r'
    back_alt (onward {e = overflow} r r' p) = onwards (D-Alt-Limit (outside w (omega arith) r) overflows) r' (omega (arith, p))
    back_alt (onward {e = excess} r r' p) = onwards (D-Alt-Limit (outside w (omega arith) r) exceeds) r' (omega (arith, p))

    back_body : {π ρ : Place} {t : Term} {g : List Goal} {d : TacticNo} → find_body T d ≡ some t → EndsFrom T (running ρ t g w) m f →
        EndsFrom T (running π (defined d) g w) (suc m) f
    back_body {t = t} {d = d} q (onward r r' p) = onwards (D-Def (body_member T d t q) r) r' (omega arith)

    back_defined : {π : Place} (ρ : Place) {g : List Goal} (d : TacticNo) (o : Option Term) → find_body T d ≡ o → EndsFrom T (enter_or_fail o w λ t. running ρ t g w) m f →
        EndsFrom T (running π (defined d) g w) (suc m) f
    back_defined ρ d none q r = onwards (D-Def-Missing ((missing↔no_definition T d).0 q)) r (omega arith)
    back_defined ρ d (some t) q r = back_body q r

  stopped_ends : {x f : Ending} {m : ℕ} → EndsFrom T (stopped x) m f → (m ≡ 0) × (x ≡ f)
  stopped_ends already = (refl, refl)

  nothing_waits : {π : Place} {t : Term} {g : List Goal} {n : ℕ} {f : Ending} → EndsFrom T (running π t g []) n f → (e : End) × Ends T FewHeld 0 g t n e × (ending_of e ≡ f)
  unfolding unwind held
  nothing_waits {t = t} {g = g} {n = n} (onward {n = m} {e = e} r r' p) =
      let c = stopped_ends r' in let q : m ≡ n = omega arith in (e, subst (λ (x : ℕ). Ends T FewHeld 0 g t x e) q r, c.1)

module _ (T : Table) (unique : UniqueDefinitions T) where
  module _ (t : Term) (g : List Goal) where
    arity_over : (n : ℕ) → tactic_arity T t ≡ some n → length g < n → (m : ℕ) → Arity T t m → m ≤ 256 → m ≤ length g → ⊥
    arity_over n q o m r h l =
        let p : some m ≡ some n = sym (tactic_arity_complete T unique r h) ∙ q in let same : m ≡ n = cc in omega arith

    split_at_lem : (n : ℕ) → tactic_arity T t ≡ some n → (x : Bool) → leb n (length g) ≡ x → Splits T t g (cond x (some (split_at n g)) none)
    split_at_lem n q true e =
        let r = tactic_arity_sound T t n q in
        let p : n ≡ length (take n g) = omega (arith, length-take n g, leb-true n (length g) e) in
        subst (λ (x : List Goal). Splits T t x (some (split_at n g))) (take-append-drop n g) (splits (subst (Arity T t) p r.0) (omega arith))
    split_at_lem n q false e = unsplit (arity_over n q (leb-false n (length g) e))

    split_view : (o : Option ℕ) → tactic_arity T t ≡ o → Splits T t g (split_by o g)
    split_view none q = unsplit (λ n r h l. none-ne-some n (sym q ∙ tactic_arity_complete T unique r h))
    split_view (some n) q = split_at_lem n q (leb n (length g)) refl

  -- back over one beginning
  back : {m : ℕ} {f : Ending} (w : List Frame) (π : Place) (t : Term) (g : List Goal) → EndsFrom T (begin T π t g w) m f → EndsFrom T (running π t g w) (suc m) f
  unfolding begin
  back w π (atomic a) g r = back_end w (atomic_ends (held w) a g) r
  back w π id g r = back_end w (id_ends (held w) g) r
  back w π (label l t) g r = back_label w (past π 5) (past π 5) l g r
  back w π (sequence t u) g r = back_seq w r
  back w π (tensor t u) g r = back_tensor w (past π 3) (past π (3 + size t)) (split_view t g (tactic_arity T t) refl) r
  back w π empty g r = back_end w (empty_ends (held w) g) r
  back w π (alternation t u) g r = back_alt w r
  back w π (assert p) g r = back_end w (assert_ends (held w) p g) r
  back w π (defined d) g r = back_defined w (record { file = 0; at = body_place T d }) d (find_body T d) refl r

  traced : (b i : ℕ) (κ : Control) (f : Ending) → (run T b (after i κ)).control ≡ stopped f →
      (m : ℕ) × EndsFrom T κ m f × (m ≤ b) × ((run T b (after i κ)).steps ≡ i + m)
  unfolding run step step_from
  traced zero i (running π t g w) f q = let z : ◌≡◌ {A = ℕ} 0 1 = cc in absurd (omega arith)
  traced zero i (stopped e) f q = let p : e ≡ f = cc in (0, subst (EndsFrom T (stopped e) 0) p already, omega arith, omega arith)
  traced (suc b) i (running π t g w) f q =
      let r = traced b _ (begin T π t g w) f q in (suc r.0, back w π t g r.1, omega arith, omega arith)
  traced (suc b) i (stopped e) f q = let r = traced b i (stopped e) f q in (r.0, r.1, omega arith, r.3)

  -- A run that has ended, ended by the rules.
  pub run_traced : (b : ℕ) (π : Place) (t : Term) (g : List Goal) (n : ℕ) (f : Ending) → run T b (start π t g) ≡ after n (stopped f) →
      (e : End) × Ends T FewHeld 0 g t n e × (ending_of e ≡ f) × (n ≤ b)
  unfolding start
  run_traced b π t g n f q =
      let r = traced b 0 (running π t g []) f (ap (λ (σ : State). σ.control) q) in
      let a = nothing_waits r.1 in
      let p : r.0 ≡ n = omega (arith, ap (λ (σ : State). σ.steps) q) in
      (a.0, subst (λ (x : ℕ). Ends T FewHeld 0 g t x a.0) p a.1, a.2, omega arith)
