-- The walk of a hiproof is refused with number n at q exactly where the rules of `Stops` say so, and each walk either gives goals or stops.
-- From the rules by induction over them; to them by induction over the term, by the first part that refused. Assumes nothing.
use Prim.Native.Nat.{ℕ, ◌+◌, ◌≤◌}
use native.Mathlib.Omega.{arith}
use mathlib.Core.Path.{◌≡◌, refl, sym, ap, ◌∙◌, subst}
use mathlib.Core.Logic.{◌⊎◌, inl, inr, ⊎_elim, ◌↔◌}
use mathlib.Core.List.{List, [], ◌∷◌, ◌++◌}
use lib.Dec.{ltb}
use lib.ListN.{length, take, drop, take-append-drop}
use lib.Seq.{length-take-le}
use borrow.Author.Tests.{ltb-true, ltb-false, lt-ltb}
use Rattle.format.specs.declared.values.Goal.{Goal}
use Rattle.format.specs.declared.refusals.Cause.{Cause}
use Rattle.format.specs.declared.refusals.Cause.TheVariants.{RuleMissing, GoalCountWrong, GoalsTooFew, JoinedTooLong}
use Rattle.format.specs.Refusals.{number}
use Rattle.format.specs.Results.{Result, gives, refused, and_then}
use Rattle.format.specs.Terms.{Term, atomic, id, label, sequence, tensor, empty, alternation, assert, defined, size, Hiproof}
use Rattle.tables.specs.Tables.{Table, HasRule, UniqueRules}
use Rattle.tables.specs.Lookup.{find_rule}
use Rattle.hitac.specs.Hiproofs.{input_arity}
use Rattle.hitac.specs.InputArity.{InputArity}
use Rattle.hitac.specs.Validates.{System, AtMost256, Validates}
use Rattle.hitac.specs.Walk.{walk, on_one_goal, joined}
use Rattle.hitac.specs.Stops.{Stops, S-Atomic-Goals, S-Atomic-Rule, S-Identity-Goals, S-Empty-Goals, S-Label-Goals, S-Label-Inner, S-Sequence-Left, S-Sequence-Right, S-Tensor-Goals, S-Tensor-Left, S-Tensor-Right, S-Tensor-Joined}
use Rattle.hitac.proofs.ResultLaws.{gives_refused, refused_cause, refused_place, and_then_refused, and_then_passes, and_then_stops, test_refused, premises_missing, premises_refused, one_goal_refused, not_one_goal, no_goal_refused, some_goal, joined_over, joined_refused}
use Rattle.hitac.proofs.ValidatesLaws.{arity_of}
use Rattle.hitac.proofs.InputArities.{arity_computed, arity_holds}
use Rattle.hitac.proofs.WalkValidates.{Agrees, rules_agree, no_rule→missing, missing→no_rule, walk_tensor, validates→walk, walk→validates}

module _ (T : Table) (S : System) (agrees : Agrees T S) where
  pub stops→walk : {s : Term} {p : ℕ} {g : List Goal} {n q : ℕ} → Stops S s p g n q → (c : Cause) × (walk T s p g ≡ refused c q) × (number c ≡ n)
  unfolding walk on_one_goal number
  stops→walk (S-Atomic-Goals {g = g} z) = (GoalCountWrong, not_one_goal _ _ g z, refl)
  stops→walk (S-Atomic-Rule {a = a} {γ = γ} lacks) = (RuleMissing, premises_missing _ _ (no_rule→missing T S agrees a γ lacks), refl)
  stops→walk (S-Identity-Goals {g = g} z) = (GoalCountWrong, not_one_goal _ _ g z, refl)
  stops→walk (S-Empty-Goals {g = g} z) = (GoalCountWrong, some_goal _ g z, refl)
  stops→walk (S-Label-Goals {g = g} z) = (GoalCountWrong, not_one_goal _ _ g z, refl)
  stops→walk (S-Label-Inner x) = stops→walk x
  stops→walk (S-Sequence-Left x) = let (c, e, m) = stops→walk x in (c, and_then_stops _ e, m)
  stops→walk (S-Sequence-Right v x) = let (c, e, m) = stops→walk x in (c, and_then_passes _ (validates→walk T S agrees v _) ∙ e, m)
  stops→walk (S-Tensor-Goals {s = s} {g = g} i l) = (GoalsTooFew, rw (lt-ltb (length g) (input_arity s) (omega (arith, arity_computed i))), refl)
  stops→walk (S-Tensor-Left {s = s} {t = t} {p = p} {g₁ = g₁} g₂ i x) =
      let (c, e, m) = stops→walk x in
      (c, walk_tensor T s t p g₁ g₂ (sym (arity_computed i)) ∙ and_then_stops _ e, m)
  stops→walk (S-Tensor-Right {s = s} {t = t} {p = p} {g₁ = g₁} {g₂ = g₂} v x) =
      let (c, e, m) = stops→walk x in
      (c, walk_tensor T s t p g₁ g₂ (arity_of v) ∙ and_then_passes _ (validates→walk T S agrees v _) ∙ and_then_stops _ e, m)
  stops→walk (S-Tensor-Joined {s = s} {t = t} {p = p} {g₁ = g₁} {g₂ = g₂} {h₁ = h₁} {h₂ = h₂} v w l) = (
    JoinedTooLong,
    walk_tensor T s t p g₁ g₂ (arity_of v)
        ∙ and_then_passes _ (validates→walk T S agrees v _)
        ∙ and_then_passes _ (validates→walk T S agrees w _)
        ∙ joined_over _ (h₁ ++ h₂) l,
    refl,
  )

  -- a rule of `Stops` at the refusal of the walk
  stop_here : {s : Term} {g : List Goal} {c d : Cause} {p q : ℕ} → Stops S s p g (number c) p → c ≡ d → p ≡ q → Stops S s p g (number d) q
  stop_here {s} {g} {c} {d} {p} x e f = subst (λ (m : ℕ). Stops S s p g (number d) m) f (subst (λ (k : Cause). Stops S s p g (number k) p) e x)

  -- the right term of a tensor refused, or its joined list
  right_stops : {s t : Term} {g₁ h₁ : List Goal} (p : ℕ) (g₂ : List Goal) {c : Cause} {q : ℕ} → Validates S AtMost256 s g₁ h₁
      → (walk T t (p + 3 + size s) g₂ ≡ refused c q → Stops S t (p + 3 + size s) g₂ (number c) q)
      → and_then (walk T t (p + 3 + size s) g₂) (λ k. joined p (h₁ ++ k)) ≡ refused c q → Stops S (tensor s t) p (g₁ ++ g₂) (number c) q
  unfolding number
  right_stops {t = t} p g₂ v right e =
      ⊎_elim
      (λ x. S-Tensor-Right v (right x))
      (λ x. let (l, c, q) = joined_refused _ _ x.2 in stop_here (S-Tensor-Joined v (walk→validates T S agrees t _ g₂ x.1) l) c q)
      (and_then_refused _ e)

  -- a part of a tensor refused
  parts_stop : {s t : Term} {g₁ : List Goal} (p : ℕ) (g₂ : List Goal) {c : Cause} {q : ℕ} → InputArity s (length g₁)
      → (walk T s (p + 3) g₁ ≡ refused c q → Stops S s (p + 3) g₁ (number c) q)
      → (walk T t (p + 3 + size s) g₂ ≡ refused c q → Stops S t (p + 3 + size s) g₂ (number c) q)
      → and_then (walk T s (p + 3) g₁) (λ h. and_then (walk T t (p + 3 + size s) g₂) (λ k. joined p (h ++ k))) ≡ refused c q
      → Stops S (tensor s t) p (g₁ ++ g₂) (number c) q
  parts_stop {s} {g₁ = g₁} p g₂ i left right e =
      ⊎_elim
      (λ x. S-Tensor-Left g₂ i (left x))
      (λ x. right_stops p g₂ (walk→validates T S agrees s _ g₁ x.1) right x.2)
      (and_then_refused _ e)

  pub walk→stops : (s : Term) → Hiproof s → (p : ℕ) (g : List Goal) {c : Cause} {q : ℕ} → walk T s p g ≡ refused c q → Stops S s p g (number c) q
  unfolding walk Hiproof number
  walk→stops (atomic a) y p g e =
      ⊎_elim
      (λ x. stop_here (S-Atomic-Goals x.0) x.1 x.2)
      (λ x. let (m, c, q) = premises_refused (find_rule T a x.0) x.2 in rw x.1 (stop_here (S-Atomic-Rule (missing→no_rule T S agrees a x.0 m)) c q))
      (one_goal_refused _ _ g e)
  walk→stops id y p g e =
      ⊎_elim (λ x. stop_here (S-Identity-Goals x.0) x.1 x.2) (λ x. absurd (gives_refused x.2)) (one_goal_refused _ _ g e)
  walk→stops (label l s) y p g e =
      ⊎_elim
      (λ x. stop_here (S-Label-Goals x.0) x.1 x.2)
      (λ x. rw x.1 (S-Label-Inner (walk→stops s y _ (x.0 ∷ []) x.2)))
      (one_goal_refused _ _ g e)
  walk→stops (sequence s t) y p g e =
      ⊎_elim
      (λ x. S-Sequence-Left (walk→stops s y.0 _ g x))
      (λ x. S-Sequence-Right (walk→validates T S agrees s _ g x.1) (walk→stops t y.1 _ x.0 x.2))
      (and_then_refused _ e)
  walk→stops (tensor s t) y p g {c} {q} e =
      let i : input_arity s ≤ length g → InputArity s (length (take (input_arity s) g)) =
      λ l. subst (InputArity s) (sym (length-take-le (input_arity s) g l)) (arity_holds s y.0) in
      ⊎_elim
      (λ x. stop_here (S-Tensor-Goals (arity_holds s y.0) (ltb-true (length g) (input_arity s) x.0)) x.1 x.2)
      (λ x. subst
      (λ k. Stops S (tensor s t) p k (number c) q)
      (take-append-drop (input_arity s) g)
      (parts_stop p (drop (input_arity s) g) (i (ltb-false (length g) (input_arity s) x.0))
      (walk→stops s y.0 (p + 3) (take (input_arity s) g))
      (walk→stops t y.1 (p + 3 + size s) (drop (input_arity s) g))
      x.1))
      (test_refused (ltb (length g) (input_arity s)) e)
  walk→stops empty y p g e = let (z, c, q) = no_goal_refused _ g e in stop_here (S-Empty-Goals z) c q
  walk→stops (alternation s t) y p g e = absurd y
  walk→stops (assert γ) y p g e = absurd y
  walk→stops (defined n) y p g e = absurd y

module _ (T : Table) (unique : UniqueRules T) where
  -- THE CHECKER'S REFUSALS: the walk of a hiproof is refused with number n at q exactly where the rules say that it stops so.
  pub walk↔stops : (s : Term) → Hiproof s → (p : ℕ) (g : List Goal) (n q : ℕ)
      → Stops (HasRule T) s p g n q ↔ ((c : Cause) × (walk T s p g ≡ refused c q) × (number c ≡ n))
  walk↔stops s y p g n q = (
    stops→walk T (HasRule T) (rules_agree T unique),
    (λ x. subst (λ (m : ℕ). Stops (HasRule T) s p g m q) x.2 (walk→stops T (HasRule T) (rules_agree T unique) s y p g x.1)),
  )

  -- EXACTLY ONE OF THE TWO: a hiproof validates or stops,
  pub validates_or_stops : (s : Term) → Hiproof s → (p : ℕ) (g : List Goal)
      → ((h : List Goal) × Validates (HasRule T) AtMost256 s g h) ⊎ ((n : ℕ) × (q : ℕ) × Stops (HasRule T) s p g n q)
  validates_or_stops s y p g = go (walk T s p g) refl
    where
      go : (r : Result (List Goal)) → walk T s p g ≡ r
          → ((h : List Goal) × Validates (HasRule T) AtMost256 s g h) ⊎ ((n : ℕ) × (q : ℕ) × Stops (HasRule T) s p g n q)
      go (gives h) e = inl (h, walk→validates T (HasRule T) (rules_agree T unique) s p g e)
      go (refused c q) e = inr (number c, q, walk→stops T (HasRule T) (rules_agree T unique) s y p g e)

  -- and never both.
  pub validates_stops : {s : Term} {p : ℕ} {g h : List Goal} {n q : ℕ} → Validates (HasRule T) AtMost256 s g h → Stops (HasRule T) s p g n q → ⊥
  validates_stops {p = p} v x =
      let (c, e, m) = stops→walk T (HasRule T) (rules_agree T unique) x in
      gives_refused (sym (validates→walk T (HasRule T) (rules_agree T unique) v p) ∙ e)

  -- One number and one place at most.
  pub stops_unique : {s : Term} {p : ℕ} {g : List Goal} {n m q r : ℕ} → Stops (HasRule T) s p g n q → Stops (HasRule T) s p g m r → (n ≡ m) × (q ≡ r)
  stops_unique x y =
      let (c, e, i) = stops→walk T (HasRule T) (rules_agree T unique) x in
      let (d, f, j) = stops→walk T (HasRule T) (rules_agree T unique) y in
      let z : ◌≡◌ {A = Result (List Goal)} (refused c _) (refused d _) = sym e ∙ f in
      (sym i ∙ ap number (refused_cause z) ∙ j, refused_place z)
