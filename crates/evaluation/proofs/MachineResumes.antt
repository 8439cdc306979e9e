-- A term that ends by the deterministic rules takes its steps in the machine, which then goes on with what waits: by induction over the rules.
-- Assumes nothing.
use Prim.Native.Nat.{ℕ, suc, ◌+◌, ◌≤◌, ◌<◌}
use mathlib.Core.Path.{◌≡◌, refl, ap, subst, ◌∙◌}
use mathlib.Core.Bool.{Bool, true, false, cond}
use mathlib.Core.List.{List, [], ◌∷◌, ◌++◌}
use mathlib.Core.Option.{Option, none, some}
use native.Mathlib.Omega.{arith}
use lib.Dec.{leb}
use lib.ListN.{length, length-append}
use lib.Seq.{take-append_seam, drop-append_seam}
use borrow.Author.Tests.{leb-true, leb-false, le-leb, eq-eqb, ne_eqb}
use Rattle.format.specs.declared.values.Goal.{Goal}
use Rattle.format.specs.Terms.{Term, size, fields}
use Rattle.format.specs.Limits.{most_held}
use Rattle.format.specs.declared.refusals.Cause.TheVariants.{FieldsTooMany}
use Rattle.tables.specs.Tables.{Table, UniqueRules, UniqueDefinitions}
use Rattle.tables.specs.Lookup.{find_rule, matches}
use Rattle.tables.specs.Places.{body_place}
use Rattle.tables.proofs.RuleLookup.{found↔rule, missing↔no_rule}
use Rattle.tables.proofs.BodyLookup.{found↔definition, missing↔no_definition}
use Rattle.evaluation.specs.TacticArity.{tactic_arity}
use Rattle.hitac.specs.Arity.{Arity}
use Rattle.evaluation.specs.Outcomes.{Ending, proved, ended, within, found_premises, on_one, no_goal, split_at, split_by, joined_fits}
use Rattle.evaluation.specs.Machine.{held, Place, past, Frame, labelled, sequence_left, sequence_right, tensor_left, tensor_right, alternation_left, Control, running, after, unwind, begin, step_from, step, run}
use Rattle.evaluation.specs.Ends.{End, Limit, overflows, exceeds, fails, limited, FewHeld, Finishes, holds, over_held, Ends, D-Atomic, D-Atomic-Rule, D-Atomic-Goals, D-Id, D-Id-Goals, D-Empty, D-Empty-Goals, D-Assert, D-Assert-Other, D-Assert-Goals, D-Label, D-Label-Inner, D-Label-Goals, D-Seq, D-Seq-Left, D-Seq-Right, D-Tensor, D-Tensor-Joined, D-Tensor-Left, D-Tensor-Right, D-Tensor-Arity, D-Alt-L, D-Alt-R, D-Alt-Limit, D-Def, D-Def-Missing}
use Rattle.evaluation.specs.EndingOf.{ending_of}
use Rattle.evaluation.proofs.ArityDerived.{tactic_arity_sound}
use Rattle.evaluation.proofs.ArityMeaning.{tactic_arity_complete}
use Rattle.evaluation.proofs.RunLaws.{run_add}

-- a form that takes exactly one goal gives nothing for another list
one_goal_only : (f : Goal → Option (List Goal)) (g : List Goal) → (length g ≡ 1 → ⊥) → on_one f g ≡ none
one_goal_only f [] h = refl
one_goal_only f (γ ∷ []) h = absurd (h refl)
one_goal_only f (γ ∷ δ ∷ g) h = refl

no_goal_only : (g : List Goal) → 0 < length g → no_goal g ≡ none
no_goal_only [] h = absurd (omega arith)
no_goal_only (γ ∷ g) h = refl

joined-fits_lem : (g : List Goal) → length g ≤ 256 → joined_fits g ≡ true
joined-fits_lem g h = go (joined_fits g) refl
  where
    go : (x : Bool) → joined_fits g ≡ x → x ≡ true
    go true q = refl
    go false q = absurd (omega (arith, leb-false))

joined_over : (g : List Goal) → 256 < length g → joined_fits g ≡ false
joined_over g h = go (joined_fits g) refl
  where
    go : (x : Bool) → joined_fits g ≡ x → x ≡ false
    go true q = absurd (omega (arith, leb-true))
    go false q = refl

-- a term that finishes, by the fields that the waiting terms keep
finishes_so : {k : ℕ} {s : Term} {h : List Goal} {e : End} (w : List Frame) → Finishes FewHeld k s h e → held w ≡ k → within (held w) s h ≡ ending_of e
finishes_so {k} {s} {h} w (holds l) c = rw (le-leb (held w + fields s) most_held (omega (arith, c, l))) refl
finishes_so {k} {s} {h} w (over_held l) c = go (leb (held w + fields s) most_held) refl
  where
    go : (x : Bool) → leb (held w + fields s) most_held ≡ x → cond x (proved s h) (ended FieldsTooMany) ≡ ended FieldsTooMany
    go true q = absurd (l (omega (arith, c, leb-true (held w + fields s) most_held q)))
    go false q = refl

-- from the first control n steps reach the second
pub record Reaches (T : Table) (κ : Control) (n : ℕ) (κ' : Control) : Type 0 where
  pub runs : (i : ℕ) → run T n (after i κ) ≡ after (i + n) κ'

module _ (T : Table) where
  reach_now : (κ : Control) → Reaches T κ 0 κ
  unfolding run
  reach_now κ = record { runs = λ i. let p : i ≡ i + 0 = omega arith in ap (λ (j : ℕ). after j κ) p }

  reach_begun : {π : Place} {t : Term} {g : List Goal} {w : List Frame} {κ κ' : Control} {n : ℕ} → begin T π t g w ≡ κ → Reaches T κ n κ' →
      Reaches T (running π t g w) (suc n) κ'
  unfolding run step step_from
  reach_begun {κ' = κ'} {n = n} q r =
      record {
        runs = λ i.
            let p : suc i + n ≡ i + suc n = omega arith in
            ap (λ (x : Control). run T n (after (suc i) x)) q ∙ r.runs (suc i) ∙ ap (λ (j : ℕ). after j κ') p;
      }

  reach_then : {κ κ' κ'' : Control} {n m : ℕ} → Reaches T κ n κ' → Reaches T κ' m κ'' → Reaches T κ (n + m) κ''
  reach_then {κ} {κ'' = κ''} {n = n} {m = m} r r' =
      record {
        runs = λ i.
            let p : i + n + m ≡ i + (n + m) = omega arith in
            run_add T n m (after i κ) ∙ ap (run T m) (r.runs i) ∙ r'.runs (i + n) ∙ ap (λ (j : ℕ). after j κ'') p;
      }

  -- the last of the steps came to another ending
  then_unwind : {κ : Control} {n : ℕ} {x y : Ending} (w : List Frame) → x ≡ y → Reaches T κ n (unwind x w) → Reaches T κ n (unwind y w)
  then_unwind {κ} {n} w q p = subst (λ (z : Ending). Reaches T κ n (unwind z w)) q p

  -- a term that ends when it begins
  reach_end : {π : Place} {t : Term} {g : List Goal} {w : List Frame} {κ : Control} → begin T π t g w ≡ κ → Reaches T (running π t g w) 1 κ
  reach_end {κ = κ} q = reach_begun q (reach_now κ)

  module _ (rules : UniqueRules T) (definitions : UniqueDefinitions T) where
    split_found : {t : Term} (g₁ g₂ : List Goal) → Arity T t (length g₁) → length g₁ ≤ 256 →
        split_by (tactic_arity T t) (g₁ ++ g₂) ≡ some (record { left_goals = g₁; right_goals = g₂ })
    split_found g₁ g₂ r h =
        rw (tactic_arity_complete T definitions r h, le-leb (length g₁) (length (g₁ ++ g₂)) (omega (arith, length-append g₁ g₂)), take-append_seam g₁ g₂, drop-append_seam g₁ g₂)

    split_missing : {t : Term} (g : List Goal) → ((n : ℕ) → Arity T t n → n ≤ 256 → n ≤ length g → ⊥) → split_by (tactic_arity T t) g ≡ none
    split_missing {t} g h = go (tactic_arity T t) refl
      where
        go : (o : Option ℕ) → tactic_arity T t ≡ o → split_by o g ≡ none
        go none q = refl
        go (some n) q = at_most (leb n (length g)) refl
          where
            at_most : (x : Bool) → leb n (length g) ≡ x → cond x (some (split_at n g)) none ≡ none
            at_most true e = let r = tactic_arity_sound T t n q in absurd (h n r.0 r.1 (leb-true n (length g) e))
            at_most false e = refl

    -- a term that ends takes its steps, and the machine goes on with what waits, which keeps the fields that are held
    pub resumes : {k : ℕ} {g : List Goal} {t : Term} {n : ℕ} {e : End} → Ends T FewHeld k g t n e → (π : Place) (w : List Frame) → held w ≡ k → Reaches T (running π t g w) n (unwind (ending_of e) w)
    unfolding begin unwind matches held
    resumes (D-Atomic {a = a} {γ = γ} {h = h} m z) π w c = reach_end (rw ((found↔rule T a γ rules h).1 m).1 (ap (λ (x : Ending). unwind x w) (finishes_so w z c)))
    resumes (D-Atomic-Rule {a = a} {γ = γ} m) π w c = reach_end (rw ((missing↔no_rule T a γ).1 m))
    resumes (D-Atomic-Goals {a = a} {g = g} h) π w c = reach_end (rw (one_goal_only (λ γ. found_premises (find_rule T a γ)) g h))
    resumes (D-Id z) π w c = reach_end (ap (λ (x : Ending). unwind x w) (finishes_so w z c))
    resumes (D-Id-Goals {g = g} h) π w c = reach_end (rw (one_goal_only (λ γ. some (γ ∷ [])) g h))
    resumes (D-Empty z) π w c = reach_end (ap (λ (x : Ending). unwind x w) (finishes_so w z c))
    resumes (D-Empty-Goals {g = g} h) π w c = reach_end (rw (no_goal_only g h))
    resumes (D-Assert {p = p} {γ = γ} q z) π w c = reach_end (rw (eq-eqb p.0 γ.0 (ap (λ (x : Goal). x.0) q)) (ap (λ (x : Ending). unwind x w) (finishes_so w z c)))
    resumes (D-Assert-Other {p = p} {γ = γ} h) π w c = reach_end (rw (ne_eqb p.0 γ.0 (λ q. h (λ i. record { 0 = q i }))))
    resumes (D-Assert-Goals {p = p} {g = g} h) π w c = reach_end (rw (one_goal_only (λ γ. cond (matches T p γ) (some (γ ∷ [])) none) g h))
    resumes (D-Label {l = l} r z) π w c = reach_begun refl (then_unwind w (finishes_so w z c) (resumes r (past π 5) (labelled (past π 5) l ∷ w) (omega (arith, c))))
    resumes (D-Label-Inner {l = l} r fails) π w c = reach_begun refl (resumes r (past π 5) (labelled (past π 5) l ∷ w) (omega (arith, c)))
    resumes (D-Label-Inner {l = l} r (limited overflows)) π w c = reach_begun refl (resumes r (past π 5) (labelled (past π 5) l ∷ w) (omega (arith, c)))
    resumes (D-Label-Inner {l = l} r (limited exceeds)) π w c = reach_begun refl (resumes r (past π 5) (labelled (past π 5) l ∷ w) (omega (arith, c)))
    resumes (D-Label-Goals {g = g} h) π w c = reach_end (rw (one_goal_only (λ γ. some (γ ∷ [])) g h))
    resumes (D-Seq {t = t} {u = u} {s = s} r r' z) π w c =
        let ρ = past π (3 + size t) in
        reach_begun refl (reach_then (resumes r (past π 3) (sequence_left ρ u ∷ w) (omega (arith, c))) (then_unwind w (finishes_so w z c) (resumes r' ρ (sequence_right ρ s ∷ w) (omega (arith, c)))))
    resumes (D-Seq-Left {t = t} {u = u} r fails) π w c = reach_begun refl (resumes r (past π 3) (sequence_left (past π (3 + size t)) u ∷ w) (omega (arith, c)))
    resumes (D-Seq-Left {t = t} {u = u} r (limited overflows)) π w c = reach_begun refl (resumes r (past π 3) (sequence_left (past π (3 + size t)) u ∷ w) (omega (arith, c)))
    resumes (D-Seq-Left {t = t} {u = u} r (limited exceeds)) π w c = reach_begun refl (resumes r (past π 3) (sequence_left (past π (3 + size t)) u ∷ w) (omega (arith, c)))
    resumes (D-Seq-Right {t = t} {u = u} {s = s} r r' fails) π w c =
        let ρ = past π (3 + size t) in
        reach_begun refl (reach_then (resumes r (past π 3) (sequence_left ρ u ∷ w) (omega (arith, c))) (resumes r' ρ (sequence_right ρ s ∷ w) (omega (arith, c))))
    resumes (D-Seq-Right {t = t} {u = u} {s = s} r r' (limited overflows)) π w c =
        let ρ = past π (3 + size t) in
        reach_begun refl (reach_then (resumes r (past π 3) (sequence_left ρ u ∷ w) (omega (arith, c))) (resumes r' ρ (sequence_right ρ s ∷ w) (omega (arith, c))))
    resumes (D-Seq-Right {t = t} {u = u} {s = s} r r' (limited exceeds)) π w c =
        let ρ = past π (3 + size t) in
        reach_begun refl (reach_then (resumes r (past π 3) (sequence_left ρ u ∷ w) (omega (arith, c))) (resumes r' ρ (sequence_right ρ s ∷ w) (omega (arith, c))))
    resumes (D-Tensor {t = t} {u = u} {s = s} {g₁ = g₁} {g₂ = g₂} {h₁ = h₁} {h₂ = h₂} a b r r' j z) π w c =
        let ρ = past π (3 + size t) in
        reach_begun (rw (split_found g₁ g₂ a b))
        (reach_then (resumes r (past π 3) (tensor_left ρ u g₂ ∷ w) (omega (arith, c))) (then_unwind w (finishes_so w z c) (rw (joined-fits_lem (h₁ ++ h₂) j) at (resumes r' ρ (tensor_right ρ s h₁ ∷ w) (omega (arith, c))))))
    resumes (D-Tensor-Joined {t = t} {u = u} {s = s} {g₁ = g₁} {g₂ = g₂} {h₁ = h₁} {h₂ = h₂} a b r r' j) π w c =
        let ρ = past π (3 + size t) in
        reach_begun (rw (split_found g₁ g₂ a b))
        (reach_then (resumes r (past π 3) (tensor_left ρ u g₂ ∷ w) (omega (arith, c))) (rw (joined_over (h₁ ++ h₂) j) at (resumes r' ρ (tensor_right ρ s h₁ ∷ w) (omega (arith, c)))))
    resumes (D-Tensor-Left {t = t} {u = u} {g₁ = g₁} g₂ a b r fails) π w c = reach_begun (rw (split_found g₁ g₂ a b)) (resumes r (past π 3) (tensor_left (past π (3 + size t)) u g₂ ∷ w) (omega (arith, c)))
    resumes (D-Tensor-Left {t = t} {u = u} {g₁ = g₁} g₂ a b r (limited overflows)) π w c = reach_begun (rw (split_found g₁ g₂ a b)) (resumes r (past π 3) (tensor_left (past π (3 + size t)) u g₂ ∷ w) (omega (arith, c)))
    resumes (D-Tensor-Left {t = t} {u = u} {g₁ = g₁} g₂ a b r (limited exceeds)) π w c = reach_begun (rw (split_found g₁ g₂ a b)) (resumes r (past π 3) (tensor_left (past π (3 + size t)) u g₂ ∷ w) (omega (arith, c)))
    resumes (D-Tensor-Right {t = t} {u = u} {s = s} {g₁ = g₁} {g₂ = g₂} {h = h} a b r r' fails) π w c =
        let ρ = past π (3 + size t) in
        reach_begun (rw (split_found g₁ g₂ a b)) (reach_then (resumes r (past π 3) (tensor_left ρ u g₂ ∷ w) (omega (arith, c))) (resumes r' ρ (tensor_right ρ s h ∷ w) (omega (arith, c))))
    resumes (D-Tensor-Right {t = t} {u = u} {s = s} {g₁ = g₁} {g₂ = g₂} {h = h} a b r r' (limited overflows)) π w c =
        let ρ = past π (3 + size t) in
        reach_begun (rw (split_found g₁ g₂ a b)) (reach_then (resumes r (past π 3) (tensor_left ρ u g₂ ∷ w) (omega (arith, c))) (resumes r' ρ (tensor_right ρ s h ∷ w) (omega (arith, c))))
    resumes (D-Tensor-Right {t = t} {u = u} {s = s} {g₁ = g₁} {g₂ = g₂} {h = h} a b r r' (limited exceeds)) π w c =
        let ρ = past π (3 + size t) in
        reach_begun (rw (split_found g₁ g₂ a b)) (reach_then (resumes r (past π 3) (tensor_left ρ u g₂ ∷ w) (omega (arith, c))) (resumes r' ρ (tensor_right ρ s h ∷ w) (omega (arith, c))))
    resumes (D-Tensor-Arity {g = g} h) π w c = reach_end (rw (split_missing g h))
    resumes (D-Alt-L {t = t} {u = u} {g = g} r) π w c = reach_begun refl (resumes r (past π 3) (alternation_left (past π (3 + size t)) u g ∷ w) (omega (arith, c)))
    resumes (D-Alt-R {t = t} {u = u} {g = g} r r') π w c =
        let ρ = past π (3 + size t) in
        reach_begun refl (reach_then (resumes r (past π 3) (alternation_left ρ u g ∷ w) (omega (arith, c))) (resumes r' ρ w c))
    resumes (D-Alt-Limit {t = t} {u = u} {g = g} r overflows) π w c = reach_begun refl (resumes r (past π 3) (alternation_left (past π (3 + size t)) u g ∷ w) (omega (arith, c)))
    resumes (D-Alt-Limit {t = t} {u = u} {g = g} r exceeds) π w c = reach_begun refl (resumes r (past π 3) (alternation_left (past π (3 + size t)) u g ∷ w) (omega (arith, c)))
    resumes (D-Def {d = d} {t = t} m r) π w c = reach_begun (rw ((found↔definition T d definitions t).1 m)) (resumes r (record { file = 0; at = body_place T d }) w c)
    resumes (D-Def-Missing {d = d} m) π w c = reach_end (rw ((missing↔no_definition T d).1 m))
