-- The look-up of a rule tells membership and number: it gives a rule of the table with the rules before it counted, it finds one wherever there is one, and
-- where no two rules share name and goal it finds that one. By induction over the rules, by the test of name and goal. Assumes nothing.
use mathlib.Core.Path.{◌≡◌, refl, sym, subst, ap, ◌∙◌}
use mathlib.Core.Bool.{Bool, true, false, cond, ◌&&◌, false≢true}
use mathlib.Core.Logic.{◌⊎◌, inl, inr, ◌↔◌}
use mathlib.Core.Option.{Option, none, some, none-ne-some}
use mathlib.Core.List.Memᴰ
use mathlib.Core.List.{List, [], ◌∷◌, ◌++◌, Memᴰ}
use Prim.Native.Nat.{ℕ, suc, ◌+◌, ◌<◌}
use native.Mathlib.Omega.{arith}
use lib.ListN.{length, length-append}
use borrow.Author.Tests.{eqb-true, eq-eqb}
use Rattle.format.specs.declared.values.RuleName.{RuleName}
use Rattle.format.specs.declared.values.Goal.{Goal}
use Rattle.tables.specs.Tables.{Rule, Table, HasRule, NumberedRule, UniqueRules}
use Rattle.tables.specs.Within.{Pairs}
use Rattle.tables.specs.Lookup.{same_name, same_goal, FoundRule, found_rule, find_rule_in, find_rule}
use Rattle.tables.proofs.Clashes.{Six}

-- the rule of that name, goal and premises
abbrev rule : RuleName → Goal → List Goal → Rule
rule a γ h = record { name = a; goal = γ; premises = h }

-- Two goals of one number are one goal.
pub same_goal_lem : (γ δ : Goal) → same_goal γ δ ≡ true → γ ≡ δ
same_goal_lem γ δ t = λ i. record { 0 = eqb-true γ.0 δ.0 t i }

both_true : (b c : Bool) → (b && c) ≡ true → (b ≡ true) × (c ≡ true)
both_true true c e = (refl, e)
both_true false c e = absurd (false≢true e)

-- the test of one rule
abbrev carried : RuleName → Goal → Rule → Bool
carried a γ r = same_name a r.name && same_goal γ r.goal

-- a rule that passes it has that name and goal
carried_is : (a : RuleName) (γ : Goal) (r : Rule) → carried a γ r ≡ true → rule a γ r.premises ≡ r
carried_is a γ r t =
    let (n, g) = both_true (same_name a r.name) (same_goal γ r.goal) t in
    let pn = eqb-true a.0 r.name.0 n in
    let pg = same_goal_lem γ r.goal g in
    λ i. record { name = record { 0 = pn i }; goal = pg i; premises = r.premises }

-- and a rule of that name and goal passes it
is_carried : (a : RuleName) (γ : Goal) (h : List Goal) (r : Rule) → rule a γ h ≡ r → carried a γ r ≡ true
is_carried a γ h r p = rw (eq-eqb a.0 r.name.0 (ap (λ q. q.name.0) p), eq-eqb γ.0 r.goal.0 (ap (λ q. q.goal.0) p))

-- the rule with a number, in rules of which the first has another
abbrev Stands : (from number : ℕ) → List Rule → Rule → Type 0
Stands n m rs r = (before after : List Rule) × (n + length before ≡ m) × (rs ≡ before ++ r ∷ after)

-- where a rule is found, so many rules stand before it
found_in : (n : ℕ) (a : RuleName) (γ : Goal) (rs : List Rule) (m : ℕ) (h : List Goal) → find_rule_in n a γ rs ≡ some (found_rule m h) → Stands n m rs (rule a γ h)
unfolding find_rule_in
found_in n a γ [] m h e = absurd (none-ne-some (found_rule m h) e)
found_in n a γ (r ∷ rs) m h e = go (carried a γ r) refl e (found_in (n + 1) a γ rs m h)
  where
    go : (b : Bool) → carried a γ r ≡ b → cond b (some (found_rule n r.premises)) (find_rule_in (n + 1) a γ rs) ≡ some (found_rule m h)
        → (find_rule_in (n + 1) a γ rs ≡ some (found_rule m h) → Stands (n + 1) m rs (rule a γ h)) → Stands n m (r ∷ rs) (rule a γ h)
    go true t x ih =
        let pf : found_rule n r.premises ≡ found_rule m h = cc in
        let pn : n ≡ m = ap (λ (f : FoundRule). f.number) pf in
        let ph : r.premises ≡ h = ap (λ (f : FoundRule). f.premises) pf in
        ([], rs, omega (arith, pn), ap {B = List Rule} (λ (q : Rule). q ∷ rs) (sym (carried_is a γ r t) ∙ ap (rule a γ) ph))
    go false t x ih = let (before, after, k, q) = ih x in (r ∷ before, after, omega (arith, k), ap {B = List Rule} (λ (l : List Rule). r ∷ l) q)

member_in : (n : ℕ) (a : RuleName) (γ : Goal) (h : List Goal) (rs : List Rule) → Memᴰ (rule a γ h) rs
    → (m : ℕ) × (k : List Goal) × (find_rule_in n a γ rs ≡ some (found_rule m k))
unfolding find_rule_in
member_in n a γ h [] m = absurd (Memᴰ.not-nil m)
member_in n a γ h (r ∷ rs) m = go (carried a γ r) refl (member_in (n + 1) a γ h rs) (Memᴰ.cases_cons m)
  where
    go : (b : Bool) → carried a γ r ≡ b
        → (Memᴰ (rule a γ h) rs → (m : ℕ) × (k : List Goal) × (find_rule_in (n + 1) a γ rs ≡ some (found_rule m k)))
        → (rule a γ h ≡ r) ⊎ Memᴰ (rule a γ h) rs → (m : ℕ) × (k : List Goal) × (find_rule_in n a γ (r ∷ rs) ≡ some (found_rule m k))
    go true t ih c = (n, r.premises, rw t)
    go false t ih (inl p) = absurd (false≢true (sym t ∙ is_carried a γ h r p))
    go false t ih (inr q) = let (m, k, e) = ih q in (m, k, rw t e)

-- behind rules of other names or goals the rule is found
behind_others : (n : ℕ) (a : RuleName) (γ : Goal) (h : List Goal) (before after : List Rule) → Pairs Six (before ++ rule a γ h ∷ after)
    → find_rule_in n a γ (before ++ rule a γ h ∷ after) ≡ some (found_rule (n + length before) h)
unfolding find_rule_in
behind_others n a γ h [] after six = rw (is_carried a γ h (rule a γ h) refl) (ap (λ (k : ℕ). some (found_rule k h)) (let e : n ≡ n + 0 = omega arith in e))
behind_others n a γ h (r ∷ before) after six =
    go (carried a γ r) refl (behind_others (n + 1) a γ h before after (λ p q s x y e. six (r ∷ p) q s x y (ap {B = List Rule} (λ (l : List Rule). r ∷ l) e)))
  where
    go : (b : Bool) → carried a γ r ≡ b → find_rule_in (n + 1) a γ (before ++ rule a γ h ∷ after) ≡ some (found_rule (n + 1 + length before) h)
        → cond b (some (found_rule n r.premises)) (find_rule_in (n + 1) a γ (before ++ rule a γ h ∷ after)) ≡ some (found_rule (n + suc (length before)) h)
    go true t ih = let p = carried_is a γ r t in absurd (six [] before after r (rule a γ h) refl (ap (λ (q : Rule). q.name) (sym p)) (ap (λ (q : Rule). q.goal) (sym p)))
    go false t ih = ih ∙ ap (λ (k : ℕ). some (found_rule k h)) (let e : n + 1 + length before ≡ n + suc (length before) = omega arith in e)

module _ (T : Table) (a : RuleName) (γ : Goal) where
  -- What is found is the rule of that number.
  pub found_numbered : (n : ℕ) (h : List Goal) → find_rule T a γ ≡ some (found_rule n h) → NumberedRule T n a γ h
  unfolding find_rule
  found_numbered n h e = let (before, after, k, q) = found_in 0 a γ T.rules n h e in (before, after, omega (arith, k), q)

  -- The number is less than the count of the rules.
  pub found_few : (n : ℕ) (h : List Goal) → find_rule T a γ ≡ some (found_rule n h) → n < length T.rules
  found_few n h e = let (before, after, k, q) = found_numbered n h e in omega (arith, k, length-append before (rule a γ h ∷ after), ap length q)

  -- It is a rule of the table.
  pub found_member : (n : ℕ) (h : List Goal) → find_rule T a γ ≡ some (found_rule n h) → HasRule T a γ h
  found_member n h e = let (before, after, k, q) = found_numbered n h e in subst (λ (l : List Rule). Memᴰ (rule a γ h) l) (sym q) (Memᴰ.append_right before (Memᴰ.head refl))

  -- Where there is a rule, one is found.
  pub member_found : (h : List Goal) → HasRule T a γ h → (n : ℕ) × (k : List Goal) × (find_rule T a γ ≡ some (found_rule n k))
  unfolding find_rule
  member_found h m = member_in 0 a γ h T.rules m

  -- FOUND: where no two rules share name and goal, the look-up gives h exactly where the table has that rule.
  pub found↔rule : UniqueRules T → (h : List Goal) → ((n : ℕ) × (find_rule T a γ ≡ some (found_rule n h))) ↔ HasRule T a γ h
  found↔rule unique h = (
    (λ f. found_member f.0 h f.1),
    (λ m. let (n, k, e) = member_found h m in (n, e ∙ ap (λ (l : List Goal). some (found_rule n l)) (unique a γ k h (found_member n k e) m))),
  )

  -- NUMBERED: there it gives the number n exactly where n rules stand before that rule.
  pub found↔numbered : Pairs Six T.rules → (n : ℕ) (h : List Goal) → (find_rule T a γ ≡ some (found_rule n h)) ↔ NumberedRule T n a γ h
  unfolding find_rule
  found↔numbered six n h = (
    found_numbered n h,
    λ x.
        let (before, after, k, q) = x in
        ap (find_rule_in 0 a γ) q ∙ behind_others 0 a γ h before after (subst (Pairs Six) q six) ∙ ap (λ (m : ℕ). some (found_rule m h)) (let e : 0 + length before ≡ n = omega (arith, k) in e),
  )

  -- NOT FOUND: exactly where the table has no rule of that name for that goal.
  pub missing↔no_rule : (find_rule T a γ ≡ none) ↔ ((h : List Goal) → HasRule T a γ h → ⊥)
  missing↔no_rule = (
    (λ e h m. let (n, k, f) = member_found h m in none-ne-some (found_rule n k) (sym e ∙ f)),
    (λ lacks. go lacks (find_rule T a γ) refl),
  )
    where
      go : ((h : List Goal) → HasRule T a γ h → ⊥) → (o : Option FoundRule) → find_rule T a γ ≡ o → o ≡ none
      go lacks none e = refl
      go lacks (some r) e = absurd (lacks r.premises (found_member r.number r.premises e))
