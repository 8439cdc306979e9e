-- None of 6, 7, 8 and 9 holds of a table exactly where its rules, definitions and labels are as `TableWithin` has them: by the test of each on two values.
-- Assumes nothing.
use mathlib.Core.Path.{◌≡◌, refl, sym, subst, ap, ◌∙◌}
use mathlib.Core.Bool.{Bool, true, false, ◌&&◌, not}
use mathlib.Core.Option.{none}
use mathlib.Core.List.{List, [], ◌∷◌, map}
use Prim.Native.Nat.{ℕ, ◌+◌}
use native.Mathlib.Omega.{arith}
use lib.Dec.{eqb}
use lib.ListN.{length}
use borrow.Author.Tests.{eqb-true, eqb-false, eq-eqb, ne_eqb, not-false}
use Rattle.format.specs.declared.values.Label.{Label}
use Rattle.format.specs.declared.values.TacticNo.{TacticNo}
use Rattle.format.specs.declared.values.RuleName.{RuleName}
use Rattle.format.specs.declared.values.Goal.{Goal}
use Rattle.tables.specs.Tables.{Rule, Definition, Table}
use Rattle.tables.specs.Repeats.{Placed, rule_size, definition_size, rules_size, placed_rules, placed_tactics, labels_of, repeats_rule, recounts_rule, repeats_tactic, repeats_label}
use Rattle.tables.specs.Within.{Pairs}
use Rattle.tables.specs.Facts.{six_of, seven_of, eight_of, nine_of}
use Rattle.tables.proofs.PairLaws.{pairs_map, map_pairs, none_pairs, pairs_none}

rule_values : (at : ℕ) (rs : List Rule) → map (λ (p : Placed Rule). p.value) (placed_rules at rs) ≡ rs
unfolding placed_rules
rule_values at [] = refl
rule_values at (r ∷ rs) = ap {B = List Rule} (λ l. r ∷ l) (rule_values (at + rule_size r) rs)

tactic_values : (at : ℕ) (ds : List Definition) → map (λ (p : Placed TacticNo). p.value) (placed_tactics at ds) ≡ map (λ (d : Definition). d.tactic) ds
unfolding placed_tactics
tactic_values at [] = refl
tactic_values at (d ∷ ds) = ap {B = List TacticNo} (λ l. d.tactic ∷ l) (tactic_values (at + definition_size d) ds)

-- pairs with one property have another that follows from it
convert : {A : Type 0} (P Q : A → A → Type 0) → ((x y : A) → P x y → Q x y) → (l : List A) → Pairs P l → Pairs Q l
convert P Q f l h a b c x y e = f x y (h a b c x y e)

-- two tests of which not both hold
not_both : (a b : Bool) → (a ≡ true → b ≡ true → ⊥) → (a && b) ≡ false
not_both true true h = absurd (h refl refl)
not_both true false h = refl
not_both false b h = refl

both_not : (a b : Bool) → (a && b) ≡ false → a ≡ true → b ≡ false
both_not true b e t = e
both_not false b e t = absurd (let z : ◌≡◌ {A = ℕ} 0 1 = cc in omega arith)

same_name : {a b : RuleName} → a.0 ≡ b.0 → a ≡ b
same_name e = λ i. record { 0 = e i }

same_goal_lem : {a b : Goal} → a.0 ≡ b.0 → a ≡ b
same_goal_lem e = λ i. record { 0 = e i }

same_tactic_lem : {a b : TacticNo} → a.0 ≡ b.0 → a ≡ b
same_tactic_lem e = λ i. record { 0 = e i }

same_label : {a b : Label} → a.0 ≡ b.0 → a ≡ b
same_label e = λ i. record { 0 = e i }

-- the test of each on two values, and what it says
abbrev pub Six : Rule → Rule → Type 0
Six x y = x.name ≡ y.name → x.goal ≡ y.goal → ⊥

abbrev pub Seven : Rule → Rule → Type 0
Seven x y = x.name ≡ y.name → length x.premises ≡ length y.premises

abbrev pub Eight : TacticNo → TacticNo → Type 0
Eight x y = x ≡ y → ⊥

abbrev pub Nine : Label → Label → Type 0
Nine x y = x ≡ y → ⊥

six_says : (x y : Rule) → repeats_rule y x ≡ false → Six x y
unfolding repeats_rule
six_says x y e n g =
    eqb-false _ _ (both_not (eqb y.name.0 x.name.0) (eqb y.goal.0 x.goal.0) e (eq-eqb _ _ (ap (λ (a : RuleName). a.0) (sym n)))) (ap (λ (a : Goal). a.0) (sym g))

six_if : (x y : Rule) → Six x y → repeats_rule y x ≡ false
unfolding repeats_rule
six_if x y h = not_both (eqb y.name.0 x.name.0) (eqb y.goal.0 x.goal.0) (λ a b. h (same_name (sym (eqb-true _ _ a))) (same_goal_lem (sym (eqb-true _ _ b))))

seven_says : (x y : Rule) → recounts_rule y x ≡ false → Seven x y
unfolding recounts_rule
seven_says x y e n =
    sym (eqb-true _ _ (not-false _ (both_not (eqb y.name.0 x.name.0) (not (eqb (length y.premises) (length x.premises))) e (eq-eqb _ _ (ap (λ (a : RuleName). a.0) (sym n))))))

seven_if : (x y : Rule) → Seven x y → recounts_rule y x ≡ false
unfolding recounts_rule
seven_if x y h = not_both (eqb y.name.0 x.name.0) (not (eqb (length y.premises) (length x.premises)))
    (λ a b. let q = eq-eqb (length y.premises) (length x.premises) (sym (h (same_name (sym (eqb-true _ _ a))))) in let z : ◌≡◌ {A = Bool} false true = sym (ap not q) ∙ b in let o : ◌≡◌ {A = ℕ} 0 1 = cc in omega arith)

eight_says : (x y : TacticNo) → repeats_tactic y x ≡ false → Eight x y
unfolding repeats_tactic
eight_says x y e q = eqb-false _ _ e (ap (λ (a : TacticNo). a.0) (sym q))

eight_if : (x y : TacticNo) → Eight x y → repeats_tactic y x ≡ false
unfolding repeats_tactic
eight_if x y h = ne_eqb _ _ (λ e. h (same_tactic_lem (sym e)))

nine_says : (x y : Label) → repeats_label y x ≡ false → Nine x y
unfolding repeats_label
nine_says x y e q = eqb-false _ _ e (ap (λ (a : Label). a.0) (sym q))

nine_if : (x y : Label) → Nine x y → repeats_label y x ≡ false
unfolding repeats_label
nine_if x y h = ne_eqb _ _ (λ e. h (same_label (sym e)))

module _ (T : Table) where
  pub six_pairs : six_of T ≡ none → Pairs Six T.rules
  six_pairs e = convert _ Six six_says _ (subst (Pairs (λ x y. repeats_rule y x ≡ false)) (rule_values 0 T.rules) (none_pairs repeats_rule _ e))

  pub pairs_six : Pairs Six T.rules → six_of T ≡ none
  pairs_six h = pairs_none repeats_rule _ (subst (Pairs (λ x y. repeats_rule y x ≡ false)) (sym (rule_values 0 T.rules)) (convert Six _ six_if _ h))

  pub seven_pairs : seven_of T ≡ none → Pairs Seven T.rules
  seven_pairs e = convert _ Seven seven_says _ (subst (Pairs (λ x y. recounts_rule y x ≡ false)) (rule_values 0 T.rules) (none_pairs recounts_rule _ e))

  pub pairs_seven : Pairs Seven T.rules → seven_of T ≡ none
  pairs_seven h = pairs_none recounts_rule _ (subst (Pairs (λ x y. recounts_rule y x ≡ false)) (sym (rule_values 0 T.rules)) (convert Seven _ seven_if _ h))

  pub eight_pairs : eight_of T ≡ none → Pairs (λ x y. x.tactic ≡ y.tactic → ⊥) T.definitions
  eight_pairs e =
      map_pairs (λ (d : Definition). d.tactic) Eight T.definitions
      (subst (Pairs Eight) (tactic_values (rules_size T.rules) T.definitions) (convert _ Eight eight_says _ (none_pairs repeats_tactic _ e)))

  pub pairs_eight : Pairs (λ x y. x.tactic ≡ y.tactic → ⊥) T.definitions → eight_of T ≡ none
  pairs_eight h =
      pairs_none repeats_tactic _ (convert Eight _ eight_if _
      (subst (Pairs Eight) (sym (tactic_values (rules_size T.rules) T.definitions)) (pairs_map (λ (d : Definition). d.tactic) Eight T.definitions h)))

  pub nine_pairs : nine_of T ≡ none → Pairs (λ x y. x.value ≡ y.value → ⊥) (labels_of (rules_size T.rules) T.definitions)
  nine_pairs e = map_pairs (λ (p : Placed Label). p.value) Nine _ (convert _ Nine nine_says _ (none_pairs repeats_label _ e))

  pub pairs_nine : Pairs (λ x y. x.value ≡ y.value → ⊥) (labels_of (rules_size T.rules) T.definitions) → nine_of T ≡ none
  pairs_nine h = pairs_none repeats_label _ (convert Nine _ nine_if _ (pairs_map (λ (p : Placed Label). p.value) Nine _ h))
