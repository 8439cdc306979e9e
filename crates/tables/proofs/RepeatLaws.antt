-- The search over the headers of a table finds what 6, 7, 8 and 9 are about: rules for 6 and 7, tactic numbers for 8, labels for 9, each at the place of its header. By induction over the rules, the definitions and their bodies.
-- Assumes nothing.
use mathlib.Core.Path.{◌≡◌, refl, sym, subst, ◌∙◌}
use mathlib.Core.Bool.{Bool, true, false, ◌&&◌}
use mathlib.Core.List.{List, [], ◌∷◌, ◌++◌}
use Prim.Native.Nat.{ℕ, ◌+◌, ◌≤◌}
use native.Mathlib.Omega.{arith}
use lib.Dec.{eqb}
use lib.ListN.{length, get_or}
use borrow.Author.Tests.{eqb-true, eqb-false, eq-eqb, ne_eqb}
use Rattle.words.specs.Word.{word}
use Rattle.format.specs.declared.values.Label.{Label}
use Rattle.format.specs.declared.values.TacticNo.{TacticNo}
use Rattle.format.specs.Tags.{rows, find_row, row_of, least_of}
use Rattle.format.specs.Terms.{Term, atomic, id, label, sequence, tensor, empty, alternation, assert, defined, size}
use Rattle.format.specs.Standing.{Head, Stands}
use Rattle.tables.specs.declared.repeats.Repeat.{Repeat}
use Rattle.tables.specs.declared.repeats.Repeat.TheVariants as K
use Rattle.tables.specs.Tables.{Rule, Definition}
use Rattle.tables.specs.Repeats.{Placed, rule_size, definition_size, placed_rules, placed_tactics, placed_labels, labels_of, first_clash, repeats_rule, recounts_rule, repeats_tactic, repeats_label}
use Rattle.tables.specs.Standing.{RuleStands, DefinitionStands, InRow, RulesStand, DefinitionsStand}
use Rattle.tables.specs.Search.{searched_tag, step_at, Room, besides, clash_at, places}
use Rattle.tables.proofs.RowLaws.{rule_size_lem, definition_size_lem}
use Rattle.tables.proofs.SearchLaws.{silent, by_value, for_value}
use Rattle.tables.proofs.RunLaws.{Run, run_end, run_value, run_other, run-append, run_row, run_first}

-- equal tests
same_tests : (a b c d : ℕ) → (a ≡ b → c ≡ d) → (c ≡ d → a ≡ b) → eqb a b ≡ eqb c d
same_tests a b c d f g = go (eqb a b) refl
  where
    go : (t : Bool) → eqb a b ≡ t → t ≡ eqb c d
    go true e = sym (eq-eqb c d (f (eqb-true a b e)))
    go false e = sym (ne_eqb c d (λ h. eqb-false a b e (g h)))

module _ (s : List ℕ) where
  -- no header of a row of rules or of definitions is silent
  abbrev Never : ℕ → Type 0
  Never p = ⊥

  -- 6 and 7
  -- rules are searched, each of which is passed over as a whole
  pub data OfRules : Repeat → Type 0 where
    by_goal : OfRules K.Rule
    by_count : OfRules K.PremiseCount

  tag_of_rules : {kind : Repeat} → OfRules kind → searched_tag kind ≡ 1
  unfolding searched_tag
  tag_of_rules by_goal = refl
  tag_of_rules by_count = refl

  step_of_rules : {kind : Repeat} (at : ℕ) → OfRules kind → step_at kind s at ≡ 3 + word s (at + 1)
  unfolding step_at
  step_of_rules at by_goal = refl
  step_of_rules at by_count = refl

  module _ (kind : Repeat) (of : OfRules kind) where
    rule_tag : searched_tag kind ≡ 1
    rule_tag = tag_of_rules of

    rule_header : (at : ℕ) (r : Rule) → RuleStands s at r → RuleStands s at r × Room s at × (step_at kind s at ≡ rule_size r)
    unfolding least_of row_of rows find_row
    rule_header at r st = (st, rw st.head.tag_is (omega (arith, st.head)), step_of_rules at of ∙ sym (rule_size_lem s at r st))

    pub rules_run : (rs : List Rule) (from to : ℕ) → RulesStand s from rs to → Run (RuleStands s) Never kind s from (placed_rules from rs) to
    unfolding placed_rules
    rules_run = run_row (RuleStands s) Never kind s (RuleStands s) rule_size (λ r. r) placed_rules (λ at. refl) (λ at x xs. refl) rule_header

    rules_clash : (clash : Rule → Rule → Bool) → ((p q : ℕ) (a b : Rule) → RuleStands s p a → RuleStands s q b → (eqb a.name.0 b.name.0 && besides kind s p q) ≡ clash a b)
        → (rs : List Rule) (from to : ℕ) (st : RulesStand s from rs to) → first_clash clash [] (placed_rules from rs) ≡ first_clash (clash_at kind s) [] (places (rules_run rs from to st).at)
    rules_clash clash same rs from to st =
        run_first (RuleStands s) Never kind s clash
        (λ p q a b h k. by_value kind s p q (h.head.tag_is ∙ sym rule_tag) (k.head.tag_is ∙ sym rule_tag) ∙ rw (h.name_is, k.name_is) (same p q a b h k))
        (λ p z. absurd z) from to (placed_rules from rs) (rules_run rs from to st)

  pub six : (rs : List Rule) (from to : ℕ) (st : RulesStand s from rs to) → first_clash repeats_rule [] (placed_rules from rs) ≡ first_clash (clash_at K.Rule s) [] (places (rules_run K.Rule by_goal rs from to st).at)
  unfolding repeats_rule besides
  six = rules_clash K.Rule by_goal repeats_rule (λ p q a b h k. rw (h.goal_is, k.goal_is))

  pub seven : (rs : List Rule) (from to : ℕ) (st : RulesStand s from rs to) → first_clash recounts_rule [] (placed_rules from rs) ≡ first_clash (clash_at K.PremiseCount s) [] (places (rules_run K.PremiseCount by_count rs from to st).at)
  unfolding recounts_rule besides
  seven = rules_clash K.PremiseCount by_count recounts_rule (λ p q a b h k.
      rw (same_tests (word s (p + 1)) (word s (q + 1)) (length a.premises) (length b.premises) (λ e. omega (arith, h.head.length_is, k.head.length_is)) (λ e. omega (arith, h.head.length_is, k.head.length_is))))

  -- 8 and 9: a header with the tag searched carries the value behind it
  abbrev Carries : (kind : Repeat) → (at value : ℕ) → Type 0
  Carries kind at v = (get_or s at 0 ≡ searched_tag kind) × (word s (at + 3) ≡ v)

  and_true : (b : Bool) → (b && true) ≡ b
  and_true true = refl
  and_true false = refl

  by_number : (kind : Repeat) (p q v w : ℕ) → (kind ≡ K.Rule → ⊥) → (kind ≡ K.PremiseCount → ⊥) → Carries kind p v → Carries kind q w → clash_at kind s p q ≡ eqb v w
  by_number kind p q v w a b h k = by_value kind s p q h.0 k.0 ∙ rw (for_value kind s p q a b, h.1, k.1) (and_true (eqb v w))

  tactic-header : (at : ℕ) (d : Definition) → DefinitionStands s at d → Carries K.Tactic at d.tactic.0 × Room s at × (step_at K.Tactic s at ≡ definition_size d)
  unfolding searched_tag step_at least_of row_of rows find_row
  tactic-header at d st = ((st.head.tag_is, st.tactic_is), rw st.head.tag_is (omega (arith, st.head)), sym (definition_size_lem s at d st))

  abbrev Tactic : ℕ → TacticNo → Type 0
  Tactic at n = Carries K.Tactic at n.0

  pub tactics_run : (ds : List Definition) (from to : ℕ) → DefinitionsStand s from ds to → Run Tactic Never K.Tactic s from (placed_tactics from ds) to
  unfolding placed_tactics
  tactics_run = run_row Tactic Never K.Tactic s (DefinitionStands s) definition_size (λ d. d.tactic) placed_tactics (λ at. refl) (λ at x xs. refl) tactic-header

  pub eight : (ds : List Definition) (from to : ℕ) (st : DefinitionsStand s from ds to) → first_clash repeats_tactic [] (placed_tactics from ds) ≡ first_clash (clash_at K.Tactic s) [] (places (tactics_run ds from to st).at)
  unfolding repeats_tactic
  eight ds from to st =
      run_first Tactic Never K.Tactic s repeats_tactic (λ p q a b h k. by_number K.Tactic p q a.0 b.0 (λ e. cc) (λ e. cc) h k) (λ p z. absurd z) from to (placed_tactics from ds) (tactics_run ds from to st)

  abbrev Named : ℕ → Label → Type 0
  Named at l = Carries K.Label at l.0

  abbrev Other : ℕ → Type 0
  Other at = get_or s at 0 ≡ searched_tag K.Label → ⊥

  abbrev Labels : ℕ → List (Placed Label) → ℕ → Type 0
  Labels = Run Named Other K.Label s

  -- a header of another tag, with k bytes of values in front of the inner terms
  passed : (at tag len k to : ℕ) (xs : List (Placed Label)) → Head s at tag len → least_of tag ≡ k → k ≤ len → (tag ≡ 18 → ⊥) → Labels (at + (3 + k)) xs to → Labels at xs to
  unfolding searched_tag step_at
  passed at tag len k to xs h e l n r =
      run_other Named Other K.Label s at to (3 + k) xs (λ q. n (sym h.tag_is ∙ q)) (rw (h.tag_is, e) (omega (arith, h))) (rw (h.tag_is, e)) r

  leaf-run : (at tag len k : ℕ) → Head s at tag len → least_of tag ≡ k → k ≡ len → (tag ≡ 18 → ⊥) → Labels at [] (at + (3 + len))
  leaf-run at tag len k h e l n = passed at tag len k (at + (3 + len)) [] h e (omega arith) n (run_end Named Other K.Label s _ _ (omega arith))

  pair-run : (at tag : ℕ) (t u : Term) → Head s at tag (size t + size u) → least_of tag ≡ 0 → (tag ≡ 18 → ⊥)
      → Labels (at + 3) (placed_labels (at + 3) t) (at + 3 + size t) → Labels (at + 3 + size t) (placed_labels (at + 3 + size t) u) (at + 3 + size t + size u)
      → Labels at (placed_labels (at + 3) t ++ placed_labels (at + 3 + size t) u) (at + (3 + size t + size u))
  pair-run at tag t u h e n a b =
      let v = placed_labels (at + 3) t in
      let w = placed_labels (at + 3 + size t) u in
      let to = at + 3 + size t + size u in
      let c : to ≡ at + (3 + size t + size u) = omega arith in
      let d : at + 3 ≡ at + (3 + 0) = omega arith in
      subst (λ (k : ℕ). Labels at (v ++ w) k) c
      (passed at tag (size t + size u) 0 to (v ++ w) h e (omega arith) n
      (subst (λ (k : ℕ). Labels k (v ++ w) to) d (run-append Named Other K.Label s (at + 3) (at + 3 + size t) to v w a b)))

  term_run : (t : Term) (at : ℕ) → Stands s at t → Labels at (placed_labels at t) (at + size t)
  unfolding placed_labels Stands size searched_tag step_at least_of row_of rows find_row
  term_run (atomic a) at st = leaf-run at 16 2 2 st.0 refl refl (λ e. omega arith)
  term_run id at st = leaf-run at 17 0 0 st refl refl (λ e. omega arith)
  term_run (label l t) at st =
      let c : at + 5 + size t ≡ at + (5 + size t) = omega arith in
      let v = placed_labels (at + 5) t in
      subst (λ (k : ℕ). Labels at (record { value = l; place = at } ∷ v) k) c
      (run_value Named Other K.Label s at (at + 5 + size t) 5 l v (st.0.tag_is, st.1) (rw st.0.tag_is (omega (arith, st.0))) (rw st.0.tag_is) (term_run t (at + 5) st.2))
  term_run (sequence t u) at st = pair-run at 19 t u st.0 refl (λ e. omega arith) (term_run t (at + 3) st.1) (term_run u (at + 3 + size t) st.2)
  term_run (tensor t u) at st = pair-run at 20 t u st.0 refl (λ e. omega arith) (term_run t (at + 3) st.1) (term_run u (at + 3 + size t) st.2)
  term_run empty at st = leaf-run at 21 0 0 st refl refl (λ e. omega arith)
  term_run (alternation t u) at st = pair-run at 22 t u st.0 refl (λ e. omega arith) (term_run t (at + 3) st.1) (term_run u (at + 3 + size t) st.2)
  term_run (assert g) at st = leaf-run at 23 2 2 st.0 refl refl (λ e. omega arith)
  term_run (defined n) at st = leaf-run at 24 2 2 st.0 refl refl (λ e. omega arith)

  pub labels_run : (ds : List Definition) (from to : ℕ) → DefinitionsStand s from ds to → Labels from (labels_of from ds) to
  unfolding InRow labels_of definition_size least_of row_of rows find_row
  labels_run [] from to e = run_end Named Other K.Label s from to e
  labels_run (d ∷ ds) from to st =
      let c : from + 5 + size d.body ≡ from + (5 + size d.body) = omega arith in
      let v = placed_labels (from + 5) d.body in
      let w = labels_of (from + (5 + size d.body)) ds in
      passed from 2 (2 + size d.body) 2 to (v ++ w) st.0.head refl (omega arith) (λ e. omega arith)
      (run-append Named Other K.Label s (from + 5) (from + (5 + size d.body)) to v w (subst (λ (k : ℕ). Labels (from + 5) v k) c (term_run d.body (from + 5) st.0.body_stands)) (labels_run ds (from + (5 + size d.body)) to st.1))

  pub nine : (ds : List Definition) (from to : ℕ) (st : DefinitionsStand s from ds to) → first_clash repeats_label [] (labels_of from ds) ≡ first_clash (clash_at K.Label s) [] (places (labels_run ds from to st).at)
  unfolding repeats_label
  nine ds from to st =
      run_first Named Other K.Label s repeats_label (λ p q a b h k. by_number K.Label p q a.0 b.0 (λ e. cc) (λ e. cc) h k) (λ p z q. silent K.Label s p z q) from to (labels_of from ds) (labels_run ds from to st)
