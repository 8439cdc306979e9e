-- Where a table's encoding is the file the table stands in it: field by field, by induction over the rules and the definitions.
-- Assumes nothing.
use mathlib.Core.Path.{◌≡◌, refl, sym, subst, ap, ◌∙◌}
use mathlib.Core.List.{List, [], ◌∷◌, ◌++◌, append_assoc, append-nil}
use Prim.Native.Nat.{ℕ, ◌+◌, ◌*◌, ◌≤◌}
use native.Mathlib.Omega.{arith}
use lib.ListN.{length, drop, length-append, length-drop}
use lib.Seq.{drop-drop, drop_at}
use Rattle.format.specs.Limits.{most_bytes}
use Rattle.format.specs.Terms.{Term, size}
use Rattle.format.specs.Encoding.{word_bytes, term_bytes, goal_bytes}
use Rattle.format.proofs.FieldBytes.{value_lies, field_lies}
use Rattle.format.proofs.GoalBytes.{length-goal_bytes, goals_lie}
use Rattle.format.proofs.Encoded.{length-term_bytes}
use Rattle.format.proofs.Decoded.{term_stands}
use Rattle.format.proofs.TermBytes.{small}
use Rattle.tables.specs.Tables.{Rule, Definition, Table}
use Rattle.tables.specs.Repeats.{rule_size, definition_size}
use Rattle.tables.specs.TableBytes.{rule_bytes, definition_bytes, rules_bytes, definitions_bytes, table_bytes}
use Rattle.tables.specs.Standing.{RuleStands, DefinitionStands, InRow, RulesStand, DefinitionsStand, TableStands}
use Rattle.tables.specs.Within.{RuleWithin, DefinitionWithin, Every}

-- a value stands at a place, and behind it the rest of the file lies
pub record Lies (s : List ℕ) (stands : Type 0) (next : ℕ) (rest : List ℕ) : Type 0 where
  pub it_stands : stands
  pub behind : drop next s ≡ rest
  pub within : next ≤ length s

module _ (s : List ℕ) where
  rule_lies : (at : ℕ) (r : Rule) (rest : List ℕ) → RuleWithin r → drop at s ≡ rule_bytes r ++ rest → Lies s (RuleStands s at r) (at + rule_size r) rest
  unfolding rule_bytes rule_size
  rule_lies at r rest w e =
      let k = length r.premises in
      let n = r.name.0 in
      let g = r.goal.0 in
      let a : at + 3 + 2 ≡ at + 5 = omega arith in
      let b : at + 5 + 2 ≡ at + 7 = omega arith in
      let c : at + 7 + k * 2 ≡ at + (7 + k * 2) = omega arith in
      let f = field_lies s at 1 (4 + k * 2) (word_bytes n ++ word_bytes g ++ goal_bytes r.premises) rest (omega (arith, length-goal_bytes r.premises)) (omega (arith, w.few_premises)) e in
      let x = value_lies s (at + 3) n (word_bytes g ++ (goal_bytes r.premises ++ rest)) w.name_value f.1 in
      let y = value_lies s (at + 5) g (goal_bytes r.premises ++ rest) w.goal_value (subst (λ (j : ℕ). drop j s ≡ word_bytes g ++ (goal_bytes r.premises ++ rest)) a x.1) in
      let z = goals_lie s r.premises (at + 7) rest w.premise_values (subst (λ (j : ℕ). drop j s ≡ goal_bytes r.premises ++ rest) b y.1) in
      record {
        it_stands = record { head = f.0; few = w.few_premises; name_is = x.0; goal_is = y.0; premises_are = z.0 };
        behind = subst (λ (j : ℕ). drop j s ≡ rest) c z.1;
        within = omega (arith, f.0);
      }

  -- the part behind a term's encoding
  behind_term_lem : (k : ℕ) (t : Term) (r : List ℕ) → drop k s ≡ term_bytes t ++ r → drop (k + size t) s ≡ r
  behind_term_lem k t r e = sym (drop-drop (size t) k s) ∙ ap (λ (l : List ℕ). drop (size t) l) e ∙ drop_at (term_bytes t) r (size t) (length-term_bytes t)

  -- a definition's encoding is no longer than the file
  not_longer : (at : ℕ) (d : Definition) (rest : List ℕ) → drop at s ≡ definition_bytes d ++ rest → 5 + size d.body ≤ length s
  unfolding definition_bytes
  not_longer at d rest e = omega (arith, sym (length-drop at s) ∙ ap length e, length-append (term_bytes d.body) rest, length-term_bytes d.body)

  definition_lies : length s ≤ most_bytes → (at : ℕ) (d : Definition) (rest : List ℕ) → DefinitionWithin d → drop at s ≡ definition_bytes d ++ rest → Lies s (DefinitionStands s at d) (at + definition_size d) rest
  unfolding definition_bytes definition_size
  definition_lies fits at d rest w e =
      let n = d.tactic.0 in
      let t = d.body in
      let l = not_longer at d rest e in
      let a : at + 3 + 2 ≡ at + 5 = omega arith in
      let c : at + 5 + size t ≡ at + (5 + size t) = omega arith in
      let f = field_lies s at 2 (2 + size t) (word_bytes n ++ term_bytes t) rest (omega (arith, length-term_bytes t)) (omega arith) e in
      let x = value_lies s (at + 3) n (term_bytes t ++ rest) w.tactic_value f.1 in
      let y = subst (λ (j : ℕ). drop j s ≡ term_bytes t ++ rest) a x.1 in
      record {
        it_stands = record { head = f.0; tactic_is = x.0; body_stands = term_stands s t (at + 5) rest (small t w.body_values (omega arith)) y };
        behind = subst (λ (j : ℕ). drop j s ≡ rest) c (behind_term_lem (at + 5) t rest y);
        within = omega (arith, f.0);
      }

  -- encodings one behind the other
  module _ {A : Type 0} (stands : ℕ → A → Type 0) (size_of : A → ℕ) (P : A → Type 0) (bytes_of : A → List ℕ) (all_bytes : List A → List ℕ) (nil : all_bytes [] ≡ []) (cons : (x : A) (xs : List A) → all_bytes (x ∷ xs) ≡ bytes_of x ++ all_bytes xs)
      (one : (at : ℕ) (x : A) (rest : List ℕ) → P x → drop at s ≡ bytes_of x ++ rest → Lies s (stands at x) (at + size_of x) rest) where
    row_lies : (xs : List A) (from : ℕ) (rest : List ℕ) → from ≤ length s → Every P xs → drop from s ≡ all_bytes xs ++ rest → (to : ℕ) × Lies s (InRow stands size_of from xs to) to rest
    unfolding InRow Every
    row_lies [] from rest l w e = (from, record { it_stands = refl; behind = e ∙ ap (λ (m : List ℕ). m ++ rest) nil; within = l })
    row_lies (x ∷ xs) from rest l w e =
        let h = one from x (all_bytes xs ++ rest) w.0 (e ∙ ap (λ (m : List ℕ). m ++ rest) (cons x xs) ∙ append_assoc (bytes_of x) (all_bytes xs) rest) in
        let t = row_lies xs (from + size_of x) rest h.within w.1 h.behind in
        (t.0, record { it_stands = (h.it_stands, t.1.it_stands); behind = t.1.behind; within = t.1.within })

  rules_lie : (rs : List Rule) (from : ℕ) (rest : List ℕ) → from ≤ length s → Every RuleWithin rs → drop from s ≡ rules_bytes rs ++ rest → (to : ℕ) × Lies s (RulesStand s from rs to) to rest
  unfolding rules_bytes
  rules_lie = row_lies (RuleStands s) rule_size RuleWithin rule_bytes rules_bytes refl (λ x xs. refl) rule_lies

  definitions_lie : length s ≤ most_bytes → (ds : List Definition) (from : ℕ) (rest : List ℕ) → from ≤ length s → Every DefinitionWithin ds → drop from s ≡ definitions_bytes ds ++ rest → (to : ℕ) × Lies s (DefinitionsStand s from ds to) to rest
  unfolding definitions_bytes
  definitions_lie fits = row_lies (DefinitionStands s) definition_size DefinitionWithin definition_bytes definitions_bytes refl (λ x xs. refl) (definition_lies fits)

  pub table_lies : (T : Table) → length s ≤ most_bytes → Every RuleWithin T.rules → Every DefinitionWithin T.definitions → s ≡ table_bytes T → (first : ℕ) × TableStands s first T
  unfolding table_bytes
  table_lies T fits v w e =
      let r = rules_lie T.rules 0 (definitions_bytes T.definitions) (omega arith) v e in
      let d = definitions_lie fits T.definitions r.0 [] r.1.within w (r.1.behind ∙ sym (append-nil _)) in
      let end : d.0 ≡ length s = omega (arith, d.1.within, sym (length-drop d.0 s) ∙ ap length d.1.behind) in
      (r.0, record { rules_stand = r.1.it_stands; definitions_stand = subst (λ (j : ℕ). DefinitionsStand s r.0 T.definitions j) end d.1.it_stands })
