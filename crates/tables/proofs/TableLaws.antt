-- What a table that was read says: its fields stand in the file, rules from the first byte on and definitions behind them up to the end, and each limit holds. By induction over the bound of the fields' number.
-- Assumes nothing.
use mathlib.Core.Path.{◌≡◌, refl, sym, subst, ap}
use mathlib.Core.Bool.{Bool, true, false, cond}
use mathlib.Core.List.{List, [], ◌∷◌}
use Prim.Native.Nat.{ℕ, zero, suc, ◌+◌, ◌≤◌, ◌<◌}
use native.Mathlib.Omega.{arith}
use lib.Dec.{ltb}
use lib.ListN.{length}
use borrow.Author.Tests.{ltb-false}
use Rattle.format.specs.Limits.{most_rules, most_definitions, most_term_fields}
use Rattle.format.specs.Results.{Result, gives, and_then}
use Rattle.format.proofs.ResultLaws.{never_gives, same_value, and_gives}
use Rattle.tables.specs.Tables.{Rule, Definition, Table}
use Rattle.tables.specs.Repeats.{rule_size, definition_size, rules_size}
use Rattle.tables.specs.ReadTables.{Field, rule_field, definition_field, read_field, with_rule, with_definition, fields_of, read_fields}
use Rattle.tables.specs.Standing.{DefinitionStands, InRow, RulesStand, DefinitionsStand, TableStands}
use Rattle.tables.specs.Within.{body_fields}
use Rattle.tables.proofs.FieldLaws.{RuleRead, DefinitionRead, FieldLaw, field_law}

-- the fields from a place on, after so many rules, definitions and term fields
pub record FieldsRead (s : List ℕ) (at r d n : ℕ) (T : Table) : Type 0 where
  pub rules_stand : RulesStand s at T.rules (at + rules_size T.rules)
  pub definitions_stand : DefinitionsStand s (at + rules_size T.rules) T.definitions (length s)
  pub no_rules : 0 < d → T.rules ≡ []
  pub rule_room : r ≤ most_rules → r + length T.rules ≤ most_rules
  pub definition_room : d ≤ most_definitions → d + length T.definitions ≤ most_definitions
  pub term_room : n ≤ most_term_fields → n + body_fields T.definitions ≤ most_term_fields

module _ (s : List ℕ) (at r d n : ℕ) where
  nothing : at ≤ length s → length s ≤ at → FieldsRead s at r d n (record { rules = []; definitions = [] })
  unfolding InRow rules_size body_fields
  nothing l h = record {
    rules_stand = omega arith;
    definitions_stand = omega arith;
    no_rules = λ _. refl;
    rule_room = λ m. omega arith;
    definition_room = λ m. omega arith;
    term_room = λ m. omega arith;
  }

  a_rule : (x : Rule) (next : ℕ) → RuleRead s at r d x next → (T : Table) → FieldsRead s next (r + 1) d n T → FieldsRead s at r d n (record { rules = x ∷ T.rules; definitions = T.definitions })
  unfolding InRow rules_size
  a_rule x next l T rest =
      let e : next + rules_size T.rules ≡ at + (rule_size x + rules_size T.rules) = omega (arith, l.next_is) in
      record {
        rules_stand = (l.stands, subst (λ (j : ℕ). RulesStand s (at + rule_size x) T.rules j) e (subst (λ (j : ℕ). RulesStand s j T.rules (next + rules_size T.rules)) l.next_is rest.rules_stand));
        definitions_stand = subst (λ (j : ℕ). DefinitionsStand s j T.definitions (length s)) e rest.definitions_stand;
        no_rules = λ h. absurd (omega (arith, l.first_come));
        rule_room = λ _. omega (arith, rest.rule_room (omega (arith, l.room)));
        definition_room = rest.definition_room;
        term_room = rest.term_room;
      }

  a_definition : (x : Definition) (next m : ℕ) → DefinitionRead s at d n x next m → (T : Table) → FieldsRead s next r (d + 1) m T → FieldsRead s at r d n (record { rules = T.rules; definitions = x ∷ T.definitions })
  unfolding InRow rules_size body_fields
  a_definition x next m l T rest =
      let none_left = rest.no_rules (omega arith) in
      let z : rules_size T.rules ≡ 0 = ap rules_size none_left in
      let a : at ≡ at + rules_size T.rules = omega arith in
      let b : next + rules_size T.rules ≡ at + rules_size T.rules + definition_size x = omega (arith, l.next_is) in
      record {
        rules_stand = subst (λ (rs : List Rule). RulesStand s at rs (at + rules_size rs)) (sym none_left) (omega arith);
        definitions_stand = (subst (λ (j : ℕ). DefinitionStands s j x) a l.stands, subst (λ (j : ℕ). DefinitionsStand s j T.definitions (length s)) b rest.definitions_stand);
        no_rules = λ _. none_left;
        rule_room = rest.rule_room;
        definition_room = λ _. omega (arith, rest.definition_room (omega (arith, l.room)));
        term_room = λ _. omega (arith, rest.term_room l.term_room, l.count_is);
      }

  module _ (rec : ℕ → ℕ → ℕ → ℕ → Result Table) (ih : (at r d n : ℕ) → at ≤ length s → (T : Table) → rec at r d n ≡ gives T → FieldsRead s at r d n T) where
    by_field : (x : Field) → FieldLaw s at r d n x → (T : Table) → fields_of rec r d n x ≡ gives T → FieldsRead s at r d n T
    unfolding FieldLaw fields_of with_rule with_definition
    by_field (rule_field x next) l T e =
        let b = and_gives _ e in
        subst (FieldsRead s at r d n) (same_value b.2) (a_rule x next l b.0 (ih next (r + 1) d n l.within b.0 b.1))
    by_field (definition_field x next m) l T e =
        let b = and_gives _ e in
        subst (FieldsRead s at r d n) (same_value b.2) (a_definition x next m l b.0 (ih next r (d + 1) m l.within b.0 b.1))

    by_test : (b : Bool) → ltb at (length s) ≡ b → at ≤ length s → (T : Table) → cond b (and_then (read_field s at r d n) (fields_of rec r d n)) (gives (record { rules = []; definitions = [] })) ≡ gives T → FieldsRead s at r d n T
    by_test true t l T e = let b = and_gives _ e in by_field b.0 (field_law s at r d n b.0 b.1) T b.2
    by_test false t l T e = subst (FieldsRead s at r d n) (same_value e) (nothing l (ltb-false _ _ t))

pub fields_read : (b : ℕ) (s : List ℕ) (at r d n : ℕ) → at ≤ length s → (T : Table) → read_fields b s at r d n ≡ gives T → FieldsRead s at r d n T
unfolding read_fields
fields_read zero s at r d n l T e = never_gives e
fields_read (suc b) s at r d n l T e = by_test s at r d n (read_fields b s) (fields_read b s) (ltb at (length s)) refl l T e

-- the fields of a whole file
pub fields_stand : (b : ℕ) (s : List ℕ) (T : Table) → read_fields b s 0 0 0 0 ≡ gives T → TableStands s (rules_size T.rules) T
fields_stand b s T e =
    let f = fields_read b s 0 0 0 0 (omega arith) T e in
    let z : 0 + rules_size T.rules ≡ rules_size T.rules = omega arith in
    record {
      rules_stand = subst (λ (j : ℕ). RulesStand s 0 T.rules j) z f.rules_stand;
      definitions_stand = subst (λ (j : ℕ). DefinitionsStand s j T.definitions (length s)) z f.definitions_stand;
    }
