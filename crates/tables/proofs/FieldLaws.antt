-- What a field of a table that was read says: by its header, its tag and, of a definition, its body.
-- Assumes nothing.
use mathlib.Core.Path.{◌≡◌, refl, sym, subst, ap, ◌∙◌}
use mathlib.Core.Bool.{Bool, true, false, cond}
use mathlib.Core.List.{List}
use Prim.Native.Nat.{ℕ, ◌+◌, ◌*◌, ◌-◌, ◌/◌, ◌≤◌, ◌<◌}
use native.Mathlib.Omega.{arith}
use lib.Dec.{eqb}
use lib.ListN.{length, get_or}
use borrow.Author.Tests.{eqb-true, leb-false, eq-eqb, ne_eqb}
use Rattle.words.specs.Word.{word}
use Rattle.format.specs.Limits.{most_rules, most_definitions, most_term_fields}
use Rattle.format.specs.declared.refusals.Cause.TheVariants.{LengthWrong}
use Rattle.format.specs.Results.{gives}
use Rattle.format.specs.Values.{tactic_no}
use Rattle.format.specs.Tags.{rows, find_row, row_of, kind_of, least_of, most_of, inner_of, rule_kind, definition_kind, tactic_kind}
use Rattle.format.specs.Next.{full_table, lowest}
use Rattle.format.specs.Headers.{header}
use Rattle.format.specs.Terms.{size, fields}
use Rattle.format.specs.ReadTerms.{ParsedTerm}
use Rattle.format.specs.Goals.{goals_at}
use Rattle.format.specs.Standing.{Head}
use Rattle.format.proofs.ResultLaws.{and_gives, kept, same_value}
use Rattle.format.proofs.TableTags.{TableTag, a_rule, a_definition, table_tag, lowest_least, two_bytes}
use Rattle.format.proofs.HeaderLaws.{IsField, is_field}
use Rattle.format.proofs.GoalsLaws.{length-goals_at}
use Rattle.format.proofs.ReadLaw.{Law, read_gives}
use Rattle.tables.specs.Tables.{Rule, Definition}
use Rattle.tables.specs.Repeats.{rule_size, definition_size}
use Rattle.tables.specs.ReadTables.{Field, rule_field, definition_field, rule_of, definition_of, field_of, read_field}
use Rattle.tables.specs.Standing.{RuleStands, DefinitionStands}

no_definition : (d : ℕ) → lowest d ≤ rule_kind → d ≡ 0
unfolding lowest
no_definition d = go (eqb d 0) refl
  where
    go : (b : Bool) → eqb d 0 ≡ b → cond b rule_kind definition_kind ≤ rule_kind → d ≡ 0
    go true e l = eqb-true d 0 e
    go false e l = absurd (omega arith)

-- what is known of a field that was read
pub record RuleRead (s : List ℕ) (at r d : ℕ) (x : Rule) (next : ℕ) : Type 0 where
  pub stands : RuleStands s at x
  pub next_is : next ≡ at + rule_size x
  pub within : next ≤ length s
  pub first_come : d ≡ 0
  pub room : r < most_rules

pub record DefinitionRead (s : List ℕ) (at d n : ℕ) (x : Definition) (next m : ℕ) : Type 0 where
  pub stands : DefinitionStands s at x
  pub next_is : next ≡ at + definition_size x
  pub within : next ≤ length s
  pub room : d < most_definitions
  pub count_is : m ≡ n + fields x.body
  pub term_room : m ≤ most_term_fields

unfoldable pub FieldLaw : List ℕ → (at r d n : ℕ) → Field → Type 0
FieldLaw s at r d n (rule_field x next) = RuleRead s at r d x next
FieldLaw s at r d n (definition_field x next m) = DefinitionRead s at d n x next m

module _ (s : List ℕ) (at r d n : ℕ) where
  abbrev IsF : ℕ → ℕ → Type 0
  IsF tag len = IsField s at (length s) (lowest d) definition_kind (full_table s at r d) tag len

  head : (tag len l : ℕ) → IsF tag len → len ≡ l → Head s at tag l
  head tag len l f e = record { tag_is = sym f.the_tag; length_is = sym f.the_length ∙ e; inside = omega (arith, f) }

  rule_room : full_table s at r d ≡ false → get_or s at 0 ≡ 1 → r < most_rules
  unfolding full_table
  rule_room e t = leb-false _ _ (rw (eq-eqb (get_or s at 0) 1 t) at e)

  definition_room : full_table s at r d ≡ false → get_or s at 0 ≡ 2 → d < most_definitions
  unfolding full_table
  definition_room e t = leb-false _ _ (rw (ne_eqb (get_or s at 0) 1 (λ z. omega arith)) at e)

  rule_law : (len : ℕ) → IsF 1 len → RuleRead s at r d (rule_of s at len) (at + 3 + len)
  unfolding rule_of rule_size kind_of least_of most_of inner_of row_of find_row rows
  rule_law len f =
      let k = length-goals_at (len / 2 - 2) s (at + 7) in
      let even = f.whole refl in
      let z : len ≡ 4 + length (goals_at s (at + 7) (len / 2 - 2)) * 2 = omega (arith, f.least) in
      record {
        stands = record {
          head = head 1 len _ f z;
          few = omega (arith, f.most);
          name_is = refl;
          goal_is = refl;
          premises_are = ap (λ (j : ℕ). goals_at s (at + 7) j) k;
        };
        next_is = omega arith;
        within = f.contents;
        first_come = no_definition d f.above;
        room = rule_room f.room (sym f.the_tag);
      }

  definition_law : (len : ℕ) → IsF 2 len → (t : ParsedTerm) → Law s tactic_kind (at + 5) (at + 3 + len) n t → t.next ≡ at + 3 + len
      → DefinitionRead s at d n (record { tactic = tactic_no (word s (at + 3)); body = t.term }) t.next t.count
  unfolding definition_size
  definition_law len f t l e = record {
    stands = record { head = head 2 len (2 + size t.term) f (omega (arith, l.next_is)); tactic_is = refl; body_stands = l.stands };
    next_is = omega (arith, l.next_is);
    within = omega (arith, f.contents);
    room = definition_room f.room (sym f.the_tag);
    count_is = l.count_is;
    term_room = l.room;
  }

  by_tag : {tag : ℕ} (len : ℕ) → TableTag tag → IsF tag len → (x : Field) → field_of s at n (header tag len) ≡ gives x → FieldLaw s at r d n x
  unfolding field_of FieldLaw definition_of
  by_tag len a_rule f x e = subst (FieldLaw s at r d n) (same_value e) (rule_law len f)
  by_tag len a_definition f x e =
      let b = and_gives _ e in
      let t = b.0 in
      let k = kept (eqb t.next (at + 3 + len)) LengthWrong at _ b.2 in
      let l = read_gives (len + 1) s tactic_kind (omega arith) (at + 5) (at + 3 + len) n f.contents t b.1 in
      subst (FieldLaw s at r d n) (same_value k.1) (definition_law len f t l (eqb-true _ _ k.0))

  pub field_law : (x : Field) → read_field s at r d n ≡ gives x → FieldLaw s at r d n x
  unfolding read_field
  field_law x e =
      let b = and_gives _ e in
      let h = b.0 in
      let f = is_field s at (length s) (lowest d) definition_kind (full_table s at r d) h.tag h.len b.1 in
      by_tag h.len (table_tag h.tag (omega (arith, f, lowest_least d)) f.below) f x b.2

  pub behind_value : (tag len : ℕ) → IsF tag len → 2 ≤ len
  behind_value tag len f = omega (arith, f.least, two_bytes (table_tag tag (omega (arith, f, lowest_least d)) f.below))
