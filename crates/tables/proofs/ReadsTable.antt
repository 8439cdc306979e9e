-- READING A TABLE: bytes read as a table exactly if they are its encoding and it is within the limits, with none of 6, 7, 8, 9; so encoding, then reading, gives the table back. And what a table that reads says.
-- Assumes nothing.
use mathlib.Core.Path.{◌≡◌, refl, subst, ap}
use mathlib.Core.Logic.{◌↔◌, ◌⊎◌, inl, inr}
use mathlib.Core.Option.{Option, none, some}
use mathlib.Core.List.Memᴰ
use mathlib.Core.List.{List, [], ◌∷◌, Memᴰ}
use Prim.Native.Nat.{ℕ, ◌+◌, ◌≤◌}
use native.Mathlib.Omega.{arith}
use lib.Dec.{ltb}
use lib.ListN.{length}
use borrow.Author.Tests.{ltb-false, le-ltb}
use Rattle.format.specs.declared.values.TacticNo.{TacticNo}
use Rattle.format.specs.Limits.{most_bytes}
use Rattle.format.specs.declared.refusals.Cause.{Cause}
use Rattle.format.specs.declared.refusals.Cause.TheVariants.{InputTooLong}
use Rattle.format.specs.Results.{Result, gives, and_then}
use Rattle.format.specs.Encoding.{Bytes}
use Rattle.format.specs.Standing.{Stands}
use Rattle.format.specs.Terms.{Term}
use Rattle.format.proofs.ResultLaws.{never_gives, same_value, passed, and_gives}
use Rattle.tables.specs.Tables.{Rule, Table, UniqueRules, UniqueDefinitions}
use Rattle.tables.specs.Lookup.{find_body}
use Rattle.tables.specs.Places.{body_place}
use Rattle.tables.specs.Repeats.{rules_size, refuse_at, whole_table}
use Rattle.tables.specs.ReadTables.{read_fields, read_table}
use Rattle.tables.specs.TableBytes.{table_bytes}
use Rattle.tables.specs.Standing.{DefinitionStands, InRow, RulesStand}
use Rattle.tables.specs.Within.{TableWithin}
use Rattle.tables.specs.Facts.{six_of, seven_of, eight_of, nine_of, TableFacts}
use Rattle.tables.proofs.RowLaws.{row_le}
use Rattle.tables.proofs.TableLaws.{fields_read, fields_stand}
use Rattle.tables.proofs.PlaceLaws.{stands_there}
use Rattle.tables.proofs.WholeLaws.{no_clash}
use Rattle.tables.proofs.Clashes.{six_pairs, pairs_six, seven_pairs, pairs_seven, eight_pairs, pairs_eight, nine_pairs, pairs_nine}
use Rattle.tables.proofs.Unique.{unique_rules, unique_definitions}
use Rattle.tables.proofs.EncodedTable.{table_bytes_lem, every_rule, every_definition}
use Rattle.tables.proofs.DecodedTable.{table_lies}
use Rattle.tables.proofs.CompleteTable.{table_reads}
use Rattle.tables.proofs.ByteLists as lists

-- a refusal of the whole table that did not come
stays : (c : Cause) (o : Option ℕ) (x : Result Table) (T : Table) → refuse_at c o x ≡ gives T → (o ≡ none) × (x ≡ gives T)
unfolding refuse_at
stays c none x T e = (refl, e)
stays c (some p) x T e = never_gives e

-- what a table that reads says
pub table_facts : (s : List ℕ) (T : Table) → read_table s ≡ gives T → TableFacts s T
unfolding read_table whole_table
table_facts s T e =
    let a = passed (ltb most_bytes (length s)) InputTooLong 0 _ e in
    let b = and_gives _ a.1 in
    let c6 = stays _ _ _ T b.2 in
    let c7 = stays _ _ _ T c6.1 in
    let c8 = stays _ _ _ T c7.1 in
    let c9 = stays _ _ _ T c8.1 in
    subst (TableFacts s) (same_value c9.1) (facts b.0 (ltb-false _ _ a.0) b.1 c6.0 c7.0 c8.0 c9.0)
  where
    facts : (U : Table) → length s ≤ most_bytes → read_fields (length s + 1) s 0 0 0 0 ≡ gives U → six_of U ≡ none → seven_of U ≡ none → eight_of U ≡ none → nine_of U ≡ none → TableFacts s U
    facts U l r n6 n7 n8 n9 =
        let f = fields_read (length s + 1) s 0 0 0 0 (omega arith) U r in
        let st = fields_stand (length s + 1) s U r in
        record {
          stands = st;
          first_within = row_le (DefinitionStands s) _ U.definitions (rules_size U.rules) (length s) st.definitions_stand;
          size = l;
          rule_count = omega (arith, f.rule_room (omega arith));
          definition_count = omega (arith, f.definition_room (omega arith));
          term_count = omega (arith, f.term_room (omega arith));
          none_6 = n6;
          none_7 = n7;
          none_8 = n8;
          none_9 = n9;
        }

few_in_row : (s : List ℕ) (r : Rule) (rs : List Rule) (from to : ℕ) → RulesStand s from rs to → Memᴰ r rs → length r.premises ≤ 8
unfolding InRow
few_in_row s r [] from to st m = absurd (Memᴰ.not-nil m)
few_in_row s r (x ∷ rs) from to st m = go (few_in_row s r rs _ to st.1) (Memᴰ.cases_cons m)
  where
    go : (Memᴰ r rs → length r.premises ≤ 8) → (r ≡ x) ⊎ Memᴰ r rs → length r.premises ≤ 8
    go ih (inl e) = rw e st.0.few
    go ih (inr k) = ih k

module _ (s : List ℕ) (T : Table) (reads : read_table s ≡ gives T) where
  -- no two rules of one name and goal, and no tactic with two bodies
  pub reads_unique_rules : UniqueRules T
  reads_unique_rules = unique_rules T (six_pairs T (table_facts s T reads).none_6)

  pub reads_unique_definitions : UniqueDefinitions T
  reads_unique_definitions = unique_definitions T (eight_pairs T (table_facts s T reads).none_8)

  -- every rule has at most eight premises
  pub reads_few_premises : (r : Rule) → Memᴰ r T.rules → length r.premises ≤ 8
  reads_few_premises r m = few_in_row s r T.rules 0 (rules_size T.rules) (table_facts s T reads).stands.rules_stand m

  -- the body of a tactic stands at its place
  pub reads_bodies : (n : TacticNo) (t : Term) → find_body T n ≡ some t → Stands s (body_place T n) t
  unfolding find_body body_place
  reads_bodies n t e = stands_there s n t T.definitions (rules_size T.rules) (length s) (table_facts s T reads).stands.definitions_stand e

module _ (s : List ℕ) (T : Table) (bytes : Bytes s) where
  reads-within : read_table s ≡ gives T → (s ≡ table_bytes T) × TableWithin T
  reads-within e =
      let f = table_facts s T e in
      let q = table_bytes_lem s bytes (rules_size T.rules) T f.stands in (
        q,
        record {
          bytes = omega (arith, ap length q, f.size);
          rule_count = f.rule_count;
          definition_count = f.definition_count;
          term_count = f.term_count;
          rules_within = every_rule s bytes (rules_size T.rules) T f.stands;
          definitions_within = every_definition s bytes (rules_size T.rules) T f.stands;
          no_6 = six_pairs T f.none_6;
          no_7 = seven_pairs T f.none_7;
          no_8 = eight_pairs T f.none_8;
          no_9 = nine_pairs T f.none_9;
        },
      )

  within-reads : (s ≡ table_bytes T) × TableWithin T → read_table s ≡ gives T
  unfolding read_table and_then
  within-reads h =
      let w = h.1 in
      let l : length s ≤ most_bytes = omega (arith, ap length h.0, w.bytes) in
      let st = table_lies s T l w.rules_within w.definitions_within h.0 in
      rw (le-ltb _ _ l, table_reads s bytes st.0 T st.1 w.rule_count w.definition_count w.term_count)
      (no_clash T (pairs_six T w.no_6) (pairs_seven T w.no_7) (pairs_eight T w.no_8) (pairs_nine T w.no_9))

pub reads_table : (s : List ℕ) (T : Table) → Bytes s → (read_table s ≡ gives T) ↔ ((s ≡ table_bytes T) × TableWithin T)
reads_table s T bytes = (reads-within s T bytes, within-reads s T bytes)

-- encoding, then reading, gives the table back
pub read_encoded : (T : Table) → TableWithin T → read_table (table_bytes T) ≡ gives T
read_encoded T w = within-reads (table_bytes T) T (lists.table_bytes_lem T w) (refl, w)
