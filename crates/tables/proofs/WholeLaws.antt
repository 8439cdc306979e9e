-- Laws of reading a whole table, by what the code tells of its parts: one for each return of `read_table`.
-- Assumes nothing.
use Rattle.std.specs.Prelude.{Some, None, Ok, Err}
use Rattle.std.specs.Prelude as std
use mathlib.Core.Path.{◌≡◌, refl, sym, subst, ap, ◌∙◌}
use mathlib.Core.Option.{Option, none, some}
use mathlib.Core.List.{List, []}
use Prim.Native.Nat.{ℕ, ◌+◌, ◌≤◌, ◌<◌}
use native.Mathlib.Omega.{arith}
use lib.ListN.{length}
use borrow.Author.Tests.{lt-ltb, le-ltb}
use Rattle.format.specs.Limits.{most_bytes}
use Rattle.format.specs.declared.refusals.Refusal.{Refusal}
use Rattle.format.specs.declared.refusals.Cause.TheVariants.{InputTooLong, RuleRepeated, PremiseCountDiffers, TacticRedefined, LabelRepeated}
use Rattle.format.specs.Results.{Result, gives, refused, and_then, told, refused_at}
use Rattle.format.proofs.ResultLaws.{told_refused, same_answered}
use Rattle.tables.specs.declared.repeats.Repeat.{Repeat}
use Rattle.tables.specs.declared.repeats.Repeat.TheVariants as K
use Rattle.tables.specs.declared.fields.TableParts.{TableParts}
use Rattle.tables.specs.Tables.{Table}
use Rattle.tables.specs.Repeats.{rules_size, placed_rules, placed_tactics, labels_of, first_clash, repeats_tactic, repeats_label, refuse_at, whole_table}
use Rattle.tables.specs.ReadTables.{read_fields, read_table}
use Rattle.tables.specs.Shapes.{parts_of, table_shape}
use Rattle.tables.specs.Standing.{RuleStands, TableStands}
use Rattle.tables.specs.Search.{clash_at, Headers, places, clash_told}
use Rattle.tables.specs.Facts.{six_of, seven_of, eight_of, nine_of}
use Rattle.tables.proofs.RowLaws.{rules_end}
use Rattle.tables.proofs.TableLaws.{fields_stand}
use Rattle.tables.proofs.RunLaws.{Run}
use Rattle.tables.proofs.RepeatLaws.{OfRules, by_goal, by_count, rules_run, tactics_run, labels_run, six, seven, eight, nine}

-- what a search over headers that the code made tells of a table that stands in the bytes
abbrev Finds : (kind : Repeat) → List ℕ → (from to : ℕ) → std.Option ℕ → Type 0
Finds kind s from to r = (ps : List ℕ) → Headers kind s from ps to → first_clash (clash_at kind s) [] (places ps) ≡ clash_told r

module _ (s : List ℕ) (first : ℕ) (T : Table) (st : TableStands s first T) where
  -- the headers to search
  abbrev rules : (kind : Repeat) → OfRules s kind → Run (RuleStands s) (λ p. ⊥) kind s 0 (placed_rules 0 T.rules) first
  rules kind of = rules_run s kind of T.rules 0 first st.rules_stand

  -- the definitions begin where the rules end
  begins : first ≡ rules_size T.rules
  begins = omega (arith, rules_end s T.rules 0 first st.rules_stand)

  pub told_6 : (r : std.Option ℕ) → Finds K.Rule s 0 first r → six_of T ≡ clash_told r
  told_6 r f = let h = rules K.Rule by_goal in six s T.rules 0 first st.rules_stand ∙ f h.at h.headers

  pub told_7 : (r : std.Option ℕ) → Finds K.PremiseCount s 0 first r → seven_of T ≡ clash_told r
  told_7 r f = let h = rules K.PremiseCount by_count in seven s T.rules 0 first st.rules_stand ∙ f h.at h.headers

  pub told_8 : (r : std.Option ℕ) → Finds K.Tactic s first (length s) r → eight_of T ≡ clash_told r
  told_8 r f =
      let h = tactics_run s T.definitions first (length s) st.definitions_stand in
      subst (λ (k : ℕ). first_clash repeats_tactic [] (placed_tactics k T.definitions) ≡ clash_told r) begins
      (eight s T.definitions first (length s) st.definitions_stand ∙ f h.at h.headers)

  pub told_9 : (r : std.Option ℕ) → Finds K.Label s first (length s) r → nine_of T ≡ clash_told r
  told_9 r f =
      let h = labels_run s T.definitions first (length s) st.definitions_stand in
      subst (λ (k : ℕ). first_clash repeats_label [] (labels_of k T.definitions) ≡ clash_told r) begins
      (nine s T.definitions first (length s) st.definitions_stand ∙ f h.at h.headers)

pub found_none : {o : Option ℕ} {r : std.Option ℕ} → o ≡ clash_told r → r ≡ None → o ≡ none
unfolding clash_told
found_none e q = rw q at e

pub found_some : {o : Option ℕ} {r : std.Option ℕ} {p : ℕ} → o ≡ clash_told r → r ≡ Some p → o ≡ some p
unfolding clash_told
found_some e q = rw q at e

-- the whole table, by the first clash of each kind
module _ (T : Table) where
  pub refused_6 : (p : ℕ) → six_of T ≡ some p → table_shape (whole_table T) ≡ refused_at RuleRepeated p
  unfolding whole_table refuse_at table_shape told
  refused_6 p a = rw a

  module _ (none_6 : six_of T ≡ none) where
    pub refused_7 : (p : ℕ) → seven_of T ≡ some p → table_shape (whole_table T) ≡ refused_at PremiseCountDiffers p
    unfolding whole_table refuse_at table_shape told
    refused_7 p a = rw (none_6, a)

    module _ (none_7 : seven_of T ≡ none) where
      pub refused_8 : (p : ℕ) → eight_of T ≡ some p → table_shape (whole_table T) ≡ refused_at TacticRedefined p
      unfolding whole_table refuse_at table_shape told
      refused_8 p a = rw (none_6, none_7, a)

      module _ (none_8 : eight_of T ≡ none) where
        pub refused_9 : (p : ℕ) → nine_of T ≡ some p → table_shape (whole_table T) ≡ refused_at LabelRepeated p
        unfolding whole_table refuse_at table_shape told
        refused_9 p a = rw (none_6, none_7, none_8, a)

        pub no_clash : nine_of T ≡ none → whole_table T ≡ gives T
        unfolding whole_table refuse_at
        no_clash a = rw (none_6, none_7, none_8, a)

abbrev all_fields : List ℕ → Result Table
all_fields s = read_fields (length s + 1) s 0 0 0 0

-- the table whose fields the code read
pub record FieldsTold (s : List ℕ) (p : TableParts) : Type 0 where
  pub table : Table
  pub read : all_fields s ≡ gives table
  pub stands : TableStands s p.first table
  pub shape : table_shape (gives table) ≡ Ok p

-- the table that the code tells as read
pub told_table_lem : (x : Result Table) (p : TableParts) → table_shape x ≡ Ok p → (T : Table) × (x ≡ gives T) × (parts_of T ≡ p)
unfolding table_shape told
told_table_lem (gives T) p e = (T, refl, same_answered e)
told_table_lem (refused c q) p e = absurd (let z : ◌≡◌ {A = ℕ} 0 1 = cc in omega arith)

pub fields_told : (s : List ℕ) (p : TableParts) → table_shape (all_fields s) ≡ Ok p → FieldsTold s p
fields_told s p e =
    let t = told_table_lem (all_fields s) p e in
    record {
      table = t.0;
      read = t.1;
      stands = subst (λ (q : TableParts). TableStands s q.first t.0) t.2 (fields_stand (length s + 1) s t.0 t.1);
      shape = ap table_shape (sym t.1) ∙ e;
    }

module _ (s : List ℕ) where
  pub too_long : most_bytes < length s → table_shape (read_table s) ≡ refused_at InputTooLong 0
  unfolding read_table table_shape told
  too_long h = rw (lt-ltb _ _ h)

  module _ (fits : length s ≤ most_bytes) where
    pub fields_refused : (f : Refusal) → table_shape (all_fields s) ≡ Err f → table_shape (read_table s) ≡ Err f
    unfolding read_table table_shape
    fields_refused f e = rw (le-ltb _ _ fits) (told_refused refused_at _ refused_at _ (all_fields s) whole_table f.cause f.place e (λ c q h. h) (λ T h. let z : ◌≡◌ {A = ℕ} 0 1 = cc in omega arith))

    pub fields_read : (T : Table) → all_fields s ≡ gives T → read_table s ≡ whole_table T
    unfolding read_table and_then
    fields_read T e = rw (le-ltb _ _ fits, e)
