-- Reading a table with its indexes, by what the code tells of its parts.
-- Assumes nothing.
use Rattle.std.specs.Prelude.{Option, Some, None, Ok, Err}
use Rattle.std.specs.Prelude as std
use mathlib.Core.Path.{◌≡◌, refl, sym, subst, ap, ◌∙◌}
use mathlib.Core.Option.{none}
use mathlib.Core.List.{List}
use Prim.Native.Nat.{ℕ, ◌+◌, ◌*◌, ◌≤◌}
use native.Mathlib.Omega.{arith}
use lib.ListN.{length}
use Rattle.words.specs.Kept.{Kept}
use Rattle.words.proofs.KeptLaws.{kept_same, kept_both}
use Rattle.format.specs.declared.refusals.Cause.{Cause}
use Rattle.format.specs.declared.refusals.Cause.TheVariants.{RuleRepeated, PremiseCountDiffers, TacticRedefined, LabelRepeated}
use Rattle.format.specs.declared.refusals.Refusal.{Refusal}
use Rattle.format.specs.Limits.{most_bytes, most_rules, most_definitions}
use Rattle.format.specs.Results.{Result, gives, refused, told}
use Rattle.reading.specs.Waiting.{reading_room}
use Rattle.tables.specs.declared.repeats.Repeat.TheVariants as K
use Rattle.tables.specs.declared.fields.TableParts.{TableParts}
use Rattle.tables.specs.Tables.{Table}
use Rattle.tables.specs.Repeats.{rules_size, whole_table}
use Rattle.tables.specs.ReadTables.{read_fields, read_table}
use Rattle.tables.specs.Shapes.{table_shape}
use Rattle.tables.specs.Standing.{TableStands}
use Rattle.tables.specs.Within.{Every}
use Rattle.tables.specs.Facts.{six_of, seven_of, eight_of, nine_of}
use Rattle.tables.specs.Search.{Headers, clash_told}
use Rattle.tables.proofs.TableLaws as fields
use Rattle.tables.proofs.RowLaws.{rules_end}
use Rattle.tables.proofs.WholeLaws.{told_6, told_7, told_8, told_9, found_none, found_some, refused_6, refused_7, refused_8, refused_9, no_clash, FieldsTold, fields_read}
use Rattle.tables.proofs.ToldTable.{ToldRead, told-reads}
use Rattle.index.specs.Layout.{most_nodes, heads_room, rules_room}
use Rattle.index.specs.Keys.{Tagged, ByKey}
use Rattle.index.specs.Build.{Builds, RulesIndexed, DefinitionsIndexed}
use Rattle.index.proofs.IndexKept.{indexed_before}
use Rattle.seen.specs.Layout.{seen_room}
use Rattle.seen.specs.Seen.{Markable, Repeats}
use Rattle.whole_table.specs.Layout.{reading_scratch}
use Rattle.whole_table.specs.Reads.{refusal_at, ReadsTable}
use Rattle.whole_table.proofs.RoomLaws.{Few, few_rules, few_definitions, rules_markable, labels_markable}

-- what a search says that did not refuse, and one that did
found_nothing : (c : Cause) (x : Option ℕ) → refusal_at c x ≡ Ok tt → x ≡ None
found_nothing c None e = refl
found_nothing c (Some p) e = absurd (let z : ◌≡◌ {A = ℕ} 0 1 = cc in omega arith)

found_place : (c : Cause) (x : Option ℕ) (r : Refusal) → refusal_at c x ≡ Err r → (p : ℕ) × (x ≡ Some p) × (r ≡ record { cause = c; place = p })
found_place c None r e = absurd (let z : ◌≡◌ {A = ℕ} 0 1 = cc in omega arith)
found_place c (Some p) r e = (p, refl, sym (same e))
  where
    same : {a b : Refusal} → ◌≡◌ {A = std.Result (Unit {0}) Refusal} (Err a) (Err b) → a ≡ b
    same q = cc

-- the headers of the searches for 6 and 8 in a table whose fields were read
module _ (s : List ℕ) (first : ℕ) (T : Table) (st : TableStands s first T) (read : read_fields (length s + 1) s 0 0 0 0 ≡ gives T) where
  pub few_6 : Few s first T st K.Rule 0 first most_rules
  few_6 = let f = few_rules s first T st in (f.0, f.1, f.2, omega (arith, f.3, (fields.fields_read (length s + 1) s 0 0 0 0 (omega arith) T read).rule_room (omega arith)))

  pub few_8 : Few s first T st K.Tactic first (length s) most_definitions
  few_8 = let f = few_definitions s first T st in (f.0, f.1, f.2, omega (arith, f.3, (fields.fields_read (length s + 1) s 0 0 0 0 (omega arith) T read).definition_room (omega arith)))

-- a refusal of the table
never_both : (x : Result Table) (r : Refusal) (T : Table) → table_shape x ≡ Err r → x ≡ gives T → ⊥
unfolding table_shape told
never_both (gives U) r T e f = let z : ◌≡◌ {A = ℕ} 0 1 = cc in omega arith
never_both (refused c q) r T e f = let z : ◌≡◌ {A = ℕ} 0 1 = cc in omega arith

pub reads_refused : {s w₀ w : List ℕ} {other base : ℕ} → Kept w₀ w other (base + rules_room) → (r : Refusal) → table_shape (read_table s) ≡ Err r → ReadsTable s w₀ w other base (Err r)
reads_refused {s} k r e = record {
  answer = sym e;
  kept = k;
  rules_indexed = λ T f. absurd (never_both (read_table s) r T e f);
  definitions_indexed = λ T f. absurd (never_both (read_table s) r T e f);
}

-- the file is not too long, and the work space is this now
pub record Begun (s w₀ w : List ℕ) (other base : ℕ) : Type 0 where
  pub fits : length s ≤ most_bytes
  pub room : other + reading_scratch ≤ base
  pub space : base + rules_room ≤ length w
  pub kept : Kept w₀ w other (base + rules_room)

-- after the fields
pub begun : {s w₀ w : List ℕ} {other base : ℕ} → length s ≤ most_bytes → (other + reading_scratch ≤ base) × (base + rules_room ≤ length w₀) → length w ≡ length w₀ → Kept w₀ w other (other + reading_room) → Begun s w₀ w other base
begun {s} {w₀} {w} {other} {base} fits lent size k = record {
  fits = fits;
  room = lent.0;
  space = omega (arith, lent.1, size);
  kept = kept_both w₀ w₀ w other other other (other + reading_room) other (base + rules_room) (kept_same w₀ other other) k (omega arith) (omega arith) (omega arith) (omega (arith, lent.0));
}

-- after a search
begun_next : {s w₀ w w' : List ℕ} {other base : ℕ} → Begun s w₀ w other base → length w' ≡ length w → (low high : ℕ) → Kept w w' low high → other ≤ low → high ≤ base + rules_room → Begun s w₀ w' other base
begun_next {s} {w₀} {w} {w'} {other} {base} b size low high k l u = record {
  fits = b.fits;
  room = b.room;
  space = omega (arith, b.space, size);
  kept = kept_both w₀ w w' _ _ _ _ other (base + rules_room) b.kept k (omega arith) (omega arith) (omega arith) (omega arith);
}

-- an index that a later search leaves alone
module _ {s w w' : List ℕ} {base : ℕ} (first : ℕ) (size : length w' ≡ length w) (low high : ℕ) (k : Kept w w' low high) (l : high ≤ base) where
  rules_next : RulesIndexed s first w base → RulesIndexed s first w' base
  rules_next ix = (ix.0, ix.1, indexed_before K.Rule s ix.0 w w' base low high size k l ix.2)

  definitions_next : DefinitionsIndexed s first w base → DefinitionsIndexed s first w' base
  definitions_next ix = (ix.0, ix.1, indexed_before K.Tactic s ix.0 w w' base low high size k l ix.2)

module _ {s : List ℕ} {p : TableParts} (f : FieldsTold s p) where
  rules_few : Few s p.first f.table f.stands K.Rule 0 p.first most_rules
  rules_few = few_6 s p.first f.table f.stands f.read

  definitions_few : Few s p.first f.table f.stands K.Tactic p.first (length s) most_definitions
  definitions_few = few_8 s p.first f.table f.stands f.read

  -- what each search asks for
  module _ {w₀ w : List ℕ} {other base : ℕ} (b : Begun s w₀ w other base) where
    pub asked_6 : ((ps : List ℕ) × Headers K.Rule s 0 ps p.first × Every (Tagged K.Rule s) ps × (length ps ≤ most_nodes) × (base + heads_room + length ps * 5 ≤ length w)) × ByKey K.Rule × (length s ≤ most_bytes)
    asked_6 = let h = rules_few in ((h.0, h.1, h.2, h.3, omega (arith, h.3, b.space)), λ e. cc, b.fits)

    pub asked_7 : ((ps : List ℕ) × Headers K.PremiseCount s 0 ps p.first × Every (Markable K.PremiseCount s) ps) × (other + seen_room ≤ length w)
    asked_7 = (rules_markable s p.first f.table f.stands, omega (arith, b.space, b.room))

    pub asked_8 : ((ps : List ℕ) × Headers K.Tactic s p.first ps (length s) × Every (Tagged K.Tactic s) ps × (length ps ≤ most_nodes) × (other + seen_room + heads_room + length ps * 5 ≤ length w)) × ByKey K.Tactic × (length s ≤ most_bytes)
    asked_8 = let h = definitions_few in ((h.0, h.1, h.2, omega (arith, h.3), omega (arith, h.3, b.space, b.room)), λ e. cc, b.fits)

    pub asked_9 : ((ps : List ℕ) × Headers K.Label s p.first ps (length s) × Every (Markable K.Label s) ps) × (other + seen_room ≤ length w)
    asked_9 = (labels_markable s p.first f.table f.stands, omega (arith, b.space, b.room))

  -- none of 6, then of 7, of 8 and of 9 holds, and the indexes stand
  pub record Unrepeated (w₀ w : List ℕ) (other base : ℕ) : Type 0 where
    pub begun : Begun s w₀ w other base
    pub none_6 : six_of f.table ≡ none
    pub rules : RulesIndexed s p.first w base

  pub record Uniform (w₀ w : List ℕ) (other base : ℕ) : Type 0 where
    pub unrepeated : Unrepeated w₀ w other base
    pub none_7 : seven_of f.table ≡ none

  pub record Defined (w₀ w : List ℕ) (other base : ℕ) : Type 0 where
    pub uniform : Uniform w₀ w other base
    pub none_8 : eight_of f.table ≡ none
    pub definitions : DefinitionsIndexed s p.first w (other + seen_room)

  -- a refusal of the table whose fields were read
  refused_now : {w₀ w : List ℕ} {other base : ℕ} → Begun s w₀ w other base → (r : Refusal) → table_shape (whole_table f.table) ≡ Err r → ReadsTable s w₀ w other base (Err r)
  refused_now b r e = reads_refused b.kept r (ap table_shape (fields_read s b.fits f.table f.read) ∙ e)

  -- a search, by what it tells of the place that it found
  module _ {w₀ w w' : List ℕ} {other base : ℕ} (x : Option ℕ) (size : length w' ≡ length w) where
    module _ (b : Begun s w₀ w other base) (found : (ps : List ℕ) → Headers K.Rule s 0 ps p.first → Builds K.Rule s w w' base ps x) where
      now_6 : Begun s w₀ w' other base
      now_6 = let h = rules_few in begun_next b size _ _ (found h.0 h.1).kept (omega (arith, b.room)) (omega (arith, h.3))

      told-6 : six_of f.table ≡ clash_told x
      told-6 = told_6 s p.first f.table f.stands x (λ ps h. (found ps h).first)

      pub after_6 : refusal_at RuleRepeated x ≡ Ok tt → Unrepeated w₀ w' other base
      after_6 e = let n = found_nothing RuleRepeated x e in let h = rules_few in record { begun = now_6; none_6 = found_none told-6 n; rules = (h.0, h.1, (found h.0 h.1).indexed n) }

      pub at_6 : (r : Refusal) → refusal_at RuleRepeated x ≡ Err r → ReadsTable s w₀ w' other base (Err r)
      at_6 r e = let q = found_place RuleRepeated x r e in refused_now now_6 r (refused_6 f.table q.0 (found_some told-6 q.1) ∙ ap Err (sym q.2))

    module _ (u : Unrepeated w₀ w other base) (found : Repeats K.PremiseCount s w w' other 0 p.first x) where
      now_7 : Begun s w₀ w' other base
      now_7 = begun_next u.begun size _ _ found.kept (omega arith) (omega (arith, u.begun.room))

      told-7 : seven_of f.table ≡ clash_told x
      told-7 = told_7 s p.first f.table f.stands x found.first

      pub after_7 : refusal_at PremiseCountDiffers x ≡ Ok tt → Uniform w₀ w' other base
      after_7 e = record {
        unrepeated = record { begun = now_7; none_6 = u.none_6; rules = rules_next p.first size _ _ found.kept (omega (arith, u.begun.room)) u.rules };
        none_7 = found_none told-7 (found_nothing PremiseCountDiffers x e);
      }

      pub at_7 : (r : Refusal) → refusal_at PremiseCountDiffers x ≡ Err r → ReadsTable s w₀ w' other base (Err r)
      at_7 r e = let q = found_place PremiseCountDiffers x r e in refused_now now_7 r (refused_7 f.table u.none_6 q.0 (found_some told-7 q.1) ∙ ap Err (sym q.2))

    module _ (v : Uniform w₀ w other base) (found : (ps : List ℕ) → Headers K.Tactic s p.first ps (length s) → Builds K.Tactic s w w' (other + seen_room) ps x) where
      now_8 : Begun s w₀ w' other base
      now_8 = let h = definitions_few in begun_next v.unrepeated.begun size _ _ (found h.0 h.1).kept (omega arith) (omega (arith, v.unrepeated.begun.room, h.3))

      told-8 : eight_of f.table ≡ clash_told x
      told-8 = told_8 s p.first f.table f.stands x (λ ps h. (found ps h).first)

      pub after_8 : refusal_at TacticRedefined x ≡ Ok tt → Defined w₀ w' other base
      after_8 e =
          let n = found_nothing TacticRedefined x e in
          let h = definitions_few in
          record {
            uniform = record {
              unrepeated = record {
                begun = now_8;
                none_6 = v.unrepeated.none_6;
                rules = rules_next p.first size _ _ (found h.0 h.1).kept (omega (arith, v.unrepeated.begun.room, h.3)) v.unrepeated.rules;
              };
              none_7 = v.none_7;
            };
            none_8 = found_none told-8 n;
            definitions = (h.0, h.1, (found h.0 h.1).indexed n);
          }

      pub at_8 : (r : Refusal) → refusal_at TacticRedefined x ≡ Err r → ReadsTable s w₀ w' other base (Err r)
      at_8 r e = let q = found_place TacticRedefined x r e in refused_now now_8 r (refused_8 f.table v.unrepeated.none_6 v.none_7 q.0 (found_some told-8 q.1) ∙ ap Err (sym q.2))

    module _ (d : Defined w₀ w other base) (found : Repeats K.Label s w w' other p.first (length s) x) where
      abbrev u : Unrepeated w₀ w other base
      u = d.uniform.unrepeated

      now_9 : Begun s w₀ w' other base
      now_9 = begun_next u.begun size _ _ found.kept (omega arith) (omega (arith, u.begun.room))

      told-9 : nine_of f.table ≡ clash_told x
      told-9 = told_9 s p.first f.table f.stands x found.first

      pub at_9 : (r : Refusal) → refusal_at LabelRepeated x ≡ Err r → ReadsTable s w₀ w' other base (Err r)
      at_9 r e = let q = found_place LabelRepeated x r e in refused_now now_9 r (refused_9 f.table u.none_6 d.uniform.none_7 d.none_8 q.0 (found_some told-9 q.1) ∙ ap Err (sym q.2))

      -- a table that reads
      pub after_9 : refusal_at LabelRepeated x ≡ Ok tt → ReadsTable s w₀ w' other base (Ok p)
      after_9 e = record {
        answer = sym f.shape ∙ sym (ap table_shape reads);
        kept = now_9.kept;
        rules_indexed = λ U h. same (λ X. RulesIndexed s (rules_size X.rules) w' base) (subst (λ (k : ℕ). RulesIndexed s k w' base) begins (rules_next p.first size _ _ found.kept (omega (arith, u.begun.room)) u.rules)) U h;
        definitions_indexed = λ U h. same (λ X. DefinitionsIndexed s (rules_size X.rules) w' (other + seen_room)) (subst (λ (k : ℕ). DefinitionsIndexed s k w' (other + seen_room)) begins (definitions_next p.first size _ _ found.kept (omega arith) d.definitions)) U h;
      }
        where
          reads : read_table s ≡ gives f.table
          reads = fields_read s u.begun.fits f.table f.read ∙ no_clash f.table u.none_6 d.uniform.none_7 d.none_8 (found_none told-9 (found_nothing LabelRepeated x e))

          begins : p.first ≡ rules_size f.table.rules
          begins = omega (arith, rules_end s f.table.rules 0 p.first f.stands.rules_stand)

          given : {T X : Table} → gives T ≡ gives X → T ≡ X
          given h = cc

          same : (P : Table → Type 0) → P f.table → (U : Table) → read_table s ≡ gives U → P U
          same P h U e = subst P (given (sym reads ∙ e)) h

-- what callers take from the answer: the table, and where its rules and definitions are indexed
pub record Told (s w' : List ℕ) (other base : ℕ) (p : TableParts) : Type 0 where
  pub read : ToldRead s p
  pub rules : RulesIndexed s p.first w' base
  pub definitions : DefinitionsIndexed s p.first w' (other + seen_room)

pub told_indexed : (s w w' : List ℕ) (other base : ℕ) (p : TableParts) (r : std.Result TableParts Refusal) → ReadsTable s w w' other base r → r ≡ Ok p → Told s w' other base p
told_indexed s w w' other base p r h e =
    let t = told-reads s p (sym h.answer ∙ e) in
    let begins : rules_size t.table.rules ≡ p.first = omega (arith, rules_end s t.table.rules 0 p.first t.stands.rules_stand) in
    record {
      read = t;
      rules = subst (λ (k : ℕ). RulesIndexed s k w' base) begins (h.rules_indexed t.table t.reads);
      definitions = subst (λ (k : ℕ). DefinitionsIndexed s k w' (other + seen_room)) begins (h.definitions_indexed t.table t.reads);
    }
