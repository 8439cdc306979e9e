-- Where tables are refused: fields at a place from theirs to the end, with 2 to 5; 6, 7, 8, 9 at a header of the file. So a table is refused within its file, with a number from 1 to 9.
-- Assumes nothing.
use mathlib.Core.Path.{◌≡◌, refl, sym, subst, ◌∙◌}
use mathlib.Core.Bool.{Bool, true, false, cond}
use mathlib.Core.Option.{Option, none, some}
use mathlib.Core.List.{List, [], ◌∷◌, ◌++◌}
use Prim.Native.Nat.{ℕ, zero, suc, ◌+◌, ◌≤◌, ◌<◌}
use native.Mathlib.Omega.{arith}
use lib.Dec.{eqb, ltb}
use lib.ListN.{length}
use borrow.Author.Tests.{ltb-false}
use Rattle.format.specs.Limits.{most_bytes}
use Rattle.format.specs.declared.refusals.Cause.{Cause}
use Rattle.format.specs.declared.refusals.Cause.TheVariants.{InputTooLong, FieldTorn, LengthWrong, RuleRepeated, PremiseCountDiffers, TacticRedefined, LabelRepeated}
use Rattle.format.specs.Refusals.{number}
use Rattle.format.specs.Results.{Result, gives, refused, and_then}
use Rattle.format.specs.Tags.{definition_kind, tactic_kind}
use Rattle.format.specs.Next.{full_table, lowest}
use Rattle.format.specs.Headers.{Header, header_at}
use Rattle.format.specs.ReadTerms.{ParsedTerm}
use Rattle.format.proofs.HeaderLaws.{is_field}
use Rattle.format.proofs.RefusedPlace.{RefusedWithin, further, steps, header_place, term_place_lem}
use Rattle.tables.specs.declared.repeats.Repeat.{Repeat}
use Rattle.tables.specs.declared.repeats.Repeat.TheVariants as K
use Rattle.tables.specs.Tables.{Table}
use Rattle.tables.specs.Repeats.{clashes_any, first_clash, rules_size, refuse_at, whole_table}
use Rattle.tables.specs.ReadTables.{Field, rule_field, definition_field, definition_of, field_of, read_field, with_rule, with_definition, fields_of, read_fields, read_table}
use Rattle.tables.specs.Standing.{DefinitionStands, InRow, TableStands}
use Rattle.tables.specs.Search.{step_at, Room, clash_at, Headers, places}
use Rattle.tables.specs.Facts.{TableRefusal}
use Rattle.tables.proofs.FieldLaws.{FieldLaw, field_law, behind_value}
use Rattle.tables.proofs.RowLaws as row
use Rattle.tables.proofs.TableLaws.{fields_stand}
use Rattle.tables.proofs.SearchLaws.{step_positive}
use Rattle.tables.proofs.RepeatLaws.{by_goal, by_count, rules_run, tactics_run, labels_run, six, seven, eight, nine}

-- a refusal within the file
at_own : (A : Type 0) (at low high : ℕ) (c : Cause) → low ≤ at → at ≤ high → 2 ≤ number c → number c ≤ 5 → RefusedWithin {A = A} low high (refused c at)
unfolding RefusedWithin
at_own A at low high c l h m n = record { above = l; below = h; least = m; most = n }

module _ {A : Type 0} where
  no_refusal : (low high : ℕ) (a : A) → RefusedWithin low high (gives a)
  unfolding RefusedWithin
  no_refusal low high a = tt

  either : (low high : ℕ) (b : Bool) (x y : Result A) → RefusedWithin low high x → RefusedWithin low high y → RefusedWithin low high (cond b x y)
  either low high true x y p q = p
  either low high false x y p q = q

module _ (s : List ℕ) where
  definition_place : (at end to : ℕ) (t : ParsedTerm) → at ≤ to → RefusedWithin at to (definition_of s at end t)
  unfolding definition_of number
  definition_place at end to t l = either at to (eqb t.next end) _ _ (no_refusal at to _) (at_own Field at at to LengthWrong (omega arith) l (omega arith) (omega arith))

  after-header : (at r d n : ℕ) → at ≤ length s → (h : Header) → header_at s at (length s) (lowest d) definition_kind (full_table s at r d) ≡ gives h → RefusedWithin at (length s) (field_of s at n h)
  unfolding field_of
  after-header at r d n l h e =
      let f = is_field s at (length s) (lowest d) definition_kind (full_table s at r d) h.tag h.len e in
      let v = behind_value s at r d n h.tag h.len f in
      let end = at + 3 + h.len in
      either at (length s) (eqb h.tag 1) _ _ (no_refusal at (length s) _)
      (steps at (length s) _ _ (further (at + 5) end (length s) at (omega arith) f.contents _ (term_place_lem (h.len + 1) s tactic_kind (omega arith) (at + 5) end n (omega arith) f.contents))
      (λ t q. definition_place at end (length s) t l))

  field_place : (at r d n : ℕ) → at ≤ length s → RefusedWithin at (length s) (read_field s at r d n)
  unfolding read_field
  field_place at r d n l = steps at (length s) _ _ (further at at (length s) at (omega arith) l _ (header_place s at (length s) (lowest d) definition_kind (full_table s at r d))) (after-header at r d n l)

  rest_place : (rec : ℕ → ℕ → ℕ → ℕ → Result Table) → ((at r d n : ℕ) → at ≤ length s → RefusedWithin 0 (length s) (rec at r d n))
      → (at r d n : ℕ) (x : Field) → FieldLaw s at r d n x → RefusedWithin 0 (length s) (fields_of rec r d n x)
  unfolding fields_of with_rule with_definition FieldLaw
  rest_place rec ih at r d n (rule_field x next) l = steps 0 (length s) _ _ (ih next (r + 1) d n l.within) (λ T e. no_refusal 0 (length s) _)
  rest_place rec ih at r d n (definition_field x next m) l = steps 0 (length s) _ _ (ih next r (d + 1) m l.within) (λ T e. no_refusal 0 (length s) _)

  pub fields_place : (b at r d n : ℕ) → at ≤ length s → RefusedWithin 0 (length s) (read_fields b s at r d n)
  unfolding read_fields number
  fields_place zero at r d n l = at_own Table at 0 (length s) FieldTorn (omega arith) l (omega arith) (omega arith)
  fields_place (suc b) at r d n l =
      either 0 (length s) (ltb at (length s)) _ _
      (steps 0 (length s) _ _ (further at (length s) (length s) 0 (omega arith) (omega arith) _ (field_place at r d n l)) (λ x e. rest_place (read_fields b s) (fields_place b) at r d n x (field_law s at r d n x e)))
      (no_refusal 0 (length s) _)

  -- a clash is at a header before the end of the row
  clash_place : (kind : Repeat) (clash : ℕ → ℕ → Bool) (ps seen : List ℕ) (from to p : ℕ) → Headers kind s from ps to → first_clash clash seen (places ps) ≡ some p → p < to
  unfolding InRow first_clash places
  clash_place kind clash [] seen from to p h e = absurd (let z : ◌≡◌ {A = ℕ} 0 1 = cc in omega arith)
  clash_place kind clash (q ∷ ps) seen from to p h e =
      go (clashes_any clash q seen) e (λ k. clash_place kind clash ps (seen ++ (q ∷ [])) (from + step_at kind s q) to p h.1 k)
    where
      go : (b : Bool) → cond b (some q) (first_clash clash (seen ++ (q ∷ [])) (places ps)) ≡ some p → (first_clash clash (seen ++ (q ∷ [])) (places ps) ≡ some p → p < to) → p < to
      go true k ih =
          let z : q ≡ p = cc in
          omega (arith, h.0.0, step_positive kind s q, row.row_le (λ at p. (p ≡ at) × Room s at) (step_at kind s) ps (from + step_at kind s q) to h.1)
      go false k ih = ih k

-- the same of whatever reading comes to
unfoldable TableRefused : List ℕ → Result Table → Type 0
TableRefused s (refused c p) = TableRefusal s c p
TableRefused s (gives T) = Unit {0}

module _ (s : List ℕ) (fits : length s ≤ most_bytes) where
  -- 6, 7, 8, 9 at a place of the file
  at_clash : (c : Cause) (o : Option ℕ) (x : Result Table) → ((p : ℕ) → o ≡ some p → p ≤ length s) → 1 ≤ number c → number c ≤ 9 → TableRefused s x → TableRefused s (refuse_at c o x)
  unfolding TableRefused refuse_at
  at_clash c none x h l m t = t
  at_clash c (some p) x h l m t = record { within = h p refl; below = omega (arith, h p refl); least = l; most = m }

  whole_place : (T : Table) → TableStands s (rules_size T.rules) T → TableRefused s (whole_table T)
  unfolding whole_table number TableRefused
  whole_place T st =
      let first = rules_size T.rules in
      let e = row.row_le (DefinitionStands s) _ T.definitions first (length s) st.definitions_stand in
      let a = rules_run s K.Rule by_goal T.rules 0 first st.rules_stand in
      let b = rules_run s K.PremiseCount by_count T.rules 0 first st.rules_stand in
      let c = tactics_run s T.definitions first (length s) st.definitions_stand in
      let d = labels_run s T.definitions first (length s) st.definitions_stand in
      at_clash RuleRepeated _ _ (λ p q. omega (arith, clash_place s K.Rule (clash_at K.Rule s) a.at [] 0 first p a.headers (sym (six s T.rules 0 first st.rules_stand) ∙ q))) (omega arith) (omega arith)
      (at_clash PremiseCountDiffers _ _ (λ p q. omega (arith, clash_place s K.PremiseCount (clash_at K.PremiseCount s) b.at [] 0 first p b.headers (sym (seven s T.rules 0 first st.rules_stand) ∙ q))) (omega arith) (omega arith)
      (at_clash TacticRedefined _ _ (λ p q. omega (arith, clash_place s K.Tactic (clash_at K.Tactic s) c.at [] first (length s) p c.headers (sym (eight s T.definitions first (length s) st.definitions_stand) ∙ q))) (omega arith) (omega arith)
      (at_clash LabelRepeated _ _ (λ p q. omega (arith, clash_place s K.Label (clash_at K.Label s) d.at [] first (length s) p d.headers (sym (nine s T.definitions first (length s) st.definitions_stand) ∙ q))) (omega arith) (omega arith)
      tt)))

  -- the fields, then the whole table
  both_place : (x : Result Table) → RefusedWithin 0 (length s) x → ((T : Table) → x ≡ gives T → TableRefused s (whole_table T)) → TableRefused s (and_then x whole_table)
  unfolding and_then RefusedWithin TableRefused
  both_place (gives T) r h = h T refl
  both_place (refused c p) r h = record { within = r.below; below = omega (arith, r.below); least = omega (arith, r.least); most = omega (arith, r.most) }

too_long : (s : List ℕ) → TableRefused s (refused InputTooLong 0)
unfolding TableRefused number
too_long s = record { within = omega arith; below = omega arith; least = omega arith; most = omega arith }

place_of : (s : List ℕ) → TableRefused s (read_table s)
unfolding read_table
place_of s = go (ltb most_bytes (length s)) refl
  where
    go : (b : Bool) → ltb most_bytes (length s) ≡ b → TableRefused s (cond b (refused InputTooLong 0) (and_then (read_fields (length s + 1) s 0 0 0 0) whole_table))
    go true e = too_long s
    go false e = both_place s (ltb-false _ _ e) _ (fields_place s (length s + 1) 0 0 0 0 (omega arith)) (λ T q. whole_place s (ltb-false _ _ e) T (fields_stand (length s + 1) s T q))

-- A TABLE IS REFUSED within its file, with a number from 1 to 9
pub table_place : (s : List ℕ) (c : Cause) (p : ℕ) → read_table s ≡ refused c p → TableRefusal s c p
unfolding TableRefused
table_place s c p e = subst (TableRefused s) e (place_of s)
