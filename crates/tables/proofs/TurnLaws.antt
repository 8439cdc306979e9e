-- The fields of a table from a place on, as the code tells them: by the header of the first, and where it is a definition by what its body comes to.
-- Assumes nothing.
use Rattle.std.specs.Prelude.{Ok, Err}
use Rattle.std.specs.Prelude as std
use mathlib.Core.Path.{◌≡◌, refl, sym, ap, ◌∙◌}
use mathlib.Core.Bool.{Bool, true, false, cond}
use mathlib.Core.List.{List}
use Prim.Native.Nat.{ℕ, suc, ◌+◌, ◌≤◌, ◌<◌}
use native.Mathlib.Omega.{arith}
use lib.Dec.{eqb}
use lib.ListN.{length}
use borrow.Author.Tests.{lt-ltb, le-ltb, eq-eqb, ne_eqb, eqb-true}
use Rattle.words.specs.Word.{word}
use Rattle.format.specs.declared.refusals.Refusal.{Refusal}
use Rattle.format.specs.TermRead.{TermRead, Refused, Read}
use Rattle.format.specs.declared.refusals.Cause.TheVariants.{LengthWrong}
use Rattle.format.specs.Results.{Result, gives, refused, and_then, told, refused_at}
use Rattle.format.specs.Values.{tactic_no}
use Rattle.format.specs.Tags.{definition_kind, tactic_kind}
use Rattle.format.specs.Next.{full_table, lowest}
use Rattle.format.specs.Headers.{Header, header, header_at}
use Rattle.format.specs.ReadTerms.{ParsedTerm, read_term}
use Rattle.format.specs.Shapes.{header_shape, term_shape}
use Rattle.format.proofs.HeaderLaws.{IsField, is_field, told-field}
use Rattle.format.proofs.ResultLaws.{same_refusal}
use Rattle.parts.specs.States.{end_of}
use Rattle.reading.specs.Waiting.{reads}
use Rattle.reading.proofs.ShapeLaws.{reads_any}
use Rattle.tables.specs.declared.fields.TableParts.{TableParts}
use Rattle.tables.specs.Tables.{Rule, Definition, Table}
use Rattle.tables.specs.Repeats.{rule_size, rules_size}
use Rattle.tables.specs.ReadTables.{Field, rule_field, definition_field, rule_of, definition_of, field_of, read_field, with_rule, with_definition, fields_of, read_fields}
use Rattle.tables.specs.Shapes.{table_shape}
use Rattle.tables.proofs.FieldLaws.{RuleRead, FieldLaw, field_law}
use Rattle.tables.proofs.FieldBound.{same_bound}

-- what the code tells of a table once so many rules and definitions are read and the rules so far end at a place
abbrev pub Told : Type 0
Told = std.Result TableParts Refusal

abbrev counted : (rules definitions first : ℕ) → Told
counted r d first = Ok (record { rules = r; definitions = d; first = first })

unfoldable pub table_from : (rules definitions first : ℕ) → Result Table → Told
table_from r d first x = told refused_at (λ T. counted (r + length T.rules) (d + length T.definitions) (first + rules_size T.rules)) x

-- the same of the fields from a place on, after so many term fields, at a bound that is enough for every field of the file
unfoldable pub table_at : List ℕ → (rules definitions first at count : ℕ) → Told
table_at s r d first at n = table_from r d first (read_fields (suc (length s)) s at r d n)

-- the same from the body of the definition at `field` on, by what the body comes to: nothing is left behind that
unfoldable pub behind_body : List ℕ → (field rules definitions first : ℕ) → TermRead → Told
behind_body s field r d first (Refused k p) = refused_at k p
behind_body s field r d first (Read next n) = cond (eqb next (end_of s field)) (table_at s r (d + 1) first next n) (refused_at LengthWrong field)

same_read : {a b c i j k : ℕ} → a ≡ i → b ≡ j → c ≡ k → counted a b c ≡ counted i j k
same_read p q r = rw (p, q, r)

with_rule_lem : (r d first : ℕ) (x : Rule) (y : Result Table) → table_from r d first (with_rule x y) ≡ table_from (r + 1) d (first + rule_size x) y
unfolding table_from told with_rule and_then rules_size
with_rule_lem r d first x (gives T) = same_read (omega arith) refl (omega arith)
with_rule_lem r d first x (refused c p) = refl

with_definition_lem : (r d first : ℕ) (x : Definition) (y : Result Table) → table_from r d first (with_definition x y) ≡ table_from r (d + 1) first y
unfolding table_from told with_definition and_then
with_definition_lem r d first x (gives T) = same_read refl (omega arith) refl
with_definition_lem r d first x (refused c p) = refl

-- the whole file
told_whole : (x : Result Table) → table_shape x ≡ table_from 0 0 0 x
unfolding table_shape table_from told
told_whole (gives T) = same_read (omega arith) (omega arith) (omega arith)
told_whole (refused c p) = refl

pub from_start : (s : List ℕ) → table_shape (read_fields (length s + 1) s 0 0 0 0) ≡ table_at s 0 0 0 0 0
unfolding table_at
from_start s = told_whole _ ∙ ap (table_from 0 0 0) (same_bound s (length s + 1) (suc (length s)) 0 0 0 0 (omega arith) (omega arith))

-- no field is left
pub at_end : (s : List ℕ) (r d first at n : ℕ) → length s ≤ at → table_at s r d first at n ≡ counted r d first
unfolding table_at read_fields table_from told rules_size
at_end s r d first at n e = rw (le-ltb at (length s) e) (same_read (omega arith) (omega arith) (omega arith))

module _ (s : List ℕ) (r d first at n : ℕ) (l : at < length s) where
  abbrev here : Result Header
  here = header_at s at (length s) (lowest d) definition_kind (full_table s at r d)

  -- what follows a field, at a bound that is one less
  abbrev rest : Field → Result Table
  rest = fields_of (read_fields (length s) s) r d n

  step : table_at s r d first at n ≡ table_from r d first (and_then (read_field s at r d n) rest)
  unfolding table_at read_fields
  step = rw (lt-ltb at (length s) l)

  -- a bound that is one less is enough behind a field
  one_less : (next i j m : ℕ) → at < next → read_fields (length s) s next i j m ≡ read_fields (suc (length s)) s next i j m
  one_less next i j m h = same_bound s (length s) (suc (length s)) next i j m (omega arith) (omega arith)

  -- the header is refused
  pub turn_refused : (f : Refusal) → header_shape here ≡ Err f → table_at s r d first at n ≡ Err f
  unfolding read_field header_shape table_from told and_then
  turn_refused f e = step ∙ go here e
    where
      go : (x : Result Header) → header_shape x ≡ Err f → table_from r d first (and_then (and_then x (field_of s at n)) rest) ≡ Err f
      go (gives h) e = absurd (let z : ◌≡◌ {A = ℕ} 0 1 = cc in omega arith)
      go (refused c q) e = ap Err (same_refusal e)

  module _ (tag len : ℕ) (e : header_shape here ≡ Ok (record { tag = tag; len = len })) where
    header_is : here ≡ gives (header tag len)
    header_is = told-field here tag len e

    field_is : IsField s at (length s) (lowest d) definition_kind (full_table s at r d) tag len
    field_is = is_field s at (length s) (lowest d) definition_kind (full_table s at r d) tag len header_is

    -- a rule; until a definition comes the rules end at the place
    module _ (t : tag ≡ 1) where
      the_field : read_field s at r d n ≡ gives (rule_field (rule_of s at len) (at + 3 + len))
      unfolding read_field and_then field_of
      the_field = simp (header_is, eq-eqb tag 1 t)

      the_rule : RuleRead s at r d (rule_of s at len) (at + 3 + len)
      unfolding FieldLaw
      the_rule = field_law s at r d n _ the_field

      pub turn_rule : (d ≡ 0 → first ≡ at) → table_at s r d first at n ≡ table_at s (r + 1) d (at + 3 + len) (at + 3 + len) n
      unfolding table_at and_then fields_of
      turn_rule a =
          let close = at + 3 + len in
          let q : first + rule_size (rule_of s at len) ≡ close = omega (arith, a the_rule.first_come, the_rule.next_is) in
          step ∙ ap (λ (x : Result Field). table_from r d first (and_then x rest)) the_field
          ∙ with_rule_lem r d first (rule_of s at len) _
          ∙ ap (λ (j : ℕ). table_from (r + 1) d j (read_fields (length s) s close (r + 1) d n)) q
          ∙ ap (table_from (r + 1) d close) (one_less close (r + 1) d n (omega arith))

    -- a definition, whose body is read next
    module _ (t : tag ≡ 1 → ⊥) where
      behind : (x : Result ParsedTerm) → table_from r d first (and_then (and_then x (definition_of s at (at + 3 + len))) rest) ≡ behind_body s at r d first (term_shape x)
      unfolding and_then definition_of fields_of table_at table_from told term_shape behind_body end_of
      behind (refused c p) = refl
      behind (gives u) = rw (← field_is.the_length) (go (eqb u.next (at + 3 + len)) refl)
        where
          go : (b : Bool) → eqb u.next (at + 3 + len) ≡ b
              → table_from r d first (and_then (cond b (gives (definition_field (record { tactic = tactic_no (word s (at + 3)); body = u.term }) u.next u.count)) (refused LengthWrong at)) rest)
              ≡ cond b (table_at s r (d + 1) first u.next u.count) (refused_at LengthWrong at)
          go true q = with_definition_lem r d first _ _ ∙ ap (table_from r (d + 1) first) (one_less u.next r (d + 1) u.count (omega (arith, eqb-true u.next (at + 3 + len) q)))
          go false q = refl

      the_body : read_field s at r d n ≡ and_then (read_term (len + 1) s tactic_kind (at + 5) (at + 3 + len) n) (definition_of s at (at + 3 + len))
      unfolding read_field and_then field_of
      the_body = simp (header_is, ne_eqb tag 1 t)

      pub turn_definition : table_at s r d first at n ≡ behind_body s at r d first (reads s tactic_kind (at + 5) (at + 3 + len) n)
      turn_definition =
          step ∙ ap (λ (x : Result Field). table_from r d first (and_then x rest)) the_body
          ∙ behind (read_term (len + 1) s tactic_kind (at + 5) (at + 3 + len) n)
          ∙ ap (behind_body s at r d first) (sym (reads_any s tactic_kind (len + 1) (at + 5) (at + 3 + len) n field_is.contents (omega arith)))
