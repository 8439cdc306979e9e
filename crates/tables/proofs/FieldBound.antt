-- Any two bounds above the bytes left read the same fields: each field begins behind the one before it.
-- Assumes nothing.
use mathlib.Core.Path.{◌≡◌, refl, ap}
use mathlib.Core.Bool.{Bool, true, false, cond}
use mathlib.Core.List.{List, []}
use Prim.Native.Nat.{ℕ, zero, suc, ◌+◌, ◌-◌, ◌<◌}
use native.Mathlib.Omega.{arith}
use lib.Dec.{ltb}
use lib.ListN.{length}
use borrow.Author.Tests.{ltb-true}
use Rattle.format.specs.Results.{gives, and_then}
use Rattle.format.proofs.ResultLaws.{and_same}
use Rattle.tables.specs.Repeats.{rule_size, definition_size}
use Rattle.tables.specs.ReadTables.{Field, rule_field, definition_field, read_field, with_rule, with_definition, fields_of, read_fields}
use Rattle.tables.proofs.FieldLaws.{FieldLaw, field_law}

module _ (s : List ℕ) where
  after : (f g at r d n : ℕ) → ((next i j k : ℕ) → at < next → read_fields f s next i j k ≡ read_fields g s next i j k) → (x : Field) → FieldLaw s at r d n x → fields_of (read_fields f s) r d n x ≡ fields_of (read_fields g s) r d n x
  unfolding fields_of FieldLaw rule_size definition_size
  after f g at r d n ih (rule_field x next) l = ap (with_rule x) (ih next (r + 1) d n (omega (arith, l.next_is)))
  after f g at r d n ih (definition_field x next m) l = ap (with_definition x) (ih next r (d + 1) m (omega (arith, l.next_is)))

  pub same_bound : (f g at r d n : ℕ) → length s - at < f → length s - at < g → read_fields f s at r d n ≡ read_fields g s at r d n
  unfolding read_fields
  same_bound zero g at r d n a b = absurd (omega arith)
  same_bound (suc f) zero at r d n a b = absurd (omega arith)
  same_bound (suc f) (suc g) at r d n a b = go (ltb at (length s)) refl (λ l next i j k m. same_bound f g next i j k (omega arith) (omega arith))
    where
      go : (t : Bool) → ltb at (length s) ≡ t → (at < length s → (next i j k : ℕ) → at < next → read_fields f s next i j k ≡ read_fields g s next i j k)
          → cond t (and_then (read_field s at r d n) (fields_of (read_fields f s) r d n)) (gives (record { rules = []; definitions = [] })) ≡ cond t (and_then (read_field s at r d n) (fields_of (read_fields g s) r d n)) (gives (record { rules = []; definitions = [] }))
      go true e ih = and_same _ _ _ _ refl (λ x q. after f g at r d n (ih (ltb-true _ _ e)) x (field_law s at r d n x q))
      go false e ih = refl
