-- A number whose kind is that of a table's field is one of two tags, and its contents have two bytes of values at least: by one computed test of the table's rows.
-- Assumes nothing.
use mathlib.Core.Bool.{Bool, true, false, cond}
use Prim.Native.Nat.{ℕ, ◌≤◌}
use native.Mathlib.Omega.{arith}
use lib.Dec.{eqb}
use Rattle.format.specs.Tags.{rows, find_row, row_of, kind_of, least_of, rule_kind, definition_kind}
use Rattle.format.specs.Next.{lowest}
use Rattle.format.proofs.TermTags.{tags_between, no_more, ◌&◌, found_tag}

-- the tags of a table's fields
pub data TableTag : ℕ → Type 0 where
  a_rule : TableTag 1
  a_definition : TableTag 2

pub table_tag : (t : ℕ) → rule_kind ≤ kind_of t → kind_of t ≤ definition_kind → TableTag t
unfolding rows tags_between
table_tag = found_tag TableTag rule_kind definition_kind (omega arith) (a_rule & a_definition & no_more)

-- what may stand where: a rule only before the first definition
pub lowest_least : (d : ℕ) → rule_kind ≤ lowest d
unfolding lowest
lowest_least d = go (eqb d 0)
  where
    go : (b : Bool) → rule_kind ≤ cond b rule_kind definition_kind
    go true = omega arith
    go false = omega arith

-- contents of a table's field have two bytes of values at least
pub two_bytes : {t : ℕ} → TableTag t → 2 ≤ least_of t
unfolding least_of row_of rows find_row
two_bytes a_rule = omega arith
two_bytes a_definition = omega arith
