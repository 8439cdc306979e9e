-- The paper, sections 2 and 2.1, and document 01, "Fields": terms.
use Rattle.std.specs.Prelude.{ℕ, ◌+◌}
use Rattle.format.specs.declared.values.RuleName.{RuleName}
use Rattle.format.specs.declared.values.Goal.{Goal}
use Rattle.format.specs.declared.values.Label.{Label}
use Rattle.format.specs.declared.values.TacticNo.{TacticNo}

-- tags 16 to 24; a hiproof has the first six alone
pub data Term : Type 0 where
  atomic : RuleName → Term
  id : Term
  label : Label → Term → Term
  sequence : Term → Term → Term
  tensor : Term → Term → Term
  empty : Term
  alternation : Term → Term → Term
  assert : Goal → Term
  defined : TacticNo → Term

-- bytes of the term's field, header included
unfoldable pub size : Term → ℕ
size (atomic a) = 5
size id = 3
size (label l t) = 5 + size t
size (sequence t u) = 3 + size t + size u
size (tensor t u) = 3 + size t + size u
size empty = 3
size (alternation t u) = 3 + size t + size u
size (assert γ) = 5
size (defined n) = 5

-- term fields in a term, itself included
unfoldable pub fields : Term → ℕ
fields (atomic a) = 1
fields id = 1
fields (label l t) = 1 + fields t
fields (sequence t u) = 1 + fields t + fields u
fields (tensor t u) = 1 + fields t + fields u
fields empty = 1
fields (alternation t u) = 1 + fields t + fields u
fields (assert γ) = 1
fields (defined n) = 1

-- "one term of tags 16 to 21 (a hiproof)"
unfoldable pub Hiproof : Term → Type 0
Hiproof (atomic a) = Unit {0}
Hiproof id = Unit {0}
Hiproof (label l t) = Hiproof t
Hiproof (sequence t u) = Hiproof t × Hiproof u
Hiproof (tensor t u) = Hiproof t × Hiproof u
Hiproof empty = Unit {0}
Hiproof (alternation t u) = ⊥
Hiproof (assert γ) = ⊥
Hiproof (defined n) = ⊥
