-- Document 01, "Running a tactic": the arity of a tactic, computed.
use Rattle.std.specs.Prelude.{ℕ, zero, suc, ◌+◌, Bool, cond, List, eqb, leb, length}
use Rattle.std.proofs.Math.Option.{Option, none, some}
use Rattle.format.specs.declared.values.TacticNo.{TacticNo}
use Rattle.format.specs.Limits.{most_arity}
use Rattle.format.specs.Terms.{Term, atomic, id, label, sequence, tensor, empty, alternation, assert, defined}
use Rattle.tables.specs.Tables.{Definition, Table}
use Rattle.tables.specs.Lookup.{find_body_in}

-- an arity made of those of both sides; none if one of them has none
abbrev pub from_both : (ℕ → ℕ → Option ℕ) → Option ℕ → Option ℕ → Option ℕ
from_both f none b = none
from_both f (some n) none = none
from_both f (some n) (some m) = f n m

-- "an arity over 256 counts as none"
abbrev pub arity_counts : ℕ → Bool
arity_counts n = leb n most_arity

-- "a tensor the sum", if it counts
abbrev pub sum_arity : Option ℕ → Option ℕ → Option ℕ
sum_arity a b = from_both (λ n m. cond (arity_counts (n + m)) (some (n + m)) none) a b

-- "an alternation n if both sides have n"
abbrev pub common_arity : Option ℕ → Option ℕ → Option ℕ
common_arity a b = from_both (λ n m. cond (eqb n m) (some n) none) a b

-- "as for hiproofs, and assert 1; label 1 whatever is inside": the arity of a term, given those of the defined tactics
unfoldable pub arity_in : (TacticNo → Option ℕ) → Term → Option ℕ
arity_in known (atomic a) = some 1
arity_in known id = some 1
arity_in known (label l t) = some 1
arity_in known (sequence t u) = arity_in known t
arity_in known (tensor t u) = sum_arity (arity_in known t) (arity_in known u)
arity_in known empty = some 0
arity_in known (alternation t u) = common_arity (arity_in known t) (arity_in known u)
arity_in known (assert γ) = some 1
arity_in known (defined n) = known n

-- "a defined tactic that of its body"; none without a definition
abbrev pub body_arity : (TacticNo → Option ℕ) → Option Term → Option ℕ
body_arity known none = none
body_arity known (some t) = arity_in known t

-- "if finitely many unfoldings give one": the arity of a defined tactic that so many unfoldings give
unfoldable pub arity_after : (unfoldings : ℕ) → List Definition → TacticNo → Option ℕ
arity_after zero ds n = none
arity_after (suc k) ds n = body_arity (arity_after k ds) (find_body_in ds n)

-- As many unfoldings as there are definitions give every arity that finitely many give (`arity_all` of proofs/UnfoldingLaws).
unfoldable pub tactic_arity : Table → Term → Option ℕ
tactic_arity T t = arity_in (arity_after (length T.definitions) T.definitions) t
