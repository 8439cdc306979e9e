-- The paper, section 2.1: the arity of a tactic, as rules.
use Rattle.std.specs.Prelude.{ℕ, ◌+◌}
use Rattle.format.specs.declared.values.RuleName.{RuleName}
use Rattle.format.specs.declared.values.Goal.{Goal}
use Rattle.format.specs.declared.values.Label.{Label}
use Rattle.format.specs.declared.values.TacticNo.{TacticNo}
use Rattle.format.specs.Terms.{Term, atomic, id, label, sequence, tensor, empty, alternation, assert, defined}
use Rattle.tables.specs.Tables.{Table, Defines}

-- `Arity T t n`: the paper's t : n. "This definition is partial, not all tactics can be given an arity."
pub data Arity (T : Table) : Term → ℕ → Type 0 where
  A-Atomic : {a : RuleName} → Arity T (atomic a) 1
  A-Id : Arity T id 1
  A-Label : {l : Label} {t : Term} → Arity T (label l t) 1
  A-Seq : {t u : Term} {n : ℕ} → Arity T t n → Arity T (sequence t u) n
  A-Tensor : {t u : Term} {n m : ℕ} → Arity T t n → Arity T u m → Arity T (tensor t u) (n + m)
  A-Empty : Arity T empty 0
  A-Alt : {t u : Term} {n : ℕ} → Arity T t n → Arity T u n → Arity T (alternation t u) n
  A-Assert : {γ : Goal} → Arity T (assert γ) 1
  A-Def : {d : TacticNo} {t : Term} {n : ℕ} → Defines T d t → Arity T t n → Arity T (defined d) n
