-- Demand 2, what the answers of run mean: the deterministic rules have one end, a proof at the end is an evaluation of Fig. 3, the arity that splits a tensor
-- is the paper's, and a larger budget keeps every answer but 24.
use Rattle.std.specs.Prelude.{ℕ, ◌≤◌, ◌≡◌, ◌↔◌, List}
use Rattle.std.proofs.Math.Option.{some}
use Rattle.format.specs.declared.values.Goal.{Goal}
use Rattle.format.specs.Results.{gives}
use Rattle.format.specs.Terms.{Term}
use Rattle.tables.specs.Tables.{Table}
use Rattle.tables.specs.ReadTables.{read_table}
use Rattle.hitac.specs.Validates.{AtMost256, AnyList}
use Rattle.evaluation.specs.TacticArity.{tactic_arity}
use Rattle.hitac.specs.Arity.{Arity}
use Rattle.evaluation.specs.Ends.{End, proof, FewHeld, Ends}
use Rattle.evaluation.specs.Evaluates.{Evaluates}
use Rattle.entries.specs.Run.{run_tactic}

-- a term has one end on its goals, after one number of steps
abbrev pub One-end : Type 0
One-end = (t : List ℕ) (T : Table) → read_table t ≡ gives T → (a : Term) (g : List Goal) (n m : ℕ) (e x : End) → Ends T FewHeld 0 g a n e → Ends T FewHeld 0 g a m x → (n ≡ m) × (e ≡ x)

-- a proof at the end is one of the paper's evaluations, with no joined list over 256 and no higher than the steps
abbrev pub Run-evaluates : Type 0
Run-evaluates = (T : Table) (a s : Term) (g h : List Goal) (n : ℕ) → Ends T FewHeld 0 g a n (proof s h) → Evaluates T AtMost256 n g a s h × Evaluates T AnyList n g a s h

-- the arity by which a tensor is split is that of section 2.1, up to 256
abbrev pub Arity-is : Type 0
Arity-is = (t : List ℕ) (T : Table) → read_table t ≡ gives T → (a : Term) (n : ℕ) → (tactic_arity T a ≡ some n) ↔ (Arity T a n × (n ≤ 256))

-- what a run answers, and leaves in the lent spaces, under a budget that suffices, it does under every larger one
abbrev pub More-budget : Type 0
More-budget = (t f : List ℕ) (b c : ℕ) (w o : List ℕ) → b ≤ c → c ≤ 16384 → ((run_tactic t f b w o).answer.number ≡ 24 → ⊥) → run_tactic t f c w o ≡ run_tactic t f b w o
