-- Values of 16 bits: what a tactic evaluates to has them if the tactic, its goals and the table do. By induction over Fig. 3.
-- Assumes nothing.
use Prim.Native.Nat.{ℕ, ◌<◌}
use mathlib.Core.List.{List, [], ◌∷◌, ◌++◌}
use Rattle.format.specs.declared.values.Goal.{Goal}
use Rattle.format.specs.Encoding.{GoalValues, TermValues}
use Rattle.format.specs.Terms.{Term}
use Rattle.tables.specs.Tables.{Table}
use Rattle.tables.specs.Within.{RuleWithin, DefinitionWithin, TableWithin}
use Rattle.evaluation.specs.Evaluates.{Evaluates, B-Atomic, B-Id, B-Label, B-Seq, B-Tensor, B-Empty, B-Alt-L, B-Alt-R, B-Assert, B-Def}
use Rattle.promises.proofs.FlattenedWithin.{every_member, joined_values_lem}

goals_apart : (g h : List Goal) → GoalValues (g ++ h) → GoalValues g × GoalValues h
unfolding GoalValues
goals_apart [] h v = (tt, v)
goals_apart (γ ∷ g) h v = let w = goals_apart g h v.1 in ((v.0, w.0), w.1)

module _ (T : Table) (within : TableWithin T) {Fits : List Goal → Type 0} where
  pub evaluated_values : {i : ℕ} {g h : List Goal} {t s : Term} → Evaluates T Fits i g t s h → TermValues t → GoalValues g → TermValues s × GoalValues h
  unfolding TermValues GoalValues
  evaluated_values (B-Atomic m) v w = (v, (every_member RuleWithin T.rules within.rules_within _ m).premise_values)
  evaluated_values B-Id v w = (tt, w)
  evaluated_values (B-Label r) v w = let x = evaluated_values r v.1 w in ((v.0, x.0), x.1)
  evaluated_values (B-Seq r q) v w =
      let x = evaluated_values r v.0 w in
      let y = evaluated_values q v.1 x.1 in
      ((x.0, y.0), y.1)
  evaluated_values (B-Tensor {g₁ = g₁} {g₂ = g₂} {h₁ = h₁} {h₂ = h₂} r q f) v w =
      let a = goals_apart g₁ g₂ w in
      let x = evaluated_values r v.0 a.0 in
      let y = evaluated_values q v.1 a.1 in
      ((x.0, y.0), joined_values_lem h₁ h₂ x.1 y.1)
  evaluated_values B-Empty v w = (tt, tt)
  evaluated_values (B-Alt-L r) v w = evaluated_values r v.0 w
  evaluated_values (B-Alt-R r) v w = evaluated_values r v.1 w
  evaluated_values (B-Assert e) v w = (tt, w)
  evaluated_values (B-Def m r) v w = evaluated_values r (every_member DefinitionWithin T.definitions within.definitions_within _ m).body_values w
