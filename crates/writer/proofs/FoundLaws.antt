-- The number of premises that the look-up of a rule finds: by what it finds.
-- Assumes nothing.
use Rattle.std.specs.Prelude.{Option, None, Some}
use Prim.Native.Nat.{ℕ, ◌≤◌}
use mathlib.Core.Path.{◌≡◌, refl, sym}
use mathlib.Core.List.{List}
use native.Mathlib.Omega.{arith}
use lib.ListN.{length}
use Rattle.format.specs.declared.values.Goal.{Goal}
use Rattle.format.specs.declared.values.RuleName.{RuleName}
use Rattle.format.proofs.GoalsLaws.{length-goals_at}
use Rattle.tables.specs.declared.lookup.RuleFound.{RuleFound}
use Rattle.tables.specs.Tables.{Table}
use Rattle.tables.specs.Lookup.{find_rule}
use Rattle.tables.specs.Found.{rule_found, FoundInside}
use Rattle.hitac.specs.Forest.{premises_of}
use Rattle.writer.proofs.TreeLaws.{name_path}

goal_path : {a b : Goal} → a.0 ≡ b.0 → a ≡ b
goal_path e = λ i. record { 0 = e i }

-- the number of premises of what was found; none if nothing was
abbrev pub count_of : Option RuleFound → ℕ
count_of None = 0
count_of (Some r) = r.count

-- the two cases of what was found
pub either : (x : Option RuleFound) {G : Type 0} → (x ≡ None → G) → ((r : RuleFound) → x ≡ Some r → G) → G
either None none some = none refl
either (Some r) none some = some r refl

pub found_count : (T : Table) (s : List ℕ) (a b : RuleName) (γ δ : Goal) (x : Option RuleFound) → find_rule T a γ ≡ rule_found s x → a.0 ≡ b.0 → γ.0 ≡ δ.0 → count_of x ≡ length (premises_of T b δ)
unfolding rule_found
found_count T s a b γ δ None found m n = let e : find_rule T b δ ≡ rule_found s None = rw (← name_path m, ← goal_path n) found in rw e
found_count T s a b γ δ (Some r) found m n =
    let e : find_rule T b δ ≡ rule_found s (Some r) = rw (← name_path m, ← goal_path n) found in
    rw e (sym (length-goals_at r.count s r.place))

-- at most eight
pub few_count : (s : List ℕ) (x : Option RuleFound) → FoundInside s x → count_of x ≤ 8
unfolding FoundInside
few_count s None i = omega arith
few_count s (Some r) i = i.0
