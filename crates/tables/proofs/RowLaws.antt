-- Laws of values that stand one behind the other, and of the search for the first of them that passes a test: by induction over the values.
-- Assumes nothing.
use mathlib.Core.Path.{◌≡◌, sym, subst, ◌∙◌}
use mathlib.Core.Bool.{Bool, true, false, cond}
use mathlib.Core.List.{List, [], ◌∷◌, ◌++◌}
use Prim.Native.Nat.{ℕ, ◌+◌, ◌-◌, ◌/◌, ◌≤◌, ◌<◌}
use native.Mathlib.Omega.{arith}
use Rattle.words.specs.Word.{word}
use lib.ListN.{length}
use Rattle.tables.specs.Tables.{Rule, Definition}
use Rattle.tables.specs.Repeats.{rule_size, definition_size, rules_size}
use Rattle.tables.specs.Standing.{RuleStands, DefinitionStands, InRow, RulesStand}

module _ {A : Type 0} (stands : ℕ → A → Type 0) (size_of : A → ℕ) where
  pub row_le : (xs : List A) (from to : ℕ) → InRow stands size_of from xs to → from ≤ to
  unfolding InRow
  row_le [] from to row = omega arith
  row_le (x ∷ xs) from to row = omega (arith, row_le xs (from + size_of x) to row.1)

  -- a row behind another
  pub row-append : (xs ys : List A) (from mid to : ℕ) → InRow stands size_of from xs mid → InRow stands size_of mid ys to → InRow stands size_of from (xs ++ ys) to
  unfolding InRow
  row-append [] ys from mid to a b = subst (λ (k : ℕ). InRow stands size_of k ys to) (sym a) b
  row-append (x ∷ xs) ys from mid to a b = (a.0, row-append xs ys (from + size_of x) mid to a.1 b)

  pub first_in_row : (xs : List A) (from to : ℕ) → InRow stands size_of from xs to → from < to → (x : A) × stands from x × (from + size_of x ≤ to)
  unfolding InRow
  first_in_row [] from to row l = absurd (omega arith)
  first_in_row (x ∷ xs) from to row l = (x, row.0, row_le xs (from + size_of x) to row.1)

  -- a search that stops at the first value that passes a test, and how it goes on behind the others
  module _ {B : Type 0} (find next : List A → B) (test : A → Bool) (stop : A → B) (end : B) (nil : find [] ≡ end) (step : (x : A) (xs : List A) → find (x ∷ xs) ≡ cond (test x) (stop x) (next xs)) where
    pub none_left : (xs : List A) (from to : ℕ) → ((x : A) → 0 < size_of x) → InRow stands size_of from xs to → to ≤ from → find xs ≡ end
    unfolding InRow
    none_left [] from to size row l = nil
    none_left (x ∷ xs) from to size row l = absurd (omega (arith, size x, row_le xs (from + size_of x) to row.1))

    pub found_here : (xs : List A) (from to : ℕ) → InRow stands size_of from xs to → from < to → ((x : A) → stands from x → test x ≡ true) → (x : A) × stands from x × (find xs ≡ stop x)
    unfolding InRow
    found_here [] from to row l t = absurd (omega arith)
    found_here (x ∷ xs) from to row l t = (x, row.0, step x xs ∙ rw (t x row.0))

    pub next_in_row : (xs : List A) (from to k : ℕ) → InRow stands size_of from xs to → from < to → ((x : A) → stands from x → test x ≡ false) → ((x : A) → stands from x → size_of x ≡ k)
        → (ys : List A) × InRow stands size_of (from + k) ys to × (find xs ≡ next ys)
    unfolding InRow
    next_in_row [] from to k row l t z = absurd (omega arith)
    next_in_row (x ∷ xs) from to k row l t z = (xs, subst (λ (j : ℕ). InRow stands size_of (from + j) xs to) (z x row.0) row.1, step x xs ∙ rw (t x row.0))

-- the size of a field by the length in its header
module _ (s : List ℕ) (at : ℕ) where
  pub rule_size_lem : (r : Rule) → RuleStands s at r → rule_size r ≡ 3 + word s (at + 1)
  unfolding rule_size
  rule_size_lem r st = omega (arith, st.head.length_is)

  pub rule_premises : (r : Rule) → RuleStands s at r → length r.premises ≡ word s (at + 1) / 2 - 2
  rule_premises r st = omega (arith, st.head.length_is)

  pub definition_size_lem : (d : Definition) → DefinitionStands s at d → definition_size d ≡ 3 + word s (at + 1)
  unfolding definition_size
  definition_size_lem d st = omega (arith, st.head.length_is)

pub rule_positive : (r : Rule) → 0 < rule_size r
unfolding rule_size
rule_positive r = omega arith

pub definition_positive : (d : Definition) → 0 < definition_size d
unfolding definition_size
definition_positive d = omega arith

-- rules that stand from a place end behind their bytes
pub rules_end : (s : List ℕ) (rs : List Rule) (from to : ℕ) → RulesStand s from rs to → to ≡ from + rules_size rs
unfolding InRow rules_size
rules_end s [] from to row = omega arith
rules_end s (r ∷ rs) from to row = omega (arith, rules_end s rs (from + rule_size r) to row.1)
