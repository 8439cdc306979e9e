-- The turns of the two look-ups: instances of the search in a row.
-- Assumes nothing.
use mathlib.Core.Path.{◌≡◌, refl, sym, ap, ◌∙◌}
use mathlib.Core.Bool.{Bool, true, false, ◌&&◌, cond}
use mathlib.Core.Option.{Option, none, some}
use mathlib.Core.List.{List, [], ◌∷◌}
use Prim.Native.Nat.{ℕ, ◌+◌, ◌-◌, ◌/◌, ◌≤◌, ◌<◌}
use native.Mathlib.Omega.{arith}
use lib.Dec.{eqb}
use lib.ListN.{length}
use borrow.Author.Tests.{eq-eqb, ne_eqb}
use Rattle.words.specs.Word.{word}
use Rattle.format.specs.declared.values.RuleName.{RuleName}
use Rattle.format.specs.declared.values.Goal.{Goal}
use Rattle.format.specs.declared.values.TacticNo.{TacticNo}
use Rattle.format.specs.Goals.{goals_at}
use Rattle.format.specs.Terms.{Term}
use Rattle.format.specs.Standing.{Stands}
use Rattle.tables.specs.Tables.{Rule, Definition}
use Rattle.tables.specs.Repeats.{rule_size, definition_size}
use Rattle.tables.specs.Lookup.{same_name, same_goal, same_tactic, FoundRule, found_rule, find_rule_in, find_body_in}
use Rattle.tables.specs.Standing.{RuleStands, DefinitionStands, RulesStand, DefinitionsStand}
use Rattle.tables.specs.Found.{is_carried}
use Rattle.tables.proofs.RowLaws as row
use Rattle.tables.proofs.RowLaws.{rule_size_lem, rule_premises, definition_size_lem, rule_positive, definition_positive}

module _ (s : List ℕ) (a : RuleName) (γ : Goal) where
  abbrev carried : Rule → Bool
  carried r = same_name a r.name && same_goal γ r.goal

  -- the test on bytes is the test on the rule
  carries : (at : ℕ) (b : Bool) → is_carried s at a γ ≡ b → (r : Rule) → RuleStands s at r → carried r ≡ b
  unfolding is_carried
  carries at b e r st = rw (← st.name_is, ← st.goal_is) e

  -- from the rule with a number on
  module _ (n : ℕ) where
    abbrev found : Rule → Option FoundRule
    found r = some (found_rule n r.premises)

    step : (r : Rule) (rs : List Rule) → find_rule_in n a γ (r ∷ rs) ≡ cond (carried r) (found r) (find_rule_in (n + 1) a γ rs)
    unfolding find_rule_in
    step r rs = refl

    nil : find_rule_in n a γ [] ≡ none
    unfolding find_rule_in
    nil = refl

    pub no_rule : (rs : List Rule) (at to : ℕ) → RulesStand s at rs to → to ≤ at → find_rule_in n a γ rs ≡ none
    no_rule rs at to = row.none_left (RuleStands s) rule_size (find_rule_in n a γ) (find_rule_in (n + 1) a γ) carried found none nil step rs at to rule_positive

    pub this_rule : (rs : List Rule) (at to : ℕ) → RulesStand s at rs to → at < to → is_carried s at a γ ≡ true → find_rule_in n a γ rs ≡ some (found_rule n (goals_at s (at + 7) (word s (at + 1) / 2 - 2)))
    this_rule rs at to st l e =
        let x = row.found_here (RuleStands s) rule_size (find_rule_in n a γ) (find_rule_in (n + 1) a γ) carried found none nil step rs at to st l (carries at true e) in
        x.2 ∙ ap (λ (g : List Goal). some (found_rule n g)) (sym x.1.premises_are ∙ ap (λ (k : ℕ). goals_at s (at + 7) k) (rule_premises s at x.0 x.1))

    pub next_rule : (rs : List Rule) (at to : ℕ) → RulesStand s at rs to → at < to → is_carried s at a γ ≡ false
        → (left : List Rule) × RulesStand s (at + (3 + word s (at + 1))) left to × (find_rule_in n a γ rs ≡ find_rule_in (n + 1) a γ left)
    next_rule rs at to st l e = row.next_in_row (RuleStands s) rule_size (find_rule_in n a γ) (find_rule_in (n + 1) a γ) carried found none nil step rs at to _ st l (carries at false e) (rule_size_lem s at)

-- the field of a rule lies within the file and before the place where the rules end
pub record RuleBounds (s : List ℕ) (at to : ℕ) : Type 0 where
  pub seven : at + 7 ≤ length s
  pub least : 4 ≤ word s (at + 1)
  pub most : word s (at + 1) ≤ 20
  pub inside : at + 3 + word s (at + 1) ≤ length s
  pub ends : at + (3 + word s (at + 1)) ≤ to

pub rule_bounds : (s : List ℕ) (rs : List Rule) (at to : ℕ) → RulesStand s at rs to → at < to → RuleBounds s at to
rule_bounds s rs at to st l =
    let x = row.first_in_row (RuleStands s) rule_size rs at to st l in
    let h = x.1.head in
    let z = rule_size_lem s at x.0 x.1 in
    record {
      seven = omega (arith, h);
      least = omega (arith, h);
      most = omega (arith, h, x.1.few);
      inside = omega (arith, h);
      ends = omega (arith, z, x.2);
    }

module _ (s : List ℕ) (n : TacticNo) where
  abbrev named : Definition → Bool
  named d = same_tactic n d.tactic

  abbrev body_of : Definition → Option Term
  body_of d = some d.body

  abbrev find : List Definition → Option Term
  find ds = find_body_in ds n

  define : (d : Definition) (ds : List Definition) → find_body_in (d ∷ ds) n ≡ cond (named d) (body_of d) (find_body_in ds n)
  unfolding find_body_in
  define d ds = refl

  empty : find_body_in [] n ≡ none
  unfolding find_body_in
  empty = refl

  names : (at : ℕ) (b : Bool) → eqb n.0 (word s (at + 3)) ≡ b → (d : Definition) → DefinitionStands s at d → named d ≡ b
  names at b e d st = rw (← st.tactic_is) e

  pub no_body : (ds : List Definition) (at to : ℕ) → DefinitionsStand s at ds to → to ≤ at → find_body_in ds n ≡ none
  no_body ds at to = row.none_left (DefinitionStands s) definition_size find find named body_of none empty define ds at to definition_positive

  pub this_body : (ds : List Definition) (at to : ℕ) → DefinitionsStand s at ds to → at < to → n.0 ≡ word s (at + 3) → (t : Term) × (find_body_in ds n ≡ some t) × Stands s (at + 5) t
  this_body ds at to st l e =
      let x = row.found_here (DefinitionStands s) definition_size find find named body_of none empty define ds at to st l (names at true (eq-eqb _ _ e)) in
      (x.0.body, x.2, x.1.body_stands)

  pub next_body : (ds : List Definition) (at to : ℕ) → DefinitionsStand s at ds to → at < to → (n.0 ≡ word s (at + 3) → ⊥)
      → (left : List Definition) × DefinitionsStand s (at + (3 + word s (at + 1))) left to × (find_body_in ds n ≡ find_body_in left n)
  next_body ds at to st l e = row.next_in_row (DefinitionStands s) definition_size find find named body_of none empty define ds at to _ st l (names at false (ne_eqb _ _ e)) (definition_size_lem s at)

-- the field of a definition lies within the file
pub record DefinitionBounds (s : List ℕ) (at to : ℕ) : Type 0 where
  pub five : at + 5 ≤ length s
  pub ends : at + (3 + word s (at + 1)) ≤ to

pub definition_bounds : (s : List ℕ) (ds : List Definition) (at to : ℕ) → DefinitionsStand s at ds to → at < to → DefinitionBounds s at to
definition_bounds s ds at to st l =
    let x = row.first_in_row (DefinitionStands s) definition_size ds at to st l in
    let z = definition_size_lem s at x.0 x.1 in
    record { five = omega (arith, x.1.head); ends = omega (arith, z, x.2) }
