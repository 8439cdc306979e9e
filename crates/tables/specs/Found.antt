-- What the look-ups of the code find in the bytes of a table.
use Rattle.std.specs.Prelude.{Some, None, ℕ, ◌+◌, ◌*◌, ◌≤◌, ◌≡◌, Bool, ◌&&◌, List, eqb, length}
use Rattle.std.specs.Prelude as std
use Rattle.std.proofs.Math.Option.{Option, none, some}
use Rattle.words.specs.Word.{word}
use Rattle.format.specs.declared.values.RuleName.{RuleName}
use Rattle.format.specs.declared.values.Goal.{Goal}
use Rattle.format.specs.declared.values.TacticNo.{TacticNo}
use Rattle.format.specs.Goals.{goals_at}
use Rattle.format.specs.Terms.{Term}
use Rattle.format.specs.Standing.{Stands}
use Rattle.tables.specs.declared.lookup.RuleFound.{RuleFound}
use Rattle.tables.specs.Tables.{Table}
use Rattle.tables.specs.Lookup.{FoundRule, found_rule, find_rule, find_body}
use Rattle.tables.specs.Places.{body_place}
use Rattle.tables.specs.Standing.{TableStands}

-- the rule at a place has that name and that goal
unfoldable pub is_carried : List ℕ → (at : ℕ) → RuleName → Goal → Bool
is_carried s at a γ = eqb a.0 (word s (at + 3)) && eqb γ.0 (word s (at + 5))

-- the rule that was found, by its number and the goals at its premises' place
unfoldable pub rule_found : List ℕ → std.Option RuleFound → Option FoundRule
rule_found s None = none
rule_found s (Some r) = some (found_rule r.number (goals_at s r.place r.count))

-- its premises lie within the file, and there are at most eight
unfoldable pub FoundInside : List ℕ → std.Option RuleFound → Type 0
FoundInside s None = Unit {0}
FoundInside s (Some r) = (r.count ≤ 8) × (r.place + r.count * 2 ≤ length s)

-- the answer of the search for a rule: that of every table that stands in these bytes
pub record FindsRule (s : List ℕ) (first : ℕ) (a : RuleName) (γ : Goal) (r : std.Option RuleFound) : Type 0 where
  pub found : (T : Table) → TableStands s first T → find_rule T a γ ≡ rule_found s r
  pub inside : FoundInside s r

-- a body that was found stands at its place
unfoldable pub BodyStands : List ℕ → std.Option ℕ → Option Term → Type 0
BodyStands s None o = o ≡ none
BodyStands s (Some place) o = (t : Term) × (o ≡ some t) × Stands s place t

-- at the place of the first definition of that tactic
unfoldable pub BodyPlaced : std.Option ℕ → (place : ℕ) → Type 0
BodyPlaced None p = Unit {0}
BodyPlaced (Some place) p = place ≡ p

-- the answer of the search for a definition: that of every table that stands in these bytes
abbrev pub FindsBody : List ℕ → (first : ℕ) → TacticNo → std.Option ℕ → Type 0
FindsBody s first n r = (T : Table) → TableStands s first T → BodyStands s r (find_body T n) × BodyPlaced r (body_place T n)
