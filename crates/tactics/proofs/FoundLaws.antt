-- What a look-up found, for an atomic term on its goal and for a defined tactic: what the rule gives, and where the body stands.
-- Assumes nothing.
use Prim.Native.Nat.{ℕ, ◌+◌, ◌*◌, ◌≤◌}
use mathlib.Core.Path.{◌≡◌, ap, subst, ◌∙◌}
use mathlib.Core.List.{List}
use lib.ListN.{length}
use Rattle.std.specs.Prelude as std
use Rattle.std.specs.Prelude.{Some}
use Rattle.words.specs.Word.{word}
use Rattle.format.specs.declared.values.RuleName.{RuleName}
use Rattle.format.specs.declared.values.Goal.{Goal}
use Rattle.format.specs.declared.values.TacticNo.{TacticNo}
use Rattle.format.specs.Goals.{goals_at}
use Rattle.tables.specs.declared.lookup.RuleFound.{RuleFound}
use Rattle.tables.specs.Tables.{Table}
use Rattle.tables.specs.Lookup.{find_rule, find_body}
use Rattle.tables.specs.Standing.{TableStands}
use Rattle.tables.specs.Found.{rule_found, FindsRule, FoundInside, BodyStands, BodyPlaced, FindsBody}
use Rattle.tables.specs.Places.{body_place}
use Rattle.evaluation.specs.Outcomes.{found_premises, rule_gives}
use Rattle.tactics.proofs.FormLaws.{one_at}

-- the rule of an atomic term
module _ (bytes : List ℕ) (first : ℕ) (name : RuleName) (goal : Goal) (o : std.Option RuleFound) (f : FindsRule bytes first name goal o) where
  -- for the one goal that lies in bytes
  pub rule_gives_lem : (w : List ℕ) (at n : ℕ) → n ≡ 1 → goal.0 ≡ word w at → (T : Table) (a : RuleName) (g : List Goal) → TableStands bytes first T → name.0 ≡ a.0 → goals_at w at n ≡ g
      → rule_gives T a g ≡ found_premises (rule_found bytes o)
  rule_gives_lem w at n c e T a g st i h =
      let same : name ≡ a = λ j. record { 0 = i j } in
      subst (λ (x : List Goal). rule_gives T a x ≡ found_premises (rule_found bytes o)) h
      (one_at w at (λ γ. found_premises (find_rule T a γ)) goal n c e
      ∙ subst (λ (x : RuleName). found_premises (find_rule T x goal) ≡ found_premises (rule_found bytes o)) same (ap found_premises (f.found T st)))

  pub rule_inside : (r : RuleFound) → o ≡ Some r → (r.count ≤ 8) × (r.place + r.count * 2 ≤ length bytes)
  unfolding FoundInside
  rule_inside r m = subst (λ (x : std.Option RuleFound). FoundInside bytes x) m f.inside

-- the body of a defined tactic, and its place
module _ (bytes : List ℕ) (first : ℕ) (number : TacticNo) (o : std.Option ℕ) (f : FindsBody bytes first number o) (T : Table) (d : TacticNo) (x : std.Option ℕ) (st : TableStands bytes first T) (i : number.0 ≡ d.0) (m : o ≡ x) where
  finds_body : BodyStands bytes x (find_body T d) × BodyPlaced x (body_place T d)
  finds_body =
      let same : number ≡ d = λ j. record { 0 = i j } in
      subst (λ (y : std.Option ℕ). BodyStands bytes y (find_body T d) × BodyPlaced y (body_place T d)) m
      (subst (λ (y : TacticNo). BodyStands bytes o (find_body T y) × BodyPlaced o (body_place T y)) same (f T st))

  pub body_stands : BodyStands bytes x (find_body T d)
  body_stands = finds_body.0

  pub body_placed : BodyPlaced x (body_place T d)
  body_placed = finds_body.1
