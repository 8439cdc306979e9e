-- What a term without inner terms does with its goals: the walk of hitac, over values in bytes.
use Rattle.std.specs.Prelude.{ℕ, ◌+◌, ◌*◌, ◌≤◌, ◌≡◌, List, ◌++◌, map, length, Ok, Err}
use Rattle.std.specs.Prelude as std
use Rattle.words.specs.Kept.{Kept}
use Rattle.format.specs.declared.values.Goal.{Goal}
use Rattle.format.specs.declared.refusals.Cause.{Cause}
use Rattle.format.specs.Results.{Result, gives, refused}
use Rattle.format.specs.Values.{goal}
use Rattle.format.specs.Terms.{Term}
use Rattle.format.specs.Standing.{Stands}
use Rattle.format.specs.Goals.{goals_at}
use Rattle.rule_set.specs.Sets.{RuleSet}
use Rattle.tables.specs.Tables.{Table}
use Rattle.index.specs.Build.{RulesIndexed}
use Rattle.hitac.specs.Hiproofs.{atomics}
use Rattle.hitac.specs.Walk.{walk}
use Rattle.hitac.specs.UsedRules.{walked_rules}
use Rattle.input_arities.specs.Layout.{stack_end, arities_end}
use Rattle.walks.specs.declared.state.Next.{Next}
use Rattle.walks.specs.declared.state.Ended.{Ended}
use Rattle.walks.specs.Values.{value_of}
use Rattle.walks.specs.Walks.{Out, out, Act}
use Rattle.checker.specs.Layout.{set_place, set_end}

-- a walk over goals, as one over values, with the numbers of the rules looked up so far
unfoldable pub of_goals : List ℕ → Result (List Goal) → Result (Out ℕ)
of_goals A (gives h) = gives (out A (map value_of h))
of_goals A (refused c p) = refused c p

-- the checker's terms act as the walk of hitac says; the rule that an atomic looks up comes behind those before it
unfoldable pub goal_act : Table → Act ℕ
goal_act T t at A ns = of_goals (A ++ walked_rules T t (map goal ns)) (walk T t at (map goal ns))

-- the goals that a term takes
abbrev pub goals_in : List ℕ → Next → List Goal
goals_in w n = goals_at w n.top n.count

-- the walk of a term on the goals that it takes
abbrev pub walk_in : Table → Term → (at : ℕ) → List ℕ → Next → Result (List Goal)
walk_in T t at w n = walk T t at (goals_in w n)

-- a term stands at a place, and there is room for what it gives
pub record LeafReady (s : List ℕ) (at : ℕ) (t : Term) (w : List ℕ) (n : Next) : Type 0 where
  pub stands : Stands s at t
  pub apart : n.low + 14 * atomics t ≤ n.top
  pub below : n.top + n.count * 2 ≤ stack_end
  pub space : arities_end ≤ length w

-- The index over the rules of the table stands behind the arities.
pub record Behind (table : List ℕ) (first : ℕ) (w : List ℕ) : Type 0 where
  pub index : RulesIndexed table first w arities_end

-- The term gave so many goals, at most seven more than it took for an atomic, with so many uses. The rule that it looked up is in the set; then it wrote between what it gives and the end of what it takes.
pub record Given (T : Table) (t : Term) (at : ℕ) (w w' : List ℕ) (n : Next) (given used : ℕ) : Type 0 where
  pub between : List ℕ
  pub in_set : Kept w between set_place set_end
  pub kept : Kept between w' n.low (n.top + n.count * 2)
  pub rules : (A : List ℕ) → RuleSet w set_place A → RuleSet w' set_place (A ++ walked_rules T t (goals_in w n))
  pub outcome : walk_in T t at w n ≡ gives (goals_at w' n.low given)
  pub used_is : used ≡ atomics t
  pub few : given ≤ n.count + 7 * used

-- the code's answer: refused at the term's place, with nothing written; or what it gave
unfoldable pub Acts : Table → Term → (at : ℕ) → (w w' : List ℕ) → Next → std.Result Ended Cause → Type 0
Acts T t at w w' n (Err c) = (walk_in T t at w n ≡ refused c at) × (w' ≡ w)
Acts T t at w w' n (Ok e) = Given T t at w w' n e.given e.uses
