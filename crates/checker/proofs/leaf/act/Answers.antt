-- `leaf::act` meets its contract: the tag says which term stands there.
-- Assumes nothing.
use native.Mathlib.Omega.{arith}
use lib.ListN.{get_or}
use mathlib.Core.Path.{◌≡◌, subst}
use mathlib.Core.List.{List}
use Prim.Native.Nat.{ℕ, ◌+◌}
use Rattle.words.specs.Word.{word}
use Rattle.format.specs.declared.values.RuleName.{RuleName}
use Rattle.format.specs.Values.{rule_name}
use Rattle.format.specs.Terms.{Term, atomic}
use Rattle.format.specs.Standing.{Stands}
use Rattle.format.proofs.StandsLaws.{known}
use Rattle.format.proofs.ByTag.{by_tag}
use Rattle.tables.specs.Tables.{Table}
use Rattle.walks.specs.declared.state.Next.{Next}
use Rattle.std.specs.Prelude.{Err}
use Rattle.std.specs.Prelude as std
use Rattle.format.specs.declared.refusals.Cause.{Cause}
use Rattle.format.specs.declared.refusals.Cause.TheVariants.{GoalCountWrong}
use Rattle.walks.specs.declared.state.Ended.{Ended}
use Rattle.checker.specs.Acts.{Acts}
use Rattle.checker.proofs.OtherTerms.{if_other}
use Rattle.checker.proofs.LeafLaws.{some_atomic, other_alternation, other_assert, other_defined}
use Rattle.checker.proofs.leaf.act.Goals as goal

-- the atomic whose name the code read
named : (T : Table) (s : List ℕ) (at : ℕ) (w w' : List ℕ) (n : Next) (r : std.Result Ended Cause) → get_or s at 0 ≡ 16 → Acts T (atomic (rule_name (word s (at + 3)))) at w w' n r → (t : Term) → Stands s at t → Acts T t at w w' n r
named T s at w w' n r e x = by_tag s at (λ t. Acts T t at w w' n r) 16 (λ a v. subst (λ (b : RuleName). Acts T (atomic b) at w w' n r) (λ i. record { 0 = v.value_is i }) x) e

pub bounds-proof-at : goal.bounds-proof-at
bounds-proof-at c = omega (arith, known _ _ _ c.requires.1.1.stands)

pub take_rule-requires : goal.take_rule-requires
take_rule-requires c =
    let r = c.requires.1.1 in
    let a = some_atomic _ _ _ c.args.n c.requires.1.0 r c.in-16.is in
    (c.requires.0, a.0, a.1, r.below, r.space, c.requires.3, c.requires.4)

pub returns-in-16 : goal.returns-in-16
returns-in-16 c = λ T t st r. named T _ _ _ _ _ _ c.in-16.is (c.take_rule.ensures T st) t r.stands

pub keep_goal-requires : goal.keep_goal-requires
keep_goal-requires c = let r = c.requires.1.1 in (omega (arith, r.apart), r.below, r.space)

pub returns-in-17 : goal.returns-in-17
returns-in-17 c =
    let ActsAt : Table → List ℕ → std.Result Ended Cause → Term → Type 0 = (λ T w' r t. Acts T t c.args.at c.args.work.now w' c.args.n r) in
    λ T t st r. by_tag _ _ (ActsAt T c.keep_goal.new.work c.keep_goal.result) 17 (c.keep_goal.ensures T c.args.at) c.in-17.is t r.stands

pub returns-in-21 : goal.returns-in-21
returns-in-21 c =
    let ActsAt : Table → List ℕ → std.Result Ended Cause → Term → Type 0 = (λ T w' r t. Acts T t c.args.at c.args.work.now w' c.args.n r) in
    λ T t st r. by_tag _ _ (ActsAt T c.args.work.now c.take_nothing.result) 21 (c.take_nothing.ensures T c.args.at c.args.work.now) c.in-21.is t r.stands

pub returns-in_default : goal.returns-in_default
returns-in_default c =
    let ActsAt : Table → List ℕ → std.Result Ended Cause → Term → Type 0 = (λ T w' r t. Acts T t c.args.at c.args.work.now w' c.args.n r) in
    let l = c.requires.2 in
    λ T t st r. if_other _ _ (ActsAt T c.args.work.now (Err GoalCountWrong)) (other_alternation T _ _ _) (other_assert T _ _ _) (other_defined T _ _ _) (λ e. omega arith) (λ e. omega arith) l.0 l.1 l.2 (λ e. omega arith) t r.stands
