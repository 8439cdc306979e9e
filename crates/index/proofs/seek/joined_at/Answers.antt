-- `seek::joined_at` meets its contract, by what is repeated.
-- Assumes nothing.
use native.Mathlib.Omega.{arith}
use Rattle.tables.proofs.SearchLaws.{value_inside, goal_inside}
use Rattle.index.proofs.JoinLaws.{rule_joined, other_joined}
use Rattle.index.proofs.seek.joined_at.Goals as goal

pub low16-first-requires : goal.low16-first-requires
low16-first-requires c = omega (arith, value_inside c.args.kind c.args.s.now c.args.at c.requires.0 c.requires.1)

pub low16-requires : goal.low16-requires
low16-requires c = omega (arith, goal_inside c.args.kind c.args.s.now c.args.at c.requires.0 c.in-Rule.is c.requires.1)

pub returns-in-Rule : goal.returns-in-Rule
returns-in-Rule c = rw c.in-Rule.is (rule_joined c.args.s.now (λ k. omega (arith, c.type_inv.s k)) _ _ _ c.low16-first.ensures.0 c.low16.ensures.0)

pub returns-in_default : goal.returns-in_default
returns-in_default c = other_joined c.args.s.now (λ k. omega (arith, c.type_inv.s k)) _ _ c.in_default.not-Rule _ c.low16-first.ensures.0
