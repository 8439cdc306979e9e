-- `lookup::find_rule` meets its contract, by where the search ends.
-- Assumes nothing.
use mathlib.Core.Path.{sym, ◌∙◌}
use native.Mathlib.Omega.{arith}
use Rattle.tables.specs.declared.repeats.Repeat.TheVariants as K
use Rattle.index.proofs.AnswerLaws.{Only, none_at, some_at}
use Rattle.index.proofs.FindLaws.{rule_missing_lem, bounds, rule_found_lem}
use Rattle.index.proofs.lookup.find_rule.Goals as goal
use Rattle.index.proofs.lookup.find_rule.Goals.{In_ok-found}

only : (c : In_ok-found) → Only K.Rule c.args.table.now c.requires.1.0 c.args.w.now c.args.base c.requires.1.2.0 c.requires.1.2.1 c.args.name.0 c.args.goal.0 c.in_ok-found.found.node c.in_ok-found.found.place
only c = some_at _ _ _ _ _ _ c.requires.1.2.1 _ _ _ c.seek.ensures _ (sym c.ok.ensures.value ∙ c.in_ok-found.was)

pub seek-requires : goal.seek-requires
seek-requires c = (c.requires.1.2.0, c.requires.1.2.1.sound)

pub overflow_add-found : goal.overflow_add-found
overflow_add-found c = omega (arith, bounds _ _ _ _ c.requires.1 c.requires.0.0 c.requires.0.1 _ _ _ _ (only (goal.at.overflow_add-found c).In_ok-found))

pub load16-len-requires : goal.load16-len-requires
load16-len-requires c = omega (arith, bounds _ _ _ _ c.requires.1 c.requires.0.0 c.requires.0.1 _ _ _ _ (only (goal.at.load16-len-requires c).In_ok-found))

pub overflow_add-result : goal.overflow_add-result
overflow_add-result c = omega (arith, bounds _ _ _ _ c.requires.1 c.requires.0.0 c.requires.0.1 _ _ _ _ (only (goal.at.overflow_add-result c).In_ok-found))

pub overflow_sub-result : goal.overflow_sub-result
overflow_sub-result c = omega (arith, bounds _ _ _ _ c.requires.1 c.requires.0.0 c.requires.0.1 _ _ _ _ (only (goal.at.overflow_sub-result c).In_ok-found), c.load16-len.ensures)

pub returns : goal.returns
returns c = rule_found_lem _ _ _ _ c.requires.1 c.requires.0.0 c.requires.0.1 _ _ _ _ (only (goal.at.returns c).In_ok-found) _ c.load16-len.ensures

pub returns-in_err-found : goal.returns-in_err-found
returns-in_err-found c = rw c.from_residual.ensures (rule_missing_lem _ _ _ _ c.requires.1 c.requires.0.0 c.requires.0.1 _ _ (none_at _ _ _ _ _ _ c.requires.1.2.1 _ _ _ c.seek.ensures (sym c.ok.ensures.value ∙ c.in_err-found.was)))
