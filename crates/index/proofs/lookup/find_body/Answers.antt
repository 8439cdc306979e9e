-- `lookup::find_body` meets its contract, by where the search ends.
-- Assumes nothing.
use mathlib.Core.Path.{sym, ◌∙◌}
use native.Mathlib.Omega.{arith}
use Rattle.tables.specs.declared.repeats.Repeat.TheVariants as K
use Rattle.index.proofs.AnswerLaws.{Only, none_at, some_at}
use Rattle.index.proofs.BodyLaws.{body_missing, inside, body_found}
use Rattle.index.proofs.lookup.find_body.Goals as goal
use Rattle.index.proofs.lookup.find_body.Goals.{In_ok-found}

only : (c : In_ok-found) → Only K.Tactic c.args.table.now c.requires.1.0 c.args.w.now c.args.base c.requires.1.2.0 c.requires.1.2.1 c.args.tactic.0 0 c.in_ok-found.found.node c.in_ok-found.found.place
only c = some_at _ _ _ _ _ _ c.requires.1.2.1 _ _ _ c.seek.ensures _ (sym c.ok.ensures.value ∙ c.in_ok-found.was)

pub seek-requires : goal.seek-requires
seek-requires c = (c.requires.1.2.0, c.requires.1.2.1.sound)

pub overflow_add-result : goal.overflow_add-result
overflow_add-result c = omega (arith, inside _ _ _ _ c.requires.1 c.requires.0.0 c.requires.0.1 _ _ _ (only (goal.at.overflow_add-result c).In_ok-found))

pub returns : goal.returns
returns c = body_found _ _ _ _ c.requires.1 c.requires.0.0 c.requires.0.1 _ _ _ (only (goal.at.returns c).In_ok-found)

pub returns-in_err-found : goal.returns-in_err-found
returns-in_err-found c = rw c.from_residual.ensures (body_missing _ _ _ _ c.requires.1 c.requires.0.0 c.requires.0.1 _ (none_at _ _ _ _ _ _ c.requires.1.2.1 _ _ _ c.seek.ensures (sym c.ok.ensures.value ∙ c.in_err-found.was)))
