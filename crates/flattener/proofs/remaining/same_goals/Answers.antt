-- `remaining::same_goals` meets its contract: as many goals, and each the same.
-- Assumes nothing.
use Rattle.std.proofs.Common.{ℕ, sym, ap, ◌∙◌}
use borrow.Author.Tests.{ne_eqb}
use Rattle.format.specs.Goals.{goals_at}
use Rattle.entries.specs.Check.{same_goals}
use Rattle.walks.specs.Values.{values_at}
use Rattle.nodes.specs.Space.{goals_in}
use Rattle.flattener.proofs.RemainingLaws.{other_lengths, below_each, decided}
use Rattle.flattener.proofs.remaining.same_goals.Goals as goal

pub each_same-requires-clause-nodes : goal.each_same-requires-clause-nodes
each_same-requires-clause-nodes c = below_each _ c.args.proof.now c.args.from _ _ c.requires.0

pub returns-then-given-stated : goal.returns-then-given-stated
returns-then-given-stated c =
    let a = c.args in
    decided _ _ _ _ _ c.each_same.ensures.same c.each_same.ensures.other
    ∙ ap (λ (n : ℕ). same_goals (goals_in a.work.now (values_at a.work.now 0 a.given)) (goals_at a.proof.now a.from n)) c.if-given-stated.true

pub returns-else-given-stated : goal.returns-else-given-stated
returns-else-given-stated c = ne_eqb _ _ c.if-given-stated.false ∙ sym (other_lengths _ _ _ _ _ _ c.if-given-stated.false)
