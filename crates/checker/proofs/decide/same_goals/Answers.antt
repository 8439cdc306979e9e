-- `decide::same_goals` meets its contract: as many goals, and each the same.
-- Assumes nothing.
use Rattle.std.proofs.Common.{ℕ, sym, ap, ◌∙◌}
use borrow.Author.Tests.{ne_eqb}
use Rattle.format.specs.Goals.{goals_at}
use Rattle.entries.specs.Check.{same_goals}
use Rattle.checker.proofs.SameGoals.{other_lengths, decided}
use Rattle.checker.proofs.decide.same_goals.Goals as goal

pub returns-then-given-stated : goal.returns-then-given-stated
returns-then-given-stated c =
    let a = c.args in
    decided _ _ _ _ _ c.each_same.ensures.same c.each_same.ensures.other
    ∙ ap (λ (n : ℕ). same_goals (goals_at a.space.now 0 a.given) (goals_at a.proof.now a.from n)) c.if-given-stated.true

pub returns-else-given-stated : goal.returns-else-given-stated
returns-else-given-stated c = ne_eqb _ _ c.if-given-stated.false ∙ sym (other_lengths _ _ _ _ _ _ c.if-given-stated.false)
