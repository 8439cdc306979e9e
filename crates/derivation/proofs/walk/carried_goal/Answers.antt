-- `walk::carried_goal` meets its contract, by the tag of the entry.
-- Assumes nothing.
use mathlib.Core.Path.{sym, ◌∙◌}
use Rattle.derivation.proofs.EntryLaws.{use_goal, open_goal, as_told}
use Rattle.derivation.proofs.walk.carried_goal.Goals as goal

pub returns-then-flat-at-eq-USE_TAG : goal.returns-then-flat-at-eq-USE_TAG
returns-then-flat-at-eq-USE_TAG c = as_told _ _ c.value_at.ensures ∙ sym (use_goal _ _ c.if-flat-at-eq-USE_TAG.true)

pub returns-else-flat-at-eq-USE_TAG : goal.returns-else-flat-at-eq-USE_TAG
returns-else-flat-at-eq-USE_TAG c = as_told _ _ c.value_at-else-flat-at-eq-USE_TAG.ensures ∙ sym (open_goal _ _ c.if-flat-at-eq-USE_TAG.false)
