-- `Pending::push` meets its contract: nothing for a rule without premises, else a cursor more.
-- Assumes nothing.
use Rattle.derivation.proofs.PendingLaws.{push_none, push_list}
use Rattle.derivation.proofs.pending.Pending.push.Goals as goal

pub returns-then-count-eq0 : goal.returns-then-count-eq0
returns-then-count-eq0 c = λ flat roots h. push_none _ _ _ _ _ _ h _ c.load16-len.ensures c.if-count-eq0.true

pub returns : goal.returns
returns c = λ flat roots h. push_list _ _ _ _ _ _ h _ c.load16-len.ensures c.requires.0 c.if-count-eq0.false _ _ c.store16.ensures c.store16-2.ensures c.requires.2
