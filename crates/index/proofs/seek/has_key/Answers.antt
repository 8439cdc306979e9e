-- `seek::has_key` meets its contract: both values are compared at once.
-- Assumes nothing.
use native.Mathlib.Omega.{arith}
use Rattle.index.proofs.JoinLaws.{joined_key}
use Rattle.index.proofs.seek.has_key.Goals as goal

pub returns : goal.returns
returns c = joined_key c.args.s.now (λ k. omega (arith, c.type_inv.s k)) _ _ c.args.value c.args.more _ _ (omega arith) (omega arith) c.joined.ensures c.joined_at.ensures
