-- `clear_part` meets its contract: the part is lent, cleared and given back.
-- Assumes nothing.
use Prim.Native.Nat.{◌+◌}
use mathlib.Core.Path.{refl}
use Rattle.words.proofs.BlankLaws.{blank_part}
use Rattle.words.proofs.clear_part.Goals as goal

pub returns : goal.returns
returns c = blank_part c.args.from (c.args.from + c.args.n) c.args.n c.args.s.now c.clear.new.s refl c.requires c.clear.ensures
