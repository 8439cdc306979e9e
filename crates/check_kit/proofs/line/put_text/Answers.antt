-- `put_text` meets its contract: the whole text is copied.
-- Assumes nothing.
use Rattle.check_kit.proofs.LineLaws.{puts_text}
use Rattle.check_kit.proofs.line.put_text.Goals as goal

pub returns : goal.returns
returns c = puts_text c.requires c.copy_in.ensures
