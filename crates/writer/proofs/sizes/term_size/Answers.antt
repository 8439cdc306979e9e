-- `sizes::term_size` meets its contract: by whether there are entries.
-- Assumes nothing.
use Rattle.writer.proofs.SizeLaws.{no_entries-size, some_entries-size}
use Rattle.writer.proofs.sizes.term_size.Goals as goal

pub returns-then-uses-opens-eq0 : goal.returns-then-uses-opens-eq0
returns-then-uses-opens-eq0 c = no_entries-size _ _ c.if-uses-opens-eq0.true

pub returns : goal.returns
returns c = some_entries-size _ _ c.if-uses-opens-eq0.false
