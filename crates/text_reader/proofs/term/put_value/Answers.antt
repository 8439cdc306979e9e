-- `term::put_value` meets its contract: the value is stored.
-- Assumes nothing.
use mathlib.Core.Path.{ap, ◌∙◌}
use lib.ListN.{drop}
use Rattle.text_reader.proofs.StoreLaws.{put_value}
use Rattle.text_reader.proofs.term.put_value.Goals as goal

pub returns : goal.returns
returns c = ap (drop c.args.at) c.store16.ensures ∙ put_value c.args.out.now _ _ c.requires
