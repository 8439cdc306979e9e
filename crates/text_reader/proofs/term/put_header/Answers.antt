-- `term::put_header` meets its contract: the tag and the length are stored one behind the other.
-- Assumes nothing.
use mathlib.Core.Path.{ap, ◌∙◌}
use native.Mathlib.Omega.{arith}
use lib.ListN.{drop, length-set}
use Rattle.text_reader.proofs.StoreLaws.{put-header_lem}
use Rattle.text_reader.proofs.term.put_header.Goals as goal

pub store16-requires : goal.store16-requires
store16-requires c = omega (arith, length-set c.args.out.now c.args.at c.args.tag)

pub shape_of-out : goal.shape_of-out
shape_of-out c = c.store16.auto.s ∙ length-set c.args.out.now _ _

pub returns : goal.returns
returns c = ap (drop c.args.at) c.store16.ensures ∙ put-header_lem c.args.out.now _ _ _ c.requires.0
