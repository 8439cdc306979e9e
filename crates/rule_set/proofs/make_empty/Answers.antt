-- `make_empty` meets its contract: the count is stored, then all bits are cleared.
-- Assumes nothing.
use mathlib.Core.Path.{◌≡◌, ◌∙◌}
use lib.ListN.{length}
use Rattle.rule_set.proofs.EmptyLaws.{empty_set, empty_kept}
use Rattle.rule_set.proofs.make_empty.Goals as goal

pub returns : goal.returns
returns c =
    let size : length c.clear_part.new.s ≡ length c.args.w.now = c.clear_part.auto.s ∙ c.store16.auto.s in
    record {
      empty = empty_set c.args.w.now c.store16.new.s c.clear_part.new.s c.args.base c.store16.ensures c.requires size c.clear_part.ensures;
      kept = empty_kept c.args.w.now c.store16.new.s c.clear_part.new.s c.args.base c.store16.ensures c.requires size c.clear_part.ensures;
    }
