-- `fields::write_header` meets its contract: the tag first, then the length.
-- Assumes nothing.
use mathlib.Core.Path.{◌∙◌}
use Rattle.writer.proofs.Lent.{header_stored}
use Rattle.writer.proofs.fields.write_header.Goals as goal

pub returns : goal.returns
returns c =
    let a = c.args in
    c.store16.ensures ∙ header_stored a.out.now a.tag a.len c.requires.0
