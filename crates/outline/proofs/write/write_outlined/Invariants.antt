-- `write::write_outlined`: the terms of the fields from the place on are held, and the outline is as it was.
use Rattle.std.proofs.Common.{◌*◌}
use Rattle.outline.proofs.WholeLaws.{Turn}
use Rattle.outline.proofs.write.write_outlined.Given as goal

abbrev pub invariant-loop-field : goal.invariant-loop-field
invariant-loop-field l = Turn l.initial.work l.work l.count l.end (l.field * 3) l.held.front l.held.low l.held.last
