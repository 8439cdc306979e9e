-- `last::write_last` meets its contract: the term to begin. Assumes nothing.
use Rattle.saver.proofs.LastLaws.{last_written}
use Rattle.saver.proofs.last.write_last.Goals as goal

pub returns : goal.returns
returns c =
    let a = c.args in
    last_written a.work.now a.s a.to c.requires _ _ c.write_frame.ensures
