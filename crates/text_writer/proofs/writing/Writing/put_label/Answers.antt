-- `Writing::put_label` meets its contract: the number and the two square brackets are the bytes of the label.
-- Assumes nothing.
use Rattle.text_writer.proofs.CodeLaws.{label_done}
use Rattle.text_writer.proofs.writing.Writing.put_label.Goals as goal

pub returns : goal.returns
returns c = let d = label_done c.args.work.now c.args.self _ _ _ _ c.load16-v.ensures c.put_numbered-n.ensures.written _ c.after.ensures in record { value = d.0; work_after = d.1 }
