-- `check_line` meets its contract: what `answer_for` answers is what its definition says, and the line is put for that answer.
-- Assumes nothing.
use mathlib.Core.Path.{subst}
use Rattle.answers.specs.declared.Answer.{Answer}
use Rattle.entries.specs.PrintedLine.{printed_line}
use Rattle.check_kit.specs.Line.{Puts}
use Rattle.check_kit.proofs.check_line.Goals as goal

pub returns : goal.returns
returns c =
    let answered = c.answer_for-answer.ensures in
    record { puts = subst (λ (a : Answer). Puts c.args.line.now 0 (printed_line a) c.put_line.new.line c.put_line.result) answered.value c.put_line.ensures; work_after = answered.work_after }
