-- `answer_for` meets its contract: the check program's definition, by whether the proof was opened.
-- Assumes nothing.
use mathlib.Core.Path.{sym, ap, ◌∙◌}
use mathlib.Core.Bool.{Bool}
use Rattle.entries.specs.LentSpace.{Checked}
use Rattle.entries.specs.CheckProgram.{check_program}
use Rattle.entries.proofs.ProofFiles.{opened_checks, unopened_checks}
use Rattle.check_kit.proofs.answer_for.Goals as goal

pub returns-then-opened : goal.returns-then-opened
returns-then-opened c =
    let outcome : (opened : Bool) → Checked = (λ b. check_program c.args.table.now c.args.proof.now b c.args.work.now) in
    let e = ap outcome c.if-opened.true ∙ opened_checks c.args.table.now c.args.proof.now c.args.work.now in
    record { value = c.check.ensures.value ∙ ap (λ (x : Checked). x.answer) (sym e); work_after = c.check.ensures.work_after ∙ ap (λ (x : Checked). x.work) (sym e) }

pub returns-else-opened : goal.returns-else-opened
returns-else-opened c =
    let outcome : (opened : Bool) → Checked = (λ b. check_program c.args.table.now c.args.proof.now b c.args.work.now) in
    let e = ap outcome c.if-opened.false ∙ unopened_checks c.args.table.now c.args.proof.now c.args.work.now 0 in
    record { value = c.check-else-opened.ensures.value ∙ ap (λ (x : Checked). x.answer) (sym e); work_after = c.check-else-opened.ensures.work_after ∙ ap (λ (x : Checked). x.work) (sym e) }
