-- `entry::write_text` meets its contract: 29, or what the call leaves with the work space cleared.
-- Assumes nothing.
use mathlib.Core.Path.{ap, ◌∙◌}
use Prim.Native.Nat.{ℕ}
use native.Mathlib.Omega.{arith}
use lib.ListN.{replicate}
use Rattle.format.specs.Refusals.{number}
use Rattle.entries.specs.Texts.{write_text_work, write_text_outcome, write_text}
use Rattle.entries.proofs.LeftLaws.{unbegun_end, begun_end}
use Rattle.text_writer.proofs.entry.write_text.Goals as goal

pub returns-then-work-lt-WORK : goal.returns-then-work-lt-WORK
unfolding number write_text
returns-then-work-lt-WORK c =
    let a = c.args in
    let e = unbegun_end write_text_work a.work.now a.out.now (write_text_outcome a.term.now) _ (omega (arith, c.if-work-lt-WORK.true)) c.refused.ensures in
    record { answer = e.0; work = e.1.0; out = e.1.1 }

pub returns : goal.returns
unfolding write_text
returns c =
    let a = c.args in
    let e = begun_end write_text_work a.work.now a.out.now (write_text_outcome a.term.now) _ _ _ (omega (arith, c.if-work-lt-WORK.false)) c.write_within-answer.ensures.answer (c.clear.ensures ∙ ap (λ (k : ℕ). replicate k 0) c.write_within-answer.auto.work) c.write_within-answer.ensures.out in
    record { answer = e.0; work = e.1.0; out = e.1.1 }
