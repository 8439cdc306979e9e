-- `entry::read_text` meets its contract: 29, or what the reading leaves with the work space cleared.
-- Assumes nothing.
use mathlib.Core.Path.{ap, ◌∙◌}
use Prim.Native.Nat.{ℕ}
use lib.ListN.{replicate}
use Rattle.format.specs.Refusals.{number}
use Rattle.entries.specs.Texts.{read_text_work, read_text_outcome, read_text}
use Rattle.entries.proofs.LeftLaws.{unbegun_end, begun_end}
use Rattle.text_reader.proofs.entry.read_text.Goals as goal

pub returns-then-work-lt-WORK : goal.returns-then-work-lt-WORK
unfolding number read_text
returns-then-work-lt-WORK c =
    let a = c.args in
    let e = unbegun_end read_text_work a.work.now a.out.now (read_text_outcome a.text.now) _ c.if-work-lt-WORK.true c.refused.ensures in
    record { answer = e.0; work = e.1.0; out = e.1.1 }

pub returns : goal.returns
unfolding read_text
returns c =
    let a = c.args in
    let r = c.read_within-answer in
    let e = begun_end read_text_work a.work.now a.out.now (read_text_outcome a.text.now) _ _ _ c.if-work-lt-WORK.false r.ensures.answer (c.clear.ensures ∙ ap (λ (k : ℕ). replicate k 0) r.auto.work) r.ensures.out in
    record { answer = e.0; work = e.1.0; out = e.1.1 }
