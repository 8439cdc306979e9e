-- `check::check_flat` meets its contract: 29 with everything untouched, or the answer with the work space cleared.
-- Assumes nothing.
use mathlib.Core.Path.{◌≡◌, sym, ap, ◌∙◌}
use Prim.Native.Nat.{ℕ}
use native.Mathlib.Omega.{arith}
use lib.ListN.{length, replicate}
use Rattle.std.proofs.lemmas.Grind.{common_steps}
use Rattle.entries.specs.CheckFlat.{check_flat_outcome}
use Rattle.entries.specs.LentSpace.{Checked, counted_answer}
use Rattle.derivation.proofs.CheckLaws.{too_short, long_enough}
use Rattle.derivation.proofs.check.check_flat.Goals.{in-Ok, in-Ok-2}
use Rattle.derivation.proofs.check.check_flat.Goals as goal

pub returns-then-work-lt-WORK : goal.returns-then-work-lt-WORK
returns-then-work-lt-WORK c =
    let a = c.args in
    let e = too_short a.table.now a.flat.now a.work.now (omega (arith, c.if-work-lt-WORK.true)) in
    record { answer = c.refused.ensures ∙ sym (ap (λ (x : Checked). x.answer) e); work = sym (ap (λ (x : Checked). x.work) e) }

pub returns : goal.returns
returns c =
    let a = c.args in
    let e = long_enough a.table.now a.flat.now a.work.now (omega (arith, c.if-work-lt-WORK.false)) in
    let found : c.match-check_within.answer ≡ counted_answer (check_flat_outcome a.table.now a.flat.now) = elim c.match-check_within.branch [ in-Ok w ↦ grind (arith, common_steps) | in-Ok-2 w ↦ grind (arith, common_steps) ] in
    let same : length c.check_within.new.work ≡ length a.work.now = c.check_within.auto.work in record { answer = found ∙ sym (ap (λ (x : Checked). x.answer) e); work = c.clear.ensures ∙ ap (λ (k : ℕ). replicate k 0) same ∙ sym (ap (λ (x : Checked). x.work) e) }
