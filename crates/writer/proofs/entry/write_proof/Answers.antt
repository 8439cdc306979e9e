-- `entry::write_proof` meets its contract: 29 with everything untouched, or the answer and the output with the work space cleared.
-- Assumes nothing.
use mathlib.Core.Path.{◌≡◌, ap, ◌∙◌}
use Prim.Native.Nat.{ℕ}
use native.Mathlib.Omega.{arith}
use lib.ListN.{replicate}
use Rattle.format.specs.Refusals.{number}
use Rattle.std.proofs.lemmas.Grind.{common_steps}
use Rattle.entries.specs.Left.{left_in}
use Rattle.entries.specs.CheckFlat.{write_outcome, write_proof_work, write_proof}
use Rattle.entries.proofs.LeftLaws.{unbegun_end, begun_end}
use Rattle.writer.proofs.entry.write_proof.Goals.{in-Ok, in-Ok-2}
use Rattle.writer.proofs.entry.write_proof.Goals as goal

pub returns-then-work-lt-WORK : goal.returns-then-work-lt-WORK
unfolding write_proof number
returns-then-work-lt-WORK c =
    let a = c.args in
    let e = unbegun_end write_proof_work a.work.now a.out.now (write_outcome a.table.now a.flat.now) _ (omega (arith, c.if-work-lt-WORK.true)) c.refused.ensures in
    record { answer = e.0; work = e.1.0; out = e.1.1 }

pub returns : goal.returns
unfolding write_proof
returns c =
    let a = c.args in
    let found : c.match-write_within.answer ≡ (left_in a.out.now (write_outcome a.table.now a.flat.now)).answer = elim c.match-write_within.branch [ in-Ok w ↦ grind (arith, common_steps) | in-Ok-2 w ↦ grind (arith, common_steps) ] in
    let e = begun_end write_proof_work a.work.now a.out.now (write_outcome a.table.now a.flat.now) _ _ _ (omega (arith, c.if-work-lt-WORK.false)) found (c.clear.ensures ∙ ap (λ (k : ℕ). replicate k 0) c.write_within.auto.work) c.write_within.ensures.out in
    record { answer = e.0; work = e.1.0; out = e.1.1 }
