-- `check::check` meets its contract: 29 before anything is read, else the answer of `check_files` on the bytes that are read of the proof file, and the work space cleared.
-- Assumes nothing.
use mathlib.Core.Path.{sym, ap, subst, ◌∙◌}
use mathlib.Core.List.{List}
use Prim.Native.Nat.{ℕ, ◌<◌}
use native.Mathlib.Omega.{arith}
use lib.ListN.{length, replicate}
use Rattle.files.proofs.EmptyProof.{some_read}
use Rattle.entries.specs.LentSpace.{Checked, counted_answer}
use Rattle.entries.specs.Check.{on_proof, proof_counts}
use Rattle.entries.proofs.ProofFiles.{bytes_read}
use Rattle.checker.proofs.CheckLaws.{too_short, long_enough}
use Rattle.checker.proofs.check.check.Goals as goal

pub returns-then-work-lt-WORK : goal.returns-then-work-lt-WORK
returns-then-work-lt-WORK c =
    let a = c.args in
    let o = too_short a.table.now a.proof.now a.work.now c.if-work-lt-WORK.true in
    record { value = c.refused.ensures ∙ ap (λ (x : Checked). x.answer) (sym o); work_after = ap (λ (x : Checked). x.work) (sym o) }

-- the bytes to read are not none
pub check_files-answer-requires : goal.check_files-answer-requires
check_files-answer-requires c =
    let read = c.or_empty_proof-file.ensures in
    (subst (λ (l : List ℕ). 0 < length l) (sym read) (some_read c.args.proof.now), omega (arith, c.if-work-lt-WORK.false))

pub returns : goal.returns
returns c =
    let a = c.args in
    let o = long_enough a.table.now a.proof.now a.work.now c.if-work-lt-WORK.false in
    let read = c.or_empty_proof-file.ensures in record { value = c.check_files-answer.ensures ∙ ap (λ (s : List ℕ). counted_answer (on_proof proof_counts a.table.now s)) read ∙ ap counted_answer (bytes_read proof_counts a.table.now a.proof.now) ∙ ap (λ (x : Checked). x.answer) (sym o); work_after = c.clear.ensures ∙ ap (λ (n : ℕ). replicate n 0) c.check_files-answer.auto.work ∙ ap (λ (x : Checked). x.work) (sym o) }
