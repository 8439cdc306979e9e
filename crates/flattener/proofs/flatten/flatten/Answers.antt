-- `flatten::flatten` meets its contract: 29 before anything is read, else the answer of `flatten_files` on the bytes that are read of the proof file, and the work space cleared.
-- Assumes nothing.
use mathlib.Core.Path.{◌≡◌, sym, ap, subst, ◌∙◌}
use mathlib.Core.List.{List, []}
use Prim.Native.Nat.{ℕ, ◌<◌}
use native.Mathlib.Omega.{arith}
use lib.ListN.{length, replicate}
use Rattle.std.proofs.lemmas.Grind.{common_steps}
use Rattle.files.proofs.EmptyProof.{some_read}
use Rattle.entries.specs.Outcomes.{Outcome}
use Rattle.entries.specs.LentSpace.{Written, write_out}
use Rattle.entries.specs.Check.{on_proof, forest_file}
use Rattle.entries.proofs.ProofFiles.{bytes_read}
use Rattle.flattener.proofs.FlattenLaws.{too_short, long_enough}
use Rattle.flattener.proofs.flatten.flatten.Goals.{in-Ok, in-Ok-2}
use Rattle.flattener.proofs.flatten.flatten.Goals as goal

pub returns-then-work-lt-WORK : goal.returns-then-work-lt-WORK
returns-then-work-lt-WORK c =
    let a = c.args in
    let o = too_short a.table.now a.proof.now a.work.now a.out.now (omega (arith, c.if-work-lt-WORK.true)) in
    record { answer = c.refused.ensures ∙ ap (λ (x : Written). x.answer) (sym o); work = ap (λ (x : Written). x.work) (sym o); out = ap (λ (x : Written). x.out) (sym o) }

-- the bytes to read are not none
pub flatten_files-requires : goal.flatten_files-requires
flatten_files-requires c =
    let read = c.or_empty_proof-file.ensures in
    (subst (λ (l : List ℕ). 0 < length l) (sym read) (some_read c.args.proof.now), omega (arith, c.if-work-lt-WORK.false))

pub returns : goal.returns
returns c =
    let a = c.args in
    let o = long_enough a.table.now a.proof.now a.work.now a.out.now (omega (arith, c.if-work-lt-WORK.false)) in
    let found : c.match-flatten_files.answer ≡ (write_out [] a.out.now (on_proof forest_file a.table.now c.or_empty_proof-file.result.now)).answer = elim c.match-flatten_files.branch [ in-Ok w ↦ grind (arith, common_steps) | in-Ok-2 w ↦ grind (arith, common_steps) ] in
    let same = ap (on_proof forest_file a.table.now) c.or_empty_proof-file.ensures ∙ bytes_read forest_file a.table.now a.proof.now in record { answer = found ∙ ap (λ (x : Outcome (List ℕ)). (write_out [] a.out.now x).answer) same ∙ sym o.answer_same; work = c.clear.ensures ∙ ap (λ (n : ℕ). replicate n 0) c.flatten_files.auto.work ∙ sym o.work_is; out = c.flatten_files.ensures.out ∙ ap (λ (x : Outcome (List ℕ)). (write_out [] a.out.now x).out) same ∙ sym o.out_same }
