-- `entry::write_within` meets its contract: how the two files read, and what is written of them.
-- Assumes nothing.
use Rattle.std.proofs.Common.{◌≡◌, ◌∙◌, ap, arith}
use Rattle.std.specs.Prelude.{Err}
use Rattle.std.proofs.lemmas.Grind.{common_steps}
use Rattle.entries.specs.LentSpace.{Written}
use Rattle.derivation.specs.CheckedEntries.{FilesStand}
use Rattle.writer.proofs.EntryLaws.{refused_files, both_read}
use Rattle.writer.proofs.entry.write_within.Goals.{In_ok-read}
use Rattle.writer.proofs.entry.write_within.Goals as goal

pub returns-in_err-read : goal.returns-in_err-read
returns-in_err-read c =
    let made : c.from_residual.result ≡ Err c.in_err-read.field-0.0 = grind (arith, common_steps) in
    let left = refused_files _ _ c.args.out.now _ c.in_err-read.ensures in
    record { answer = rw made (ap (λ (x : Written). x.answer) left); out = ap (λ (x : Written). x.out) left }

-- both files were read
stand : (c : In_ok-read) → FilesStand c.args.table.now c.args.flat.now c.read_files.new.work c.in_ok-read.read.rules c.in_ok-read.read.parts
stand c = c.in_ok-read.ensures

pub returns : goal.returns
returns c =
    let f = stand (goal.at.returns c).In_ok-read in
    let w = c.write_entries.ensures in
    let left = both_read _ _ c.args.out.now f in
    record { answer = w.answer f.the_table f.derivation f.stands f.at ∙ ap (λ (x : Written). x.answer) left; out = w.out f.the_table f.derivation f.stands f.at ∙ ap (λ (x : Written). x.out) left }
