-- `check::check_within` meets its contract: how the two files read, and what the check of the entries gives, says which case of the outcome holds.
-- Assumes nothing.
use Rattle.std.proofs.Common.{◌≡◌, ◌∙◌, sym, arith}
use Rattle.std.specs.Prelude.{Ok, Err}
use Rattle.std.proofs.lemmas.Grind.{common_steps}
use Rattle.format.specs.Refusals.{number}
use Rattle.answers.specs.Answers.{refusal}
use Rattle.derivation.specs.CheckedEntries.{FilesStand}
use Rattle.derivation.proofs.CheckLaws.{either, refused_files, refused_entries, all_counted}
use Rattle.derivation.proofs.check.check_within.Goals.{In_ok-read}
use Rattle.derivation.proofs.check.check_within.Goals as goal

pub returns-in_err-read : goal.returns-in_err-read
returns-in_err-read c =
    let made : c.from_residual.result ≡ Err c.in_err-read.field-0.0 = grind (arith, common_steps) in
    rw made (refused_files _ _ _ c.in_err-read.ensures)

-- both files were read
stand : (c : In_ok-read) → FilesStand c.args.table.now c.args.flat.now c.read_files.new.work c.in_ok-read.read.rules c.in_ok-read.read.parts
stand c = c.in_ok-read.ensures

pub returns-in_err-found : goal.returns-in_err-found
returns-in_err-found c =
    let f = stand (goal.at.returns-in_err-found c).In_ok-read in
    either c.check_entries-checked.result
    (λ p is. absurd (grind (arith, common_steps)))
    (λ e is.
    let made : c.from_residual-in_err-found.result ≡ Err (refusal (number e.cause) 2 e.place 0) = grind (arith, common_steps) in
    rw made (refused_entries _ _ f e (sym (c.check_entries-checked.ensures.value f.the_table f.derivation f.stands f.at) ∙ is)))

pub returns : goal.returns
returns c =
    let f = stand (goal.at.returns c).In_ok-read in
    let is : c.check_entries-checked.result ≡ Ok c.in_ok-found.found = grind (arith, common_steps) in
    c.counted.ensures ∙ all_counted _ _ f _ (sym (c.check_entries-checked.ensures.value f.the_table f.derivation f.stands f.at) ∙ is)
