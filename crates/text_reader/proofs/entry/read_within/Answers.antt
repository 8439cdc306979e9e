-- `entry::read_within` meets its contract: by what the scan tells.
-- Assumes nothing.
use mathlib.Core.Path.{sym, ap, ◌∙◌}
use native.Mathlib.Omega.{arith}
use Rattle.format.specs.Refusals.{number}
use Rattle.entries.specs.LentSpace.{Written}
use Rattle.text_reader.proofs.EntryLaws.{long_text, refused_place, refused_text_lem, found_prepared, found_text}
use Rattle.text_reader.proofs.entry.read_within.Goals as goal

pub returns-then-text-gt-MOST_BYTES : goal.returns-then-text-gt-MOST_BYTES
unfolding number
returns-then-text-gt-MOST_BYTES c =
    let a = c.args in
    let e = long_text a.text.now a.out.now c.if-text-gt-MOST_BYTES.true in
    record { answer = c.refused.ensures ∙ ap (λ (x : Written). x.answer) e; out = ap (λ (x : Written). x.out) e }

pub scan_text-requires : goal.scan_text-requires
scan_text-requires c = let l = c.if-text-gt-MOST_BYTES.false in (omega (arith, l), omega (arith, l, c.requires))

pub refused-requires-in-Err : goal.refused-requires-in-Err
refused-requires-in-Err c = (omega (arith, refused_place c.args.text.now _ (sym c.scan_text.ensures.value ∙ c.in-Err.is), c.if-text-gt-MOST_BYTES.false), omega arith)

pub write_found-requires : goal.write_found-requires
write_found-requires c =
    let told = c.in-Ok.is in
    (_, found_prepared c.args.text.now _ _ (sym c.scan_text.ensures.value ∙ told) c.in-Ok.ensures.by_index c.if-text-gt-MOST_BYTES.false (omega (arith, c.scan_text.auto.work, c.requires)))

pub returns-in-Err : goal.returns-in-Err
returns-in-Err c =
    let a = c.args in
    let e = refused_text_lem a.text.now a.out.now _ c.if-text-gt-MOST_BYTES.false (sym c.scan_text.ensures.value ∙ c.in-Err.is) in
    record { answer = c.refused-in-Err.ensures ∙ ap (λ (x : Written). x.answer) e; out = ap (λ (x : Written). x.out) e }

pub returns-in-Ok : goal.returns-in-Ok
returns-in-Ok c =
    let a = c.args in
    let told = c.in-Ok.is in
    let l = c.if-text-gt-MOST_BYTES.false in
    let p = found_prepared a.text.now _ _ (sym c.scan_text.ensures.value ∙ told) c.in-Ok.ensures.by_index l (omega (arith, c.scan_text.auto.work, c.requires)) in
    let e = found_text a.text.now a.out.now _ _ l (sym c.scan_text.ensures.value ∙ told) p in
    record { answer = c.write_found.ensures.answer _ p ∙ sym (ap (λ (x : Written). x.answer) e); out = c.write_found.ensures.out _ p ∙ sym (ap (λ (x : Written). x.out) e) }
