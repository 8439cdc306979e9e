-- `entry::write_within` meets its contract: the file is refused, or its term stands in it.
-- Assumes nothing.
use mathlib.Core.Path.{sym, ap, ◌∙◌}
use mathlib.Core.List.{List}
use Prim.Native.Nat.{ℕ}
use native.Mathlib.Omega.{arith}
use Rattle.entries.specs.Outcomes.{Outcome}
use Rattle.entries.specs.LentSpace.{Written}
use Rattle.entries.specs.Left.{left_in}
use Rattle.text_writer.proofs.EntryLaws.{refused_place, refused_file, found_file}
use Rattle.text_writer.proofs.entry.write_within.Goals as goal

pub refused-requires : goal.refused-requires
refused-requires c = (refused_place _ _ (sym c.read_term_file.ensures.value ∙ c.in-Err.is), omega arith)

pub write_found-requires : goal.write_found-requires
write_found-requires c =
    let f = found_file _ (sym c.read_term_file.ensures.value ∙ c.in-Ok.is) in
    (omega (arith, c.read_term_file.auto.work, c.requires), (f.term, f.stands))

pub returns-in-Err : goal.returns-in-Err
returns-in-Err c =
    let a = c.args in
    let e = refused_file a.term.now a.out.now _ (sym c.read_term_file.ensures.value ∙ c.in-Err.is) in
    record { answer = c.refused.ensures ∙ ap (λ (x : Written). x.answer) e; out = ap (λ (x : Written). x.out) e }

pub returns-in-Ok : goal.returns-in-Ok
returns-in-Ok c =
    let o = c.args.out.now in
    let f = found_file _ (sym c.read_term_file.ensures.value ∙ c.in-Ok.is) in
    let w = c.write_found.ensures in
    record { answer = w.answer f.term f.stands ∙ ap (λ (x : Outcome (List ℕ)). (left_in o x).answer) (sym f.outcome_is); out = w.out f.term f.stands ∙ ap (λ (x : Outcome (List ℕ)). (left_in o x).out) (sym f.outcome_is) }
