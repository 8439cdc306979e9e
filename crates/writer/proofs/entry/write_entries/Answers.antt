-- `entry::write_entries` meets its contract: 28, the refusal of the check, or what is written of a right file.
-- Assumes nothing.
use mathlib.Core.Path.{◌≡◌, sym, ap, ◌∙◌}
use Rattle.std.proofs.Common.{arith, ◌≤◌, ◌<◌, ◌+◌}
use Rattle.std.specs.Prelude.{List, ℕ, Ok, Err}
use Rattle.std.proofs.lemmas.Grind.{common_steps}
use Rattle.format.specs.Limits.{most_entries}
use Rattle.format.specs.Refusals.{number}
use Rattle.tables.specs.Tables.{Table}
use Rattle.tables.specs.Standing.{TableStands}
use Rattle.files.specs.declared.flats.FlatParts.{FlatParts}
use Rattle.files.specs.Derivations.{Derivation}
use Rattle.answers.specs.Answers.{refusal}
use Rattle.entries.specs.LentSpace.{Written}
use Rattle.derivation.specs.CheckedEntries.{DerivationAt}
use Rattle.derivation.proofs.CheckLaws.{either, parts_hold}
use Rattle.derivation.proofs.RuleLaws.{indexed_still}
use Rattle.writer.proofs.EntryLaws.{ends_28, ends_27, right_file, right-size, ends_right}
use Rattle.writer.proofs.entry.write_entries.Goals.{In_ok-found}
use Rattle.writer.proofs.entry.write_entries.Goals as goal

pub overflow_add-parts : goal.overflow_add-parts
overflow_add-parts c = let p = parts_hold _ _ _ c.requires.derivation_at.1 in omega (arith, p.few_uses, p.few_opens)

pub returns-then-parts-gt-MOST_ENTRIES : goal.returns-then-parts-gt-MOST_ENTRIES
returns-then-parts-gt-MOST_ENTRIES c =
    let many : most_entries < c.args.parts.uses + c.args.parts.opens = c.if-parts-gt-MOST_ENTRIES.true in
    record {
      answer = λ T d ts at. c.refused.ensures ∙ ap (λ (x : Written). x.answer) (ends_28 _ _ _ _ T d ts at c.args.out.now many);
      out = λ T d ts at. ap (λ (x : Written). x.out) (ends_28 _ _ _ _ T d ts at c.args.out.now many);
    }

pub returns-in_err-found : goal.returns-in_err-found
returns-in_err-found c =
    let few : c.args.parts.uses + c.args.parts.opens ≤ most_entries = c.if-parts-gt-MOST_ENTRIES.false in
    either c.check_entries-checked.result
    (λ p is. absurd (grind (arith, common_steps)))
    (λ e is.
    let made : c.from_residual.result ≡ Err (refusal (number e.cause) 2 e.place 0) = grind (arith, common_steps) in
    let left = λ (T : Table) (d : Derivation) (ts : TableStands c.args.table.now c.args.rules T) (at : DerivationAt c.args.flat.now c.args.parts d).
    ends_27 _ _ _ _ T d ts at c.args.out.now few e (sym (c.check_entries-checked.ensures.value T d ts at) ∙ is) in
    record { answer = λ T d ts at. rw made (ap (λ (x : Written). x.answer) (left T d ts at)); out = λ T d ts at. ap (λ (x : Written). x.out) (left T d ts at) })

-- the entries are right
counted : (c : In_ok-found) → c.check_entries-checked.result ≡ Ok c.in_ok-found.found
counted c = grind (arith, common_steps)

pub proof_size-size-requires : goal.proof_size-size-requires
proof_size-size-requires c =
    let few = rw (counted c) at c.check_entries-checked.ensures.few in
    ((parts_hold _ _ _ c.requires.derivation_at.1).few_roots, few.0, few.1)

pub write_right-requires : goal.write_right-requires
write_right-requires c =
    let q = c.requires in
    let few : c.args.parts.uses + c.args.parts.opens ≤ most_entries = c.if-parts-gt-MOST_ENTRIES.false in
    let checked = sym (c.check_entries-checked.ensures.value q.table_stands.0 q.derivation_at.0 q.table_stands.1 q.derivation_at.1) ∙ counted (goal.at.write_right-requires c).In_ok-found in
    let t = q.table_stands in
    let d = q.derivation_at in
    record {
      rules_indexed = indexed_still _ _ _ _ c.check_entries-checked.auto.work c.check_entries-checked.ensures.kept q.rules_indexed;
      table_stands = (
        right_file _ _ _ _ t.0 d.0 t.1 d.1 c.args.out.now few c.in_ok-found.found checked,
        t.1,
        right-size _ _ _ _ t.0 d.0 t.1 d.1 c.args.out.now few c.in_ok-found.found checked c.proof_size-size.result c.proof_size-size.ensures,
      );
    }

pub returns : goal.returns
returns c =
    let table : List ℕ = c.args.table.now in
    let flat : List ℕ = c.args.flat.now in
    let out : List ℕ = c.args.out.now in
    let parts : FlatParts = c.args.parts in
    let few : parts.uses + parts.opens ≤ most_entries = c.if-parts-gt-MOST_ENTRIES.false in
    let is = counted (goal.at.returns c).In_ok-found in
    let k = c.check_entries-checked.ensures.value in
    let w = c.write_right.ensures in
    let here = λ (T : Table) (d : Derivation) (ts : TableStands table c.args.rules T) (at : DerivationAt flat parts d). right_file table _ flat parts T d ts at out few c.in_ok-found.found (sym (k T d ts at) ∙ is) in
    let size = λ (T : Table) (d : Derivation) (ts : TableStands table c.args.rules T) (at : DerivationAt flat parts d). right-size table _ flat parts T d ts at out few c.in_ok-found.found (sym (k T d ts at) ∙ is) c.proof_size-size.result c.proof_size-size.ensures in
    let left = λ (T : Table) (d : Derivation) (ts : TableStands table c.args.rules T) (at : DerivationAt flat parts d). ends_right table _ flat parts T d ts at out few c.in_ok-found.found (sym (k T d ts at) ∙ is) in
    record {
      answer = λ T d ts at. w.answer (here T d ts at) ts (size T d ts at) ∙ ap (λ (x : Written). x.answer) (left T d ts at);
      out = λ T d ts at. w.out (here T d ts at) ts (size T d ts at) ∙ ap (λ (x : Written). x.out) (left T d ts at);
    }
