-- `flatten::write_flat` meets its contract: the size is that of the flat file, and what is stored are its bytes.
-- Assumes nothing.
use mathlib.Core.Path.{sym, ap, ◌∙◌}
use Prim.Native.Nat.{ℕ, ◌≤◌}
use native.Mathlib.Omega.{arith}
use mathlib.Core.List.{List}
use Rattle.tables.specs.Tables.{Table}
use Rattle.files.specs.declared.proofs.ProofParts.{ProofParts}
use Rattle.files.specs.Proofs.{Proof}
use Rattle.flattener.specs.Forests.{Accepted}
use Rattle.answers.specs.Answers as answer
use Rattle.entries.specs.LentSpace.{Written}
use Rattle.flattener.proofs.ForestLaws.{counts_few, goals_inside, size_is, printable, all_stored}
use Rattle.flattener.proofs.FlattenLaws.{no_room, has_room}
use Rattle.flattener.proofs.flatten.write_flat.Goals as goal

few : {T : Table} {p : Proof} {s w : List ℕ} {q : ProofParts} {u n : ℕ} → Accepted T p s w q u n → (q.goals ≤ 256) × (u ≤ 2048) × (q.remaining ≤ 256)
few x = counts_few _ _ _ _ _ _ _ x

pub overflow_mul-place : goal.overflow_mul-place
overflow_mul-place c = omega (arith, few c.requires.2)

pub overflow_add-place : goal.overflow_add-place
overflow_add-place c = omega (arith, few c.requires.2)

pub overflow_mul-size : goal.overflow_mul-size
overflow_mul-size c = omega (arith, few c.requires.2)

pub overflow_add-size : goal.overflow_add-size
overflow_add-size c = omega (arith, few c.requires.2)

pub overflow_mul-size-2 : goal.overflow_mul-size-2
overflow_mul-size-2 c = omega (arith, few c.requires.2)

pub overflow_add-size-2 : goal.overflow_add-size-2
overflow_add-size-2 c = omega (arith, few c.requires.2)

pub returns-then-out-size : goal.returns-then-out-size
returns-then-out-size c =
    let o = c.args.out.now in
    let short = c.if-out-size.true in record { answer = (λ T p x. c.refused.ensures ∙ ap (λ (y : Written). y.answer) (sym (no_room T p o (omega (arith, short, size_is T p _ _ _ _ _ x))))); out = (λ T p x. ap (λ (y : Written). y.out) (sym (no_room T p o (omega (arith, short, size_is T p _ _ _ _ _ x))))) }

pub write_roots-requires : goal.write_roots-requires
write_roots-requires c =
    (omega (arith, c.if-out-size.false), goals_inside c.requires.0 c.requires.1 _ _ _ _ _ c.requires.2, (few c.requires.2).0)

pub print_forest-requires : goal.print_forest-requires
print_forest-requires c = printable c.requires.0 c.requires.1 _ _ _ _ _ c.requires.2 c.args.out.now _ (omega (arith, c.if-out-size.false)) c.write_roots.ensures

pub wrote-requires : goal.wrote-requires
wrote-requires c = omega (arith, few c.requires.2)

pub returns : goal.returns
returns c =
    let o = c.args.out.now in
    let enough = c.if-out-size.false in
    let rooted = c.write_roots.ensures in
    let printed = c.print_forest.ensures in record {
      answer = (λ T p x.
          c.wrote.ensures ∙ ap (λ (k : ℕ). answer.wrote k 0) (size_is T p _ _ _ _ _ x) ∙ ap (λ (y : Written). y.answer) (sym (has_room T p o (omega (arith, enough, size_is T p _ _ _ _ _ x)))));
      out = (λ T p x.
          all_stored T p _ _ _ _ _ x o _ (omega (arith, enough)) rooted _ printed ∙ ap (λ (y : Written). y.out) (sym (has_room T p o (omega (arith, enough, size_is T p _ _ _ _ _ x)))));
    }
