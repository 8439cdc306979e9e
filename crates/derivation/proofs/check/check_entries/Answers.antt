-- `check::check_entries` meets its contract: where the walk stopped says which case of the answer holds, and the size of the set is the count of different rules.
-- Assumes nothing.
use mathlib.Core.Path.{sym, ◌∙◌}
use mathlib.Core.List.{List}
use Prim.Native.Nat.{ℕ, ◌+◌}
use native.Mathlib.Omega.{arith}
use borrow.Author.Tests.{ltb-true, ltb-false}
use Rattle.words.specs.Kept.{Kept}
use Rattle.words.proofs.KeptLaws.{kept_both}
use Rattle.files.specs.declared.flats.FlatParts.{FlatParts}
use Rattle.derivation.specs.Layout.{cursors_place, set_place, set_end}
use Rattle.derivation.proofs.CheckLaws.{parts_hold, ready_entries, wrong_entry, goals_left, used_rules, all_right}
use Rattle.derivation.proofs.check.check_entries.Goals as goal

pub walk-stop-requires : goal.walk-stop-requires
walk-stop-requires c =
    let flat : List ℕ = c.args.flat.now in
    let parts : FlatParts = c.args.parts in
    ready_entries flat parts _ c.requires.derivation_at.1 _ _ c.requires.table_stands.0 _ _ c.requires.table_stands.1 c.requires.table_len_bound.0 c.requires.rules_indexed c.make_empty.auto.w c.make_empty.ensures.kept c.make_empty.ensures.empty

pub returns-then-stop-flat : goal.returns-then-stop-flat
returns-then-stop-flat c =
    let flat : List ℕ = c.args.flat.now in
    let parts : FlatParts = c.args.parts in
    let kept : Kept c.args.work.now c.walk-stop.new.work cursors_place set_end = kept_both _ _ _ set_place set_end cursors_place set_end cursors_place set_end c.make_empty.ensures.kept c.walk-stop.ensures.kept (omega arith) (omega arith) (omega arith) (omega arith) in
    record { value = (λ T d ts at. wrong_entry flat parts d at _ _ T ts _ _ _ c.walk-stop.ensures c.if-stop-flat.true); few = tt; inside = omega (arith, c.if-stop-flat.true); kept = kept }

pub returns-then-has_goals : goal.returns-then-has_goals
returns-then-has_goals c =
    let flat : List ℕ = c.args.flat.now in
    let parts : FlatParts = c.args.parts in
    let kept : Kept c.args.work.now c.walk-stop.new.work cursors_place set_end = kept_both _ _ _ set_place set_end cursors_place set_end cursors_place set_end c.make_empty.ensures.kept c.walk-stop.ensures.kept (omega arith) (omega arith) (omega arith) (omega arith) in
    let some = ltb-true _ _ (sym c.has_goals.ensures ∙ c.if-has_goals.true) in
    record { value = (λ T d ts at. goals_left flat parts d at _ _ T ts _ _ _ c.walk-stop.ensures c.if-stop-flat.false some); few = tt; inside = omega arith; kept = kept }

pub size_of-requires : goal.size_of-requires
size_of-requires c =
    let flat : List ℕ = c.args.flat.now in
    let parts : FlatParts = c.args.parts in
    (_, used_rules flat parts c.requires.derivation_at.0 c.requires.derivation_at.1 _ _ c.requires.table_stands.0 c.requires.table_stands.1 _ _ _ c.walk-stop.ensures c.if-stop-flat.false)

pub returns : goal.returns
returns c =
    let flat : List ℕ = c.args.flat.now in
    let parts : FlatParts = c.args.parts in
    let kept : Kept c.args.work.now c.walk-stop.new.work cursors_place set_end = kept_both _ _ _ set_place set_end cursors_place set_end cursors_place set_end c.make_empty.ensures.kept c.walk-stop.ensures.kept (omega arith) (omega arith) (omega arith) (omega arith) in
    let p = c.walk-stop.result.pending in
    let end = c.if-stop-flat.false in
    let held = parts_hold flat parts c.requires.derivation_at.0 c.requires.derivation_at.1 in
    let none = ltb-false 0 (p.lists + p.roots) (sym c.has_goals.ensures ∙ c.if-has_goals.false) in record {
      value = (λ T d ts at.
          all_right flat parts d at _ _ T ts _ _ _ c.walk-stop.ensures end (omega (arith, none)) _ (c.size_of.ensures.size _ (used_rules flat parts d at _ _ T ts _ _ _ c.walk-stop.ensures end)));
      few = (omega (arith, held.few_uses), omega (arith, held.few_opens), c.size_of.ensures.few);
      inside = tt;
      kept = kept;
    }
