-- `finish::hand_over` meets its contract: at a halt the contents copied and the part behind them cleared, else nothing. Assumes nothing.
use mathlib.Core.Path.{ap, ◌∙◌}
use native.Mathlib.Omega.{arith}
use lib.ListN.{length}
use Rattle.entries.specs.Halting.{halting_work}
use Rattle.std.proofs.Common.{◌≤◌}
use Rattle.halting.specs.SavedBytes.{EndsAt}
use Rattle.halting.proofs.FinishLaws.{contents_fit, size-kept, saved_end, untouched, save_given, not_halted, ends, space_kept, saved_is}
use Rattle.halting.proofs.finish.hand_over.Goals.{In-Some-save}
use Rattle.halting.proofs.finish.hand_over.Goals as goal

pub returns-in_default : goal.returns-in_default
returns-in_default c = untouched _ _ _ c.in_default.is

pub save-requires : goal.save-requires
save-requires c = save_given _ _ _ _ c.requires _ c.in-Some.is

pub returns-in_default-save : goal.returns-in_default-save
returns-in_default-save c = not_halted _ _ _ _ c.requires _ c.in-Some.is _ _ c.save.ensures c.in_default-save.is

-- where the contents end
at_end : (c : In-Some-save) → EndsAt c.in-Some-save.end
at_end c = ends _ _ _ _ c.requires _ c.in-Some.is _ _ c.save.ensures _ c.in-Some-save.is

spacious : (c : In-Some-save) → halting_work ≤ length c.save.new.work
spacious c = space_kept _ _ _ _ c.requires _ c.in-Some.is _ _ c.save.ensures _ c.in-Some-save.is

pub overflow_sub-n : goal.overflow_sub-n
overflow_sub-n c = (at_end (goal.at.overflow_sub-n c).In-Some-save).above

pub copy_in-requires : goal.copy_in-requires
copy_in-requires c =
    let k = (goal.at.copy_in-requires c).In-Some-save in
    let z = contents_fit _ _ c.args.state.now (at_end k) (spacious k) c.requires.room in
    (omega (arith, z.1), omega (arith, z.3))

pub slice_bounds-clear-count : goal.slice_bounds-clear-count
slice_bounds-clear-count c =
    let k = (goal.at.slice_bounds-clear-count c).In-Some-save in
    (contents_fit _ _ c.args.state.now (at_end k) (spacious k) c.requires.room).2

pub slice_bounds-clear-start : goal.slice_bounds-clear-start
slice_bounds-clear-start c =
    let k = (goal.at.slice_bounds-clear-start c).In-Some-save in
    let z = contents_fit _ _ c.args.state.now (at_end k) (spacious k) c.requires.room in
    let l = ap length c.copy_in.ensures ∙ size-kept _ _ c.args.state.now (at_end k) (spacious k) c.requires.room in
    omega (arith, z.3, l)

pub returns : goal.returns
returns c =
    let k = (goal.at.returns c).In-Some-save in
    λ b h. saved_end _ _ _ (at_end k) (spacious k) c.requires.room _ _ c.copy_in.ensures c.clear.ensures b (saved_is _ _ _ _ c.requires _ c.in-Some.is _ _ c.save.ensures _ c.in-Some-save.is b h)
