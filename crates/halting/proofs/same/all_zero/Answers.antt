-- `same::all_zero` meets its contract: all blocks, and the rest behind them. Assumes nothing.
use mathlib.Core.Path.{◌≡◌, ap, ◌∙◌}
use Rattle.std.proofs.Common.{rules, length, ◌/◌}
use Rattle.std.specs.List.{list_all}
use Rattle.std.specs.Simd.{first_chunks}
use Rattle.std.proofs.lemmas.Iterator.{YieldsList-from_slice}
use Rattle.std.proofs.lemmas.Iterator.Search.{all_from_yields_List}
use Rattle.halting.specs.SavedBytes.{all_zero}
use Rattle.halting.proofs.ZeroLaws.{all_end, none_end}
use Rattle.halting.proofs.same.all_zero.Goals as goal

pub returns-then-all : goal.returns-then-all
returns-then-all c =
    let s = c.args.s.now in
    let all : c.all.result ≡ list_all all_zero (first_chunks 4096 (length s / 4096) s) =
    all_from_yields_List all_zero _ _ _ c.all.ensures.ran (YieldsList-from_slice (first_chunks 4096 (length s / 4096) s) cc) (λ x b q k. search rules) in
    all_end 4096 (length s / 4096) s _ all c.if-all.true _ (c.is_zero.ensures ∙ ap all_zero c.as_chunks.ensures.back)

pub returns-else-all : goal.returns-else-all
returns-else-all c =
    let s = c.args.s.now in
    let all : c.all.result ≡ list_all all_zero (first_chunks 4096 (length s / 4096) s) =
    all_from_yields_List all_zero _ _ _ c.all.ensures.ran (YieldsList-from_slice (first_chunks 4096 (length s / 4096) s) cc) (λ x b q k. search rules) in
    none_end 4096 (length s / 4096) s _ all c.if-all.false
