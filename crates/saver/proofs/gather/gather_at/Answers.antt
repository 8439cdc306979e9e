-- `gather::gather_at` meets its contract: the frame that was loaded, its two counts, and where its own goals begin. Assumes nothing.
use native.Mathlib.Omega.{arith}
use Rattle.saver.proofs.GatherLaws.{fits_own, gather_end, start_small}
use Rattle.saver.proofs.gather.gather_at.Goals as goal

pub own_count-own-requires : goal.own_count-own-requires
own_count-own-requires c = fits_own _ _ _ c.load_frame-f.ensures c.requires.1

pub held_after-held-requires : goal.held_after-held-requires
held_after-held-requires c = c.requires.1.few

pub own_start-goals-requires : goal.own_start-goals-requires
own_start-goals-requires c =
    let a = c.args in
    start_small a.work.now (λ i. omega (arith, c.type_inv.work i)) a.at _ c.load_frame-f.ensures

pub returns : goal.returns
returns c = gather_end _ _ _ c.load_frame-f.ensures _ _ _ c.own_count-own.ensures c.held_after-held.ensures c.own_start-goals.ensures
