-- `unwind` meets its contract: what is left to unwind comes to the same; every turn takes a waiting term off.
-- Assumes nothing.
use Rattle.std.proofs.Common.{rules}
use Rattle.search_machine.proofs.UnwindLaws.{start-here, start_stays, waits, stays_next, way_next, at_end, at_next, backs, at_back, left_less}
use Rattle.search_machine.proofs.state.State.unwind.Goals as goal

pub loop-s-init : goal.loop-s-init
loop-s-init c = let a = c.args in (start-here a.work.now a.self, start_stays a.work.now a.self)

pub returns-then-s-eq0 : goal.returns-then-s-eq0
returns-then-s-eq0 c =
    let a = c.args in
    record { unwound = at_end a.work.now a.self c.loop-s.work c.loop-s.s c.loop-s.invariant.0 c.loop-s.invariant.1 (search rules) c.if-s-eq0.true; stays = c.loop-s.invariant.1 }

pub pop-s-requires : goal.pop-s-requires
pop-s-requires c =
    let a = c.args in
    waits a.work.now a.self c.loop-s.work c.loop-s.s c.loop-s.invariant.0 c.loop-s.invariant.1 c.requires (search rules) c.if-s-eq0.false

pub loop-s-smaller : goal.loop-s-smaller
loop-s-smaller c = left_less c.loop-s.s c.pop-s.result (search rules) c.pop-s.ensures.smaller

pub loop-s-preserved : goal.loop-s-preserved
loop-s-preserved c =
    let a = c.args in
    (way_next a.work.now a.self c.loop-s.work c.loop-s.s c.loop-s.invariant.0 c.loop-s.invariant.1 (search rules) c.if-s-eq0.false _ c.pop-s.result c.pop-s.ensures.popped, stays_next a.work.now a.self c.loop-s.work c.loop-s.s c.loop-s.invariant.0 c.loop-s.invariant.1 _ c.pop-s.result c.pop-s.ensures.stays)

pub returns-then-eq : goal.returns-then-eq
returns-then-eq c =
    let a = c.args in
    record { unwound = at_next a.work.now a.self c.loop-s.work c.loop-s.s c.loop-s.invariant.0 c.loop-s.invariant.1 (search rules); stays = c.loop-s.invariant.1 }

pub go_back-requires : goal.go_back-requires
go_back-requires c =
    let a = c.args in
    backs a.work.now a.self c.loop-s.work c.loop-s.s c.loop-s.invariant.0 c.loop-s.invariant.1 c.requires (search rules) (search rules)

pub returns : goal.returns
returns c =
    let a = c.args in
    record { unwound = at_back a.work.now a.self c.loop-s.work c.loop-s.s c.loop-s.invariant.0 c.loop-s.invariant.1 (search rules) (search rules) _ c.go_back.result c.go_back.ensures.back; stays = stays_next a.work.now a.self c.loop-s.work c.loop-s.s c.loop-s.invariant.0 c.loop-s.invariant.1 _ c.go_back.result c.go_back.ensures.stays }
