-- `ScanState::on_due` meets its contract: behind blanks and brackets the byte tells the mark, or is refused.
-- Assumes nothing.
use mathlib.Core.Path.{refl, ◌∙◌}
use native.Mathlib.Omega.{arith}
use Rattle.text_reader.specs.Places.{identity, nothing}
use Rattle.text_reader.proofs.PlaceLaws.{ready_past, due_refused}
use Rattle.text_reader.proofs.scan.ScanState.on_due.Goals as goal

pub two_bytes-requires : goal.two_bytes-requires
two_bytes-requires c = ((ready_past _ _ _ _ _ c.requires.0 c.past_openings-past.ensures.moved c.past_openings-past.auto.work c.if-text-past.false), c.past_openings-past.ensures.moved.same ∙ c.requires.1, rw c.in-105.is identity)

pub two_bytes-requires-in-60 : goal.two_bytes-requires-in-60
two_bytes-requires-in-60 c = ((ready_past _ _ _ _ _ c.requires.0 c.past_openings-past.ensures.moved c.past_openings-past.auto.work c.if-text-past.false), c.past_openings-past.ensures.moved.same ∙ c.requires.1, rw c.in-60.is nothing)

pub returns-in-None : goal.returns-in-None
returns-in-None c =
    let o = c.past_openings-past.ensures in
    rw c.new.ensures (due_refused _ _ _ (ready_past _ _ _ _ _ c.requires.0 c.past_openings-past.ensures.moved c.past_openings-past.auto.work c.if-text-past.false) _ (o.moved.same ∙ c.requires.1) refl (o.no_blank c.if-text-past.false) (o.no_bracket c.if-text-past.false) (λ z. omega (arith, z)) c.in-None.ensures (λ z. omega (arith, z)) (λ z. omega (arith, z)))
