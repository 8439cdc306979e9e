-- `ScanState::on_had` meets its contract: behind blanks and brackets a sign comes, or the byte is refused.
-- Assumes nothing.
use mathlib.Core.Path.{refl, ◌∙◌}
use Rattle.text_reader.proofs.PlaceLaws.{after_from, ready_past, sign_ok, had_refused}
use Rattle.text_reader.proofs.scan.ScanState.on_had.Goals as goal

pub returns-in-Some : goal.returns-in-Some
returns-in-Some c =
    let o = c.past_closings-past.ensures.moved in
    after_from _ _ _ _ _ (sign_ok _ _ _ (ready_past _ _ _ _ _ c.requires.0 c.past_closings-past.ensures.moved c.past_closings-past.auto.work c.if-text-past.false) _ _ _ _ (o.same ∙ c.requires.1) refl c.in-Some.ensures c.complete.ensures.work_after c.complete.ensures.value) o.rises

pub returns-in-None : goal.returns-in-None
returns-in-None c =
    let o = c.past_closings-past.ensures in
    rw c.new.ensures (had_refused _ _ _ (ready_past _ _ _ _ _ c.requires.0 c.past_closings-past.ensures.moved c.past_closings-past.auto.work c.if-text-past.false) _ (o.moved.same ∙ c.requires.1) refl (o.no_blank c.if-text-past.false) c.in-None.ensures (o.no_bracket c.if-text-past.false))
