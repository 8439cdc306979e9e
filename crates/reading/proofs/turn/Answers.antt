-- `reading::turn` meets its contract: the part says whether it is a field outside terms or a turn within one.
-- Assumes nothing.
use mathlib.Core.Path.{◌≡◌}
use mathlib.Core.Bool.{true, false}
use Rattle.std.proofs.Common.{rules}
use Rattle.parts.specs.declared.state.Mode.TheVariants.{Gave}
use Rattle.parts.specs.States.{is_term, high_of}
use Rattle.reading.specs.Waiting.{Turned}
use Rattle.reading.proofs.TurnLaws.{inside}
use Rattle.reading.proofs.StepLaws.{header_encloses, step_field, enters, asks_behind, step-behind, step_on}
use Rattle.reading.proofs.turn.Goals as goal

pub take-requires : goal.take-requires
take-requires c =
    let p = c.requires in
    let i = inside _ _ _ _ p.reading.going in
    (i.0, i.1, p.reading.counts.0, p.reading.counts.1, header_encloses _ _ _ p.header_is)

pub returns-then-not-is_term : goal.returns-then-not-is_term
returns-then-not-is_term c =
    let outside : is_term c.args.x.part ≡ false = search rules in
    let p = c.requires in step_field _ _ _ _ p.reading p.mode_is outside _ p.header_is _ c.take.ensures

pub turn_within-r-requires : goal.turn_within-r-requires
turn_within-r-requires c =
    let within : is_term c.args.x.part ≡ true = search rules in
    let p = c.requires in (_, enters _ _ _ _ p.reading p.mode_is within _ p.header_is)

pub behind_term-requires : goal.behind_term-requires
behind_term-requires c =
    let within : is_term c.args.x.part ≡ true = search rules in
    let turned : Turned c.args.s.now c.args.work.now (high_of c.args.x.part) c.args.base c.args.x c.turn_within-r.new.work c.turn_within-r.result = let p = c.requires in c.turn_within-r.ensures _ (enters _ _ _ _ p.reading p.mode_is within _ p.header_is) in
    let p = c.requires in asks_behind _ _ _ _ p.reading p.mode_is within _ _ turned

pub returns-then-eq : goal.returns-then-eq
returns-then-eq c =
    let within : is_term c.args.x.part ≡ true = search rules in
    let turned : Turned c.args.s.now c.args.work.now (high_of c.args.x.part) c.args.base c.args.x c.turn_within-r.new.work c.turn_within-r.result = let p = c.requires in c.turn_within-r.ensures _ (enters _ _ _ _ p.reading p.mode_is within _ p.header_is) in
    let gave : c.turn_within-r.result.mode ≡ Gave = search rules in
    let p = c.requires in step-behind _ _ _ _ p.reading p.mode_is within _ _ turned gave _ c.behind_term.ensures

pub returns : goal.returns
returns c =
    let within : is_term c.args.x.part ≡ true = search rules in
    let turned : Turned c.args.s.now c.args.work.now (high_of c.args.x.part) c.args.base c.args.x c.turn_within-r.new.work c.turn_within-r.result = let p = c.requires in c.turn_within-r.ensures _ (enters _ _ _ _ p.reading p.mode_is within _ p.header_is) in
    let p = c.requires in step_on _ _ _ _ p.reading p.mode_is within _ _ turned (λ z. let e : false ≡ true = rw z at c.if-eq.ensures in cc)
