-- `arity::arity_of` meets its contract: of each term that stands at the place, by its tag.
-- Assumes nothing.
use mathlib.Core.Path.{sym, subst}
use Prim.Native.Nat.{ℕ, ◌+◌}
use native.Mathlib.Omega.{arith}
use Rattle.format.specs.Terms.{size}
use Rattle.format.specs.Standing.{Stands}
use Rattle.format.proofs.StandsLaws.{known}
use Rattle.arities.proofs.ArityLaws.{inner_19, inner_20, inner_22, five_24, arity_19, arity_20, arity_21, arity_22, arity_24, arity_one}
use Rattle.arities.proofs.arity.+arity_of.Goals as goal

pub bounds-src-at : goal.bounds-src-at
bounds-src-at t c = omega (arith, known _ _ _ c.requires.2.1)

pub returns-in-21 : goal.returns-in-21
returns-in-21 t c = λ given u h st. arity_21 _ _ given u st c.in-21.is

pub value_at-requires : goal.value_at-requires
value_at-requires t c = omega (arith, five_24 _ _ c.requires.2.0 c.requires.2.1 c.in-24.is)

pub returns-in-24 : goal.returns-in-24
returns-in-24 t c = λ given u h st. arity_24 _ _ given u st c.in-24.is _ _ c.value_at.ensures (c.known_arity.ensures given h)

pub arity_of-requires : goal.arity_of-requires
arity_of-requires t c =
    let p = c.requires in
    let w = inner_19 c.args.src.now c.args.at p.2.0 p.2.1 c.in-19.is in
    (omega (arith, c.decreases, known _ _ _ p.2.1), (p.0, p.1, (w.0, w.2.0)))

pub returns-in-19 : goal.returns-in-19
returns-in-19 t c = λ given u h st. arity_19 _ _ given u st c.in-19.is _ (λ v sv. c.arity_of.ensures given v h sv)

pub arity_of-left-requires : goal.arity_of-left-requires
arity_of-left-requires t c =
    let p = c.requires in
    let w = inner_20 c.args.src.now c.args.at p.2.0 p.2.1 c.in-20.is in
    (omega (arith, c.decreases, known _ _ _ p.2.1), (p.0, p.1, (w.0, w.2.0)))

pub right_of-requires : goal.right_of-requires
right_of-requires t c = let p = c.requires in (p.0, inner_20 c.args.src.now c.args.at p.2.0 p.2.1 c.in-20.is)

pub arity_of-right-requires : goal.arity_of-right-requires
arity_of-right-requires t c =
    let p = c.requires in
    let w = inner_20 c.args.src.now c.args.at p.2.0 p.2.1 c.in-20.is in
    let e = c.right_of.ensures w.0 w.1 w.2 in
    let l = known c.args.src.now (c.args.at + 3 + size w.0) w.1 w.2.1 in
    (omega (arith, c.decreases, e, l.inside, l.three), (p.0, p.1, (w.1, subst (λ (y : ℕ). Stands c.args.src.now y w.1) (sym e) w.2.1)))

pub returns-in-20 : goal.returns-in-20
returns-in-20 t c = λ given u h st.
    arity_20 _ _ given u st _ _ _ _ (λ v sv. c.arity_of-left.ensures given v h sv) c.right_of.ensures (λ v sv. c.arity_of-right.ensures given v h sv) c.in-20.is c.sum.ensures

pub arity_of-left-requires-in-22 : goal.arity_of-left-requires-in-22
arity_of-left-requires-in-22 t c =
    let p = c.requires in
    let w = inner_22 c.args.src.now c.args.at p.2.0 p.2.1 c.in-22.is in
    (omega (arith, c.decreases, known _ _ _ p.2.1), (p.0, p.1, (w.0, w.2.0)))

pub right_of-requires-in-22 : goal.right_of-requires-in-22
right_of-requires-in-22 t c = let p = c.requires in (p.0, inner_22 c.args.src.now c.args.at p.2.0 p.2.1 c.in-22.is)

pub arity_of-right-requires-in-22 : goal.arity_of-right-requires-in-22
arity_of-right-requires-in-22 t c =
    let p = c.requires in
    let w = inner_22 c.args.src.now c.args.at p.2.0 p.2.1 c.in-22.is in
    let e = c.right_of-in-22.ensures w.0 w.1 w.2 in
    let l = known c.args.src.now (c.args.at + 3 + size w.0) w.1 w.2.1 in
    (omega (arith, c.decreases, e, l.inside, l.three), (p.0, p.1, (w.1, subst (λ (y : ℕ). Stands c.args.src.now y w.1) (sym e) w.2.1)))

pub returns-in-22 : goal.returns-in-22
returns-in-22 t c = λ given u h st.
    arity_22 _ _ given u st _ _ _ _ (λ v sv. c.arity_of-left-in-22.ensures given v h sv) c.right_of-in-22.ensures (λ v sv. c.arity_of-right-in-22.ensures given v h sv) c.in-22.is c.common.ensures

pub returns-in_default : goal.returns-in_default
returns-in_default t c = λ given u h st. arity_one _ _ given u st (λ e. omega (arith, e)) (λ e. omega (arith, e)) (λ e. omega (arith, e)) (λ e. omega (arith, e)) (λ e. omega (arith, e))
