-- `rounds::round` meets its contract: every turn reaches the definition at its place.
-- Assumes nothing.
use Prim.Native.Nat.{ℕ, ◌+◌, ◌≤◌, ◌<◌}
use mathlib.Core.Path.{◌≡◌, sym, ◌∙◌}
use mathlib.Core.Bool.{Bool, false}
use mathlib.Core.List.{List}
use lib.ListN.{length}
use native.Mathlib.Omega.{arith}
use borrow.Author.Rules.{rules}
use Rattle.words.specs.Word.{word}
use Rattle.arities.proofs.FillLaws.{RoundTurn, round_start, definition_here, here_room, round_next, round_end}
use Rattle.arities.proofs.rounds.round.Goals.{then-update, else-update}
use Rattle.arities.proofs.rounds.round.Goals as goal

-- what is left of the file holds the definition at the turn's place
turn_room : (bytes : List ℕ) (first : ℕ) (w₀ w : List ℕ) (at : ℕ) (changed : Bool) → RoundTurn bytes first w₀ w at changed → at < length bytes → (at + 8 ≤ length bytes) × (at + (3 + word bytes (at + 1)) ≤ length bytes)
turn_room bytes first w₀ w at changed turn more =
    let d = definition_here bytes first w₀ w at changed turn more in
    here_room bytes at d.0 d.1 d.2

pub loop-at-init : goal.loop-at-init
loop-at-init c = round_start c.args.table.now c.args.first c.args.work.now c.requires

pub load16-len-requires : goal.load16-len-requires
load16-len-requires c =
    let r = turn_room _ _ _ _ _ _ c.loop-at.invariant c.loop-at-test.true in
    omega (arith, r.0)

pub value_at-requires : goal.value_at-requires
value_at-requires c =
    let r = turn_room _ _ _ _ _ _ c.loop-at.invariant c.loop-at-test.true in
    omega (arith, r.0)

pub arity_of-arity-requires : goal.arity_of-arity-requires
arity_of-arity-requires c =
    let p = c.requires in
    let d = definition_here _ _ _ _ _ _ c.loop-at.invariant c.loop-at-test.true in
    (p.small, omega (arith, p.space, c.loop-at.invariant.same_length), (d.0.body, d.1.body_stands))

pub loop-at-smaller : goal.loop-at-smaller
loop-at-smaller c =
    let r = turn_room _ _ _ _ _ _ c.loop-at.invariant c.loop-at-test.true in
    omega (arith, r.1, c.load16-len.ensures)

pub loop-at-preserved : goal.loop-at-preserved
loop-at-preserved c =
    let l = c.loop-at in
    let b : c.value_at.result.0 < 65536 = search rules in
    let both : c.if-update.changed ≡ false → (l.changed ≡ false) × (c.update.result ≡ false) =
    λ z. elim c.if-update.branch [ then-update w ↦ let e = w.changed-is in cc | else-update w ↦ (sym w.changed-is ∙ z, w.if-update.false) ] in
    round_next c.args.table.now l.at c.load16-len.result c.value_at.result.0 c.arity_of-arity.result l.work _ c.update.result c.load16-len.ensures c.value_at.ensures b
    (omega (arith, c.requires.space, l.invariant.same_length)) c.arity_of-arity.ensures c.update.ensures c.args.first c.args.work.now l.changed c.if-update.changed both c.loop-at-test.true l.invariant

pub returns : goal.returns
returns c =
    let l = c.loop-at in
    round_end c.args.table.now c.args.first c.args.work.now l.work l.at l.changed l.invariant c.loop-at-test.false
