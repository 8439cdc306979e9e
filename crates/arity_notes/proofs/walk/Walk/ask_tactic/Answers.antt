-- `ask_tactic` meets its contract: by what is known of the tactic, and by what the look-up finds.
-- Assumes nothing.
use Prim.Native.Nat.{◌<◌}
use mathlib.Core.Path.{refl, sym, ◌∙◌}
use native.Mathlib.Omega.{arith}
use Rattle.arity_notes.proofs.AskLaws.{tactic_room, tactic_known, tactic_missing, tactic_enters}
use borrow.Author.Rules.{rules}
use Rattle.arity_notes.proofs.walk.Walk.ask_tactic.Goals as goal

pub returns-then-known-ne0 : goal.returns-then-known-ne0
returns-then-known-ne0 c =
    let number_small : c.args.number.0 < 65536 = search rules in
    tactic_known c.args.table.now c.args.first c.args.work.now c.args.self c.args.number.0 number_small c.load16-known.result c.load16-known.ensures c.if-known-ne0.true _ c.tell.ensures

pub enter-requires : goal.enter-requires
enter-requires c =
    let number_small : c.args.number.0 < 65536 = search rules in
    let r = tactic_room c.args.table.now c.args.first c.args.work.now c.args.self c.args.number.0 number_small c.requires in
    (omega (arith, r.0), omega (arith, r.0, r.1), r.1)

pub returns-in-None : goal.returns-in-None
returns-in-None c =
    let number_small : c.args.number.0 < 65536 = search rules in
    tactic_missing c.args.table.now c.args.first c.args.work.now c.args.self c.args.number.0 number_small _ c.args.number refl c.in-None.ensures refl _ c.tell-in-None.ensures

pub returns-in-Some : goal.returns-in-Some
returns-in-Some c =
    let number_small : c.args.number.0 < 65536 = search rules in
    tactic_enters c.args.table.now c.args.first c.args.work.now c.args.self c.args.number.0 number_small _ c.args.number refl c.in-Some.ensures _ refl
    (sym c.load16-known.ensures ∙ c.if-known-ne0.false) _ _ c.enter.ensures.written c.enter.ensures.next
