-- `go_back` meets its contract: there is no choice, or the last one is taken up.
-- Assumes nothing.
use mathlib.Core.Path.{sym, ◌∙◌}
use native.Mathlib.Omega.{arith}
use Rattle.search_machine.proofs.BackLaws.{none_left, or_else_lem, choice_node, split_room, last_split, next_split_lem}
use Rattle.search_machine.proofs.state.State.go_back.Goals as goal

pub returns-then-choice-eq0-clause-back : goal.returns-then-choice-eq0-clause-back
returns-then-choice-eq0-clause-back c = let a = c.args in let r = none_left a.work.now a.self c.if-choice-eq0.true in r.0

pub load16-kind-requires : goal.load16-kind-requires
load16-kind-requires c =
    let w = c.args.work.now in
    let s = c.args.self in
    omega (arith, choice_node w s c.requires c.if-choice-eq0.false)

pub or_else-requires : goal.or_else-requires
or_else-requires c = choice_node c.args.work.now c.args.self c.requires c.if-choice-eq0.false

pub returns-then-kind-eq-OR_ELSE-clause-back : goal.returns-then-kind-eq-OR_ELSE-clause-back
returns-then-kind-eq-OR_ELSE-clause-back c =
    let w = c.args.work.now in
    let s = c.args.self in
    let r = or_else_lem w s c.if-choice-eq0.false (sym c.load16-kind.ensures ∙ c.if-kind-eq-OR_ELSE.true) _ c.or_else.ensures in r.0

pub overflow_add-choice : goal.overflow_add-choice
overflow_add-choice c =
    let w = c.args.work.now in
    let s = c.args.self in
    omega (arith, choice_node w s c.requires c.if-choice-eq0.false)

pub load16-count-requires : goal.load16-count-requires
load16-count-requires c =
    let w = c.args.work.now in
    let s = c.args.self in
    omega (arith, choice_node w s c.requires c.if-choice-eq0.false)

pub last_split-requires : goal.last_split-requires
last_split-requires c =
    let w = c.args.work.now in
    let s = c.args.self in
    split_room w s c.requires c.if-choice-eq0.false (λ e. c.if-kind-eq-OR_ELSE.false (c.load16-kind.ensures ∙ e))

pub returns-then-count-eq0 : goal.returns-then-count-eq0
returns-then-count-eq0 c =
    let w = c.args.work.now in
    let s = c.args.self in
    let r = last_split w s c.requires c.if-choice-eq0.false (λ e. c.if-kind-eq-OR_ELSE.false (c.load16-kind.ensures ∙ e)) _ c.last_split.result (sym c.load16-count.ensures ∙ c.if-count-eq0.true) c.last_split.ensures in record { back = r.0; stays = r.1 }

pub next_split-requires : goal.next_split-requires
next_split-requires c =
    let w = c.args.work.now in
    let s = c.args.self in
    (split_room w s c.requires c.if-choice-eq0.false (λ e. c.if-kind-eq-OR_ELSE.false (c.load16-kind.ensures ∙ e)), λ e. c.if-count-eq0.false (c.load16-count.ensures ∙ e))

pub returns : goal.returns
returns c =
    let w = c.args.work.now in
    let s = c.args.self in
    let r = next_split_lem w s c.requires c.if-choice-eq0.false (λ e. c.if-kind-eq-OR_ELSE.false (c.load16-kind.ensures ∙ e)) _ c.next_split.result (λ e. c.if-count-eq0.false (c.load16-count.ensures ∙ e)) c.next_split.ensures in record { back = r.0; stays = r.1 }
