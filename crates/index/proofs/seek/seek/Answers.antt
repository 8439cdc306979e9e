-- `seek::seek` meets its contract. The invariant: the search from the head's node goes on as the one from here; the nodes on the way have higher and higher numbers.
-- Assumes nothing.
use mathlib.Core.Path.{sym, ◌∙◌}
use native.Mathlib.Omega.{arith}
use Rattle.index.proofs.SeekLaws.{no_head, begins, field-here, node_found, none_follows, goes_down}
use Rattle.index.proofs.seek.seek.Goals as goal

pub head_of-head-requires : goal.head_of-head-requires
head_of-head-requires c = omega (arith, c.requires.1.room)

pub returns-then-head-eq0 : goal.returns-then-head-eq0
returns-then-head-eq0 c = λ n so. no_head _ _ _ _ n _ _ _ _ c.digits_of-digits.ensures c.head_of-head.ensures c.if-head-eq0.true

pub loop-kind-init : goal.loop-kind-init
loop-kind-init c = λ n so. begins _ _ _ _ n _ _ _ _ c.digits_of-digits.ensures c.head_of-head.ensures so c.if-head-eq0.false

pub overflow_add-at : goal.overflow_add-at
overflow_add-at c =
    let way = c.loop-kind.invariant c.requires.0 c.requires.1 in
    omega (arith, way.within, c.requires.1.few, c.requires.1.room)

pub overflow_mul-at : goal.overflow_mul-at
overflow_mul-at c =
    let way = c.loop-kind.invariant c.requires.0 c.requires.1 in
    omega (arith, way.within, c.requires.1.few, c.requires.1.room)

pub overflow_add-at-in-loop-kind : goal.overflow_add-at-in-loop-kind
overflow_add-at-in-loop-kind c =
    let way = c.loop-kind.invariant c.requires.0 c.requires.1 in
    omega (arith, way.within, c.requires.1.few, c.requires.1.room)

pub load16-place-requires : goal.load16-place-requires
load16-place-requires c =
    let way = c.loop-kind.invariant c.requires.0 c.requires.1 in
    omega (arith, way.within, c.requires.1.few, c.requires.1.room)

pub has_key-requires : goal.has_key-requires
has_key-requires c = field-here _ _ _ _ _ _ _ c.requires.1 _ _ (c.loop-kind.invariant c.requires.0 c.requires.1) _ c.load16-place.ensures

pub returns-then-has_key : goal.returns-then-has_key
returns-then-has_key c = λ n so.
    node_found _ _ _ _ n _ _ so _ _ (c.loop-kind.invariant n so) _ c.load16-place.ensures (sym c.has_key.ensures ∙ c.if-has_key.true)

pub link-next-requires : goal.link-next-requires
link-next-requires c =
    let way = c.loop-kind.invariant c.requires.0 c.requires.1 in
    omega (arith, way.within, c.requires.1.few, c.requires.1.room)

pub returns-then-next-eq0 : goal.returns-then-next-eq0
returns-then-next-eq0 c = λ n so.
    none_follows _ _ _ _ n _ _ so _ _ (c.loop-kind.invariant n so) _ c.load16-place.ensures (sym c.has_key.ensures ∙ c.if-has_key.false) _ c.link-next.ensures c.if-next-eq0.true

pub loop-kind-smaller : goal.loop-kind-smaller
loop-kind-smaller c =
    let pre = c.requires in
    let d = goes_down _ _ _ _ _ _ _ pre.1 _ _ (c.loop-kind.invariant pre.0 pre.1) _ c.load16-place.ensures (sym c.has_key.ensures ∙ c.if-has_key.false) _ c.link-next.ensures c.if-next-eq0.false in
    omega (arith, d.1, d.0.within, pre.1.room)

pub loop-kind-preserved : goal.loop-kind-preserved
loop-kind-preserved c = λ n so.
    (goes_down _ _ _ _ n _ _ so _ _ (c.loop-kind.invariant n so) _ c.load16-place.ensures (sym c.has_key.ensures ∙ c.if-has_key.false) _ c.link-next.ensures c.if-next-eq0.false).0
