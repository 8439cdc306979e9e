-- `seen::meets` meets its contract: one law for each return.
-- Assumes nothing.
use mathlib.Core.Path.{◌≡◌, sym, ◌∙◌}
use Prim.Native.Nat.{◌+◌, ◌<◌}
use native.Mathlib.Omega.{arith}
use lib.ListN.{get_or}
use Rattle.words.specs.Word.{word}
use Rattle.tables.specs.Search.{searched_tag}
use Rattle.tables.proofs.SearchLaws.{value_inside}
use Rattle.seen.specs.Seen.{Marked}
use Rattle.seen.proofs.SeenLaws.{passed, again, compared, marked}
use Rattle.seen.proofs.meets.Goals as goal
use Rattle.seen.proofs.meets.Goals.{Else-s-at, After-load16-value}

-- the field is one that the search is about, and has a mark
tag : (c : Else-s-at) → get_or c.args.s.now c.args.at 0 ≡ searched_tag c.args.kind
tag c = c.if-s-at.false ∙ c.tag.ensures

own : (c : Else-s-at) → Marked c.args.kind c.args.s.now c.args.at
own c = c.requires.1 (tag c)

small : (c : After-load16-value) → word c.args.s.now (c.args.at + 3) < 65536
small c = omega (arith, c.load16-value.ensures, c.load16-value.type_inv)

pub returns-then-s-at : goal.returns-then-s-at
returns-then-s-at c = passed _ _ _ _ _ (λ e. c.if-s-at.true (e ∙ sym c.tag.ensures))

pub load16-value-requires : goal.load16-value-requires
load16-value-requires c =
    omega (arith, value_inside c.args.kind c.args.s.now c.args.at (tag (goal.at.load16-value-requires c).Else-s-at) c.requires.0)

pub mark_of-mark-requires : goal.mark_of-mark-requires
mark_of-mark-requires c =
    (c.requires.0, own (goal.at.mark_of-mark-requires c).Else-s-at)

pub mark_seen-requires : goal.mark_seen-requires
mark_seen-requires c =
    (c.requires.2, omega (arith, c.mark_of-mark.ensures, (own (goal.at.mark_seen-requires c).Else-s-at).fits), sym c.seen_at-earlier.ensures ∙ c.if-earlier-eq0.true)

pub returns-then-earlier-eq0 : goal.returns-then-earlier-eq0
returns-then-earlier-eq0 c =
    let about = (goal.at.returns-then-earlier-eq0 c).Else-s-at in
    marked _ _ _ _ _ (tag about) (own about) (small (goal.at.returns-then-earlier-eq0 c).After-load16-value) _ _ _ c.load16-value.ensures c.mark_of-mark.ensures c.seen_at-earlier.ensures c.requires.2 c.if-earlier-eq0.true _ c.mark_seen.ensures

pub returns-in-Label : goal.returns-in-Label
returns-in-Label c =
    let about = (goal.at.returns-in-Label c).Else-s-at in
    again _ _ _ _ _ (tag about) (own about) (small (goal.at.returns-in-Label c).After-load16-value) _ _ _ c.load16-value.ensures c.mark_of-mark.ensures c.seen_at-earlier.ensures c.in-Label.is c.if-earlier-eq0.false

pub returns-in_default : goal.returns-in_default
returns-in_default c =
    let about = (goal.at.returns-in_default c).Else-s-at in
    compared _ _ _ _ _ (tag about) (own about) (small (goal.at.returns-in_default c).After-load16-value) _ _ _ c.load16-value.ensures c.mark_of-mark.ensures c.seen_at-earlier.ensures c.in_default.not-Label c.if-earlier-eq0.false
