-- `headers::read_header` meets its contract: at each `return` the tests that led there say which case of `header_at` holds.
-- Assumes nothing.
use mathlib.Core.Path.{◌∙◌}
use Rattle.format.proofs.HeaderCases.{torn, kind_below, kind_above, too_many, contents_torn, field_there, length_not_right}
use Rattle.format.proofs.headers.read_header.Goals as goal
use Rattle.format.proofs.headers.read_header.Goals.{then-kind-low-via-then-kind-low, then-kind-low-via-else-kind-low+then-high-kind}

pub returns-then-end-at : goal.returns-then-end-at
returns-then-end-at c = rw c.new.ensures (torn _ _ _ _ _ _ c.if-end-at.true)

pub returns-then-kind-low : goal.returns-then-kind-low
returns-then-kind-low c =
    let kind = c.number-kind.ensures ∙ c.row_of-row.ensures.kind in
    rw c.new-then-kind-low.ensures (elim c.then-kind-low.branch [
      | then-kind-low-via-then-kind-low w ↦ kind_below _ _ _ _ _ _ c.if-end-at.false _ kind w.if-kind-low.true
      | then-kind-low-via-else-kind-low+then-high-kind w ↦ kind_above _ _ _ _ _ _ c.if-end-at.false _ kind w.if-kind-low.false w.if-high-kind.true
    ])

pub returns-then-full : goal.returns-then-full
returns-then-full c =
    let kind = c.number-kind.ensures ∙ c.row_of-row.ensures.kind in
    rw c.new-then-full.ensures (too_many _ _ _ _ _ _ c.if-end-at.false _ kind c.if-kind-low.false c.if-high-kind.false c.if-full.true)

pub returns-then-end-at-2 : goal.returns-then-end-at-2
returns-then-end-at-2 c =
    let kind = c.number-kind.ensures ∙ c.row_of-row.ensures.kind in
    rw c.new-then-end-at-2.ensures (contents_torn _ _ _ _ _ _ c.if-end-at.false _ kind c.if-kind-low.false c.if-high-kind.false c.if-full.false _ c.load16-len.ensures c.if-end-at-2.true)

pub returns-then-not-fits : goal.returns-then-not-fits
returns-then-not-fits c =
    let r = c.row_of-row.ensures in
    let kind = c.number-kind.ensures ∙ r.kind in
    rw c.new-then-not-fits.ensures
    (length_not_right _ _ _ _ _ _ c.if-end-at.false _ kind c.if-kind-low.false c.if-high-kind.false c.if-full.false _ c.load16-len.ensures c.if-end-at-2.false _ (c.fits.ensures _ r.least r.most r.inner) c.if-not-fits.true)

pub returns : goal.returns
returns c =
    let r = c.row_of-row.ensures in
    let kind = c.number-kind.ensures ∙ r.kind in
    field_there _ _ _ _ _ _ c.if-end-at.false _ kind c.if-kind-low.false c.if-high-kind.false c.if-full.false _ c.load16-len.ensures c.if-end-at-2.false _ (c.fits.ensures _ r.least r.most r.inner) c.if-not-fits.false
