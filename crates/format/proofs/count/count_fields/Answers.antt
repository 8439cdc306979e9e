-- `count::count_fields` meets its contract. The invariant: the headers up to here are counted, and the others of the term are ahead.
-- Assumes nothing.
use mathlib.Core.Path.{◌≡◌}
use mathlib.Core.List.{List, [], ◌∷◌}
use Prim.Native.Nat.{ℕ, ◌+◌, ◌-◌, ◌≤◌, ◌<◌}
use native.Mathlib.Omega.{arith}
use lib.ListN.{get_or}
use Rattle.format.specs.Tags.{rows, find_row, row_of, least_of}
use Rattle.format.specs.Count.{OfTerm}
use Rattle.format.proofs.Rows.{tested}
use Rattle.format.proofs.StandsLaws.{known}
use Rattle.format.proofs.CountLaws.{counted_few, fields-counted, counted-fields}
use Rattle.format.proofs.CountingLaws.{Counting, counting_begun, counting_tag, counting_more, counting_done}
use Rattle.format.proofs.count.count_fields.Goals as goal

-- the table of steps is that of the tags, tested at each tag of a term
abbrev table : List ℕ
table = 5 ∷ 3 ∷ 5 ∷ 3 ∷ 3 ∷ 3 ∷ 3 ∷ 5 ∷ 5 ∷ []

stepped : (tag : ℕ) → OfTerm tag → get_or table (tag - 16) 0 ≡ 3 + least_of tag
unfolding least_of row_of rows find_row
stepped tag o = tested (λ k. get_or table (k - 16) 0) (λ k. 3 + least_of k) 16 9 tt tag (omega (arith, o.0)) (omega (arith, o.1))

-- a turn of the loop: in front of the end a term's tag stands, and the next header, or the end, is so far behind it
record Turn (s : List ℕ) (at end place count step : ℕ) : Type 0 where
  tag_is : OfTerm (get_or s place 0)
  steps : 3 ≤ step
  inside : place + step ≤ end
  next : Counting s at end (place + step) (count + 1)

turn : (s : List ℕ) (at end place count : ℕ) → place < end → Counting s at end place count → Turn s at end place count (get_or table (get_or s place 0 - 16) 0)
turn s at end place count l c =
    let tag = get_or s place 0 in
    let tag_is : OfTerm tag = counting_tag _ _ _ _ _ l c in
    let step : get_or table (tag - 16) 0 ≡ 3 + least_of tag = stepped tag tag_is in
    let next = counting_more _ _ _ _ (place + get_or table (tag - 16) 0) _ (omega (arith, step)) l c in
    record { tag_is = tag_is; steps = omega (arith, step); inside = next.0; next = next.1 }

pub loop-place-init : goal.loop-place-init
loop-place-init c = let p = c.requires in counting_begun _ _ _ _ (fields-counted _ _ _ p.0 p.1 p.2)

pub overflow_add-count : goal.overflow_add-count
overflow_add-count c = omega (arith, c.requires.2, counted_few _ _ _ _ c.loop-place.invariant.counted, known _ _ c.requires.0 c.requires.1)

pub bounds-bytes-place : goal.bounds-bytes-place
bounds-bytes-place c = omega (arith, c.requires.2, known _ _ c.requires.0 c.requires.1)

pub overflow_sub-place : goal.overflow_sub-place
overflow_sub-place c = omega (arith, turn _ _ _ _ _ c.loop-place-test.true c.loop-place.invariant)

pub bounds-tag : goal.bounds-tag
bounds-tag c = omega (arith, turn _ _ _ _ _ c.loop-place-test.true c.loop-place.invariant)

pub overflow_cast-place : goal.overflow_cast-place
overflow_cast-place c = omega (arith, turn _ _ _ _ _ c.loop-place-test.true c.loop-place.invariant)

pub overflow_add-place : goal.overflow_add-place
overflow_add-place c = omega (arith, turn _ _ _ _ _ c.loop-place-test.true c.loop-place.invariant)

pub loop-place-smaller : goal.loop-place-smaller
loop-place-smaller c = omega (arith, turn _ _ _ _ _ c.loop-place-test.true c.loop-place.invariant)

pub loop-place-preserved : goal.loop-place-preserved
loop-place-preserved c = (turn _ _ _ _ _ c.loop-place-test.true c.loop-place.invariant).next

pub returns : goal.returns
returns c = λ t st e. counted-fields _ _ _ t st e _ (counting_done _ _ _ _ _ c.loop-place-test.false c.loop-place.invariant)
