-- `scan::numeral_at` meets its contract: the invariant: digits stand from the first place to this one, and this is their value.
-- Assumes nothing.
use Rattle.text_reader.specs.Places.{Passed}
use Rattle.text_reader.proofs.scan.numeral_at.Given as goal

abbrev pub invariant-loop-next : goal.invariant-loop-next
invariant-loop-next l = Passed l.text l.from l.value l.next
