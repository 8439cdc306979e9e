-- `scan::numeral_at` meets its contract: each turn goes past a digit.
-- Assumes nothing.
use mathlib.Core.Path.{sym, ◌∙◌}
use Rattle.text_reader.proofs.PassLaws.{digit_same, passed_next, no_digit}
use Rattle.text_reader.proofs.scan.numeral_at.Goals as goal

pub returns-then-not-is_ascii_digit : goal.returns-then-not-is_ascii_digit
returns-then-not-is_ascii_digit c = record { passed = c.loop-next.invariant; last = no_digit _ _ c.loop-next-test.true (sym (digit_same _) ∙ sym c.if-not-is_ascii_digit.ensures.value) }

pub loop-next-preserved : goal.loop-next-preserved
loop-next-preserved c = passed_next _ _ _ _ _ c.loop-next.invariant c.loop-next-test.true (sym (digit_same _) ∙ sym c.if-not-is_ascii_digit.ensures.value) c.digit_more-value.ensures
