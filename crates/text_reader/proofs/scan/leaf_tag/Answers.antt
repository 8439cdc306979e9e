-- `scan::leaf_tag` meets its contract: each byte has its tag.
-- Assumes nothing.
use Rattle.text_reader.specs.Places.{rule, goal, tactic}
use Rattle.text_reader.proofs.scan.leaf_tag.Goals as goals

pub returns-in-97 : goals.returns-in-97
returns-in-97 c = rw c.in-97.is rule

pub returns-in-63 : goals.returns-in-63
returns-in-63 c = rw c.in-63.is goal

pub returns-in-84 : goals.returns-in-84
returns-in-84 c = rw c.in-84.is tactic
