-- `scan::sign_tag` meets its contract: each byte has its tag.
-- Assumes nothing.
use Rattle.text_reader.specs.Places.{semicolon, star, bar}
use Rattle.text_reader.proofs.scan.sign_tag.Goals as goal

pub returns-in-59 : goal.returns-in-59
returns-in-59 c = rw c.in-59.is semicolon

pub returns-in-42 : goal.returns-in-42
returns-in-42 c = rw c.in-42.is star

pub returns-in-124 : goal.returns-in-124
returns-in-124 c = rw c.in-124.is bar
