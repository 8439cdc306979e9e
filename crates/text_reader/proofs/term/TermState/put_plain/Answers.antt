-- `TermState::put_plain` meets its contract: the header comes in front of the bytes written so far.
-- Assumes nothing.
use mathlib.Core.Path.{refl}
use native.Mathlib.Omega.{arith}
use Rattle.text_reader.proofs.StoreLaws.{plain-put}
use Rattle.text_reader.proofs.term.TermState.put_plain.Goals as goal

pub returns : goal.returns
returns c = record { out_after = plain-put _ _ _ _ c.requires.0 c.put_header.ensures; front_value = (omega arith, refl, refl) }
