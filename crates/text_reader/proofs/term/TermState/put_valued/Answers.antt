-- `TermState::put_valued` meets its contract: the value and then the header come in front of the bytes written so far.
-- Assumes nothing.
use mathlib.Core.Path.{refl}
use native.Mathlib.Omega.{arith}
use Rattle.text_reader.proofs.StoreLaws.{word-put}
use Rattle.text_reader.proofs.term.TermState.put_valued.Goals as goal

pub returns : goal.returns
returns c = record { out_after = word-put _ _ _ _ _ 2 _ c.requires.0 c.put_value.ensures c.put_header.ensures; front_value = (omega arith, refl, refl) }
