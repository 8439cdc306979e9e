-- The worked lines hold: each is computed.
-- Assumes nothing.
use mathlib.Core.Path.{refl}
use Rattle.tables.specs.Lookup.{find_rule_in, find_rule, find_body_in, find_body, matches}
use Rattle.search.specs.Events.{for_each}
use Rattle.search.specs.Trace.{in_label, then_right, beside_right, splits, following, trace}
use Rattle.search.specs.Answer.{first_found, search}
use Rattle.search.specs.Worked.{Holds, AllHold, no_more, ◌&◌, beside, lines}

pub all_hold : AllHold lines
unfolding find_rule_in find_rule find_body_in find_body matches for_each in_label then_right beside_right splits following trace first_found search Holds beside lines
all_hold =
    refl & refl & refl & refl & refl & refl & refl & refl & refl & refl & refl & refl
    & refl & refl & refl & refl & refl & refl & refl & refl & refl & refl & refl & refl
    & refl & refl & refl & refl & refl & refl & refl & refl & refl & refl & refl & refl
    & refl & no_more
