-- `input_arities::next_at` meets its contract: the tag says which term it is.
-- Assumes nothing.
use Rattle.std.proofs.Common.{ℕ, ◌+◌, ap, ◌∙◌, arith}
use Rattle.format.proofs.StandsLaws.{known}
use Rattle.input_arities.proofs.ThreadLaws.{next_label, next_pair, next_other}
use Rattle.input_arities.proofs.next_at.Goals as goal
use Rattle.input_arities.proofs.next_at.Goals.{in_default-via-then-this-lt18, in_default-via-else-this-lt18+else-this-lt21}

pub bounds-s-at : goal.bounds-s-at
bounds-s-at c = omega (arith, known _ _ _ c.requires.1)

pub load16-requires : goal.load16-requires
load16-requires c = omega (arith, known _ _ _ c.requires.1)

pub returns-in-18 : goal.returns-in-18
returns-in-18 c = next_label _ _ c.in-18.is

pub returns-in-19 : goal.returns-in-19
returns-in-19 c = next_pair _ _ (omega arith) (omega arith)

pub returns-in_default : goal.returns-in_default
returns-in_default c =
    λ t st.
    ap (λ (k : ℕ). c.args.at + 3 + k) c.load16.ensures
    ∙ elim c.in_default.branch [
      | in_default-via-then-this-lt18 w ↦ next_other _ _ (λ e. omega arith) t st
      | in_default-via-else-this-lt18+else-this-lt21 w ↦ next_other _ _ (λ e. omega arith) t st
    ]
