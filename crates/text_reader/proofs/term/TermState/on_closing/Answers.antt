-- `TermState::on_closing` meets its contract.
-- Assumes nothing.
use mathlib.Core.Path.{refl}
use Prim.Native.Nat.{◌-◌}
use native.Mathlib.Omega.{arith}
use Rattle.text_reader.proofs.StoreLaws.{shown_closing, closing_below}
use Rattle.text_reader.proofs.term.TermState.on_closing.Goals as goal

pub returns : goal.returns
returns c =
    let l = c.requires in
    let low = c.args.self.low - 3 in
    record { shown_due = (λ fs o x. shown_closing fs _ _ o _ _ low x (omega (arith, l.0)) (omega (arith, l.0, l.1, l.2)) refl); low_value = (omega (arith, l.0), closing_below c.args.work.now _ low refl) }
