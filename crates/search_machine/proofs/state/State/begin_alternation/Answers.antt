-- `begin_alternation` meets its contract: a choice, then the left term.
-- Assumes nothing.
use Rattle.search_machine.proofs.BeginLaws.{alternation_does}
use Rattle.search_machine.specs.declared.state.State.{State}
use Rattle.search_machine.specs.Moves.{entered}
use mathlib.Core.Path.{ap, ◌∙◌}
use Prim.Native.Nat.{◌+◌}
use Rattle.search_machine.proofs.state.State.begin_alternation.Goals as goal

pub returns : goal.returns
returns c = let a = c.args in let p = c.requires in let r = alternation_does a.work.now a.self p.0 a.down p.2 a.right _ _ c.offer-s.ensures.written (c.enter.ensures ∙ ap (λ (x : State). entered x a.down (a.self.at + 3) a.self.start a.self.count) c.offer-s.ensures.state) in record { begun = r.0; stays = r.1 }
