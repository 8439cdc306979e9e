-- `begin_label` meets its contract: its field, then the inner term.
-- Assumes nothing.
use Rattle.search_machine.proofs.BeginLaws.{label_fails, label_does}
use Rattle.search_machine.specs.declared.state.State.{State}
use Rattle.search_machine.specs.Moves.{entered}
use mathlib.Core.Path.{ap, ◌∙◌}
use Prim.Native.Nat.{◌+◌}
use Rattle.search_machine.proofs.state.State.begin_label.Goals as goal

pub returns-then-self-ne1-clause-begun : goal.returns-then-self-ne1-clause-begun
returns-then-self-ne1-clause-begun c = (label_fails c.args.work.now c.args.self c.requires.0 c.args.down c.requires.1 c.args.name.0 _ c.if-self-ne1.true c.fail.ensures).0

pub returns : goal.returns
returns c = let a = c.args in let r = label_does a.work.now a.self c.requires.0 a.down c.requires.1 a.name.0 _ _ c.if-self-ne1.false c.note-s.ensures.written (c.enter.ensures ∙ ap (λ (x : State). entered x a.down (a.self.at + 5) a.self.start a.self.count) c.note-s.ensures.state) in record { begun = r.0; stays = r.1 }
