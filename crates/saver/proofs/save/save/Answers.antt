-- `save` meets its contract: what each call is given is a law of what those before it wrote, SaveLaws'. Assumes nothing.
use Rattle.std.proofs.Common.{rules, ◌≡◌}
use Rattle.machine.specs.declared.state.Mode.TheVariants as is
use Rattle.saver.proofs.SaveLaws.{gather_given, head_given, waiting_given, last_given, save_end}
use Rattle.saver.proofs.save.save.Goals as goal

pub gather-n-requires : goal.gather-n-requires
gather-n-requires c = let m : c.args.s.mode ≡ is.Running = search rules in gather_given c.args.work.now c.args.frames.now c.args.s c.requires m

pub write_head-to-requires : goal.write_head-to-requires
write_head-to-requires c =
    let a = c.args in
    let m : a.s.mode ≡ is.Running = search rules in
    let g = c.gather-n in
    head_given a.work.now a.frames.now a.s c.requires m g.result g.new.frames g.ensures

pub write_waiting-end-requires : goal.write_waiting-end-requires
write_waiting-end-requires c =
    let a = c.args in
    let m : a.s.mode ≡ is.Running = search rules in
    let g = c.gather-n in
    let h = c.write_head-to in
    waiting_given a.work.now a.frames.now a.s c.requires m g.result g.new.frames g.ensures h.result h.new.work h.ensures

pub write_last-requires : goal.write_last-requires
write_last-requires c =
    let a = c.args in
    let m : a.s.mode ≡ is.Running = search rules in
    let g = c.gather-n in
    let h = c.write_head-to in
    let w = c.write_waiting-end in
    last_given a.work.now a.frames.now a.s c.requires m g.result g.new.frames g.ensures h.result h.new.work h.ensures w.result w.new.work w.ensures

pub returns : goal.returns
returns c =
    let a = c.args in
    let m : a.s.mode ≡ is.Running = search rules in
    let g = c.gather-n in
    let h = c.write_head-to in
    let w = c.write_waiting-end in
    let l = c.write_last in
    save_end a.work.now a.frames.now a.s c.requires m g.result g.new.frames g.ensures h.result h.new.work h.ensures w.result w.new.work w.ensures l.result l.new.work l.ensures
