-- `print::print_forest` meets its contract: the state of the pass is kept by each node that is printed.
-- Assumes nothing.
use mathlib.Core.Path.{◌≡◌, ap, ◌∙◌}
use mathlib.Core.List.{List}
use Prim.Native.Nat.{◌+◌, ◌*◌, ◌-◌}
use native.Mathlib.Omega.{arith}
use lib.ListN.{length}
use lib.Seq.{sets}
use Rattle.files.specs.Derivations.{entries_bytes}
use Rattle.hitac.proofs.Nodes.{Cell, range, node_entries}
use Rattle.input_arities.specs.Layout.{stack_end}
use Rattle.flattener.specs.Prints.{Printable}
use Rattle.flattener.proofs.PassLaws.{pushed_cells, pushed_roots, printable_still, pass_begins, node_ready, pass_goes_on, pass_ends}
use Rattle.flattener.proofs.print.print_forest.Goals as goal

pub loop-init : goal.loop-init
loop-init c =
    let back : stack_end - c.args.roots * 2 + c.args.roots * 2 ≡ stack_end = omega (arith, c.requires.roots_there, c.requires.few) in
    let printable : Printable c.put_range.new.s c.args.roots c.args.nodes c.args.at (length c.args.out.now) = printable_still _ _ _ _ _ _ _ c.requires back c.put_range.ensures in
    let all : c.args.nodes - 0 ≡ c.args.nodes = omega arith in
    rw all
    (pass_begins _ _ _ _ _ printable _ back (pushed_roots _ _ _ _ _ _ _ c.requires back c.put_range.ensures))

pub print_node-here-requires : goal.print_node-here-requires
print_node-here-requires c =
    let back : stack_end - c.args.roots * 2 + c.args.roots * 2 ≡ stack_end = omega (arith, c.requires.roots_there, c.requires.few) in
    let printable : Printable c.put_range.new.s c.args.roots c.args.nodes c.args.at (length c.args.out.now) = printable_still _ _ _ _ _ _ _ c.requires back c.put_range.ensures in
    node_ready _ _ _ _ _ printable _ _ _ _ (c.args.nodes - (c.loop.counter + 1)) _ (omega (arith, c.loop-test)) c.loop.invariant

pub loop-preserved : goal.loop-preserved
loop-preserved c =
    let back : stack_end - c.args.roots * 2 + c.args.roots * 2 ≡ stack_end = omega (arith, c.requires.roots_there, c.requires.few) in
    let printable : Printable c.put_range.new.s c.args.roots c.args.nodes c.args.at (length c.args.out.now) = printable_still _ _ _ _ _ _ _ c.requires back c.put_range.ensures in
    pass_goes_on _ _ _ _ _ printable _ _ _ _ (c.args.nodes - (c.loop.counter + 1)) _ (omega (arith, c.loop-test)) c.loop.invariant _ _ _ c.print_node-here.auto.work c.print_node-here.ensures

pub returns : goal.returns
returns c =
    let back : stack_end - c.args.roots * 2 + c.args.roots * 2 ≡ stack_end = omega (arith, c.requires.roots_there, c.requires.few) in
    let printable : Printable c.put_range.new.s c.args.roots c.args.nodes c.args.at (length c.args.out.now) = printable_still _ _ _ _ _ _ _ c.requires back c.put_range.ensures in
    let e = pushed_cells _ _ _ _ _ _ _ c.requires back c.put_range.ensures in
    pass_ends _ _ _ _ _ printable _ _ _ _ _ (omega (arith, c.loop-test)) c.loop.invariant
    ∙ ap (λ (A : List Cell). sets c.args.out.now c.args.at (entries_bytes (node_entries c.args.nodes A (range 0 c.args.roots)))) e
