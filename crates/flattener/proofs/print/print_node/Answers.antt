-- `print::print_node` meets its contract: the last value of the node's cell says whether it is an open leaf or a use.
-- Assumes nothing.
use mathlib.Core.Path.{◌≡◌, sym, ap, ◌∙◌}
use Prim.Native.Nat.{ℕ, ◌+◌, ◌*◌, ◌-◌, ◌≤◌}
use native.Mathlib.Omega.{arith}
use lib.ListN.{length}
use Rattle.words.specs.Word.{word}
use Rattle.format.specs.Values.{rule_name, goal}
use Rattle.files.specs.Derivations.{entry_bytes}
use Rattle.hitac.proofs.Nodes.{Cell, open_cell, use_cell, premise_nodes}
use Rattle.nodes.specs.Space.{cell_place}
use Rattle.flattener.specs.Prints.{top_cell, first_premise, cell_entry}
use Rattle.flattener.proofs.PrintLaws.{range_length, open_there, use_there, printed_open, printed_use}
use Rattle.flattener.proofs.print.print_node.Goals as goal

pub write_open-requires : goal.write_open-requires
unfolding entry_bytes
write_open-requires c =
    let leaf : top_cell c.args.work.now c.args.here.top ≡ open_cell (goal (word c.args.work.now (cell_place c.load16-node.result))) = open_there _ _ _ _ c.load16-node.ensures c.load16-mark.ensures c.if-mark-eq0.true in
    let leaf_room : c.args.here.at + 5 ≤ length c.args.out.now = omega (arith, c.requires.entry_fits, ap (λ (x : Cell). length (cell_entry x)) leaf) in
    leaf_room

pub returns-then-mark-eq0 : goal.returns-then-mark-eq0
returns-then-mark-eq0 c =
    let leaf : top_cell c.args.work.now c.args.here.top ≡ open_cell (goal (word c.args.work.now (cell_place c.load16-node.result))) = open_there _ _ _ _ c.load16-node.ensures c.load16-mark.ensures c.if-mark-eq0.true in
    printed_open _ _ _ _ _ _ _ c.value_at-goal.ensures leaf c.write_open.ensures

pub write_use-requires : goal.write_use-requires
unfolding entry_bytes
write_use-requires c =
    let mark : ℕ = c.load16-mark.result in
    let cell : ℕ = cell_place c.load16-node.result in
    let use_here : top_cell c.args.work.now c.args.here.top ≡ use_cell (rule_name (word c.args.work.now (cell + 2))) (goal (word c.args.work.now cell)) (word c.args.work.now (cell + 4)) (mark - 1) = use_there _ _ _ _ c.load16-node.ensures c.load16-mark.ensures c.if-mark-eq0.false in
    let use_room : (c.args.here.at + 7 ≤ length c.args.out.now) × ((mark - 1) * 2 ≤ c.args.here.top + 2) × (word c.args.work.now (cell + 4) + (mark - 1) ≤ 65535) = (let e = use_here in
    let n : length (premise_nodes (top_cell c.args.work.now c.args.here.top)) ≡ mark - 1 = ap (λ (x : Cell). length (premise_nodes x)) e ∙ range_length _ _ in (
      omega (arith, c.requires.entry_fits, ap (λ (x : Cell). length (cell_entry x)) e),
      omega (arith, c.requires.premises_fit, n),
      omega (arith, c.requires.premises_there, n, ap first_premise e),
    )) in
    use_room.0

pub overflow_sub-above : goal.overflow_sub-above
unfolding entry_bytes
overflow_sub-above c =
    let mark : ℕ = c.load16-mark.result in
    let cell : ℕ = cell_place c.load16-node.result in
    let use_here : top_cell c.args.work.now c.args.here.top ≡ use_cell (rule_name (word c.args.work.now (cell + 2))) (goal (word c.args.work.now cell)) (word c.args.work.now (cell + 4)) (mark - 1) = use_there _ _ _ _ c.load16-node.ensures c.load16-mark.ensures c.if-mark-eq0.false in
    let use_room : (c.args.here.at + 7 ≤ length c.args.out.now) × ((mark - 1) * 2 ≤ c.args.here.top + 2) × (word c.args.work.now (cell + 4) + (mark - 1) ≤ 65535) = (let e = use_here in
    let n : length (premise_nodes (top_cell c.args.work.now c.args.here.top)) ≡ mark - 1 = ap (λ (x : Cell). length (premise_nodes x)) e ∙ range_length _ _ in (
      omega (arith, c.requires.entry_fits, ap (λ (x : Cell). length (cell_entry x)) e),
      omega (arith, c.requires.premises_fit, n),
      omega (arith, c.requires.premises_there, n, ap first_premise e),
    )) in
    omega (arith, use_room.1)

pub put_range-requires : goal.put_range-requires
unfolding entry_bytes
put_range-requires c =
    let mark : ℕ = c.load16-mark.result in
    let cell : ℕ = cell_place c.load16-node.result in
    let use_here : top_cell c.args.work.now c.args.here.top ≡ use_cell (rule_name (word c.args.work.now (cell + 2))) (goal (word c.args.work.now cell)) (word c.args.work.now (cell + 4)) (mark - 1) = use_there _ _ _ _ c.load16-node.ensures c.load16-mark.ensures c.if-mark-eq0.false in
    let use_room : (c.args.here.at + 7 ≤ length c.args.out.now) × ((mark - 1) * 2 ≤ c.args.here.top + 2) × (word c.args.work.now (cell + 4) + (mark - 1) ≤ 65535) = (let e = use_here in
    let n : length (premise_nodes (top_cell c.args.work.now c.args.here.top)) ≡ mark - 1 = ap (λ (x : Cell). length (premise_nodes x)) e ∙ range_length _ _ in (
      omega (arith, c.requires.entry_fits, ap (λ (x : Cell). length (cell_entry x)) e),
      omega (arith, c.requires.premises_fit, n),
      omega (arith, c.requires.premises_there, n, ap first_premise e),
    )) in
    (omega (arith, use_room.1, c.requires.on_stack, c.requires.within), omega (arith, use_room.2, c.load16-first.ensures))

pub returns : goal.returns
unfolding entry_bytes
returns c =
    let mark : ℕ = c.load16-mark.result in
    let cell : ℕ = cell_place c.load16-node.result in
    let use_here : top_cell c.args.work.now c.args.here.top ≡ use_cell (rule_name (word c.args.work.now (cell + 2))) (goal (word c.args.work.now cell)) (word c.args.work.now (cell + 4)) (mark - 1) = use_there _ _ _ _ c.load16-node.ensures c.load16-mark.ensures c.if-mark-eq0.false in
    let use_room : (c.args.here.at + 7 ≤ length c.args.out.now) × ((mark - 1) * 2 ≤ c.args.here.top + 2) × (word c.args.work.now (cell + 4) + (mark - 1) ≤ 65535) = (let e = use_here in
    let n : length (premise_nodes (top_cell c.args.work.now c.args.here.top)) ≡ mark - 1 = ap (λ (x : Cell). length (premise_nodes x)) e ∙ range_length _ _ in (
      omega (arith, c.requires.entry_fits, ap (λ (x : Cell). length (cell_entry x)) e),
      omega (arith, c.requires.premises_fit, n),
      omega (arith, c.requires.premises_there, n, ap first_premise e),
    )) in
    let f = c.load16-first.ensures in
    printed_use _ _ _ _ _ _ _ _ _ _ _ _ c.value_at-name.ensures c.value_at-goal.ensures
    (use_here ∙ ap (λ (x : ℕ). use_cell (rule_name (word c.args.work.now (cell + 2))) (goal (word c.args.work.now cell)) x (mark - 1)) (sym f)) c.write_use.ensures _ c.put_range.ensures (omega (arith, use_room.1)) c.requires.on_stack c.requires.within
