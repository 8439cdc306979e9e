-- `entry::write_right` meets its contract: 26, or the plan and from it the proof file.
-- Assumes nothing.
use mathlib.Core.Path.{ap, ◌∙◌}
use Prim.Native.Nat.{ℕ, ◌≤◌}
use native.Mathlib.Omega.{arith}
use lib.ListN.{length}
use Rattle.format.specs.Refusals.{number}
use Rattle.tables.specs.Standing.{TableStands}
use Rattle.answers.specs.Answers.{wrote}
use Rattle.entries.specs.LentSpace.{Written}
use Rattle.writer.specs.Right.{Right, proof_of, PlannedRight}
use Rattle.writer.proofs.SizeLaws.{few_leaves, proof_length, term_small}
use Rattle.writer.proofs.FileLaws.{few_roots, rest_of}
use Rattle.entries.proofs.LeftLaws.{no_room, enough_room}
use Rattle.writer.proofs.entry.write_right.Goals.{After-plan_entries}
use Rattle.writer.proofs.entry.write_right.Goals as goal

pub returns-then-out-size : goal.returns-then-out-size
unfolding number
returns-then-out-size c =
    let o = c.args.out.now in
    let short = c.if-out-size.true in
    record {
      answer = λ d st e. c.refused.ensures ∙ ap (λ (x : Written). x.answer) (no_room (proof_of d) 0 o (omega (arith, e, short)));
      out = λ d st e. ap (λ (x : Written). x.out) (no_room (proof_of d) 0 o (omega (arith, e, short)));
    }

pub plan_entries-requires : goal.plan_entries-requires
plan_entries-requires c =
    let p = c.requires in
    let d = p.table_stands.0 in
    record { rules_indexed = ((d.table, p.table_stands.1), p.rules_indexed); entries_len_bound = (rest_of d, d.few) }

-- the plan is made
planned : (c : After-plan_entries) (d : Right c.args.flat.now c.args.roots) → TableStands c.args.table.now c.args.rules d.table → PlannedRight c.plan_entries.new.plan d
planned c d st = c.plan_entries.ensures d.table (rest_of d) st

pub write_file-len-requires : goal.write_file-len-requires
write_file-len-requires c =
    let p = c.requires.table_stands in
    let m = (goal.at.write_file-len-requires c).After-plan_entries in
    (p.0, planned m p.0 p.1, omega (arith, p.2, c.if-out-size.false))

pub wrote-requires : goal.wrote-requires
wrote-requires c =
    let p = c.requires.table_stands in
    let d = p.0 in
    let m = (goal.at.wrote-requires c).After-plan_entries in
    let file = c.write_file-len.ensures d (planned m d p.1) (omega (arith, p.2, c.if-out-size.false)) in
    (omega (arith, file.0, proof_length d, term_small d, few_roots d, few_leaves d), omega arith)

pub returns : goal.returns
returns c =
    let o = c.args.out.now in
    let m = (goal.at.returns c).After-plan_entries in
    record {
      answer = λ d st e.
          let room : length (proof_of d) ≤ length o = omega (arith, e, c.if-out-size.false) in
          let file = c.write_file-len.ensures d (planned m d st) room in
          c.wrote.ensures ∙ ap (λ (k : ℕ). wrote k 0) file.0 ∙ ap (λ (x : Written). x.answer) (enough_room (proof_of d) 0 o room);
      out = λ d st e.
          let room : length (proof_of d) ≤ length o = omega (arith, e, c.if-out-size.false) in
          let file = c.write_file-len.ensures d (planned m d st) room in
          file.1 ∙ ap (λ (x : Written). x.out) (enough_room (proof_of d) 0 o room);
    }
