-- `Writing::put_leaf` meets its contract: each tag says which case of `leaf_text` holds.
-- Assumes nothing.
use native.Mathlib.Omega.{arith}
use Rattle.text_writer.proofs.CodeLaws.{five_bytes, id_done, empty_done, number-done}
use Rattle.text_writer.proofs.writing.Writing.put_leaf.Goals as goal

pub returns-in-17 : goal.returns-in-17
returns-in-17 c = let d = id_done c.args.work.now c.args.self c.args.tag _ _ _ c.in-17.is c.put_two.ensures c.after.ensures in record { value = d.0; work_after = d.1 }

pub returns-in-21 : goal.returns-in-21
returns-in-21 c = let d = empty_done c.args.work.now c.args.self c.args.tag _ _ _ (λ z. omega (arith, c.in-21.is, z)) c.in-21.is c.put_two-in-21.ensures c.after-in-21.ensures in record { value = d.0; work_after = d.1 }

pub load16-v-requires : goal.load16-v-requires
load16-v-requires c = omega (arith, five_bytes c.args.tag (λ z. omega (arith, z)) (λ z. omega (arith, z)), c.requires.0)

pub returns : goal.returns
returns c =
    let d = number-done c.args.work.now c.args.self c.args.tag _ _ _ (λ z. omega (arith, z)) (λ z. omega (arith, z)) _ _ _ c.letter_of.ensures c.load16-v.ensures c.put_numbered-n.ensures.written c.after-in_default.ensures in
    record { value = d.0; work_after = d.1 }
