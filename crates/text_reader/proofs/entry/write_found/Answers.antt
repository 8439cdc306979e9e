-- `entry::write_found` meets its contract: 26, or the term in just as many bytes.
-- Assumes nothing.
use mathlib.Core.Path.{ap, ◌∙◌}
use Prim.Native.Nat.{ℕ}
use native.Mathlib.Omega.{arith}
use Rattle.answers.specs.Answers.{wrote}
use Rattle.format.specs.Refusals.{number}
use Rattle.format.specs.Encoding.{term_bytes}
use Rattle.entries.specs.LentSpace.{Written}
use Rattle.entries.proofs.LeftLaws.{no_room, enough_room}
use Rattle.text_reader.proofs.EntryLaws.{front_placed, part_length, term_size_lem, recast}
use Rattle.text_reader.proofs.entry.write_found.Goals as goal

pub returns-then-out-read : goal.returns-then-out-read
unfolding number
returns-then-out-read c = let o = c.args.out.now in record { answer = (λ ms p. c.refused.ensures ∙ ap (λ (x : Written). x.answer) (no_room (term_bytes p.term) 0 o (omega (arith, term_size_lem _ _ _ _ p, c.if-out-read.true)))); out = (λ ms p. ap (λ (x : Written). x.out) (no_room (term_bytes p.term) 0 o (omega (arith, term_size_lem _ _ _ _ p, c.if-out-read.true)))) }

pub write_term-requires : goal.write_term-requires
write_term-requires c = let q = c.requires in (q.0, recast _ (part_length _ c.args.out.now c.if-out-read.false) q.1)

pub wrote-requires : goal.wrote-requires
wrote-requires c = let q = c.requires in (omega (arith, q.1.short), omega arith)

pub returns : goal.returns
returns c =
    let o = c.args.out.now in
    let l = c.if-out-read.false in record { answer = (λ ms p. c.wrote.ensures ∙ ap (λ (k : ℕ). wrote k 0) (term_size_lem _ _ _ _ p) ∙ ap (λ (x : Written). x.answer) (enough_room (term_bytes p.term) 0 o (omega (arith, term_size_lem _ _ _ _ p, l)))); out = (λ ms p. front_placed _ o _ _ (term_size_lem _ _ _ _ p) (c.write_term.ensures ms (recast _ (part_length _ o l) p)) ∙ ap (λ (x : Written). x.out) (enough_room (term_bytes p.term) 0 o (omega (arith, term_size_lem _ _ _ _ p, l)))) }
