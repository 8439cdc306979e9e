-- `flatten::flatten_files` meets its contract: how the files read says which case of the entry's definition holds.
-- Assumes nothing.
use Rattle.std.proofs.Common.{rules, ◌≡◌, ◌∙◌, ◌≤◌, ap, sym, arith}
use Rattle.std.specs.Prelude.{List, ℕ, Ok, Err}
use Rattle.std.proofs.lemmas.Grind.{common_steps}
use Rattle.format.specs.Refusals.{number}
use Rattle.format.specs.Results.{gives}
use Rattle.tables.specs.Tables.{Table}
use Rattle.tables.specs.ReadTables.{read_table}
use Rattle.tables.proofs.ReadsTable.{reads_few_premises}
use Rattle.tables.proofs.ToldTable.{told_refuses}
use Rattle.whole_table.proofs.ReadLaws.{told_indexed}
use Rattle.files.specs.declared.proofs.ProofParts.{ProofParts}
use Rattle.files.specs.Proofs.{Proof, read_proof_fields, read_proof}
use Rattle.files.specs.Shapes.{parts_of}
use Rattle.files.proofs.Answers as files
use Rattle.files.proofs.EmptyProof.{read_itself}
use Rattle.files.proofs.RefusedFiles.{Fields-refused}
use Rattle.answers.specs.Answers.{refusal}
use Rattle.entries.specs.LentSpace.{Written}
use Rattle.walks.proofs.IndexLaws.{indexed_still}
use Rattle.flattener.specs.Forests.{TableReady}
use Rattle.flattener.proofs.FlattenLaws.{either, table_refused, proof_refused, both_read}
use Rattle.flattener.proofs.flatten.flatten_files.Goals.{In_ok-parts}
use Rattle.flattener.proofs.flatten.flatten_files.Goals as goal

pub map_err-requires : goal.map_err-requires
map_err-requires c = λ e is.
    let low : e.place ≤ 65535 = omega (arith, (told_refuses _ _ (sym c.read_table-read.ensures.answer ∙ is)).refusal.below) in
    search rules

pub returns-in_err-fields : goal.returns-in_err-fields
returns-in_err-fields c =
    either c.read_table-read.result
    (λ p is. absurd (grind (arith, common_steps)))
    (λ e is.
    let made : c.from_residual.result ≡ Err (refusal (number e.cause) 1 e.place 0) = grind (arith, common_steps) in
    let left = sym (table_refused _ c.args.proof.now c.args.out.now e (told_refuses _ _ (sym c.read_table-read.ensures.answer ∙ is)).refuses) in
    record { answer = rw made (ap (λ (y : Written). y.answer) left); out = ap (λ (y : Written). y.out) left })

pub map_err-requires-2 : goal.map_err-requires-2
map_err-requires-2 c = λ e is.
    let low : e.place ≤ 65535 = omega (arith, (Fields-refused _ _ _ (files.proof_refused _ _ (sym c.read_proof_fields-read.ensures.value ∙ is))).below) in
    search rules

pub returns-in_err-parts : goal.returns-in_err-parts
returns-in_err-parts c =
    let was : c.read_table-read.result ≡ Ok c.in_ok-fields.fields = grind (arith, common_steps) in
    let t = (told_indexed _ _ _ _ _ _ _ c.read_table-read.ensures was).read in
    let own : read_proof c.args.proof.now ≡ read_proof_fields c.args.proof.now = read_itself _ c.requires.0 in
    either c.read_proof_fields-read.result
    (λ p is. absurd (grind (arith, common_steps)))
    (λ e is.
    let made : c.from_residual-in_err-parts.result ≡ Err (refusal (number e.cause) 2 e.place 0) = grind (arith, common_steps) in
    let left = sym (proof_refused _ _ c.args.out.now t.table e t.reads (own ∙ files.proof_refused _ _ (sym c.read_proof_fields-read.ensures.value ∙ is))) in
    record { answer = rw made (ap (λ (y : Written). y.answer) left); out = ap (λ (y : Written). y.out) left })

-- both files were read
record Both (table work : List ℕ) (first : ℕ) (proof : List ℕ) (parts : ProofParts) : Type 0 where
  the_table : Table
  reads : read_table table ≡ gives the_table
  ready : TableReady the_table table first work
  the_proof : Proof
  proof_reads : read_proof_fields proof ≡ gives the_proof
  parts_are : parts_of the_proof ≡ parts

both : (c : In_ok-parts) → Both c.args.table.now c.read_proof_fields-read.new.work c.in_ok-fields.fields.first c.args.proof.now c.in_ok-parts.parts
both c =
    let was : c.read_table-read.result ≡ Ok c.in_ok-fields.fields = grind (arith, common_steps) in
    let is : c.read_proof_fields-read.result ≡ Ok c.in_ok-parts.parts = grind (arith, common_steps) in
    let t = told_indexed _ _ _ _ _ _ _ c.read_table-read.ensures was in
    let x = files.proof_read _ _ (sym c.read_proof_fields-read.ensures.value ∙ is) in
    record {
      the_table = t.read.table;
      reads = t.read.reads;
      ready = record {
        stands = t.read.stands;
        few = λ a γ h m. reads_few_premises _ t.read.table t.read.reads _ m;
        indexed = indexed_still _ _ _ _ c.read_proof_fields-read.auto.work (λ i a b. c.read_proof_fields-read.ensures.kept.above i (omega arith)) t.rules;
      };
      the_proof = x.0;
      proof_reads = x.1;
      parts_are = x.2;
    }

pub flatten_parts-requires : goal.flatten_parts-requires
flatten_parts-requires c =
    let b = both (goal.at.flatten_parts-requires c).In_ok-parts in
    ((b.the_table, b.ready), (b.the_proof, b.proof_reads, b.parts_are), omega (arith, c.requires.1, c.read_table-read.auto.w, c.read_proof_fields-read.auto.work))

pub returns : goal.returns
returns c =
    let b = both (goal.at.returns c).In_ok-parts in
    let own : read_proof c.args.proof.now ≡ read_proof_fields c.args.proof.now = read_itself _ c.requires.0 in
    let f = c.flatten_parts.ensures in
    let left = sym (both_read _ _ c.args.out.now b.the_table b.the_proof b.reads (own ∙ b.proof_reads)) in
    record { answer = f.answer b.the_table b.the_proof b.ready b.proof_reads ∙ ap (λ (y : Written). y.answer) left; out = f.out b.the_table b.the_proof b.ready b.proof_reads ∙ ap (λ (y : Written). y.out) left }
