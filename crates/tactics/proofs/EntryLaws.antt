-- An entry that reads a table, then a job: how the files read says what it leaves, whatever follows the reading. At its end stands 26 or a proof file.
-- Assumes nothing.
use Prim.Native.Nat.{ℕ, ◌≤◌, ◌<◌}
use mathlib.Core.Path.{◌≡◌, refl, sym, ap, subst, ◌∙◌}
use mathlib.Core.List.{List, ◌++◌}
use native.Mathlib.Omega.{arith}
use lib.ListN.{length, drop}
use Rattle.std.specs.Prelude.{Ok, Err}
use Rattle.format.specs.declared.values.Goal.{Goal}
use Rattle.format.specs.declared.refusals.Refusal.{Refusal}
use Rattle.format.specs.declared.refusals.Cause.{Cause}
use Rattle.format.specs.Refusals.{number}
use Rattle.format.specs.Results.{gives, refused}
use Rattle.format.specs.Goals.{goals_at}
use Rattle.format.specs.Terms.{Term, size}
use Rattle.format.specs.Standing.{Stands}
use Rattle.tables.specs.declared.fields.TableParts.{TableParts}
use Rattle.tables.specs.Tables.{Table, UniqueDefinitions}
use Rattle.tables.specs.ReadTables.{read_table}
use Rattle.tables.specs.Standing.{TableStands}
use Rattle.tables.specs.Shapes.{table_shape}
use Rattle.tables.proofs.ToldTable.{told-reads, told_refuses}
use Rattle.tables.proofs.ReadsTable.{reads_unique_definitions}
use Rattle.files.specs.declared.jobs.JobParts.{JobParts}
use Rattle.files.specs.Proofs.{proof_bytes}
use Rattle.files.specs.Jobs.{Job, read_job}
use Rattle.files.specs.Counts.{job_term_place}
use Rattle.files.specs.Standing.{JobStands}
use Rattle.files.specs.Shapes.{job_parts_of, job_shape}
use Rattle.files.proofs.Answers as files
use Rattle.files.proofs.RefusedFiles.{Job-refused}
use Rattle.files.proofs.WhatStands.{job_stands}
use Rattle.answers.specs.declared.Answer.{Answer}
use Rattle.answers.specs.Answers as said
use Rattle.entries.specs.Outcomes.{Outcome, success, refusal, table_file, other_file}
use Rattle.entries.specs.Left.{kept, left_in}
use Rattle.entries.proofs.LeftLaws.{refuses, no_room, enough_room}
use Rattle.tactics.specs.File.{file_size, FileWritten}
use Rattle.tactics.specs.Entry.{on_job, FilesRefused, no_table, no_job}
use Rattle.tactics.proofs.FileLaws.{file_size_lem}

-- a refusal's place lies in its file
pub table_place : (t : List ℕ) (e : Refusal) → table_shape (read_table t) ≡ Err e → e.place ≤ 65535
table_place t e q = (told_refuses t e q).refusal.below

pub job_place : (s : List ℕ) (e : Refusal) → job_shape (read_job s) ≡ Err e → e.place ≤ 65535
job_place s e q = (Job-refused s e.cause e.place (files.job_refused s e q)).below

-- what is known once both files were read
pub record BothRead (t s : List ℕ) (definitions first : ℕ) (parts : JobParts) : Type 0 where
  pub table : Table
  pub table_reads : read_table t ≡ gives table
  pub table_small : length t < 65536
  pub table_stands : TableStands t first table
  pub unique : UniqueDefinitions table
  pub count_is : definitions ≡ length table.definitions
  pub the_job : Job
  pub job_reads : read_job s ≡ gives the_job
  pub job_stands : JobStands s the_job
  pub parts_are : job_parts_of the_job ≡ parts

-- what the code is told of the files
module _ (t s : List ℕ) where
  pub table_refused : (e : Refusal) (r : Answer) → table_shape (read_table t) ≡ Err e → r ≡ said.refusal (number e.cause) 1 e.place 0 → FilesRefused t s r
  table_refused e r q a = no_table e.cause e.place (told_refuses t e q).refuses a

  module _ (fields : TableParts) (e : table_shape (read_table t) ≡ Ok fields) where
    pub job_refused : (f : Refusal) (r : Answer) → job_shape (read_job s) ≡ Err f → r ≡ said.refusal (number f.cause) 2 f.place 0 → FilesRefused t s r
    job_refused f r q a = let y = told-reads t fields e in no_job y.table f.cause f.place y.reads (files.job_refused s f q) a

    pub both_read : (parts : JobParts) → job_shape (read_job s) ≡ Ok parts → BothRead t s fields.definitions fields.first parts
    both_read parts f =
        let y = told-reads t fields e in
        let x = files.job_read s parts f in
        record {
          table = y.table;
          table_reads = y.reads;
          table_small = omega (arith, y.facts.size);
          table_stands = y.stands;
          unique = reads_unique_definitions t y.table y.reads;
          count_is = sym y.definitions_are;
          the_job = x.0;
          job_reads = x.1;
          job_stands = job_stands s x.0 x.1;
          parts_are = x.2;
        }

-- what the entry is defined to leave, by how the files read
module _ (t s : List ℕ) (next : Table → Job → Outcome (List ℕ)) where
  table_outcome : (c : Cause) (p : ℕ) → read_table t ≡ refused c p → on_job t s next ≡ refusal c table_file p 0
  table_outcome c p e = rw e

  job_outcome : (T : Table) (c : Cause) (p : ℕ) → read_table t ≡ gives T → read_job s ≡ refused c p → on_job t s next ≡ refusal c other_file p 0
  job_outcome T c p e f = rw (e, f)

  pub both_outcome : (T : Table) (j : Job) → read_table t ≡ gives T → read_job s ≡ gives j → on_job t s next ≡ next T j
  both_outcome T j e f = rw (e, f)

  pub refused_end : (o : List ℕ) (r : Answer) → FilesRefused t s r → kept r o ≡ left_in o (on_job t s next)
  refused_end o r (no_table c p e q) = refuses c (number c) table_file p 0 r o refl q ∙ ap (left_in o) (sym (table_outcome c p e))
  refused_end o r (no_job T c p e f q) = refuses c (number c) other_file p 0 r o refl q ∙ ap (left_in o) (sym (job_outcome T c p e f))

-- the end of a success after so many steps
module _ (w : List ℕ) (term bytes start count : ℕ) (j : Job) (p : Term) (g : List Goal) (place : job_term_place j ≡ term) (size_is : size p ≡ bytes) (goals_are : goals_at w start count ≡ g) where
  abbrev file : List ℕ
  file = proof_bytes (record { goals = j.goals; term = p; remaining = g })

  total_is : length file ≡ file_size term bytes count
  total_is = subst (λ (i : ℕ). length file ≡ file_size i bytes count) place (file_size_lem w bytes start count j p g size_is goals_are)

  pub short_end : (n : ℕ) (o : List ℕ) (r : Answer) → length o < file_size term bytes count → r ≡ said.refusal 26 0 0 n → kept r o ≡ left_in o (success file n)
  short_end n o r h q = ap (λ (x : Answer). kept x o) q ∙ no_room file n o (omega (arith, total_is, h))

  pub success_end : (job : List ℕ) (from n : ℕ) (o v : List ℕ) (r : Answer) → file_size term bytes count ≤ length o → JobStands job j → Stands w from p
      → FileWritten job term w from bytes start count o v → r ≡ said.wrote (file_size term bytes count) n → kept r v ≡ left_in o (success file n)
  success_end job from n o v r h st stands f q =
      let e = sym total_is in
      let a : r ≡ said.wrote (length file) n = q ∙ ap (λ (i : ℕ). said.wrote i n) e in
      let b : v ≡ file ++ drop (length file) o = f j p g st place stands size_is goals_are ∙ ap (λ (i : ℕ). file ++ drop i o) e in
      (λ i. kept (a i) (b i)) ∙ enough_room file n o (omega (arith, total_is, h))
