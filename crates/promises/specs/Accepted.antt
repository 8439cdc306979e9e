-- Document 01, "Checking a hiproof": "A proof is accepted exactly when table and proof file read without refusal, every term in the walk on the stated goals can take
-- its goals, no joined list has more than 256, and the list given at the end is that of the stated remaining goals."
use Rattle.std.specs.Prelude.{ℕ, ◌≡◌, List}
use Rattle.format.specs.Results.{gives}
use Rattle.tables.specs.Tables.{Table, HasRule}
use Rattle.tables.specs.ReadTables.{read_table}
use Rattle.files.specs.Proofs.{Proof, read_proof}
use Rattle.hitac.specs.Validates.{AtMost256, Validates}

-- a table file and a proof file of these bytes: the paper's Fig. 2, over the table's rules and with at most 256 goals in a joined list, takes the stated goals to the remaining ones
pub record Accepted (table proof : List ℕ) : Type 0 where
  pub the_table : Table
  pub the_proof : Proof
  pub table_reads : read_table table ≡ gives the_table
  pub proof_reads : read_proof proof ≡ gives the_proof
  pub validates : Validates (HasRule the_table) AtMost256 the_proof.term the_proof.goals the_proof.remaining
