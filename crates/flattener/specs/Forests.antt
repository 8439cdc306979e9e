-- The forest of an accepted proof, as cells in the work space, and what the entry flatten comes to.
use Rattle.std.specs.Prelude.{ℕ, ◌≤◌, ◌≡◌, List, [], map, length, Ok, Err}
use Rattle.std.specs.Prelude as std
use Rattle.format.specs.Results.{gives}
use Rattle.tables.specs.Tables.{Table}
use Rattle.tables.specs.Standing.{TableStands}
use Rattle.index.specs.Build.{RulesIndexed}
use Rattle.files.specs.declared.proofs.ProofParts.{ProofParts}
use Rattle.files.specs.Proofs.{Proof, read_proof_fields, term_place}
use Rattle.files.specs.Shapes.{parts_of}
use Rattle.hitac.specs.Premises.{FewPremises}
use Rattle.hitac.specs.Hiproofs.{atomics}
use Rattle.hitac.specs.Walk.{walk}
use Rattle.hitac.proofs.Nodes.{Cell, open_cell, range, node_walk}
use Rattle.answers.specs.declared.Answer.{Answer}
use Rattle.entries.specs.Outcomes.{in_file, done, other_file}
use Rattle.entries.specs.LentSpace.{Written, write_out}
use Rattle.entries.specs.Check.{checked, forest_file}
use Rattle.input_arities.specs.Layout.{arities_end}
use Rattle.nodes.specs.Space.{cells_end, cells_of}

-- a table that was read: it stands, its rules are indexed, and none has more than eight premises
pub record TableReady (T : Table) (table : List ℕ) (first : ℕ) (w : List ℕ) : Type 0 where
  pub stands : TableStands table first T
  pub few : FewPremises T
  pub indexed : RulesIndexed table first w arities_end

-- the cells that hitac's walk over nodes leaves, from the stated goals as the first nodes
abbrev pub forest_cells : Table → Proof → List Cell
forest_cells T p = (node_walk T p.term (map open_cell p.goals) (range 0 (length p.goals))).cells

-- An accepted proof: the walk gives the remaining goals, and the cells of its nodes are made.
pub record Accepted (T : Table) (p : Proof) (s w : List ℕ) (parts : ProofParts) (uses nodes : ℕ) : Type 0 where
  pub reads : read_proof_fields s ≡ gives p
  pub parts_are : parts_of p ≡ parts
  pub walks : walk T p.term (term_place p) p.goals ≡ gives p.remaining
  pub uses_are : uses ≡ atomics p.term
  pub cells : cells_of w nodes ≡ forest_cells T p
  pub within : cells_end ≤ length w

-- what an accepted proof brings about in the output space, and what a proof that was read does
abbrev pub written : Table → Proof → (out : List ℕ) → Written
written T p out = write_out [] out (done (forest_file T p))

abbrev pub flattened : Table → Proof → (out : List ℕ) → Written
flattened T p out = write_out [] out (in_file other_file (checked T p (forest_file T p)) done)

-- the answer of a success or of a refusal
abbrev pub answer_in : std.Result Answer Answer → Answer
answer_in (Ok a) = a
answer_in (Err a) = a
