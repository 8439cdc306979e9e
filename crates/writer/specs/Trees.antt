-- Document 01, "Writing a proof": what the two writers of a term are given and what they leave.
use Rattle.std.specs.Prelude.{ℕ, ◌≤◌, ◌<◌, ◌≡◌, cond, List, [], ◌++◌, eqb, length, drop}
use Rattle.format.specs.declared.values.Goal.{Goal}
use Rattle.format.specs.Terms.{Term, size}
use Rattle.format.specs.Encoding.{term_bytes}
use Rattle.tables.specs.Tables.{Table}
use Rattle.files.specs.Derivations.{Entry}
use Rattle.hitac.specs.Premises.{Finds}
use Rattle.hitac.specs.Derives.{Derives}
use Rattle.hitac.specs.Write.{written}
use Rattle.writer.specs.Plan.{plan_size, behind, Planned}

-- n trees whose entries are planned from a place on, right in a table
pub record Trees (p : List ℕ) (at n : ℕ) : Type 0 where
  pub table : Table
  pub goals : List Goal
  pub count : length goals ≡ n
  pub entries : List Entry
  pub planned : Planned table p at entries
  pub inside : behind at entries ≤ plan_size
  pub right : Derives (Finds table) goals entries []

-- the term that is written for them
abbrev pub term_of : {p : List ℕ} {at n : ℕ} → Trees p at n → Term
term_of trees = written trees.table trees.entries

-- the place behind their entries
abbrev pub end_of : {p : List ℕ} {at n : ℕ} → Trees p at n → ℕ
end_of {at = at} trees = behind at trees.entries

-- there are such trees, and room for their term
pub record Ready (p : List ℕ) (at n room : ℕ) : Type 0 where
  pub trees : Trees p at n
  pub fits : size (term_of trees) ≤ room
  pub small : size (term_of trees) < 65536

-- a term was written: the place behind the entries, and the bytes, those behind the term as they were
pub record Done (t : Term) (end next : ℕ) (before after : List ℕ) : Type 0 where
  pub passed : next ≡ end
  pub bytes_are : after ≡ term_bytes t ++ drop (size t) before

-- the bytes before the first of n trees: the header of their tensor, and none before one tree
unfoldable pub lead : (n : ℕ) → ℕ
lead n = cond (eqb n 1) 0 3
