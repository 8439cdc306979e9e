-- What the answer of `read_table` says of the table: by the two cases of a result. Later code that walks over a table begins here.
-- Assumes nothing.
use Rattle.std.specs.Prelude.{Ok, Err}
use mathlib.Core.Path.{◌≡◌, ap, subst}
use mathlib.Core.List.{List}
use Prim.Native.Nat.{ℕ}
use native.Mathlib.Omega.{arith}
use lib.ListN.{length}
use Rattle.format.specs.declared.refusals.Refusal.{Refusal}
use Rattle.format.specs.Results.{Result, gives, refused, told}
use Rattle.format.proofs.ResultLaws.{same_refusal}
use Rattle.tables.specs.declared.fields.TableParts.{TableParts}
use Rattle.tables.specs.Tables.{Table}
use Rattle.tables.specs.ReadTables.{read_table}
use Rattle.tables.specs.Shapes.{table_shape}
use Rattle.tables.specs.Standing.{TableStands}
use Rattle.tables.specs.Facts.{TableFacts, TableRefusal}
use Rattle.tables.proofs.WholeLaws.{told_table_lem}
use Rattle.tables.proofs.RefusedTable.{table_place}
use Rattle.tables.proofs.ReadsTable.{table_facts}

-- the table that the code tells as read, with its counts, and where its definitions begin
pub record ToldRead (s : List ℕ) (p : TableParts) : Type 0 where
  pub table : Table
  pub reads : read_table s ≡ gives table
  pub facts : TableFacts s table
  pub rules_are : length table.rules ≡ p.rules
  pub definitions_are : length table.definitions ≡ p.definitions
  pub stands : TableStands s p.first table

-- the refusal that the code tells
pub record ToldRefused (s : List ℕ) (f : Refusal) : Type 0 where
  pub refuses : read_table s ≡ refused f.cause f.place
  pub refusal : TableRefusal s f.cause f.place

by_refusal : (x : Result Table) (f : Refusal) → table_shape x ≡ Err f → x ≡ refused f.cause f.place
unfolding table_shape told
by_refusal (gives T) f e = absurd (let z : ◌≡◌ {A = ℕ} 0 1 = cc in omega arith)
by_refusal (refused c q) f e = ap (λ (g : Refusal). refused g.cause g.place) (same_refusal e)

pub told-reads : (s : List ℕ) (p : TableParts) → table_shape (read_table s) ≡ Ok p → ToldRead s p
told-reads s p e =
    let t = told_table_lem (read_table s) p e in
    let f = table_facts s t.0 t.1 in
    record {
      table = t.0;
      reads = t.1;
      facts = f;
      rules_are = ap (λ (q : TableParts). q.rules) t.2;
      definitions_are = ap (λ (q : TableParts). q.definitions) t.2;
      stands = subst (λ (q : TableParts). TableStands s q.first t.0) t.2 f.stands;
    }

pub told_refuses : (s : List ℕ) (f : Refusal) → table_shape (read_table s) ≡ Err f → ToldRefused s f
told_refuses s f e = let r = by_refusal (read_table s) f e in record { refuses = r; refusal = table_place s f.cause f.place r }
