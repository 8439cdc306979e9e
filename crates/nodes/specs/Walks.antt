-- Where the walk over nodes stands, by what is shared with the checker's walk: the cells made so far are the first ones behind the index.
use Rattle.std.specs.Prelude.{ℕ, ◌*◌, ◌≤◌, ◌≡◌, List, length, Ok, Err}
use Rattle.std.specs.Prelude as std
use Rattle.format.specs.Limits.{most_bytes}
use Rattle.format.specs.declared.refusals.Cause.{Cause}
use Rattle.format.specs.declared.refusals.Refusal.{Refusal}
use Rattle.format.specs.Refusals.{number}
use Rattle.format.specs.Results.{gives, refused}
use Rattle.tables.specs.Tables.{Table}
use Rattle.tables.specs.Standing.{TableStands}
use Rattle.index.specs.Build.{RulesIndexed}
use Rattle.hitac.proofs.Nodes.{Cell}
use Rattle.input_arities.specs.Layout.{stack_end, arities_end}
use Rattle.walks.specs.Values.{values_at}
use Rattle.walks.specs.Walks.{out}
use Rattle.walks.specs.Loops.{Aim}
use Rattle.nodes.specs.declared.walk.Walked.{Walked}
use Rattle.nodes.specs.Space.{cells_end, cells_of}

-- the table stands with its rules indexed, and the whole walk is refused for no cause but those of a walk
pub record Walkable (T : Table) (x : Aim Cell) (table : List ℕ) (first : ℕ) (s w : List ℕ) : Type 0 where
  pub table_stands : TableStands table first T
  pub indexed : RulesIndexed table first w arities_end
  pub sound : (c : Cause) (p : ℕ) → x.result ≡ refused c p → 20 ≤ number c
  pub file : length s ≤ most_bytes
  pub space : cells_end ≤ length w

-- so many cells are made, the first ones behind the index
abbrev pub nodes_ready : (table : List ℕ) → (first next : ℕ) → Table → Aim Cell → List Cell → (s w : List ℕ) → Type 0
nodes_ready table first next T x A s w = Walkable T x table first s w × (A ≡ cells_of w next)

-- how the whole walk ended in the work space w
unfoldable pub Ends : Aim Cell → (s w : List ℕ) → std.Result Walked Refusal → Type 0
Ends x s w (Err e) = (x.result ≡ refused e.cause e.place) × (e.place ≤ length s)
Ends x s w (Ok r) = (x.result ≡ gives (out (cells_of w r.nodes) (values_at w 0 r.given))) × (r.uses ≡ x.uses) × (r.given * 2 ≤ stack_end)
