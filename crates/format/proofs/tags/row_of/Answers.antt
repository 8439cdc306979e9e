-- `tags::row_of` meets its contract: each of its tables is a column of the table of tags, tested number by number.
-- Assumes nothing.
use mathlib.Core.Path.{ap, sym}
use mathlib.Core.List.{List, [], ◌∷◌}
use Prim.Native.Nat.{ℕ}
use Rattle.format.specs.declared.tags.Kind.TheVariants.{NoTag, Rule, Definition, GoalList, Hiproof, Tactic, Entry}
use Rattle.format.specs.declared.tags.Kind.{Kind}
use Rattle.format.specs.Tags.{Row, rows, find_row, row_of, kind_of, least_of, most_of, inner_of}
use Rattle.format.specs.Kinds.{kind_number}
use Rattle.format.proofs.Rows.{entry, beyond}
use Rattle.format.proofs.tags.row_of.Goals as goal

-- the tables
kinds : List Kind
kinds = NoTag ∷ Rule ∷ Definition ∷ GoalList ∷ NoTag ∷ NoTag ∷ NoTag ∷ NoTag ∷ NoTag ∷ NoTag ∷ NoTag ∷ NoTag ∷ NoTag ∷ NoTag ∷ NoTag ∷ NoTag ∷ Hiproof ∷ Hiproof ∷ Hiproof ∷ Hiproof ∷ Hiproof ∷ Hiproof ∷ Tactic ∷ Tactic ∷ Tactic ∷ NoTag ∷ NoTag ∷ NoTag ∷ NoTag ∷ NoTag ∷ NoTag ∷ NoTag ∷ Entry ∷ Entry ∷ []

least : List ℕ
least = 0 ∷ 4 ∷ 2 ∷ 0 ∷ 0 ∷ 0 ∷ 0 ∷ 0 ∷ 0 ∷ 0 ∷ 0 ∷ 0 ∷ 0 ∷ 0 ∷ 0 ∷ 0 ∷ 2 ∷ 0 ∷ 2 ∷ 0 ∷ 0 ∷ 0 ∷ 0 ∷ 2 ∷ 2 ∷ 0 ∷ 0 ∷ 0 ∷ 0 ∷ 0 ∷ 0 ∷ 0 ∷ 4 ∷ 2 ∷ []

most : List ℕ
most = 0 ∷ 20 ∷ 65535 ∷ 65535 ∷ 0 ∷ 0 ∷ 0 ∷ 0 ∷ 0 ∷ 0 ∷ 0 ∷ 0 ∷ 0 ∷ 0 ∷ 0 ∷ 0 ∷ 2 ∷ 0 ∷ 65535 ∷ 65535 ∷ 65535 ∷ 0 ∷ 65535 ∷ 2 ∷ 2 ∷ 0 ∷ 0 ∷ 0 ∷ 0 ∷ 0 ∷ 0 ∷ 0 ∷ 4 ∷ 2 ∷ []

inner : List ℕ
inner = 0 ∷ 0 ∷ 1 ∷ 0 ∷ 0 ∷ 0 ∷ 0 ∷ 0 ∷ 0 ∷ 0 ∷ 0 ∷ 0 ∷ 0 ∷ 0 ∷ 0 ∷ 0 ∷ 0 ∷ 0 ∷ 1 ∷ 2 ∷ 2 ∷ 0 ∷ 2 ∷ 0 ∷ 0 ∷ 0 ∷ 0 ∷ 0 ∷ 0 ∷ 0 ∷ 0 ∷ 0 ∷ 0 ∷ 0 ∷ []

pub returns-clause-kind : goal.returns-clause-kind
unfolding kinds kind_of row_of rows find_row
returns-clause-kind c = entry kind_number NoTag kinds kind_of tt (λ t h. sym (ap (λ (r : Row). r.kind) (beyond t h))) _ _ c.entry_of-n.ensures

pub returns-clause-least : goal.returns-clause-least
unfolding least least_of row_of rows find_row
returns-clause-least c = entry (λ n. n) 0 least least_of tt (λ t h. sym (ap (λ (r : Row). r.least) (beyond t h))) _ _ c.entry_of-n.ensures

pub returns-clause-most : goal.returns-clause-most
unfolding most most_of row_of rows find_row
returns-clause-most c = entry (λ n. n) 0 most most_of tt (λ t h. sym (ap (λ (r : Row). r.most) (beyond t h))) _ _ c.entry_of-n.ensures

pub returns-clause-inner : goal.returns-clause-inner
unfolding inner inner_of row_of rows find_row
returns-clause-inner c = entry (λ n. n) 0 inner inner_of tt (λ t h. sym (ap (λ (r : Row). r.inner) (beyond t h))) _ _ c.entry_of-n.ensures
