-- What keeps a replay within its vector file and its buffers.
use Rattle.std.specs.Prelude.{ℕ, ◌+◌, ◌≤◌, ◌≡◌}
use Rattle.replay.specs.declared.records.Expanded.{Expanded}
use Rattle.replay.specs.declared.tally.Tally.{Tally}
use Rattle.replay.specs.declared.steps.Progress.{Progress}

-- a record that ends between two places, and a file that fits
pub record Inside (r : Expanded) (low high room : ℕ) : Type 0 where
  pub after : low ≤ r.next
  pub before_end : r.next ≤ high
  pub fits : r.size ≤ room

-- no count is greater than n
pub record Below (t : Tally) (n : ℕ) : Type 0 where
  pub cases : t.cases ≤ n
  pub reading : t.reading ≤ n
  pub calls : t.calls ≤ n
  pub skipped : t.skipped ≤ n
  pub differences : t.differences ≤ n

-- each count of r is that of a and that of b together
pub record Sum (a b r : Tally) : Type 0 where
  pub cases : r.cases ≡ a.cases + b.cases
  pub reading : r.reading ≡ a.reading + b.reading
  pub calls : r.calls ≡ a.calls + b.calls
  pub skipped : r.skipped ≡ a.skipped + b.skipped
  pub differences : r.differences ≡ a.differences + b.differences

-- a replay whose next record begins between two places, whose files fit their buffers, and which has counted at most one case for each byte
pub record Placed (p : Progress) (low high table other : ℕ) : Type 0 where
  pub after : low ≤ p.at
  pub before_end : p.at ≤ high
  pub table_fits : p.table ≤ table
  pub other_fits : p.other ≤ other
  pub counted : Below p.tally p.at
