-- Document 01, "The reader moves over the file one field at a time": the field at which it stands ends within what encloses it.
use Rattle.std.specs.Prelude.{ℕ, Ok, Err, ◌+◌, ◌≤◌}
use Rattle.std.specs.Prelude as std
use Rattle.format.specs.declared.headers.Header as read
use Rattle.format.specs.declared.refusals.Refusal.{Refusal}

-- the field at a place ends within what ends at `end`
unfoldable pub Encloses : (at end : ℕ) → std.Result read.Header Refusal → Type 0
Encloses at end (Err r) = Unit {0}
Encloses at end (Ok h) = at + 3 + h.len ≤ end
