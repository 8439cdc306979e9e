-- The arity of a tensor's left term, noted once for each tensor of the table and of the job: in two bytes of the work space that go by the place of its right
-- term, where the walk over the file knows it. So notes are made in the order of their places.
use Rattle.std.specs.Prelude.{ℕ, zero, suc, ◌+◌, ◌≡◌, List}
use Rattle.std.proofs.Math.Option.{Option}
use Rattle.words.specs.Word.{word}
use Rattle.format.specs.declared.values.TacticNo.{TacticNo}
use Rattle.format.specs.Terms.{Term, atomic, id, label, sequence, tensor, empty, alternation, assert, defined, size}
use Rattle.input_arities.specs.Threads.{slot}
use Rattle.evaluation.specs.TacticArity.{arity_in}
use Rattle.arity_notes.specs.Regions.{table_notes, job_notes}
use Rattle.arities.specs.Arities.{arity_code}

-- where the notes of a file begin: of the table (file 0) and of the job
unfoldable pub notes_of : (file : ℕ) → ℕ
notes_of zero = table_notes
notes_of (suc f) = job_notes

-- the arity of the left term, of which the right one stands at a place
abbrev pub NotedLeft : List ℕ → (base : ℕ) → (TacticNo → Option ℕ) → (right : ℕ) → (left : Term) → Type 0
NotedLeft w base known right t = word w (base + slot right) ≡ arity_code (arity_in known t)

-- the left arities of all tensors of the term at a place are noted
unfoldable pub Noted : List ℕ → (base : ℕ) → (TacticNo → Option ℕ) → (at : ℕ) → Term → Type 0
Noted w base known at (atomic a) = Unit {0}
Noted w base known at id = Unit {0}
Noted w base known at (label l t) = Noted w base known (at + 5) t
Noted w base known at (sequence t u) = Noted w base known (at + 3) t × Noted w base known (at + 3 + size t) u
Noted w base known at (tensor t u) = NotedLeft w base known (at + 3 + size t) t × Noted w base known (at + 3) t × Noted w base known (at + 3 + size t) u
Noted w base known at empty = Unit {0}
Noted w base known at (alternation t u) = Noted w base known (at + 3) t × Noted w base known (at + 3 + size t) u
Noted w base known at (assert γ) = Unit {0}
Noted w base known at (defined n) = Unit {0}
