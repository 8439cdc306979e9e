-- `notes::notes_of` meets its contract: by the file's number.
-- Assumes nothing.
use mathlib.Core.Path.{sym}
use Rattle.arity_notes.proofs.NoteLaws.{notes_table, notes_job}
use Rattle.arity_notes.proofs.notes.notes_of.Goals as goal

pub returns-then-file-eq0 : goal.returns-then-file-eq0
returns-then-file-eq0 c = sym (notes_table _ c.if-file-eq0.true)

pub returns-else-file-eq0 : goal.returns-else-file-eq0
returns-else-file-eq0 c = sym (notes_job _ c.if-file-eq0.false)
