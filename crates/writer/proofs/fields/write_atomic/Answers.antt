-- `fields::write_atomic` meets its contract: the header, then the name behind it.
-- Assumes nothing.
use mathlib.Core.Path.{◌∙◌, ap}
use mathlib.Core.List.{List}
use Prim.Native.Nat.{ℕ}
use borrow.Author.Rules.{rules}
use Rattle.words.specs.Word.{put_word}
use Rattle.writer.proofs.Lent.{atomic_stored}
use Rattle.writer.proofs.fields.write_atomic.Goals as goal

pub returns : goal.returns
returns c =
    let a = c.args in
    c.store16.ensures ∙ ap (λ (l : List ℕ). put_word l 3 a.name.0) c.write_header.ensures
    ∙ atomic_stored a.out.now a.name (search rules)
