-- Document 02, P8: "The term, given or written, is a file by itself, read like a job's."
use Rattle.std.specs.Prelude.{ℕ, List}
use Rattle.format.specs.Results.{Result}
use Rattle.format.specs.Inputs.{of_size}
use Rattle.format.specs.Tags.{tactic_kind}
use Rattle.format.specs.Terms.{Term}
use Rattle.files.specs.Jobs.{read_last_term}

unfoldable pub read_term_file : List ℕ → Result Term
read_term_file s = of_size s (read_last_term s tactic_kind 0)
