-- What a call that writes leaves, given the work space: answer and output space, in which the work space plays no part.
use Rattle.std.specs.Prelude.{ℕ, List, []}
use Rattle.answers.specs.declared.Answer.{Answer}
use Rattle.entries.specs.Outcomes.{Outcome}
use Rattle.entries.specs.LentSpace.{Written, write_out}

-- an answer with the output space after it
abbrev pub kept : Answer → List ℕ → Written
kept a out = record { answer = a; work = []; out = out }

-- the two as an outcome defines them
abbrev pub left_in : (out : List ℕ) → Outcome (List ℕ) → Written
left_in out o = write_out [] out o
