-- What run and search write, and what they leave when they have written it.
use Rattle.std.specs.Prelude.{ℕ, List, ◌++◌, length, drop, replicate}
use Rattle.format.specs.declared.values.Goal.{Goal}
use Rattle.format.specs.Terms.{Term}
use Rattle.files.specs.Proofs.{Proof, proof_bytes}
use Rattle.files.specs.Jobs.{Job}
use Rattle.answers.specs.Answers as answer
use Rattle.entries.specs.LentSpace.{Written}

-- "A run that succeeds writes a proof file", and so does a search that finds a proof: of the job's goals, the hiproof and the goals that it gives
abbrev pub result_of : Job → Term → List Goal → List ℕ
result_of j s h = proof_bytes (record { goals = j.goals; term = s; remaining = h })

-- what a run or a search that writes these bytes after so many steps leaves: its answer, the work space all zero, the bytes and behind them what was there
abbrev pub wrote_after : (steps : ℕ) → (bytes work out : List ℕ) → Written
wrote_after n bytes work out = record { answer = answer.wrote (length bytes) n; work = replicate (length work) 0; out = bytes ++ drop (length bytes) out }
