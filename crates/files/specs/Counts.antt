-- What the code keeps of a job and of a derivation: the place of a job's term; document 01's "4,096 uses, 256 opens", the numbers of use and open entries.
use Rattle.std.specs.Prelude.{ℕ, ◌+◌, ◌*◌, List, [], ◌∷◌, length}
use Rattle.files.specs.Jobs.{Job}
use Rattle.files.specs.Derivations.{Entry, use_entry, open_entry}

unfoldable pub job_term_place : Job → ℕ
job_term_place j = 3 + length j.goals * 2

unfoldable pub uses_in : List Entry → ℕ
uses_in [] = 0
uses_in (use_entry a γ ∷ es) = 1 + uses_in es
uses_in (open_entry γ ∷ es) = uses_in es

unfoldable pub opens_in : List Entry → ℕ
opens_in [] = 0
opens_in (use_entry a γ ∷ es) = opens_in es
opens_in (open_entry γ ∷ es) = 1 + opens_in es
