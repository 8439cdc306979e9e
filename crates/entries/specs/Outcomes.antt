-- What a call comes to, before lent space is looked at: a value and the steps taken, or the cause of a refusal with its file, its place and the steps.
use Rattle.std.specs.Prelude.{ℕ}
use Rattle.format.specs.declared.refusals.Cause.{Cause}
use Rattle.format.specs.Results.{Result, gives, refused}

pub data Outcome (A : Type 0) : Type 0 where
  success : A → (steps : ℕ) → Outcome A
  refusal : Cause → (file place steps : ℕ) → Outcome A

-- "file (1 table, 2 the other, 0 neither)"
abbrev pub table_file : ℕ
table_file = 1

abbrev pub other_file : ℕ
other_file = 2

abbrev pub no_file : ℕ
no_file = 0

-- what was found in a file, then what follows; outside runs no step is taken
abbrev pub in_file : {A B : Type 0} → (file : ℕ) → Result A → (A → Outcome B) → Outcome B
in_file file (gives a) next = next a
in_file file (refused c p) next = refusal c file p 0

-- the value that a call without steps comes to
abbrev pub done : {A : Type 0} → A → Outcome A
done a = success a 0
