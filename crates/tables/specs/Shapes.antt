-- The answers of the readers in the code: number and place of a refusal, or what the code keeps of what was read.
use Rattle.std.specs.Prelude.{Ok, length}
use Rattle.std.specs.Prelude as std
use Rattle.format.specs.declared.refusals.Refusal.{Refusal}
use Rattle.format.specs.Results.{Result, told, refused_at}
use Rattle.parts.specs.declared.state.State.{State}
use Rattle.tables.specs.declared.fields.TableParts.{TableParts}
use Rattle.tables.specs.Tables.{Table}
use Rattle.tables.specs.Repeats.{rules_size}

-- of a table the numbers of rules and definitions and the place of the first definition
abbrev pub parts_of : Table → TableParts
parts_of T = record { rules = length T.rules; definitions = length T.definitions; first = rules_size T.rules }

unfoldable pub table_shape : Result Table → std.Result TableParts Refusal
table_shape x = told refused_at (λ T. Ok (parts_of T)) x

-- what a state in which nothing is left to read tells of a table
abbrev pub table_counted : State → TableParts
table_counted x = record { rules = x.first; definitions = x.second; first = x.from }
