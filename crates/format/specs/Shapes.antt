-- The answers of the readers in the code: cause and place of a refusal, or what the code keeps of what was read.
use Rattle.std.specs.Prelude.{ℕ, Ok, ◌+◌, ◌≤◌, cond, eqb, length}
use Rattle.std.specs.Prelude as std
use Rattle.format.specs.declared.headers.Header as read
use Rattle.format.specs.declared.refusals.Refusal.{Refusal}
use Rattle.format.specs.TermRead.{TermRead}
use Rattle.format.specs.TermRead as T
use Rattle.format.specs.GoalsRead.{GoalsRead}
use Rattle.format.specs.GoalsRead as G
use Rattle.format.specs.Refusals.{LengthWrong}
use Rattle.format.specs.Results.{Result, told, refused_at}
use Rattle.format.specs.Headers.{Header}
use Rattle.format.specs.ReadTerms.{ParsedTerm}
use Rattle.format.specs.Goals.{ParsedGoals}

-- of a header the tag and the length
unfoldable pub header_shape : Result Header → std.Result read.Header Refusal
header_shape x = told refused_at (λ h. Ok (record { tag = h.tag; len = h.len })) x

-- of a term the offset behind it and the term fields so far
unfoldable pub term_shape : Result ParsedTerm → TermRead
term_shape x = told T.Refused (λ t. T.Read t.next t.count) x

-- of a goal list the number of goals and the offset behind it
unfoldable pub goals_shape : Result ParsedGoals → GoalsRead
goals_shape x = told G.Refused (λ g. G.Read (length g.goals) g.next) x

-- the end of a field with inner terms, whatever the terms are
unfoldable pub ending : (at end next count : ℕ) → TermRead
ending at end next n = cond (eqb next end) (T.Read next n) (T.Refused LengthWrong at)

-- a term that was read lies within what encloses it
unfoldable pub Within : (at end : ℕ) → TermRead → Type 0
Within at end (T.Refused k p) = Unit {0}
Within at end (T.Read next n) = (at + 3 ≤ next) × (next ≤ end)
