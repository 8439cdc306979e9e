-- Document 01, "Running a tactic", and document 02, P12: the machine's ending for each end of the rules (Ends).
use Rattle.format.specs.declared.refusals.Cause.TheVariants.{JoinedTooLong, FieldsTooMany}
use Rattle.evaluation.specs.Outcomes.{Ending, proved, failed, ended}
use Rattle.evaluation.specs.Ends.{End, proof, failure, overflow, excess}

abbrev pub ending_of : End → Ending
ending_of (proof s h) = proved s h
ending_of failure = failed
ending_of overflow = ended JoinedTooLong
ending_of excess = ended FieldsTooMany
