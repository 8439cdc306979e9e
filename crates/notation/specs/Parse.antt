-- P8: the reading of a text: "1: input over 65,535 bytes", then 36, 37 and 5 as the scan meets them, else the term.
use Rattle.std.specs.Prelude.{ℕ, List, length}
use Rattle.std.proofs.Math.Option.{Option, none, some}
use Rattle.format.specs.Inputs.{of_size}
use Rattle.format.specs.declared.refusals.Cause.TheVariants.{TextWrong}
use Rattle.format.specs.Results.{Result, gives, refused, and_then}
use Rattle.format.specs.Terms.{Term}
use Rattle.notation.specs.MarksIn.{marks_in}
use Rattle.notation.specs.FromRight.{state_of, term_of}
use Rattle.notation.specs.Scans.{start, scan}

-- the term that was read from the right; after a scan to the end there always is one
unfoldable pub term_found : (end : ℕ) → Option Term → Result Term
term_found end none = refused TextWrong end
term_found end (some t) = gives t

unfoldable pub parse : List ℕ → Result Term
parse s = of_size s (and_then (scan start 0 s) (λ σ. term_found (length s) (term_of (state_of (marks_in s)))))
