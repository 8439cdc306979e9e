-- The answer of the scan in the code: cause and place of a refusal, or how many marks the text has and the bytes of its term.
use Rattle.std.specs.Prelude.{ℕ, Ok}
use Rattle.std.specs.Prelude as std
use Rattle.format.specs.declared.refusals.Refusal.{Refusal}
use Rattle.format.specs.Results.{Result, told, refused_at}
use Rattle.notation.specs.Scans.{Scan}
use Rattle.text_reader.specs.declared.scan.Scanned.{Scanned}

unfoldable pub scan_shape : (count : ℕ) → Result Scan → std.Result Scanned Refusal
scan_shape n x = told refused_at (λ σ. Ok (record { count = n; size = σ.size })) x
