-- Document 01, "What the bytes bring about": number and place of a refusal of a file other than the table.
use Rattle.std.specs.Prelude.{ℕ, ◌≤◌, ◌<◌, ◌≡◌, List, length}
use Rattle.format.specs.Limits.{most_bytes}
use Rattle.format.specs.declared.refusals.Cause.{Cause}
use Rattle.format.specs.Refusals.{number}

-- a number from 1 to 5, at a place within the file or at its end; 1 is for a file that is too long, and has no place
pub record FileRefusal (s : List ℕ) (c : Cause) (p : ℕ) : Type 0 where
  pub least : 1 ≤ number c
  pub most : number c ≤ 5
  pub within : p ≤ length s
  pub below : p ≤ most_bytes
  pub too_long : number c ≡ 1 → (most_bytes < length s) × (p ≡ 0)
