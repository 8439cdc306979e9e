-- What a write leaves alone: how code that writes into lent space speaks of the rest of it.
use Rattle.std.specs.Prelude.{ℕ, ◌≤◌, ◌<◌, ◌≡◌, List, get_or}

-- the bytes before one place and those from another on are as they were
pub record Kept (w w' : List ℕ) (low high : ℕ) : Type 0 where
  pub below : (i : ℕ) → i < low → get_or w' i 0 ≡ get_or w i 0
  pub above : (i : ℕ) → high ≤ i → get_or w' i 0 ≡ get_or w i 0
