-- Document 02, P1: a saved state as its contents, which stand behind what a run uses of the work space up to a place, and zeros.
use Rattle.std.specs.Prelude.{ℕ, ◌+◌, ◌-◌, ◌≤◌, Bool, true, ◌&&◌, List, [], ◌∷◌, eqb, take, drop}
use Rattle.entries.specs.SavedState.{saved_size, zeros_to}
use Rattle.arities.specs.Layout.{space_end}

-- where the contents may end
pub record EndsAt (end : ℕ) : Type 0 where
  pub above : space_end ≤ end
  pub within : end ≤ space_end + saved_size

-- "zeros last"
abbrev pub saved_bytes : List ℕ → (end : ℕ) → List ℕ
saved_bytes w end = zeros_to saved_size (take (end - space_end) (drop space_end w))

-- nothing but zeros
unfoldable pub all_zero : List ℕ → Bool
all_zero [] = true
all_zero (x ∷ s) = eqb 0 x && all_zero s
