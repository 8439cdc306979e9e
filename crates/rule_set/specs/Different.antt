-- Document 02, P6: "the count of different rules used".
use Rattle.std.specs.Prelude.{ℕ, ◌+◌, ◌≡◌, Bool, true, false, cond, ◌↔◌, eqb, length}
use mathlib.Core.List.{List, [], ◌∷◌, Memᴰ}

-- a number is one of these
unfoldable pub among : ℕ → List ℕ → Bool
among n [] = false
among n (m ∷ ms) = cond (eqb n m) true (among n ms)

-- how many different numbers there are: each counts where it stands for the last time
unfoldable pub different : List ℕ → ℕ
different [] = 0
different (n ∷ ns) = cond (among n ns) (different ns) (different ns + 1)

-- no number stands twice in a list
unfoldable pub Distinct : List ℕ → Type 0
Distinct [] = Unit {0}
Distinct (n ∷ ns) = (among n ns ≡ false) × Distinct ns

-- k is the size of the set of the numbers of which P holds
pub record SetSize (P : ℕ → Type 0) (k : ℕ) : Type 0 where
  pub list : List ℕ
  pub distinct : Distinct list
  pub members : (n : ℕ) → Memᴰ n list ↔ P n
  pub size : length list ≡ k
