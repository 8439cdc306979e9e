-- The sizes of what is written, from the counts alone.
use Rattle.std.specs.Prelude.{ℕ, ◌+◌, ◌*◌, ◌-◌, cond, eqb}

-- the bytes of the term that is written from so many uses and opens
unfoldable pub term_size : (uses opens : ℕ) → ℕ
term_size u o = cond (eqb (u + o) 0) 3 (8 * u + 6 * o - 3)

-- the bytes of the proof file of so many roots, uses and opens
unfoldable pub proof_size : (roots uses opens : ℕ) → ℕ
proof_size r u o = 3 + r * 2 + term_size u o + (3 + o * 2)
