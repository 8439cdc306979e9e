-- No field is longer than two length bytes tell: by one look at each row of the table.
-- Assumes nothing.
use mathlib.Core.Bool.{Bool, true, false, cond}
use mathlib.Core.List.{List, [], ◌∷◌}
use Prim.Native.Nat.{ℕ, ◌≤◌}
use native.Mathlib.Omega.{arith}
use lib.Dec.{eqb}
use Rattle.format.specs.Tags.{Row, rows, find_row, row_of, most_of}

unfoldable Short : List Row → Type 0
Short [] = Unit {0}
Short (r ∷ rs) = (r.most ≤ 65535) × Short rs

found_short : (rs : List Row) → Short rs → (t : ℕ) → (find_row rs t).most ≤ 65535
unfolding find_row Short
found_short [] h t = omega arith
found_short (r ∷ rs) h t = go (eqb t r.tag) h.0 (found_short rs h.1 t)
  where
    go : (b : Bool) → r.most ≤ 65535 → (find_row rs t).most ≤ 65535 → (cond b r (find_row rs t)).most ≤ 65535
    go true p q = p
    go false p q = q

all_short : Short rows
unfolding Short rows
all_short = (omega arith, (omega arith, (omega arith, (omega arith, (omega arith, (omega arith, (omega arith, (omega arith, (omega arith, (omega arith, (omega arith, (omega arith, (omega arith, (omega arith, tt))))))))))))))

pub short_field : (t : ℕ) → most_of t ≤ 65535
unfolding most_of row_of
short_field t = found_short rows all_short t
