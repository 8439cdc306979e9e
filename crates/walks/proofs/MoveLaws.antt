-- One value moved up by itself is moved as a block of two bytes is.
-- Assumes nothing.
use mathlib.Core.Path.{◌≡◌, ap, subst, ◌∙◌}
use mathlib.Core.List.{List}
use Prim.Native.Nat.{ℕ, ◌+◌, ◌≤◌}
use native.Mathlib.Omega.{arith}
use lib.ListN.{length, drop, get_or, set}
use lib.Seq.{paste, paste-zero}
use Rattle.words.proofs.Copy.{turn}

module _ (d : List ℕ) (from to : ℕ) (p : from ≤ to) (q : to + 2 ≤ length d) where
  abbrev last : List ℕ
  last = set d (to + 1) (get_or d (from + 1) 0)

  last_moved : last ≡ paste d (to + 1) (drop (from + 1) d) 1
  last_moved = ap (λ (l : List ℕ). set l (to + 1) (get_or l (from + 1) 0)) (paste-zero d (to + 2) (drop (from + 2) d)) ∙ turn d from to 2 1 p q (omega arith)

  there : (x : List ℕ) (a b : ℕ) → a ≡ to → b ≡ from → set x a (get_or x b 0) ≡ paste d a (drop b d) 2 → set x to (get_or x from 0) ≡ paste d to (drop from d) 2
  there x a b e f h = subst (λ (k : ℕ). set x k (get_or x from 0) ≡ paste d k (drop from d) 2) e (subst (λ (k : ℕ). set x a (get_or x k 0) ≡ paste d a (drop k d) 2) f h)

  pub two_moved : set last to (get_or last from 0) ≡ paste d to (drop from d) 2
  two_moved = ap (λ (l : List ℕ). set l to (get_or l from 0)) last_moved ∙ there (paste d (to + 1) (drop (from + 1) d) 1) (to + 0) (from + 0) (omega arith) (omega arith) (turn d from to 2 0 p q (omega arith))
