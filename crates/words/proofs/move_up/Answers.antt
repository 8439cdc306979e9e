-- `move_up` meets its contract: each turn of the loop moves one byte more, from the last on.
-- Assumes nothing.
use Prim.Native.Nat.{ℕ, ◌+◌, ◌-◌, ◌≤◌, ◌<◌}
use mathlib.Core.Path.{◌≡◌, ap, ◌∙◌}
use mathlib.Core.List.{List}
use lib.ListN.{length, drop, set, get_or}
use lib.Seq.{paste, paste-zero}
use native.Mathlib.Omega.{arith}
use borrow.Author.Rules.{rules}
use Rattle.words.proofs.Copy.{turn}
use Rattle.words.proofs.move_up.Goals as goal

-- a block of which the last bytes, from the one at `left` on, are moved
abbrev moved : List ℕ → (from to n left : ℕ) → List ℕ
moved d from to n left = paste d (to + left) (drop (from + left) d) (n - left)

one_more : (d : List ℕ) (from to n left : ℕ) → from ≤ to → to + n ≤ length d → 0 < left → left ≤ n
    → set (moved d from to n left) (to + (left - 1)) (get_or (moved d from to n left) (from + (left - 1)) 0) ≡ moved d from to n (left - 1)
one_more d from to n left p q h k =
    let e : left ≡ left - 1 + 1 = omega arith in
    ap (λ (m : ℕ). set (moved d from to n m) (to + (left - 1)) (get_or (moved d from to n m) (from + (left - 1)) 0)) e
    ∙ turn d from to n (left - 1) p q (omega arith)

pub loop-i-init : goal.loop-i-init
loop-i-init c =
    let a = c.args in
    let d = a.s.now in
    let z : 0 ≡ a.n - a.n = omega arith in
    paste-zero d (a.to + a.n) (drop (a.from + a.n) d) ∙ ap (paste d (a.to + a.n) (drop (a.from + a.n) d)) z

pub loop-i-preserved : goal.loop-i-preserved
loop-i-preserved c =
    let a = c.args in
    let i = c.loop-i.i in
    ap (λ (l : List ℕ). set l (a.to + (i - 1)) (get_or l (a.from + (i - 1)) 0)) c.loop-i.invariant
    ∙ one_more a.s.now a.from a.to a.n i (search rules) (search rules) (search rules) (search rules)

all_moved : (d : List ℕ) (from to n left : ℕ) → left ≡ 0 → moved d from to n left ≡ paste d to (drop from d) n
all_moved d from to n left e =
    let a : to + left ≡ to = omega arith in
    let b : from + left ≡ from = omega arith in
    let c : n - left ≡ n = omega arith in
    rw (a, b, c)

pub returns : goal.returns
returns c =
    let a = c.args in
    c.loop-i.invariant ∙ all_moved a.s.now a.from a.to a.n c.loop-i.i (omega arith)
