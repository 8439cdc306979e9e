-- `move_down` meets its contract: each turn of the loop moves one byte more, from the first on; what is still to be moved lies behind what was written.
-- Assumes nothing.
use Prim.Native.Nat.{ℕ, ◌+◌, ◌≤◌, ◌<◌}
use mathlib.Core.Path.{◌≡◌, sym, ap, ◌∙◌}
use mathlib.Core.List.{List}
use lib.ListN.{length, drop, set, get_or, length-drop}
use lib.Seq.{paste, paste-zero, paste-suc, get_or-drop}
use native.Mathlib.Omega.{arith}
use native.Mathlib.Numerals.{add-one}
use borrow.Author.Rules.{rules}
use Rattle.words.proofs.Copy.{paste_above}
use Rattle.words.proofs.move_down.Goals as goal

one_more : (d : List ℕ) (from to n i : ℕ) → to ≤ from → from + n ≤ length d → i < n
    → set (paste d to (drop from d) i) (to + i) (get_or (paste d to (drop from d) i) (from + i) 0) ≡ paste d to (drop from d) (i + 1)
one_more d from to n i p q h =
    let inside : i < length (drop from d) = simp length-drop (omega arith) in
    let above : to + i ≤ from + i = omega (arith, p) in
    ap (λ (x : ℕ). set (paste d to (drop from d) i) (to + i) x) (paste_above d (drop from d) to i (omega arith) (omega arith) (from + i) above ∙ sym (get_or-drop from d i 0))
    ∙ paste-suc d to (drop from d) i 0 (omega arith) inside
    ∙ ap (λ (k : ℕ). paste d to (drop from d) k) (sym (add-one i))

pub loop-i-init : goal.loop-i-init
loop-i-init c = paste-zero c.args.s.now c.args.to (drop c.args.from c.args.s.now)

pub loop-i-preserved : goal.loop-i-preserved
loop-i-preserved c =
    let a = c.args in
    let i = c.loop-i.i in
    ap (λ (l : List ℕ). set l (a.to + i) (get_or l (a.from + i) 0)) c.loop-i.invariant
    ∙ one_more a.s.now a.from a.to a.n i (search rules) (search rules) (search rules)

pub returns : goal.returns
returns c =
    let a = c.args in
    let all : c.loop-i.i ≡ a.n = omega arith in
    c.loop-i.invariant ∙ ap (λ (k : ℕ). paste a.s.now a.to (drop a.from a.s.now) k) all
