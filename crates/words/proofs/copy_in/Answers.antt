-- `copy_in` meets its contract: each turn of the loop copies one byte more.
-- Assumes nothing.
use Prim.Native.Nat.{ℕ, ◌+◌, ◌<◌}
use mathlib.Core.Path.{◌≡◌, sym, ap, ◌∙◌}
use mathlib.Core.List.{List}
use lib.ListN.{length, drop, set, get_or, length-drop}
use lib.Seq.{paste, paste-zero, paste-suc, get_or-drop}
use native.Mathlib.Omega.{arith}
use native.Mathlib.Numerals.{add-one}
use borrow.Author.Rules.{rules}
use Rattle.words.proofs.copy_in.Goals as goal

pub loop-i-init : goal.loop-i-init
loop-i-init c = paste-zero c.args.dst.now c.args.to (drop c.args.from c.args.src.now)

pub loop-i-preserved : goal.loop-i-preserved
loop-i-preserved c =
    let a = c.args in
    let s = drop a.from a.src.now in
    let i = c.loop-i.i in
    let inside : i < length s = simp length-drop (omega arith) in
    ap (λ (l : List ℕ). set l (a.to + i) (get_or a.src.now (a.from + i) 0)) c.loop-i.invariant
    ∙ ap (λ (x : ℕ). set (paste a.dst.now a.to s i) (a.to + i) x) (sym (get_or-drop a.from a.src.now i 0))
    ∙ paste-suc a.dst.now a.to s i 0 (search rules) inside
    ∙ ap (λ (k : ℕ). paste a.dst.now a.to s k) (sym (add-one i))

pub returns : goal.returns
returns c =
    let a = c.args in
    let all : c.loop-i.i ≡ a.n = omega arith in
    c.loop-i.invariant ∙ ap (λ (k : ℕ). paste a.dst.now a.to (drop a.from a.src.now) k) all
