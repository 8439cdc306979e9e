-- `lists::write_leaves` meets its contract: the contents behind three bytes, then the header.
-- Assumes nothing.
use native.Mathlib.Omega.{arith}
use Prim.Native.Nat.{ℕ, ◌+◌, ◌-◌, ◌≤◌}
use mathlib.Core.Path.{refl, sym, ap, ◌∙◌}
use mathlib.Core.List.{◌++◌}
use lib.ListN.{length, take, drop}
use Rattle.format.specs.Encoding.{goal_bytes, field_bytes}
use Rattle.writer.specs.Leaves.{leaves_of}
use Rattle.writer.proofs.Lent.{room_is}
use Rattle.format.proofs.GoalBytes.{length-goal_bytes}
use Rattle.writer.proofs.GoalLaws.{field_bytes_lem}
use Rattle.writer.proofs.lists.write_leaves.Goals as goal

pub put_leaves-len-requires : goal.put_leaves-len-requires
put_leaves-len-requires c = (c.requires.0, omega (arith, c.requires.1, room_is 3 c.args.out.now))

pub returns : goal.returns
returns c =
    let a = c.args in
    let fit : 3 + c.put_leaves-len.result ≤ length a.out.now = omega (arith, c.requires.1, (c.put_leaves-len.ensures c.requires.0).0) in
    λ p.
    let n = (c.put_leaves-len.ensures p).0 in
    let b = field_bytes_lem 3 c.put_leaves-len.result (goal_bytes (leaves_of p)) a.out.now _ _ _ (n ∙ sym (length-goal_bytes (leaves_of p))) fit
    ((c.put_leaves-len.ensures p).1 ∙ ap (λ (k : ℕ). goal_bytes (leaves_of p) ++ drop k (take (length a.out.now - 3) (drop 3 a.out.now))) (sym n)) refl c.write_header.ensures in
    (ap (λ (k : ℕ). 3 + k) n, b ∙ ap (λ (k : ℕ). field_bytes 3 (goal_bytes (leaves_of p)) ++ drop (3 + k) a.out.now) n)
