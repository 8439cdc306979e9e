-- `input_arities::note_arities` meets its contract: links, then each field its own arity, then the list of those of the tensors' left terms.
-- Assumes nothing.
use mathlib.Core.Path.{◌≡◌, subst, ◌∙◌}
use mathlib.Core.List.{List}
use Prim.Native.Nat.{ℕ, ◌+◌}
use native.Mathlib.Omega.{arith}
use lib.ListN.{length}
use Rattle.words.specs.Word.{word}
use Rattle.format.specs.Terms.{Term, size}
use Rattle.format.proofs.StandsLaws.{known}
use Rattle.input_arities.specs.Threads.{Room}
use Rattle.input_arities.proofs.ThreadLaws.{room_again}
use Rattle.input_arities.proofs.ListLaws.{noted_all}
use Rattle.input_arities.proofs.note_arities.Goals as goal

-- the term ends where its length says
room : (s w : List ℕ) (at n : ℕ) (t : Term) → n ≡ word s (at + 1) → Room s at (at + size t) w t → Room s at (at + 3 + n) w t
room s w at n t is o =
    let e : at + size t ≡ at + 3 + n = omega (arith, (known _ _ _ o.stands).length_is, is) in
    subst (λ (k : ℕ). Room s at k w t) e o

pub load16-requires : goal.load16-requires
load16-requires c = omega (arith, known _ _ _ c.requires.1.stands)

pub link-last-requires : goal.link-last-requires
link-last-requires c = (c.requires.0, room _ _ _ _ _ c.load16.ensures c.requires.1)

pub settle-requires : goal.settle-requires
settle-requires c =
    let o = room _ _ _ _ _ c.load16.ensures c.requires.1 in
    (c.requires.0, _, room_again _ _ _ _ _ _ c.link-last.auto.work o, c.link-last.ensures c.requires.0 o)

pub list-requires : goal.list-requires
list-requires c =
    let long : length c.settle.new.work ≡ length c.args.work.now = c.settle.auto.work ∙ c.link-last.auto.work in
    let o = room _ _ _ _ _ c.load16.ensures c.requires.1 in
    (c.requires.0, room_again _ _ _ _ _ _ long o, (c.settle.ensures c.requires.0 _ (room_again _ _ _ _ _ _ c.link-last.auto.work o) (c.link-last.ensures c.requires.0 o)).0)

pub returns : goal.returns
returns c =
    let long : length c.settle.new.work ≡ length c.args.work.now = c.settle.auto.work ∙ c.link-last.auto.work in
    λ t o₀.
    let o = room _ _ _ _ t c.load16.ensures o₀ in
    let th = c.link-last.ensures t o in
    let z = c.settle.ensures t _ (room_again _ _ _ _ _ _ c.link-last.auto.work o) th in
    noted_all _ _ _ _ t o₀.few th.kept z.1 (c.list.ensures t (room_again _ _ _ _ _ _ long o) z.0)
