-- `turn_right` meets its contract: the note in the slot of the right term, then what waits for that one.
-- Assumes nothing.
use Prim.Native.Nat.{ℕ, ◌+◌, ◌-◌}
use mathlib.Core.Path.{ap, ◌∙◌}
use mathlib.Core.List.{List}
use native.Mathlib.Omega.{arith}
use Rattle.words.specs.Word.{put_word}
use Rattle.input_arities.specs.Threads.{slot}
use Rattle.tactics.specs.Numbers.{put_header}
use Rattle.arity_notes.specs.declared.walk.Next.TheVariants as N
use Rattle.arity_notes.proofs.AnswerLaws.{right_note}
use Rattle.arity_notes.proofs.walk.Walk.turn_right.Goals as goal

pub store16-requires : goal.store16-requires
unfolding slot
store16-requires c =
    let p = c.requires in
    let r = c.right_of-right.ensures p.5.0 p.5.1 p.5.2 in
    omega (arith, p.3, right_note c.args.src.now c.args.at p.5.0 p.5.1 p.5.2 p.0 _ r)

pub returns : goal.returns
unfolding slot
returns c =
    let a = c.args in
    let st = c.store16.ensures in
    let pu = c.put_header.ensures in
    λ t u q.
    let r = c.right_of-right.ensures t u q in (
      pu ∙ ap (λ (y : List ℕ). put_header y (a.self.top - 3) a.kind a.arity) (st ∙ ap (λ (y : ℕ). put_word a.work.now (a.base + slot y) a.arity) r),
      c.go.ensures ∙ ap (λ (y : ℕ). record { next = N.Asks y; top = a.self.top }) r,
    )
