-- `answer` meets its contract: by the kind of what waits, one law for each.
-- Assumes nothing.
use Prim.Native.Nat.{ℕ, ◌+◌, ◌*◌, ◌-◌, ◌<◌}
use mathlib.Core.List.{List}
use mathlib.Core.Path.{◌≡◌, sym, ap, subst, ◌∙◌}
use native.Mathlib.Omega.{arith}
use lib.ListN.{get_or}
use Rattle.words.specs.Word.{word, put_word}
use Rattle.format.specs.Terms.{Term}
use Rattle.arities.specs.Arities.{Pair}
use Rattle.arities.specs.Layout.{frames_end}
use Rattle.arity_notes.specs.Waits.{Both, sums, commons, combine, left_kind, right_kind}
use Rattle.arity_notes.proofs.AnswerLaws.{answer_room, given_pair, given_arity, answer_left, answer_right, answer_body, answer_root}
use borrow.Author.Rules.{rules}
use Rattle.arity_notes.specs.declared.walk.Next.TheVariants as N
use Rattle.arity_notes.specs.declared.walk.Walk.{Walk}
use Rattle.arity_notes.specs.Walks.{Given}
use Rattle.arity_notes.proofs.walk.Walk.answer.Goals as goal

-- the pair that waits, at a value that was read
pair_of : (src : List ℕ) (base : ℕ) (w : List ℕ) (s : Walk) (arity : ℕ) → s.next ≡ N.Tells arity → 0 < s.top → (bytes : List ℕ) (first : ℕ) → Given bytes first src base w s
    → (b : Both) (n : ℕ) → n ≡ word w (s.top - 3 + 1) → get_or w (s.top - 3) 0 ≡ left_kind b → (t : Term) × (u : Term) × Pair src n t u
pair_of src base w s arity told waits bytes first g b n e k =
    let x = given_pair src base w s arity told waits bytes first g b k in
    (x.0, x.1, subst (λ (y : ℕ). Pair src y x.0 x.1) (sym e) x.2)

pub overflow_sub-low : goal.overflow_sub-low
overflow_sub-low c =
    let room = answer_room c.args.src.now c.args.base c.args.work.now c.args.self c.args.arity c.requires.1 c.requires.2 c.requires.0.0 c.requires.0.1 c.requires.0.2 in
    omega (arith, room.0)

pub bounds-work-low : goal.bounds-work-low
bounds-work-low c =
    let room = answer_room c.args.src.now c.args.base c.args.work.now c.args.self c.args.arity c.requires.1 c.requires.2 c.requires.0.0 c.requires.0.1 c.requires.0.2 in
    omega (arith, room.0, room.1, room.2)

pub load16-value-requires : goal.load16-value-requires
load16-value-requires c =
    let room = answer_room c.args.src.now c.args.base c.args.work.now c.args.self c.args.arity c.requires.1 c.requires.2 c.requires.0.0 c.requires.0.1 c.requires.0.2 in
    omega (arith, room.0, room.1, room.2)

pub turn_right-requires : goal.turn_right-requires
unfolding left_kind
turn_right-requires c =
    let room = answer_room c.args.src.now c.args.base c.args.work.now c.args.self c.args.arity c.requires.1 c.requires.2 c.requires.0.0 c.requires.0.1 c.requires.0.2 in
    (room.3, room.0, omega (arith, room.1, room.2), omega (arith, room.2, room.4), omega (arith, room.4), pair_of c.args.src.now c.args.base c.args.work.now c.args.self c.args.arity c.requires.1 c.requires.2 c.requires.0.0 c.requires.0.1 c.requires.0.2 sums _ c.load16-value.ensures c.in-1.is)

pub returns-in-1 : goal.returns-in-1
unfolding left_kind right_kind
returns-in-1 c = answer_left c.args.src.now c.args.base c.args.work.now c.args.self c.args.arity c.requires.1 c.requires.2 sums c.in-1.is _ c.load16-value.ensures _ _ c.turn_right.ensures

pub turn_right-requires-in-3 : goal.turn_right-requires-in-3
unfolding left_kind
turn_right-requires-in-3 c =
    let room = answer_room c.args.src.now c.args.base c.args.work.now c.args.self c.args.arity c.requires.1 c.requires.2 c.requires.0.0 c.requires.0.1 c.requires.0.2 in
    (room.3, room.0, omega (arith, room.1, room.2), omega (arith, room.2, room.4), omega (arith, room.4), pair_of c.args.src.now c.args.base c.args.work.now c.args.self c.args.arity c.requires.1 c.requires.2 c.requires.0.0 c.requires.0.1 c.requires.0.2 commons _ c.load16-value.ensures c.in-3.is)

pub returns-in-3 : goal.returns-in-3
unfolding left_kind right_kind
returns-in-3 c = answer_left c.args.src.now c.args.base c.args.work.now c.args.self c.args.arity c.requires.1 c.requires.2 commons c.in-3.is _ c.load16-value.ensures _ _ c.turn_right-in-3.ensures

pub returns-in-2 : goal.returns-in-2
unfolding right_kind combine
returns-in-2 c = answer_right c.args.src.now c.args.base c.args.work.now c.args.self c.args.arity c.requires.1 c.requires.2 sums c.in-2.is _ (λ l o p q. c.sum.ensures l o (c.load16-value.ensures ∙ p) q) _ c.tell.ensures

pub returns-in-4 : goal.returns-in-4
unfolding right_kind combine
returns-in-4 c = answer_right c.args.src.now c.args.base c.args.work.now c.args.self c.args.arity c.requires.1 c.requires.2 commons c.in-4.is _ (λ l o p q. c.common.ensures l o (c.load16-value.ensures ∙ p) q) _ c.tell-in-4.ensures

pub learn-requires : goal.learn-requires
learn-requires c =
    let room = answer_room c.args.src.now c.args.base c.args.work.now c.args.self c.args.arity c.requires.1 c.requires.2 c.requires.0.0 c.requires.0.1 c.requires.0.2 in
    let value-small : c.load16-value.result < 65536 = search rules in
    (room.0, given_arity c.args.src.now c.args.base c.args.work.now c.args.self c.args.arity c.requires.1 c.requires.2 c.requires.0.0 c.requires.0.1 c.requires.0.2 c.in-5.is (subst (λ (x : ℕ). x < 65536) c.load16-value.ensures value-small), room.2)

pub returns-in-5 : goal.returns-in-5
returns-in-5 c =
    let value-small : c.load16-value.result < 65536 = search rules in
    let v = c.load16-value.ensures in
    answer_body c.args.src.now c.args.base c.args.work.now c.args.self c.args.arity c.requires.1 c.requires.2 c.in-5.is (subst (λ (y : ℕ). y < 65536) v value-small) _ _ (c.learn.ensures.written ∙ ap (λ (y : ℕ). put_word c.args.work.now (frames_end + y * 2) (c.args.arity + 1)) v) c.learn.ensures.next

pub returns-in_default : goal.returns-in_default
returns-in_default c = answer_root c.args.src.now c.args.base c.args.work.now c.args.self c.args.arity c.requires.1 c.requires.2 (λ e. omega (arith, e)) (λ e. omega (arith, e)) (λ e. omega (arith, e)) (λ e. omega (arith, e)) (λ e. omega (arith, e)) _ c.tell-in_default.ensures
