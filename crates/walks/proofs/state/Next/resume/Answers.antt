-- `Next::resume` meets its contract: one law of `ResumeLaws` for each return; the invariant says that what was given at the start is what is given now.
-- Assumes nothing.
use Rattle.std.specs.Prelude as std
use mathlib.Core.Path.{◌≡◌, refl, sym, subst, ap, ◌∙◌}
use mathlib.Core.List.{List}
use Prim.Native.Nat.{ℕ, ◌-◌}
use native.Mathlib.Omega.{arith}
use lib.ListN.{get_or}
use Rattle.words.specs.Word.{word}
use Rattle.format.specs.declared.refusals.Refusal.{Refusal}
use Rattle.format.specs.declared.refusals.Cause.TheVariants.{JoinedTooLong}
use Rattle.format.specs.Results.{refused_at}
use Rattle.walks.specs.declared.state.Turn.{Turn}
use Rattle.walks.specs.Layout.{began}
use Rattle.walks.specs.Walks.{Act}
use Rattle.walks.specs.Loops.{Aim, Steps}
use Rattle.walks.proofs.ResumeLaws.{resumes, tensor_bounds, ended, sequence_next_lem, tensor_next_lem, joined_over, joined-within}
use Rattle.walks.proofs.state.Next.resume.Goals as goal

-- a step from the work space of the loop is one from that of the start
from-start : {C : Type 0} (act : Act C) (x : Aim C) (A : List C) (s v w w' : List ℕ) (at : ℕ) (r : std.Result Turn Refusal) → v ≡ w → Steps act x A s v w' at r → Steps act x A s w w' at r
from-start act x A s v w w' at r e z = subst (λ (v : List ℕ). Steps act x A s v w' at r) e z

-- the tag that the code read is that of the innermost frame's term
same-tag : (s w : List ℕ) (last p : ℕ) → p ≡ word w (last - 4) → get_or s (word w (last - 4)) 0 ≡ get_or s p 0
same-tag s w last p e = ap (λ (p : ℕ). get_or s p 0) (sym e)

pub loop-last-init : goal.loop-last-init
loop-last-init c =
    let g = c.requires.0 in
    (refl, resumes g.1 g.2 g.3 _ _ _ _ _ _ _ _ _ (omega (arith, c.requires.1.space)) g.4, λ k act x A g. g)

pub returns-then-proof-place-eq-SEQUENCE : goal.returns-then-proof-place-eq-SEQUENCE
returns-then-proof-place-eq-SEQUENCE c =
    let v = c.loop-last.invariant in
    λ k act x A g. from-start act x A _ _ _ _ _ _ v.0
    (sequence_next_lem act x A _ _ _ _ _ _ _ _ _ _ _ (omega (arith, v.1.room)) c.raise.ensures (omega (arith, v.1.enough)) (v.2 k act x A g) (omega arith) (same-tag _ _ _ _ c.load16-place.ensures ∙ c.if-proof-place-eq-SEQUENCE.true))

pub overflow_sub-result : goal.overflow_sub-result
overflow_sub-result c = (tensor_bounds _ _ _ _ _ _ _ _ c.loop-last.invariant.1 (omega arith) c.load16-place.ensures c.if-proof-place-eq-SEQUENCE.false c.load16-value.ensures).0 c.if-value-lt-BEGAN.true

pub returns-then-value-lt-BEGAN : goal.returns-then-value-lt-BEGAN
returns-then-value-lt-BEGAN c =
    let v = c.loop-last.invariant in
    λ k act x A g. from-start act x A _ _ _ _ _ _ v.0
    (tensor_next_lem act x A _ _ _ _ _ _ _ _ _ _ _ c.load16-value.ensures c.store16.ensures (omega (arith, v.1.enough)) (v.2 k act x A g) (omega arith) (λ e. c.if-proof-place-eq-SEQUENCE.false (sym (same-tag _ _ _ _ c.load16-place.ensures) ∙ e)) (omega (arith, c.if-value-lt-BEGAN.true)))

pub overflow_sub-count : goal.overflow_sub-count
overflow_sub-count c = omega (arith, (tensor_bounds _ _ _ _ _ _ _ _ c.loop-last.invariant.1 (omega arith) c.load16-place.ensures c.if-proof-place-eq-SEQUENCE.false c.load16-value.ensures).1 (omega arith))

pub returns-then-count-gt256 : goal.returns-then-count-gt256
returns-then-count-gt256 c =
    let v = c.loop-last.invariant in
    λ k act x A g. rw c.new.ensures (from-start act x A _ _ _ _ _ _ v.0
    (subst (λ (p : ℕ). Steps act x A c.args.proof.now c.loop-last.work c.loop-last.work c.args.at (refused_at JoinedTooLong p)) (sym c.load16-place.ensures)
    (joined_over act x A _ _ _ _ _ _ _ _ _ (c.load16-value.result - began) _ (omega (arith, c.load16-value.ensures)) refl (omega arith) (λ e. c.if-proof-place-eq-SEQUENCE.false (sym (same-tag _ _ _ _ c.load16-place.ensures) ∙ e)) (v.2 k act x A g) (omega (arith, c.if-count-gt256.true)))))

pub loop-last-preserved : goal.loop-last-preserved
loop-last-preserved c =
    let v = c.loop-last.invariant in
    let g = c.requires.0 in (
      v.0,
      resumes g.1 g.2 g.3 _ _ _ _ _ _ _ _ _ v.1.enough
          (joined-within g.1 g.2 g.3 _ _ _ _ _ _ _ _ _ _ _ (omega (arith, c.load16-value.ensures)) refl (omega arith) (λ e. c.if-proof-place-eq-SEQUENCE.false (sym (same-tag _ _ _ _ c.load16-place.ensures) ∙ e)) (v.2 g.0 g.1 g.2 g.3 g.4) (omega (arith, c.if-count-gt256.false))),
      (λ k act x A g. joined-within act x A _ _ _ _ _ _ _ _ _ _ _ (omega (arith, c.load16-value.ensures)) refl (omega arith) (λ e. c.if-proof-place-eq-SEQUENCE.false (sym (same-tag _ _ _ _ c.load16-place.ensures) ∙ e)) (v.2 k act x A g) (omega (arith, c.if-count-gt256.false))),
    )

pub returns : goal.returns
returns c = λ k act x A g. from-start act x A _ _ _ _ _ _ c.loop-last.invariant.0 (ended act x A _ _ _ _ _ _ _ _ _ (c.loop-last.invariant.2 k act x A g) (omega (arith, c.loop-last-test.false)))
