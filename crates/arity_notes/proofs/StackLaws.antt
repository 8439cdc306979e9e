-- The stack of terms that wait: as long as there are terms, at most as many as there is left to do, and the same where its bytes are the same.
-- Assumes nothing.
use Prim.Native.Nat.{ℕ, ◌+◌, ◌*◌, ◌≤◌, ◌<◌}
use mathlib.Core.Path.{◌≡◌, sym, ap₂, subst}
use mathlib.Core.List.{List, [], ◌∷◌}
use native.Mathlib.Omega.{arith}
use lib.ListN.{get_or}
use Rattle.words.specs.Word.{word}
use Rattle.arity_notes.specs.Waits.{Wait, for_left, for_right, for_body, for_root, WaitIs, StackAt}
use Rattle.arity_notes.specs.Asked.{stack_weight}

pub stack_most : (src w : List ℕ) (k : List Wait) (top : ℕ) → StackAt src w k top → top ≤ 3 * stack_weight k
unfolding StackAt stack_weight
stack_most src w [] top s = omega (arith, s)
stack_most src w (for_left b at t u ∷ k) top s = omega (arith, s.1, stack_most src w k s.0 s.3)
stack_most src w (for_right b o ∷ k) top s = omega (arith, s.1, stack_most src w k s.0 s.3)
stack_most src w (for_body d ∷ k) top s = omega (arith, s.1, stack_most src w k s.0 s.3)
stack_most src w (for_root ∷ k) top s = omega (arith, s.1, stack_most src w k s.0 s.3)

module _ (src w v : List ℕ) where
  wait_same : (x : Wait) (low : ℕ) → ((i : ℕ) → i < low + 3 → get_or v i 0 ≡ get_or w i 0) → WaitIs src (get_or w low 0) (word w (low + 1)) x → WaitIs src (get_or v low 0) (word v (low + 1)) x
  unfolding word
  wait_same x low same h =
      let p : get_or w low 0 ≡ get_or v low 0 = sym (same low (omega arith)) in
      let q : word w (low + 1) ≡ word v (low + 1) = ap₂ (λ (a b : ℕ). a * 256 + b) (sym (same (low + 1) (omega arith))) (sym (same (low + 1 + 1) (omega arith))) in
      subst (λ (a : ℕ). WaitIs src a (word v (low + 1)) x) p (subst (λ (b : ℕ). WaitIs src (get_or w low 0) b x) q h)

  pub stack_same : (k : List Wait) (top : ℕ) → ((i : ℕ) → i < top → get_or v i 0 ≡ get_or w i 0) → StackAt src w k top → StackAt src v k top
  unfolding StackAt
  stack_same [] top same s = s
  stack_same (x ∷ k) top same s = (
    s.0,
    s.1,
    wait_same x s.0 (λ i l. same i (omega (arith, l, s.1))) s.2,
    stack_same k s.0 (λ i l. same i (omega (arith, l, s.1))) s.3,
  )
