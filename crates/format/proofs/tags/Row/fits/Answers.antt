-- `Row::fits` meets its contract: at each `return` the tests that led there say which case of `length_fits` holds.
-- Assumes nothing.
use mathlib.Core.Path.{◌≡◌, sym, ◌∙◌}
use mathlib.Core.Bool.{true}
use Prim.Native.Nat.{ℕ, ◌≤◌}
use borrow.Author.Tests.{le-ltb, lt-ltb, eq-eqb, ne_eqb}
use Rattle.format.specs.Tags.{any_length, least_of, inner_of, length_fits}
use Rattle.format.proofs.Rows.{any_length_lem}
use Rattle.format.proofs.tags.Row.fits.Goals as goal

inner-fits : (t n : ℕ) → least_of t ≤ n → n ≤ any_length → (inner_of t ≡ 0 → ⊥) → true ≡ length_fits t n
unfolding length_fits
inner-fits t n low high inner = simp (le-ltb _ _ low, any_length_lem t inner, le-ltb _ _ high, ne_eqb _ _ inner)

pub returns-then-len-self : goal.returns-then-len-self
unfolding length_fits
returns-then-len-self c = λ t l m i. simp (← l, lt-ltb _ _ c.if-len-self.true)

pub returns-then-self-ne0 : goal.returns-then-self-ne0
returns-then-self-ne0 c = λ t l m i. inner-fits t _ (rw (sym l) c.if-len-self.false) c.requires (λ z. c.if-self-ne0.true (i ∙ z))

pub returns-then-self-len : goal.returns-then-self-len
unfolding length_fits
returns-then-self-len c = λ t l m i. simp (← l, le-ltb _ _ c.if-len-self.false, ← m, lt-ltb _ _ c.if-self-len.true)

pub returns : goal.returns
unfolding length_fits
returns c = λ t l m i. simp (← l, le-ltb _ _ c.if-len-self.false, ← m, le-ltb _ _ c.if-self-len.false, ← i, eq-eqb _ _ c.if-self-ne0.false)
