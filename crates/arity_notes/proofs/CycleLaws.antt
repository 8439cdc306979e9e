-- A tactic that is asked while its own body is walked has no arity: every term that waits asks for all the arities that its own depends on, so an arity of the
-- tactic would need one of itself with fewer unfoldings.
-- Assumes nothing.
use Prim.Native.Nat.{ℕ, zero, suc, ◌+◌, ◌≤◌, ◌<◌}
use mathlib.Core.Path.{◌≡◌, refl, ap, subst, ◌∙◌}
use mathlib.Core.Bool.{Bool, true, false, cond}
use mathlib.Core.List.{List, [], ◌∷◌}
use mathlib.Core.Option.{Option, none, some, none-ne-some}
use mathlib.Core.Logic.{inl, inr}
use native.Mathlib.Omega.{arith}
use lib.Dec.{eqb, leb}
use lib.ListN.{length}
use borrow.Author.Tests.{leb-true}
use Rattle.format.specs.declared.values.TacticNo.{TacticNo}
use Rattle.format.specs.Values.{tactic_no}
use Rattle.format.specs.Terms.{Term, atomic, id, label, sequence, tensor, empty, alternation, assert, defined}
use Rattle.tables.specs.Tables.{Table, Definition}
use Rattle.tables.specs.Lookup.{find_body, find_body_in}
use Rattle.evaluation.specs.TacticArity.{from_both, sum_arity, common_arity, arity_in, body_arity, arity_after}
use Rattle.arities.specs.Arities.{arity_code, arities}
use Rattle.arity_notes.specs.Waits.{Both, sums, commons, combine, Wait, for_left, for_right, for_body, for_root, Walked}
use Rattle.arity_notes.specs.Asked.{Known, Asked}

-- an arity of both is one of each
abbrev Some : Option ℕ → Type 0
Some o = (n : ℕ) × (o ≡ some n)

both_left : (f : ℕ → ℕ → Option ℕ) (x y : Option ℕ) → Some (from_both f x y) → Some x
both_left f none y e = absurd (none-ne-some e.0 e.1)
both_left f (some n) y e = (n, refl)

both_right : (f : ℕ → ℕ → Option ℕ) (x y : Option ℕ) → Some (from_both f x y) → Some y
both_right f none y e = absurd (none-ne-some e.0 e.1)
both_right f (some n) none e = absurd (none-ne-some e.0 e.1)
both_right f (some n) (some m) e = (m, refl)

combine_left : (b : Both) (x y : Option ℕ) → Some (combine b x y) → Some x
unfolding combine
combine_left sums x y e = both_left _ x y e
combine_left commons x y e = both_left _ x y e

combine-right : (b : Both) (x y : Option ℕ) → Some (combine b x y) → Some y
unfolding combine
combine-right sums x y e = both_right _ x y e
combine-right commons x y e = both_right _ x y e

module _ (T : Table) where
  -- the arity asked for has one, with fewer unfoldings
  Fewer : (Known → Option ℕ) → ℕ → Type 0
  Fewer a m = (j : ℕ) × (j < m) × Some (a (arity_after j T.definitions))

  -- an arity that an unfolding gives is the body's, with one fewer
  unfolded : (a : Known → Option ℕ) (d : TacticNo) → ((f : Known) → a f ≡ body_arity f (find_body T d)) → (m : ℕ) → Some (arity_after m T.definitions d) → Fewer a m
  unfolding Fewer arity_after find_body
  unfolded a d h zero e = absurd (none-ne-some e.0 e.1)
  unfolded a d h (suc m) e = (m, omega arith, (e.0, h (arity_after m T.definitions) ∙ e.1))

  needs : (k : List Wait) (a : Known → Option ℕ) → Asked T a k → (d : ℕ) → Walked d k → (m : ℕ) → Some (arity_after m T.definitions (tactic_no d)) → Fewer a m
  unfolding Asked Walked Fewer
  needs [] a h d p m e = absurd p
  needs (for_left b at t u ∷ k) a h d p m e =
      let x = needs k (λ f. combine b (arity_in f t) (arity_in f u)) h.1 d p m e in
      let y = combine_left b _ _ x.2 in
      (x.0, x.1, (y.0, h.0 (arity_after x.0 T.definitions) ∙ y.1))
  needs (for_right b o ∷ k) a h d p m e =
      let x = needs k (λ f. combine b (h.0 f) (a f)) h.2 d p m e in
      (x.0, x.1, combine-right b _ _ x.2)
  needs (for_body c ∷ k) a h d (inl p) m e = unfolded a c h.0 m (subst (λ (x : ℕ). Some (arity_after m T.definitions (tactic_no x))) p e)
  needs (for_body c ∷ k) a h d (inr p) m e =
      let x = needs k (λ f. f c) h.1 d p m e in
      let y = unfolded a c h.0 x.0 x.2 in
      (y.0, omega (arith, x.1, y.1), y.2)
  needs (for_root ∷ k) a h d p m e = needs k a h d p m e

  module _ (k : List Wait) (d : TacticNo) (h : Asked T (λ f. f d) k) (p : Walked d.0 k) where
    never : (fuel m : ℕ) → m < fuel → Some (arity_after m T.definitions d) → ⊥
    unfolding Fewer
    never zero m l e = absurd (omega (arith, l))
    never (suc fuel) m l e =
        let x = needs k (λ f. f d) h d.0 p m e in
        never fuel x.0 (omega (arith, l, x.1)) x.2

    pub cycle_none : arities T d ≡ none
    cycle_none = go (arities T d) refl
      where
        go : (o : Option ℕ) → arities T d ≡ o → o ≡ none
        go none e = refl
        go (some n) e = absurd (never (suc (length T.definitions)) (length T.definitions) (omega arith) (n, e))

-- an arity is at most 256
some_of : (a b : ℕ) → ◌≡◌ {A = Option ℕ} (some a) (some b) → a ≡ b
some_of a b e = let q : a + 1 ≡ b + 1 = ap {B = ℕ} arity_code e in omega (arith, q)

sum_most : (a b : Option ℕ) (n : ℕ) → sum_arity a b ≡ some n → n ≤ 256
sum_most none b n e = absurd (none-ne-some n e)
sum_most (some x) none n e = absurd (none-ne-some n e)
sum_most (some x) (some y) n e = go (leb (x + y) 256) refl e
  where
    go : (t : Bool) → leb (x + y) 256 ≡ t → cond t (some (x + y)) none ≡ some n → n ≤ 256
    go true q f = omega (arith, leb-true (x + y) 256 q, some_of (x + y) n f)
    go false q f = absurd (none-ne-some n f)

common_most : (a b : Option ℕ) → ((n : ℕ) → a ≡ some n → n ≤ 256) → (n : ℕ) → common_arity a b ≡ some n → n ≤ 256
common_most none b h n e = absurd (none-ne-some n e)
common_most (some x) none h n e = absurd (none-ne-some n e)
common_most (some x) (some y) h n e = go (eqb x y) e
  where
    go : (t : Bool) → cond t (some x) none ≡ some n → n ≤ 256
    go true f = omega (arith, h x refl, some_of x n f)
    go false f = absurd (none-ne-some n f)

arity_in_most : (f : Known) → ((d : TacticNo) (n : ℕ) → f d ≡ some n → n ≤ 256) → (t : Term) (n : ℕ) → arity_in f t ≡ some n → n ≤ 256
unfolding arity_in
arity_in_most f h (atomic a) n e = omega (arith, some_of 1 n e)
arity_in_most f h id n e = omega (arith, some_of 1 n e)
arity_in_most f h (label l t) n e = omega (arith, some_of 1 n e)
arity_in_most f h (sequence t u) n e = arity_in_most f h t n e
arity_in_most f h (tensor t u) n e = sum_most (arity_in f t) (arity_in f u) n e
arity_in_most f h empty n e = omega (arith, some_of 0 n e)
arity_in_most f h (alternation t u) n e = common_most (arity_in f t) (arity_in f u) (arity_in_most f h t) n e
arity_in_most f h (assert γ) n e = omega (arith, some_of 1 n e)
arity_in_most f h (defined d) n e = h d n e

body_most : (f : Known) → ((d : TacticNo) (n : ℕ) → f d ≡ some n → n ≤ 256) → (o : Option Term) (n : ℕ) → body_arity f o ≡ some n → n ≤ 256
body_most f h none n e = absurd (none-ne-some n e)
body_most f h (some t) n e = arity_in_most f h t n e

after_most : (k : ℕ) (ds : List Definition) (d : TacticNo) (n : ℕ) → arity_after k ds d ≡ some n → n ≤ 256
unfolding arity_after
after_most zero ds d n e = absurd (none-ne-some n e)
after_most (suc k) ds d n e = body_most (arity_after k ds) (after_most k ds) (find_body_in ds d) n e

pub code_most : (T : Table) (d : TacticNo) → arity_code (arities T d) ≤ 257
code_most T d = go (arities T d) refl
  where
    go : (o : Option ℕ) → arities T d ≡ o → arity_code o ≤ 257
    go none e = omega arith
    go (some n) e = omega (arith, after_most (length T.definitions) T.definitions d n e)
