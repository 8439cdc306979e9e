-- What the code tells of a result in two steps, from what it tells of the first: by the two cases of that result.
-- Assumes nothing.
use mathlib.Core.Path.{◌≡◌, refl, sym, ap}
use Rattle.std.specs.Prelude.{Ok}
use Rattle.std.specs.Prelude as std
use mathlib.Core.Bool.{Bool, true, false, cond}
use mathlib.Core.List.{List}
use Prim.Native.Nat.{ℕ, ◌+◌, ◌*◌, ◌≤◌}
use native.Mathlib.Omega.{arith}
use lib.Dec.{ltb}
use lib.ListN.{length}
use Rattle.format.specs.GoalsRead as G
use Rattle.format.specs.TermRead as T
use Rattle.format.specs.Limits.{most_bytes}
use Rattle.format.specs.declared.refusals.Cause.{Cause}
use Rattle.format.specs.declared.refusals.Cause.TheVariants.{InputTooLong}
use Rattle.format.specs.declared.refusals.Refusal.{Refusal}
use Rattle.format.specs.Results.{Result, gives, refused, and_then, told, refused_at}
use Rattle.format.specs.Inputs.{of_size}
use Rattle.format.specs.Goals.{ParsedGoals, read_goals}
use Rattle.format.specs.ReadTerms.{ParsedTerm}
use Rattle.format.specs.Shapes.{goals_shape}
use Rattle.format.proofs.ResultLaws.{passed, same_answered, refused_cause, refused_place}
use Rattle.format.proofs.GoalListBytes.{goals_stand}

-- the answers of a function: refusals R and values W are never taken for one another
pub record Tells {X Q : Type 0} (R : Cause → ℕ → X) (W : Q → X) : Type 0 where
  pub apart : (c : Cause) (p : ℕ) (q : Q) → R c p ≡ W q → ⊥
  pub one_refusal : (c : Cause) (p : ℕ) (d : Cause) (r : ℕ) → R c p ≡ R d r → (c ≡ d) × (p ≡ r)
  pub one_value : (q r : Q) → W q ≡ W r → q ≡ r

-- R and W tell x, of whose values K is kept
module _ {A X Q : Type 0} {R : Cause → ℕ → X} {W : Q → X} (tells : Tells R W) (K : A → Q) where
  pub told_value : (x : Result A) (q : Q) → told R (λ a. W (K a)) x ≡ W q → (a : A) × (x ≡ gives a) × (K a ≡ q)
  unfolding told
  told_value (gives a) q e = (a, refl, tells.one_value (K a) q e)
  told_value (refused c p) q e = absurd (tells.apart c p q e)

  pub told_cause : (x : Result A) (c : Cause) (p : ℕ) → told R (λ a. W (K a)) x ≡ R c p → x ≡ refused c p
  unfolding told
  told_cause (gives a) c p e = absurd (tells.apart c p (K a) (sym e))
  told_cause (refused d r) c p e = let q = tells.one_refusal d r c p e in λ i. refused (q.0 i) (q.1 i)

  -- then comes next, of which S tells refusals and L values
  module _ {B Y : Type 0} (S : Cause → ℕ → Y) (L : B → Y) (next : A → Result B) where
    pub first_refused : (x : Result A) (c : Cause) (p : ℕ) → told R (λ a. W (K a)) x ≡ R c p → told S L (and_then x next) ≡ S c p
    unfolding told and_then
    first_refused x c p e = rw (told_cause x c p e)

    pub first_read : (x : Result A) (q : Q) (y : Y) → told R (λ a. W (K a)) x ≡ W q → ((a : A) → x ≡ gives a → K a ≡ q → told S L (next a) ≡ y) → told S L (and_then x next) ≡ y
    unfolding and_then
    first_read x q y e h = let v = told_value x q e in rw v.1 (h v.0 v.1 v.2)

-- what a function of the code answers
pub answers_tell : {Q : Type 0} → Tells {X = std.Result Q Refusal} refused_at Ok
answers_tell = record { apart = λ c p q e. cc; one_refusal = λ c p d r e. (refused_cause e, refused_place e); one_value = λ q r e. same_answered e }

-- two numbers
abbrev pub Pair : Type 0
Pair = ℕ × ℕ

pub goals_tell : Tells {Q = Pair} G.Refused (λ q. G.Read q.0 q.1)
goals_tell = record {
  apart = λ c p q e. cc;
  one_refusal = λ c p d r e. let a : c ≡ d = cc in let b : p ≡ r = cc in (a, b);
  one_value = λ q r e. let a : q.0 ≡ r.0 = cc in let b : q.1 ≡ r.1 = cc in λ i. (a i, b i);
}

pub term_tells : Tells {Q = Pair} T.Refused (λ q. T.Read q.0 q.1)
term_tells = record {
  apart = λ c p q e. cc;
  one_refusal = λ c p d r e. let a : c ≡ d = cc in let b : p ≡ r = cc in (a, b);
  one_value = λ q r e. let a : q.0 ≡ r.0 = cc in let b : q.1 ≡ r.1 = cc in λ i. (a i, b i);
}

abbrev pub goals_kept : ParsedGoals → Pair
goals_kept g = (length g.goals, g.next)

abbrev pub term_kept : ParsedTerm → Pair
term_kept t = (t.next, t.count)

-- the test of the length, once for the first step or for both
pub of_size_and : {A B : Type 0} (s : List ℕ) (x : Result A) (next : A → Result B) → of_size s (and_then x next) ≡ and_then (of_size s x) next
unfolding and_then
of_size_and {A} {B} s x next = go (ltb most_bytes (length s))
  where
    go : (b : Bool) → ◌≡◌ {A = Result B} (cond b (refused InputTooLong 0) (and_then x next)) (and_then (cond b (refused InputTooLong 0) x) next)
    go true = refl
    go false = refl

-- where a goal list at the beginning ends
pub stated_end : (s : List ℕ) (n to : ℕ) → goals_shape (of_size s (read_goals s 0 (length s))) ≡ G.Read n to → (3 + n * 2 ≡ to) × (to ≤ length s)
unfolding goals_shape
stated_end s n to e =
    let v = told_value goals_tell goals_kept (of_size s (read_goals s 0 (length s))) (n, to) e in
    let g = goals_stand s 0 (length s) (omega arith) v.0 (passed (ltb most_bytes (length s)) InputTooLong 0 _ v.1).1 in
    let count : length v.0.goals ≡ n = ap (λ (q : Pair). q.0) v.2 in
    let next : v.0.next ≡ to = ap (λ (q : Pair). q.1) v.2 in
    (omega (arith, g.next_is, count, next), omega (arith, g.within, next))
