-- What is known of a goal list that was read, and what the code tells of it: by its header and the test of its count.
-- Assumes nothing.
use mathlib.Core.Path.{◌≡◌, refl, ap}
use mathlib.Core.Bool.{true, false}
use mathlib.Core.List.{List}
use Rattle.std.specs.Prelude.{Ok}
use Prim.Native.Nat.{ℕ, zero, suc, ◌+◌, ◌/◌}
use native.Mathlib.Omega.{arith}
use lib.Dec.{ltb}
use lib.ListN.{length}
use Rattle.format.specs.GoalsRead.{Refused, Read}
use Rattle.format.specs.Limits.{most_goals}
use Rattle.format.specs.Refusals.{Cause, LimitPassed}
use Rattle.format.specs.Results.{Result, and_then, told, refused_at}
use Rattle.format.specs.Headers.{Header, header}
use Rattle.format.specs.Goals.{goals_at, goals_of}
use Rattle.format.specs.Shapes.{header_shape, goals_shape}
use Rattle.format.proofs.ResultLaws.{refused_cause, refused_place, told_refused}
use Rattle.format.proofs.HeaderLaws.{told-field}

pub length-goals_at : (k : ℕ) (s : List ℕ) (at : ℕ) → length (goals_at s at k) ≡ k
unfolding goals_at
length-goals_at zero s at = refl
length-goals_at (suc k) s at = ap suc (length-goals_at k s (at + 2))

-- a header that was refused, and one that was read
pub header_refused : (s : List ℕ) (at : ℕ) (x : Result Header) (d : Cause) (p : ℕ) → header_shape x ≡ refused_at d p → goals_shape (and_then x (goals_of s at)) ≡ Refused d p
unfolding header_shape goals_shape
header_refused s at x d p e =
    told_refused refused_at (λ h. Ok (record { tag = h.tag; len = h.len })) Refused (λ g. Read (length g.goals) g.next) x (goals_of s at) d p e
    (λ c q f. let a : c ≡ d = refused_cause f in let b : q ≡ p = refused_place f in rw (a, b)) (λ a f. let z : ◌≡◌ {A = ℕ} 0 1 = cc in omega arith)

module _ (s : List ℕ) (at : ℕ) (x : Result Header) (tag len : ℕ) (e : header_shape x ≡ Ok (record { tag = tag; len = len })) where
  pub header_read : goals_shape (and_then x (goals_of s at)) ≡ goals_shape (goals_of s at (header tag len))
  unfolding and_then
  header_read = rw (told-field x tag len e)

-- once the count is tested
pub many_goals : (s : List ℕ) (at tag len : ℕ) → ltb most_goals (len / 2) ≡ true → goals_shape (goals_of s at (header tag len)) ≡ Refused LimitPassed at
unfolding goals_of goals_shape told
many_goals s at tag len t = rw t

pub few_goals : (s : List ℕ) (at tag len next : ℕ) → ltb most_goals (len / 2) ≡ false → next ≡ at + 3 + len → goals_shape (goals_of s at (header tag len)) ≡ Read (len / 2) next
unfolding goals_of goals_shape told
few_goals s at tag len next t e = rw (t, length-goals_at (len / 2) s (at + 3), e)
