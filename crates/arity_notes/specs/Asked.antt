-- Which arity a walk asks for, as a function of those of the defined tactics: each term that waits asks for all the arities that its own depends on.
use Rattle.std.specs.Prelude.{ℕ, ◌+◌, ◌≡◌, List, [], ◌∷◌}
use Rattle.std.proofs.Math.Option.{Option}
use Rattle.format.specs.declared.values.TacticNo.{TacticNo}
use Rattle.format.specs.Terms.{Term, size}
use Rattle.format.specs.Standing.{Stands}
use Rattle.tables.specs.Tables.{Table}
use Rattle.tables.specs.Lookup.{find_body}
use Rattle.evaluation.specs.TacticArity.{arity_in, body_arity}
use Rattle.arities.specs.Arities.{arity_code, arities}
use Rattle.arity_notes.specs.declared.walk.Next.TheVariants as N
use Rattle.arity_notes.specs.declared.walk.Walk.{Walk}
use Rattle.arity_notes.specs.Waits.{combine, Wait, for_left, for_right, for_body, for_root}

abbrev pub Known : Type 0
Known = TacticNo → Option ℕ

-- what waits has asked for that arity, and goes on with it
unfoldable pub Asked : Table → (Known → Option ℕ) → List Wait → Type 0
Asked T a [] = Unit {0}
Asked T a (for_left b at t u ∷ k) = ((f : Known) → a f ≡ arity_in f t) × Asked T (λ f. combine b (arity_in f t) (arity_in f u)) k
Asked T a (for_right b o ∷ k) = (l : Known → Option ℕ) × (l (arities T) ≡ o) × Asked T (λ f. combine b (l f) (a f)) k
Asked T a (for_body d ∷ k) = ((f : Known) → a f ≡ body_arity f (find_body T d)) × Asked T (λ f. f d) k
Asked T a (for_root ∷ k) = Asked T a k

-- where a walk stands: the term at a place is asked, or a term that ended at a place has told its arity
pub data Turn : Type 0 where
  asks : (at : ℕ) → Term → Turn
  tells : (end : ℕ) → (Known → Option ℕ) → Turn

unfoldable pub asked_by : Turn → Known → Option ℕ
asked_by (asks at t) f = arity_in f t
asked_by (tells end a) f = a f

unfoldable pub TurnIs : Table → (src : List ℕ) → Walk → Turn → Type 0
TurnIs T src s (asks at t) = (s.next ≡ N.Asks at) × Stands src at t
TurnIs T src s (tells end a) = s.next ≡ N.Tells (arity_code (a (arities T)))

-- how much of the files is left to walk, and how much of what waits is left to do
unfoldable pub turn_weight : Turn → ℕ
turn_weight (asks at t) = size t
turn_weight (tells end a) = 0

unfoldable pub stack_weight : List Wait → ℕ
stack_weight [] = 0
stack_weight (for_left b at t u ∷ k) = 2 + size u + stack_weight k
stack_weight (for_right b o ∷ k) = 1 + stack_weight k
stack_weight (for_body d ∷ k) = 1 + stack_weight k
stack_weight (for_root ∷ k) = 1 + stack_weight k

-- a term is asked only while something waits
unfoldable pub Standing : Turn → List Wait → Type 0
Standing (asks at t) [] = ⊥
Standing (asks at t) (x ∷ k) = Unit {0}
Standing (tells end a) k = Unit {0}

-- an arity was told
unfoldable pub Told : Turn → Type 0
Told (asks at t) = ⊥
Told (tells end a) = Unit {0}
