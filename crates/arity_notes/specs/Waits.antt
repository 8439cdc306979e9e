-- The terms that wait for the arity of an inner term while a walk goes on, and how they stand on the stack in the work space.
use Rattle.std.specs.Prelude.{ℕ, ◌+◌, ◌≡◌, List, [], ◌∷◌, ◌⊎◌, get_or}
use Rattle.std.proofs.Math.Option.{Option}
use Rattle.words.specs.Word.{word}
use Rattle.format.specs.declared.values.TacticNo.{TacticNo}
use Rattle.format.specs.Terms.{Term}
use Rattle.evaluation.specs.TacticArity.{sum_arity, common_arity}
use Rattle.arities.specs.Arities.{arity_code, Pair}

-- what two arities make: those of a tensor the sum, those of an alternation the common one
pub data Both : Type 0 where
  sums : Both
  commons : Both

unfoldable pub combine : Both → Option ℕ → Option ℕ → Option ℕ
combine sums a b = sum_arity a b
combine commons a b = common_arity a b

-- A tensor or an alternation at a place waits for its left term, or with that one's arity for its right term; a defined tactic for its body; the walk for the
-- term with which it began.
pub data Wait : Type 0 where
  for_left : Both → (at : ℕ) → (t u : Term) → Wait
  for_right : Both → Option ℕ → Wait
  for_body : TacticNo → Wait
  for_root : Wait

unfoldable pub left_kind : Both → ℕ
left_kind sums = 1
left_kind commons = 3

unfoldable pub right_kind : Both → ℕ
right_kind sums = 2
right_kind commons = 4

unfoldable pub WaitIs : (src : List ℕ) → (kind value : ℕ) → Wait → Type 0
WaitIs src kind value (for_left b at t u) = (kind ≡ left_kind b) × (value ≡ at) × Pair src at t u
WaitIs src kind value (for_right b o) = (kind ≡ right_kind b) × (value ≡ arity_code o)
WaitIs src kind value (for_body d) = (kind ≡ 5) × (value ≡ d.0)
WaitIs src kind value for_root = kind ≡ 6

-- the stack, the last one that waits in front
unfoldable pub StackAt : (src w : List ℕ) → List Wait → (top : ℕ) → Type 0
StackAt src w [] top = top ≡ 0
StackAt src w (x ∷ k) top = (low : ℕ) × (top ≡ low + 3) × WaitIs src (get_or w low 0) (word w (low + 1)) x × StackAt src w k low

-- the body of a tactic waits
unfoldable pub Walked : (tactic : ℕ) → List Wait → Type 0
Walked d [] = ⊥
Walked d (for_left b at t u ∷ k) = Walked d k
Walked d (for_right b o ∷ k) = Walked d k
Walked d (for_body e ∷ k) = (d ≡ e.0) ⊎ Walked d k
Walked d (for_root ∷ k) = Walked d k
