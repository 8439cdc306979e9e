-- The paper, section 4.1, document 01, "Running a tactic", and document 02, P12: deterministic evaluation with failures, the limits, the steps and the fields
-- that are held, as rules.
use Rattle.std.specs.Prelude.{ℕ, suc, ◌+◌, ◌≤◌, ◌<◌, ◌≡◌, List, [], ◌∷◌, ◌++◌, length}
use Rattle.format.specs.declared.values.RuleName.{RuleName}
use Rattle.format.specs.declared.values.Goal.{Goal}
use Rattle.format.specs.declared.values.Label.{Label}
use Rattle.format.specs.declared.values.TacticNo.{TacticNo}
use Rattle.format.specs.Terms.{Term, atomic, id, label, sequence, tensor, empty, alternation, assert, defined, fields}
use Rattle.tables.specs.Tables.{Table, HasRule, Defines}
use Rattle.hitac.specs.Arity.{Arity}

-- how a term ends: with a hiproof and the goals it gives, by failing (23), by a joined list over 256 (22), or by more than 4,096 held fields (40)
pub data End : Type 0 where
  proof : Term → List Goal → End
  failure : End
  overflow : End
  excess : End

-- a limit: no alternative is tried
pub data Limit : End → Type 0 where
  overflows : Limit overflow
  exceeds : Limit excess

-- an end after which nothing more of the enclosing label, sequence or tensor begins
pub data NoProof : End → Type 0 where
  fails : NoProof failure
  limited : {e : End} → Limit e → NoProof e

-- how many fields may be held: under P12 at most 4,096, before it any number
abbrev pub FewHeld : ℕ → Type 0
FewHeld n = n ≤ 4096

abbrev pub AnyHeld : ℕ → Type 0
AnyHeld n = Unit {0}

-- A term finishes with a hiproof while k fields are held outside it: 40 is "a finished term that makes the held fields more than 4,096".
pub data Finishes (MayHold : ℕ → Type 0) (k : ℕ) (s : Term) (h : List Goal) : End → Type 0 where
  holds : MayHold (k + fields s) → Finishes MayHold k s h (proof s h)
  over_held : (MayHold (k + fields s) → ⊥) → Finishes MayHold k s h excess

-- `Ends T MayHold k g t n e`: while k fields are held outside it ("the count of fields finished and held"), on the goals g the term t ends with e, and n terms
-- have begun. "Fields of a failed alternative are no longer held": its right term has the k of its left. An unfinished term holds nothing of its own yet.
pub data Ends (T : Table) (MayHold : ℕ → Type 0) : ℕ → List Goal → Term → ℕ → End → Type 0 where
  -- "atomic: exactly one goal, with a rule of that name for it; gives the premises in order"
  D-Atomic : {k : ℕ} {a : RuleName} {γ : Goal} {h : List Goal} {e : End} → HasRule T a γ h → Finishes MayHold k (atomic a) h e → Ends T MayHold k (γ ∷ []) (atomic a) 1 e
  D-Atomic-Rule : {k : ℕ} {a : RuleName} {γ : Goal} → ((h : List Goal) → HasRule T a γ h → ⊥) → Ends T MayHold k (γ ∷ []) (atomic a) 1 failure
  D-Atomic-Goals : {k : ℕ} {a : RuleName} {g : List Goal} → (length g ≡ 1 → ⊥) → Ends T MayHold k g (atomic a) 1 failure
  -- "id: one goal, given back"
  D-Id : {k : ℕ} {γ : Goal} {e : End} → Finishes MayHold k id (γ ∷ []) e → Ends T MayHold k (γ ∷ []) id 1 e
  D-Id-Goals : {k : ℕ} {g : List Goal} → (length g ≡ 1 → ⊥) → Ends T MayHold k g id 1 failure
  -- "Empty: none, gives none"
  D-Empty : {k : ℕ} {e : End} → Finishes MayHold k empty [] e → Ends T MayHold k [] empty 1 e
  D-Empty-Goals : {k : ℕ} {g : List Goal} → 0 < length g → Ends T MayHold k g empty 1 failure
  -- "Goal matching is equality: assert succeeds, as id, on one goal equal to its own"
  D-Assert : {k : ℕ} {p γ : Goal} {e : End} → p ≡ γ → Finishes MayHold k id (γ ∷ []) e → Ends T MayHold k (γ ∷ []) (assert p) 1 e
  D-Assert-Other : {k : ℕ} {p γ : Goal} → (p ≡ γ → ⊥) → Ends T MayHold k (γ ∷ []) (assert p) 1 failure
  D-Assert-Goals : {k : ℕ} {p : Goal} {g : List Goal} → (length g ≡ 1 → ⊥) → Ends T MayHold k g (assert p) 1 failure
  -- "label: one goal, given to the inner term"
  D-Label : {k : ℕ} {l : Label} {t s : Term} {γ : Goal} {h : List Goal} {n : ℕ} {e : End} → Ends T MayHold k (γ ∷ []) t n (proof s h)
      → Finishes MayHold k (label l s) h e → Ends T MayHold k (γ ∷ []) (label l t) (suc n) e
  D-Label-Inner : {k : ℕ} {l : Label} {t : Term} {γ : Goal} {n : ℕ} {e : End} → Ends T MayHold k (γ ∷ []) t n e → NoProof e → Ends T MayHold k (γ ∷ []) (label l t) (suc n) e
  D-Label-Goals : {k : ℕ} {l : Label} {t : Term} {g : List Goal} → (length g ≡ 1 → ⊥) → Ends T MayHold k g (label l t) 1 failure
  -- "sequence: left, then right on what left gave"
  D-Seq : {k : ℕ} {t u s r : Term} {g h j : List Goal} {n m : ℕ} {e : End} → Ends T MayHold k g t n (proof s h) → Ends T MayHold (k + fields s) h u m (proof r j)
      → Finishes MayHold k (sequence s r) j e → Ends T MayHold k g (sequence t u) (suc (n + m)) e
  D-Seq-Left : {k : ℕ} {t u : Term} {g : List Goal} {n : ℕ} {e : End} → Ends T MayHold k g t n e → NoProof e → Ends T MayHold k g (sequence t u) (suc n) e
  D-Seq-Right : {k : ℕ} {t u s : Term} {g h : List Goal} {n m : ℕ} {e : End} → Ends T MayHold k g t n (proof s h) → Ends T MayHold (k + fields s) h u m e → NoProof e
      → Ends T MayHold k g (sequence t u) (suc (n + m)) e
  -- "tensor: the first n goals (n is the left's arity) to the left, the others to the right; the two lists joined", up to 256; 40 comes "after 22 at the same term"
  D-Tensor : {k : ℕ} {t u s r : Term} {g₁ g₂ h₁ h₂ : List Goal} {n m : ℕ} {e : End} → Arity T t (length g₁) → length g₁ ≤ 256 → Ends T MayHold k g₁ t n (proof s h₁)
      → Ends T MayHold (k + fields s) g₂ u m (proof r h₂) → length (h₁ ++ h₂) ≤ 256 → Finishes MayHold k (tensor s r) (h₁ ++ h₂) e → Ends T MayHold k (g₁ ++ g₂) (tensor t u) (suc (n + m)) e
  D-Tensor-Joined : {k : ℕ} {t u s r : Term} {g₁ g₂ h₁ h₂ : List Goal} {n m : ℕ} → Arity T t (length g₁) → length g₁ ≤ 256 → Ends T MayHold k g₁ t n (proof s h₁)
      → Ends T MayHold (k + fields s) g₂ u m (proof r h₂) → 256 < length (h₁ ++ h₂) → Ends T MayHold k (g₁ ++ g₂) (tensor t u) (suc (n + m)) overflow
  D-Tensor-Left : {k : ℕ} {t u : Term} {g₁ : List Goal} (g₂ : List Goal) {n : ℕ} {e : End} → Arity T t (length g₁) → length g₁ ≤ 256 → Ends T MayHold k g₁ t n e
      → NoProof e → Ends T MayHold k (g₁ ++ g₂) (tensor t u) (suc n) e
  D-Tensor-Right : {k : ℕ} {t u s : Term} {g₁ g₂ h : List Goal} {n m : ℕ} {e : End} → Arity T t (length g₁) → length g₁ ≤ 256 → Ends T MayHold k g₁ t n (proof s h)
      → Ends T MayHold (k + fields s) g₂ u m e → NoProof e → Ends T MayHold k (g₁ ++ g₂) (tensor t u) (suc (n + m)) e
  -- "A tensor fails if its left has none or has more than there are goals"; "an arity over 256 counts as none"
  D-Tensor-Arity : {k : ℕ} {t u : Term} {g : List Goal} → ((n : ℕ) → Arity T t n → n ≤ 256 → n ≤ length g → ⊥) → Ends T MayHold k g (tensor t u) 1 failure
  -- "Alternation runs the left; only if that fails does it run the right on the same goals"; "neither 24 nor 22 moves on to an alternative", and 40 is given
  -- "at that moment, with no alternative tried"
  D-Alt-L : {k : ℕ} {t u s : Term} {g h : List Goal} {n : ℕ} → Ends T MayHold k g t n (proof s h) → Ends T MayHold k g (alternation t u) (suc n) (proof s h)
  D-Alt-R : {k : ℕ} {t u : Term} {g : List Goal} {n m : ℕ} {e : End} → Ends T MayHold k g t n failure → Ends T MayHold k g u m e → Ends T MayHold k g (alternation t u) (suc (n + m)) e
  D-Alt-Limit : {k : ℕ} {t u : Term} {g : List Goal} {n : ℕ} {e : End} → Ends T MayHold k g t n e → Limit e → Ends T MayHold k g (alternation t u) (suc n) e
  -- "A defined tactic is replaced by its body; one without a definition fails"
  D-Def : {k : ℕ} {d : TacticNo} {t : Term} {g : List Goal} {n : ℕ} {e : End} → Defines T d t → Ends T MayHold k g t n e → Ends T MayHold k g (defined d) (suc n) e
  D-Def-Missing : {k : ℕ} {d : TacticNo} {g : List Goal} → ((t : Term) → Defines T d t → ⊥) → Ends T MayHold k g (defined d) 1 failure
