-- The paper, Fig. 3: the big-step semantics, free choice.
use Rattle.std.specs.Prelude.{ℕ, suc, ◌≡◌, List, [], ◌∷◌, ◌++◌}
use Rattle.format.specs.declared.values.RuleName.{RuleName}
use Rattle.format.specs.declared.values.Goal.{Goal}
use Rattle.format.specs.declared.values.Label.{Label}
use Rattle.format.specs.declared.values.TacticNo.{TacticNo}
use Rattle.format.specs.Terms.{Term, atomic, id, label, sequence, tensor, empty, alternation, assert, defined}
use Rattle.tables.specs.Tables.{Table, HasRule, Defines}

-- `Evaluates T Fits i g t s h`: the paper's ⟨g, t⟩ ⇓ ⟨s, h⟩, by a derivation at most i rules high in which every list that a tensor joins fits.
pub data Evaluates (T : Table) (Fits : List Goal → Type 0) : ℕ → List Goal → Term → Term → List Goal → Type 0 where
  B-Atomic : {i : ℕ} {a : RuleName} {γ : Goal} {h : List Goal} → HasRule T a γ h → Evaluates T Fits (suc i) (γ ∷ []) (atomic a) (atomic a) h
  B-Id : {i : ℕ} {γ : Goal} → Evaluates T Fits (suc i) (γ ∷ []) id id (γ ∷ [])
  B-Label : {i : ℕ} {l : Label} {t s : Term} {γ : Goal} {h : List Goal} → Evaluates T Fits i (γ ∷ []) t s h
      → Evaluates T Fits (suc i) (γ ∷ []) (label l t) (label l s) h
  B-Seq : {i : ℕ} {t u s r : Term} {g h k : List Goal} → Evaluates T Fits i g t s h → Evaluates T Fits i h u r k
      → Evaluates T Fits (suc i) g (sequence t u) (sequence s r) k
  B-Tensor : {i : ℕ} {t u s r : Term} {g₁ g₂ h₁ h₂ : List Goal} → Evaluates T Fits i g₁ t s h₁ → Evaluates T Fits i g₂ u r h₂ → Fits (h₁ ++ h₂)
      → Evaluates T Fits (suc i) (g₁ ++ g₂) (tensor t u) (tensor s r) (h₁ ++ h₂)
  B-Empty : {i : ℕ} → Evaluates T Fits (suc i) [] empty empty []
  B-Alt-L : {i : ℕ} {t u s : Term} {g h : List Goal} → Evaluates T Fits i g t s h → Evaluates T Fits (suc i) g (alternation t u) s h
  B-Alt-R : {i : ℕ} {t u s : Term} {g h : List Goal} → Evaluates T Fits i g u s h → Evaluates T Fits (suc i) g (alternation t u) s h
  -- the goal matching relation of document 01 is equality
  B-Assert : {i : ℕ} {p γ : Goal} → p ≡ γ → Evaluates T Fits (suc i) (γ ∷ []) (assert p) id (γ ∷ [])
  B-Def : {i : ℕ} {d : TacticNo} {t s : Term} {g h : List Goal} → Defines T d t → Evaluates T Fits i g t s h
      → Evaluates T Fits (suc i) g (defined d) s h
