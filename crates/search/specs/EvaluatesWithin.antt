-- Document 02, P13: "any evaluation by the big-step rules at most h rules high with every list at most 256 goals".
use Rattle.std.specs.Prelude.{ℕ, ◌≤◌, List, length}
use Rattle.format.specs.declared.values.Goal.{Goal}
use Rattle.format.specs.Limits.{most_goals}
use Rattle.format.specs.Terms.{Term}
use Rattle.tables.specs.Tables.{Table}
use Rattle.hitac.specs.Validates.{AnyList}
use Rattle.evaluation.specs.Evaluates.{Evaluates, B-Atomic, B-Id, B-Label, B-Seq, B-Tensor, B-Empty, B-Alt-L, B-Alt-R, B-Assert, B-Def}

-- what a term takes and what it gives
abbrev pub BothFit : (taken gave : List Goal) → Type 0
BothFit g h = (length g ≤ most_goals) × (length h ≤ most_goals)

-- "every list": of the term itself, and of every term inside its evaluation
unfoldable pub ListsFit : {T : Table} {Fits : List Goal → Type 0} {i : ℕ} {g h : List Goal} {t s : Term} → Evaluates T Fits i g t s h → Type 0
ListsFit {g = g} {h = h} (B-Atomic m) = BothFit g h
ListsFit {g = g} {h = h} B-Id = BothFit g h
ListsFit {g = g} {h = h} (B-Label r) = BothFit g h × ListsFit r
ListsFit {g = g} {h = h} (B-Seq r r') = BothFit g h × ListsFit r × ListsFit r'
ListsFit {g = g} {h = h} (B-Tensor r r' f) = BothFit g h × ListsFit r × ListsFit r'
ListsFit {g = g} {h = h} B-Empty = BothFit g h
ListsFit {g = g} {h = h} (B-Alt-L r) = BothFit g h × ListsFit r
ListsFit {g = g} {h = h} (B-Alt-R r) = BothFit g h × ListsFit r
ListsFit {g = g} {h = h} (B-Assert p) = BothFit g h
ListsFit {g = g} {h = h} (B-Def m r) = BothFit g h × ListsFit r

-- the paper's ⟨g, t⟩ ⇓ ⟨s, h⟩, free choice, by a derivation at most so many rules high with every list at most 256 goals
abbrev pub EvaluatesWithin : Table → (height : ℕ) → List Goal → Term → Term → List Goal → Type 0
EvaluatesWithin T i g t s h = (e : Evaluates T AnyList i g t s h) × ListsFit e
