-- Document 01, "Flat derivations" and "What the state brings about", 27: the first entry that does not apply, as rules.
use Rattle.std.specs.Prelude.{ℕ, ◌+◌, ◌≡◌, List, [], ◌∷◌, ◌++◌}
use Rattle.format.specs.declared.values.RuleName.{RuleName}
use Rattle.format.specs.declared.values.Goal.{Goal}
use Rattle.files.specs.Derivations.{Entry, use_entry, open_entry}
use Rattle.hitac.specs.Validates.{System}
use Rattle.hitac.specs.Derives.{Derives}

-- `Unfit S g e`: the entry e does not apply to the pending goals g.
-- Nothing is pending; or it carries another goal than the first pending one; or it is a use without its rule.
pub data Unfit (S : System) : List Goal → Entry → Type 0 where
  U-Nothing-Pending : {e : Entry} → Unfit S [] e
  U-Open-Other : {γ δ : Goal} {g : List Goal} → (γ ≡ δ → ⊥) → Unfit S (δ ∷ g) (open_entry γ)
  U-Use-Other : {a : RuleName} {γ δ : Goal} {g : List Goal} → (γ ≡ δ → ⊥) → Unfit S (δ ∷ g) (use_entry a γ)
  U-Use-Rule : {a : RuleName} {γ : Goal} {g : List Goal} → ((h : List Goal) → S a γ h → ⊥) → Unfit S (γ ∷ g) (use_entry a γ)

-- bytes of the entries' fields: a header of 3, and 2 for each value
abbrev pub entries_size : List Entry → ℕ
entries_size [] = 0
entries_size (use_entry a γ ∷ es) = 7 + entries_size es
entries_size (open_entry γ ∷ es) = 5 + entries_size es

-- `FirstWrong S p g es q`: of the entries es, the first at place p, on the pending goals g, the one at place q is the first that does not apply.
-- "The walk stops at the first entry that does not apply." "27: flat file wrong; place of the entry"
pub data FirstWrong (S : System) : (place : ℕ) → List Goal → List Entry → (stop : ℕ) → Type 0 where
  U-First : {p : ℕ} {g k : List Goal} {es : List Entry} {e : Entry} (fs : List Entry) → Derives S g es k → Unfit S k e
      → FirstWrong S p g (es ++ e ∷ fs) (p + entries_size es)
