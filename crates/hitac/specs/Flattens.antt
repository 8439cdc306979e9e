-- Document 01, "Flat derivations": the forest of a hiproof on its goals, as rules.
use Rattle.std.specs.Prelude.{List, [], ◌∷◌, ◌++◌, map}
use Rattle.format.specs.declared.values.RuleName.{RuleName}
use Rattle.format.specs.declared.values.Goal.{Goal}
use Rattle.format.specs.declared.values.Label.{Label}
use Rattle.format.specs.Terms.{Term, atomic, id, label, sequence, tensor, empty}
use Rattle.files.specs.Derivations.{Entry, use_entry, open_entry}
use Rattle.hitac.specs.Validates.{System}

-- `InTree es ts fs`: fs is the tree es with the trees ts for its open leaves in order. A tree is the list of its entries, depth first, left first.
pub data InTree : List Entry → List (List Entry) → List Entry → Type 0 where
  T-End : InTree [] [] []
  T-Use : {a : RuleName} {γ : Goal} {es fs : List Entry} {ts : List (List Entry)} → InTree es ts fs → InTree (use_entry a γ ∷ es) ts (use_entry a γ ∷ fs)
  T-Open : {γ : Goal} {es fs t : List Entry} {ts : List (List Entry)} → InTree es ts fs → InTree (open_entry γ ∷ es) (t ∷ ts) (t ++ fs)

-- `InForest f ts k`: k is the forest f with the trees ts for its open leaves in order.
pub data InForest : List (List Entry) → List (List Entry) → List (List Entry) → Type 0 where
  T-None : InForest [] [] []
  T-Tree : {t u : List Entry} {f k us vs : List (List Entry)} → InTree t us u → InForest f vs k → InForest (t ∷ f) (us ++ vs) (u ∷ k)

-- `Flattens S s g f h`: on the goals g the hiproof s has the forest f, whose open leaves from left to right are the goals h.
-- "id is an open leaf; atomic is a use whose premises are open leaves; label is the inner forest; a sequence puts the right forest's trees
-- for the left's open leaves in order; a tensor joins; empty is no tree"
pub data Flattens (S : System) : Term → List Goal → List (List Entry) → List Goal → Type 0 where
  F-Identity : {γ : Goal} → Flattens S id (γ ∷ []) ((open_entry γ ∷ []) ∷ []) (γ ∷ [])
  F-Atomic : {a : RuleName} {γ : Goal} {h : List Goal} → S a γ h → Flattens S (atomic a) (γ ∷ []) ((use_entry a γ ∷ map open_entry h) ∷ []) h
  F-Label : {l : Label} {s : Term} {γ : Goal} {h : List Goal} {f : List (List Entry)} → Flattens S s (γ ∷ []) f h → Flattens S (label l s) (γ ∷ []) f h
  F-Sequence : {s t : Term} {g h m : List Goal} {f k w : List (List Entry)} → Flattens S s g f h → Flattens S t h k m → InForest f k w
      → Flattens S (sequence s t) g w m
  F-Tensor : {s t : Term} {g₁ g₂ h₁ h₂ : List Goal} {f₁ f₂ : List (List Entry)} → Flattens S s g₁ f₁ h₁ → Flattens S t g₂ f₂ h₂
      → Flattens S (tensor s t) (g₁ ++ g₂) (f₁ ++ f₂) (h₁ ++ h₂)
  F-Empty : Flattens S empty [] [] []
