-- Document 01, "Flat derivations", "Writing a proof": the term of a flat derivation, as rules.
use Rattle.std.specs.Prelude.{List, [], ◌∷◌, ◌++◌}
use Rattle.format.specs.declared.values.RuleName.{RuleName}
use Rattle.format.specs.declared.values.Goal.{Goal}
use Rattle.format.specs.Terms.{Term, atomic, id, sequence, tensor, empty}
use Rattle.files.specs.Derivations.{Entry, use_entry, open_entry}
use Rattle.hitac.specs.Validates.{System}

-- `WritesForest ts t`: the term t is written for the trees whose terms are ts.
-- "no trees is empty, one is itself, more is a tensor of the first and the others"
pub data WritesForest : List Term → Term → Type 0 where
  W-None : WritesForest [] empty
  W-One : {t : Term} → WritesForest (t ∷ []) t
  W-More : {t u v : Term} {ts : List Term} → WritesForest (u ∷ ts) v → WritesForest (t ∷ u ∷ ts) (tensor t v)

-- `WritesTrees S g es ts`: the entries es are a tree for each of the goals g, and ts are the terms written for the trees.
-- "Open is id; a use without premises is atomic; with premises it is a sequence of atomic and the forest"
pub data WritesTrees (S : System) : List Goal → List Entry → List Term → Type 0 where
  W-End : WritesTrees S [] [] []
  W-Open : {γ : Goal} {g : List Goal} {es : List Entry} {ts : List Term} → WritesTrees S g es ts → WritesTrees S (γ ∷ g) (open_entry γ ∷ es) (id ∷ ts)
  W-Atomic : {a : RuleName} {γ : Goal} {g : List Goal} {es : List Entry} {ts : List Term} → S a γ [] → WritesTrees S g es ts
      → WritesTrees S (γ ∷ g) (use_entry a γ ∷ es) (atomic a ∷ ts)
  W-Sequence : {a : RuleName} {γ δ : Goal} {g h : List Goal} {ds es : List Entry} {us ts : List Term} {u : Term} → S a γ (δ ∷ h)
      → WritesTrees S (δ ∷ h) ds us → WritesForest us u → WritesTrees S g es ts
      → WritesTrees S (γ ∷ g) (use_entry a γ ∷ ds ++ es) (sequence (atomic a) u ∷ ts)

-- "the stated goals are the roots .. and the term is the whole forest"
pub data Writes (S : System) : List Goal → List Entry → Term → Type 0 where
  W-Proof : {g : List Goal} {es : List Entry} {ts : List Term} {t : Term} → WritesTrees S g es ts → WritesForest ts t → Writes S g es t
