-- The proof that is written for a right derivation is within the limits, if the derivation is. By induction over the rules of `Writes`, and over the entries.
-- Assumes nothing.
use Prim.Native.Nat.{ℕ, ◌≤◌, ◌<◌}
use mathlib.Core.List.{List, [], ◌∷◌, ◌++◌}
use Rattle.format.specs.declared.values.Goal.{Goal}
use Rattle.format.specs.Encoding.{GoalValues, TermValues}
use Rattle.format.specs.Terms.{Term}
use Rattle.files.specs.Derivations.{Entry, use_entry, open_entry}
use Rattle.files.specs.Within.{EntryValues}
use Rattle.hitac.specs.Forest.{leaves}
use Rattle.hitac.specs.Validates.{System}
use Rattle.hitac.specs.Writes.{WritesForest, W-None, W-One, W-More, WritesTrees, W-End, W-Open, W-Atomic, W-Sequence, Writes, W-Proof}

-- values of 16 bits in every term of a list
unfoldable AllValues : List Term → Type 0
AllValues [] = Unit {0}
AllValues (t ∷ ts) = TermValues t × AllValues ts

values_apart : (es fs : List Entry) → EntryValues (es ++ fs) → EntryValues es × EntryValues fs
unfolding EntryValues
values_apart [] fs v = (tt, v)
values_apart (use_entry a γ ∷ es) fs v = let w = values_apart es fs v.2 in ((v.0, v.1, w.0), w.1)
values_apart (open_entry γ ∷ es) fs v = let w = values_apart es fs v.1 in ((v.0, w.0), w.1)

forest_values : {ts : List Term} {t : Term} → WritesForest ts t → AllValues ts → TermValues t
unfolding AllValues TermValues
forest_values W-None v = tt
forest_values W-One v = v.0
forest_values (W-More w) v = (v.0, forest_values w v.1)

trees_values : {S : System} {g : List Goal} {es : List Entry} {ts : List Term} → WritesTrees S g es ts → EntryValues es → AllValues ts
unfolding AllValues TermValues EntryValues
trees_values W-End v = tt
trees_values (W-Open w) v = (tt, trees_values w v.1)
trees_values (W-Atomic r w) v = (v.0, trees_values w v.2)
trees_values (W-Sequence {ds = ds} {es = es} r x f w) v =
    let a = values_apart ds es v.2 in
    ((v.0, forest_values f (trees_values x a.0)), trees_values w a.1)

pub written_values : {S : System} {g : List Goal} {es : List Entry} {t : Term} → Writes S g es t → EntryValues es → TermValues t
written_values (W-Proof w f) v = forest_values f (trees_values w v)

pub leaf_values : (es : List Entry) → EntryValues es → GoalValues (leaves es)
unfolding EntryValues GoalValues
leaf_values [] v = tt
leaf_values (use_entry a γ ∷ es) v = leaf_values es v.2
leaf_values (open_entry γ ∷ es) v = (v.0, leaf_values es v.1)
