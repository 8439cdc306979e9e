-- Document 01, "Flat derivations", "Reading back": the walk over the entries of a flat derivation.
use Rattle.std.specs.Prelude.{ℕ, ◌+◌, cond, List, [], ◌∷◌, ◌++◌}
use Rattle.format.specs.declared.values.Goal.{Goal}
use Rattle.format.specs.declared.refusals.Cause.TheVariants.{EntryWrong}
use Rattle.format.specs.Results.{Result, gives, refused, and_then}
use Rattle.tables.specs.Tables.{Table}
use Rattle.tables.specs.Lookup.{find_rule, same_goal}
use Rattle.files.specs.Derivations.{Entry, use_entry, open_entry}
use Rattle.hitac.specs.Walk.{premises_or}

-- "Each entry must carry the first pending goal. An open removes it; a use needs its rule and puts the premises in its place, in front.
-- The walk stops at the first entry that does not apply."
-- From the entry at place p on, with the goals g pending; it gives the goals that are pending behind the last entry.
unfoldable pub flat_walk : Table → (place : ℕ) → (pending : List Goal) → List Entry → Result (List Goal)
flat_walk T p g [] = gives g
flat_walk T p [] (e ∷ es) = refused EntryWrong p
flat_walk T p (δ ∷ g) (open_entry γ ∷ es) = cond (same_goal γ δ) (flat_walk T (p + 5) g es) (refused EntryWrong p)
flat_walk T p (δ ∷ g) (use_entry a γ ∷ es) =
    cond (same_goal γ δ)
    (and_then (premises_or EntryWrong p (find_rule T a γ)) (λ h. flat_walk T (p + 7) (h ++ g) es))
    (refused EntryWrong p)
