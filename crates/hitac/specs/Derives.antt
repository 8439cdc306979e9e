-- Document 01, "Flat derivations", "Reading back": which entries apply to which pending goals, as rules.
use Rattle.std.specs.Prelude.{List, [], ◌∷◌, ◌++◌}
use Rattle.format.specs.declared.values.RuleName.{RuleName}
use Rattle.format.specs.declared.values.Goal.{Goal}
use Rattle.files.specs.Derivations.{Entry, use_entry, open_entry}
use Rattle.hitac.specs.Validates.{System}

-- `Derives S g es k`: the entries es apply in order to the pending goals g and leave the goals k pending.
-- "Each entry must carry the first pending goal. An open removes it; a use needs its rule and puts the premises in its place, in front."
-- "every entry applies and nothing is pending at its end": `Derives S roots entries []`.
pub data Derives (S : System) : List Goal → List Entry → List Goal → Type 0 where
  D-End : {g : List Goal} → Derives S g [] g
  D-Open : {γ : Goal} {g k : List Goal} {es : List Entry} → Derives S g es k → Derives S (γ ∷ g) (open_entry γ ∷ es) k
  D-Use : {a : RuleName} {γ : Goal} {g h k : List Goal} {es : List Entry} → S a γ h → Derives S (h ++ g) es k
      → Derives S (γ ∷ g) (use_entry a γ ∷ es) k
