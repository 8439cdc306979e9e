-- The numbers of uses and opens that reading counts are those of the derivation's uses and open leaves. By induction over the entries.
-- Assumes nothing.
use Prim.Native.Nat.{ℕ, ◌+◌}
use mathlib.Core.Path.{◌≡◌, refl}
use mathlib.Core.List.{List, [], ◌∷◌}
use native.Mathlib.Omega.{arith}
use lib.ListN.{length}
use Rattle.files.specs.Derivations.{Entry, use_entry, open_entry}
use Rattle.files.specs.Counts.{uses_in, opens_in}
use Rattle.hitac.specs.Forest.{leaves}
use Rattle.hitac.specs.Counts.{uses, every_use}

pub uses-counted : (es : List Entry) → uses_in es ≡ uses every_use es
unfolding uses_in
uses-counted [] = refl
uses-counted (use_entry a γ ∷ es) = omega (arith, uses-counted es)
uses-counted (open_entry γ ∷ es) = uses-counted es

pub opens_counted : (es : List Entry) → opens_in es ≡ length (leaves es)
unfolding opens_in
opens_counted [] = refl
opens_counted (use_entry a γ ∷ es) = opens_counted es
opens_counted (open_entry γ ∷ es) = omega (arith, opens_counted es)
