-- The place of a tactic's body along the search for its definition: by the first of the definitions that are left.
-- Assumes nothing.
use Prim.Native.Nat.{ℕ, ◌+◌, ◌<◌}
use mathlib.Core.Path.{◌≡◌, refl, sym, subst, ◌∙◌}
use mathlib.Core.Bool.{Bool, true, false, cond}
use mathlib.Core.List.{List, [], ◌∷◌}
use mathlib.Core.Option.{some, none-ne-some}
use native.Mathlib.Omega.{arith}
use borrow.Author.Tests.{eq-eqb, ne_eqb}
use Rattle.words.specs.Word.{word}
use Rattle.format.specs.declared.values.TacticNo.{TacticNo}
use Rattle.format.specs.Standing.{Stands}
use Rattle.format.specs.Terms.{Term}
use Rattle.tables.specs.Tables.{Rule, Definition}
use Rattle.tables.specs.Lookup.{same_tactic, find_body_in}
use Rattle.tables.specs.Places.{body_place_in}
use Rattle.tables.specs.Repeats.{rule_size, definition_size, rules_size}
use Rattle.tables.specs.Standing.{InRow, RulesStand, DefinitionsStand}

-- the rules end where the definitions begin
pub rules_end : (s : List ℕ) (at : ℕ) (rs : List Rule) (to : ℕ) → RulesStand s at rs to → to ≡ at + rules_size rs
unfolding InRow rules_size
rules_end s at [] to h = omega (arith, h)
rules_end s at (r ∷ rs) to h = omega (arith, rules_end s (at + rule_size r) rs to h.1)

module _ (s : List ℕ) (n : TacticNo) where
  -- the definition here is the one
  pub this_place : (ds : List Definition) (at to : ℕ) → DefinitionsStand s at ds to → at < to → n.0 ≡ word s (at + 3) → body_place_in at ds n ≡ at + 5
  unfolding InRow body_place_in
  this_place [] at to h l e = absurd (omega (arith, h, l))
  this_place (d ∷ ds) at to h l e = rw (eq-eqb n.0 d.tactic.0 (e ∙ h.0.tactic_is)) refl

  -- it is not, and the search goes on behind it
  pub next_place : (ds : List Definition) (at to : ℕ) → DefinitionsStand s at ds to → at < to → (n.0 ≡ word s (at + 3) → ⊥)
      → (left : List Definition) × DefinitionsStand s (at + (3 + word s (at + 1))) left to × (find_body_in ds n ≡ find_body_in left n) × (body_place_in at ds n ≡ body_place_in (at + (3 + word s (at + 1))) left n)
  unfolding InRow body_place_in find_body_in definition_size
  next_place [] at to h l e = absurd (omega (arith, h, l))
  next_place (d ∷ ds) at to h l e =
      let q : at + definition_size d ≡ at + (3 + word s (at + 1)) = omega (arith, h.0.head.length_is) in
      let b = ne_eqb n.0 d.tactic.0 (λ z. e (z ∙ sym h.0.tactic_is)) in
      (ds, subst (λ (x : ℕ). DefinitionsStand s x ds to) q h.1, rw b refl, rw b (subst (λ (x : ℕ). body_place_in (at + definition_size d) ds n ≡ body_place_in x ds n) q refl))

  -- the body that is found stands there
  pub stands_there : (t : Term) (ds : List Definition) (at to : ℕ) → DefinitionsStand s at ds to → find_body_in ds n ≡ some t → Stands s (body_place_in at ds n) t
  unfolding InRow body_place_in find_body_in
  stands_there t [] at to h e = absurd (none-ne-some t e)
  stands_there t (d ∷ ds) at to h e = go (same_tactic n d.tactic) (λ q. stands_there t ds (at + definition_size d) to h.1 q) e
    where
      go : (x : Bool) → (find_body_in ds n ≡ some t → Stands s (body_place_in (at + definition_size d) ds n) t) → cond x (some d.body) (find_body_in ds n) ≡ some t
          → Stands s (cond x (at + 5) (body_place_in (at + definition_size d) ds n)) t
      go true later q = let p : d.body ≡ t = cc in subst (λ (u : Term). Stands s (at + 5) u) p h.0.body_stands
      go false later q = later q
