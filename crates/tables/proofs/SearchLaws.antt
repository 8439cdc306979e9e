-- Laws of the search for 6, 7, 8 and 9 over headers one behind the other: the test of two fields, and the field at a place against those seen.
-- Assumes nothing.
use mathlib.Core.Path.{◌≡◌, refl, subst, ap, ◌∙◌}
use mathlib.Core.Bool.{Bool, true, false, cond, ◌&&◌, not}
use mathlib.Core.Option.{Option, none, some}
use mathlib.Core.List.{List, [], ◌∷◌, ◌++◌}
use Prim.Native.Nat.{ℕ, ◌+◌, ◌≤◌, ◌<◌}
use native.Mathlib.Omega.{arith}
use lib.Dec.{eqb}
use lib.ListN.{length, get_or}
use borrow.Author.Tests.{eq-eqb, ne_eqb}
use Rattle.words.specs.Word.{word}
use Rattle.format.specs.Tags.{rows, find_row, row_of, least_of}
use Rattle.tables.specs.declared.repeats.Repeat.{Repeat}
use Rattle.tables.specs.declared.repeats.Repeat.TheVariants as K
use Rattle.tables.specs.Repeats.{clashes_any, first_clash}
use Rattle.tables.specs.Standing.{InRow}
use Rattle.tables.specs.Search.{searched_tag, step_at, Room, besides, clash_at, Headers, places}
use Rattle.tables.proofs.RowLaws as row

-- every field that is searched has a value of two bytes, and a rule two of them
pub value_room : (kind : Repeat) → 2 ≤ least_of (searched_tag kind)
unfolding least_of row_of rows find_row searched_tag
value_room K.Rule = omega arith
value_room K.PremiseCount = omega arith
value_room K.Tactic = omega arith
value_room K.Label = omega arith

goal_room : least_of (searched_tag K.Rule) ≡ 4
unfolding least_of row_of rows find_row searched_tag
goal_room = refl

pub step_positive : (kind : Repeat) (s : List ℕ) (at : ℕ) → 0 < step_at kind s at
unfolding step_at
step_positive K.Rule s at = omega arith
step_positive K.PremiseCount s at = omega arith
step_positive K.Tactic s at = omega arith
step_positive K.Label s at = omega arith

and_false : (b : Bool) → (b && false) ≡ false
and_false true = refl
and_false false = refl

-- a field with another tag clashes with none, in either place
pub silent : (kind : Repeat) (s : List ℕ) (at : ℕ) → (get_or s at 0 ≡ searched_tag kind → ⊥) → (p : ℕ) → (clash_at kind s at p ≡ false) × (clash_at kind s p at ≡ false)
unfolding clash_at
silent kind s at h p = let e = ne_eqb _ _ h in (rw e, rw (e, and_false (eqb (get_or s p 0) (searched_tag kind))))

-- a field with the tag searched has its value within the file, and a rule its goal
module _ (kind : Repeat) (s : List ℕ) (at : ℕ) where
  pub value_inside : get_or s at 0 ≡ searched_tag kind → Room s at → at + 5 ≤ length s
  value_inside t h = omega (arith, value_room kind, ap least_of t)

  pub goal_inside : get_or s at 0 ≡ searched_tag kind → kind ≡ K.Rule → Room s at → at + 7 ≤ length s
  goal_inside t e h = omega (arith, goal_room, ap least_of (t ∙ ap searched_tag e))

-- the test of two fields, by the number
module _ (kind : Repeat) (s : List ℕ) (at earlier : ℕ) where
  module _ (here : get_or s at 0 ≡ searched_tag kind) (there : get_or s earlier 0 ≡ searched_tag kind) where
    pub by_value : clash_at kind s at earlier ≡ (eqb (word s (at + 3)) (word s (earlier + 3)) && besides kind s at earlier)
    unfolding clash_at
    by_value = simp (eq-eqb _ _ here, eq-eqb _ _ there)

    pub same_value : word s (at + 3) ≡ word s (earlier + 3) → clash_at kind s at earlier ≡ besides kind s at earlier
    same_value e = by_value ∙ rw (eq-eqb _ _ e)

  pub for_length : kind ≡ K.PremiseCount → besides kind s at earlier ≡ not (eqb (word s (at + 1)) (word s (earlier + 1)))
  unfolding besides
  for_length e = rw e

-- for tactic numbers and labels equal values are enough
pub for_value : (kind : Repeat) (s : List ℕ) (at earlier : ℕ) → (kind ≡ K.Rule → ⊥) → (kind ≡ K.PremiseCount → ⊥) → besides kind s at earlier ≡ true
unfolding besides
for_value K.Rule s at earlier h k = absurd (h refl)
for_value K.PremiseCount s at earlier h k = absurd (k refl)
for_value K.Tactic s at earlier h k = refl
for_value K.Label s at earlier h k = refl

module _ {A : Type 0} (clash : A → A → Bool) where
  pub none_clashes : (x : A) → ((e : A) → clash x e ≡ false) → (es : List A) → clashes_any clash x es ≡ false
  unfolding clashes_any
  none_clashes x h [] = refl
  none_clashes x h (e ∷ es) = rw (h e) (none_clashes x h es)

  -- one earlier value more
  pub any_more : (x e : A) (es : List A) → clashes_any clash x (es ++ (e ∷ [])) ≡ cond (clashes_any clash x es) true (clash x e)
  unfolding clashes_any
  any_more x e [] = go (clash x e)
    where
      go : (b : Bool) → cond b true false ≡ b
      go true = refl
      go false = refl
  any_more x e (y ∷ es) = go (clash x y) (any_more x e es)
    where
      go : (b : Bool) → clashes_any clash x (es ++ (e ∷ [])) ≡ cond (clashes_any clash x es) true (clash x e)
          → cond b true (clashes_any clash x (es ++ (e ∷ []))) ≡ cond (cond b true (clashes_any clash x es)) true (clash x e)
      go true ih = refl
      go false ih = ih

module _ (kind : Repeat) (s : List ℕ) where
  abbrev stands : ℕ → ℕ → Type 0
  stands at p = (p ≡ at) × Room s at

  -- a header before the end of a row
  pub header-here : (ps : List ℕ) (at to : ℕ) → Headers kind s at ps to → at < to → Room s at × (at + step_at kind s at ≤ to)
  header-here ps at to h l =
      let x = row.first_in_row stands (step_at kind s) ps at to h l in
      (x.1.1, subst (λ (k : ℕ). at + step_at kind s k ≤ to) x.1.0 x.2)

  -- the fields from a place on, after those seen
  module _ (at : ℕ) (seen : List ℕ) where
    abbrev first_of : List ℕ → List ℕ → Option ℕ
    first_of earlier ps = first_clash (clash_at kind s) earlier (places ps)

    pub no_more : (ps : List ℕ) (to : ℕ) → Headers kind s at ps to → to ≤ at → first_of seen ps ≡ none
    unfolding first_clash places InRow
    no_more [] to h l = refl
    no_more (p ∷ ps) to h l = absurd (omega (arith, step_positive kind s p, row.row_le stands (step_at kind s) ps _ to h.1))

    pub stops : (ps : List ℕ) (to : ℕ) → Headers kind s at ps to → at < to → clashes_any (clash_at kind s) at seen ≡ true → first_of seen ps ≡ some at
    unfolding first_clash places InRow
    stops [] to h l e = absurd (omega arith)
    stops (p ∷ ps) to h l e = rw (h.0.0, e)
