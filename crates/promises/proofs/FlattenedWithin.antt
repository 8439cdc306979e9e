-- Values of 16 bits: a derivation by a table's rules has them if its roots and the rules do, and a term keeps them without its labels; and how much shorter that makes it. By induction over `Derives` and the term.
-- Assumes nothing.
use Prim.Native.Nat.{ℕ, ◌+◌, ◌*◌, ◌<◌}
use native.Mathlib.Omega.{arith}
use mathlib.Core.Path.{◌≡◌, refl, sym, subst}
use mathlib.Core.Logic.{◌⊎◌, inl, inr}
use mathlib.Core.List.Memᴰ
use mathlib.Core.List.{List, [], ◌∷◌, ◌++◌, Memᴰ}
use Rattle.format.specs.declared.values.Goal.{Goal}
use Rattle.format.specs.Encoding.{GoalValues, TermValues}
use Rattle.format.specs.Terms.{Term, atomic, id, label, sequence, tensor, empty, alternation, assert, defined, size, fields}
use Rattle.tables.specs.Tables.{Table, HasRule}
use Rattle.tables.specs.Within.{RuleWithin, Every}
use Rattle.files.specs.Derivations.{Entry}
use Rattle.files.specs.Within.{EntryValues}
use Rattle.hitac.specs.Derives.{Derives, D-End, D-Open, D-Use}
use Rattle.hitac.specs.Hiproofs.{drop_labels}

-- what holds of every value of a list holds of a member
pub every_member : {A : Type 0} (P : A → Type 0) (xs : List A) → Every P xs → (y : A) → Memᴰ y xs → P y
unfolding Every
every_member P [] e y m = absurd (Memᴰ.not-nil m)
every_member P (x ∷ xs) e y m = go (every_member P xs e.1 y) (Memᴰ.cases_cons m)
  where
    go : (Memᴰ y xs → P y) → (y ≡ x) ⊎ Memᴰ y xs → P y
    go f (inl q) = subst P (sym q) e.0
    go f (inr n) = f n

pub joined_values_lem : (g h : List Goal) → GoalValues g → GoalValues h → GoalValues (g ++ h)
unfolding GoalValues
joined_values_lem [] h v w = w
joined_values_lem (γ ∷ g) h v w = (v.0, joined_values_lem g h v.1 w)

pub derived_values : (T : Table) → Every RuleWithin T.rules → {g k : List Goal} {es : List Entry} → Derives (HasRule T) g es k → GoalValues g → EntryValues es
unfolding GoalValues EntryValues
derived_values T e D-End v = tt
derived_values T e (D-Open d) v = (v.0, derived_values T e d v.1)
derived_values T e (D-Use {g = g} {h = h} m d) v =
    let r = every_member RuleWithin T.rules e _ m in
    (r.name_value, r.goal_value, derived_values T e d (joined_values_lem h g r.premise_values v.1))

pub plain_values : (s : Term) → TermValues s → TermValues (drop_labels s)
unfolding TermValues drop_labels
plain_values (atomic a) v = v
plain_values id v = tt
plain_values (label l s) v = plain_values s v.1
plain_values (sequence s t) v = (plain_values s v.0, plain_values t v.1)
plain_values (tensor s t) v = (plain_values s v.0, plain_values t v.1)
plain_values empty v = tt
plain_values (alternation s t) v = (plain_values s v.0, plain_values t v.1)
plain_values (assert γ) v = v
plain_values (defined n) v = v

-- a label is a field of five bytes
pub five_each : (s : Term) → size (drop_labels s) + fields s * 5 ≡ size s + fields (drop_labels s) * 5
unfolding drop_labels size fields
five_each (atomic a) = refl
five_each id = refl
five_each (label l s) = omega (arith, five_each s)
five_each (sequence s t) = omega (arith, five_each s, five_each t)
five_each (tensor s t) = omega (arith, five_each s, five_each t)
five_each empty = refl
five_each (alternation s t) = omega (arith, five_each s, five_each t)
five_each (assert γ) = refl
five_each (defined n) = refl
