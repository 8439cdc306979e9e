-- The look-up of a tactic's body against membership in the table's definitions. By induction over the definitions: the first one of that tactic is a
-- member, and where none is found every member has another tactic. Assumes nothing.
use mathlib.Core.Path.{◌≡◌, refl, ap, sym}
use mathlib.Core.Bool.{Bool, true, false, cond}
use mathlib.Core.Logic.{◌⊎◌, inl, inr, ◌↔◌}
use mathlib.Core.List.Memᴰ
use mathlib.Core.List.{List, [], ◌∷◌, Memᴰ}
use mathlib.Core.Option.{Option, none, some, none-ne-some}
use borrow.Author.Tests.{eqb-true, eqb-false}
use Rattle.format.specs.declared.values.TacticNo.{TacticNo}
use Rattle.format.specs.Terms.{Term}
use Rattle.tables.specs.Tables.{Definition, Table, Defines, UniqueDefinitions}
use Rattle.tables.specs.Lookup.{same_tactic, find_body_in, find_body}

-- Two tactics of one number are one tactic.
pub same_tactic_lem : (n m : TacticNo) → same_tactic n m ≡ true → n ≡ m
same_tactic_lem n m t = λ i. record { 0 = eqb-true n.0 m.0 t i }

member_in : (ds : List Definition) (n : TacticNo) (t : Term) → find_body_in ds n ≡ some t → Memᴰ (record { tactic = n; body = t }) ds
unfolding find_body_in
member_in [] n t e = absurd (none-ne-some t e)
member_in (d ∷ ds) n t e = go (same_tactic n d.tactic) refl e (member_in ds n t)
  where
    go : (x : Bool) → same_tactic n d.tactic ≡ x → cond x (some d.body) (find_body_in ds n) ≡ some t →
        (find_body_in ds n ≡ some t → Memᴰ (record { tactic = n; body = t }) ds) → Memᴰ (record { tactic = n; body = t }) (d ∷ ds)
    go true q b ih =
        let p : n ≡ d.tactic = same_tactic_lem n d.tactic q in
        let r : t ≡ d.body = cc in
        Memᴰ.head (λ i. record { tactic = p i; body = r i })
    go false q b ih = Memᴰ.tail (ih b)

missing_in : (ds : List Definition) (n : TacticNo) (t : Term) → find_body_in ds n ≡ none → Memᴰ (record { tactic = n; body = t }) ds → ⊥
unfolding find_body_in
missing_in [] n t e m = Memᴰ.not-nil m
missing_in (d ∷ ds) n t e m = go (same_tactic n d.tactic) refl e (Memᴰ.cases_cons m) (missing_in ds n t)
  where
    go : (x : Bool) → same_tactic n d.tactic ≡ x → cond x (some d.body) (find_body_in ds n) ≡ none →
        (record { tactic = n; body = t } ≡ d) ⊎ Memᴰ (record { tactic = n; body = t }) ds →
        (find_body_in ds n ≡ none → Memᴰ (record { tactic = n; body = t }) ds → ⊥) → ⊥
    go true q b c ih = none-ne-some d.body (sym b)
    go false q b (inl p) ih = eqb-false n.0 d.tactic.0 q (ap (λ (x : Definition). x.tactic.0) p)
    go false q b (inr m') ih = ih b m'

module _ (T : Table) (n : TacticNo) where
  -- What is found is a definition of the table.
  pub body_member : (t : Term) → find_body T n ≡ some t → Defines T n t
  unfolding find_body
  body_member = member_in T.definitions n

  -- NOT FOUND: exactly where the table has no definition of the tactic.
  pub missing↔no_definition : (find_body T n ≡ none) ↔ ((t : Term) → Defines T n t → ⊥)
  unfolding find_body
  missing↔no_definition = (λ e t. missing_in T.definitions n t e, λ lacks. go lacks (find_body T n) refl)
    where
      go : ((t : Term) → Defines T n t → ⊥) → (o : Option Term) → find_body T n ≡ o → o ≡ none
      go lacks none e = refl
      go lacks (some t) e = absurd (lacks t (body_member t e))

  -- FOUND: where no tactic has two bodies, the look-up gives t exactly where the table defines the tactic so.
  pub found↔definition : UniqueDefinitions T → (t : Term) → (find_body T n ≡ some t) ↔ Defines T n t
  found↔definition unique t = (body_member t, λ m. go m (find_body T n) refl)
    where
      go : Defines T n t → (o : Option Term) → find_body T n ≡ o → o ≡ some t
      go m none e = absurd (missing↔no_definition.0 e t m)
      go m (some u) e = ap some (unique n u t (body_member u e) m)
