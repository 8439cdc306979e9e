-- Two members of a list of which every two, one before the other, agree are one and the same: by induction over the list. So a table without 6 has no two rules of one name and goal, and one without 8 no tactic with two bodies.
-- Assumes nothing.
use mathlib.Core.Path.{◌≡◌, refl, sym, ap, ◌∙◌}
use mathlib.Core.Logic.{◌⊎◌, inl, inr}
use mathlib.Core.List.Memᴰ
use mathlib.Core.List.{List, [], ◌∷◌, ◌++◌, Memᴰ}
use Rattle.tables.specs.Tables.{Rule, Definition, Table, UniqueRules, UniqueDefinitions}
use Rattle.tables.specs.Within.{Pairs}
use Rattle.tables.proofs.Clashes.{Six}

module _ {A : Type 0} where
  -- the place of a member
  member_at : (l : List A) (u : A) → Memᴰ u l → (a b : List A) × (l ≡ a ++ (u ∷ b))
  member_at [] u m = absurd (Memᴰ.not-nil m)
  member_at (x ∷ l) u m = go (member_at l u) (Memᴰ.cases_cons m)
    where
      go : (Memᴰ u l → (a b : List A) × (l ≡ a ++ (u ∷ b))) → (u ≡ x) ⊎ Memᴰ u l → (a b : List A) × (x ∷ l ≡ a ++ (u ∷ b))
      go ih (inl e) = ([], l, ap {B = List A} (λ y. y ∷ l) (sym e))
      go ih (inr n) = let s = ih n in (x ∷ s.0, s.1, ap {B = List A} (λ r. x ∷ r) s.2)

  module _ (P : A → A → Type 0) (u v : A) (apart : P u v → u ≡ v) (other : P v u → u ≡ v) where
    one : (l : List A) → Pairs P l → Memᴰ u l → Memᴰ v l → u ≡ v
    one [] h m n = absurd (Memᴰ.not-nil m)
    one (x ∷ l) h m n = go (one l (λ a b c y z e. h (x ∷ a) b c y z (ap {B = List A} (λ r. x ∷ r) e))) (Memᴰ.cases_cons m) (Memᴰ.cases_cons n)
      where
        go : (Memᴰ u l → Memᴰ v l → u ≡ v) → (u ≡ x) ⊎ Memᴰ u l → (v ≡ x) ⊎ Memᴰ v l → u ≡ v
        go ih (inl e) (inl f) = e ∙ sym f
        go ih (inl e) (inr k) = let s = member_at l v k in apart (rw e (h [] s.0 s.1 x v (ap {B = List A} (λ r. x ∷ r) s.2)))
        go ih (inr k) (inl f) = let s = member_at l u k in other (rw f (h [] s.0 s.1 x u (ap {B = List A} (λ r. x ∷ r) s.2)))
        go ih (inr j) (inr k) = ih j k

pub unique_rules : (T : Table) → Pairs Six T.rules → UniqueRules T
unique_rules T h a γ g k m n =
    ap (λ (r : Rule). r.premises) (one Six (record { name = a; goal = γ; premises = g }) (record { name = a; goal = γ; premises = k }) (λ p. absurd (p refl refl)) (λ p. absurd (p refl refl)) T.rules h m n)

pub unique_definitions : (T : Table) → Pairs (λ x y. x.tactic ≡ y.tactic → ⊥) T.definitions → UniqueDefinitions T
unique_definitions T h n t u m k =
    ap (λ (d : Definition). d.body) (one (λ x y. x.tactic ≡ y.tactic → ⊥) (record { tactic = n; body = t }) (record { tactic = n; body = u }) (λ p. absurd (p refl)) (λ p. absurd (p refl)) T.definitions h m k)
