-- The headers of each search in a table that stands: how many they are, and what each of them has.
-- Assumes nothing.
use mathlib.Core.Path.{◌≡◌, refl}
use mathlib.Core.Logic.{inl, inr}
use mathlib.Core.List.{List, [], ◌∷◌}
use Prim.Native.Nat.{ℕ, ◌+◌, ◌≤◌}
use native.Mathlib.Omega.{arith}
use lib.ListN.{length}
use Rattle.tables.specs.declared.repeats.Repeat.{Repeat}
use Rattle.tables.specs.declared.repeats.Repeat.TheVariants as K
use Rattle.tables.specs.Tables.{Rule, Definition, Table}
use Rattle.tables.specs.Repeats.{Placed, rule_size, definition_size, placed_rules, placed_tactics}
use Rattle.tables.specs.Standing.{RuleStands, TableStands}
use Rattle.tables.specs.Within.{Every}
use Rattle.tables.specs.Search.{searched_tag, Headers}
use Rattle.tables.proofs.RunLaws as run
use Rattle.tables.proofs.RunLaws.{Values}
use Rattle.tables.proofs.RepeatLaws.{by_goal, by_count, rules_run, tactics_run, labels_run}
use Rattle.index.specs.Keys.{Tagged}
use Rattle.seen.specs.Seen.{Marked, Markable}
use Rattle.seen.proofs.SeenLaws.{mark_nine, mark_seven}

-- a fact of every header, by what it carries; there are as many headers as values
module _ {A : Type 0} (Holds : ℕ → A → Type 0) (Silent : ℕ → Type 0) where
  every_header : (P : ℕ → Type 0) → ((p : ℕ) (a : A) → Holds p a → P p) → ((p : ℕ) → Silent p → P p) → {ps : List ℕ} {xs : List (Placed A)} → Values Holds Silent ps xs → Every P ps
  unfolding Every
  every_header P f g run.Values.no_value = tt
  every_header P f g (run.Values.value {p = p} {a = a} h v) = (f p a h, every_header P f g v)
  every_header P f g (run.Values.other {p = p} h v) = (g p h, every_header P f g v)

  as_many : ((p : ℕ) → Silent p → ⊥) → {ps : List ℕ} {xs : List (Placed A)} → Values Holds Silent ps xs → length ps ≡ length xs
  as_many g run.Values.no_value = refl
  as_many g (run.Values.value h v) = omega (arith, as_many g v)
  as_many g (run.Values.other {p = p} h v) = absurd (g p h)

rules_many : (at : ℕ) (rs : List Rule) → length (placed_rules at rs) ≡ length rs
unfolding placed_rules
rules_many at [] = refl
rules_many at (r ∷ rs) = omega (arith, rules_many (at + rule_size r) rs)

tactics_many : (at : ℕ) (ds : List Definition) → length (placed_tactics at ds) ≡ length ds
unfolding placed_tactics
tactics_many at [] = refl
tactics_many at (d ∷ ds) = omega (arith, tactics_many (at + definition_size d) ds)

-- a rule has 0 to 8 premises, so its mark for 7 is 2 to 10; for 9 every mark is 1
rule_marked : (s : List ℕ) (p : ℕ) (r : Rule) → RuleStands s p r → Marked K.PremiseCount s p
rule_marked s p r st =
    let m = mark_seven K.PremiseCount s p (λ e. cc) in
    record {
      some = omega (arith, m, st.head.length_is);
      fits = omega (arith, m, st.head.length_is, st.few);
      says = inr (refl, omega (arith, m, st.head.length_is));
    }

label_marked : (s : List ℕ) (p : ℕ) → Marked K.Label s p
label_marked s p = let m = mark_nine K.Label s p refl in record { some = omega (arith, m); fits = omega (arith, m); says = inl refl }

module _ (s : List ℕ) (first : ℕ) (T : Table) (st : TableStands s first T) where
  -- for 6 and 8: each has the tag searched, and there are no more than there is room for
  abbrev pub Few : (kind : Repeat) (from to most : ℕ) → Type 0
  Few kind from to most = (ps : List ℕ) × Headers kind s from ps to × Every (Tagged kind s) ps × (length ps ≤ most)

  pub few_rules : Few K.Rule 0 first (length T.rules)
  unfolding searched_tag
  few_rules =
      let r = rules_run s K.Rule by_goal T.rules 0 first st.rules_stand in
      (r.at, r.headers, every_header _ _ (Tagged K.Rule s) (λ p a h. h.head.tag_is) (λ p z. absurd z) r.values, omega (arith, as_many _ _ (λ p z. z) r.values, rules_many 0 T.rules))

  pub few_definitions : Few K.Tactic first (length s) (length T.definitions)
  few_definitions =
      let r = tactics_run s T.definitions first (length s) st.definitions_stand in
      (r.at, r.headers, every_header _ _ (Tagged K.Tactic s) (λ p a h. h.0) (λ p z. absurd z) r.values, omega (arith, as_many _ _ (λ p z. z) r.values, tactics_many first T.definitions))

  -- for 7 and 9: each has a mark
  abbrev pub AllMarkable : (kind : Repeat) (from to : ℕ) → Type 0
  AllMarkable kind from to = (ps : List ℕ) × Headers kind s from ps to × Every (Markable kind s) ps

  pub rules_markable : AllMarkable K.PremiseCount 0 first
  rules_markable =
      let r = rules_run s K.PremiseCount by_count T.rules 0 first st.rules_stand in
      (r.at, r.headers, every_header _ _ (Markable K.PremiseCount s) (λ p a h t. rule_marked s p a h) (λ p z. absurd z) r.values)

  pub labels_markable : AllMarkable K.Label first (length s)
  labels_markable =
      let r = labels_run s T.definitions first (length s) st.definitions_stand in
      (r.at, r.headers, every_header _ _ (Markable K.Label s) (λ p a h t. label_marked s p) (λ p z t. label_marked s p) r.values)
