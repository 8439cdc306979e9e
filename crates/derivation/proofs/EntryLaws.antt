-- One step of the walk over entries, by whether the first entry carries the first pending goal and what its rule is. By the cases of the pending goals and of the entry.
-- Assumes nothing.
use mathlib.Core.Path.{◌≡◌, refl, sym, ◌∙◌}
use mathlib.Core.Bool.{true, false, false≢true}
use mathlib.Core.Option.{none, some}
use mathlib.Core.List.{List, [], ◌∷◌, ◌++◌}
use Prim.Native.Nat.{ℕ, ◌+◌, ◌<◌}
use native.Mathlib.Omega.{arith}
use lib.ListN.{get_or, drop}
use borrow.Author.Tests.{eq-eqb, ne_eqb}
use Rattle.words.specs.Word.{word}
use Rattle.format.specs.declared.values.RuleName.{RuleName}
use Rattle.format.specs.declared.values.Goal.{Goal}
use Rattle.format.specs.declared.refusals.Cause.TheVariants.{EntryWrong}
use Rattle.format.specs.Results.{refused, and_then}
use Rattle.format.specs.Values.{goal}
use Rattle.tables.specs.Tables.{Table}
use Rattle.tables.specs.Lookup.{found_rule, find_rule}
use Rattle.files.specs.Derivations.{Entry, use_entry, open_entry}
use Rattle.files.specs.Standing.{EntriesStand}
use Rattle.hitac.specs.Walk.{premises_or}
use Rattle.hitac.specs.FlatWalk.{flat_walk}
use Rattle.derivation.specs.Pending.{carries_first}
use Rattle.derivation.specs.Walks.{EntryInside, carried_goal}

-- the goal of an entry
abbrev pub entry_goal : Entry → Goal
entry_goal (use_entry a γ) = γ
entry_goal (open_entry γ) = γ

module _ (T : Table) (p : ℕ) where
  -- another goal than the first, or none pending
  pub stops_other : (g : List Goal) (e : Entry) (es : List Entry) → carries_first (entry_goal e) g ≡ false → flat_walk T p g (e ∷ es) ≡ refused EntryWrong p
  unfolding flat_walk carries_first
  stops_other [] (use_entry a γ) es t = refl
  stops_other [] (open_entry γ) es t = refl
  stops_other (δ ∷ g) (use_entry a γ) es t = rw t
  stops_other (δ ∷ g) (open_entry γ) es t = rw t

  -- an open removes the first
  pub steps_open : (g : List Goal) (γ : Goal) (es : List Entry) → carries_first γ g ≡ true → flat_walk T p g (open_entry γ ∷ es) ≡ flat_walk T (p + 5) (drop 1 g) es
  unfolding flat_walk carries_first
  steps_open [] γ es t = absurd (false≢true t)
  steps_open (δ ∷ g) γ es t = rw t

  -- a use without its rule
  pub stops_missing : (g : List Goal) (a : RuleName) (γ : Goal) (es : List Entry) → carries_first γ g ≡ true → find_rule T a γ ≡ none → flat_walk T p g (use_entry a γ ∷ es) ≡ refused EntryWrong p
  unfolding flat_walk carries_first and_then premises_or
  stops_missing [] a γ es t f = refl
  stops_missing (δ ∷ g) a γ es t f = rw (t, f)

  -- a use puts the premises in its place, in front
  pub steps_use : (g : List Goal) (a : RuleName) (γ : Goal) (n : ℕ) (h : List Goal) (es : List Entry) → carries_first γ g ≡ true → find_rule T a γ ≡ some (found_rule n h)
      → flat_walk T p g (use_entry a γ ∷ es) ≡ flat_walk T (p + 7) (h ++ drop 1 g) es
  unfolding flat_walk carries_first and_then premises_or
  steps_use [] a γ n h es t f = absurd (false≢true t)
  steps_use (δ ∷ g) a γ n h es t f = rw (t, f)

-- an entry of those that stand from a place on
pub record FirstEntry (s : List ℕ) (at : ℕ) (es : List Entry) : Type 0 where
  pub entry : Entry
  pub others : List Entry
  pub all_are : es ≡ entry ∷ others
  pub goal_is : carried_goal s at ≡ entry_goal entry
  pub inside : EntryInside s at

pub first_entry_lem : (s : List ℕ) (at end : ℕ) (es : List Entry) → EntriesStand s at end es → at < end → FirstEntry s at es
unfolding EntriesStand carried_goal
first_entry_lem s at end [] st l = absurd (omega arith)
first_entry_lem s at end (use_entry a γ ∷ es) st l = record {
  entry = use_entry a γ;
  others = es;
  all_are = refl;
  goal_is = rw (eq-eqb (get_or s at 0) 32 st.0.tag_is) (λ i. record { 0 = st.2 i });
  inside = record { some_entry = omega (arith, st.0.inside); some_use = λ _. omega (arith, st.0.inside) };
}
first_entry_lem s at end (open_entry γ ∷ es) st l = record {
  entry = open_entry γ;
  others = es;
  all_are = refl;
  goal_is = rw (ne_eqb (get_or s at 0) 32 (λ e. let z : ◌≡◌ {A = ℕ} 32 33 = sym e ∙ st.0.tag_is in omega arith)) (λ i. record { 0 = st.1 i });
  inside = record { some_entry = omega (arith, st.0.inside); some_use = λ e. absurd (let z : ◌≡◌ {A = ℕ} 32 33 = sym e ∙ st.0.tag_is in omega arith) };
}

-- the goal of an entry, by its tag
pub use_goal : (s : List ℕ) (at : ℕ) → get_or s at 0 ≡ 32 → carried_goal s at ≡ goal (word s (at + 5))
unfolding carried_goal
use_goal s at t = rw (eq-eqb (get_or s at 0) 32 t)

pub open_goal : (s : List ℕ) (at : ℕ) → (get_or s at 0 ≡ 32 → ⊥) → carried_goal s at ≡ goal (word s (at + 3))
unfolding carried_goal
open_goal s at t = rw (ne_eqb (get_or s at 0) 32 t)

pub as_told : (γ : Goal) (v : ℕ) → γ.0 ≡ v → γ ≡ goal v
as_told γ v e = λ i. record { 0 = e i }
