-- Laws of entries that stand in a file: by the tag of the first, and by its cases.
-- Assumes nothing.
use mathlib.Core.Path.{◌≡◌, refl, sym, subst}
use mathlib.Core.List.{List, [], ◌∷◌, ◌++◌}
use Prim.Native.Nat.{ℕ, ◌+◌, ◌≤◌, ◌<◌}
use native.Mathlib.Omega.{arith}
use lib.ListN.{length, get_or}
use Rattle.words.specs.Word.{word}
use Rattle.format.specs.Values.{rule_name, goal}
use Rattle.files.specs.Derivations.{Entry, use_entry, open_entry}
use Rattle.files.specs.Standing.{EntriesStand}
use Rattle.files.proofs.EntryBytes.{entries_end}

-- the first entry of those that stand from a place on, and the others
pub record First (s : List ℕ) (end : ℕ) (es : List Entry) (e : Entry) (next : ℕ) : Type 0 where
  pub others : List Entry
  pub all_are : es ≡ e ∷ others
  pub others_stand : EntriesStand s next end others
  pub inside : next ≤ length s
  pub ahead : next ≤ end

module _ (s : List ℕ) (at end : ℕ) where
  pub none_left : (es : List Entry) → EntriesStand s at end es → end ≤ at → es ≡ []
  unfolding EntriesStand
  none_left [] st h = refl
  none_left (use_entry a γ ∷ es) st h = absurd (omega (arith, h, entries_end s es (at + 7) end st.3))
  none_left (open_entry γ ∷ es) st h = absurd (omega (arith, h, entries_end s es (at + 5) end st.2))

  pub first_use : (es : List Entry) → EntriesStand s at end es → at < end → get_or s at 0 ≡ 32 → First s end es (use_entry (rule_name (word s (at + 3))) (goal (word s (at + 5)))) (at + 7)
  unfolding EntriesStand
  first_use [] st h t = absurd (omega arith)
  first_use (use_entry a γ ∷ es) st h t = record {
    others = es;
    all_are = λ i. use_entry (rule_name (sym st.1 i)) (goal (sym st.2 i)) ∷ es;
    others_stand = st.3;
    inside = omega (arith, st.0.inside);
    ahead = omega (arith, entries_end s es (at + 7) end st.3);
  }
  first_use (open_entry γ ∷ es) st h t = absurd (omega (arith, t, st.0.tag_is))

  pub first_open : (es : List Entry) → EntriesStand s at end es → at < end → (get_or s at 0 ≡ 32 → ⊥) → First s end es (open_entry (goal (word s (at + 3)))) (at + 5)
  unfolding EntriesStand
  first_open [] st h t = absurd (omega arith)
  first_open (use_entry a γ ∷ es) st h t = absurd (t st.0.tag_is)
  first_open (open_entry γ ∷ es) st h t = record {
    others = es;
    all_are = λ i. open_entry (goal (sym st.1 i)) ∷ es;
    others_stand = st.2;
    inside = omega (arith, st.0.inside);
    ahead = omega (arith, entries_end s es (at + 5) end st.2);
  }

-- entries that stand together stand apart, up to some place between them
pub stand_apart : (s : List ℕ) (es fs : List Entry) (at end : ℕ) → EntriesStand s at end (es ++ fs) → (mid : ℕ) × EntriesStand s at mid es × EntriesStand s mid end fs
unfolding EntriesStand
stand_apart s [] fs at end st = (at, refl, st)
stand_apart s (use_entry a γ ∷ es) fs at end st = let r = stand_apart s es fs (at + 7) end st.3 in (r.0, (st.0, st.1, st.2, r.1), r.2)
stand_apart s (open_entry γ ∷ es) fs at end st = let r = stand_apart s es fs (at + 5) end st.2 in (r.0, (st.0, st.1, r.1), r.2)

pub stand_together : (s : List ℕ) (es fs : List Entry) (at mid end : ℕ) → EntriesStand s at mid es → EntriesStand s mid end fs → EntriesStand s at end (es ++ fs)
unfolding EntriesStand
stand_together s [] fs at mid end st r = subst (λ (i : ℕ). EntriesStand s i end fs) (sym st) r
stand_together s (use_entry a γ ∷ es) fs at mid end st r = (st.0, st.1, st.2, stand_together s es fs (at + 7) mid end st.3 r)
stand_together s (open_entry γ ∷ es) fs at mid end st r = (st.0, st.1, stand_together s es fs (at + 5) mid end st.2 r)
