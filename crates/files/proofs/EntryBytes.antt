-- Entries of a file and their bytes: where entries stand their bytes lie, and the other way round: by induction over the entries.
-- Assumes nothing.
use mathlib.Core.Path.{◌≡◌, refl, sym, subst, ap, ◌∙◌}
use mathlib.Core.List.{List, [], ◌∷◌, ◌++◌, append_assoc}
use Prim.Native.Nat.{ℕ, ◌+◌, ◌*◌}
use native.Mathlib.Omega.{arith}
use lib.ListN.{length, drop}
use Rattle.format.specs.Encoding.{Bytes, word_bytes}
use Rattle.format.proofs.FieldBytes.{value_bytes, field_bytes_lem, value_lies, field_lies}
use Rattle.format.proofs.GoalBytes.{word_value}
use Rattle.format.proofs.EncodedBytes.{nil_bytes, append_bytes, word_bytes_lem, field_is_bytes}
use Rattle.files.specs.Derivations.{Entry, use_entry, open_entry, entry_bytes, entries_bytes}
use Rattle.files.specs.Counts.{uses_in, opens_in}
use Rattle.files.specs.Standing.{EntriesStand}
use Rattle.files.specs.Within.{EntryValues}

pub length-entries_bytes : (es : List Entry) → length (entries_bytes es) ≡ uses_in es * 7 + opens_in es * 5
unfolding entries_bytes entry_bytes uses_in opens_in
length-entries_bytes [] = refl
length-entries_bytes (use_entry a γ ∷ es) = omega (arith, length-entries_bytes es)
length-entries_bytes (open_entry γ ∷ es) = omega (arith, length-entries_bytes es)

pub count_entries : (es : List Entry) → length es ≡ uses_in es + opens_in es
unfolding uses_in opens_in
count_entries [] = refl
count_entries (use_entry a γ ∷ es) = omega (arith, count_entries es)
count_entries (open_entry γ ∷ es) = omega (arith, count_entries es)

-- the encoding of values of 16 bits is a list of bytes
pub entries_are_bytes : (es : List Entry) → EntryValues es → Bytes (entries_bytes es)
unfolding EntryValues entries_bytes entry_bytes
entries_are_bytes [] v = nil_bytes
entries_are_bytes (use_entry a γ ∷ es) v =
    append_bytes (entry_bytes (use_entry a γ)) (entries_bytes es)
    (field_is_bytes 32 (word_bytes a.0 ++ word_bytes γ.0) (omega arith) (omega arith) (append_bytes (word_bytes a.0) (word_bytes γ.0) (word_bytes_lem a.0 v.0) (word_bytes_lem γ.0 v.1)))
    (entries_are_bytes es v.2)
entries_are_bytes (open_entry γ ∷ es) v = append_bytes (entry_bytes (open_entry γ)) (entries_bytes es) (field_is_bytes 33 (word_bytes γ.0) (omega arith) (omega arith) (word_bytes_lem γ.0 v.0)) (entries_are_bytes es v.1)

module _ (s : List ℕ) where
  -- where they end
  pub entries_end : (es : List Entry) (at end : ℕ) → EntriesStand s at end es → end ≡ at + uses_in es * 7 + opens_in es * 5
  unfolding EntriesStand uses_in opens_in
  entries_end [] at end st = omega arith
  entries_end (use_entry a γ ∷ es) at end st = omega (arith, entries_end es (at + 7) end st.3)
  entries_end (open_entry γ ∷ es) at end st = omega (arith, entries_end es (at + 5) end st.2)

  -- the next value or entry begins where the one in front of it ends
  behind : (at k j : ℕ) (x l : List ℕ) → drop at s ≡ x ++ drop k s → k ≡ j → drop j s ≡ l → drop at s ≡ x ++ l
  behind at k j x l e q r = e ∙ ap (λ (m : List ℕ). x ++ m) (subst (λ (i : ℕ). drop i s ≡ l) (sym q) r)

  -- an entry's bytes, then those of the entries behind it
  before : (e : Entry) (at k j end : ℕ) (es : List Entry) → drop at s ≡ entry_bytes e ++ drop k s → k ≡ j → drop j s ≡ entries_bytes es ++ drop end s → drop at s ≡ entries_bytes (e ∷ es) ++ drop end s
  unfolding entries_bytes
  before e at k j end es p q r = behind at k j (entry_bytes e) (entries_bytes es ++ drop end s) p q r ∙ sym (append_assoc (entry_bytes e) (entries_bytes es) (drop end s))

  pub entries_bytes_lem : Bytes s → (es : List Entry) (at end : ℕ) → EntriesStand s at end es → drop at s ≡ entries_bytes es ++ drop end s
  unfolding EntriesStand entries_bytes entry_bytes
  entries_bytes_lem bytes [] at end st = ap (λ (i : ℕ). drop i s) st
  entries_bytes_lem bytes (use_entry a γ ∷ es) at end st =
      let second = behind (at + 5) (at + 5 + 2) (at + 3 + 4) (word_bytes γ.0) (drop (at + 3 + 4) s) (value_bytes s bytes (at + 5) γ.0 st.2 (omega (arith, st.0.inside))) (omega arith) refl in
      let both = behind (at + 3) (at + 3 + 2) (at + 5) (word_bytes a.0) (word_bytes γ.0 ++ drop (at + 3 + 4) s) (value_bytes s bytes (at + 3) a.0 st.1 (omega (arith, st.0.inside))) (omega arith) second in
      before (use_entry a γ) at (at + 3 + 4) (at + 7) end es (field_bytes_lem s bytes at 32 4 (word_bytes a.0 ++ word_bytes γ.0) st.0 refl both) (omega arith) (entries_bytes_lem bytes es (at + 7) end st.3)
  entries_bytes_lem bytes (open_entry γ ∷ es) at end st =
      before (open_entry γ) at (at + 3 + 2) (at + 5) end es (field_bytes_lem s bytes at 33 2 (word_bytes γ.0) st.0 refl (value_bytes s bytes (at + 3) γ.0 st.1 (omega (arith, st.0.inside)))) (omega arith) (entries_bytes_lem bytes es (at + 5) end st.2)

  pub entry_values : Bytes s → (es : List Entry) (at end : ℕ) → EntriesStand s at end es → EntryValues es
  unfolding EntriesStand EntryValues
  entry_values bytes [] at end st = tt
  entry_values bytes (use_entry a γ ∷ es) at end st = (omega (arith, word_value s bytes (at + 3), st.1), omega (arith, word_value s bytes (at + 5), st.2), entry_values bytes es (at + 7) end st.3)
  entry_values bytes (open_entry γ ∷ es) at end st = (omega (arith, word_value s bytes (at + 3), st.1), entry_values bytes es (at + 5) end st.2)

  moved : (i j : ℕ) (l : List ℕ) → i ≡ j → drop i s ≡ l → drop j s ≡ l
  moved i j l q e = subst (λ (k : ℕ). drop k s ≡ l) q e

  pub entries_lie : (es : List Entry) (at end : ℕ) (r : List ℕ) → end ≡ at + uses_in es * 7 + opens_in es * 5 → EntryValues es → drop at s ≡ entries_bytes es ++ r → EntriesStand s at end es
  unfolding EntriesStand EntryValues entries_bytes entry_bytes uses_in opens_in
  entries_lie [] at end r n v e = omega arith
  entries_lie (use_entry a γ ∷ es) at end r n v e =
      let rest = entries_bytes es ++ r in
      let x = field_lies s at 32 4 (word_bytes a.0 ++ word_bytes γ.0) rest refl (omega arith) (e ∙ append_assoc (entry_bytes (use_entry a γ)) (entries_bytes es) r) in
      let y = value_lies s (at + 3) a.0 (word_bytes γ.0 ++ rest) v.0 x.1 in
      let z = value_lies s (at + 5) γ.0 rest v.1 (moved (at + 3 + 2) (at + 5) _ (omega arith) y.1) in
      (x.0, y.0, z.0, entries_lie es (at + 7) end r (omega arith) v.2 (moved (at + 5 + 2) (at + 7) _ (omega arith) z.1))
  entries_lie (open_entry γ ∷ es) at end r n v e =
      let rest = entries_bytes es ++ r in
      let x = field_lies s at 33 2 (word_bytes γ.0) rest refl (omega arith) (e ∙ append_assoc (entry_bytes (open_entry γ)) (entries_bytes es) r) in
      let y = value_lies s (at + 3) γ.0 rest v.0 x.1 in
      (x.0, y.0, entries_lie es (at + 5) end r (omega arith) v.1 (moved (at + 3 + 2) (at + 5) _ (omega arith) y.1))
