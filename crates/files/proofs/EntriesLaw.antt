-- Reading entries: what is read stands there, a refusal lies between there and the file's end, any two bounds above the bytes left read the same, and entries that stand there within the limits are read: by induction over the bound or the entries.
-- Assumes nothing.
use mathlib.Core.Path.{◌≡◌, refl, sym, subst, ◌∙◌}
use mathlib.Core.Bool.{Bool, true, false, cond}
use mathlib.Core.List.{List, [], ◌∷◌}
use Prim.Native.Nat.{ℕ, zero, suc, ◌+◌, ◌-◌, ◌≤◌, ◌<◌}
use native.Mathlib.Omega.{arith}
use lib.Dec.{eqb, ltb}
use lib.ListN.{length, get_or}
use borrow.Author.Tests.{eqb-true, eqb-false, eq-eqb, ne_eqb, ltb-true, ltb-false, lt-ltb, le-ltb, leb-false, lt-leb}
use Rattle.words.specs.Word.{word}
use Rattle.format.specs.Limits.{most_uses, most_opens}
use Rattle.format.specs.Refusals.{number}
use Rattle.format.specs.Results.{Result, gives, refused, and_then}
use Rattle.format.specs.Values.{rule_name, goal}
use Rattle.format.specs.Tags.{rows, find_row, row_of, kind_of, least_of, most_of, inner_of, entry_kind}
use Rattle.format.specs.Next.{full_flat}
use Rattle.format.specs.Headers.{Header, header, header_at}
use Rattle.format.specs.Standing.{Head}
use Rattle.format.proofs.ResultLaws.{and_holds, and_same}
use Rattle.format.proofs.HeaderLaws.{is_field, field_at}
use Rattle.format.proofs.RefusedPlace.{Refusal, RefusedWithin, header_place}
use Rattle.files.specs.Derivations.{Entry, use_entry, open_entry, with_entry, entries_of, read_entries}
use Rattle.files.specs.Counts.{uses_in, opens_in}
use Rattle.files.specs.Standing.{EntriesStand}
use Rattle.files.proofs.FlatLaws.{use_head, open_head}

-- entries that were read from a place on, behind so many uses and opens
pub record Found (s : List ℕ) (at u o : ℕ) (es : List Entry) : Type 0 where
  pub stand : EntriesStand s at (length s) es
  pub few_uses : u ≤ most_uses → u + uses_in es ≤ most_uses
  pub few_opens : o ≤ most_opens → o + opens_in es ≤ most_opens

-- the same of whatever reading comes to
unfoldable EntriesLaw : List ℕ → (at u o : ℕ) → Result (List Entry) → Type 0
EntriesLaw s at u o (gives es) = Found s at u o es
EntriesLaw s at u o (refused c p) = Refusal at (length s) c p

not_full : (s : List ℕ) (at u o : ℕ) → full_flat s at u o ≡ false → (get_or s at 0 ≡ 32 → u < most_uses) × ((get_or s at 0 ≡ 32 → ⊥) → o < most_opens)
unfolding full_flat
not_full s at u o e = (λ t. leb-false most_uses u (rw (eq-eqb (get_or s at 0) 32 t) at e), λ t. leb-false most_opens o (rw (ne_eqb (get_or s at 0) 32 t) at e))

module _ (s : List ℕ) (at u o : ℕ) where
  with_use : Head s at 32 4 → u < most_uses → (x : Result (List Entry)) → EntriesLaw s (at + 7) (u + 1) o x → EntriesLaw s at u o (with_entry (use_entry (rule_name (word s (at + 3))) (goal (word s (at + 5)))) x)
  unfolding EntriesLaw EntriesStand with_entry and_then uses_in opens_in
  with_use h m (gives es) l = record { stand = (h, refl, refl, l.stand); few_uses = λ q. omega (arith, l.few_uses (omega arith)); few_opens = l.few_opens }
  with_use h m (refused c p) l = record { above = omega (arith, l.above); below = l.below; least = l.least; most = l.most }

  with_open : Head s at 33 2 → o < most_opens → (x : Result (List Entry)) → EntriesLaw s (at + 5) u (o + 1) x → EntriesLaw s at u o (with_entry (open_entry (goal (word s (at + 3)))) x)
  unfolding EntriesLaw EntriesStand with_entry and_then uses_in opens_in
  with_open h m (gives es) l = record { stand = (h, refl, l.stand); few_uses = l.few_uses; few_opens = λ q. omega (arith, l.few_opens (omega arith)) }
  with_open h m (refused c p) l = record { above = omega (arith, l.above); below = l.below; least = l.least; most = l.most }

  module _ (rec : ℕ → ℕ → ℕ → Result (List Entry)) (ih : (at u o : ℕ) → at ≤ length s → EntriesLaw s at u o (rec at u o)) where
    by_tag : (h : Header) → header_at s at (length s) entry_kind entry_kind (full_flat s at u o) ≡ gives h → EntriesLaw s at u o (entries_of rec s at u o h)
    unfolding entries_of
    by_tag h e = go (eqb h.tag 32) refl
      where
        room : (get_or s at 0 ≡ 32 → u < most_uses) × ((get_or s at 0 ≡ 32 → ⊥) → o < most_opens)
        room = not_full s at u o (is_field s at (length s) entry_kind entry_kind (full_flat s at u o) h.tag h.len e).room

        go : (b : Bool) → eqb h.tag 32 ≡ b → EntriesLaw s at u o (cond b (with_entry (use_entry (rule_name (word s (at + 3))) (goal (word s (at + 5)))) (rec (at + 7) (u + 1) o)) (with_entry (open_entry (goal (word s (at + 3)))) (rec (at + 5) u (o + 1))))
        go true t =
            let k = use_head s at (full_flat s at u o) h.tag h.len e (eqb-true _ _ t) in
            with_use k (room.0 k.tag_is) _ (ih (at + 7) (u + 1) o (omega (arith, k.inside)))
        go false t =
            let k = open_head s at (full_flat s at u o) h.tag h.len e (eqb-false _ _ t) in
            with_open k (room.1 (λ q. let z : ◌≡◌ {A = ℕ} 32 33 = sym q ∙ k.tag_is in omega arith)) _ (ih (at + 5) u (o + 1) (omega (arith, k.inside)))

    by_header : at ≤ length s → EntriesLaw s at u o (and_then (header_at s at (length s) entry_kind entry_kind (full_flat s at u o)) (entries_of rec s at u o))
    unfolding EntriesLaw RefusedWithin
    by_header l =
        and_holds (EntriesLaw s at u o) _ _ (λ c p e.
        let r : Refusal at at c p = subst (RefusedWithin at at) e (header_place s at (length s) entry_kind entry_kind (full_flat s at u o)) in
        record { above = r.above; below = omega (arith, r.below); least = r.least; most = r.most }) by_tag

entries_law : (b : ℕ) (s : List ℕ) (at u o : ℕ) → at ≤ length s → EntriesLaw s at u o (read_entries b s at u o)
unfolding EntriesLaw read_entries EntriesStand number uses_in opens_in
entries_law zero s at u o l = record { above = omega arith; below = l; least = omega arith; most = omega arith }
entries_law (suc b) s at u o l = go (ltb at (length s)) refl _ (by_header s at u o (read_entries b s) (entries_law b s) l)
  where
    go : (c : Bool) → ltb at (length s) ≡ c → (x : Result (List Entry)) → EntriesLaw s at u o x → EntriesLaw s at u o (cond c x (gives []))
    go true e x h = h
    go false e x h = record { stand = omega (arith, ltb-false at (length s) e); few_uses = λ q. omega arith; few_opens = λ q. omega arith }

pub entries_found : (b : ℕ) (s : List ℕ) (at u o : ℕ) → at ≤ length s → (es : List Entry) → read_entries b s at u o ≡ gives es → Found s at u o es
unfolding EntriesLaw
entries_found b s at u o l es e = subst (EntriesLaw s at u o) e (entries_law b s at u o l)

pub entries_place_lem : (b : ℕ) (s : List ℕ) (at u o : ℕ) → at ≤ length s → RefusedWithin at (length s) (read_entries b s at u o)
unfolding EntriesLaw RefusedWithin
entries_place_lem b s at u o l = go (read_entries b s at u o) (entries_law b s at u o l)
  where
    go : (x : Result (List Entry)) → EntriesLaw s at u o x → RefusedWithin at (length s) x
    go (gives es) h = tt
    go (refused c p) h = h

-- any bound above the bytes left reads the same entries
pub same_bound : (b c : ℕ) (s : List ℕ) (at u o : ℕ) → length s - at < b → length s - at < c → read_entries b s at u o ≡ read_entries c s at u o
unfolding read_entries
same_bound zero c s at u o h k = absurd (omega arith)
same_bound (suc b) zero s at u o h k = absurd (omega arith)
same_bound (suc b) (suc c) s at u o h k = go (ltb at (length s)) refl (λ at' u' o' l m. same_bound b c s at' u' o' (omega arith) (omega arith))
  where
    after : ((at' u' o' : ℕ) → at < at' → at < length s → read_entries b s at' u' o' ≡ read_entries c s at' u' o') → at < length s → (h : Header) → entries_of (read_entries b s) s at u o h ≡ entries_of (read_entries c s) s at u o h
    after ih l h = unfold entries_of in rw (ih (at + 7) (u + 1) o (omega arith) l, ih (at + 5) u (o + 1) (omega arith) l)

    go : (t : Bool) → ltb at (length s) ≡ t → ((at' u' o' : ℕ) → at < at' → at < length s → read_entries b s at' u' o' ≡ read_entries c s at' u' o')
        → cond t (and_then (header_at s at (length s) entry_kind entry_kind (full_flat s at u o)) (entries_of (read_entries b s) s at u o)) (gives []) ≡ cond t (and_then (header_at s at (length s) entry_kind entry_kind (full_flat s at u o)) (entries_of (read_entries c s) s at u o)) (gives [])
    go true e ih = and_same _ _ _ _ refl (λ h q. after ih (ltb-true at (length s) e) h)
    go false e ih = refl

-- the header of an entry that stands there
module _ (s : List ℕ) (at u o : ℕ) where
  use_is : Head s at 32 4 → u < most_uses → header_at s at (length s) entry_kind entry_kind (full_flat s at u o) ≡ gives (header 32 4)
  unfolding full_flat kind_of least_of most_of inner_of row_of rows find_row
  use_is h m = field_at s at (length s) entry_kind entry_kind (full_flat s at u o) 32 4 h.tag_is h.length_is h.inside (omega arith) (omega arith) (rw (eq-eqb (get_or s at 0) 32 h.tag_is) (lt-leb most_uses u m)) (omega arith) (omega arith) (λ z. refl)

  open_is : Head s at 33 2 → o < most_opens → header_at s at (length s) entry_kind entry_kind (full_flat s at u o) ≡ gives (header 33 2)
  unfolding full_flat kind_of least_of most_of inner_of row_of rows find_row
  open_is h m =
      field_at s at (length s) entry_kind entry_kind (full_flat s at u o) 33 2 h.tag_is h.length_is h.inside (omega arith) (omega arith)
      (rw (ne_eqb (get_or s at 0) 32 (λ q. let z : ◌≡◌ {A = ℕ} 32 33 = sym q ∙ h.tag_is in omega arith)) (lt-leb most_opens o m)) (omega arith) (omega arith) (λ z. refl)

-- entries that stand there, within the limits, are read
pub entries_read : (es : List Entry) (b : ℕ) (s : List ℕ) (at u o : ℕ) → EntriesStand s at (length s) es → u + uses_in es ≤ most_uses → o + opens_in es ≤ most_opens → length es < b → read_entries b s at u o ≡ gives es
unfolding EntriesStand read_entries and_then entries_of with_entry uses_in opens_in
entries_read [] zero s at u o st m n l = absurd (omega arith)
entries_read [] (suc b) s at u o st m n l = rw (le-ltb at (length s) (omega arith))
entries_read (use_entry a γ ∷ es) zero s at u o st m n l = absurd (omega arith)
entries_read (use_entry a γ ∷ es) (suc b) s at u o st m n l =
    rw (lt-ltb at (length s) (omega (arith, st.0.inside)), use_is s at u o st.0 (omega arith), entries_read es b s (at + 7) (u + 1) o st.3 (omega arith) n (omega arith))
    (λ i. gives (use_entry (rule_name (st.1 i)) (goal (st.2 i)) ∷ es))
entries_read (open_entry γ ∷ es) zero s at u o st m n l = absurd (omega arith)
entries_read (open_entry γ ∷ es) (suc b) s at u o st m n l =
    rw (lt-ltb at (length s) (omega (arith, st.0.inside)), open_is s at u o st.0 (omega arith), entries_read es b s (at + 5) u (o + 1) st.2 m (omega arith) (omega arith))
    (λ i. gives (open_entry (goal (st.1 i)) ∷ es))
