-- READING A DERIVATION: a file of bytes reads as a derivation exactly if it is the derivation's bytes and the derivation is within the limits. What stands in the file is the encoding; and roots and entries are read from theirs.
-- Assumes nothing.
use mathlib.Core.Path.{◌≡◌, refl, sym, ap, ◌∙◌}
use mathlib.Core.Logic.{◌↔◌}
use mathlib.Core.List.{List, [], ◌++◌, append-nil}
use Prim.Native.Nat.{ℕ, ◌+◌, ◌*◌, ◌≤◌}
use native.Mathlib.Omega.{arith}
use lib.ListN.{length}
use lib.Seq.{drop-length}
use Rattle.format.specs.Results.{gives, and_then}
use Rattle.format.specs.Encoding.{Bytes, goal_list_bytes}
use Rattle.format.proofs.GoalListBytes.{list_bytes}
use Rattle.format.proofs.EncodedBytes.{append_bytes, list_is_bytes}
use Rattle.files.specs.Derivations.{Derivation, derivation_of, read_flat, entries_bytes, flat_bytes, entries_place}
use Rattle.files.specs.Counts.{uses_in, opens_in}
use Rattle.files.specs.Standing.{EntriesStand, FlatStands}
use Rattle.files.specs.Within.{FlatWithin}
use Rattle.files.proofs.EntriesLaw.{entries_read}
use Rattle.files.proofs.EntryBytes.{count_entries, entries_are_bytes, entries_bytes_lem, entry_values, entries_lie}
use Rattle.files.proofs.Files.{begins}
use Rattle.files.proofs.WhatStands.{flat_stands}
use Rattle.files.proofs.Sizes.{length-flat_bytes, flat_most}

module _ (s : List ℕ) (bytes : Bytes s) (d : Derivation) where
  abbrev es : List ℕ
  es = entries_bytes d.entries

  pub flat_encoded : FlatStands s d → (s ≡ flat_bytes d) × FlatWithin d
  unfolding flat_bytes entries_place
  flat_encoded st =
      let roots = list_bytes s bytes 0 d.roots st.roots_stand.head st.roots_stand.goals_are in (
        roots.0 ∙ ap (λ (l : List ℕ). goal_list_bytes d.roots ++ l) (entries_bytes_lem s bytes d.entries (entries_place d) (length s) st.entries_stand ∙ ap (λ (l : List ℕ). es ++ l) (drop-length s) ∙ append-nil es),
        record {
          few_roots = st.roots_stand.few;
          root_values = roots.1;
          few_uses = st.few_uses;
          few_opens = st.few_opens;
          entry_values = entry_values s bytes d.entries (entries_place d) (length s) st.entries_stand;
        },
      )

  pub flat_decoded : s ≡ flat_bytes d → FlatWithin d → read_flat s ≡ gives d
  unfolding read_flat derivation_of and_then flat_bytes entries_place
  flat_decoded e w =
      let at = 3 + length d.roots * 2 in
      let all : length s ≡ at + uses_in d.entries * 7 + opens_in d.entries * 5 = ap length e ∙ length-flat_bytes d in
      let most : length s ≤ 30467 = rw e (flat_most d w) in
      let b = begins s (derivation_of s) d.roots es w.root_values w.few_roots (omega arith) e in
      let st : EntriesStand s at (length s) d.entries = entries_lie s d.entries at (length s) [] all w.entry_values (b.1 ∙ sym (append-nil es)) in
      b.0 ∙ rw (entries_read d.entries (length s + 1) s at 0 0 st (omega (arith, w.few_uses)) (omega (arith, w.few_opens)) (omega (arith, all, count_entries d.entries)))

pub reads_flat : (s : List ℕ) (d : Derivation) → Bytes s → (read_flat s ≡ gives d) ↔ ((s ≡ flat_bytes d) × FlatWithin d)
reads_flat s d bytes = (λ e. flat_encoded s bytes d (flat_stands s d e), λ q. flat_decoded s bytes d q.0 q.1)

-- encoding, then reading, gives the derivation back
pub flat_back : (d : Derivation) → FlatWithin d → read_flat (flat_bytes d) ≡ gives d
flat_back d w = (reads_flat (flat_bytes d) d bytes).1 (refl, w)
  where
    bytes : Bytes (flat_bytes d)
    bytes = unfold flat_bytes in append_bytes (goal_list_bytes d.roots) (entries_bytes d.entries) (list_is_bytes d.roots w.root_values (omega (arith, w.few_roots))) (entries_are_bytes d.entries w.entry_values)
