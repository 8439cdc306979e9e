-- Reading a flat file, by what the code tells of its roots and of each entry's header: one law for each.
-- Assumes nothing.
use Rattle.std.specs.Prelude.{Ok}
use Rattle.std.specs.Prelude as std
use mathlib.Core.Path.{◌≡◌, refl, sym, ap, ◌∙◌}
use mathlib.Core.Bool.{Bool}
use mathlib.Core.List.{List}
use Prim.Native.Nat.{ℕ, suc, ◌+◌, ◌*◌, ◌≤◌, ◌<◌}
use native.Mathlib.Nat.{add-zero}
use native.Mathlib.Omega.{arith}
use lib.ListN.{length}
use borrow.Author.Tests.{lt-ltb, le-ltb, eq-eqb, ne_eqb}
use Rattle.format.specs.declared.values.RuleName.{RuleName}
use Rattle.format.specs.declared.values.Goal.{Goal}
use Rattle.format.specs.declared.headers.Header as read
use Rattle.format.specs.declared.refusals.Cause.{Cause}
use Rattle.format.specs.declared.refusals.Refusal.{Refusal}
use Rattle.format.specs.GoalsRead as G
use Rattle.format.specs.Results.{Result, gives, refused, and_then, told, refused_at}
use Rattle.format.specs.Inputs.{of_size}
use Rattle.format.specs.Tags.{rows, find_row, row_of, kind_of, least_of, most_of, entry_kind}
use Rattle.format.specs.Next.{full_flat}
use Rattle.format.specs.Headers.{header, header_at}
use Rattle.format.specs.Goals.{read_goals}
use Rattle.format.specs.Shapes.{header_shape, goals_shape}
use Rattle.format.specs.Standing.{Head}
use Rattle.format.proofs.TermTags.{tags_between, no_more, ◌&◌, found_tag}
use Rattle.format.proofs.HeaderLaws.{is_field}
use Rattle.files.specs.declared.flats.FlatParts.{FlatParts}
use Rattle.files.specs.Derivations.{Entry, use_entry, open_entry, Derivation, with_entry, entries_of, read_entries, derivation_of, read_flat, entries_place}
use Rattle.files.specs.Counts.{uses_in, opens_in}
use Rattle.files.specs.Shapes.{flat_parts, flat_parts_of, flat_shape}
use Rattle.files.proofs.ToldLaws.{Pair, answers_tell, first_refused, first_read, goals_tell, goals_kept, of_size_and, stated_end}
use Rattle.files.proofs.ListSteps.{stated}

-- what the code tells of a derivation
abbrev parts : Derivation → std.Result FlatParts Refusal
parts d = Ok (flat_parts_of d)

-- a number whose kind is that of an entry is the tag 32 or the tag 33
entry_tag : (t : ℕ) → entry_kind ≤ kind_of t → kind_of t ≤ entry_kind → (t ≡ 32 → ⊥) → t ≡ 33
unfolding rows tags_between
entry_tag t l h = found_tag (λ k. (k ≡ 32 → ⊥) → k ≡ 33) entry_kind entry_kind (omega arith) ((λ n. absurd (n refl)) & (λ n. refl) & no_more) t l h

-- the header of an entry, by its tag
module _ (s : List ℕ) (at : ℕ) (b : Bool) (tag len : ℕ) (e : header_at s at (length s) entry_kind entry_kind b ≡ gives (header tag len)) where
  fixed : (t l : ℕ) → tag ≡ t → least_of t ≡ l → most_of t ≡ l → Head s at t l
  fixed t l q a z =
      let f = is_field s at (length s) entry_kind entry_kind b tag len e in
      let low : least_of t ≤ len = rw q at f.least in
      let top : len ≤ most_of t = rw q at f.most in
      let same : len ≡ l = omega (arith, low, top, a, z) in
      record { tag_is = sym f.the_tag ∙ q; length_is = sym f.the_length ∙ same; inside = omega (arith, f.contents, same) }

  pub use_head : tag ≡ 32 → Head s at 32 4
  unfolding least_of most_of row_of rows find_row
  use_head q = fixed 32 4 q refl refl

  pub open_head : (tag ≡ 32 → ⊥) → Head s at 33 2
  unfolding least_of most_of row_of rows find_row
  open_head q =
      let f = is_field s at (length s) entry_kind entry_kind b tag len e in
      fixed 33 2 (entry_tag tag f.above f.below q) refl refl

  -- where the next entry begins
  behind_use : tag ≡ 32 → at + 3 + len ≡ at + 7
  behind_use q = omega (arith, (is_field s at (length s) entry_kind entry_kind b tag len e).the_length, (use_head q).length_is)

  behind_open : (tag ≡ 32 → ⊥) → at + 3 + len ≡ at + 5
  behind_open q = omega (arith, (is_field s at (length s) entry_kind entry_kind b tag len e).the_length, (open_head q).length_is)

-- what the code tells of a file whose entries from some place on come to this: it has so many roots, the first entry stands at a place, and so many uses and opens stand in front
unfoldable pub entries_told : (roots first uses opens : ℕ) → Result (List Entry) → std.Result FlatParts Refusal
entries_told n a u o x = told refused_at (λ es. Ok (flat_parts n a (u + uses_in es) (o + opens_in es))) x

module _ (n a : ℕ) where
  -- an entry counts once, whether before or behind it
  with_use : (α : RuleName) (γ : Goal) (u o : ℕ) (x : Result (List Entry)) → entries_told n a u o (with_entry (use_entry α γ) x) ≡ entries_told n a (u + 1) o x
  unfolding entries_told told with_entry and_then uses_in opens_in
  with_use α γ u o (gives es) = ap (λ (k : ℕ). Ok (flat_parts n a k (o + opens_in es))) (omega arith)
  with_use α γ u o (refused c p) = refl

  with_open : (γ : Goal) (u o : ℕ) (x : Result (List Entry)) → entries_told n a u o (with_entry (open_entry γ) x) ≡ entries_told n a u (o + 1) x
  unfolding entries_told told with_entry and_then uses_in opens_in
  with_open γ u o (gives es) = ap (λ (k : ℕ). Ok (flat_parts n a (u + uses_in es) k)) (omega arith)
  with_open γ u o (refused c p) = refl

  module _ (s : List ℕ) (f at u o : ℕ) where
    -- none is left
    pub at_end : length s ≤ at → entries_told n a u o (read_entries (suc f) s at u o) ≡ Ok (flat_parts n a u o)
    unfolding read_entries entries_told told uses_in opens_in
    at_end e = rw (le-ltb at (length s) e) (λ i. Ok (flat_parts n a (add-zero u i) (add-zero o i)))

    step : at < length s → read_entries (suc f) s at u o ≡ and_then (header_at s at (length s) entry_kind entry_kind (full_flat s at u o)) (entries_of (read_entries f s) s at u o)
    unfolding read_entries
    step l = rw (lt-ltb at (length s) l)

    -- the next one is refused, a use, an open
    pub turn_refused : (k : Cause) (p : ℕ) → at < length s → header_shape (header_at s at (length s) entry_kind entry_kind (full_flat s at u o)) ≡ refused_at k p → entries_told n a u o (read_entries (suc f) s at u o) ≡ refused_at k p
    unfolding entries_told header_shape
    turn_refused k p l e = rw (step l) (first_refused (answers_tell {Q = read.Header}) (λ g. record { tag = g.tag; len = g.len }) refused_at (λ es. Ok (flat_parts n a (u + uses_in es) (o + opens_in es))) (entries_of (read_entries f s) s at u o) _ k p e)

    module _ (tag len : ℕ) (l : at < length s) (e : header_at s at (length s) entry_kind entry_kind (full_flat s at u o) ≡ gives (header tag len)) where
      pub turn_use : tag ≡ 32 → entries_told n a u o (read_entries (suc f) s at u o) ≡ entries_told n a (u + 1) o (read_entries f s (at + 3 + len) (u + 1) o)
      unfolding and_then entries_of
      turn_use t = rw (step l, e, eq-eqb tag 32 t, behind_use s at _ tag len e t) (with_use _ _ u o _)

      pub turn_open : (tag ≡ 32 → ⊥) → entries_told n a u o (read_entries (suc f) s at u o) ≡ entries_told n a u (o + 1) (read_entries f s (at + 3 + len) u (o + 1))
      unfolding and_then entries_of
      turn_open t = rw (step l, e, ne_eqb tag 32 t, behind_open s at _ tag len e t) (with_open _ u o _)

-- behind the roots
behind_roots : (g : List Goal) (x : Result (List Entry)) → flat_shape (and_then x (λ es. gives (record { roots = g; entries = es }))) ≡ entries_told (length g) (3 + length g * 2) 0 0 x
unfolding flat_shape entries_told told and_then flat_parts_of entries_place
behind_roots g (gives es) =
    let u : uses_in es ≡ 0 + uses_in es = omega arith in
    let o : opens_in es ≡ 0 + opens_in es = omega arith in
    λ i. Ok (flat_parts (length g) (3 + length g * 2) (u i) (o i))
behind_roots g (refused c p) = refl

module _ (s : List ℕ) where
  flat_steps : read_flat s ≡ and_then (of_size s (read_goals s 0 (length s))) (derivation_of s)
  unfolding read_flat
  flat_steps = of_size_and s (read_goals s 0 (length s)) (derivation_of s)

  pub roots_refused : (k : Cause) (p : ℕ) → stated s ≡ G.Refused k p → flat_shape (read_flat s) ≡ refused_at k p
  unfolding flat_shape goals_shape
  roots_refused k p e = rw flat_steps (first_refused goals_tell goals_kept refused_at parts (derivation_of s) _ k p e)

  -- n roots are stated, and behind them, at `to`, stands the first entry
  pub roots_read : (n to : ℕ) → stated s ≡ G.Read n to → flat_shape (read_flat s) ≡ entries_told n to 0 0 (read_entries (suc (length s)) s to 0 0)
  unfolding flat_shape goals_shape derivation_of
  roots_read n to e =
      let place = (stated_end s n to e).0 in
      rw flat_steps
      (first_read goals_tell goals_kept refused_at parts (derivation_of s) _ (n, to) _ e (λ g given kept.
      let count : length g.goals ≡ n = ap (λ (q : Pair). q.0) kept in
      let next : g.next ≡ to = ap (λ (q : Pair). q.1) kept in
      let first : 3 + length g.goals * 2 ≡ to = omega (arith, count, place) in
      let bound : length s + 1 ≡ suc (length s) = omega arith in
      behind_roots g.goals _ ∙ (λ i. entries_told (count i) (first i) 0 0 (read_entries (bound i) s (next i) 0 0))))
