-- A flat file through the one loop: from each state that it reaches on, reading comes to the same, and nothing is written: by the parts of the file.
-- Assumes nothing.
use mathlib.Core.Path.{◌≡◌, refl, sym, ap, subst, ◌∙◌}
use Rattle.std.specs.Prelude.{Ok, Err}
use mathlib.Core.Bool.{Bool, true, false, cond}
use mathlib.Core.List.{List}
use Prim.Native.Nat.{ℕ, suc, ◌+◌, ◌≤◌, ◌<◌}
use native.Mathlib.Omega.{arith}
use lib.Dec.{eqb, leb}
use lib.ListN.{length}
use borrow.Author.Tests.{eqb-true, eqb-false, leb-true}
use Rattle.std.specs.Prelude as std
use Rattle.format.specs.declared.headers.Header as read
use Rattle.format.specs.declared.refusals.Refusal.{Refusal}
use Rattle.format.specs.Tags.{entry_kind}
use Rattle.format.specs.Next.{full_flat}
use Rattle.format.specs.Headers.{header_at}
use Rattle.format.specs.Shapes.{header_shape}
use Rattle.format.proofs.HeaderLaws.{told-field}
use Rattle.parts.specs.declared.state.Mode.TheVariants as M
use Rattle.parts.specs.declared.state.Part.{Part}
use Rattle.parts.specs.declared.state.Part.TheVariants as P
use Rattle.parts.specs.declared.state.State.{State}
use Rattle.parts.specs.States.{cause_of, by_part, is_term, asking, refusal_of, counted, next_of, next_entry, entry_taken, behind_list, taken, begun_file}
use Rattle.parts.proofs.AskLaws.{asks_entry}
use Rattle.reading.specs.Reading.{Reading, header_of, Step, Reaches}
use Rattle.reading.proofs.ReachLaws.{holds_on}
use Rattle.reading.proofs.StepCases.{field_step}
use Rattle.files.specs.declared.flats.FlatParts.{FlatParts}
use Rattle.files.specs.Derivations.{read_entries, read_flat}
use Rattle.files.specs.Shapes.{flat_shape, told_flat}
use Rattle.files.proofs.ListSteps.{stated, ListStep, stops, reads, First, Begins, long, first, begins, first_step}
use Rattle.files.proofs.FlatLaws.{entries_told, at_end, turn_refused, turn_use, turn_open, roots_refused, roots_read}
use Rattle.files.proofs.EntriesLaw.{same_bound}

-- what is chosen by the part where entries are read
entries_chosen : {A : Type 0} (p : Part) (e f l t : A) → p ≡ P.Entries → by_part p e f l t ≡ e
entries_chosen p e f l t h = rw h

module _ (s : List ℕ) where
  abbrev whole : std.Result FlatParts Refusal
  whole = flat_shape (read_flat s)

  -- what the code tells of the file, once the entries up to a place are counted
  abbrev entries_from : State → (at : ℕ) → std.Result FlatParts Refusal
  entries_from x at = entries_told x.goals x.from x.first x.second (read_entries (suc (length s)) s at x.first x.second)

  -- where the reading of a flat file stands: it was refused, at its roots, at an entry or at the end
  data FlatState (x : State) : Type 0 where
    was_refused : x.mode ≡ M.Refused → whole ≡ Err (refusal_of x) → FlatState x
    at_roots : First s P.Roots x → FlatState x
    at_entries : x.mode ≡ M.Reads → x.part ≡ P.Entries → whole ≡ entries_from x x.at → FlatState x
    all_read : x.mode ≡ M.Gave → length s ≤ x.at → whole ≡ entries_from x x.at → FlatState x

  -- the next entry, or the end of the file
  next : (y : State) (at : ℕ) → whole ≡ entries_from y at → FlatState (next_entry s y at)
  unfolding next_of
  next y at e = go (leb (length s) at) refl
    where
      go : (b : Bool) → leb (length s) at ≡ b → FlatState (cond b (asking y M.Gave P.Entries at (length s)) (asking y M.Reads P.Entries at (length s)))
      go true t = all_read refl (leb-true (length s) at t) e
      go false t = at_entries refl refl e

  -- an entry
  module _ (x : State) (inside : x.at < length s) (e : whole ≡ entries_from x x.at) where
    abbrev head : std.Result read.Header Refusal
    head = header_shape (header_at s x.at (length s) entry_kind entry_kind (full_flat s x.at x.first x.second))

    counts : (tag len : ℕ) → head ≡ Ok (record { tag = tag; len = len }) → FlatState (entry_taken s x tag (x.at + 3 + len))
    unfolding entry_taken
    counts tag len q = go (eqb tag 32) refl
      where
        same : (u o : ℕ) → read_entries (length s) s (x.at + 3 + len) u o ≡ read_entries (suc (length s)) s (x.at + 3 + len) u o
        same u o = same_bound (length s) (suc (length s)) s (x.at + 3 + len) u o (omega (arith, inside)) (omega arith)

        go : (b : Bool) → eqb tag 32 ≡ b
            → FlatState (cond b (next_entry s (counted x x.goals (x.first + 1) x.second x.from x.rest x.field) (x.at + 3 + len)) (next_entry s (counted x x.goals x.first (x.second + 1) x.from x.rest x.field) (x.at + 3 + len)))
        go true t =
            next _ _
            (e ∙ turn_use x.goals x.from s (length s) x.at x.first x.second tag len inside (told-field _ tag len q) (eqb-true tag 32 t)
            ∙ ap (entries_told x.goals x.from (x.first + 1) x.second) (same (x.first + 1) x.second))
        go false t =
            next _ _
            (e ∙ turn_open x.goals x.from s (length s) x.at x.first x.second tag len inside (told-field _ tag len q) (eqb-false tag 32 t)
            ∙ ap (entries_told x.goals x.from x.first (x.second + 1)) (same x.first (x.second + 1)))

    from_header : x.part ≡ P.Entries → (h : std.Result read.Header Refusal) → head ≡ h → FlatState (taken s x h)
    unfolding taken
    from_header p (Err r) q = was_refused refl (e ∙ turn_refused x.goals x.from s (length s) x.at x.first x.second r.cause r.place inside q)
    from_header p (Ok h) q = subst FlatState (sym (entries_chosen x.part _ _ _ _ p)) (counts h.tag h.len q)

  -- the roots
  behind_roots : (x : State) → First s P.Roots x → (y : State) → ListStep s x (stated s) y → FlatState y
  unfolding behind_list
  behind_roots x f y (stops m e) = was_refused m (roots_refused s (cause_of y.why) y.place e)
  behind_roots x f y (reads n close e q) =
      rw (q, f.part_is)
      (next _ close (roots_read s n close e ∙ rw (f.none_counted.1, f.none_counted.2)))

  -- one turn
  turn : (w : List ℕ) (base : ℕ) (x : State) (w' : List ℕ) (y : State) → Reading s w base x → x.mode ≡ M.Reads → Step s w base x w' y → FlatState x → (w' ≡ w) × FlatState y
  unfolding header_of
  turn w base x w' y h m step (was_refused z e) = cc
  turn w base x w' y h m step (at_roots f) =
      let l = first_step s w base P.Roots refl x h f w' y step in
      (l.0, behind_roots x f y l.1)
  turn w base x w' y h m step (at_entries i p e) =
      let o : is_term x.part ≡ false = rw p refl in
      let f = field_step s w base x w' y step o in
      let a = asks_entry s x p in
      let l = h.entries p m in
      let q : header_of s x ≡ head x l e = λ i. header_shape (header_at s x.at ((h.outside o).1 i) (a.0 i) (a.1 i) (a.2 i)) in
      (f.0, subst FlatState (sym f.1) (from_header x l e p (header_of s x) (sym q)))
  turn w base x w' y h m step (all_read z l e) = cc

  -- the beginning
  begun : FlatState (begun_file s P.Roots)
  begun = go (begins s P.Roots)
    where
      go : Begins s P.Roots (begun_file s P.Roots) → FlatState (begun_file s P.Roots)
      go (long m e) = was_refused m (roots_refused s _ _ e)
      go (first f) = at_roots f

  -- what is told where nothing is left to read
  over : (x : State) → (x.mode ≡ M.Reads → ⊥) → FlatState x → whole ≡ told_flat x
  over x n (was_refused m e) = e ∙ rw m
  over x n (at_roots f) = absurd (n f.mode_is)
  over x n (at_entries m p e) = absurd (n m)
  over x n (all_read m l e) = rw m (e ∙ at_end x.goals x.from s (length s) x.at x.first x.second l)

  -- the whole file
  pub flat_told : (w : List ℕ) (base : ℕ) → Reading s w base (begun_file s P.Roots) → (w' : List ℕ) (y : State) → Reaches s base w (begun_file s P.Roots) w' y → (y.mode ≡ M.Reads → ⊥) → (told_flat y ≡ flat_shape (read_flat s)) × (w' ≡ w)
  flat_told w base h w' y r o =
      let all = holds_on s base (λ v z. (v ≡ w) × FlatState z) (λ v z v' z' k m step p. let t = turn v base z v' z' k m step p.1 in (t.0 ∙ p.0, t.1)) w _ h (refl, begun) w' y r in
      (sym (over y o all.1), all.0)
