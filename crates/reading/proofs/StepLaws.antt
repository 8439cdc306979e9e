-- A turn of the reading keeps what holds all along, and something falls: a law for each return of `reading::turn`.
-- Assumes nothing.
use mathlib.Core.Path.{◌≡◌, refl, sym, ap, subst, ◌∙◌}
use mathlib.Core.Bool.{Bool, true, false, cond}
use mathlib.Core.List.{List}
use mathlib.Core.Logic.{inl}
use Prim.Native.Nat.{ℕ, ◌+◌, ◌*◌, ◌-◌, ◌/◌, ◌≤◌, ◌<◌}
use native.Mathlib.Omega.{arith}
use lib.Dec.{eqb, leb, ltb}
use lib.ListN.{length}
use borrow.Author.Tests.{leb-false}
use Rattle.words.proofs.KeptLaws.{kept_same}
use Rattle.std.specs.Prelude.{Ok, Err}
use Rattle.std.specs.Prelude as std
use Rattle.format.specs.declared.headers.Header as read
use Rattle.format.specs.declared.refusals.Refusal.{Refusal}
use Rattle.format.specs.declared.refusals.Cause.{Cause}
use Rattle.format.specs.declared.refusals.Cause.TheVariants.{LengthWrong, LimitPassed}
use Rattle.format.specs.Limits.{most_goals}
use Rattle.format.proofs.HeaderLaws.{IsField, is_field, told-field}
use Rattle.format.proofs.TableTags.{table_tag, lowest_least, two_bytes}
use Rattle.parts.specs.declared.state.Mode.{Mode}
use Rattle.parts.specs.declared.state.Mode.TheVariants as M
use Rattle.parts.specs.declared.state.Part.{Part}
use Rattle.parts.specs.declared.state.Part.TheVariants as P
use Rattle.parts.specs.declared.state.State.{State}
use Rattle.parts.specs.States.{by_mode, by_part, is_term, is_list, low_of, high_of, full_of, refusing, asking, counted, next_of, next_field, next_entry, table_field, entry_taken, remaining_taken, behind_list, list_taken, taken, end_of, behind_body, behind_job, behind_hiproof, behind_part, behind_term}
use Rattle.parts.proofs.PartLaws.{list_outside}
use Rattle.parts.specs.Reader.{Encloses}
use Rattle.parts.proofs.ReaderLaws.{encloses}
use Rattle.parts.proofs.AskLaws.{asks_field, asks_term}
use Rattle.reading.specs.Waiting.{reading_room, Waits, Going, weight, Enters, Turned}
use Rattle.reading.specs.Reading.{Reading, header_of, settled, field, term, Step}
use Rattle.reading.proofs.TurnLaws.{inside}

module _ (s w : List ℕ) (base : ℕ) (room : base + reading_room ≤ length w) where
  -- where nothing waits
  bare_going : (y : State) → y.depth ≡ 0 → y.at ≤ y.end → y.end ≤ length s → y.top ≡ y.at → Going s w base y
  unfolding Waits
  bare_going y d o e t = record {
    ordered = o;
    waits = subst (λ (k : ℕ). Waits s w base y.top y.end k) (sym d) e;
    few = omega (arith, d);
    most = omega (arith, d);
    behind = omega (arith, t);
    near = λ z. inl (sym t);
    room = room;
  }

  -- what is left where a field begins at a place
  abbrev Fresh : (at : ℕ) → State → Type 0
  Fresh at r = Reading s w base r × (weight s r ≤ (length s - at) * 2 + 2)

  light : (m : Mode) → by_mode m 0 1 2 ≤ 2
  light M.Refused = omega arith
  light M.Reads = omega arith
  light M.Gave = omega arith

  -- a body is a term
  no_body : {B : Type 0} {p : Part} → is_term p ≡ false → p ≡ P.Body → B
  no_body o e = let z : true ≡ false = rw e at o in cc

  -- the next field of a table, the next entry, a goal list, a term
  module _ (x : State) (at : ℕ) (d : x.depth ≡ 0) (a : x.first ≤ at) (b : x.second ≤ at) where
    fresh : (mode : Mode) (part : Part) (end : ℕ) → at ≤ end → end ≤ length s → (is_term part ≡ false → end ≡ length s) → (part ≡ P.Body → (end_of s x.field ≤ length s) × (x.second < at))
        → (part ≡ P.Entries → mode ≡ M.Reads → at < length s) → (part ≡ P.Fields → mode ≡ M.Reads → at < length s) → Fresh at (asking x mode part at end)
    unfolding weight
    fresh mode part end o e whole f in-entries in-fields = (
      record {
        going = bare_going _ d o e refl;
        counts = (a, b);
        outside = λ z. (d, whole z);
        body = f;
        entries = in-entries;
        fields = in-fields;
      },
      omega (arith, d, light mode),
    )

    pub fresh_next : (part : Part) → is_term part ≡ false → at ≤ length s → Fresh at (next_of s x part at)
    unfolding next_of
    fresh_next part p l = go (leb (length s) at) refl
      where
        go : (t : Bool) → leb (length s) at ≡ t → Fresh at (cond t (asking x M.Gave part at (length s)) (asking x M.Reads part at (length s)))
        go true e = fresh M.Gave part (length s) l (omega arith) (λ z. refl) (λ z. no_body p z) (λ z n. cc) (λ z n. cc)
        go false e = fresh M.Reads part (length s) l (omega arith) (λ z. refl) (λ z. no_body p z) (λ z n. leb-false (length s) at e) (λ z n. leb-false (length s) at e)

    pub fresh_list : (part : Part) → is_list part ≡ true → at ≤ length s → Fresh at (asking x M.Reads part at (length s))
    fresh_list part p l =
        fresh M.Reads part (length s) l (omega arith) (λ z. refl) (λ z. no_body (list_outside part p) z) (λ z. let q : false ≡ true = rw z at p in cc) (λ z. let q : false ≡ true = rw z at p in cc)

    pub fresh_term : (part : Part) (end : ℕ) → is_term part ≡ true → at ≤ end → end ≤ length s → (part ≡ P.Body → (end_of s x.field ≤ length s) × (x.second < at)) → Fresh at (asking x M.Reads part at end)
    fresh_term part end p o e f = fresh M.Reads part end o e (λ z. cc) f (λ z. let q : false ≡ true = rw z at p in cc) (λ z. let q : false ≡ true = rw z at p in cc)

-- a refusal
pub refused_reading : (s w : List ℕ) (base : ℕ) (x : State) (k : Cause) (p : ℕ) → Reading s w base x → Reading s w base (refusing x k p)
refused_reading s w base x k p r = let g = r.going in record {
  going = record { ordered = g.ordered; waits = g.waits; few = g.few; most = g.most; behind = g.behind; near = λ z. cc; room = g.room };
  counts = r.counts;
  outside = r.outside;
  body = r.body;
  entries = λ z n. cc;
  fields = λ z n. cc;
}

pub header_encloses : (s : List ℕ) (x : State) (h : std.Result read.Header Refusal) → h ≡ header_of s x → Encloses x.at x.end h
unfolding header_of
header_encloses s x h e = subst (Encloses x.at x.end) (sym e) (encloses s x.at x.end (low_of x) (high_of x.part) (full_of s x))

-- a field outside terms
module _ (s w : List ℕ) (base : ℕ) (x : State) (r : Reading s w base x) (m : x.mode ≡ M.Reads) (o : is_term x.part ≡ false) where
  -- what the turn keeps, and what falls
  abbrev Good : State → Type 0
  Good y = Reading s w base y × (weight s y < weight s x)

  none_waits : x.depth ≡ 0
  none_waits = (r.outside o).0

  whole_file : x.end ≡ length s
  whole_file = (r.outside o).1

  from_fresh : (at : ℕ) (y : State) → x.at + 3 ≤ at → at ≤ length s → Fresh s w base r.going.room at y → Good y
  unfolding weight
  from_fresh at y l e f = (f.0, rw m (omega (arith, f.1, none_waits)))

  refused_good : (k : Cause) (p : ℕ) → Good (refusing x k p)
  unfolding weight
  refused_good k p = (refused_reading s w base x k p r, rw m (omega arith))

  module _ (tag len : ℕ) (F : IsField s x.at x.end (low_of x) (high_of x.part) (full_of s x) tag len) where
    abbrev close : ℕ
    close = x.at + 3 + len

    closes : close ≤ length s
    closes = omega (arith, F.contents, whole_file)

    field_good : x.part ≡ P.Fields → Good (table_field s x tag close)
    unfolding table_field end_of
    field_good p = go (eqb tag 1)
      where
        two : 2 ≤ len
        two = let f = asks_field s x p in omega (arith, F.least, two_bytes (table_tag tag (omega (arith, F.above, f.0, lowest_least x.second)) (omega (arith, F.below, f.1))))

        go : (t : Bool) → Good (cond t (next_field s (counted x x.goals (x.first + 1) x.second close x.rest x.field) close) (asking (counted x x.goals x.first x.second x.from x.rest x.at) M.Reads P.Body (x.at + 5) close))
        go true = from_fresh close _ (omega arith) closes (fresh_next s w base r.going.room (counted x x.goals (x.first + 1) x.second close x.rest x.field) close none_waits (omega (arith, r.counts)) (omega (arith, r.counts)) P.Fields refl closes)
        go false =
            from_fresh (x.at + 5) _ (omega arith) (omega (arith, two, closes))
            (fresh_term s w base r.going.room (counted x x.goals x.first x.second x.from x.rest x.at) (x.at + 5) none_waits (omega (arith, r.counts)) (omega (arith, r.counts)) P.Body close refl (omega (arith, two)) closes (λ z. (omega (arith, F.the_length, closes), omega (arith, r.counts))))

    entry_good : Good (entry_taken s x tag close)
    unfolding entry_taken
    entry_good = go (eqb tag 32)
      where
        go : (t : Bool) → Good (cond t (next_entry s (counted x x.goals (x.first + 1) x.second x.from x.rest x.field) close) (next_entry s (counted x x.goals x.first (x.second + 1) x.from x.rest x.field) close))
        go true = from_fresh close _ (omega arith) closes (fresh_next s w base r.going.room _ close none_waits (omega (arith, r.counts)) (omega (arith, r.counts)) P.Entries refl closes)
        go false = from_fresh close _ (omega arith) closes (fresh_next s w base r.going.room _ close none_waits (omega (arith, r.counts)) (omega (arith, r.counts)) P.Entries refl closes)

    remaining_good : (n : ℕ) → n ≤ close → Good (remaining_taken x n close)
    unfolding remaining_taken weight
    remaining_good n h = go (eqb close x.end) refl
      where
        go : (t : Bool) → eqb close x.end ≡ t → Good (cond t (asking (counted x x.goals x.first n x.from x.rest x.field) M.Gave x.part close x.end) (refusing x LengthWrong close))
        go true e = (
          record {
            going = bare_going s w base r.going.room _ none_waits F.contents (omega (arith, whole_file)) refl;
            counts = (omega (arith, r.counts), h);
            outside = λ z. (none_waits, whole_file);
            body = λ z. let q : true ≡ false = rw z at o in cc;
            entries = λ z k. cc;
            fields = λ z k. cc;
          },
          rw m (omega (arith, none_waits, closes)),
        )
        go false e = refused_good _ _

    -- the first list of a file, and what comes behind it
    module _ (n : ℕ) where
      abbrev behind : State
      behind = counted x n x.first x.second close x.rest x.field

      entries_good : Good (next_entry s behind close)
      entries_good = from_fresh close _ (omega arith) closes (fresh_next s w base r.going.room behind close none_waits (omega (arith, r.counts)) (omega (arith, r.counts)) P.Entries refl closes)

      term_good : (part : Part) → is_term part ≡ true → (part ≡ P.Body → ⊥) → Good (asking behind M.Reads part close x.end)
      term_good part p b =
          from_fresh close _ (omega arith) closes
          (fresh_term s w base r.going.room behind close none_waits (omega (arith, r.counts)) (omega (arith, r.counts)) part x.end p F.contents (omega (arith, whole_file)) (λ z. absurd (b z)))

    list_good : (n : ℕ) → n ≤ close → Good (list_taken s x n close)
    unfolding list_taken behind_list
    list_good n h = go (ltb most_goals n) x.part
      where
        go : (b : Bool) (p : Part) → Good (cond b (refusing x LimitPassed x.at) (behind_list s x n close p))
        go true p = refused_good _ _
        go false P.Remaining = remaining_good n h
        go false P.Roots = entries_good n
        go false P.JobGoals = term_good n P.JobTerm refl (λ z. cc)
        go false P.ProofGoals = term_good n P.ProofTerm refl (λ z. cc)
        go false P.Entries = term_good n P.ProofTerm refl (λ z. cc)
        go false P.Fields = term_good n P.ProofTerm refl (λ z. cc)
        go false P.Body = term_good n P.ProofTerm refl (λ z. cc)
        go false P.JobTerm = term_good n P.ProofTerm refl (λ z. cc)
        go false P.ProofTerm = term_good n P.ProofTerm refl (λ z. cc)
        go false (P.Other k) = term_good n P.ProofTerm refl (λ z. cc)

  taken_good : (h : std.Result read.Header Refusal) → header_of s x ≡ h → Good (taken s x h)
  unfolding taken header_of
  taken_good (Err f) e = refused_good f.cause f.place
  taken_good (Ok h) e = go x.part refl
    where
      F : IsField s x.at x.end (low_of x) (high_of x.part) (full_of s x) h.tag h.len
      F = is_field s x.at x.end (low_of x) (high_of x.part) (full_of s x) h.tag h.len (told-field _ h.tag h.len e)

      list : Good (list_taken s x (h.len / 2) (x.at + 3 + h.len))
      list = list_good h.tag h.len F (h.len / 2) (omega arith)

      go : (p : Part) → x.part ≡ p → Good (by_part p (entry_taken s x h.tag (x.at + 3 + h.len)) (table_field s x h.tag (x.at + 3 + h.len)) (list_taken s x (h.len / 2) (x.at + 3 + h.len)) (list_taken s x (h.len / 2) (x.at + 3 + h.len)))
      go P.Fields p = field_good h.tag h.len F p
      go P.Entries p = entry_good h.tag h.len F
      go P.Roots p = list
      go P.JobGoals p = list
      go P.ProofGoals p = list
      go P.Remaining p = list
      go P.Body p = list
      go P.JobTerm p = list
      go P.ProofTerm p = list
      go (P.Other k) p = list

  pub step_field : (h : std.Result read.Header Refusal) → h ≡ header_of s x → (y : State) → y ≡ taken s x h → Step s w base x w y
  step_field h e y f =
      let g = subst (λ (z : State). Good z) (sym f) (taken_good h (sym e)) in
      record { reading = g.0; kept = kept_same w base (base + reading_room); less = g.1; turns = field o refl (f ∙ ap (taken s x) e) }

-- a turn within a term
module _ (s w : List ℕ) (base : ℕ) (x : State) (r : Reading s w base x) (m : x.mode ≡ M.Reads) (o : is_term x.part ≡ true) where
  -- what `turn_within` asks
  pub enters : (h : std.Result read.Header Refusal) → h ≡ header_of s x → Enters s w (high_of x.part) base x h
  unfolding header_of
  enters h e = let t = asks_term s x o in record { going = r.going; reading = m; header_is = rw (← t.0, ← t.1) e }

  module _ (w' : List ℕ) (y : State) (t : Turned s w (high_of x.part) base x w' y) where
    abbrev Good' : State → Type 0
    Good' z = Reading s w' base z × (weight s z < weight s x)

    same_part : y.part ≡ x.part
    same_part = t.moved.held.part

    counted-less : (y.first ≤ y.at) × (y.second ≤ y.at)
    counted-less = let h = t.moved.held in (omega (arith, h.first, r.counts, t.moved.ahead), omega (arith, h.second, r.counts, t.moved.ahead))

    in_body : y.part ≡ P.Body → (end_of s y.field ≤ length s) × (y.second < y.at)
    in_body p =
        let b = r.body (sym same_part ∙ p) in
        (subst (λ (a : ℕ). end_of s a ≤ length s) (sym t.moved.held.field) b.0, omega (arith, t.moved.held.second, b.1, t.moved.ahead))

    no_list : {B : Type 0} → is_term y.part ≡ false → B
    no_list z = let q : true ≡ false = sym o ∙ ap is_term (sym same_part) ∙ z in cc

    -- the term goes on, was refused, or was read
    same_reading : Reading s w' base y
    same_reading = record {
      going = t.moved.going;
      counts = counted-less;
      outside = λ z. no_list z;
      body = in_body;
      entries = λ z. no_list (ap is_term z);
      fields = λ z. no_list (ap is_term z);
    }

    -- the term was read
    module _ (n : y.mode ≡ M.Gave) where
      from_behind : (z : State) → Fresh s w' base t.moved.going.room y.at z → Good' z
      unfolding weight
      from_behind z f = (f.0, let less : weight s y < weight s x = t.moved.less in omega (arith, f.1, t.bare n, rw n at less))

      refused_behind : (k : Cause) (p : ℕ) → Good' (refusing y k p)
      unfolding weight
      refused_behind k p = (refused_reading s w' base y k p same_reading, omega (arith, t.moved.less))

      inside_file : y.at ≤ length s
      inside_file = let i = inside s w' base y t.moved.going in omega (arith, i)

      body_good : y.part ≡ P.Body → Good' (behind_body s y)
      unfolding behind_body
      body_good p = go (eqb y.at (end_of s y.field))
        where
          go : (b : Bool) → Good' (cond b (next_field s (counted y y.goals y.first (y.second + 1) y.from y.rest y.field) y.at) (refusing y LengthWrong y.field))
          go true = from_behind _ (fresh_next s w' base t.moved.going.room (counted y y.goals y.first (y.second + 1) y.from y.rest y.field) y.at (t.bare n) counted-less.0 (omega (arith, (in_body p).1)) P.Fields refl inside_file)
          go false = refused_behind _ _

      job_good : Good' (behind_job s y)
      unfolding behind_job
      job_good = go (eqb y.at (length s))
        where
          go : (b : Bool) → Good' (cond b y (refusing y LengthWrong y.at))
          go true = (same_reading, t.moved.less)
          go false = refused_behind _ _

      hiproof_good : Good' (behind_hiproof s y)
      hiproof_good = from_behind _ (fresh_list s w' base t.moved.going.room (counted y y.goals y.first y.second y.from y.at y.field) y.at (t.bare n) counted-less.0 counted-less.1 P.Remaining refl inside_file)

      behind_good : Good' (behind_term s y)
      unfolding behind_term behind_part
      behind_good = go y.part refl
        where
          go : (p : Part) → y.part ≡ p → Good' (behind_part s y p)
          go P.Body p = body_good p
          go P.JobTerm p = job_good
          go P.ProofTerm p = hiproof_good
          go (P.Other k) p = hiproof_good
          go P.Roots p = hiproof_good
          go P.Entries p = hiproof_good
          go P.Fields p = hiproof_good
          go P.JobGoals p = hiproof_good
          go P.ProofGoals p = hiproof_good
          go P.Remaining p = hiproof_good

    -- what `behind_term` asks
    pub asks_behind : (y.part ≡ P.Body → y.field + 2 < length s) × (y.at ≤ length s) × (y.second ≤ y.at)
    unfolding end_of
    asks_behind = (λ p. omega (arith, in_body p), omega (arith, inside s w' base y t.moved.going), counted-less.1)

    steps : (z : State) → z ≡ settled s y → Good' (settled s y) → Step s w base x w' z
    steps z e good =
        let g = subst (λ (u : State). Good' u) (sym e) good in
        record { reading = g.0; kept = t.moved.kept; less = g.1; turns = term o y t e }

    pub step-behind : y.mode ≡ M.Gave → (z : State) → z ≡ behind_term s y → Step s w base x w' z
    unfolding settled
    step-behind n z e =
        let q : behind_term s y ≡ settled s y = rw n in
        steps z (e ∙ q) (subst (λ (u : State). Good' u) q (behind_good n))

    pub step_on : (y.mode ≡ M.Gave → ⊥) → Step s w base x w' y
    unfolding settled
    step_on n =
        let q : y ≡ settled s y = not_gave y.mode n in
        steps y q (subst (λ (u : State). Good' u) q (same_reading, t.moved.less))
      where
        not_gave : (m : Mode) → (m ≡ M.Gave → ⊥) → y ≡ by_mode m y y (behind_term s y)
        not_gave M.Refused g = refl
        not_gave M.Reads g = refl
        not_gave M.Gave g = absurd (g refl)
