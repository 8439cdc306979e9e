-- What each state of the reading of a table means: what the code tells of the table from that state on. Every turn keeps it, so the last state tells the whole table. By induction over the turns.
-- Assumes nothing.
use Rattle.std.specs.Prelude.{Ok, Err}
use Rattle.std.specs.Prelude as std
use mathlib.Core.Path.{◌≡◌, refl, sym, subst, ap, ◌∙◌}
use mathlib.Core.Bool.{Bool, true, false, cond}
use mathlib.Core.List.{List}
use mathlib.Core.Logic.{◌⊎◌, inl, inr}
use Prim.Native.Nat.{ℕ, ◌+◌, ◌≤◌}
use native.Mathlib.Omega.{arith}
use lib.Dec.{eqb, leb}
use lib.ListN.{length}
use borrow.Author.Tests.{leb-true, eqb-true, eqb-false}
use Rattle.format.specs.declared.headers.Header as read
use Rattle.format.specs.declared.refusals.Refusal.{Refusal}
use Rattle.format.specs.TermRead.{TermRead, Read}
use Rattle.format.specs.declared.refusals.Cause.TheVariants.{LengthWrong}
use Rattle.format.specs.Tags.{definition_kind, tactic_kind}
use Rattle.format.specs.Results.{refused_at}
use Rattle.format.specs.Next.{full_table, lowest}
use Rattle.format.specs.Headers.{header_at}
use Rattle.format.specs.Shapes.{header_shape}
use Rattle.parts.specs.declared.state.State.{State}
use Rattle.parts.specs.declared.state.Mode.{Mode}
use Rattle.parts.specs.declared.state.Mode.TheVariants as M
use Rattle.parts.specs.declared.state.Part.{Part}
use Rattle.parts.specs.declared.state.Part.TheVariants.{Fields, Body}
use Rattle.parts.specs.States as states
use Rattle.parts.specs.States.{by_mode, by_part, high_of, refusing, refusal_of, asking, counted, next_of, next_field, table_field, taken, end_of, behind_term, behind_part, blank_state, begun_table, told_state}
use Rattle.parts.proofs.AskLaws.{asks_field}
use Rattle.reading.specs.Waiting.{reading_room, reads, resumed, outcome, Held}
use Rattle.reading.specs.Reading.{Reading, header_of, Step, Reaches}
use Rattle.reading.proofs.StepCases.{TermStep, goes, stops, ends, field_step, term_step}
use Rattle.reading.proofs.BegunTable.{begun_table_lem}
use Rattle.reading.proofs.ReachLaws.{holds_on}
use Rattle.tables.specs.ReadTables.{read_fields}
use Rattle.tables.specs.Shapes.{table_shape, table_counted}
use Rattle.tables.proofs.TurnLaws.{Told, table_at, behind_body, from_start, at_end, turn_refused, turn_rule, turn_definition}

-- what the code tells of the table from a state on: a refusal, what follows the body that is read, or the fields from the place on
unfoldable pub meaning : (s w : List ℕ) (base : ℕ) → State → Told
meaning s w base x =
    let here = table_at s x.first x.second x.from x.at x.fields in
    let rest = by_part x.part here here here (behind_body s x.field x.first x.second x.from (outcome s w (high_of x.part) base x)) in
    by_mode x.mode (Err (refusal_of x)) rest rest

-- what holds in every state of a table: until a definition comes the rules end at the place, and nothing is left to read only at the end of the file
pub record OfTable (s : List ℕ) (x : State) : Type 0 where
  pub parts : (x.part ≡ Fields) ⊎ (x.part ≡ Body)
  pub rules_end : x.part ≡ Fields → x.second ≡ 0 → x.from ≡ x.at
  pub all_read : x.mode ≡ M.Gave → (x.part ≡ Fields) × (length s ≤ x.at)

-- what is chosen by the part of a table
in_fields : {A : Type 0} (p : Part) (e f l t : A) → p ≡ Fields → f ≡ by_part p e f l t
in_fields p e f l t q = rw q

body_behind : (s : List ℕ) (x : State) (p : Part) → p ≡ Body → states.behind_body s x ≡ behind_part s x p
unfolding behind_part
body_behind s x p q = rw q

-- in the body of a definition
in_body : (s : List ℕ) (x : State) → x.part ≡ Body → (x.mode ≡ M.Gave → ⊥) → OfTable s x
in_body s x p n = record { parts = inr p; rules_end = λ z. cc; all_read = λ z. absurd (n z) }

module _ (s w : List ℕ) (base : ℕ) where
  -- a state of a table, and what it means
  pub record Means (t : Told) (x : State) : Type 0 where
    pub of_table : OfTable s x
    pub meaning_is : meaning s w base x ≡ t

  refused_means : (x : State) (f : Refusal) → OfTable s x → Means (Err f) (refusing x f.cause f.place)
  unfolding meaning
  refused_means x f o = record { of_table = record { parts = o.parts; rules_end = o.rules_end; all_read = λ z. cc }; meaning_is = refl }

  next_means : (x : State) (at : ℕ) → (x.second ≡ 0 → x.from ≡ at) → Means (table_at s x.first x.second x.from at x.fields) (next_field s x at)
  unfolding next_of meaning
  next_means x at f = go (leb (length s) at) refl
    where
      go : (t : Bool) → leb (length s) at ≡ t
          → Means (table_at s x.first x.second x.from at x.fields) (cond t (asking x M.Gave Fields at (length s)) (asking x M.Reads Fields at (length s)))
      go true e = record { of_table = record { parts = inl refl; rules_end = λ z. f; all_read = λ z. (refl, leb-true (length s) at e) }; meaning_is = refl }
      go false e = record { of_table = record { parts = inl refl; rules_end = λ z. f; all_read = λ z. cc }; meaning_is = refl }

  body_means : (x : State) (at end : ℕ) → x.depth ≡ 0 → Means (behind_body s x.field x.first x.second x.from (reads s tactic_kind at end x.fields)) (asking x M.Reads Body at end)
  unfolding meaning outcome resumed high_of
  body_means x at end d = record {
    of_table = in_body s _ refl (λ z. cc);
    meaning_is = rw d;
  }

  -- a field outside terms
  module _ (x : State) (r : Reading s w base x) (m : x.mode ≡ M.Reads) (o : OfTable s x) (p : x.part ≡ Fields) where
    the_header : header_of s x ≡ header_shape (header_at s x.at (length s) (lowest x.second) definition_kind (full_table s x.at x.first x.second))
    unfolding header_of
    the_header = let f = asks_field s x p in let e = (r.outside (rw p)).1 in λ i. header_shape (header_at s x.at (e i) (f.0 i) (f.1 i) (f.2 i))

    field_means : (h : std.Result read.Header Refusal) → header_of s x ≡ h → Means (table_at s x.first x.second x.from x.at x.fields) (taken s x h)
    unfolding taken table_field
    field_means (Err f) e = subst (λ (t : Told). Means t (refusing x f.cause f.place)) (sym (turn_refused s _ _ _ _ _ (r.fields p m) f (sym the_header ∙ e))) (refused_means x f o)
    field_means (Ok h) e = subst (λ (y : State). Means (table_at s x.first x.second x.from x.at x.fields) y) (in_fields _ _ _ _ _ p) (go (eqb h.tag 1) refl)
      where
        close : ℕ
        close = x.at + 3 + h.len

        go : (b : Bool) → eqb h.tag 1 ≡ b
            → Means (table_at s x.first x.second x.from x.at x.fields) (cond b (next_field s (counted x x.goals (x.first + 1) x.second close x.rest x.field) close) (asking (counted x x.goals x.first x.second x.from x.rest x.at) M.Reads Body (x.at + 5) close))
        go true q = subst (λ (t : Told). Means t (next_field s (counted x x.goals (x.first + 1) x.second close x.rest x.field) close))
            (sym (turn_rule s _ _ _ _ _ (r.fields p m) h.tag h.len (sym the_header ∙ e) (eqb-true h.tag 1 q) (o.rules_end p)))
            (next_means _ close (λ z. refl))
        go false q = subst (λ (t : Told). Means t (asking (counted x x.goals x.first x.second x.from x.rest x.at) M.Reads Body (x.at + 5) close))
            (sym (turn_definition s _ _ _ _ _ (r.fields p m) h.tag h.len (sym the_header ∙ e) (eqb-false h.tag 1 q)))
            (body_means (counted x x.goals x.first x.second x.from x.rest x.at) (x.at + 5) close (r.outside (rw p)).0)

  -- behind the body of a definition that was read
  behind_means : (y : State) → y.part ≡ Body → Means (behind_body s y.field y.first y.second y.from (Read y.at y.fields)) (behind_term s y)
  unfolding behind_term behind_part states.behind_body behind_body meaning
  behind_means y p = subst (λ (z : State). Means (behind_body s y.field y.first y.second y.from (Read y.at y.fields)) z) (body_behind _ _ _ p) (go (eqb y.at (end_of s y.field)))
    where
      go : (b : Bool)
          → Means (cond b (table_at s y.first (y.second + 1) y.from y.at y.fields) (refused_at LengthWrong y.field))
          (cond b (next_field s (counted y y.goals y.first (y.second + 1) y.from y.rest y.field) y.at) (refusing y LengthWrong y.field))
      go true = next_means _ y.at (λ z. absurd (omega (arith, z)))
      go false = record { of_table = in_body s _ p (λ z. cc); meaning_is = refl }

  -- what a state means in which a field, or the body of a definition, is read
  at_field : (x : State) → x.mode ≡ M.Reads → x.part ≡ Fields → meaning s w base x ≡ table_at s x.first x.second x.from x.at x.fields
  unfolding meaning
  at_field x m p = rw (m, p)

  at_body : (x : State) → x.mode ≡ M.Reads → x.part ≡ Body → meaning s w base x ≡ behind_body s x.field x.first x.second x.from (outcome s w (high_of x.part) base x)
  unfolding meaning
  at_body x m p = rw (m, p)

-- what follows a body is the same where what was counted before it is
held-behind : (s : List ℕ) (x y : State) (t : TermRead) → Held x y → behind_body s y.field y.first y.second y.from t ≡ behind_body s x.field x.first x.second x.from t
held-behind s x y t h = rw (h.field, h.first, h.second, h.from)

module _ (s w : List ℕ) (base : ℕ) (x : State) (p : x.part ≡ Body) where
  abbrev after : TermRead → Told
  after = behind_body s x.field x.first x.second x.from

  body_step : (w' : List ℕ) (r : State) → TermStep s w base x w' r → Means s w' base (after (outcome s w (high_of x.part) base x)) r
  unfolding meaning behind_body
  body_step w' r (goes m h e) = record {
    of_table = in_body s r (h.part ∙ p) (λ z. cc);
    meaning_is = at_body s w' base r m (h.part ∙ p) ∙ held-behind s x r (outcome s w' (high_of r.part) base r) h ∙ ap after (ap (λ (k : Part). outcome s w' (high_of k) base r) h.part ∙ e);
  }
  body_step w' r (stops m h e) = record {
    of_table = in_body s r (h.part ∙ p) (λ z. cc);
    meaning_is = rw (m, e);
  }
  body_step w' r (ends y m h e l f) = rw (f, e, ← held-behind s x y (Read y.at y.fields) h) (behind_means s w' base y (h.part ∙ p))

module _ (s w : List ℕ) (base : ℕ) (x : State) (r : Reading s w base x) (m : x.mode ≡ M.Reads) (o : OfTable s x) where
  -- one turn
  step_means : (w' : List ℕ) (y : State) → Step s w base x w' y → Means s w' base (meaning s w base x) y
  unfolding meaning
  step_means w' y step = go o.parts
    where
      go : (x.part ≡ Fields) ⊎ (x.part ≡ Body) → Means s w' base (meaning s w base x) y
      go (inl p) =
          let f = field_step s w base x w' y step (rw p) in
          subst (λ (t : Told). Means s w' base t y) (sym (at_field s w base x m p)) (rw (f.0, f.1) (field_means s w base x r m o p (header_of s x) refl))
      go (inr p) = subst (λ (t : Told). Means s w' base t y) (sym (at_body s w base x m p)) (body_step s w base x p w' y (term_step s w base x w' y step (rw p)))

module _ (s : List ℕ) (base : ℕ) (w : List ℕ) (x : State) (r : Reading s w base x) (o : OfTable s x) where
  -- any number of turns
  reaches_means : (w' : List ℕ) (y : State) → Reaches s base w x w' y → Means s w' base (meaning s w base x) y
  reaches_means =
      holds_on s base (λ v y. Means s v base (meaning s w base x) y) (λ v y w' z h m step k. subst (λ (t : Told). Means s w' base t z) k.meaning_is (step_means s v base y h m k.of_table w' z step))
      w x r (record { of_table = o; meaning_is = refl })

-- a state in which nothing is left to read tells what it means
told_last : (s w : List ℕ) (base : ℕ) (x : State) → OfTable s x → (x.mode ≡ M.Reads → ⊥) → told_state table_counted x ≡ meaning s w base x
unfolding meaning
told_last s w base x o n = go x.mode refl
  where
    go : (m : Mode) → x.mode ≡ m →
        let here = table_at s x.first x.second x.from x.at x.fields in
        let rest = by_part x.part here here here (behind_body s x.field x.first x.second x.from (outcome s w (high_of x.part) base x)) in
        by_mode {A = Told} m (Err (refusal_of x)) (Ok (table_counted x)) (Ok (table_counted x)) ≡ by_mode m (Err (refusal_of x)) rest rest
    go M.Refused e = refl
    go M.Reads e = absurd (n e)
    go M.Gave e = let a = o.all_read e in rw a.0 (sym (at_end s _ _ _ _ _ a.1))

-- from the first state on
pub whole_table_lem : (s : List ℕ) (base : ℕ) (w : List ℕ) (x : State) (w' : List ℕ) (y : State) → base + reading_room ≤ length w → x ≡ begun_table s → Reaches s base w x w' y → (y.mode ≡ M.Reads → ⊥)
    → told_state table_counted y ≡ table_shape (read_fields (length s + 1) s 0 0 0 0)
unfolding begun_table blank_state
whole_table_lem s base w x w' y room b e n =
    let start = begun_table_lem s w base room in
    let first = next_means s w base (blank_state Fields) 0 (λ z. refl) in
    let turns = subst (λ (z : State). Reaches s base w z w' y) b e in
    let last = reaches_means s base w (begun_table s) start first.of_table w' y turns in
    told_last s w' base y last.of_table n ∙ last.meaning_is ∙ first.meaning_is ∙ sym (from_start s)
