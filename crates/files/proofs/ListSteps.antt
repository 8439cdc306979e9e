-- A goal list outside terms: how a file that begins with one begins, and from its header to what is read behind it.
-- Assumes nothing.
use mathlib.Core.Path.{◌≡◌, refl, sym, subst, ◌∙◌}
use mathlib.Core.Bool.{Bool, true, false, cond}
use mathlib.Core.List.{List}
use Rattle.std.specs.Prelude.{Ok, Err}
use Rattle.std.specs.Prelude as std
use Prim.Native.Nat.{ℕ, ◌+◌, ◌/◌, ◌≤◌}
use native.Mathlib.Omega.{arith}
use lib.Dec.{ltb}
use lib.ListN.{length}
use borrow.Author.Tests.{ltb-false, le-ltb}
use Rattle.format.specs.declared.headers.Header as read
use Rattle.format.specs.declared.refusals.Refusal.{Refusal}
use Rattle.format.specs.declared.refusals.Cause.TheVariants.{InputTooLong, LimitPassed}
use Rattle.format.specs.GoalsRead.{GoalsRead}
use Rattle.format.specs.GoalsRead as G
use Rattle.format.specs.Limits.{most_bytes, most_goals}
use Rattle.format.specs.Results.{told}
use Rattle.format.specs.Inputs.{of_size}
use Rattle.format.specs.Tags.{goal_list_kind}
use Rattle.format.specs.Headers.{header_at}
use Rattle.format.specs.Goals.{read_goals}
use Rattle.format.specs.Shapes.{header_shape, goals_shape}
use Rattle.format.proofs.GoalsLaws.{header_refused, header_read, many_goals, few_goals}
use Rattle.parts.specs.declared.state.Mode.TheVariants as M
use Rattle.parts.specs.declared.state.Part.{Part}
use Rattle.parts.specs.declared.state.Part.TheVariants as P
use Rattle.parts.specs.declared.state.State.{State}
use Rattle.parts.specs.States.{cause_of, is_term, is_list, refusing, asking, behind_list, list_taken, taken, blank_state, begun_file}
use Rattle.parts.proofs.PartLaws.{list_chosen, list_outside}
use Rattle.parts.proofs.AskLaws.{asks_list}
use Rattle.reading.specs.Waiting.{reading_room}
use Rattle.reading.specs.Reading.{Reading, header_of, Step}
use Rattle.reading.proofs.StepCases.{field_step}
use Rattle.reading.proofs.StepLaws.{fresh_list, fresh_term, refused_reading}

-- what is told of the goal list at the beginning of a file
abbrev pub stated : List ℕ → GoalsRead
stated s = goals_shape (of_size s (read_goals s 0 (length s)))

-- from the state x to r over a goal list of which l is told
pub data ListStep (s : List ℕ) (x : State) (l : GoalsRead) (r : State) : Type 0 where
  stops : r.mode ≡ M.Refused → l ≡ G.Refused (cause_of r.why) r.place → ListStep s x l r
  reads : (n close : ℕ) → l ≡ G.Read n close → r ≡ behind_list s x n close x.part → ListStep s x l r

module _ (s w : List ℕ) (base : ℕ) (x : State) (h : Reading s w base x) (m : x.mode ≡ M.Reads) (o : is_list x.part ≡ true) where
  -- by the header
  from_header : (r : std.Result read.Header Refusal) → header_shape (header_at s x.at (length s) goal_list_kind goal_list_kind false) ≡ r → ListStep s x (goals_shape (read_goals s x.at (length s))) (taken s x r)
  unfolding taken list_taken read_goals
  from_header (Err r) e = stops refl (header_refused s x.at _ r.cause r.place e)
  from_header (Ok h) e = subst (ListStep s x (goals_shape (read_goals s x.at (length s)))) (sym (list_chosen x.part _ _ _ _ o)) (go (ltb most_goals (h.len / 2)) refl)
    where
      go : (b : Bool) → ltb most_goals (h.len / 2) ≡ b → ListStep s x (goals_shape (read_goals s x.at (length s))) (cond b (refusing x LimitPassed x.at) (behind_list s x (h.len / 2) (x.at + 3 + h.len) x.part))
      go true t = stops refl (header_read s x.at _ h.tag h.len e ∙ many_goals s x.at h.tag h.len t)
      go false t = reads (h.len / 2) (x.at + 3 + h.len) (header_read s x.at _ h.tag h.len e ∙ few_goals s x.at h.tag h.len (x.at + 3 + h.len) t refl) refl

  pub list_step : (w' : List ℕ) (r : State) → Step s w base x w' r → (w' ≡ w) × ListStep s x (goals_shape (read_goals s x.at (length s))) r
  unfolding header_of
  list_step w' r step =
      let out = list_outside x.part o in
      let f = field_step s w base x w' r step out in
      let l = asks_list s x o in
      let e : header_of s x ≡ header_shape (header_at s x.at (length s) goal_list_kind goal_list_kind false) = λ k. header_shape (header_at s x.at ((h.outside out).1 k) (l.0 k) (l.1 k) (l.2 k)) in
      (f.0, subst (ListStep s x (goals_shape (read_goals s x.at (length s)))) (sym f.1) (from_header (header_of s x) (sym e)))

-- nothing is read of a file that begins with a goal list and is not too long
pub record First (s : List ℕ) (part : Part) (x : State) : Type 0 where
  pub short : length s ≤ most_bytes
  pub mode_is : x.mode ≡ M.Reads
  pub part_is : x.part ≡ part
  pub at_start : x.at ≡ 0
  pub none_counted : (x.fields ≡ 0) × (x.first ≡ 0) × (x.second ≡ 0)

-- how such a file begins
pub data Begins (s : List ℕ) (part : Part) (x : State) : Type 0 where
  long : x.mode ≡ M.Refused → stated s ≡ G.Refused (cause_of x.why) x.place → Begins s part x
  first : First s part x → Begins s part x

module _ (s : List ℕ) (part : Part) where
  pub begins : Begins s part (begun_file s part)
  unfolding begun_file blank_state goals_shape told
  begins = go (ltb most_bytes (length s)) refl
    where
      go : (b : Bool) → ltb most_bytes (length s) ≡ b → Begins s part (cond b (refusing (asking (blank_state part) M.Reads part 0 (length s)) InputTooLong 0) (asking (blank_state part) M.Reads part 0 (length s)))
      go true e = long refl (rw e)
      go false e = first (record { short = ltb-false most_bytes (length s) e; mode_is = refl; part_is = refl; at_start = refl; none_counted = (refl, refl, refl) })

  -- what `read_on` asks
  module _ (w : List ℕ) (base : ℕ) (room : base + reading_room ≤ length w) where
    begun_reading : Reading s w base (asking (blank_state part) M.Reads part 0 (length s)) → Reading s w base (begun_file s part)
    unfolding begun_file
    begun_reading asked = go (ltb most_bytes (length s))
      where
        go : (b : Bool) → Reading s w base (cond b (refusing (asking (blank_state part) M.Reads part 0 (length s)) InputTooLong 0) (asking (blank_state part) M.Reads part 0 (length s)))
        go true = refused_reading s w base _ _ _ asked
        go false = asked

    pub start_reading : is_list part ≡ true → Reading s w base (begun_file s part)
    unfolding blank_state
    start_reading o = begun_reading (fresh_list s w base room (blank_state part) 0 refl (omega arith) (omega arith) part o (omega arith)).0

    -- of a file that is one term
    pub start_term : is_term part ≡ true → (part ≡ P.Body → ⊥) → Reading s w base (begun_file s part)
    unfolding blank_state
    start_term o n = begun_reading (fresh_term s w base room (blank_state part) 0 refl (omega arith) (omega arith) part (length s) o (omega arith) (omega arith) (λ z. absurd (n z))).0

-- over the first list of a file
module _ (s w : List ℕ) (base : ℕ) (part : Part) (o : is_list part ≡ true) where
  pub first_step : (x : State) → Reading s w base x → First s part x → (w' : List ℕ) (r : State) → Step s w base x w' r → (w' ≡ w) × ListStep s x (stated s) r
  first_step x h f w' r step =
      let l = list_step s w base x h f.mode_is (rw f.part_is o) w' r step in
      let e : goals_shape (read_goals s x.at (length s)) ≡ stated s = rw (f.at_start, le-ltb most_bytes (length s) f.short) in
      (l.0, subst (λ (t : GoalsRead). ListStep s x t r) e l.1)
