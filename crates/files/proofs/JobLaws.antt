-- Reading a job file, by what the code tells of its list and its term: one law for each way in which its reading ends.
-- Assumes nothing.
use Rattle.std.specs.Prelude.{Ok}
use Rattle.std.specs.Prelude as std
use mathlib.Core.Path.{◌≡◌, refl, ap, ◌∙◌}
use mathlib.Core.List.{List}
use Prim.Native.Nat.{ℕ, ◌+◌, ◌*◌}
use native.Mathlib.Omega.{arith}
use lib.ListN.{length}
use borrow.Author.Tests.{eq-eqb, ne_eqb}
use Rattle.format.specs.declared.values.Goal.{Goal}
use Rattle.format.specs.GoalsRead as G
use Rattle.format.specs.TermRead as T
use Rattle.format.specs.declared.refusals.Cause.{Cause}
use Rattle.format.specs.declared.refusals.Cause.TheVariants.{LengthWrong}
use Rattle.format.specs.declared.refusals.Refusal.{Refusal}
use Rattle.format.specs.Results.{Result, gives, refused, and_then, told, refused_at}
use Rattle.format.specs.Inputs.{of_size}
use Rattle.format.specs.Tags.{tactic_kind}
use Rattle.format.specs.Terms.{Term}
use Rattle.format.specs.ReadTerms.{ParsedTerm, read_term}
use Rattle.format.specs.Goals.{read_goals}
use Rattle.format.specs.Shapes.{goals_shape, term_shape}
use Rattle.files.specs.declared.jobs.JobParts.{JobParts}
use Rattle.files.specs.Jobs.{Job, last_term_of, read_last_term, job_of, read_job}
use Rattle.files.specs.Counts.{job_term_place}
use Rattle.files.specs.Shapes.{job_parts, job_parts_of, job_shape}
use Rattle.files.proofs.ToldLaws.{Pair, first_refused, first_read, goals_tell, goals_kept, term_tells, term_kept, of_size_and, stated_end}

-- what the code tells of a job
abbrev parts : Job → std.Result JobParts Refusal
parts j = Ok (job_parts_of j)

abbrev job_with : List Goal → Term → Result Job
job_with g t = gives (record { goals = g; term = t })

-- three steps, grouped to the left or to the right
and_both : {A B C : Type 0} (x : Result A) (f : A → Result B) (g : B → Result C) → and_then (and_then x f) g ≡ and_then x (λ a. and_then (f a) g)
unfolding and_then
and_both (gives a) f g = refl
and_both (refused c p) f g = refl

module _ (s : List ℕ) where
  job_steps : read_job s ≡ and_then (of_size s (read_goals s 0 (length s))) (job_of s)
  unfolding read_job
  job_steps = of_size_and s (read_goals s 0 (length s)) (job_of s)

  -- the job, once its goals and its term are read
  abbrev last : List Goal → ParsedTerm → Result Job
  last g t = and_then (last_term_of s t) (job_with g)

  pub stated_refused : (k : Cause) (p : ℕ) → goals_shape (of_size s (read_goals s 0 (length s))) ≡ G.Refused k p → job_shape (read_job s) ≡ refused_at k p
  unfolding job_shape goals_shape
  stated_refused k p e = rw job_steps (first_refused goals_tell goals_kept refused_at parts (job_of s) _ k p e)

  -- the term at a place
  abbrev the_term : (at : ℕ) → Result ParsedTerm
  the_term at = read_term (length s + 1) s tactic_kind at (length s) 0

  -- n goals are stated, and behind them, at `to`, stands the term
  module _ (n to : ℕ) (stated : goals_shape (of_size s (read_goals s 0 (length s))) ≡ G.Read n to) where
    behind : (y : std.Result JobParts Refusal) → ((g : List Goal) → length g ≡ n → job_shape (and_then (the_term to) (last g)) ≡ y) → job_shape (read_job s) ≡ y
    unfolding job_shape goals_shape job_of read_last_term
    behind y h =
        rw job_steps
        (first_read goals_tell goals_kept refused_at parts (job_of s) _ (n, to) y stated (λ g given kept.
        let at : g.next ≡ to = ap (λ (q : Pair). q.1) kept in
        rw (at, and_both (the_term to) (last_term_of s) (job_with g.goals))
        (h g.goals (ap (λ (q : Pair). q.0) kept))))

    pub tactic_refused : (k : Cause) (p : ℕ) → term_shape (the_term to) ≡ T.Refused k p → job_shape (read_job s) ≡ refused_at k p
    unfolding job_shape term_shape
    tactic_refused k p e = behind _ (λ g count. first_refused term_tells term_kept refused_at parts (last g) (the_term to) k p e)

    -- a term of m fields stands there and ends at `next`
    module _ (next m : ℕ) (term : term_shape (the_term to) ≡ T.Read next m) where
      pub bytes_left : (next ≡ length s → ⊥) → job_shape (read_job s) ≡ refused_at LengthWrong next
      unfolding job_shape term_shape last_term_of and_then told
      bytes_left f =
          behind _ (λ g count.
          first_read term_tells term_kept refused_at parts (last g) (the_term to) (next, m) _ term (λ t given kept.
          let to-next : t.next ≡ next = ap (λ (q : Pair). q.0) kept in
          simp (to-next, ne_eqb next (length s) f)))

      pub job_read : next ≡ length s → job_shape (read_job s) ≡ Ok (job_parts n to)
      unfolding job_shape term_shape last_term_of and_then told job_parts_of job_term_place
      job_read f =
          let place = (stated_end s n to stated).0 in
          behind _ (λ g count.
          first_read term_tells term_kept refused_at parts (last g) (the_term to) (next, m) _ term (λ t given kept.
          let at : 3 + length g * 2 ≡ to = omega (arith, count, place) in
          rw (eq-eqb t.next (length s) (ap (λ (q : Pair). q.0) kept ∙ f)) (λ i. Ok (job_parts (count i) (at i)))))
