-- The parts of a job that stands in its file: how many goals it has and where its term is, whichever job that is; and its goals copied into work space.
-- Assumes nothing.
use Prim.Native.Nat.{ℕ, ◌+◌, ◌*◌, ◌≤◌}
use mathlib.Core.Path.{◌≡◌, sym, ap, subst, ◌∙◌}
use mathlib.Core.List.{List}
use native.Mathlib.Omega.{arith}
use lib.ListN.{length, drop}
use lib.Seq.{paste}
use Rattle.format.specs.Goals.{goals_at}
use Rattle.format.specs.Standing.{Stands}
use Rattle.format.proofs.GoalsAt.{goals_paste}
use Rattle.files.specs.declared.jobs.JobParts.{JobParts}
use Rattle.files.specs.Jobs.{Job}
use Rattle.files.specs.Counts.{job_term_place}
use Rattle.files.specs.Standing.{JobStands}
use Rattle.files.specs.Shapes.{job_parts_of}

module _ (job : List ℕ) (j : Job) (st : JobStands job j) where
  -- every job that stands in the file has its term at the same place
  pub same_place : (term : ℕ) → job_term_place j ≡ term → (i : Job) → JobStands job i → job_term_place i ≡ term
  unfolding job_term_place
  same_place term e i h = omega (arith, e, st.goals_stand.head.length_is, h.goals_stand.head.length_is)

  -- which is near its beginning
  pub place_small : (term : ℕ) → job_term_place j ≡ term → (term ≤ 515) × (term ≤ length job)
  unfolding job_term_place
  place_small term e = (omega (arith, e, st.goals_stand.few), omega (arith, e, st.goals_stand.head))

  module _ (parts : JobParts) (e : job_parts_of j ≡ parts) where
    pub goals_count : length j.goals ≡ parts.goals
    unfolding job_parts_of
    goals_count = ap (λ (q : JobParts). q.goals) e

    pub goals_few : parts.goals ≤ 256
    goals_few = omega (arith, goals_count, st.goals_stand.few)

    pub goals_inside : 3 + parts.goals * 2 ≤ length job
    goals_inside = omega (arith, goals_count, st.goals_stand.head)

    pub term_place_lem : job_term_place j ≡ parts.term
    unfolding job_parts_of
    term_place_lem = ap (λ (q : JobParts). q.term) e

    pub term_stands : Stands job parts.term j.term
    term_stands = subst (λ (i : ℕ). Stands job i j.term) term_place_lem st.term_stands

    -- its goals copied
    pub goals_copied : (w v : List ℕ) (to : ℕ) → v ≡ paste w to (drop 3 job) (parts.goals * 2) → to + parts.goals * 2 ≤ length w → goals_at v to parts.goals ≡ j.goals
    goals_copied w v to q room =
        ap (λ (x : List ℕ). goals_at x to parts.goals) q ∙ goals_paste w job to 3 parts.goals room goals_inside
        ∙ ap (goals_at job 3) (sym goals_count) ∙ sym st.goals_stand.goals_are
