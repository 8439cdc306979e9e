-- The term of a job, of a proof or of a file by itself: how it begins, and the turns within it.
-- Assumes nothing.
use mathlib.Core.Path.{◌≡◌, refl, sym, ap, subst, ◌∙◌}
use mathlib.Core.Bool.{true}
use mathlib.Core.List.{List}
use Prim.Native.Nat.{ℕ, ◌+◌}
use native.Mathlib.Omega.{arith}
use lib.ListN.{length}
use Rattle.format.specs.TermRead.{TermRead}
use Rattle.format.specs.TermRead as T
use Rattle.format.specs.ReadTerms.{read_term}
use Rattle.format.specs.Shapes.{term_shape}
use Rattle.parts.specs.declared.state.Mode.TheVariants as M
use Rattle.parts.specs.declared.state.Part.{Part}
use Rattle.parts.specs.declared.state.State.{State}
use Rattle.parts.proofs.PartLaws.{list_outside}
use Rattle.parts.specs.States.{cause_of, is_term, is_list, high_of, asking, counted, behind_term}
use Rattle.reading.specs.Waiting.{resumed, outcome, Held}
use Rattle.reading.specs.Reading.{Reading, Step}
use Rattle.reading.proofs.ShapeLaws.{reads_any}
use Rattle.reading.proofs.StepCases.{TermStep, goes, stops, ends, term_step}
use Rattle.files.proofs.ListSteps.{First}

-- the term is of the part `part`, kinds up to high may stand in it, and Front is what was read in front of it: a number of goals, and the place behind them
module _ (s : List ℕ) (part : Part) (high : ℕ) (Front : (goals from : ℕ) → Type 0) where
  -- what is told of the term at a place
  abbrev pub term_at : (at : ℕ) → TermRead
  term_at at = term_shape (read_term (length s + 1) s high at (length s) 0)

  -- the front was read, and the term is being read
  pub record InTerm (base : ℕ) (w : List ℕ) (x : State) : Type 0 where
    pub mode_is : x.mode ≡ M.Reads
    pub part_is : x.part ≡ part
    pub front : Front x.goals x.from
    pub comes_to : outcome s w high base x ≡ term_at x.from

  -- the front and the term were read
  pub record BehindTerm (y : State) : Type 0 where
    pub mode_is : y.mode ≡ M.Gave
    pub part_is : y.part ≡ part
    pub front : Front y.goals y.from
    pub term : term_at y.from ≡ T.Read y.at y.fields

  -- a turn within the term
  pub data Turn (base : ℕ) (x : State) (w' : List ℕ) (r : State) : Type 0 where
    goes_on : InTerm base w' r → Turn base x w' r
    refuses : r.mode ≡ M.Refused → term_at x.from ≡ T.Refused (cause_of r.why) r.place → Turn base x w' r
    leaves : (y : State) → BehindTerm y → r ≡ behind_term s y → Turn base x w' r

  module _ (base : ℕ) (w : List ℕ) (x : State) (h : Reading s w base x) where
    -- from the goal list
    pub term_begun : (first_part : Part) → is_list first_part ≡ true → First s first_part x → (n close : ℕ) → Front n close
        → InTerm base w (asking (counted x n x.first x.second close x.rest x.field) M.Reads part close x.end)
    unfolding outcome resumed
    term_begun first_part l f n close e =
        let o = h.outside (rw f.part_is (list_outside first_part l)) in
        record { mode_is = refl; part_is = refl; front = e; comes_to = rw (o.0, o.1, f.none_counted.0) (reads_any s high (length s + 1) close (length s) 0 (omega arith) (omega arith)) }

    pub term_turn : is_term part ≡ true → high_of part ≡ high → InTerm base w x → (w' : List ℕ) (r : State) → Step s w base x w' r → Turn base x w' r
    term_turn l k t w' r step = go (term_step s w base x w' r step (rw t.part_is l))
      where
        high_is : high_of x.part ≡ high
        high_is = ap high_of t.part_is ∙ k

        same_front : (y : State) → Held x y → Front y.goals y.from
        same_front y d = rw (d.goals, d.from) t.front

        same_term : (y : State) (q : TermRead) → Held x y → outcome s w (high_of x.part) base x ≡ q → term_at y.from ≡ q
        same_term y q d e = rw d.from (sym t.comes_to ∙ subst (λ (j : ℕ). outcome s w j base x ≡ q) high_is e)

        go : TermStep s w base x w' r → Turn base x w' r
        go (goes m d e) =
            goes_on (record { mode_is = m; part_is = d.part ∙ t.part_is; front = same_front r d; comes_to = subst (λ (j : ℕ). outcome s w' j base r ≡ outcome s w j base x) high_is e ∙ t.comes_to ∙ ap term_at (sym d.from) })
        go (stops m d e) = refuses m (same_term x _ (record { part = refl; goals = refl; first = refl; second = refl; from = refl; field = refl }) e)
        go (ends y m d e i q) = leaves y (record { mode_is = m; part_is = d.part ∙ t.part_is; front = same_front y d; term = same_term y _ d e }) q
