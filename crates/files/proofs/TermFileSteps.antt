-- Reading a term file: what is known in each state, that each turn keeps it, and what the last state tells.
-- Assumes nothing.
use mathlib.Core.Path.{◌≡◌, refl, sym, ap, subst, ◌∙◌}
use Rattle.std.specs.Prelude.{Ok, Err}
use mathlib.Core.Bool.{Bool, true, false, cond}
use mathlib.Core.List.{List}
use Prim.Native.Nat.{ℕ, ◌+◌, ◌≤◌}
use native.Mathlib.Omega.{arith}
use lib.Dec.{eqb, ltb}
use lib.ListN.{length}
use borrow.Author.Tests.{eqb-true, eqb-false, ltb-true, ltb-false}
use Rattle.format.specs.TermRead.{TermRead}
use Rattle.format.specs.TermRead as T
use Rattle.format.specs.Limits.{most_bytes}
use Rattle.format.specs.declared.refusals.Cause.TheVariants.{InputTooLong, LengthWrong}
use Rattle.format.specs.Tags.{tactic_kind}
use Rattle.parts.specs.declared.state.Mode.TheVariants as M
use Rattle.parts.specs.declared.state.Part.TheVariants as P
use Rattle.parts.specs.declared.state.State.{State}
use Rattle.parts.specs.States.{refusing, refusal_of, asking, behind_job, behind_part, behind_term, blank_state, begun_file}
use Rattle.parts.proofs.AskLaws.{high_of_job}
use Rattle.reading.specs.Waiting.{resumed, outcome}
use Rattle.reading.specs.Reading.{Reading, Step, Reaches}
use Rattle.reading.proofs.ShapeLaws.{reads_any}
use Rattle.reading.proofs.ReachLaws.{holds_on}
use Rattle.files.specs.TermFiles.{read_term_file}
use Rattle.files.specs.Shapes.{term_file_shape, told_term_file}
use Rattle.files.proofs.TermSteps.{term_at, InTerm, Turn, goes_on, refuses, leaves, term_turn}
use Rattle.files.proofs.TermFileLaws.{too_long, term_refused, bytes_left, term_read}

module _ (s : List ℕ) (base : ℕ) where
  -- nothing stands in front of the term, and the file is not too long
  abbrev Front : (goals from : ℕ) → Type 0
  Front n to = (to ≡ 0) × (length s ≤ most_bytes)

  -- what is told of the term
  first_term : (from : ℕ) (q : TermRead) → from ≡ 0 → term_at s P.JobTerm tactic_kind Front from ≡ q → term_at s P.JobTerm tactic_kind Front 0 ≡ q
  first_term from q e h = subst (λ (i : ℕ). term_at s P.JobTerm tactic_kind Front i ≡ q) e h

  -- by how far it was read
  data Known (w : List ℕ) (x : State) : Type 0 where
    is_refused : x.mode ≡ M.Refused → term_file_shape (read_term_file s) ≡ Err (refusal_of x) → Known w x
    in_term : InTerm s P.JobTerm tactic_kind Front base w x → Known w x
    is_read : x.mode ≡ M.Gave → term_file_shape (read_term_file s) ≡ Ok tt → Known w x

  behind_term_lem : (w : List ℕ) (x : State) (w' : List ℕ) (r : State) → InTerm s P.JobTerm tactic_kind Front base w x → Turn s P.JobTerm tactic_kind Front base x w' r → Known w' r
  unfolding behind_term behind_part behind_job
  behind_term_lem w x w' r t (goes_on u) = in_term u
  behind_term_lem w x w' r t (refuses m e) = is_refused m (term_refused s t.front.1 _ _ (first_term x.from _ t.front.0 e))
  behind_term_lem w x w' r t (leaves y b q) = subst (Known w') (sym (q ∙ ap (behind_part s y) b.part_is)) (go (eqb y.at (length s)) refl)
    where
      term : term_at s P.JobTerm tactic_kind Front 0 ≡ T.Read y.at y.fields
      term = first_term y.from _ b.front.0 b.term

      go : (c : Bool) → eqb y.at (length s) ≡ c → Known w' (cond c y (refusing y LengthWrong y.at))
      go true e = is_read b.mode_is (term_read s b.front.1 _ _ term (eqb-true y.at (length s) e))
      go false e = is_refused refl (bytes_left s b.front.1 _ _ term (eqb-false y.at (length s) e))

  keeps : (w : List ℕ) (x : State) (w' : List ℕ) (r : State) → Reading s w base x → x.mode ≡ M.Reads → Step s w base x w' r → Known w x → Known w' r
  keeps w x w' r h m step (is_refused z e) = cc
  keeps w x w' r h m step (in_term t) = behind_term_lem w x w' r t (term_turn s P.JobTerm tactic_kind Front base w x h refl high_of_job t w' r step)
  keeps w x w' r h m step (is_read z e) = cc

  begins_known : (w : List ℕ) → Known w (begun_file s P.JobTerm)
  unfolding begun_file blank_state outcome resumed
  begins_known w = go (ltb most_bytes (length s)) refl
    where
      go : (b : Bool) → ltb most_bytes (length s) ≡ b → Known w (cond b (refusing (asking (blank_state P.JobTerm) M.Reads P.JobTerm 0 (length s)) InputTooLong 0) (asking (blank_state P.JobTerm) M.Reads P.JobTerm 0 (length s)))
      go true e = is_refused refl (too_long s (ltb-true most_bytes (length s) e))
      go false e = in_term (record { mode_is = refl; part_is = refl; front = (refl, ltb-false most_bytes (length s) e); comes_to = reads_any s tactic_kind (length s + 1) 0 (length s) 0 (omega arith) (omega arith) })

  tells : (w : List ℕ) (x : State) → Known w x → (x.mode ≡ M.Reads → ⊥) → told_term_file x ≡ term_file_shape (read_term_file s)
  tells w x (is_refused m e) n = rw m (sym e)
  tells w x (in_term t) n = absurd (n t.mode_is)
  tells w x (is_read m e) n = rw m (sym e)

  -- from the first state on
  pub term_file_told : (w : List ℕ) → Reading s w base (begun_file s P.JobTerm) → (w' : List ℕ) (r : State) → Reaches s base w (begun_file s P.JobTerm) w' r → (r.mode ≡ M.Reads → ⊥) → told_term_file r ≡ term_file_shape (read_term_file s)
  term_file_told w h w' r reaches n = tells w' r (holds_on s base Known keeps w _ h (begins_known w) w' r reaches) n
