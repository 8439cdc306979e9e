-- Reading a proof file: what is known in each state, that each turn keeps it, and what the last state tells.
-- Assumes nothing.
use mathlib.Core.Path.{◌≡◌, refl, sym, ap, subst, ◌∙◌}
use Rattle.std.specs.Prelude.{Ok, Err}
use mathlib.Core.Bool.{Bool, true, false, cond}
use mathlib.Core.List.{List}
use Prim.Native.Nat.{ℕ}
use lib.Dec.{eqb}
use lib.ListN.{length}
use borrow.Author.Tests.{eqb-true, eqb-false}
use Rattle.format.specs.GoalsRead as G
use Rattle.format.specs.TermRead as T
use Rattle.format.specs.declared.refusals.Cause.TheVariants.{LengthWrong}
use Rattle.format.specs.Tags.{hiproof_kind}
use Rattle.format.specs.Goals.{read_goals}
use Rattle.format.specs.Shapes.{goals_shape}
use Rattle.parts.specs.declared.state.Mode.TheVariants as M
use Rattle.parts.specs.declared.state.Part.TheVariants as P
use Rattle.parts.specs.declared.state.State.{State}
use Rattle.parts.specs.States.{refusing, refusal_of, asking, counted, remaining_taken, behind_list, behind_part, behind_term, begun_file}
use Rattle.parts.proofs.AskLaws.{high_of_proof}
use Rattle.reading.specs.Reading.{Reading, Step, Reaches}
use Rattle.reading.proofs.ReachLaws.{holds_on}
use Rattle.files.specs.Proofs.{read_proof_fields}
use Rattle.files.specs.Shapes.{proof_parts, proof_shape, told_proof}
use Rattle.files.proofs.ListSteps.{stated, ListStep, stops, reads, list_step, First, Begins, long, first, begins, first_step}
use Rattle.files.proofs.TermSteps.{term_at, InTerm, Turn, goes_on, refuses, leaves, term_begun, term_turn}
use Rattle.files.proofs.ProofLaws.{stated_refused, hiproof_refused, list_refused, bytes_left, proof_read}

module _ (s : List ℕ) (base : ℕ) where
  -- in front of the term stands the list of the stated goals
  abbrev Front : (goals from : ℕ) → Type 0
  Front n to = stated s ≡ G.Read n to

  -- by how far it was read
  data Known (w : List ℕ) (x : State) : Type 0 where
    is_refused : x.mode ≡ M.Refused → proof_shape (read_proof_fields s) ≡ Err (refusal_of x) → Known w x
    in_goals : First s P.ProofGoals x → Known w x
    in_hiproof : InTerm s P.ProofTerm hiproof_kind Front base w x → Known w x
    in_remaining : x.mode ≡ M.Reads → x.part ≡ P.Remaining → x.at ≡ x.rest → stated s ≡ G.Read x.goals x.from → term_at s P.ProofTerm hiproof_kind Front x.from ≡ T.Read x.rest x.fields → Known w x
    is_read : x.mode ≡ M.Gave → proof_shape (read_proof_fields s) ≡ Ok (proof_parts x.goals x.from x.rest x.second) → Known w x

  module _ (w : List ℕ) (x : State) (h : Reading s w base x) (w' : List ℕ) (r : State) where
    behind_goals : First s P.ProofGoals x → w' ≡ w → ListStep s x (stated s) r → Known w' r
    unfolding behind_list
    behind_goals f v (stops m e) = is_refused m (stated_refused s _ _ e)
    behind_goals f v (reads n close e q) = in_hiproof (rw (v, q, f.part_is) (term_begun s P.ProofTerm hiproof_kind Front base w x h P.ProofGoals refl f n close e))

    behind_hiproof : InTerm s P.ProofTerm hiproof_kind Front base w x → Turn s P.ProofTerm hiproof_kind Front base x w' r → Known w' r
    unfolding behind_term behind_part
    behind_hiproof t (goes_on u) = in_hiproof u
    behind_hiproof t (refuses m e) = is_refused m (hiproof_refused s _ _ t.front _ _ e)
    behind_hiproof t (leaves y b q) =
        rw (q, b.part_is)
        (in_remaining refl refl refl b.front b.term)

    behind_remaining : x.mode ≡ M.Reads → x.part ≡ P.Remaining → x.at ≡ x.rest → stated s ≡ G.Read x.goals x.from → term_at s P.ProofTerm hiproof_kind Front x.from ≡ T.Read x.rest x.fields → ListStep s x (goals_shape (read_goals s x.at (length s))) r → Known w' r
    unfolding behind_list remaining_taken
    behind_remaining m p a l t (stops z e) = is_refused z (list_refused s _ _ l _ _ t _ _ (rw a at e))
    behind_remaining m p a l t (reads n close e q) = subst (Known w') (sym (q ∙ ap (behind_list s x n close) p)) (go (eqb close x.end) refl)
      where
        e' : goals_shape (read_goals s x.rest (length s)) ≡ G.Read n close
        e' = rw a at e

        whole : x.end ≡ length s
        whole = (h.outside (rw p refl)).1

        go : (b : Bool) → eqb close x.end ≡ b → Known w' (cond b (asking (counted x x.goals x.first n x.from x.rest x.field) M.Gave x.part close x.end) (refusing x LengthWrong close))
        go true z = is_read refl (proof_read s _ _ l _ _ t _ _ e' (eqb-true close x.end z ∙ whole))
        go false z = is_refused refl (bytes_left s _ _ l _ _ t _ _ e' (λ i. eqb-false close x.end z (i ∙ sym whole)))

  keeps : (w : List ℕ) (x : State) (w' : List ℕ) (r : State) → Reading s w base x → x.mode ≡ M.Reads → Step s w base x w' r → Known w x → Known w' r
  keeps w x w' r h m step (is_refused z e) = cc
  keeps w x w' r h m step (in_goals f) =
      let l = first_step s w base P.ProofGoals refl x h f w' r step in
      behind_goals w x h w' r f l.0 l.1
  keeps w x w' r h m step (in_hiproof t) = behind_hiproof w x h w' r t (term_turn s P.ProofTerm hiproof_kind Front base w x h refl high_of_proof t w' r step)
  keeps w x w' r h m step (in_remaining n p a l t) =
      behind_remaining w x h w' r n p a l t (list_step s w base x h m (rw p refl) w' r step).1
  keeps w x w' r h m step (is_read z e) = cc

  begins_known : (w : List ℕ) (x : State) → Begins s P.ProofGoals x → Known w x
  begins_known w x (long m e) = is_refused m (stated_refused s _ _ e)
  begins_known w x (first f) = in_goals f

  tells : (w : List ℕ) (x : State) → Known w x → (x.mode ≡ M.Reads → ⊥) → told_proof x ≡ proof_shape (read_proof_fields s)
  tells w x (is_refused m e) n = rw m (sym e)
  tells w x (in_goals f) n = absurd (n f.mode_is)
  tells w x (in_hiproof t) n = absurd (n t.mode_is)
  tells w x (in_remaining m p a l t) n = absurd (n m)
  tells w x (is_read m e) n = rw m (sym e)

  -- from the first state on
  pub proof_told : (w : List ℕ) → Reading s w base (begun_file s P.ProofGoals) → (w' : List ℕ) (r : State) → Reaches s base w (begun_file s P.ProofGoals) w' r → (r.mode ≡ M.Reads → ⊥) → told_proof r ≡ proof_shape (read_proof_fields s)
  proof_told w h w' r reaches n = tells w' r (holds_on s base Known keeps w _ h (begins_known w _ (begins s P.ProofGoals)) w' r reaches) n
