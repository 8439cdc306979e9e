-- The machine decides the deterministic rules, within its budget; so the rules have one end. From the two directions of MachineResumes and
-- MachineTraced. Assumes nothing.
use Prim.Native.Nat.{ℕ, ◌+◌, ◌≤◌}
use mathlib.Core.Path.{◌≡◌, refl, ap, sym, ◌∙◌, subst}
use mathlib.Core.Logic.{◌↔◌}
use mathlib.Core.List.{List, []}
use native.Mathlib.Omega.{arith}
use native.Mathlib.Nat.{zero-add}
use Rattle.format.specs.declared.values.Goal.{Goal}
use Rattle.format.specs.Terms.{Term}
use lib.Dec.{eqb}
use mathlib.Core.Bool.{cond}
use Rattle.format.specs.declared.refusals.Cause.{Cause}
use Rattle.format.specs.Refusals.{number}
use Rattle.tables.specs.Tables.{Table, UniqueRules, UniqueDefinitions}
use Rattle.evaluation.specs.Outcomes.{Ending, proved, failed, ended}
use Rattle.evaluation.specs.Machine.{held, Place, Control, running, stopped, State, after, Running, unwind, run, start}
use Rattle.evaluation.specs.Ends.{End, proof, failure, overflow, excess, FewHeld, Ends}
use Rattle.evaluation.specs.EndingOf.{ending_of}
use Rattle.evaluation.proofs.RunLaws.{more_budget}
use Rattle.evaluation.proofs.MachineResumes.{resumes}
use Rattle.evaluation.proofs.MachineTraced.{run_traced}

-- the end of the rules that an ending stands for
abbrev limit_of : Cause → End
limit_of c = cond (eqb (number c) 40) excess overflow

abbrev end_of : Ending → End
end_of (proved s h) = proof s h
end_of failed = failure
end_of (ended c) = limit_of c

end_of_ending : (e : End) → end_of (ending_of e) ≡ e
unfolding number
end_of_ending (proof s h) = refl
end_of_ending failure = refl
end_of_ending overflow = refl
end_of_ending excess = refl

ending_injective : (e f : End) → ending_of e ≡ ending_of f → e ≡ f
ending_injective e f q = sym (end_of_ending e) ∙ ap end_of q ∙ end_of_ending f

module _ (T : Table) (rules : UniqueRules T) (definitions : UniqueDefinitions T) (π : Place) (t : Term) (g : List Goal) where
  ends_run : {n b : ℕ} {e : End} → Ends T FewHeld 0 g t n e → n ≤ b → run T b (start π t g) ≡ after n (stopped (ending_of e))
  unfolding unwind start held
  ends_run {n} {b} {e} r h =
      more_budget T n b (start π t g) n (ending_of e) ((resumes T rules definitions r π [] refl).runs 0 ∙ ap (λ (i : ℕ). after i (stopped (ending_of e))) (zero-add n)) h

  -- RUN: under budget b the machine has ended with e after n steps exactly if the rules end so, within the budget.
  pub run↔ends : (b n : ℕ) (e : End) → (run T b (start π t g) ≡ after n (stopped (ending_of e))) ↔ (Ends T FewHeld 0 g t n e × (n ≤ b))
  run↔ends b n e = (
    (λ q.
        let (f, r, p, h) = run_traced T definitions b π t g n (ending_of e) q in
        (subst (Ends T FewHeld 0 g t n) (ending_injective f e p) r, h)),
    (λ r. ends_run r.0 r.1),
  )

  -- The machine has no other ending.
  pub run-ending : (b n : ℕ) (f : Ending) → run T b (start π t g) ≡ after n (stopped f) → (e : End) × (ending_of e ≡ f) × Ends T FewHeld 0 g t n e
  run-ending b n f q = let (e, r, p, h) = run_traced T definitions b π t g n f q in (e, p, r)

  -- SPENT: the machine still runs when b steps are taken exactly if the rules have no end within the budget (and its steps are
  -- then the budget: `spent_steps` of RunLaws).
  pub running↔no_end : (b : ℕ) → Running (run T b (start π t g)).control ↔ ((n : ℕ) (e : End) → Ends T FewHeld 0 g t n e → n ≤ b → ⊥)
  running↔no_end b = (
    (λ r n e s h. subst (λ (σ : State). Running σ.control) (ends_run s h) r),
    (λ never. go never (run T b (start π t g)) refl),
  )
    where
      go : ((n : ℕ) (e : End) → Ends T FewHeld 0 g t n e → n ≤ b → ⊥) → (σ : State) → run T b (start π t g) ≡ σ → Running σ.control
      go never σ q = still σ.control refl
        where
          still : (κ : Control) → σ.control ≡ κ → Running κ
          still (running π u h w) p = tt
          still (stopped f) p =
              let c : σ ≡ after σ.steps (stopped f) = ap (after σ.steps) p in
              let (e, r, x, h) = run_traced T definitions b π t g σ.steps f (q ∙ c) in
              absurd (never σ.steps e r h)

  -- ONE END: a term has one end on its goals, after one number of steps.
  pub one_end : {n m : ℕ} {e f : End} → Ends T FewHeld 0 g t n e → Ends T FewHeld 0 g t m f → (n ≡ m) × (e ≡ f)
  one_end {n} {m} {e} {f} r r' =
      let q : after n (stopped (ending_of e)) ≡ after m (stopped (ending_of f)) = sym (ends_run {b = n + m} r (omega arith)) ∙ ends_run r' (omega arith) in
      let p : stopped (ending_of e) ≡ stopped (ending_of f) = ap (λ (σ : State). σ.control) q in
      let c : ending_of e ≡ ending_of f = cc in
      (ap (λ (σ : State). σ.steps) q, ending_injective e f c)
