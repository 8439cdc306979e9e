-- Going on: a state that is not the run's own is refused, and else the run of its steps and of the budget is one run of both.
-- Assumes nothing.
use Prim.Native.Nat.{ℕ, ◌+◌, ◌≤◌}
use mathlib.Core.Path.{◌≡◌, sym, ap, subst, ◌∙◌}
use mathlib.Core.Bool.{Bool, true, false}
use mathlib.Core.List.{List}
use mathlib.Core.Option.{Option}
use native.Mathlib.Omega.{arith}
use lib.ListN.{length}
use lib.Dec.{T}
use Rattle.format.specs.Limits.{most_steps}
use Rattle.format.specs.declared.refusals.Cause.TheVariants.{StateNotGenuine}
use Rattle.format.specs.Refusals.{number}
use Rattle.evaluation.specs.Machine as M
use Rattle.evaluation.specs.Machine.{after, run}
use Rattle.evaluation.proofs.RunLaws.{run_add}
use Rattle.answers.specs.declared.Answer.{Answer}
use Rattle.answers.specs.Answers as said
use Rattle.lent_frames.specs.declared.LentFrame.{LentFrame}
use Rattle.entries.specs.Run.{begins}
use Rattle.entries.specs.SavedState.{saved_state}
use Rattle.entries.specs.Halting.{steps_of, is_saved, genuine, going_on, resume_outcome}
use Rattle.entries.proofs.HaltingLaws.{both_read, genuine_goes_on}
use Rattle.arities.specs.Layout.{space_end}
use Rattle.arities.specs.Arities.{arities}
use Rattle.tactics.specs.Memory.{Same}
use Rattle.machine.specs.declared.state.Mode.TheVariants as is
use Rattle.machine.specs.declared.state.State.{State}
use Rattle.runner.specs.declared.last.Reached as told
use Rattle.runner.specs.Run.{ShowsState, Started, Ran}
use Rattle.runner.specs.Jobs.{FinishGiven}
use Rattle.runner.specs.LastState.{Reached}
use Rattle.runner.proofs.RunLaws.{known_same, if_running}
use Rattle.runner.proofs.LastLaws.{finish_given, reached_kept}
use Rattle.saver.specs.Save.{SaveGiven}
use Rattle.halting.specs.declared.halted.Halted.{Halted}
use Rattle.halting.specs.Halted.{refused_call, Answered, Keeps, Comes}
use Rattle.halting.specs.GoOn.{GoOnGiven}
use Rattle.halting.proofs.SavedLaws.{either}
use Rattle.halting.proofs.HaltLaws.{keeps, steps_stand}
use Rattle.halting.proofs.AgainLaws.{not_genuine_is_30}
use Rattle.halting.proofs.ComesLaws.{refusal_comes, run_comes}

-- a halted run, and steps from its state on
module _ (t s : List ℕ) (n : ℕ) (w : List ℕ) (x : State) (first term : ℕ) (q : Reached t s n w x first term) (m : x.mode ≡ is.Running) (c : ℕ) where
  pub started : n + c ≤ most_steps → space_end ≤ length w → Started t first s w x c
  started h l =
      if_running t s w x (λ κ. Started t first s w x c) m (λ π u g k r. record {
        steps_left = omega (arith, h, q.few_steps);
        space = l;
        table_small = q.table_small;
        job_small = omega (arith, q.job_stands.short);
        table = q.table;
        table_stands = q.table_stands;
        known = q.known;
        place = π;
        term = u;
        goals = g;
        frames = k;
        runs = r;
      }) (run q.table n (begins q.job)).control q.shows.shows

  -- are the steps of one run
  pub reached_on : n ≤ most_steps → (v : List ℕ) (y : State) → Ran t first s w x c v y → Reached t s (n + c) v y first term
  reached_on h v y a = record {
    table = q.table;
    table_reads = q.table_reads;
    table_small = q.table_small;
    table_stands = q.table_stands;
    known = known_same w v (arities q.table) (λ i l r. a.beyond i l) q.known;
    job = q.job;
    job_reads = q.job_reads;
    job_stands = q.job_stands;
    term_is = q.term_is;
    few_steps = omega (arith, a.few_steps, q.few_steps);
    shows =
        if_running t s w x (λ κ. run q.table n (begins q.job) ≡ after x.steps κ → ShowsState t s v y (run q.table (n + c) (begins q.job))) m
        (λ π u g k r e. subst (λ (τ : M.State). ShowsState t s v y τ) (ap (run q.table c) (sym e) ∙ sym (run_add q.table n c (begins q.job))) (a.shows q.table π u g k q.table_stands q.known r))
        (run q.table n (begins q.job)).control q.shows.shows (steps_stand t s n w x first term q h);
  }

module _ (t s saved : List ℕ) (c : ℕ) (w : List ℕ) (fs : List LentFrame) (r : told.Reached) (q : GoOnGiven t s saved c w fs r) where
  abbrev p : Reached t s (steps_of saved) w r.state r.first r.term
  p = q.again.reached

  steps_fit : steps_of saved ≤ most_steps
  steps_fit = omega (arith, q.again.within)

  own : Keeps w r.state (saved_state (run p.table (steps_of saved) (begins p.job)))
  own = keeps t s (steps_of saved) w r.state r.first r.term p steps_fit

  pub save_given : SaveGiven w fs r.state
  save_given = record { space = q.space; lent = q.lent; halts = λ m. (own.halted m).halts }

  -- the comparison says whether the state is genuine
  module _ (x : Bool) (told_own : (o : Option (List ℕ)) → Keeps w r.state o → x ≡ is_saved o saved) where
    compared : genuine p.table p.job saved ≡ x
    unfolding genuine
    compared = sym (told_own _ own)

    pub other_end : x ≡ false → (a : Answer) → a ≡ said.refusal (number StateNotGenuine) 0 0 0 → (v out : List ℕ) (g : Halted) → g ≡ refused_call a → Comes (resume_outcome t s saved c) out v g out
    unfolding resume_outcome
    other_end z a e v out g k = refusal_comes (resume_outcome t s saved c) v out a g (record {
      cause = StateNotGenuine;
      file = 0;
      place = 0;
      answer_is = e;
      outcome_is = not_genuine_is_30 t s saved c q.again.within w r.state r.first r.term p (compared ∙ z);
    }) k

    module _ (z : x ≡ true) where
      -- only a run that halted has a saved state
      running : r.state.mode ≡ is.Running
      unfolding is_saved
      running = either r.state _ (λ n. let e : false ≡ true = sym (told_own _ own ∙ ap (λ (o : Option (List ℕ)). is_saved o saved) (own.ended n)) ∙ z in absurd (subst T (sym e) tt)) (λ m. m)

      module _ (v : List ℕ) (len : length v ≡ length w) (same : Same 0 space_end w v) where
        there : Reached t s (steps_of saved) v r.state r.first r.term
        there = reached_kept t s (steps_of saved) w v r.state r.first r.term p running steps_fit len same

        pub steps_given : Started t r.first s v r.state c
        steps_given = started t s (steps_of saved) v r.state r.first r.term there running c q.again.within (omega (arith, q.space, len))

        module _ (u : List ℕ) (y : State) (a : Ran t r.first s v r.state c u y) where
          last : Reached t s (steps_of saved + c) u y r.first r.term
          last = reached_on t s (steps_of saved) v r.state r.first r.term there running c steps_fit u y a

          pub answer_given : FinishGiven s r.term u y
          answer_given = finish_given t s (steps_of saved + c) u y r.first r.term last q.again.within (omega (arith, q.space, len, a.same_length))

          pub on_end : (out : List ℕ) (g : Halted) (o : List ℕ) → Answered y s u out g o → Comes (resume_outcome t s saved c) out u g o
          unfolding resume_outcome reached_on last reached_kept there
          on_end out g o b =
              run_comes t s (steps_of saved + c) u y r.first r.term last q.again.within (resume_outcome t s saved c)
              (both_read t s (steps_of saved + c) (going_on saved c) q.again.within p.table p.job p.table_reads p.job_reads ∙ genuine_goes_on p.table p.job saved c (compared ∙ z))
              out g o b
