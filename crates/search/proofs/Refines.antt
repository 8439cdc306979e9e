-- The machine's events are the search's: each beginning is one event and leaves the state of the events behind it.
-- Assumes nothing.
use Prim.Native.Nat.{ℕ, zero, suc}
use mathlib.Core.Path.{◌≡◌, refl, ap, sym, ◌∙◌}
use mathlib.Core.Bool.{Bool, true, false, cond}
use mathlib.Core.List.{List, [], ◌∷◌, ◌++◌, append_assoc, append-nil}
use mathlib.Core.Option.{Option, none, some}
use Rattle.format.specs.declared.values.Goal.{Goal}
use Rattle.format.specs.declared.values.Label.{Label}
use Rattle.format.specs.Terms.{Term, atomic, id, label, sequence, tensor, empty, alternation, assert, defined}
use Rattle.tables.specs.Tables.{Table}
use Rattle.tables.specs.Lookup.{find_body}
use Rattle.evaluation.specs.Outcomes.{rule_gives, one_goal, no_goal, assert_gives, joined_fits}
use Rattle.search.specs.Events.{Event, begun, found, for_each}
use Rattle.search.specs.Trace.{Searches, found_if, enter_if, in_label, then_right, beside_right, splits, following, trace}
use Rattle.search.specs.Answer.{first_found, search}
use Rattle.search.specs.Machine.{Frame, labelled, sequence_left, sequence_right, tensor_left, tensor_right, Choice, or_else, next_split, Control, running, finished, nothing, after, with_next, split, back, give, give_if, enter_or_back, level_or_back, begin, step_from, step, run, outcome, start}
use Rattle.search.specs.Meaning.{onward, later, events}
use Rattle.search.proofs.EventLaws.{each_append, each_each, each_same, each_found}

module _ (T : Table) where
  -- one split, and what waits
  beside-onward : (inner : Searches) (u : Term) (g₂ : List Goal) (es : List Event) (k : List Frame) →
      for_each (beside_right inner u g₂ es) (onward T k)
      ≡ for_each es (λ s h. for_each (inner u g₂) λ r m. cond (joined_fits (h ++ m)) (onward T k (tensor s r) (h ++ m)) [])
  unfolding beside_right for_each
  beside-onward inner u g₂ es k =
      each_each es _ (onward T k)
      ∙ each_same es _ _ (λ s h. each_each (inner u g₂) _ (onward T k) ∙ each_same (inner u g₂) _ _ (λ r m. go s h r m (joined_fits (h ++ m))))
    where
      go : (s : Term) (h : List Goal) (r : Term) (m : List Goal) (x : Bool) →
          for_each (cond x (found (tensor s r) (h ++ m) ∷ []) []) (onward T k) ≡ cond x (onward T k (tensor s r) (h ++ m)) []
      go s h r m true = append-nil (onward T k (tensor s r) (h ++ m))
      go s h r m false = refl

  -- a tensor on one split and the next ones
  split-events : (b : ℕ) (t u : Term) (g₁ g₂ : List Goal) (k : List Frame) (c : List Choice) →
      events T (split b t u g₁ g₂ k c) ≡ for_each (splits (trace T (suc b)) t u g₁ g₂) (onward T k) ++ later T c
  unfolding split events with_next splits later onward
  split-events b t u g₁ [] k c = ap {B = List Event} (λ r. r ++ later T c) (sym (beside-onward (trace T (suc b)) u [] (trace T (suc b) t g₁) k))
  split-events b t u g₁ (γ ∷ g₂) k c =
      ap {B = List Event} (λ r. r ++ (for_each (splits (trace T (suc b)) t u (g₁ ++ (γ ∷ [])) g₂) (onward T k) ++ later T c))
      (sym (beside-onward (trace T (suc b)) u (γ ∷ g₂) (trace T (suc b) t g₁) k))
      ∙ sym (append_assoc (for_each (beside_right (trace T (suc b)) u (γ ∷ g₂) (trace T (suc b) t g₁)) (onward T k)) _ (later T c))
      ∙ ap {B = List Event} (λ r. r ++ later T c)
      (sym (each_append (beside_right (trace T (suc b)) u (γ ∷ g₂) (trace T (suc b) t g₁)) (splits (trace T (suc b)) t u (g₁ ++ (γ ∷ [])) g₂) (onward T k)))

  back-events : (c : List Choice) → events T (back c) ≡ later T c
  unfolding back events later
  back-events [] = refl
  back-events (or_else b u g k ∷ c) = refl
  back-events (next_split b t u g₁ g₂ k ∷ c) = split-events b t u g₁ g₂ k c

  give-events : (s : Term) (g : List Goal) (k : List Frame) (c : List Choice) → events T (give s g k c) ≡ onward T k s g ++ later T c
  unfolding give events onward
  give-events s g [] c = refl
  give-events s g (labelled l ∷ k) c = give-events (label l s) g k c
  give-events s g (sequence_left b u ∷ k) c = refl
  give-events s g (sequence_right r ∷ k) c = give-events (sequence r s) g k c
  give-events s g (tensor_left b u h ∷ k) c = refl
  give-events s g (tensor_right r h ∷ k) c = go (joined_fits (h ++ g)) (give-events (tensor r s) (h ++ g) k c)
    where
      go : (x : Bool) → events T (give (tensor r s) (h ++ g) k c) ≡ onward T k (tensor r s) (h ++ g) ++ later T c →
          events T (cond x (give (tensor r s) (h ++ g) k c) (back c)) ≡ cond x (onward T k (tensor r s) (h ++ g)) [] ++ later T c
      go true q = q
      go false q = back-events c

  give_if_events : (s : Term) (o : Option (List Goal)) (k : List Frame) (c : List Choice) →
      events T (give_if s o k c) ≡ for_each (found_if s o) (onward T k) ++ later T c
  unfolding for_each
  give_if_events s none k c = back-events c
  give_if_events s (some g) k c = give-events s g k c ∙ ap {B = List Event} (λ r. r ++ later T c) (sym (append-nil (onward T k s g)))

  -- no level is left: no inner term is begun
  nothing_below : (t u : Term) (g₁ g₂ : List Goal) → splits (trace T zero) t u g₁ g₂ ≡ []
  unfolding splits beside_right trace for_each
  nothing_below t u g₁ [] = refl
  nothing_below t u g₁ (γ ∷ g₂) = nothing_below t u (g₁ ++ (γ ∷ [])) g₂

  label_events : (b : ℕ) (l : Label) (t : Term) (g : List Goal) (k : List Frame) (c : List Choice) →
      events T (level_or_back b c λ d. enter_or_back (one_goal g) c λ h. running d t h (labelled l ∷ k) c)
      ≡ for_each (enter_if (one_goal g) λ h. in_label l (trace T b t h)) (onward T k) ++ later T c
  unfolding in_label for_each trace events onward
  label_events zero l t [] k c = back-events c
  label_events zero l t (γ ∷ []) k c = back-events c
  label_events zero l t (γ ∷ δ ∷ g) k c = back-events c
  label_events (suc d) l t [] k c = back-events c
  label_events (suc d) l t (γ ∷ []) k c = ap {B = List Event} (λ r. r ++ later T c) (sym (go (trace T (suc d) t (γ ∷ []))))
    where
      go : (es : List Event) → for_each (for_each es λ s g. found (label l s) g ∷ []) (onward T k) ≡ for_each es (onward T (labelled l ∷ k))
      go es = each_each es _ (onward T k) ∙ each_same es _ _ (λ s g. append-nil (onward T k (label l s) g))
  label_events (suc d) l t (γ ∷ δ ∷ g) k c = back-events c

  sequence_events : (b : ℕ) (t u : Term) (g : List Goal) (k : List Frame) (c : List Choice) →
      events T (level_or_back b c λ d. running d t g (sequence_left d u ∷ k) c) ≡ for_each (then_right (trace T b) u (trace T b t g)) (onward T k) ++ later T c
  unfolding then_right for_each trace events onward
  sequence_events zero t u g k c = back-events c
  sequence_events (suc d) t u g k c = ap {B = List Event} (λ r. r ++ later T c) (sym (go (trace T (suc d) t g)))
    where
      go : (es : List Event) → for_each (for_each es λ s g. for_each (trace T (suc d) u g) λ r h. found (sequence s r) h ∷ []) (onward T k)
          ≡ for_each es (onward T (sequence_left d u ∷ k))
      go es =
          each_each es _ (onward T k)
          ∙ each_same es _ _ (λ s g. each_each (trace T (suc d) u g) _ (onward T k) ∙ each_same (trace T (suc d) u g) _ _ (λ r h. append-nil (onward T k (sequence s r) h)))

  tensor_events : (b : ℕ) (t u : Term) (g : List Goal) (k : List Frame) (c : List Choice) →
      events T (level_or_back b c λ d. split d t u [] g k c) ≡ for_each (splits (trace T b) t u [] g) (onward T k) ++ later T c
  unfolding for_each
  tensor_events zero t u g k c = back-events c ∙ ap (λ (es : List Event). for_each es (onward T k) ++ later T c) (sym (nothing_below t u [] g))
  tensor_events (suc d) t u g k c = split-events d t u [] g k c

  alternation_events : (b : ℕ) (t u : Term) (g : List Goal) (k : List Frame) (c : List Choice) →
      events T (level_or_back b c λ d. running d t g k (or_else d u g k ∷ c)) ≡ for_each (trace T b t g ++ trace T b u g) (onward T k) ++ later T c
  unfolding for_each trace events later
  alternation_events zero t u g k c = back-events c
  alternation_events (suc d) t u g k c =
      sym (append_assoc (for_each (trace T (suc d) t g) (onward T k)) (for_each (trace T (suc d) u g) (onward T k)) (later T c))
      ∙ ap {B = List Event} (λ r. r ++ later T c) (sym (each_append (trace T (suc d) t g) (trace T (suc d) u g) (onward T k)))

  defined_events : (b : ℕ) (o : Option Term) (g : List Goal) (k : List Frame) (c : List Choice) →
      events T (level_or_back b c λ d. enter_or_back o c λ t. running d t g k c) ≡ for_each (enter_if o λ t. trace T b t g) (onward T k) ++ later T c
  unfolding for_each trace events
  defined_events zero none g k c = back-events c
  defined_events zero (some t) g k c = back-events c
  defined_events (suc d) none g k c = back-events c
  defined_events (suc d) (some t) g k c = refl

  begin-events : (b : ℕ) (t : Term) (g : List Goal) (k : List Frame) (c : List Choice) →
      events T (begin T b t g k c) ≡ for_each (following T (trace T b) t g) (onward T k) ++ later T c
  unfolding begin following
  begin-events b (atomic a) g k c = give_if_events (atomic a) (rule_gives T a g) k c
  begin-events b id g k c = give_if_events id (one_goal g) k c
  begin-events b (label l t) g k c = label_events b l t g k c
  begin-events b (sequence t u) g k c = sequence_events b t u g k c
  begin-events b (tensor t u) g k c = tensor_events b t u g k c
  begin-events b empty g k c = give_if_events empty (no_goal g) k c
  begin-events b (alternation t u) g k c = alternation_events b t u g k c
  begin-events b (assert p) g k c = give_if_events id (assert_gives T p g) k c
  begin-events b (defined n) g k c = defined_events b (find_body T n) g k c

  -- STEP: the events of a state in which a term is to begin are a beginning and the events of the next state.
  pub step-events : (b : ℕ) (t : Term) (g : List Goal) (k : List Frame) (c : List Choice) →
      events T (running b t g k c) ≡ begun ∷ events T (begin T b t g k c)
  unfolding events trace for_each
  step-events b t g k c = ap {B = List Event} (λ r. begun ∷ r) (sym (begin-events b t g k c))

  -- REFINES: after b steps the machine has come to what its events come to under a budget of b.
  pub run_first : (b n : ℕ) (κ : Control) → outcome (run T b (after n κ)).steps (run T b (after n κ)).control ≡ first_found b n (events T κ)
  unfolding run step step_from outcome first_found events
  run_first zero n (running d t g k c) = sym (ap (first_found zero n) (step-events d t g k c))
  run_first (suc b) n (running d t g k c) = run_first b (suc n) (begin T d t g k c) ∙ sym (ap (first_found (suc b) n) (step-events d t g k c))
  run_first zero n (finished s g c) = refl
  run_first (suc b) n (finished s g c) = run_first b n (finished s g c)
  run_first zero n nothing = refl
  run_first (suc b) n nothing = run_first b n nothing

  -- SEARCH: the machine, started with the levels below the term, comes to what the search comes to.
  pub machine_searches : (b h : ℕ) (t : Term) (g : List Goal) →
      outcome (run T b (start h t g)).steps (run T b (start h t g)).control ≡ search T (suc h) b t g
  unfolding start search events onward later
  machine_searches b h t g =
      run_first b 0 (running h t g [] []) ∙ ap (first_found b 0) (append-nil (for_each (trace T (suc h) t g) (onward T [])) ∙ each_found (trace T (suc h) t g))
