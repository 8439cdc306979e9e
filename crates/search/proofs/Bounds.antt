-- What a search holds: the fields of a proof that it gives are at most its steps, and its steps at most the budget. The first is kept by the machine's moves, the second by the events.
-- Assumes nothing.
use Prim.Native.Nat.{ℕ, zero, suc, ◌+◌, ◌≤◌}
use mathlib.Core.Path.{◌≡◌, subst, ◌∙◌}
use mathlib.Core.Bool.{Bool, true, false, cond}
use mathlib.Core.List.{List, [], ◌∷◌, ◌++◌}
use mathlib.Core.Option.{Option, none, some}
use native.Mathlib.Omega.{arith}
use Rattle.format.specs.declared.values.Goal.{Goal}
use Rattle.format.specs.Terms.{Term, atomic, id, label, sequence, tensor, empty, alternation, assert, defined, fields}
use Rattle.tables.specs.Tables.{Table}
use Rattle.tables.specs.Lookup.{find_body}
use Rattle.evaluation.specs.Outcomes.{rule_gives, one_goal, no_goal, assert_gives, joined_fits}
use Rattle.search.specs.Events.{Event, begun, found}
use Rattle.search.specs.Trace.{trace}
use Rattle.search.specs.Answer.{Searched, proved, exhausted, spent, first_found, search}
use Rattle.search.specs.Machine.{Frame, labelled, sequence_left, sequence_right, tensor_left, tensor_right, Choice, or_else, next_split, Control, running, finished, nothing, after, with_next, split, back, give, give_if, enter_or_back, level_or_back, begin, step_from, step, run, outcome, start}
use Rattle.search.specs.Held.{held, FieldsWithin, ChoicesWithin}
use Rattle.search.proofs.Refines.{machine_searches}

-- after more steps as well
choices_later : (n m : ℕ) → n ≤ m → (c : List Choice) → ChoicesWithin n c → ChoicesWithin m c
unfolding ChoicesWithin
choices_later n m l [] h = h
choices_later n m l (or_else b u g k ∷ c) h = (omega (arith, l, h.0), choices_later n m l c h.1)
choices_later n m l (next_split b t u g₁ g₂ k ∷ c) h = (omega (arith, l, h.0), choices_later n m l c h.1)

module _ (n : ℕ) where
  with_next_within : (b : ℕ) (t u : Term) (g₁ g₂ : List Goal) (k : List Frame) (c : List Choice) → suc (held k) ≤ n → ChoicesWithin n c → ChoicesWithin n (with_next b t u g₁ g₂ k c)
  unfolding with_next ChoicesWithin
  with_next_within b t u g₁ [] k c l h = h
  with_next_within b t u g₁ (γ ∷ g₂) k c l h = (l, h)

  split-within : (b : ℕ) (t u : Term) (g₁ g₂ : List Goal) (k : List Frame) (c : List Choice) → suc (held k) ≤ n → ChoicesWithin n c → FieldsWithin n (split b t u g₁ g₂ k c)
  unfolding split FieldsWithin held
  split-within b t u g₁ g₂ k c l h = (l, with_next_within b t u g₁ g₂ k c l h)

  back-within : (c : List Choice) → ChoicesWithin n c → FieldsWithin n (back c)
  unfolding back FieldsWithin ChoicesWithin
  back-within [] h = tt
  back-within (or_else b u g k ∷ c) h = (h.0, h.1)
  back-within (next_split b t u g₁ g₂ k ∷ c) h = split-within b t u g₁ g₂ k c h.0 h.1

  give-within : (s : Term) (g : List Goal) (k : List Frame) (c : List Choice) → fields s + held k ≤ n → ChoicesWithin n c → FieldsWithin n (give s g k c)
  unfolding give FieldsWithin held fields
  give-within s g [] c l h = (omega (arith, l), h)
  give-within s g (labelled m ∷ k) c l h = give-within (label m s) g k c (omega (arith, l)) h
  give-within s g (sequence_left b u ∷ k) c l h = (omega (arith, l), h)
  give-within s g (sequence_right r ∷ k) c l h = give-within (sequence r s) g k c (omega (arith, l)) h
  give-within s g (tensor_left b u m ∷ k) c l h = (omega (arith, l), h)
  give-within s g (tensor_right r m ∷ k) c l h = go (joined_fits (m ++ g)) (give-within (tensor r s) (m ++ g) k c (omega (arith, l)) h)
    where
      go : (x : Bool) → FieldsWithin n (give (tensor r s) (m ++ g) k c) → FieldsWithin n (cond x (give (tensor r s) (m ++ g) k c) (back c))
      go true y = y
      go false y = back-within c h

  give_if_within : (s : Term) (o : Option (List Goal)) (k : List Frame) (c : List Choice) → fields s + held k ≤ n → ChoicesWithin n c → FieldsWithin n (give_if s o k c)
  give_if_within s none k c l h = back-within c h
  give_if_within s (some g) k c l h = give-within s g k c l h

  enter-within : {A : Type 0} (o : Option A) (c : List Choice) (f : A → Control) → ChoicesWithin n c → ((a : A) → FieldsWithin n (f a)) → FieldsWithin n (enter_or_back o c f)
  enter-within none c f h r = back-within c h
  enter-within (some a) c f h r = r a

  level-within : (b : ℕ) (c : List Choice) (f : ℕ → Control) → ChoicesWithin n c → ((d : ℕ) → FieldsWithin n (f d)) → FieldsWithin n (level_or_back b c f)
  level-within zero c f h r = back-within c h
  level-within (suc b) c f h r = r b

begin-within : (n : ℕ) (T : Table) (b : ℕ) (t : Term) (g : List Goal) (k : List Frame) (c : List Choice) → held k ≤ n → ChoicesWithin n c → FieldsWithin (suc n) (begin T b t g k c)
unfolding begin fields FieldsWithin held ChoicesWithin
begin-within n T b (atomic a) g k c l h = give_if_within (suc n) (atomic a) (rule_gives T a g) k c (omega (arith, l)) (choices_later n (suc n) (omega arith) c h)
begin-within n T b id g k c l h = give_if_within (suc n) id (one_goal g) k c (omega (arith, l)) (choices_later n (suc n) (omega arith) c h)
begin-within n T b (label m t) g k c l h =
    let h' = choices_later n (suc n) (omega arith) c h in level-within (suc n) b c _ h' (λ d. enter-within (suc n) (one_goal g) c _ h' (λ a. (omega (arith, l), h')))
begin-within n T b (sequence t u) g k c l h = let h' = choices_later n (suc n) (omega arith) c h in level-within (suc n) b c _ h' (λ d. (omega (arith, l), h'))
begin-within n T b (tensor t u) g k c l h = let h' = choices_later n (suc n) (omega arith) c h in level-within (suc n) b c _ h' (λ d. split-within (suc n) d t u [] g k c (omega (arith, l)) h')
begin-within n T b empty g k c l h = give_if_within (suc n) empty (no_goal g) k c (omega (arith, l)) (choices_later n (suc n) (omega arith) c h)
begin-within n T b (alternation t u) g k c l h = let h' = choices_later n (suc n) (omega arith) c h in level-within (suc n) b c _ h' (λ d. (omega (arith, l), (omega (arith, l), h')))
begin-within n T b (assert γ) g k c l h = give_if_within (suc n) id (assert_gives T γ g) k c (omega (arith, l)) (choices_later n (suc n) (omega arith) c h)
begin-within n T b (defined m) g k c l h =
    let h' = choices_later n (suc n) (omega arith) c h in level-within (suc n) b c _ h' (λ d. enter-within (suc n) (find_body T m) c _ h' (λ t. (omega (arith, l), h')))

run-within : (T : Table) (b n : ℕ) (κ : Control) → FieldsWithin n κ → FieldsWithin (run T b (after n κ)).steps (run T b (after n κ)).control
unfolding run step step_from FieldsWithin
run-within T zero n κ h = h
run-within T (suc b) n (running d t g k c) h = run-within T b (suc n) (begin T d t g k c) (begin-within n T d t g k c h.0 h.1)
run-within T (suc b) n (finished s g c) h = run-within T b n (finished s g c) h
run-within T (suc b) n nothing h = run-within T b n nothing h

proved_within : (n : ℕ) (κ : Control) {s : Term} {k : List Goal} {m : ℕ} → FieldsWithin n κ → outcome n κ ≡ proved s k m → fields s ≤ m
unfolding outcome FieldsWithin
proved_within n (running d t g k c) h q = let z : ◌≡◌ {A = ℕ} 0 1 = cc in absurd (omega arith)
proved_within n (finished r g c) {s} {k} {m} h q = let p : r ≡ s = cc in let e : n ≡ m = cc in subst (λ (x : Term). fields x ≤ m) p (omega (arith, h.0, e))
proved_within n nothing h q = let z : ◌≡◌ {A = ℕ} 0 1 = cc in absurd (omega arith)

-- FIELDS: a proof that the search gives has at most as many fields as steps were taken.
pub search-fields : (T : Table) (h b : ℕ) (t : Term) (g : List Goal) {s : Term} {k : List Goal} {n : ℕ} → search T h b t g ≡ proved s k n → fields s ≤ n
unfolding search trace first_found start FieldsWithin ChoicesWithin held
search-fields T zero b t g q = let z : ◌≡◌ {A = ℕ} 0 1 = cc in absurd (omega arith)
search-fields T (suc h) b t g q =
    proved_within _ (run T b (start h t g)).control (run-within T b 0 (running h t g [] []) (omega arith, tt)) (machine_searches T b h t g ∙ q)

-- the steps that an answer comes with
abbrev pub steps_of : Searched → ℕ
steps_of (proved s k n) = n
steps_of (exhausted n) = n
steps_of (spent n) = n

-- STEPS: no search takes more steps than its budget.
first_within : (b n : ℕ) (es : List Event) → steps_of (first_found b n es) ≤ n + b
unfolding first_found
first_within b n [] = omega arith
first_within b n (found r h ∷ es) = omega arith
first_within zero n (begun ∷ es) = omega arith
first_within (suc b) n (begun ∷ es) = omega (arith, first_within b (suc n) es)

pub search_steps : (T : Table) (h b : ℕ) (t : Term) (g : List Goal) → steps_of (search T h b t g) ≤ b
unfolding search
search_steps T h b t g = omega (arith, first_within b 0 (trace T h t g))
