-- From the end of a term to the next: labels, and sequences whose right term ended, go into the hiproof; what is left to unwind comes to the same; every turn takes a waiting term off.
-- Assumes nothing.
use Prim.Native.Nat.{ℕ, ◌+◌, ◌<◌}
use mathlib.Core.Path.{◌≡◌, refl, sym, ap, subst, ◌∙◌}
use mathlib.Core.Bool.{Bool, true, false, cond}
use mathlib.Core.List.{List, [], ◌∷◌, ◌++◌, append_assoc}
use native.Mathlib.Omega.{arith}
use Rattle.format.specs.declared.values.Goal.{Goal}
use Rattle.format.specs.declared.values.Label.{Label}
use Rattle.format.specs.Terms.{Term, label, sequence, tensor}
use Rattle.evaluation.specs.Outcomes.{joined_fits}
use Rattle.outline.specs.Outline.{outline_of}
use Rattle.search.specs.Machine as M
use Rattle.search.specs.Machine.{labelled, sequence_left, sequence_right, tensor_left, tensor_right, give}
use Rattle.search_machine.specs.declared.state.Mode.TheVariants as is
use Rattle.search_machine.specs.declared.state.Mode.{Mode}
use Rattle.search_machine.specs.declared.state.State.{State}
use Rattle.search_machine.specs.Outlines.{field, frame_outline}
use Rattle.search_machine.specs.Shows.{FramesAt, set_aside, Gave, Config, next, gave, lost, Holds, settle, Shows}
use Rattle.search_machine.specs.Begun.{Stays}
use Rattle.search_machine.specs.Popping.{Active, pop, Waiting, Popped, Backing, WentBack, Unwinding, Unwound}
use Rattle.search_machine.proofs.PopLaws.{regrouped}

label_outline : (l : Label) (p : Term) → frame_outline (labelled l) ++ outline_of p ≡ outline_of (label l p)
unfolding outline_of
label_outline l p = refl

sequence_outline : (q p : Term) → frame_outline (sequence_right q) ++ outline_of p ≡ outline_of (sequence q p)
unfolding outline_of
sequence_outline q p = append_assoc (field 19 0) (outline_of q) (outline_of p)

settle-pop : (p : Term) (g : List Goal) (x : M.Frame) (k : List M.Frame) (c : List M.Choice) → settle (pop p g x k c) ≡ give p g (x ∷ k) c
unfolding settle pop give
settle-pop p g (labelled l) k c = refl
settle-pop p g (sequence_left b u) k c = refl
settle-pop p g (sequence_right r) k c = refl
settle-pop p g (tensor_left b u h) k c = refl
settle-pop p g (tensor_right r h) k c = go (joined_fits (h ++ g))
  where
    go : (b : Bool) → settle (cond b (gave (tensor r p) (h ++ g) k c) (lost c)) ≡ cond b (give (tensor r p) (h ++ g) k c) (M.back c)
    go true = refl
    go false = refl

-- what the code stands for, and what it comes to
pub record Same (table job w : List ℕ) (s : State) (x : Config) : Type 0 where
  pub config : Config
  pub holds : Holds table job w s config
  pub settles : settle config ≡ settle x

abbrev pub Towards : List ℕ → State → List ℕ → State → Type 0
Towards w₀ s₀ w s = (table job : List ℕ) (x : Config) → Holds table job w₀ s₀ x → Same table job w s x

pub start-here : (w : List ℕ) (s : State) → Towards w s w s
start-here w s table job x h = record { config = x; holds = h; settles = refl }

pub start_stays : (w : List ℕ) (s : State) → Stays w s w s
start_stays w s = record { same_length = refl; same_steps = refl; index_same = λ i a b. refl }

module _ (table job w : List ℕ) (s : State) (g : List Goal) (c : List M.Choice) where
  -- a term that has no node goes into the hiproof
  closed : (x : M.Frame) (k : List M.Frame) (p r : Term) → frame_outline x ++ outline_of p ≡ outline_of r → (FramesAt table job w s.arena (x ∷ k) s.link → FramesAt table job w s.arena k s.link)
      → Gave table job w s p g (x ∷ k) c → Gave table job w s r g k c
  unfolding set_aside
  closed x k p r e f h = record {
    mode_is = h.mode_is;
    low = h.low;
    goals = h.goals;
    frames = f h.frames;
    outlined = regrouped w s.outline x k p (outline_of r) e h.outlined;
    choices = h.choices;
    fits = record { space = omega (arith, h.fits.space); fields = h.fits.fields };
  }

  label_closed : (l : Label) (k : List M.Frame) (p : Term) → Gave table job w s p g (labelled l ∷ k) c → Gave table job w s (label l p) g k c
  unfolding FramesAt
  label_closed l k p h = closed (labelled l) k p (label l p) (label_outline l p) (λ f. f) h

  sequence_closed : (q : Term) (k : List M.Frame) (p : Term) → Gave table job w s p g (sequence_right q ∷ k) c → Gave table job w s (sequence q p) g k c
  unfolding FramesAt
  sequence_closed q k p h = closed (sequence_right q) k p (sequence q p) (sequence_outline q p) (λ f. f) h

  -- the innermost term that waits to go on
  record Absorbed (p : Term) (k : List M.Frame) : Type 0 where
    pub piece : Term
    pub frame : M.Frame
    pub frames : List M.Frame
    pub active : Active frame
    pub is : Gave table job w s piece g (frame ∷ frames) c
    pub gives : give piece g (frame ∷ frames) c ≡ give p g k c

  absorb : (k : List M.Frame) (p : Term) → (s.link ≡ 0 → ⊥) → Gave table job w s p g k c → Absorbed p k
  unfolding FramesAt give
  absorb [] p z h = absurd (z h.frames)
  absorb (labelled l ∷ k) p z h =
      let y = absorb k (label l p) z (label_closed l k p h) in record { piece = y.piece; frame = y.frame; frames = y.frames; active = y.active; is = y.is; gives = y.gives }
  absorb (sequence_left b u ∷ k) p z h = record { piece = p; frame = sequence_left b u; frames = k; active = tt; is = h; gives = refl }
  absorb (sequence_right q ∷ k) p z h =
      let y = absorb k (sequence q p) z (sequence_closed q k p h) in record { piece = y.piece; frame = y.frame; frames = y.frames; active = y.active; is = y.is; gives = y.gives }
  absorb (tensor_left b u m ∷ k) p z h = record { piece = p; frame = tensor_left b u m; frames = k; active = tt; is = h; gives = refl }
  absorb (tensor_right q m ∷ k) p z h = record { piece = p; frame = tensor_right q m; frames = k; active = tt; is = h; gives = refl }

  -- none waits: an evaluation was found
  finishes : (k : List M.Frame) (p : Term) → s.link ≡ 0 → Gave table job w s p g k c → Shows table job w s (give p g k c)
  unfolding FramesAt give Shows
  finishes [] p z h = h
  finishes (labelled l ∷ k) p z h = finishes k (label l p) z (label_closed l k p h)
  finishes (sequence_left b u ∷ k) p z h = absurd (omega (arith, z, h.frames.0.low))
  finishes (sequence_right q ∷ k) p z h = finishes k (sequence q p) z (sequence_closed q k p h)
  finishes (tensor_left b u m ∷ k) p z h = absurd (omega (arith, z, h.frames.0.low))
  finishes (tensor_right q m ∷ k) p z h = absurd (omega (arith, z, h.frames.0.low))

module _ (table job w : List ℕ) (s : State) where
  -- a state that gives, with a term that waits to go on
  record Gives (x : Config) : Type 0 where
    pub piece : Term
    pub goals : List Goal
    pub frame : M.Frame
    pub frames : List M.Frame
    pub choices : List M.Choice
    pub active : Active frame
    pub is : Gave table job w s piece goals (frame ∷ frames) choices
    pub settles : give piece goals (frame ∷ frames) choices ≡ settle x

  gives : s.mode ≡ is.Gave → (s.link ≡ 0 → ⊥) → (x : Config) → Holds table job w s x → Gives x
  unfolding Holds settle
  gives m z (next b t g k c) h = absurd (cc (m, h.mode_is))
  gives m z (gave p g k c) h =
      let y = absorb table job w s g c k p z h in record { piece = y.piece; goals = g; frame = y.frame; frames = y.frames; choices = c; active = y.active; is = y.is; settles = y.gives }
  gives m z (lost c) h = absurd (cc (m, h.mode_is))

  ended : s.mode ≡ is.Gave → s.link ≡ 0 → (x : Config) → Holds table job w s x → Shows table job w s (settle x)
  unfolding Holds settle
  ended m z (next b t g k c) h = absurd (cc (m, h.mode_is))
  ended m z (gave p g k c) h = finishes table job w s g c k p z h
  ended m z (lost c) h = absurd (cc (m, h.mode_is))

  -- a term is to begin
  entering : s.mode ≡ is.Running → (x : Config) → Holds table job w s x → Shows table job w s (settle x)
  unfolding Holds settle Shows
  entering m (next b t g k c) h = h
  entering m (gave p g k c) h = absurd (cc (m, h.mode_is))
  entering m (lost c) h = absurd (cc (m, h.mode_is))

  record Loses (x : Config) : Type 0 where
    pub choices : List M.Choice
    pub is : x ≡ lost choices

  loses : (s.mode ≡ is.Gave → ⊥) → (s.mode ≡ is.Running → ⊥) → (x : Config) → Holds table job w s x → Loses x
  unfolding Holds
  loses a b (next d t g k c) h = absurd (b h.mode_is)
  loses a b (gave p g k c) h = absurd (a h.mode_is)
  loses a b (lost c) h = record { choices = c; is = refl }

module _ (w₀ : List ℕ) (s₀ : State) (w : List ℕ) (s : State) (way : Towards w₀ s₀ w s) (stays : Stays w₀ s₀ w s) where
  pub waits : Unwinding w₀ s₀ → s.mode ≡ is.Gave → (s.link ≡ 0 → ⊥) → Waiting w s
  waits q m z =
      let y = way q.table q.job q.config q.holds in
      let x = gives q.table q.job w s m z y.config y.holds in
      record {
        few_steps = omega (arith, q.few_steps, stays.same_steps);
        space = omega (arith, q.space, stays.same_length);
        table = q.table;
        job = q.job;
        piece = x.piece;
        goals = x.goals;
        frame = x.frame;
        frames = x.frames;
        choices = x.choices;
        active = x.active;
        gave = x.is;
      }

  pub stays_next : (v : List ℕ) (r : State) → Stays w s v r → Stays w₀ s₀ v r
  stays_next v r st = record {
    same_length = st.same_length ∙ stays.same_length;
    same_steps = st.same_steps ∙ stays.same_steps;
    index_same = λ i a b. st.index_same i a b ∙ stays.index_same i a b;
  }

  pub way_next : s.mode ≡ is.Gave → (s.link ≡ 0 → ⊥) → (v : List ℕ) (r : State) → Popped w s v r → Towards w₀ s₀ v r
  way_next m z v r d table job x h =
      let y = way table job x h in
      let u = gives table job w s m z y.config y.holds in
      record {
        config = pop u.piece u.goals u.frame u.frames u.choices;
        holds = d table job u.piece u.goals u.frame u.frames u.choices u.active u.is;
        settles = settle-pop u.piece u.goals u.frame u.frames u.choices ∙ u.settles ∙ y.settles;
      }

  pub at_end : s.mode ≡ is.Gave → s.link ≡ 0 → Unwound w₀ s₀ w s
  at_end m z table job x h = let y = way table job x h in subst (λ (κ : M.Control). Shows table job w s κ) y.settles (ended table job w s m z y.config y.holds)

  pub at_next : s.mode ≡ is.Running → Unwound w₀ s₀ w s
  at_next m table job x h = let y = way table job x h in subst (λ (κ : M.Control). Shows table job w s κ) y.settles (entering table job w s m y.config y.holds)

  pub backs : Unwinding w₀ s₀ → (s.mode ≡ is.Gave → ⊥) → (s.mode ≡ is.Running → ⊥) → Backing w s
  unfolding Holds
  backs q a b =
      let y = way q.table q.job q.config q.holds in
      let x = loses q.table q.job w s a b y.config y.holds in
      record {
        few_steps = omega (arith, q.few_steps, stays.same_steps);
        space = omega (arith, q.space, stays.same_length);
        table = q.table;
        job = q.job;
        choices = x.choices;
        lost = subst (λ (c : Config). Holds q.table q.job w s c) x.is y.holds;
      }

  pub at_back : (s.mode ≡ is.Gave → ⊥) → (s.mode ≡ is.Running → ⊥) → (v : List ℕ) (r : State) → WentBack w s v r → Unwound w₀ s₀ v r
  unfolding Holds settle
  at_back a b v r d table job x h =
      let y = way table job x h in
      let u = loses table job w s a b y.config y.holds in
      subst (λ (κ : M.Control). Shows table job v r κ) (ap settle (sym u.is) ∙ y.settles) (d table job u.choices (subst (λ (c : Config). Holds table job w s c) u.is y.holds))

-- how much there is to take off
abbrev pub left_in : Mode → (link : ℕ) → ℕ
left_in is.Running link = 0
left_in is.Gave link = link + 1
left_in is.Lost link = 0

unfoldable pub left : State → ℕ
left s = left_in s.mode s.link

pub left_less : (s r : State) → s.mode ≡ is.Gave → (r.mode ≡ is.Gave → r.link < s.link) → left r < left s
unfolding left
left_less s r m h = rw m (go r.mode h)
  where
    go : (m : Mode) → (m ≡ is.Gave → r.link < s.link) → left_in m r.link < s.link + 1
    go is.Running h = omega arith
    go is.Gave h = omega (arith, h refl)
    go is.Lost h = omega arith
