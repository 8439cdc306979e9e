-- A step: the term that stands there is begun as its form asks, by its tag, and then the frames are unwound.
-- Assumes nothing.
use Prim.Native.Nat.{ℕ, ◌+◌, ◌≤◌}
use mathlib.Core.Path.{◌≡◌, refl, sym, subst, ◌∙◌}
use mathlib.Core.List.{List}
use mathlib.Core.Option.{Option, none, some}
use native.Mathlib.Omega.{arith}
use lib.ListN.{length, get_or}
use Rattle.words.specs.Word.{word}
use Rattle.format.specs.declared.values.RuleName.{RuleName}
use Rattle.format.specs.declared.values.Goal.{Goal}
use Rattle.format.specs.declared.values.Label.{Label}
use Rattle.format.specs.declared.values.TacticNo.{TacticNo}
use Rattle.format.specs.Terms.{Term, atomic, id, label, sequence, tensor, empty, alternation, assert, defined, size}
use Rattle.format.specs.Standing.{Stands}
use Rattle.format.proofs.StandsLaws.{known}
use Rattle.format.proofs.ByTag.{by_tag}
use Rattle.tables.specs.Tables.{Table}
use Rattle.tables.specs.Standing.{TableStands}
use Rattle.tables.specs.Lookup.{find_body}
use Rattle.evaluation.specs.TacticArity.{arity_in, tactic_arity}
use Rattle.evaluation.specs.Outcomes.{one_goal, split_by}
use Rattle.evaluation.specs.Machine as M
use Rattle.evaluation.specs.Machine.{enter_or_fail}
use Rattle.arities.specs.Arities.{arity_code, ArityTable, arities, Pair}
use Rattle.arities.proofs.ArityLaws.{Inner, pair_of}
use Rattle.tactics.specs.Source.{source}
use Rattle.tactics.proofs.SourceLaws.{in_file_lem, by_pair, value_room}
use Rattle.machine.specs.declared.state.Mode.TheVariants as is
use Rattle.machine.specs.declared.state.State.{State}
use Rattle.machine.specs.Shows.{Runs, Config, Holds, Shows}
use Rattle.machine.specs.Popping.{settle, Fewer, Unwinding, Unwound}
use Rattle.machine.specs.Begun.{enter, begun, Room, Ready, Begins, BeginsIn, id_next, empty_next, assert_next, sequence_next, alternation_next, label_next, tensor_next, rule_next, defined_next}
use Rattle.machine.specs.Step.{Grown, Given, BeginsAny, PairStands, BeginsPair, Stepped}
use Rattle.machine.proofs.KeepLaws.{frames_top}
use Rattle.machine.proofs.UnwindLaws.{after-done, after_next}

-- a term begun, then unwound, is the machine's step
settle-enter : {A : Type 0} (o : Option A) (k : List M.Frame) (f : A → Config) → settle (enter o k f) ≡ enter_or_fail o k (λ a. settle (f a))
unfolding settle
settle-enter none k f = refl
settle-enter (some a) k f = refl

settle-begun : (T : Table) (π : M.Place) (t : Term) (g : List Goal) (k : List M.Frame) → settle (begun T π t g k) ≡ M.begin T π t g k
unfolding settle begun M.begin
settle-begun T π (atomic a) g k = refl
settle-begun T π id g k = refl
settle-begun T π (label l t) g k = settle-enter (one_goal g) k _
settle-begun T π (sequence t u) g k = refl
settle-begun T π (tensor t u) g k = settle-enter (split_by (tactic_arity T t) g) k _
settle-begun T π empty g k = refl
settle-begun T π (alternation t u) g k = refl
settle-begun T π (assert γ) g k = refl
settle-begun T π (defined d) g k = settle-enter (find_body T d) k _

module _ (bytes : List ℕ) (first : ℕ) (src w : List ℕ) (s : State) where
  -- what is given
  module _ (q : Given bytes first src w s) where
    given_stands : Stands src s.at q.term
    given_stands = in_file_lem bytes q.job src s.file s.at q.term q.so q.runs.stands

    pub given_at : s.at + 3 ≤ length src
    given_at = let k = known src s.at q.term given_stands in omega (arith, k.inside, k.three)

    given_room : Room w s
    given_room =
        let z = q.runs.sizes in
        record {
          steps_left = q.steps_left;
          output_fits = omega (arith, q.steps_left, z.output_fits);
          goals_low = z.goals_low;
          goals_fit = omega (arith, z.held_fits, z.goals_fit);
          held_fits = z.held_fits;
          frames_low = omega (arith, q.steps_left, z.frames_fit);
          frames_high = frames_top bytes q.job w s.arena q.frames s.top s.out q.runs.frames;
          space = q.space;
        }

    pub given_ready : Ready w s
    given_ready = record { room = given_room; at_small = omega (arith, given_at, q.src_small); goals = q.goals; goals_are = q.runs.goals }

    -- a term with a tag that says so begins with a value
    pub given_value : (tag : ℕ) → get_or src s.at 0 ≡ tag → (tag ≡ 17 → ⊥) → (tag ≡ 21 → ⊥) → s.at + 5 ≤ length src
    given_value tag e a b = value_room src s.at q.term given_stands (λ i. a (sym e ∙ i)) (λ i. b (sym e ∙ i))

    pub given_pair : (tag : ℕ) → get_or src s.at 0 ≡ tag → (tag ≡ 17 → ⊥) → (tag ≡ 21 → ⊥) → (tag ≡ 16 → ⊥) → (tag ≡ 18 → ⊥) → (tag ≡ 23 → ⊥) → (tag ≡ 24 → ⊥) → PairStands src w s tag
    given_pair tag e a b c d f g = record {
      ready = given_ready;
      src_small = q.src_small;
      tag_is = e;
      pair = (a, b, c, d, f, g);
      bytes = bytes;
      job = q.job;
      so = q.so;
      place = q.place;
      term = q.term;
      goals = q.goals;
      frames = q.frames;
      runs = q.runs;
    }

  -- by the tag: what was said of the form is said of the term
  module _ (v : List ℕ) (r : State) where
    -- what is to be shown of the term
    abbrev Goes : (T : Table) → (job : List ℕ) → M.Place → List Goal → List M.Frame → Term → Type 0
    Goes T job π g k x = Stands src s.at x → Runs bytes job w s π x g k → Holds bytes job v r (begun T π x g k)

    -- where it stands
    there : (job : List ℕ) (π : M.Place) (t : Term) (g : List Goal) (k : List M.Frame) → source bytes job s.file ≡ src → Runs bytes job w s π t g k → Stands src s.at t
    there job π t g k so h = in_file_lem bytes job src s.file s.at t so h.stands

    pub id_any : get_or src s.at 0 ≡ 17 → Begins w s v r id id_next → BeginsAny bytes first src w s v r
    unfolding begun
    id_any e b T job π t g k st so ar h = let y = there job π t g k so h in by_tag src s.at (Goes T job π g k) 17 (λ z i. b bytes job π g k i) e t y y h

    pub empty_any : get_or src s.at 0 ≡ 21 → Begins w s v r empty empty_next → BeginsAny bytes first src w s v r
    unfolding begun
    empty_any e b T job π t g k st so ar h = let y = there job π t g k so h in by_tag src s.at (Goes T job π g k) 21 (λ z i. b bytes job π g k i) e t y y h

    pub atomic_any : get_or src s.at 0 ≡ 16 → (value : ℕ) → value ≡ word src (s.at + 3)
        → ((T : Table) (a : RuleName) → TableStands bytes first T → value ≡ a.0 → Begins w s v r (atomic a) (rule_next T a)) → BeginsAny bytes first src w s v r
    unfolding begun
    atomic_any e value val b T job π t g k st so ar h =
        let y = there job π t g k so h in by_tag src s.at (Goes T job π g k) 16 (λ a x z i. b T a st (val ∙ x.value_is) bytes job π g k i) e t y y h

    pub label_any : get_or src s.at 0 ≡ 18 → (value : ℕ) → value ≡ word src (s.at + 3)
        → ((l : Label) (t : Term) → value ≡ l.0 → Begins w s v r (label l t) (label_next l t)) → BeginsAny bytes first src w s v r
    unfolding begun Stands
    label_any e value val b T job π t g k st so ar h =
        let y = there job π t g k so h in by_tag src s.at (Goes T job π g k) 18 (λ l u o z i. b l u (val ∙ z.1) bytes job π g k i) e t y y h

    pub assert_any : get_or src s.at 0 ≡ 23 → (value : ℕ) → value ≡ word src (s.at + 3)
        → ((T : Table) (γ : Goal) → value ≡ γ.0 → Begins w s v r (assert γ) (assert_next T γ)) → BeginsAny bytes first src w s v r
    unfolding begun
    assert_any e value val b T job π t g k st so ar h =
        let y = there job π t g k so h in by_tag src s.at (Goes T job π g k) 23 (λ γ x z i. b T γ (val ∙ x.value_is) bytes job π g k i) e t y y h

    pub defined_any : get_or src s.at 0 ≡ 24 → (value : ℕ) → value ≡ word src (s.at + 3)
        → ((T : Table) (d : TacticNo) (job : List ℕ) → TableStands bytes first T → value ≡ d.0 → BeginsIn bytes job w s v r (defined d) (defined_next T d)) → BeginsAny bytes first src w s v r
    unfolding begun
    defined_any e value val b T job π t g k st so ar h =
        let y = there job π t g k so h in by_tag src s.at (Goes T job π g k) 24 (λ d x z i. b T d job st (val ∙ x.value_is) π g k i) e t y y h

    pub pair_any : BeginsPair src w s v r → BeginsAny bytes first src w s v r
    pair_any b T job π t g k st so ar h = b bytes job T π t g k so ar h

    -- the next term is there at once
    pub steps_next : BeginsAny bytes first src w s v r → r.mode ≡ is.Running → Stepped bytes first src w s v r
    steps_next b m T job π t g k st so ar h =
        subst (λ (κ : M.Control). Shows bytes job v r κ) (settle-begun T π t g k) (after_next v r bytes job (begun T π t g k) (b T job π t g k st so ar h) m)

    -- or the frames are unwound
    module _ (b : BeginsAny bytes first src w s v r) (m : r.mode ≡ is.Running → ⊥) where
      pub unwinding : Given bytes first src w s → Grown w s v r → Unwinding v r
      unwinding q gr =
          let c = after-done v r bytes q.job (begun q.table q.place q.term q.goals q.frames) (b q.table q.job q.place q.term q.goals q.frames q.table_stands q.so q.known q.runs) m in
          record {
            few_steps = omega (arith, gr.one_step, q.steps_left);
            space = omega (arith, gr.same_length, q.space);
            table = bytes;
            job = q.job;
            ending = c.ending;
            frames = c.frames;
            ends = c.ends;
          }

      pub steps_end : (y : List ℕ) (z : State) → Unwound v r y z → Stepped bytes first src w s y z
      steps_end y z u T job π t g k st so ar h =
          let c = after-done v r bytes job (begun T π t g k) (b T job π t g k st so ar h) m in
          subst (λ (κ : M.Control). Shows bytes job y z κ) (c.same ∙ settle-begun T π t g k) (u bytes job c.ending c.frames c.ends)

pub grown_end : (w : List ℕ) (s : State) (v : List ℕ) (r : State) (y : List ℕ) (z : State) → Grown w s v r → Fewer v r y z → Grown w s y z
grown_end w s v r y z a b = record {
  beyond = λ i h. b.beyond i h ∙ a.beyond i h;
  same_length = b.same_length ∙ a.same_length;
  one_step = b.same_steps ∙ a.one_step;
}

-- the same in the file that the state names
pub in_source : (bytes : List ℕ) (first : ℕ) (w : List ℕ) (s : State) (v : List ℕ) (r : State) (b src : List ℕ) → src ≡ b → Stepped bytes first b w s v r × Grown w s v r
    → Stepped bytes first src w s v r × Grown w s v r
in_source bytes first w s v r b src e h = (subst (λ (x : List ℕ). Stepped bytes first x w s v r) (sym e) h.0, h.1)

-- a sequence, a tensor or an alternation
module _ (src w : List ℕ) (s : State) (tag : ℕ) (q : PairStands src w s tag) where
  pair_stands : Stands src s.at q.term
  pair_stands = in_file_lem q.bytes q.job src s.file s.at q.term q.so q.runs.stands

  -- by its tag
  abbrev by_inner : (P : Term → Type 0) → (tag ≡ 19 → (t u : Term) → Pair src s.at t u → P (sequence t u)) → (tag ≡ 20 → (t u : Term) → Pair src s.at t u → P (tensor t u))
      → ((t u : Term) → Pair src s.at t u → P (alternation t u)) → (t : Term) → Stands src s.at t → P t
  by_inner P a b c t st =
      by_pair src s.at tag P q.pair.2 q.pair.0 q.pair.3 q.pair.1 q.pair.4 q.pair.5 (λ e x y l r. a e x y (l, r)) (λ e x y l r. b e x y (l, r)) (λ e x y l r. c x y (l, r)) t st q.tag_is

  pub pair_inner : Inner src s.at
  pair_inner = by_inner (λ t. Inner src s.at) (λ e t u i. (t, u, i)) (λ e t u i. (t, u, i)) (λ t u i. (t, u, i)) q.term pair_stands

  pub pair_left : (t : Term) × Stands src (s.at + 3) t
  pair_left = let i = pair_inner in (i.0, i.2.0)

  module _ (v : List ℕ) (r : State) (right : ℕ) (rt : (t u : Term) → Pair src s.at t u → right ≡ s.at + 3 + size t) where
    abbrev PairGoes : (bytes job : List ℕ) → Table → M.Place → List Goal → List M.Frame → Term → Type 0
    PairGoes bytes job T π g k x = Runs bytes job w s π x g k → Holds bytes job v r (begun T π x g k)

    pair_there : (bytes job : List ℕ) (π : M.Place) (t : Term) (g : List Goal) (k : List M.Frame) → source bytes job s.file ≡ src → Runs bytes job w s π t g k → Stands src s.at t
    pair_there bytes job π t g k so h = in_file_lem bytes job src s.file s.at t so h.stands

    pub sequence_pair : tag ≡ 19 → ((t u : Term) → right ≡ s.at + 3 + size t → Begins w s v r (sequence t u) (sequence_next t u)) → BeginsPair src w s v r
    unfolding begun
    sequence_pair e b bytes job T π t g k so ar h =
        by_tag src s.at (PairGoes bytes job T π g k) 19 (λ a u z i. b a u (rt a u (pair_of src s.at a u z)) bytes job π g k i) (q.tag_is ∙ e) t (pair_there bytes job π t g k so h) h

    pub tensor_pair : tag ≡ 20 → (n : ℕ) → ((known : TacticNo → Option ℕ) (t : Term) → ArityTable w known → Stands src (s.at + 3) t → n ≡ arity_code (arity_in known t))
        → ((o : Option ℕ) (t u : Term) → right ≡ s.at + 3 + size t → n ≡ arity_code o → Begins w s v r (tensor t u) (tensor_next o t u)) → BeginsPair src w s v r
    unfolding begun tactic_arity
    tensor_pair e n arity b bytes job T π t g k so ar h =
        by_tag src s.at (PairGoes bytes job T π g k) 20
        (λ a u z i. b (tactic_arity T a) a u (rt a u (pair_of src s.at a u z)) (arity (arities T) a ar z.first) bytes job π g k i) (q.tag_is ∙ e) t (pair_there bytes job π t g k so h) h

    pub alternation_pair : (tag ≡ 19 → ⊥) → (tag ≡ 20 → ⊥) → ((t u : Term) → right ≡ s.at + 3 + size t → Begins w s v r (alternation t u) (alternation_next t u)) → BeginsPair src w s v r
    unfolding begun
    alternation_pair x y b bytes job T π t g k so ar h =
        by_inner (PairGoes bytes job T π g k) (λ e. absurd (x e)) (λ e. absurd (y e)) (λ a u z i. b a u (rt a u z) bytes job π g k i) t (pair_there bytes job π t g k so h) h
