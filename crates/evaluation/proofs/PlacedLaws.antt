-- In every halted run the term to begin stands at its place, and at the place of each waiting term its last inner term, where the bodies of tactics stand at theirs.
-- The invariant is kept by unwinding, by a beginning and so by a step. Assumes nothing.
use Prim.Native.Nat.{ℕ, zero, suc, ◌+◌}
use mathlib.Core.Path.{◌≡◌, refl, subst}
use mathlib.Core.Bool.{Bool, true, false, cond}
use mathlib.Core.List.{List, [], ◌∷◌}
use mathlib.Core.Option.{Option, none, some}
use native.Mathlib.Omega.{arith}
use lib.Dec.{leb}
use lib.ListN.{length}
use Rattle.format.specs.declared.values.Goal.{Goal}
use Rattle.format.specs.declared.values.Label.{Label}
use Rattle.format.specs.declared.values.TacticNo.{TacticNo}
use Rattle.format.specs.Standing.{Stands}
use Rattle.format.specs.Terms.{Term, atomic, id, label, sequence, tensor, empty, alternation, assert, defined, size}
use Rattle.tables.specs.Tables.{Table}
use Rattle.tables.specs.Lookup.{find_body}
use Rattle.tables.specs.Places.{body_place}
use Rattle.evaluation.specs.TacticArity.{tactic_arity}
use Rattle.evaluation.specs.Outcomes.{Ending, proved, failed, ended, rule_gives, one_goal, no_goal, assert_gives, split_at, split_by, finished, in_label, after_left, beside_left}
use Rattle.evaluation.specs.Machine.{held, Place, past, Frame, labelled, sequence_left, sequence_right, tensor_left, tensor_right, alternation_left, Control, running, stopped, State, after, unwind, enter_or_fail, begin, step_from, step, run, start}
use Rattle.evaluation.specs.Placed.{StandsAt, AllPlaced}

module _ (bytes : (file : ℕ) → List ℕ) where
  abbrev PlacedIn : Control → Type 0
  PlacedIn (running π t g w) = StandsAt bytes π t × AllPlaced bytes w
  PlacedIn (stopped e) = Unit {0}

  unwind-placed : (e : Ending) (w : List Frame) → AllPlaced bytes w → PlacedIn (unwind e w)
  unfolding unwind AllPlaced
  unwind-placed e [] s = tt
  unwind-placed e (labelled π l ∷ w) s = unwind-placed (in_label (held w) l e) w s.1
  unwind-placed (proved t g) (sequence_left π u ∷ w) s = (s.0, ((u, s.0), s.1))
  unwind-placed failed (sequence_left π u ∷ w) s = unwind-placed failed w s.1
  unwind-placed (ended c) (sequence_left π u ∷ w) s = unwind-placed (ended c) w s.1
  unwind-placed e (sequence_right π t ∷ w) s = unwind-placed (after_left (held w) t e) w s.1
  unwind-placed (proved t g) (tensor_left π u h ∷ w) s = (s.0, ((u, s.0), s.1))
  unwind-placed failed (tensor_left π u h ∷ w) s = unwind-placed failed w s.1
  unwind-placed (ended c) (tensor_left π u h ∷ w) s = unwind-placed (ended c) w s.1
  unwind-placed e (tensor_right π t g ∷ w) s = unwind-placed (beside_left (held w) t g e) w s.1
  unwind-placed (proved t g) (alternation_left π u h ∷ w) s = unwind-placed (proved t g) w s.1
  unwind-placed failed (alternation_left π u h ∷ w) s = s
  unwind-placed (ended c) (alternation_left π u h ∷ w) s = unwind-placed (ended c) w s.1

  -- the right term of a pair, behind its left one
  behind : (π : Place) (t u : Term) → Stands (bytes π.file) (π.at + 3 + size t) u → StandsAt bytes (past π (3 + size t)) u
  behind π t u s = let q : π.at + 3 + size t ≡ π.at + (3 + size t) = omega arith in subst (λ (i : ℕ). Stands (bytes π.file) i u) q s

  module _ (T : Table) (bodies : (n : TacticNo) (t : Term) → find_body T n ≡ some t → Stands (bytes 0) (body_place T n) t) where
    label_begins : (π : Place) (l : Label) (t : Term) (g : List Goal) (w : List Frame) → StandsAt bytes π t → AllPlaced bytes w
        → PlacedIn (enter_or_fail (one_goal g) w λ h. running π t h (labelled π l ∷ w))
    unfolding AllPlaced
    label_begins π l t [] w k s = unwind-placed failed w s
    label_begins π l t (γ ∷ []) w k s = (k, ((t, k), s))
    label_begins π l t (γ ∷ δ ∷ g) w k s = unwind-placed failed w s

    tensor_begins : (π ρ : Place) (o : Option ℕ) (t u : Term) (g : List Goal) (w : List Frame) → StandsAt bytes π t → StandsAt bytes ρ u → AllPlaced bytes w
        → PlacedIn (enter_or_fail (split_by o g) w λ p. running π t p.left_goals (tensor_left ρ u p.right_goals ∷ w))
    unfolding AllPlaced
    tensor_begins π ρ none t u g w j k s = unwind-placed failed w s
    tensor_begins π ρ (some n) t u g w j k s = go (leb n (length g))
      where
        go : (x : Bool) → PlacedIn (enter_or_fail (cond x (some (split_at n g)) none) w λ p. running π t p.left_goals (tensor_left ρ u p.right_goals ∷ w))
        go true = (j, (k, s))
        go false = unwind-placed failed w s

    begin-placed : (π : Place) (t : Term) (g : List Goal) (w : List Frame) → StandsAt bytes π t → AllPlaced bytes w → PlacedIn (begin T π t g w)
    unfolding begin Stands AllPlaced
    begin-placed π (atomic a) g w k s = unwind-placed (finished (held w) (atomic a) (rule_gives T a g)) w s
    begin-placed π id g w k s = unwind-placed (finished (held w) id (one_goal g)) w s
    begin-placed π (label l t) g w k s = label_begins (past π 5) l t g w k.2 s
    begin-placed π (sequence t u) g w k s = (k.1, (behind π t u k.2, s))
    begin-placed π (tensor t u) g w k s = tensor_begins (past π 3) (past π (3 + size t)) (tactic_arity T t) t u g w k.1 (behind π t u k.2) s
    begin-placed π empty g w k s = unwind-placed (finished (held w) empty (no_goal g)) w s
    begin-placed π (alternation t u) g w k s = (k.1, (behind π t u k.2, s))
    begin-placed π (assert p) g w k s = unwind-placed (finished (held w) id (assert_gives T p g)) w s
    begin-placed π (defined d) g w k s = go (find_body T d) refl
      where
        go : (o : Option Term) → find_body T d ≡ o → PlacedIn (enter_or_fail o w λ t. running (record { file = 0; at = body_place T d }) t g w)
        go none e = unwind-placed failed w s
        go (some t) e = (bodies d t e, s)

    placed_on : (b n : ℕ) (κ : Control) → PlacedIn κ → PlacedIn (run T b (after n κ)).control
    unfolding run step step_from
    placed_on zero n κ s = s
    placed_on (suc b) n (running π t g w) s = placed_on b (suc n) (begin T π t g w) (begin-placed π t g w s.0 s.1)
    placed_on (suc b) n (stopped e) s = placed_on b n (stopped e) s

    -- PLACED: where the first term stands at its place, so do the term to begin and the last inner terms of those that wait.
    pub run-placed : (b n : ℕ) (π ρ : Place) (t u : Term) (g h : List Goal) (w : List Frame) → StandsAt bytes π t → run T b (start π t g) ≡ after n (running ρ u h w)
        → StandsAt bytes ρ u × AllPlaced bytes w
    unfolding start AllPlaced
    run-placed b n π ρ t u g h w k q = subst (λ (σ : State). PlacedIn σ.control) q (placed_on b 0 (running π t g []) (k, tt))
