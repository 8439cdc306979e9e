-- Goals act as the walk wants of its leaves, and the walk over them is that of hitac.
-- Assumes nothing.
use Rattle.std.specs.Prelude.{Ok, Err}
use Rattle.std.specs.Prelude as std
use mathlib.Core.Path.{◌≡◌, sym, subst, ap, ◌∙◌}
use mathlib.Core.List.{List, [], ◌++◌, map}
use Prim.Native.Nat.{ℕ, ◌+◌, ◌*◌, ◌-◌, ◌≤◌}
use native.Mathlib.Omega.{arith}
use lib.ListN.{length}
use Rattle.words.specs.Word.{word}
use Rattle.words.specs.Kept.{Kept}
use Rattle.format.specs.declared.values.Goal.{Goal}
use Rattle.format.specs.declared.refusals.Cause.{Cause}
use Rattle.format.specs.declared.refusals.Refusal.{Refusal}
use Rattle.format.specs.Results.{Result, gives, refused}
use Rattle.format.specs.Values.{goal}
use Rattle.format.specs.Terms.{Term, size}
use Rattle.format.specs.Goals.{goals_at}
use Rattle.format.proofs.StandsLaws.{known}
use Rattle.format.proofs.ResultLaws.{same_value, same_cause, same_place, never_gives}
use Rattle.rule_set.specs.Sets.{RuleSet}
use Rattle.rule_set.proofs.SetKept.{set_before}
use Rattle.tables.specs.Tables.{Table}
use Rattle.hitac.specs.Walk.{walk}
use Rattle.hitac.specs.UsedRules.{walked_rules}
use Rattle.input_arities.specs.Layout.{stack_end, frames_end, arities_end}
use Rattle.walks.specs.declared.state.Next.{Next}
use Rattle.walks.specs.declared.state.Ended.{Ended}
use Rattle.walks.specs.Values.{value_of, values_at}
use Rattle.walks.specs.Walks.{Out, out, walk_of}
use Rattle.walks.specs.Loops.{Aim, BeginsWith, Begins, placed, start_of, Leaf, Turned}
use Rattle.walks.specs.Leaves.{Still, LeafTurned, Ends}
use Rattle.walks.proofs.IndexLaws.{indexed_still}
use Rattle.walks.proofs.ValueLaws.{values_below}
use Rattle.walks.proofs.LeafLaws as loops
use Rattle.walks.proofs.LeafLaws.{aim_of}
use Rattle.checker.specs.Layout.{set_place, set_end}
use Rattle.checker.specs.Acts.{of_goals, goal_act, goals_in, walk_in, LeafReady, Behind, Given, Acts}
use Rattle.checker.specs.Walks.{Ready, goals_ready, Walks}
use Rattle.checker.proofs.ActLaws.{same_goals, walks_goals}

-- the index stays where the walk writes before it
pub behind-kept : (table : List ℕ) (first : ℕ) (w w' : List ℕ) (low high : ℕ) → length w' ≡ length w → Kept w w' low high → high ≤ arities_end → Behind table first w → Behind table first w'
behind-kept table first w w' low high size k h b = record { index = indexed_still table first w w' size (λ i l m. k.above i (omega arith)) b.index }

-- goals are ready wherever the stacks and the frames alone were written
pub goals_still : (table : List ℕ) (first : ℕ) (T : Table) (x : Aim ℕ) (A s w : List ℕ) → goals_ready table first T x A s w → Still (goals_ready table first T x) A s w
goals_still table first T x A s w y w' e k = (y.0, behind-kept table first w w' 0 frames_end e k (omega arith) y.1, set_before w w' set_place A 0 frames_end e k (omega arith) y.2)

-- ---- a term that acts

module _ (T : Table) (x : Aim ℕ) (A : List ℕ) (s w : List ℕ) (n : Next) (at : ℕ) (b : Begins (goal_act T) x A s w (placed n at)) (l : Leaf s at) where
  pub leaf_ready : arities_end ≤ length w → LeafReady s at b.0 w n
  leaf_ready h = record { stands = b.2.stands; apart = omega (arith, b.2.room); below = b.2.below; space = h }

  -- what a term comes to, on the values in bytes
  on_values : (t : Term) (r : Result (List Goal)) → walk_in T t at w n ≡ r → goal_act T t at A (values_at w n.top n.count) ≡ of_goals (A ++ walked_rules T t (goals_in w n)) r
  unfolding goal_act
  on_values t r e = ap (λ (g : List Goal). of_goals (A ++ walked_rules T t g) (walk T t at g)) (same_goals (goals_in w n)) ∙ ap (of_goals (A ++ walked_rules T t (goals_in w n))) e

  pub leaf_stops : (w' : List ℕ) (c : Cause) → Acts T b.0 at w w' n (Err c) → x.result ≡ refused c at
  unfolding Acts of_goals Turned
  leaf_stops w' c a = (loops.leaf_refused (goal_act T) x A s w (placed n at) b l c at (omega (arith, (known s at b.0 b.2.stands).inside)) (on_values b.0 _ a.0) w at).0

  module _ (w' : List ℕ) (e : Ended) (a : Acts T b.0 at w w' n (Ok e)) where
    given : Given T b.0 at w w' n e.given e.uses
    unfolding Acts
    given = a

    -- with the rule that it looked up
    abbrev made : List ℕ
    made = A ++ walked_rules T b.0 (goals_in w n)

    -- the term begins as before once that rule is in the set
    begun_between : BeginsWith (goal_act T) x A s given.between (placed n at) b.0 b.1
    begun_between = loops.with_behind (goal_act T) x A s w (placed n at) b.0 b.1 b.2 given.between set_place set_end given.in_set (omega arith)

    pub leaf_gives : (table : List ℕ) (first : ℕ) → length w' ≡ length w → goals_ready table first T x A s w → LeafTurned (goals_ready table first T x) (goal_act T) x s w' n at (Ok e)
    unfolding of_goals LeafTurned
    leaf_gives table first long y =
        let g = given in
        let same = values_below w g.between set_place set_end n.top n.count g.in_set (omega (arith, b.2.below)) in
        let z = loops.leaf_gave (goal_act T) x A s g.between (placed n at) (b.0, b.1, begun_between) l made w' e.given e.uses
        (record { comes = ap (goal_act T b.0 at A) same ∙ on_values b.0 _ g.outcome; used_is = g.used_is; few = g.few; kept = g.kept }) (at + 3 + word s (at + 1)) (omega (arith, (known s at b.0 b.2.stands).length_is)) in
        let index = indexed_still table first w w' long (λ i p q. g.kept.above i (omega (arith, b.2.below)) ∙ g.in_set.below i (omega arith)) y.1.index in
        (made, z.0, z.1, goals_still table first T x made s w' (y.0, record { index = index }, g.rules A y.2))

  pub leaf_turned : (w' table : List ℕ) (first : ℕ) → length w' ≡ length w → goals_ready table first T x A s w → (r : std.Result Ended Cause) → Acts T b.0 at w w' n r → LeafTurned (goals_ready table first T x) (goal_act T) x s w' n at r
  unfolding LeafTurned
  leaf_turned w' table first long y (Err c) a = leaf_stops w' c a
  leaf_turned w' table first long y (Ok e) a = leaf_gives w' e a table first long y

-- ---- the walk

-- the walk's aim: hitac's walk on the goals at the end of the stacks
abbrev pub aim_in : (T : Table) (t : Term) (s : List ℕ) (at : ℕ) (w : List ℕ) (count : ℕ) → Ready s at t w count → Aim ℕ
aim_in T t s at w count r = aim_of (goal_act T) t at [] (values_at w (stack_end - count * 2) count) r.fields_few

pub begins_in : (T : Table) (t : Term) (s : List ℕ) (at : ℕ) (w : List ℕ) (count : ℕ) (r : Ready s at t w count) → Begins (goal_act T) (aim_in T t s at w count r) [] s w (start_of at count)
begins_in T t s at w count r = loops.begun (goal_act T) [] s w t at count r.fields_few r.stands r.ahead r.goals_few

-- what the whole walk comes to, on goals
module _ (T : Table) (t : Term) (at : ℕ) (w : List ℕ) (top count : ℕ) where
  on_goals : walk_of (goal_act T) t at [] (values_at w top count) ≡ of_goals (walked_rules T t (goals_at w top count)) (walk T t at (goals_at w top count))
  on_goals = walks_goals T [] t at (values_at w top count) ∙ ap (λ (g : List Goal). of_goals (walked_rules T t g) (walk T t at g)) (same_goals (goals_at w top count))

-- a walk on values that is refused, or that gives, is one on goals
of_refused : (A : List ℕ) (r : Result (List Goal)) (c : Cause) (p : ℕ) → of_goals A r ≡ refused c p → r ≡ refused c p
unfolding of_goals
of_refused A (gives h) c p e = never_gives (sym e)
of_refused A (refused d q) c p e = rw (same_cause e, same_place e)

of_gives : (A B : List ℕ) (r : Result (List Goal)) (h : List Goal) → of_goals A r ≡ gives (out B (map value_of h)) → (r ≡ gives h) × (B ≡ A)
unfolding of_goals
of_gives A B (gives g) h e = (
  ap gives (sym (same_goals g) ∙ ap (λ (o : Out ℕ). map goal o.values) (same_value e) ∙ same_goals h),
  sym (ap (λ (o : Out ℕ). o.made) (same_value e)),
)
of_gives A B (refused d q) h e = never_gives e

-- how the walk over values ended is how the walk over goals did
pub walk_ends : (table : List ℕ) (first : ℕ) (T : Table) (t : Term) (s : List ℕ) (at count : ℕ) (w w' : List ℕ) (r : Ready s at t w count) (q : std.Result Ended Refusal) → Ends (goals_ready table first T (aim_in T t s at w count r)) (aim_in T t s at w count r) s w' q → Walks T t at (length s) w w' count q
unfolding Ends Walks
walk_ends table first T t s at count w w' r (Err e) z = (of_refused _ _ e.cause e.place (sym (on_goals T t at w (stack_end - count * 2) count) ∙ z.0), z.1)
walk_ends table first T t s at count w w' r (Ok e) z =
    let o = of_gives _ z.0 _ (goals_at w' 0 e.given) (sym (on_goals T t at w (stack_end - count * 2) count) ∙ z.1) in
    (o.0, z.2, z.3, subst (RuleSet w' set_place) o.1 z.4.2)
