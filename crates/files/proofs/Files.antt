-- What a proof, a job and a flat file have in common: 1, then a goal list at the beginning, then what follows.
-- Assumes nothing.
use mathlib.Core.Path.{◌≡◌, refl, sym, subst, ap, ◌∙◌}
use mathlib.Core.Bool.{Bool, true, false, cond}
use mathlib.Core.List.{List, ◌++◌}
use Prim.Native.Nat.{ℕ, ◌+◌, ◌*◌, ◌≤◌, ◌<◌}
use native.Mathlib.Omega.{arith}
use lib.Dec.{ltb}
use lib.ListN.{length, drop, length-append}
use lib.Seq.{drop-drop, drop_at}
use borrow.Author.Tests.{ltb-true, ltb-false, le-ltb}
use Rattle.format.specs.declared.values.Goal.{Goal}
use Rattle.format.specs.Limits.{most_bytes, most_goals}
use Rattle.format.specs.declared.refusals.Cause.{Cause}
use Rattle.format.specs.declared.refusals.Cause.TheVariants.{InputTooLong}
use Rattle.format.specs.Refusals.{number}
use Rattle.format.specs.Results.{Result, gives, refused, and_then}
use Rattle.format.specs.Inputs.{of_size}
use Rattle.format.specs.Terms.{Term, size}
use Rattle.format.specs.Goals.{ParsedGoals, read_goals}
use Rattle.format.specs.Encoding.{term_bytes, goal_list_bytes, GoalValues}
use Rattle.format.proofs.ResultLaws.{and_gives, passed, same_place, same_cause}
use Rattle.format.proofs.Encoded.{length-term_bytes}
use Rattle.format.proofs.GoalBytes.{length-goal_bytes}
use Rattle.format.proofs.GoalListBytes.{GoalsStand, goals_stand, list_read}
use Rattle.format.proofs.RefusedPlace.{Refusal, RefusedWithin, steps, further, goals_place}
use Rattle.files.specs.Standing.{ListStands}
use Rattle.files.specs.RefusedFiles.{FileRefusal}

pub length-goal_list_bytes : (g : List Goal) → length (goal_list_bytes g) ≡ 3 + length g * 2
length-goal_list_bytes g = omega (arith, length-goal_bytes g)

-- what lies behind a term's bytes
pub behind_term_lem : (s : List ℕ) (at : ℕ) (t : Term) (r : List ℕ) → drop at s ≡ term_bytes t ++ r → drop (at + size t) s ≡ r
behind_term_lem s at t r e = sym (drop-drop (size t) at s) ∙ ap (λ (l : List ℕ). drop (size t) l) e ∙ drop_at (term_bytes t) r (size t) (length-term_bytes t)

-- 1 comes at place 0
long_refused : (s : List ℕ) → most_bytes < length s → FileRefusal s InputTooLong 0
unfolding number
long_refused s h = record { least = omega arith; most = omega arith; within = omega arith; below = omega arith; too_long = λ q. (h, refl) }

-- where a file is refused, if what follows the test of its length is refused within the file
pub size_refused : {A : Type 0} (s : List ℕ) (x : Result A) → RefusedWithin 0 (length s) x → (c : Cause) (p : ℕ) → of_size s x ≡ refused c p → FileRefusal s c p
size_refused {A} s x w c p = go (ltb most_bytes (length s)) refl
  where
    go : (b : Bool) → ltb most_bytes (length s) ≡ b → cond b (refused InputTooLong 0) x ≡ refused c p → FileRefusal s c p
    go true t e = subst (λ (q : ℕ). FileRefusal s c q) (same_place e) (subst (λ (d : Cause). FileRefusal s d 0) (same_cause e) (long_refused s (ltb-true most_bytes (length s) t)))
    go false t e =
        let r : Refusal 0 (length s) c p = unfold RefusedWithin in subst (RefusedWithin 0 (length s)) e w in
        record { least = omega (arith, r.least); most = r.most; within = r.below; below = omega (arith, r.below, ltb-false most_bytes (length s) t); too_long = λ q. absurd (omega (arith, r.least, q)) }

-- a goal list that was read stands at its place
pub list_stands : (s : List ℕ) (at end : ℕ) (g : ParsedGoals) → GoalsStand s at end g → (i : ℕ) → at ≡ i → ListStands s i g.goals
list_stands s at end g h i e = subst (λ (j : ℕ). ListStands s j g.goals) e (record { head = h.head; goals_are = h.goals_are; few = h.few })

module _ {A : Type 0} (s : List ℕ) (next : ParsedGoals → Result A) where
  -- what a file that reads says of its beginning
  pub record Begun (a : A) : Type 0 where
    pub short : length s ≤ most_bytes
    pub parsed : ParsedGoals
    pub list : GoalsStand s 0 (length s) parsed
    pub rest : next parsed ≡ gives a

  pub begun : (a : A) → of_size s (and_then (read_goals s 0 (length s)) next) ≡ gives a → Begun a
  begun a e =
      let p = passed (ltb most_bytes (length s)) InputTooLong 0 _ e in
      let g = and_gives (read_goals s 0 (length s)) p.1 in
      record { short = ltb-false most_bytes (length s) p.0; parsed = g.0; list = goals_stand s 0 (length s) (omega arith) g.0 g.1; rest = g.2 }

  -- a file that begins with the bytes of a goal list within the limits
  pub begins : (g : List Goal) (r : List ℕ) → GoalValues g → length g ≤ most_goals → length s ≤ most_bytes → s ≡ goal_list_bytes g ++ r
      → (of_size s (and_then (read_goals s 0 (length s)) next) ≡ next (record { goals = g; next = 3 + length g * 2 })) × (drop (3 + length g * 2) s ≡ r)
  unfolding and_then
  begins g r v few short e =
      let x = list_read s 0 (length s) g r v few e (omega (arith, ap length e, length-append (goal_list_bytes g) r, length-goal_list_bytes g)) in
      (rw (le-ltb most_bytes (length s) short, x.0), x.1)

  -- where a file is refused, if what follows is refused within the file
  pub refused_at : ((g : ParsedGoals) → GoalsStand s 0 (length s) g → RefusedWithin 0 (length s) (next g)) → (c : Cause) (p : ℕ) → of_size s (and_then (read_goals s 0 (length s)) next) ≡ refused c p → FileRefusal s c p
  refused_at h c p = size_refused s _ (steps 0 (length s) _ next (further 0 0 (length s) 0 (omega arith) (omega arith) _ (goals_place s 0 (length s))) (λ g e. h g (goals_stand s 0 (length s) (omega arith) g e))) c p
