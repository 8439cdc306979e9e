-- A goal list of a file and its bytes: the field that was read stands there and is the list's encoding, and a list within the limits is read from its encoding.
-- Assumes nothing.
use mathlib.Core.Path.{◌≡◌, refl, sym, subst, ap, ◌∙◌}
use mathlib.Core.Bool.{false}
use mathlib.Core.List.{List, ◌++◌}
use Prim.Native.Nat.{ℕ, ◌+◌, ◌*◌, ◌/◌, ◌≤◌}
use native.Mathlib.Omega.{arith}
use lib.Dec.{ltb}
use lib.ListN.{length, drop}
use borrow.Author.Tests.{ltb-false, le-ltb}
use Rattle.format.specs.declared.values.Goal.{Goal}
use Rattle.format.specs.Limits.{most_goals}
use Rattle.format.specs.Refusals.{LimitPassed}
use Rattle.format.specs.Results.{gives, and_then}
use Rattle.format.specs.Tags.{rows, find_row, row_of, kind_of, least_of, most_of, inner_of, goal_list_kind}
use Rattle.format.specs.Headers.{header_at}
use Rattle.format.specs.Goals.{goals_at, ParsedGoals, goals_of, read_goals}
use Rattle.format.specs.Encoding.{Bytes, goal_bytes, goal_list_bytes, GoalValues}
use Rattle.format.specs.Standing.{Head}
use Rattle.format.proofs.ResultLaws.{and_gives, passed, same_value}
use Rattle.format.proofs.TermTags.{tags_between, no_more, ◌&◌, found_tag}
use Rattle.format.proofs.HeaderLaws.{is_field, field_at}
use Rattle.format.proofs.GoalsLaws.{length-goals_at}
use Rattle.format.proofs.FieldBytes.{field_bytes_lem, field_lies}
use Rattle.format.proofs.GoalBytes.{length-goal_bytes, goal_values, goals_bytes, goals_lie}

-- a number whose kind is that of a goal list is the tag 3
list_tag : (t : ℕ) → goal_list_kind ≤ kind_of t → kind_of t ≤ goal_list_kind → t ≡ 3
unfolding rows tags_between
list_tag = found_tag (λ k. k ≡ 3) goal_list_kind goal_list_kind (omega arith) (refl & no_more)

-- what is known of a goal list that was read
pub record GoalsStand (s : List ℕ) (at end : ℕ) (g : ParsedGoals) : Type 0 where
  pub head : Head s at 3 (length g.goals * 2)
  pub goals_are : g.goals ≡ goals_at s (at + 3) (length g.goals)
  pub few : length g.goals ≤ most_goals
  pub next_is : g.next ≡ at + 3 + length g.goals * 2
  pub within : g.next ≤ end

pub goals_stand : (s : List ℕ) (at end : ℕ) → end ≤ length s → (g : ParsedGoals) → read_goals s at end ≡ gives g → GoalsStand s at end g
unfolding read_goals goals_of inner_of row_of rows find_row
goals_stand s at end fit g e =
    let a = and_gives (header_at s at end goal_list_kind goal_list_kind false) e in
    let h = a.0 in
    let f = is_field s at end goal_list_kind goal_list_kind false h.tag h.len a.1 in
    let b = passed (ltb most_goals (h.len / 2)) LimitPassed at _ a.2 in
    let few = ltb-false most_goals (h.len / 2) b.0 in
    let q = same_value b.1 in
    let tag : h.tag ≡ 3 = list_tag h.tag f.above f.below in
    let even = f.whole (rw tag) in
    let goals : goals_at s (at + 3) (h.len / 2) ≡ g.goals = ap (λ (x : ParsedGoals). x.goals) q in
    let next : at + 3 + h.len ≡ g.next = ap (λ (x : ParsedGoals). x.next) q in
    let count : length g.goals ≡ h.len / 2 = sym (ap length goals) ∙ length-goals_at (h.len / 2) s (at + 3) in
    let all : h.len ≡ length g.goals * 2 = omega (arith, even, count) in
    record {
      head = record { tag_is = sym f.the_tag ∙ tag; length_is = sym f.the_length ∙ all; inside = omega (arith, f.contents, all, fit) };
      goals_are = sym goals ∙ ap (goals_at s (at + 3)) (sym count);
      few = omega (arith, few, count);
      next_is = omega (arith, next, all);
      within = omega (arith, f.contents, next);
    }

-- a list that stands in a file of bytes is its encoding there
pub list_bytes : (s : List ℕ) → Bytes s → (at : ℕ) (g : List Goal) → Head s at 3 (length g * 2) → g ≡ goals_at s (at + 3) (length g)
    → (drop at s ≡ goal_list_bytes g ++ drop (at + 3 + length g * 2) s) × GoalValues g
list_bytes s bytes at g h e =
    let n = length g in (
      field_bytes_lem s bytes at 3 (n * 2) (goal_bytes g) h (length-goal_bytes g) (goals_bytes s bytes n (at + 3) h.inside ∙ ap (λ (l : List Goal). goal_bytes l ++ drop (at + 3 + n * 2) s) (sym e)),
      subst GoalValues (sym e) (goal_values s bytes n (at + 3)),
    )

-- a list within the limits is read from its encoding
pub list_read : (s : List ℕ) (at end : ℕ) (g : List Goal) (r : List ℕ) → GoalValues g → length g ≤ most_goals → drop at s ≡ goal_list_bytes g ++ r → at + 3 + length g * 2 ≤ end
    → (read_goals s at end ≡ gives (record { goals = g; next = at + 3 + length g * 2 })) × (drop (at + 3 + length g * 2) s ≡ r)
unfolding read_goals goals_of and_then kind_of least_of most_of inner_of row_of rows find_row
list_read s at end g r v few e fit =
    let n = length g in
    let x = field_lies s at 3 (n * 2) (goal_bytes g) r (length-goal_bytes g) (omega arith) e in
    let y = goals_lie s g (at + 3) r v x.1 in
    let half : n * 2 / 2 ≡ n = omega arith in (
      rw (field_at s at end goal_list_kind goal_list_kind false 3 (n * 2) x.0.tag_is x.0.length_is fit (omega arith) (omega arith) refl (omega arith) (omega arith) (λ z. omega arith), half, le-ltb most_goals n few, y.0),
      y.1,
    )
