-- The turns of the walk over a flat file's entries: one law for each way that an entry applies or does not. What is to be walked from the first entry on is what is to be walked from here on.
-- Assumes nothing.
use mathlib.Core.Path.{◌≡◌, refl, sym, subst, ap, ◌∙◌}
use mathlib.Core.Bool.{true, false}
use mathlib.Core.Option.{none, some}
use mathlib.Core.List.{List, [], ◌∷◌, ◌++◌}
use Prim.Native.Nat.{ℕ, ◌+◌, ◌*◌, ◌-◌, ◌≤◌, ◌<◌}
use native.Mathlib.Omega.{arith}
use lib.ListN.{length, get_or, drop}
use borrow.Author.Tests.{lt-ltb, le-ltb}
use Rattle.words.specs.Word.{word}
use Rattle.words.specs.Kept.{Kept}
use Rattle.words.proofs.KeptLaws.{kept_same, kept_both}
use Rattle.format.specs.declared.values.RuleName.{RuleName}
use Rattle.format.specs.declared.values.Goal.{Goal}
use Rattle.format.specs.Limits.{most_uses}
use Rattle.format.specs.declared.refusals.Cause.TheVariants.{EntryWrong}
use Rattle.format.specs.Results.{Result, refused}
use Rattle.format.specs.Values.{rule_name, goal}
use Rattle.format.specs.Goals.{goals_at}
use Rattle.rule_set.specs.Sets.{RuleSet}
use Rattle.tables.specs.Tables.{Table}
use Rattle.tables.specs.Lookup.{found_rule, find_rule}
use Rattle.files.specs.Derivations.{Entry, use_entry, open_entry}
use Rattle.files.specs.Counts.{uses_in}
use Rattle.files.specs.Standing.{EntriesStand}
use Rattle.files.proofs.EntryBytes.{entries_end}
use Rattle.files.proofs.EntriesStanding.{First, none_left, first_use, first_open}
use Rattle.hitac.specs.FlatWalk.{flat_walk}
use Rattle.hitac.specs.UsedRules.{flat_rules}
use Rattle.derivation.specs.declared.pending.Pending.{Pending}
use Rattle.std.specs.Prelude.{Option, None, Some}
use Rattle.derivation.specs.Layout.{cursors_place, set_place, set_end}
use Rattle.derivation.specs.Pending.{waiting, first_entry, pending_in, Pends, carries_first, Passes, Takes, Pushes}
use Rattle.derivation.specs.Walks.{EntryInside, carried_goal, walked, Given}
use Rattle.derivation.proofs.EntryLaws.{use_goal, open_goal, stops_other, steps_open, stops_missing, steps_use, FirstEntry, first_entry_lem}
use Rattle.derivation.proofs.PendingLaws.{pends_kept}
use Rattle.derivation.proofs.UsedLaws.{Used, used_first, used_all, used_open, used_use}

-- what `take` tells, by its two cases
module _ (table flat : List ℕ) (roots : ℕ) (w w' : List ℕ) (p : Pending) (γ : Goal) (r : Option Pending) (t : Takes table flat roots w w' p γ r) where
  pub other_told : r ≡ None → (carries_first γ (pending_in table flat roots w p) ≡ false) × (w' ≡ w)
  unfolding Takes
  other_told e = subst (Takes table flat roots w w' p γ) e t

  pub left_told : (q : Pending) → r ≡ Some q → (carries_first γ (pending_in table flat roots w p) ≡ true) × Passes table flat roots w w' p q
  unfolding Takes
  left_told q e = subst (Takes table flat roots w w' p γ) e t

-- what the walk keeps of the work space: its bytes outside the cursors and the set of the rules used are as they were, and the cursors are those of the pending goals
pub record Keeps (table flat : List ℕ) (roots : ℕ) (w₀ w : List ℕ) (p : Pending) : Type 0 where
  pub size : length w ≡ length w₀
  pub kept : Kept w₀ w cursors_place set_end
  pub pends : Pends table flat roots w p

module _ (table flat : List ℕ) (roots : ℕ) (w₀ : List ℕ) where
  pub keeps_first : first_entry roots ≤ length flat → Keeps table flat roots w₀ w₀ (record { lists = 0; roots = roots })
  keeps_first inside = record {
    size = refl;
    kept = kept_same w₀ cursors_place set_end;
    pends = record { cursors = λ d l. absurd (omega arith); room = omega arith; few_roots = omega arith; roots_inside = inside };
  }

  module _ (w w' : List ℕ) (p : Pending) (k : Keeps table flat roots w₀ w p) (size : length w' ≡ length w) where
    pub keeps_passed : (r : Pending) → p.lists ≤ most_uses → Passes table flat roots w w' p r → Keeps table flat roots w₀ w' r
    keeps_passed r few x = record {
      size = size ∙ k.size;
      kept = kept_both w₀ w w' cursors_place set_end cursors_place (cursors_place + p.lists * 4) cursors_place set_end k.kept x.kept (omega arith) (omega arith) (omega arith) (omega arith);
      pends = x.pends;
    }

    pub keeps_pushed : (rule : ℕ) (r : Pending) → p.lists < most_uses → Pushes table flat roots w w' rule p r → Keeps table flat roots w₀ w' r
    keeps_pushed rule r few x = record {
      size = size ∙ k.size;
      kept = kept_both w₀ w w' cursors_place set_end cursors_place (cursors_place + p.lists * 4 + 4) cursors_place set_end k.kept x.kept (omega arith) (omega arith) (omega arith) (omega arith);
      pends = x.pends;
    }

    pub keeps_put : p.lists ≤ most_uses → Kept w w' set_place set_end → Keeps table flat roots w₀ w' p
    keeps_put few x = record {
      size = size ∙ k.size;
      kept = kept_both w₀ w w' cursors_place set_end set_place set_end cursors_place set_end k.kept x (omega arith) (omega arith) (omega arith) (omega arith);
      pends = pends_kept table flat roots w w' p set_place set_end x (omega arith) size k.pends;
    }

-- The walk from the first entry on is the walk from here on. There are at most as many lists as uses so far, and the set has the rules of these.
pub record Reached (T : Table) (flat w : List ℕ) (all : List Entry) (whole : Result (List Goal)) (at lists : ℕ) (pending : List Goal) : Type 0 where
  pub rest : List Entry
  pub stand : EntriesStand flat at (length flat) rest
  pub same : whole ≡ flat_walk T at pending rest
  pub used : ℕ
  pub few : used + uses_in rest ≤ most_uses
  pub bound : lists ≤ used
  pub so_far : Used T w all rest

-- at the first entry
module _ (table : List ℕ) (rules : ℕ) (flat : List ℕ) (roots : ℕ) (w : List ℕ) (T : Table) (es : List Entry) where
  abbrev all_roots : Pending
  all_roots = record { lists = 0; roots = roots }

  roots_pending : goals_at flat 3 roots ≡ pending_in table flat roots w all_roots
  unfolding waiting
  roots_pending =
      let begin : 3 ≡ first_entry (roots - roots) = omega arith in
      ap (λ (k : ℕ). goals_at flat k roots) begin

  pub reached_first : Given table rules flat roots T es → RuleSet w set_place [] → Reached T flat w es (flat_walk T (first_entry roots) (goals_at flat 3 roots) es) (first_entry roots) 0 (pending_in table flat roots w all_roots)
  reached_first g empty = record {
    rest = es;
    stand = g.entries_stand;
    same = ap (λ (h : List Goal). flat_walk T (first_entry roots) h es) roots_pending;
    used = 0;
    few = omega (arith, g.few_uses);
    bound = omega arith;
    so_far = used_first T es w empty;
  }

-- where a walk stops
abbrev pub StopsAt : List ℕ → Result (List Goal) → (at : ℕ) → List Goal → Type 0
StopsAt flat whole at pending = whole ≡ walked (length flat) at pending

use_counts : (es fs : List Entry) (a : RuleName) (γ : Goal) → es ≡ use_entry a γ ∷ fs → uses_in es ≡ 1 + uses_in fs
unfolding uses_in
use_counts es fs a γ e = ap uses_in e

open_counts : (es fs : List Entry) (γ : Goal) → es ≡ open_entry γ ∷ fs → uses_in es ≡ uses_in fs
unfolding uses_in
open_counts es fs γ e = ap uses_in e

module _ (T : Table) (flat w : List ℕ) (all : List Entry) (whole : Result (List Goal)) (at lists : ℕ) (pending : List Goal) (r : Reached T flat w all whole at lists pending) where
  pub here_inside : at ≤ length flat
  here_inside = entries-within r.rest r.stand
    where
      entries-within : (es : List Entry) → EntriesStand flat at (length flat) es → at ≤ length flat
      entries-within es st = omega (arith, entries_end flat es at (length flat) st)

  pub lists_few : lists ≤ most_uses
  lists_few = omega (arith, r.few, r.bound)

  stops_here : at < length flat → whole ≡ refused EntryWrong at → (g : List Goal) → StopsAt flat whole at g
  unfolding walked
  stops_here l e g = e ∙ rw (lt-ltb at (length flat) l)

  -- the file ends here
  pub at_end : length flat ≤ at → StopsAt flat whole at pending
  unfolding walked flat_walk
  at_end l = r.same ∙ rw (none_left flat at (length flat) r.rest r.stand l, le-ltb at (length flat) l)

  -- and the set has the rule of every use
  pub all_used : length flat ≤ at → RuleSet w set_place (flat_rules T all)
  all_used l = used_all T all w r.rest (none_left flat at (length flat) r.rest r.stand l) r.so_far

  -- an entry stands here
  module _ (l : at < length flat) where
    abbrev here : FirstEntry flat at r.rest
    here = first_entry_lem flat at (length flat) r.rest r.stand l

    pub entry_inside : EntryInside flat at
    entry_inside = here.inside

    pub not_first : carries_first (carried_goal flat at) pending ≡ false → (g : List Goal) → StopsAt flat whole at g
    not_first t =
        stops_here l
        (r.same
        ∙ ap (flat_walk T at pending) here.all_are
        ∙ stops_other T at pending here.entry here.others (ap (λ (γ : Goal). carries_first γ pending) (sym here.goal_is) ∙ t))

    -- it carries the first pending goal
    module _ (carried : carries_first (carried_goal flat at) pending ≡ true) where
      -- an open
      pub goes_open : (get_or flat at 0 ≡ 32 → ⊥) → (w' : List ℕ) (lists' : ℕ) (others : List Goal) → lists' ≤ lists → others ≡ drop 1 pending → Used T w' all r.rest → Reached T flat w' all whole (at + 5) lists' others
      goes_open t w' lists' others few passed u =
          let f = first_open flat at (length flat) r.rest r.stand l t in
          record {
            rest = f.others;
            stand = f.others_stand;
            same =
                r.same
                ∙ ap (flat_walk T at pending) f.all_are
                ∙ steps_open T at pending (goal (word flat (at + 3))) f.others (ap (λ (γ : Goal). carries_first γ pending) (sym (open_goal flat at t)) ∙ carried)
                ∙ ap (λ (g : List Goal). flat_walk T (at + 5) g f.others) (sym passed);
            used = r.used;
            few = omega (arith, r.few, open_counts r.rest f.others (goal (word flat (at + 3))) f.all_are);
            bound = omega (arith, r.bound);
            so_far = used_open T all w' r.rest f.others u (goal (word flat (at + 3))) f.all_are;
          }

      -- a use
      module _ (t : get_or flat at 0 ≡ 32) where
        abbrev name : RuleName
        name = rule_name (word flat (at + 3))

        abbrev on : Goal
        on = goal (word flat (at + 5))

        abbrev first : First flat (length flat) r.rest (use_entry name on) (at + 7)
        first = first_use flat at (length flat) r.rest r.stand l t

        on_first : carries_first on pending ≡ true
        on_first = ap (λ (γ : Goal). carries_first γ pending) (sym (use_goal flat at t)) ∙ carried

        pub no_rule : find_rule T name on ≡ none → (g : List Goal) → StopsAt flat whole at g
        no_rule f = stops_here l (r.same ∙ ap (flat_walk T at pending) first.all_are ∙ stops_missing T at pending name on first.others on_first f)

        -- before a use there is room for one list more
        pub room_for : lists < most_uses
        room_for = omega (arith, r.few, r.bound, use_counts r.rest first.others name on first.all_are)

        pub goes_use : (n : ℕ) (h others goals : List Goal) (w' w'' : List ℕ) (lists' : ℕ) → find_rule T name on ≡ some (found_rule n h) → others ≡ drop 1 pending → goals ≡ h ++ others → lists' ≤ lists + 1
            → Used T w' all r.rest → ((ns : List ℕ) → RuleSet w' set_place ns → RuleSet w'' set_place (n ∷ ns)) → Reached T flat w'' all whole (at + 7) lists' goals
        goes_use n h others goals w' w'' lists' f passed pushed few u put = record {
          rest = first.others;
          stand = first.others_stand;
          same =
              r.same
              ∙ ap (flat_walk T at pending) first.all_are
              ∙ steps_use T at pending name on n h first.others on_first f
              ∙ ap (λ (g : List Goal). flat_walk T (at + 7) g first.others) (sym (pushed ∙ ap (λ (g : List Goal). h ++ g) passed));
          used = r.used + 1;
          few = omega (arith, r.few, use_counts r.rest first.others name on first.all_are);
          bound = omega (arith, r.bound);
          so_far = used_use T all w' r.rest first.others u w'' name on n h first.all_are f put;
        }
