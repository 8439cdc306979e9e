-- The plan of a flat file's entries, one by one: those before a place are planned, those from it on are not. One law for each turn of the loop.
-- Assumes nothing.
use Prim.Native.Nat.{ℕ, ◌+◌, ◌*◌, ◌≤◌, ◌<◌}
use mathlib.Core.Path.{◌≡◌, refl, sym, ap, subst, ◌∙◌}
use mathlib.Core.List.{List, [], ◌∷◌, ◌++◌, append_assoc, append-nil}
use native.Mathlib.Omega.{arith}
use lib.ListN.{length, get_or, length-append}
use Rattle.words.specs.Word.{word}
use Rattle.words.specs.Kept.{Kept}
use Rattle.format.specs.Limits.{most_entries}
use Rattle.format.specs.Values.{rule_name, goal}
use Rattle.tables.specs.Tables.{Table}
use Rattle.files.specs.Derivations.{Entry, use_entry, open_entry}
use Rattle.files.proofs.EntriesStanding.{First, none_left, first_use, first_open}
use Rattle.hitac.specs.Forest.{premises_of}
use Rattle.writer.specs.Plan.{plan_size, open_mark, Planned, Noted}
use Rattle.writer.specs.Leaves.{Rest}
use Rattle.writer.proofs.PlanLaws.{planned_at, planned_joined, planned_kept}

pub record PlannedTo (T : Table) {s : List ℕ} {from : ℕ} (r : Rest s from) (p : List ℕ) (at to : ℕ) : Type 0 where
  pub done : List Entry
  pub rest : Rest s at
  pub all : r.entries ≡ done ++ rest.entries
  pub to_is : to ≡ length done * 3
  pub planned : Planned T p 0 done

pub plan_start : (T : Table) {s : List ℕ} {from : ℕ} (r : Rest s from) (p : List ℕ) → PlannedTo T r p from 0
unfolding Planned
plan_start T r p = record { done = []; rest = r; all = refl; to_is = refl; planned = tt }

module _ (T : Table) {s : List ℕ} {from : ℕ} {r : Rest s from} {p : List ℕ} {at to : ℕ} (l : PlannedTo T r p at to) where
  pub plan_done : length s ≤ at → Planned T p 0 r.entries
  plan_done h =
      let e : r.entries ≡ l.done = l.all ∙ ap {B = List Entry} (λ es. l.done ++ es) (none_left s at (length s) l.rest.entries l.rest.stand h) ∙ append-nil l.done in
      subst (Planned T p 0) (sym e) l.planned

  -- an entry stands here
  module _ (e : Entry) (next : ℕ) (f : First s (length s) l.rest.entries e next) where
    room : length r.entries ≤ most_entries → to + 3 ≤ plan_size
    room few = omega (arith, few, ap length l.all, length-append l.done l.rest.entries, ap length f.all_are, l.to_is)

    turn : (p' : List ℕ) → Kept p p' to (to + 3) → Planned T p' to (e ∷ []) → PlannedTo T r p' next (to + 3)
    turn p' k new =
        record {
          done = l.done ++ (e ∷ []);
          rest = record { entries = f.others; stand = f.others_stand };
          all = l.all ∙ ap {B = List Entry} (λ es. l.done ++ es) f.all_are ∙ sym (append_assoc l.done (e ∷ []) f.others);
          to_is = omega (arith, l.to_is, length-append l.done (e ∷ []));
          planned =
              planned_joined T p' l.done (e ∷ []) 0
              (planned_kept T p p' l.done 0 (λ i b. k.below i (omega (arith, b, l.to_is))) l.planned)
              (planned_at T p' (e ∷ []) (omega (arith, l.to_is)) new);
        }

  -- an open
  module _ (inside : at < length s) (tag : get_or s at 0 ≡ 32 → ⊥) where
    abbrev the_open : First s (length s) l.rest.entries (open_entry (goal (word s (at + 3)))) (at + 5)
    the_open = first_open s at (length s) l.rest.entries l.rest.stand inside tag

    pub open_room : length r.entries ≤ most_entries → to + 3 ≤ plan_size
    open_room = room _ _ the_open

    pub open_inside : at + 5 ≤ length s
    open_inside = the_open.inside

    pub open_turn : (p' : List ℕ) (name : ℕ) → Noted p p' to name open_mark → PlannedTo T r p' (at + 5) (to + 3)
    unfolding Planned
    open_turn p' name n = turn _ _ the_open p' n.kept (n.count_is, tt)

  -- a use
  module _ (inside : at < length s) (tag : get_or s at 0 ≡ 32) where
    abbrev the_use : First s (length s) l.rest.entries (use_entry (rule_name (word s (at + 3))) (goal (word s (at + 5)))) (at + 7)
    the_use = first_use s at (length s) l.rest.entries l.rest.stand inside tag

    pub use_room : length r.entries ≤ most_entries → to + 3 ≤ plan_size
    use_room = room _ _ the_use

    pub use_inside : at + 7 ≤ length s
    use_inside = the_use.inside

    pub use_turn : (p' : List ℕ) (name count : ℕ) → Noted p p' to name count → name ≡ word s (at + 3)
        → count ≡ length (premises_of T (rule_name (word s (at + 3))) (goal (word s (at + 5)))) → count ≤ 8 → PlannedTo T r p' (at + 7) (to + 3)
    unfolding Planned
    use_turn p' name count n e c few = turn _ _ the_use p' n.kept (n.name_is ∙ e, n.count_is ∙ c, subst (λ (k : ℕ). k < open_mark) c (omega (arith, few)), tt)
