-- The answer of the flat-derivation checker: one law for each way that it ends, by where the walk stopped and by what the two files read as.
-- Assumes nothing.
use Rattle.std.specs.Prelude.{Ok, Err}
use Rattle.std.specs.Prelude as std
use mathlib.Core.Path.{◌≡◌, refl, sym, subst, ap, ap₂, ◌∙◌}
use mathlib.Core.List.{List, [], ◌∷◌}
use Prim.Native.Nat.{ℕ, ◌+◌, ◌≤◌, ◌<◌}
use native.Mathlib.Omega.{arith}
use lib.ListN.{length}
use borrow.Author.Tests.{lt-ltb, le-ltb}
use Rattle.words.specs.Kept.{Kept}
use Rattle.format.specs.declared.values.Goal.{Goal}
use Rattle.format.specs.Limits.{most_bytes, most_goals, most_uses, most_opens}
use Rattle.format.specs.declared.refusals.Cause.TheVariants.{EntryWrong, GoalsPending, WorkTooShort}
use Rattle.format.specs.declared.refusals.Refusal.{Refusal}
use Rattle.format.specs.Refusals.{number}
use Rattle.format.specs.Results.{Result, gives, refused, and_then, told, refused_at}
use Rattle.format.proofs.ResultLaws.{same_refusal}
use Rattle.format.specs.Goals.{goals_at}
use Rattle.rule_set.specs.Different.{different}
use Rattle.rule_set.specs.Sets.{RuleSet}
use Rattle.tables.specs.Tables.{Table}
use Rattle.tables.specs.Standing.{TableStands}
use Rattle.index.specs.Build.{RulesIndexed}
use Rattle.files.specs.declared.flats.FlatParts.{FlatParts}
use Rattle.files.specs.Derivations.{Derivation, read_flat, entries_place}
use Rattle.files.specs.Counts.{uses_in, opens_in}
use Rattle.files.specs.Shapes.{flat_parts_of}
use Rattle.files.specs.Standing.{EntriesStand}
use Rattle.files.proofs.WhatStands.{flat_stands}
use Rattle.hitac.specs.Forest.{leaves}
use Rattle.hitac.specs.Counts.{uses, every_use}
use Rattle.hitac.specs.FlatWalk.{flat_walk}
use Rattle.hitac.specs.UsedRules.{flat_rules}
use Rattle.hitac.proofs.EntryCounts.{uses-counted, opens_counted}
use Rattle.answers.specs.declared.Answer.{Answer}
use Rattle.answers.specs.Answers.{refusal, counted}
use Rattle.entries.specs.Outcomes.{in_file, done, other_file, no_file}
use Rattle.entries.specs.LentSpace.{counted_answer, check_in, cleared}
use Rattle.entries.specs.CheckFlat.{none_pending, right, flat_counts, check_flat_outcome, check_flat_work, check_flat}
use Rattle.derivation.specs.declared.check.Counted.{Counted}
use Rattle.derivation.specs.declared.walk.Stop.{Stop}
use Rattle.derivation.specs.Layout.{index_place, set_place, set_end}
use Rattle.derivation.specs.Pending.{first_entry, pending_in}
use Rattle.derivation.specs.Walks.{walked, Given, Ready, Walks}
use Rattle.derivation.specs.CheckedEntries.{DerivationAt, FilesStand, FilesRefused, table_refused, flat_refused, counted_of, checked_entries}
use Rattle.derivation.proofs.PendingLaws.{none_pending_lem, some_first}
use Rattle.derivation.proofs.RuleLaws.{indexed_still}

-- what the parts of a derivation that stands in a file say
pub record PartsHold (flat : List ℕ) (parts : FlatParts) (d : Derivation) : Type 0 where
  pub roots_are : length d.roots ≡ parts.roots
  pub place_is : entries_place d ≡ first_entry parts.roots
  pub uses_are : uses every_use d.entries ≡ parts.uses
  pub opens_are : length (leaves d.entries) ≡ parts.opens
  pub few_roots : parts.roots ≤ most_goals
  pub few_uses : parts.uses ≤ most_uses
  pub few_opens : parts.opens ≤ most_opens
  pub roots_inside : first_entry parts.roots ≤ length flat
  pub short : length flat ≤ most_bytes

module _ (flat : List ℕ) (parts : FlatParts) (d : Derivation) (at : DerivationAt flat parts d) where
  pub parts_hold : PartsHold flat parts d
  unfolding flat_parts_of entries_place
  parts_hold =
      let r : length d.roots ≡ parts.roots = ap (λ (q : FlatParts). q.roots) at.parts_are in
      let u : uses_in d.entries ≡ parts.uses = ap (λ (q : FlatParts). q.uses) at.parts_are in
      let o : opens_in d.entries ≡ parts.opens = ap (λ (q : FlatParts). q.opens) at.parts_are in
      record {
        roots_are = r;
        place_is = omega arith;
        uses_are = sym (uses-counted d.entries) ∙ u;
        opens_are = sym (opens_counted d.entries) ∙ o;
        few_roots = omega (arith, at.stands.roots_stand.few);
        few_uses = omega (arith, at.stands.few_uses);
        few_opens = omega (arith, at.stands.few_opens);
        roots_inside = omega (arith, at.stands.roots_stand.head.inside);
        short = at.stands.short;
      }

  pub given_entries : (table : List ℕ) (rules : ℕ) (T : Table) → TableStands table rules T → Given table rules flat parts.roots T d.entries
  given_entries table rules T ts = record {
    rules_stand = ts;
    entries_stand = subst (λ (k : ℕ). EntriesStand flat k (length flat) d.entries) parts_hold.place_is at.stands.entries_stand;
    few_uses = at.stands.few_uses;
  }

  -- the set was made empty
  pub ready_entries : (table : List ℕ) (rules : ℕ) (T : Table) (w w' : List ℕ) → TableStands table rules T → length table ≤ most_bytes → RulesIndexed table rules w index_place
      → length w' ≡ length w → Kept w w' set_place set_end → RuleSet w' set_place [] → Ready table rules flat parts.roots w'
  ready_entries table rules T w w' ts short ix size k empty = record {
    the_table = T;
    the_entries = d.entries;
    given = given_entries table rules T ts;
    short = short;
    indexed = indexed_still table rules w w' size (record { below = λ i l. k.below i (omega arith); above = k.above }) ix;
    none_used = empty;
  }

-- the walk over the entries, from the roots on, stopped
module _ (flat : List ℕ) (parts : FlatParts) (d : Derivation) (at : DerivationAt flat parts d) (table : List ℕ) (rules : ℕ) (T : Table) (ts : TableStands table rules T)
    (w w' : List ℕ) (stop : Stop) (walks : Walks table rules flat parts.roots w w' stop) where
  abbrev left : List Goal
  left = pending_in table flat parts.roots w' stop.pending

  result : flat_walk T (entries_place d) d.roots d.entries ≡ walked (length flat) stop.place left
  result =
      let p = parts_hold flat parts d at in
      ap₂ (λ (k : ℕ) (g : List Goal). flat_walk T k g d.entries) p.place_is (at.stands.roots_stand.goals_are ∙ ap (goals_at flat 3) p.roots_are)
      ∙ walks.result T d.entries (given_entries flat parts d at table rules T ts)

  abbrev answer : std.Result Counted Refusal
  answer = checked_entries T d (length flat)

  -- an entry does not apply
  pub wrong_entry : stop.place < length flat → Err (record { cause = EntryWrong; place = stop.place }) ≡ answer
  unfolding checked_entries right and_then walked told
  wrong_entry l = rw (result, lt-ltb stop.place (length flat) l)

  -- goals are pending at the end
  pub goals_left : length flat ≤ stop.place → 0 < stop.pending.lists + stop.pending.roots → Err (record { cause = GoalsPending; place = length flat }) ≡ answer
  unfolding checked_entries right and_then none_pending walked told
  goals_left l h = rw (result, le-ltb stop.place (length flat) l, (some_first table flat _ w' stop.pending walks.pends h).2)

  -- at the file's end the set has the rule of every use
  pub used_rules : length flat ≤ stop.place → RuleSet w' set_place (flat_rules T d.entries)
  used_rules = walks.rules_used T d.entries (given_entries flat parts d at table rules T ts)

  -- the file is right; `used` is the size of that set
  pub all_right : length flat ≤ stop.place → stop.pending.lists + stop.pending.roots ≡ 0 → (used : ℕ) → used ≡ different (flat_rules T d.entries) → Ok (record { uses = parts.uses; opens = parts.opens; rules = used }) ≡ answer
  unfolding checked_entries right and_then none_pending walked flat_counts told
  all_right l z used e =
      let p = parts_hold flat parts d at in
      rw (result, le-ltb stop.place (length flat) l, none_pending_lem table flat parts.roots w' stop.pending z, p.uses_are, p.opens_are, e)

-- the answer for entries that were checked, by what the check gave
module _ (T : Table) (d : Derivation) (end : ℕ) where
  abbrev outcome : Result (List Goal) → Answer
  outcome w = counted_answer (in_file other_file (and_then w (none_pending end (flat_counts T d))) done)

  wrong_entries : (f : Refusal) → checked_entries T d end ≡ Err f → refusal (number f.cause) other_file f.place 0 ≡ outcome (flat_walk T (entries_place d) d.roots d.entries)
  unfolding checked_entries right told and_then none_pending
  wrong_entries f e = go (flat_walk T (entries_place d) d.roots d.entries) e
    where
      go : (w : Result (List Goal)) → told refused_at (λ c. Ok (counted_of c)) (and_then w (none_pending end (flat_counts T d))) ≡ Err f → refusal (number f.cause) other_file f.place 0 ≡ outcome w
      go (gives []) e = absurd (let z : ◌≡◌ {A = ℕ} 0 1 = cc in omega arith)
      go (gives (γ ∷ g)) e = ap (λ (x : Refusal). refusal (number x.cause) other_file x.place 0) (sym (same_refusal e))
      go (refused c p) e = ap (λ (x : Refusal). refusal (number x.cause) other_file x.place 0) (sym (same_refusal e))

  right_entries : (c : Counted) → checked_entries T d end ≡ Ok c → counted 0 c.uses c.opens c.rules ≡ outcome (flat_walk T (entries_place d) d.roots d.entries)
  unfolding checked_entries right told and_then none_pending flat_counts
  right_entries c e = go (flat_walk T (entries_place d) d.roots d.entries) e
    where
      same : {x y : Counted} → ◌≡◌ {A = std.Result Counted Refusal} (Ok x) (Ok y) → x ≡ y
      same e = cc

      go : (w : Result (List Goal)) → told refused_at (λ c. Ok (counted_of c)) (and_then w (none_pending end (flat_counts T d))) ≡ Ok c → counted 0 c.uses c.opens c.rules ≡ outcome w
      go (gives []) e = ap (λ (x : Counted). counted 0 x.uses x.opens x.rules) (sym (same e))
      go (gives (γ ∷ g)) e = absurd (let z : ◌≡◌ {A = ℕ} 0 1 = cc in omega arith)
      go (refused k p) e = absurd (let z : ◌≡◌ {A = ℕ} 0 1 = cc in omega arith)

module _ (table flat : List ℕ) where
  abbrev within : Answer
  within = counted_answer (check_flat_outcome table flat)

  -- one of the files was refused
  pub refused_files : (a : Answer) → FilesRefused table flat a → a ≡ within
  unfolding check_flat_outcome
  refused_files a (table_refused f e is) = is ∙ rw e
  refused_files a (flat_refused T reads f e is) = is ∙ rw (reads, e)

  -- both were read
  module _ {work : List ℕ} {rules : ℕ} {parts : FlatParts} (s : FilesStand table flat work rules parts) where
    pub refused_entries : (f : Refusal) → checked_entries s.the_table s.derivation (length flat) ≡ Err f → refusal (number f.cause) other_file f.place 0 ≡ within
    unfolding check_flat_outcome right
    refused_entries f e = wrong_entries s.the_table s.derivation (length flat) f e ∙ rw (s.reads, s.flat_reads)

    pub all_counted : (c : Counted) → checked_entries s.the_table s.derivation (length flat) ≡ Ok c → counted 0 c.uses c.opens c.rules ≡ within
    unfolding check_flat_outcome right
    all_counted c e = right_entries s.the_table s.derivation (length flat) c e ∙ rw (s.reads, s.flat_reads)

  pub too_short : (work : List ℕ) → length work < check_flat_work → check_flat table flat work ≡ record { answer = refusal (number WorkTooShort) no_file 0 0; work = work }
  unfolding check_flat check_in
  too_short work l = rw (lt-ltb (length work) check_flat_work l)

  pub long_enough : (work : List ℕ) → check_flat_work ≤ length work → check_flat table flat work ≡ record { answer = within; work = cleared work }
  unfolding check_flat check_in
  long_enough work l = rw (le-ltb (length work) check_flat_work l)

-- a derivation that reads, with the parts that the code keeps
pub read_at : (flat : List ℕ) (parts : FlatParts) (d : Derivation) → read_flat flat ≡ gives d → flat_parts_of d ≡ parts → DerivationAt flat parts d
read_at flat parts d e q = record { stands = flat_stands flat d e; parts_are = q }

-- bytes that are unchanged hold the same index
pub still_indexed : (table : List ℕ) (rules : ℕ) (w w' : List ℕ) → w' ≡ w → RulesIndexed table rules w index_place → RulesIndexed table rules w' index_place
still_indexed table rules w w' e = subst (λ (v : List ℕ). RulesIndexed table rules v index_place) (sym e)

-- the two cases of what the code answers
pub either : {A E : Type 0} (x : std.Result A E) {G : Type 0} → ((a : A) → x ≡ Ok a → G) → ((e : E) → x ≡ Err e → G) → G
either (Ok a) ok err = ok a refl
either (Err e) ok err = err e refl
