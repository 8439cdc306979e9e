-- What the walk over a flat file's entries comes to.
use Rattle.std.specs.Prelude.{ℕ, ◌+◌, ◌≤◌, ◌≡◌, cond, List, [], eqb, ltb, length, get_or}
use Rattle.words.specs.Word.{word}
use Rattle.words.specs.Kept.{Kept}
use Rattle.format.specs.declared.values.Goal.{Goal}
use Rattle.format.specs.Limits.{most_bytes, most_uses}
use Rattle.format.specs.declared.refusals.Cause.TheVariants.{EntryWrong}
use Rattle.format.specs.Results.{Result, gives, refused}
use Rattle.format.specs.Values.{goal}
use Rattle.format.specs.Goals.{goals_at}
use Rattle.rule_set.specs.Sets.{RuleSet}
use Rattle.tables.specs.Tables.{Table}
use Rattle.tables.specs.Standing.{TableStands}
use Rattle.index.specs.Build.{RulesIndexed}
use Rattle.files.specs.Derivations.{Entry}
use Rattle.files.specs.Counts.{uses_in}
use Rattle.files.specs.Standing.{EntriesStand}
use Rattle.hitac.specs.FlatWalk.{flat_walk}
use Rattle.hitac.specs.UsedRules.{flat_rules}
use Rattle.derivation.specs.declared.walk.Stop.{Stop}
use Rattle.derivation.specs.Layout.{index_place, cursors_place, set_place, set_end}
use Rattle.derivation.specs.Pending.{first_entry, pending_in, Pends}

-- the goal of the entry at a place: behind the rule name of a use, behind the header of an open
unfoldable pub carried_goal : List ℕ → (at : ℕ) → Goal
carried_goal s at = goal (cond (eqb (get_or s at 0) 32) (word s (at + 5)) (word s (at + 3)))

-- an entry lies within the file
pub record EntryInside (s : List ℕ) (at : ℕ) : Type 0 where
  pub some_entry : at + 5 ≤ length s
  pub some_use : get_or s at 0 ≡ 32 → at + 7 ≤ length s

-- what the walk comes to, by where it stopped: an entry that is wrong, or at the file's end the goals that are still pending
unfoldable pub walked : (end place : ℕ) → (pending : List Goal) → Result (List Goal)
walked end place g = cond (ltb place end) (refused EntryWrong place) (gives g)

-- a table and entries that stand in the two files, within the limit of uses
pub record Given (table : List ℕ) (rules : ℕ) (flat : List ℕ) (roots : ℕ) (T : Table) (es : List Entry) : Type 0 where
  pub rules_stand : TableStands table rules T
  pub entries_stand : EntriesStand flat (first_entry roots) (length flat) es
  pub few_uses : uses_in es ≤ most_uses

-- they stand there; the rules are indexed in the work space, and the set of the rules used is empty. It stands behind room for the cursors of every such walk.
pub record Ready (table : List ℕ) (rules : ℕ) (flat : List ℕ) (roots : ℕ) (work : List ℕ) : Type 0 where
  pub the_table : Table
  pub the_entries : List Entry
  pub given : Given table rules flat roots the_table the_entries
  pub short : length table ≤ most_bytes
  pub indexed : RulesIndexed table rules work index_place
  pub none_used : RuleSet work set_place []

-- the walk from the roots on, where it stopped, at the file's end the set of the rules used, and what it leaves alone in the work space
pub record Walks (table : List ℕ) (rules : ℕ) (flat : List ℕ) (roots : ℕ) (w w' : List ℕ) (stop : Stop) : Type 0 where
  pub result : (T : Table) (es : List Entry) → Given table rules flat roots T es
      → flat_walk T (first_entry roots) (goals_at flat 3 roots) es ≡ walked (length flat) stop.place (pending_in table flat roots w' stop.pending)
  pub inside : stop.place ≤ length flat
  pub pends : Pends table flat roots w' stop.pending
  pub rules_used : (T : Table) (es : List Entry) → Given table rules flat roots T es → length flat ≤ stop.place → RuleSet w' set_place (flat_rules T es)
  pub kept : Kept w w' cursors_place set_end
