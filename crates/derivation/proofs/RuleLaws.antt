-- The rule of a use, by the way down the index: one law for each way that the code goes at a head and at a node.
-- Assumes nothing.
use Rattle.std.specs.Prelude.{Ok, Err}
use mathlib.Core.Path.{◌≡◌, refl}
use mathlib.Core.Bool.{true, false}
use mathlib.Core.Option.{none, some}
use mathlib.Core.List.{List}
use Prim.Native.Nat.{ℕ, ◌+◌, ◌*◌, ◌-◌, ◌/◌, ◌%◌, ◌≤◌, ◌<◌}
use native.Mathlib.Omega.{arith}
use lib.ListN.{length}
use Rattle.words.specs.Word.{word}
use Rattle.words.specs.Kept.{Kept}
use Rattle.format.specs.Limits.{most_rules}
use Rattle.format.specs.Values.{rule_name, goal}
use Rattle.format.specs.Goals.{goals_at}
use Rattle.tables.specs.declared.repeats.Repeat.TheVariants as K
use Rattle.tables.specs.Tables.{Table}
use Rattle.tables.specs.Lookup.{found_rule, find_rule}
use Rattle.tables.specs.Standing.{TableStands}
use Rattle.tables.specs.Found.{rule_found}
use Rattle.tables.proofs.SearchLaws.{goal_inside}
use Rattle.index.specs.declared.seek.Vacant.TheVariants.{Side, Head}
use Rattle.index.specs.Layout.{heads}
use Rattle.index.specs.Nodes.{link_at, head_of}
use Rattle.index.specs.Keys.{is_key, digits}
use Rattle.index.specs.Index.{Sound}
use Rattle.index.specs.Build.{RulesIndexed}
use Rattle.index.proofs.SeekLaws as seek
use Rattle.index.proofs.SeekLaws.{Way}
use Rattle.index.proofs.AnswerLaws.{Nowhere, Only, at_vacant, at_node}
use Rattle.index.proofs.FindLaws as find
use Rattle.index.proofs.IndexKept.{indexed_before}
use Rattle.derivation.specs.Layout.{cursors_place, set_end, index_place, nodes_place}
use Rattle.derivation.specs.Pending.{RuleInside}

-- the rules stay indexed where only cursors and the set of the rules used are written
pub indexed_still : (table : List ℕ) (rules : ℕ) (w w' : List ℕ) → length w' ≡ length w → Kept w w' cursors_place set_end → RulesIndexed table rules w index_place → RulesIndexed table rules w' index_place
indexed_still table rules w w' size kept ix = (ix.0, ix.1, indexed_before K.Rule table ix.0 w w' index_place cursors_place set_end size kept (omega arith) ix.2)

-- no rule of the table has this name and goal
abbrev pub Missing : (table : List ℕ) → (rules name on : ℕ) → Type 0
Missing table rules name on = (T : Table) → TableStands table rules T → find_rule T (rule_name name) (goal on) ≡ none

missing : (table : List ℕ) (rules : ℕ) (work : List ℕ) (ix : RulesIndexed table rules work index_place) (name on : ℕ) → Nowhere K.Rule table ix.0 work index_place ix.2.0 ix.2.1 name on → Missing table rules name on
unfolding rule_found
missing table rules work ix name on nowhere T st = (find.rule_missing_lem table rules work index_place ix T st (rule_name name) (goal on) nowhere).found T st

-- the search for a name and a goal comes to a node with these digits left
abbrev pub Descends : (table work : List ℕ) → (name on rest node : ℕ) → Type 0
Descends table work name on rest node = (n : ℕ) → Sound K.Rule table work index_place n → Way K.Rule table work index_place n name on rest node

-- at the head of the name and the goal
module _ (table work : List ℕ) (name on d head : ℕ) (digits_are : d ≡ digits name on) (told : head ≡ head_of work index_place d) where
  pub at_first : (head ≡ 0 → ⊥) → Descends table work name on (d / heads) (head - 1)
  at_first h = λ n so. seek.begins K.Rule table work index_place n name on d head digits_are told so h

  pub none_headed : (rules : ℕ) → RulesIndexed table rules work index_place → head ≡ 0 → Missing table rules name on
  none_headed rules ix z =
      missing table rules work ix name on (at_vacant K.Rule table ix.0 work index_place ix.2.0 ix.2.1 name on (Err Head) (λ n so. seek.no_head K.Rule table work index_place n name on d head digits_are told z) Head refl)

-- at a node on that way
pub record AtNode (table : List ℕ) (rules : ℕ) (work : List ℕ) (name on rest node : ℕ) : Type 0 where
  pub indexed : RulesIndexed table rules work index_place
  pub the_table : Table
  pub stands : TableStands table rules the_table
  pub way : Descends table work name on rest node

module _ {table : List ℕ} {rules : ℕ} {work : List ℕ} {name on rest node : ℕ} (a : AtNode table rules work name on rest node) where
  abbrev n : ℕ
  n = a.indexed.2.0

  sound : Sound K.Rule table work index_place n
  sound = a.indexed.2.1.sound

  here : Way K.Rule table work index_place n name on rest node
  here = a.way n sound

  pub node_few : node < most_rules
  node_few = omega (arith, here.within, sound.few)

  pub node_inside : nodes_place + node * 5 + 5 ≤ length work
  node_inside = omega (arith, here.within, sound.room)

  module _ (place : ℕ) (told : place ≡ word work (nodes_place + node * 5)) where
    pub rule_here : place + 7 ≤ length table
    rule_here = let f = seek.field-here K.Rule table work index_place n name on sound rest node here place told in goal_inside K.Rule table place f.0 refl f.1

    -- the rule was found, and the node has its number
    module _ (k : is_key K.Rule table name on place ≡ true) where
      only : Only K.Rule table a.indexed.0 work index_place n a.indexed.2.1 name on node place
      only = at_node K.Rule table a.indexed.0 work index_place n a.indexed.2.1 name on (Ok (record { node = node; place = place })) (λ m so. seek.node_found K.Rule table work index_place m name on so rest node (a.way m so) place told k) (record { node = node; place = place }) refl

      pub rule_inside : RuleInside table place
      rule_inside =
          let b = find.bounds table rules work index_place a.indexed a.the_table a.stands (rule_name name) (goal on) node place only in
          record { seven = b.0; least = b.1; most = b.2; inside = b.3 }

      pub rule_found_lem : (T : Table) → TableStands table rules T → find_rule T (rule_name name) (goal on) ≡ some (found_rule node (goals_at table (place + 7) (word table (place + 1) / 2 - 2)))
      unfolding rule_found
      rule_found_lem T st = (find.rule_found_lem table rules work index_place a.indexed a.the_table a.stands (rule_name name) (goal on) node place only (word table (place + 1)) refl).found T st

    -- another rule
    module _ (k : is_key K.Rule table name on place ≡ false) (next : ℕ) (link-is : next ≡ link_at work (nodes_place + node * 5) (rest % 2)) where
      pub none_found : next ≡ 0 → Missing table rules name on
      none_found z =
          missing table rules work a.indexed name on
          (at_vacant K.Rule table a.indexed.0 work index_place n a.indexed.2.1 name on (Err (Side node (rest % 2))) (λ m so. seek.none_follows K.Rule table work index_place m name on so rest node (a.way m so) place told k next link-is z) (Side node (rest % 2)) refl)

      pub goes_down : (next ≡ 0 → ⊥) → Descends table work name on (rest / 2) next
      goes_down z = λ m so. (seek.goes_down K.Rule table work index_place m name on so rest node (a.way m so) place told k next link-is z).0

      pub higher : (next ≡ 0 → ⊥) → (node < next) × (next < most_rules)
      higher z =
          let d = seek.goes_down K.Rule table work index_place n name on sound rest node here place told k next link-is z in
          (d.1, omega (arith, d.0.within, sound.few))
