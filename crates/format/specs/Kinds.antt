-- The kinds of the code by their numbers, which have gaps for kinds that later requests add.
use Rattle.std.specs.Prelude.{ℕ}
use Rattle.format.specs.Tags.{no_kind, rule_kind, definition_kind, goal_list_kind, hiproof_kind, tactic_kind, entry_kind}
use Rattle.format.specs.declared.tags.Kind.{Kind}
use Rattle.format.specs.declared.tags.Kind.TheVariants.{NoTag, Rule, Definition, GoalList, Hiproof, Tactic, Entry}

abbrev pub kind_number : Kind → ℕ
kind_number NoTag = no_kind
kind_number Rule = rule_kind
kind_number Definition = definition_kind
kind_number GoalList = goal_list_kind
kind_number Hiproof = hiproof_kind
kind_number Tactic = tactic_kind
kind_number Entry = entry_kind
