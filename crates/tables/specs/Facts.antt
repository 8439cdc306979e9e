-- What a table that reads says, and what a refused one says.
use Rattle.std.specs.Prelude.{ℕ, ◌≤◌, ◌≡◌, List, [], length}
use Rattle.std.proofs.Math.Option.{Option, none}
use Rattle.format.specs.Limits.{most_bytes, most_rules, most_definitions, most_term_fields}
use Rattle.format.specs.declared.refusals.Cause.{Cause}
use Rattle.format.specs.Refusals.{number}
use Rattle.tables.specs.Tables.{Table}
use Rattle.tables.specs.Repeats.{rules_size, placed_rules, placed_tactics, labels_of, first_clash, repeats_rule, recounts_rule, repeats_tactic, repeats_label}
use Rattle.tables.specs.Standing.{TableStands}
use Rattle.tables.specs.Within.{body_fields}

-- the first place of each of 6, 7, 8 and 9 in a table
abbrev pub six_of : Table → Option ℕ
six_of T = first_clash repeats_rule [] (placed_rules 0 T.rules)

abbrev pub seven_of : Table → Option ℕ
seven_of T = first_clash recounts_rule [] (placed_rules 0 T.rules)

abbrev pub eight_of : Table → Option ℕ
eight_of T = first_clash repeats_tactic [] (placed_tactics (rules_size T.rules) T.definitions)

abbrev pub nine_of : Table → Option ℕ
nine_of T = first_clash repeats_label [] (labels_of (rules_size T.rules) T.definitions)

-- bytes that read as a table: its fields stand there, every limit holds, and none of 6, 7, 8, 9
pub record TableFacts (s : List ℕ) (T : Table) : Type 0 where
  pub stands : TableStands s (rules_size T.rules) T
  pub first_within : rules_size T.rules ≤ length s
  pub size : length s ≤ most_bytes
  pub rule_count : length T.rules ≤ most_rules
  pub definition_count : length T.definitions ≤ most_definitions
  pub term_count : body_fields T.definitions ≤ most_term_fields
  pub none_6 : six_of T ≡ none
  pub none_7 : seven_of T ≡ none
  pub none_8 : eight_of T ≡ none
  pub none_9 : nine_of T ≡ none

-- a refusal of a table: its place lies within the file, and its number is one of 1 to 9
pub record TableRefusal (s : List ℕ) (c : Cause) (p : ℕ) : Type 0 where
  pub within : p ≤ length s
  pub below : p ≤ most_bytes
  pub least : 1 ≤ number c
  pub most : number c ≤ 9
