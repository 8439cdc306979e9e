-- The order of 6, 7, 8 and 9, on tables that have several of them: each is computed.
-- Assumes nothing.
use mathlib.Core.Path.{◌≡◌, refl}
use mathlib.Core.List.{List, [], ◌∷◌}
use Prim.Native.Nat.{ℕ}
use Rattle.format.specs.declared.values.Goal.{Goal}
use Rattle.format.specs.declared.refusals.Cause.TheVariants.{RuleRepeated, PremiseCountDiffers, TacticRedefined, LabelRepeated}
use Rattle.format.specs.Results.{refused}
use Rattle.format.specs.Values.{rule_name, goal, label_of, tactic_no}
use Rattle.format.specs.Terms.{Term, id, label, size}
use Rattle.tables.specs.Tables.{Rule, Definition}
use Rattle.tables.specs.Repeats.{rule_size, definition_size, rules_size, placed_rules, placed_tactics, placed_labels, labels_of, clashes_any, first_clash, repeats_rule, recounts_rule, repeats_tactic, repeats_label, refuse_at, whole_table}

abbrev rule : ℕ → ℕ → List Goal → Rule
rule a γ g = record { name = rule_name a; goal = goal γ; premises = g }

abbrev define : ℕ → Term → Definition
define n t = record { tactic = tactic_no n; body = t }

-- two definitions of one tactic, each with the same label
abbrev twice : List Definition
twice = define 1 (label (label_of 5) id) ∷ define 1 (label (label_of 5) id) ∷ []

-- 7 at place 7, 6 at place 23, 8 and 9 behind them: 6
pub six_first : whole_table (record { rules = rule 1 1 [] ∷ rule 1 2 (goal 3 ∷ []) ∷ rule 2 2 [] ∷ rule 2 2 [] ∷ []; definitions = twice }) ≡ refused RuleRepeated 23
unfolding rule_size definition_size rules_size placed_rules placed_tactics placed_labels labels_of clashes_any first_clash repeats_rule recounts_rule repeats_tactic repeats_label refuse_at whole_table size
six_first = refl

-- without 6: 7
pub seven_next : whole_table (record { rules = rule 1 1 [] ∷ rule 1 2 (goal 3 ∷ []) ∷ []; definitions = twice }) ≡ refused PremiseCountDiffers 7
unfolding rule_size definition_size rules_size placed_rules placed_tactics placed_labels labels_of clashes_any first_clash repeats_rule recounts_rule repeats_tactic repeats_label refuse_at whole_table size
seven_next = refl

-- without 7: 8 at the second definition
pub eight_next : whole_table (record { rules = rule 1 1 [] ∷ []; definitions = twice }) ≡ refused TacticRedefined 20
unfolding rule_size definition_size rules_size placed_rules placed_tactics placed_labels labels_of clashes_any first_clash repeats_rule recounts_rule repeats_tactic repeats_label refuse_at whole_table size
eight_next = refl

-- without 8: 9 at the label, twice in one body
pub nine_last : whole_table (record { rules = rule 1 1 [] ∷ []; definitions = define 1 (label (label_of 5) (label (label_of 5) id)) ∷ [] }) ≡ refused LabelRepeated 17
unfolding rule_size definition_size rules_size placed_rules placed_tactics placed_labels labels_of clashes_any first_clash repeats_rule recounts_rule repeats_tactic repeats_label refuse_at whole_table size
nine_last = refl
