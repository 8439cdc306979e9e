-- Document 01, "Fields": which fields may still come in a table and in a flat file.
use Rattle.std.specs.Prelude.{ℕ, Bool, cond, List, eqb, leb, get_or}
use Rattle.format.specs.Limits.{most_rules, most_definitions, most_uses, most_opens}
use Rattle.format.specs.Tags.{rule_kind, definition_kind}

-- "At most 4,096 rules, 256 definitions": no more fields of the kind that begins here may come
unfoldable pub full_table : List ℕ → (at rules definitions : ℕ) → Bool
full_table s at rules definitions = cond (eqb (get_or s at 0) 1) (leb most_rules rules) (leb most_definitions definitions)

-- "any rules, then any definitions": the lowest kind that may still stand
unfoldable pub lowest : (definitions : ℕ) → ℕ
lowest definitions = cond (eqb definitions 0) rule_kind definition_kind

-- "4,096 uses, 256 opens": no more fields of the kind that begins here may come
unfoldable pub full_flat : List ℕ → (at uses opens : ℕ) → Bool
full_flat s at uses opens = cond (eqb (get_or s at 0) 32) (leb most_uses uses) (leb most_opens opens)
