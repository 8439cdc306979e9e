-- Document 01, "What the bytes bring about": 6, 7, 8, 9, "each over the whole table, at the lowest place".
use Rattle.std.specs.Prelude.{ℕ, ◌+◌, ◌*◌, Bool, true, false, cond, ◌&&◌, not, List, [], ◌∷◌, ◌++◌, eqb, length}
use Rattle.std.proofs.Math.Option.{Option, none, some}
use Rattle.format.specs.declared.values.Label.{Label}
use Rattle.format.specs.declared.values.TacticNo.{TacticNo}
use Rattle.format.specs.declared.refusals.Cause.{Cause}
use Rattle.format.specs.declared.refusals.Cause.TheVariants.{RuleRepeated, PremiseCountDiffers, TacticRedefined, LabelRepeated}
use Rattle.format.specs.Results.{Result, gives, refused}
use Rattle.format.specs.Terms.{Term, atomic, id, label, sequence, tensor, empty, alternation, assert, defined, size}
use Rattle.tables.specs.Tables.{Rule, Definition, Table}
use Rattle.tables.specs.Lookup.{same_name, same_goal, same_tactic}

-- a value and the place of its field
pub record Placed (A : Type 0) : Type 0 where
  pub value : A
  pub place : ℕ

-- bytes of a rule's field and of a definition's
unfoldable pub rule_size : Rule → ℕ
rule_size r = 7 + length r.premises * 2

unfoldable pub definition_size : Definition → ℕ
definition_size d = 5 + size d.body

unfoldable pub rules_size : List Rule → ℕ
rules_size [] = 0
rules_size (r ∷ rs) = rule_size r + rules_size rs

-- the rules, the tactic numbers and the labels of a table, each with its place, from a place on
unfoldable pub placed_rules : ℕ → List Rule → List (Placed Rule)
placed_rules at [] = []
placed_rules at (r ∷ rs) = record { value = r; place = at } ∷ placed_rules (at + rule_size r) rs

unfoldable pub placed_tactics : ℕ → List Definition → List (Placed TacticNo)
placed_tactics at [] = []
placed_tactics at (d ∷ ds) = record { value = d.tactic; place = at } ∷ placed_tactics (at + definition_size d) ds

-- the label fields of a term whose field is at a place, in byte order
unfoldable pub placed_labels : ℕ → Term → List (Placed Label)
placed_labels at (atomic a) = []
placed_labels at id = []
placed_labels at (label l t) = record { value = l; place = at } ∷ placed_labels (at + 5) t
placed_labels at (sequence t u) = placed_labels (at + 3) t ++ placed_labels (at + 3 + size t) u
placed_labels at (tensor t u) = placed_labels (at + 3) t ++ placed_labels (at + 3 + size t) u
placed_labels at empty = []
placed_labels at (alternation t u) = placed_labels (at + 3) t ++ placed_labels (at + 3 + size t) u
placed_labels at (assert γ) = []
placed_labels at (defined n) = []

unfoldable pub labels_of : ℕ → List Definition → List (Placed Label)
labels_of at [] = []
labels_of at (d ∷ ds) = placed_labels (at + 5) d.body ++ labels_of (at + definition_size d) ds

-- a value clashes with one of the earlier ones
unfoldable pub clashes_any : {A : Type 0} → (A → A → Bool) → A → (earlier : List A) → Bool
clashes_any clash x [] = false
clashes_any clash x (e ∷ es) = cond (clash x e) true (clashes_any clash x es)

-- the place of the first value that clashes with an earlier one
unfoldable pub first_clash : {A : Type 0} → (A → A → Bool) → (earlier : List A) → List (Placed A) → Option ℕ
first_clash clash earlier [] = none
first_clash clash earlier (x ∷ xs) = cond (clashes_any clash x.value earlier) (some x.place) (first_clash clash (earlier ++ (x.value ∷ [])) xs)

-- "6: rule with name and goal of an earlier rule"
unfoldable pub repeats_rule : Rule → Rule → Bool
repeats_rule r e = same_name r.name e.name && same_goal r.goal e.goal

-- "7: rule with the name of an earlier one and another count of premises"
unfoldable pub recounts_rule : Rule → Rule → Bool
recounts_rule r e = same_name r.name e.name && not (eqb (length r.premises) (length e.premises))

-- "8: tactic number defined earlier"
unfoldable pub repeats_tactic : TacticNo → TacticNo → Bool
repeats_tactic n e = same_tactic n e

-- "9: label used earlier in the table's definitions"
unfoldable pub repeats_label : Label → Label → Bool
repeats_label l e = eqb l.0 e.0

-- a refusal at the place that was found, if one was
unfoldable pub refuse_at : {A : Type 0} → Cause → Option ℕ → Result A → Result A
refuse_at c none x = x
refuse_at c (some p) x = refused c p

-- "Then 6, 7, 8, 9, each over the whole table"
unfoldable pub whole_table : Table → Result Table
whole_table T =
    refuse_at RuleRepeated (first_clash repeats_rule [] (placed_rules 0 T.rules))
    (refuse_at PremiseCountDiffers (first_clash recounts_rule [] (placed_rules 0 T.rules))
    (refuse_at TacticRedefined (first_clash repeats_tactic [] (placed_tactics (rules_size T.rules) T.definitions))
    (refuse_at LabelRepeated (first_clash repeats_label [] (labels_of (rules_size T.rules) T.definitions))
    (gives T))))
