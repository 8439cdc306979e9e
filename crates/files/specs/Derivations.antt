-- Document 01, "Fields" and "Flat derivations": "Flat file: a goal list (the roots), then use and open fields."
use Rattle.std.specs.Prelude.{ℕ, zero, suc, ◌+◌, ◌*◌, cond, List, [], ◌∷◌, ◌++◌, eqb, ltb, length}
use Rattle.words.specs.Word.{word}
use Rattle.format.specs.declared.values.RuleName.{RuleName}
use Rattle.format.specs.declared.values.Goal.{Goal}
use Rattle.format.specs.declared.refusals.Cause.TheVariants.{FieldTorn}
use Rattle.format.specs.Results.{Result, gives, refused, and_then}
use Rattle.format.specs.Inputs.{of_size}
use Rattle.format.specs.Values.{rule_name, goal}
use Rattle.format.specs.Tags.{entry_kind}
use Rattle.format.specs.Next.{full_flat}
use Rattle.format.specs.Headers.{Header, header_at}
use Rattle.format.specs.Goals.{ParsedGoals, read_goals}
use Rattle.format.specs.Encoding.{word_bytes, field_bytes, goal_list_bytes}

-- "Entries are the use and open fields" (tags 32 and 33)
pub data Entry : Type 0 where
  use_entry : RuleName → Goal → Entry
  open_entry : Goal → Entry

pub record Derivation : Type 0 where
  pub roots : List Goal
  pub entries : List Entry

-- an entry in front of those read behind it
unfoldable pub with_entry : Entry → Result (List Entry) → Result (List Entry)
with_entry e x = and_then x (λ es. gives (e ∷ es))

-- the entries from a place on, once the header there is read; rec reads those behind it
unfoldable pub entries_of : (rec : ℕ → ℕ → ℕ → Result (List Entry)) → List ℕ → (at uses opens : ℕ) → Header → Result (List Entry)
entries_of rec s at u o h =
    cond (eqb h.tag 32)
    (with_entry (use_entry (rule_name (word s (at + 3))) (goal (word s (at + 5)))) (rec (at + 7) (u + 1) o))
    (with_entry (open_entry (goal (word s (at + 3)))) (rec (at + 5) u (o + 1)))

-- The entries from a place on. The first argument bounds their number: any above the bytes left does.
unfoldable pub read_entries : (bound : ℕ) → List ℕ → (at uses opens : ℕ) → Result (List Entry)
read_entries zero s at u o = refused FieldTorn at
read_entries (suc b) s at u o =
    cond (ltb at (length s)) (and_then (header_at s at (length s) entry_kind entry_kind (full_flat s at u o)) (entries_of (read_entries b s) s at u o)) (gives [])

-- the derivation, once its roots are read
unfoldable pub derivation_of : List ℕ → ParsedGoals → Result Derivation
derivation_of s g = and_then (read_entries (length s + 1) s g.next 0 0) (λ es. gives (record { roots = g.goals; entries = es }))

unfoldable pub read_flat : List ℕ → Result Derivation
read_flat s = of_size s (and_then (read_goals s 0 (length s)) (derivation_of s))

-- its bytes
unfoldable pub entry_bytes : Entry → List ℕ
entry_bytes (use_entry a γ) = field_bytes 32 (word_bytes a.0 ++ word_bytes γ.0)
entry_bytes (open_entry γ) = field_bytes 33 (word_bytes γ.0)

unfoldable pub entries_bytes : List Entry → List ℕ
entries_bytes [] = []
entries_bytes (e ∷ es) = entry_bytes e ++ entries_bytes es

unfoldable pub flat_bytes : Derivation → List ℕ
flat_bytes d = goal_list_bytes d.roots ++ entries_bytes d.entries

-- the place of its first entry
unfoldable pub entries_place : Derivation → ℕ
entries_place d = 3 + length d.roots * 2
