-- The rules used so far: the set has the numbers of the rules of the entries that were walked over. One law for the first entry, for the end, for a write before the set, and for each sort of entry.
-- Assumes nothing.
use mathlib.Core.Path.{◌≡◌, refl, sym, subst, ap, ◌∙◌}
use mathlib.Core.Option.{Option, some}
use mathlib.Core.List.{List, [], ◌∷◌, ◌++◌, append_assoc, append-nil}
use Prim.Native.Nat.{ℕ, ◌≤◌}
use lib.ListN.{length}
use Rattle.words.specs.Kept.{Kept}
use Rattle.format.specs.declared.values.RuleName.{RuleName}
use Rattle.format.specs.declared.values.Goal.{Goal}
use Rattle.rule_set.specs.Sets.{RuleSet}
use Rattle.rule_set.proofs.SetLaws.{set-turned}
use Rattle.rule_set.proofs.SetKept.{set_before}
use Rattle.tables.specs.Tables.{Table}
use Rattle.tables.specs.Lookup.{FoundRule, found_rule, find_rule}
use Rattle.files.specs.Derivations.{Entry, use_entry, open_entry}
use Rattle.hitac.specs.UsedRules.{found_number, flat_rules}
use Rattle.derivation.specs.Layout.{set_place}

-- the numbers in the set and those of the rules of the entries still to come are those of all entries
pub record Used (T : Table) (w : List ℕ) (all rest : List Entry) : Type 0 where
  pub numbers : List ℕ
  pub in_set : RuleSet w set_place numbers
  pub all_are : flat_rules T all ≡ numbers ++ flat_rules T rest

module _ (T : Table) (all : List Entry) where
  pub used_first : (w : List ℕ) → RuleSet w set_place [] → Used T w all all
  used_first w s = record { numbers = []; in_set = s; all_are = refl }

  -- no entry is left
  pub used_all : (w : List ℕ) (rest : List Entry) → rest ≡ [] → Used T w all rest → RuleSet w set_place (flat_rules T all)
  unfolding flat_rules
  used_all w rest e u = subst (RuleSet w set_place) (sym (u.all_are ∙ ap (λ (es : List Entry). u.numbers ++ flat_rules T es) e ∙ append-nil u.numbers)) u.in_set

  -- the set is behind what is written
  pub used-kept : (w w' : List ℕ) (low high : ℕ) (rest : List Entry) → length w' ≡ length w → Kept w w' low high → high ≤ set_place → Used T w all rest → Used T w' all rest
  used-kept w w' low high rest size k h u = record {
    numbers = u.numbers;
    in_set = set_before w w' set_place u.numbers low high size k h u.in_set;
    all_are = u.all_are;
  }

  module _ (w : List ℕ) (rest others : List Entry) (u : Used T w all rest) where
    pub used_open : (γ : Goal) → rest ≡ open_entry γ ∷ others → Used T w all others
    unfolding flat_rules
    used_open γ e = record {
      numbers = u.numbers;
      in_set = u.in_set;
      all_are = u.all_are ∙ ap (λ (es : List Entry). u.numbers ++ flat_rules T es) e;
    }

    -- the number of its rule is put into the set
    pub used_use : (w' : List ℕ) (a : RuleName) (γ : Goal) (n : ℕ) (h : List Goal) → rest ≡ use_entry a γ ∷ others → find_rule T a γ ≡ some (found_rule n h)
        → ((ns : List ℕ) → RuleSet w set_place ns → RuleSet w' set_place (n ∷ ns)) → Used T w' all others
    unfolding flat_rules found_number
    used_use w' a γ n h e f put = record {
      numbers = u.numbers ++ (n ∷ []);
      in_set = set-turned w' set_place n u.numbers (put u.numbers u.in_set);
      all_are =
          u.all_are
          ∙ ap (λ (es : List Entry). u.numbers ++ flat_rules T es) e
          ∙ ap (λ (o : Option FoundRule). u.numbers ++ (found_number o ++ flat_rules T others)) f
          ∙ sym (append_assoc u.numbers (n ∷ []) (flat_rules T others));
    }
