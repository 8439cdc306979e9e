-- The rules used in a proof that validates, and in a flat derivation, are those whose numbers hitac's `walked_rules` and `flat_rules` list: so the count of different numbers is the size of the set of them.
-- Assumes nothing.
use Prim.Native.Nat.{ℕ, ◌≤◌}
use native.Mathlib.Omega.{arith}
use mathlib.Core.Path.{◌≡◌}
use mathlib.Core.Bool.{true}
use mathlib.Core.Logic.{◌↔◌}
use mathlib.Core.List.{List}
use lib.ListN.{length}
use Rattle.format.specs.declared.values.Goal.{Goal}
use Rattle.format.specs.Results.{gives}
use Rattle.rule_set.specs.Different.{among, different, SetSize}
use Rattle.rule_set.proofs.DifferentLaws.{different_short, different_below}
use Rattle.rule_set.proofs.SizeLaws.{different-size}
use Rattle.tables.specs.Tables.{Table, HasRule}
use Rattle.tables.specs.Within.{Pairs}
use Rattle.tables.specs.ReadTables.{read_table}
use Rattle.tables.proofs.Clashes.{Six, six_pairs}
use Rattle.tables.proofs.ReadsTable.{table_facts}
use Rattle.files.specs.Proofs.{Proof, term_place}
use Rattle.files.specs.Derivations.{Derivation, Entry}
use Rattle.hitac.specs.Hiproofs.{atomics}
use Rattle.hitac.specs.Validates.{AtMost256, Validates}
use Rattle.hitac.specs.Counts.{uses, every_use}
use Rattle.hitac.specs.UsedRules.{walked_rules, flat_rules}
use Rattle.hitac.proofs.UsedRuleLaws.{walked↔numbered, flat↔numbered}
use Rattle.hitac.proofs.UsedRuleBounds.{walked_below, flat_below, walked_few, flat_few}
use Rattle.promises.specs.Used.{UsedIn, UsedFlat}

-- the numbers of a list are those of which something holds
listed : {P : ℕ → Type 0} (ns : List ℕ) → ((n : ℕ) → (among n ns ≡ true) ↔ P n) → SetSize P (different ns)
listed ns same =
    let s = different-size ns in
    record {
      list = s.list;
      distinct = s.distinct;
      members = λ n. ((λ m. (same n).0 ((s.members n).0 m)), (λ x. (s.members n).1 ((same n).1 x)));
      size = s.size;
    }

module _ (t : List ℕ) (T : Table) (e : read_table t ≡ gives T) where
  pub six : Pairs Six T.rules
  six = six_pairs T (table_facts t T e).none_6

  pub used-set : (x : Proof) (h : List Goal) → Validates (HasRule T) AtMost256 x.term x.goals h → SetSize (UsedIn T x) (different (walked_rules T x.term x.goals))
  used-set x h v = listed (walked_rules T x.term x.goals) (walked↔numbered T six v (term_place x))

  pub flat_set : (d : Derivation) → SetSize (UsedFlat T d) (different (flat_rules T d.entries))
  flat_set d = listed (flat_rules T d.entries) (flat↔numbered T six d.entries)

-- how many there are at most
module _ (T : Table) where
  pub used-uses : (x : Proof) → different (walked_rules T x.term x.goals) ≤ atomics x.term
  used-uses x = omega (arith, different_short (walked_rules T x.term x.goals), walked_few T x.term x.goals)

  pub used_table : (x : Proof) → different (walked_rules T x.term x.goals) ≤ length T.rules
  used_table x = different_below (walked_rules T x.term x.goals) (length T.rules) (walked_below T x.term x.goals)

  pub flat_uses : (es : List Entry) → different (flat_rules T es) ≤ uses every_use es
  flat_uses es = omega (arith, different_short (flat_rules T es), flat_few T es)

  pub flat_table : (es : List Entry) → different (flat_rules T es) ≤ length T.rules
  flat_table es = different_below (flat_rules T es) (length T.rules) (flat_below T es)
