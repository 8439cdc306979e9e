-- The pending goals before each entry of a flat walk, failing walks too, the sizes of a forest, and the nodes of the flattener, where every rule
-- has at most 8 premises. By induction over the derivation, the entries and the term. Assumes nothing.
use Prim.Native.Nat.{ℕ, ◌+◌, ◌*◌, ◌≤◌}
use native.Mathlib.Omega.{arith}
use mathlib.Core.Path.{◌≡◌, refl, ap}
use mathlib.Core.Option.{Option, none, some}
use mathlib.Core.List.{List, [], ◌∷◌, ◌++◌, map}
use lib.ListN.{length, take, drop, set, length-append, length-map, length-set}
use Rattle.format.specs.declared.values.RuleName.{RuleName}
use Rattle.format.specs.declared.values.Goal.{Goal}
use Rattle.format.specs.Results.{gives}
use Rattle.format.specs.Terms.{Term, atomic, id, label, sequence, tensor, empty, alternation, assert, defined}
use Rattle.tables.specs.Tables.{Table}
use Rattle.tables.specs.Lookup.{FoundRule, find_rule}
use Rattle.tables.proofs.RuleLookup.{found_member}
use Rattle.files.specs.Derivations.{Entry, use_entry, open_entry}
use Rattle.hitac.specs.Hiproofs.{input_arity, atomics}
use Rattle.hitac.specs.Premises.{Finds, FewPremises}
use Rattle.hitac.specs.Validates.{System}
use Rattle.hitac.specs.Walk.{walk}
use Rattle.hitac.specs.Forest.{entries, leaves, forest, premises_in, premises_of}
use Rattle.hitac.specs.FlatWalk.{flat_walk}
use Rattle.hitac.specs.Derives.{Derives, D-End, D-Open, D-Use}
use Rattle.hitac.specs.FirstWrong.{entries_size}
use Rattle.hitac.specs.Counts.{uses, every_use}
use Rattle.hitac.proofs.WalkValidates.{finds_agrees}
use Rattle.hitac.proofs.Substitution.{uses-append}
use Rattle.hitac.proofs.FlatWalks.{flat_walk→derives}
use Rattle.hitac.proofs.Flatten.{forest-leaves, forest_all_uses}
use Rattle.hitac.proofs.Nodes.{Cell, open_cell, use_cell, cell_at, goal_of, node_walk}
use Rattle.hitac.proofs.WalkBounds.{FewPremisesIn, few_found}

-- PENDING GOALS: an open removes a pending goal, a use adds at most seven. The entries are those before any entry of the file: so this holds in failing walks too.
pub derives_grows : {S : System} → FewPremisesIn S
    → {g k : List Goal} {es : List Entry} → Derives S g es k → length k + length (leaves es) ≤ length g + 7 * uses every_use es
derives_grows few D-End = omega arith
derives_grows few (D-Open d) = omega (arith, derives_grows few d)
derives_grows few (D-Use {a = a} {γ = γ} {g = g} {h = h} e d) = omega (arith, derives_grows few d, few a γ h e, length-append h g)

pub pending_goals : (T : Table) → FewPremises T → (p : ℕ) (g : List Goal) (es : List Entry) {k : List Goal} → flat_walk T p g es ≡ gives k
    → length k + length (leaves es) ≤ length g + 7 * uses every_use es
pending_goals T few p g es e = derives_grows (few_found T few) (flat_walk→derives T (Finds T) (finds_agrees T) p g es e)

-- in a file of the entries es and then fs, before the first of fs
pub pending_before : (T : Table) → FewPremises T → (p : ℕ) (g : List Goal) (es fs : List Entry) {k : List Goal} → flat_walk T p g es ≡ gives k
    → length k ≤ length g + 7 * uses every_use (es ++ fs)
pending_before T few p g es fs e = omega (arith, pending_goals T few p g es e, uses-append every_use es fs)

-- SIZES: an entry is a use or an open leaf; a use has 7 bytes, an open 5.
pub entries_count : (es : List Entry) → length es ≡ uses every_use es + length (leaves es)
entries_count [] = refl
entries_count (use_entry a γ ∷ es) = omega (arith, entries_count es)
entries_count (open_entry γ ∷ es) = omega (arith, entries_count es)

pub entries-size_lem : (es : List Entry) → entries_size es ≡ 7 * uses every_use es + 5 * length (leaves es)
entries-size_lem [] = refl
entries-size_lem (use_entry a γ ∷ es) = omega (arith, entries-size_lem es)
entries-size_lem (open_entry γ ∷ es) = omega (arith, entries-size_lem es)

-- the forest of a hiproof that the walk takes through: an entry for each atomic field and each goal given
module _ (T : Table) (s : Term) (p : ℕ) (g h : List Goal) (walked : walk T s p g ≡ gives h) where
  pub forest_count : length (entries (forest T s g)) ≡ atomics s + length h
  forest_count =
      omega (arith, entries_count (entries (forest T s g)), forest_all_uses T s p g h walked, ap length (forest-leaves T s p g h walked))

  pub forest-size : entries_size (entries (forest T s g)) ≡ 7 * atomics s + 5 * length h
  forest-size =
      omega (arith, entries-size_lem (entries (forest T s g)), forest_all_uses T s p g h walked, ap length (forest-leaves T s p g h walked))

-- NODES: an atomic makes at most eight nodes, whatever the hiproof and its nodes.
pub few_premises : (T : Table) → FewPremises T → (a : RuleName) (γ : Goal) → length (premises_of T a γ) ≤ 8
few_premises T few a γ = go (find_rule T a γ) refl
  where
    go : (o : Option FoundRule) → find_rule T a γ ≡ o → length (premises_in o) ≤ 8
    go none e = omega arith
    go (some r) e = few a γ r.premises (found_member T a γ r.number r.premises e)

pub nodes_count : (T : Table) → FewPremises T → (s : Term) (A : List Cell) (ns : List ℕ) → length (node_walk T s A ns).cells ≤ length A + 8 * atomics s
unfolding node_walk atomics
nodes_count T few (atomic a) A [] = omega arith
nodes_count T few (atomic a) A (n ∷ ns) =
    let γ = goal_of (cell_at A n) in
    let h = premises_of T a γ in
    let c = use_cell a γ (length A) (length h) in
    omega (arith, length-append (set A n c) (map open_cell h), length-set A n c, length-map h open_cell, few_premises T few a γ)
nodes_count T few id A ns = omega arith
nodes_count T few (label l s) A ns = nodes_count T few s A ns
nodes_count T few (sequence s t) A ns =
    omega (arith, nodes_count T few s A ns, nodes_count T few t (node_walk T s A ns).cells (node_walk T s A ns).nodes)
nodes_count T few (tensor s t) A ns =
    omega (
      arith,
      nodes_count T few s A (take (input_arity s) ns),
      nodes_count T few t (node_walk T s A (take (input_arity s) ns)).cells (drop (input_arity s) ns),
    )
nodes_count T few empty A ns = omega arith
nodes_count T few (alternation s t) A ns = omega arith
nodes_count T few (assert γ) A ns = omega arith
nodes_count T few (defined n) A ns = omega arith
