-- The forest of an accepted proof: how many nodes and bytes it has, that its nodes can be printed, and the flat file as it was stored.
-- Assumes nothing.
use mathlib.Core.Path.{◌≡◌, refl, sym, subst, ap, ap₂, ◌∙◌}
use mathlib.Core.List.{List, [], ◌∷◌, ◌++◌, map}
use Prim.Native.Nat.{ℕ, ◌+◌, ◌*◌, ◌≤◌}
use native.Mathlib.Omega.{arith}
use native.Mathlib.Nat.{add-zero}
use lib.ListN.{length, drop, length-append, length-map}
use lib.Seq.{sets, sets-eq, length-sets}
use Rattle.format.specs.Goals.{goals_at}
use Rattle.format.specs.Encoding.{goal_list_bytes}
use Rattle.tables.specs.Tables.{Table}
use Rattle.files.specs.declared.proofs.ProofParts.{ProofParts}
use Rattle.files.specs.Proofs.{Proof, term_place}
use Rattle.files.specs.Shapes.{parts_of}
use Rattle.files.specs.Derivations.{Entry, use_entry, open_entry, entry_bytes, entries_bytes, flat_bytes}
use Rattle.files.proofs.Files.{length-goal_list_bytes}
use Rattle.hitac.specs.Premises.{Finds}
use Rattle.hitac.specs.Hiproofs.{atomics}
use Rattle.hitac.specs.Forest.{entries, leaves, forest}
use Rattle.hitac.specs.Counts.{uses, every_use}
use Rattle.hitac.proofs.TermBounds.{atomics-fields}
use Rattle.hitac.proofs.WalkValidates.{finds_agrees, walk→validates}
use Rattle.hitac.proofs.Flatten.{forest-leaves, forest_all_uses}
use Rattle.hitac.proofs.FlatBounds.{forest_count}
use Rattle.hitac.proofs.Nodes.{Cell, open_cell, range, node_entries}
use Rattle.hitac.proofs.NodeForest.{nodes_flatten}
use Rattle.entries.specs.Check.{forest_file}
use Rattle.input_arities.proofs.ProofLaws.{Small, standing, small}
use Rattle.walks.specs.Layout.{index_end}
use Rattle.nodes.specs.Space.{cells_of}
use Rattle.nodes.proofs.CellLaws.{length_cells}
use Rattle.flattener.specs.Prints.{Closed, forest_entries, Printable}
use Rattle.flattener.specs.Forests.{forest_cells, Accepted}
use Rattle.flattener.proofs.PrintLaws.{range_length, sets_append}
use Rattle.flattener.proofs.GrowthLaws.{Grows, carry_new, grows, closed_opens}

length-entries : (es : List Entry) → length (entries_bytes es) ≡ 7 * uses every_use es + 5 * length (leaves es)
unfolding entries_bytes entry_bytes
length-entries [] = refl
length-entries (use_entry a γ ∷ es) = omega (arith, length-entries es)
length-entries (open_entry γ ∷ es) = omega (arith, length-entries es)

module _ (T : Table) (p : Proof) (s w : List ℕ) (parts : ProofParts) (u nodes : ℕ) (x : Accepted T p s w parts u nodes) where
  abbrev E : List Entry
  E = entries (forest T p.term p.goals)

  -- ---- the sizes

  sizes : Small s parts
  sizes = small s p x.reads parts x.parts_are

  goals_are : parts.goals ≡ length p.goals
  unfolding parts_of
  goals_are = ap (λ (q : ProofParts). q.goals) (sym x.parts_are)

  remaining_are_lem : parts.remaining ≡ length p.remaining
  unfolding parts_of
  remaining_are_lem = ap (λ (q : ProofParts). q.remaining) (sym x.parts_are)

  pub counts_few : (parts.goals ≤ 256) × (u ≤ 2048) × (parts.remaining ≤ 256)
  counts_few = (sizes.goals, omega (arith, x.uses_are, atomics-fields p.term, (standing s p x.reads).few_fields), sizes.remaining)

  pub goals_inside : 3 + parts.goals * 2 ≤ length s
  goals_inside = sizes.goals_inside

  entries-length : length (entries_bytes E) ≡ 7 * atomics p.term + 5 * length p.remaining
  entries-length =
      omega (arith, length-entries E, forest_all_uses T p.term (term_place p) p.goals p.remaining x.walks, ap length (forest-leaves T p.term (term_place p) p.goals p.remaining x.walks))

  pub size_is : 3 + parts.goals * 2 + u * 7 + parts.remaining * 5 ≡ length (forest_file T p)
  unfolding forest_file flat_bytes
  size_is = omega (arith, x.uses_are, goals_are, remaining_are_lem, length-append (goal_list_bytes p.goals) (entries_bytes E), length-goal_list_bytes p.goals, entries-length)

  -- ---- the nodes

  growth : Grows T p.term (map open_cell p.goals) (range 0 (length p.goals)) p.remaining
  growth = grows T (walk→validates T (Finds T) (finds_agrees T) p.term (term_place p) p.goals x.walks) (map open_cell p.goals) (carry_new [] p.goals)

  cells_are : length (forest_cells T p) ≡ nodes
  cells_are = sym (ap length x.cells) ∙ length_cells nodes w index_end

  nodes_are : nodes ≡ atomics p.term + length p.remaining
  nodes_are = omega (arith, cells_are, growth.count, length-map p.goals open_cell, range_length 0 (length p.goals))

  -- they show the forest, with any fuel that lasts
  shown : (j : ℕ) → node_entries (nodes + j) (forest_cells T p) (range 0 (length p.goals)) ≡ E
  shown j =
      let n : nodes + j ≡ length E + j = omega (arith, nodes_are, forest_count T p.term (term_place p) p.goals p.remaining x.walks) in
      ap (λ (k : ℕ). node_entries k (forest_cells T p) (range 0 (length p.goals))) n ∙ nodes_flatten T p.term (term_place p) p.goals p.remaining x.walks j

  shown_in : (k : ℕ) → node_entries k (cells_of w nodes) (range 0 parts.goals) ≡ node_entries k (forest_cells T p) (range 0 (length p.goals))
  shown_in k = ap₂ (λ (A : List Cell) (g : ℕ). node_entries k A (range 0 g)) x.cells goals_are

  forest-entries_lem : forest_entries w parts.goals nodes ≡ E
  forest-entries_lem = shown_in nodes ∙ ap (λ (k : ℕ). node_entries k (forest_cells T p) (range 0 (length p.goals))) (sym (add-zero nodes)) ∙ shown 0

  module _ (o o₁ : List ℕ) (fits : 3 + parts.goals * 2 + u * 7 + parts.remaining * 5 ≤ length o) (rooted : o₁ ≡ sets o 0 (goal_list_bytes (goals_at s 3 parts.goals))) where
    pub printable : Printable w parts.goals nodes (3 + parts.goals * 2) (length o₁)
    printable = record {
      few = omega (arith, nodes_are, x.uses_are, counts_few, remaining_are_lem);
      closed = subst (Closed nodes) (sym x.cells) (subst (λ (k : ℕ). Closed k (forest_cells T p)) cells_are (growth.closed (closed_opens (length (map open_cell p.goals)) p.goals)));
      whole = λ j. shown_in (nodes + j) ∙ shown j ∙ sym forest-entries_lem;
      count = ap length forest-entries_lem ∙ forest_count T p.term (term_place p) p.goals p.remaining x.walks ∙ sym nodes_are;
      roots_there = omega (arith, goals_are, cells_are, growth.keeps.longer, length-map p.goals open_cell);
      fits = omega (arith, ap (λ (es : List Entry). length (entries_bytes es)) forest-entries_lem, entries-length, x.uses_are, remaining_are_lem, ap length rooted, length-sets o 0 (goal_list_bytes (goals_at s 3 parts.goals)));
      within = x.within;
    }

    -- the bytes that were stored
    pub all_stored : (o₂ : List ℕ) → o₂ ≡ sets o₁ (3 + parts.goals * 2) (entries_bytes (forest_entries w parts.goals nodes)) → o₂ ≡ forest_file T p ++ drop (length (forest_file T p)) o
    unfolding forest_file flat_bytes
    all_stored o₂ e =
        let H = goal_list_bytes p.goals in
        let B = entries_bytes E in
        let h : goals_at s 3 parts.goals ≡ p.goals = ap (goals_at s 3) goals_are ∙ sym (standing s p x.reads).goals_stand.goals_are in
        let l : 3 + parts.goals * 2 ≡ 0 + length H = omega (arith, goals_are, length-goal_list_bytes p.goals) in
        let z : 0 + length (H ++ B) ≡ length (H ++ B) = omega arith in
        e
        ∙ ap₂ (λ (y : List ℕ) (es : List Entry). sets y (3 + parts.goals * 2) (entries_bytes es)) (rooted ∙ ap (λ y. sets o 0 (goal_list_bytes y)) h) forest-entries_lem
        ∙ ap (λ (k : ℕ). sets (sets o 0 H) k B) l
        ∙ sym (sets_append H B o 0)
        ∙ sets-eq (H ++ B) o 0 (omega (arith, size_is))
        ∙ ap (λ (k : ℕ). H ++ B ++ drop k o) z
