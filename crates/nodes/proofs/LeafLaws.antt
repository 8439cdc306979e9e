-- One law for each way in which a term without inner terms returns, by the cases of what it does to nodes.
-- Assumes nothing.
use Rattle.std.specs.Prelude.{Ok, Err}
use Rattle.std.specs.Prelude as std
use mathlib.Core.Path.{◌≡◌, refl, sym, subst, subst₂, ap, ◌∙◌}
use mathlib.Core.Bool.{Bool, true, false}
use mathlib.Core.Option.{none, some}
use mathlib.Core.List.{List, [], ◌∷◌, ◌++◌, map}
use Prim.Native.Nat.{ℕ, ◌+◌, ◌*◌, ◌≤◌, ◌<◌}
use native.Mathlib.Omega.{arith}
use lib.Dec.{ltb}
use lib.ListN.{length, set, get_or}
use borrow.Author.Tests.{lt-ltb, ltb-true}
use Rattle.words.specs.Word.{word, put_word}
use Rattle.words.specs.Kept.{Kept}
use Rattle.words.proofs.WordLaws.{word_same}
use Rattle.words.proofs.KeptLaws.{kept_put, kept_same, kept_both}
use Rattle.format.specs.declared.values.RuleName.{RuleName}
use Rattle.format.specs.declared.values.Goal.{Goal}
use Rattle.format.specs.declared.refusals.Cause.TheVariants.{RuleMissing, GoalCountWrong}
use Rattle.format.specs.declared.refusals.Cause.{Cause}
use Rattle.format.specs.Results.{Result, gives, refused}
use Rattle.format.specs.Values.{rule_name, goal}
use Rattle.format.specs.Terms.{Term, atomic, id, label, sequence, tensor, empty, alternation, assert, defined}
use Rattle.format.specs.Standing.{Stands}
use Rattle.format.specs.Goals.{goals_at}
use Rattle.format.proofs.GoalsLaws.{length-goals_at}
use Rattle.format.proofs.StandsLaws.{tag_of, known}
use Rattle.format.proofs.ByTag.{by_tag}
use Rattle.tables.specs.Tables.{Table}
use Rattle.tables.specs.Lookup.{found_rule, find_rule}
use Rattle.hitac.specs.Hiproofs.{atomics}
use Rattle.hitac.proofs.Nodes.{Cell, open_cell, use_cell, cell_at, goal_of, range}
use Rattle.walks.specs.declared.state.Next.{Next}
use Rattle.walks.specs.Layout.{index_end}
use Rattle.walks.specs.Values.{values_at}
use Rattle.walks.specs.Walks.{Out, out, on_one_value}
use Rattle.walks.specs.Loops.{placed, Leaf, Acted}
use Rattle.walks.proofs.ValueLaws.{length_values, values_below, one_value}
use Rattle.nodes.specs.declared.leaf.Taken.{Taken}
use Rattle.nodes.specs.Space.{most_nodes, cell_place, cells_end, cells_of, put_use, put_opens, put_range, planted, grown}
use Rattle.nodes.specs.NodeActs.{use_found, use_node, on_no_node, node_act}
use Rattle.nodes.specs.Leaves.{LeafRoom, NodeRoom, act_in, Fitting, Takes}
use Rattle.nodes.proofs.RowLaws.{kept_range, nodes_range}
use Rattle.nodes.proofs.CellLaws.{goal_in, length_cells, cell_of, cells_above, length_use, kept_use, cells_use, length_opens, kept_opens, cells_opens}

-- ---- another number of nodes

not_one : (p : ℕ) (next : ℕ → Result (Out Cell)) (ns : List ℕ) → (length ns ≡ 1 → ⊥) → on_one_value p next ns ≡ refused GoalCountWrong p
unfolding on_one_value
not_one p next [] z = refl
not_one p next (n ∷ []) z = absurd (z refl)
not_one p next (n ∷ m ∷ ns) z = refl

some_node : (p : ℕ) (A : List Cell) (ns : List ℕ) → (length ns ≡ 0 → ⊥) → on_no_node p A ns ≡ refused GoalCountWrong p
unfolding on_no_node
some_node p A [] z = absurd (z refl)
some_node p A (n ∷ ns) z = refl

module _ (T : Table) (at : ℕ) (w : List ℕ) (n : Next) (next : ℕ) where
  pub atomic_count : (a : RuleName) → (n.count ≡ 1 → ⊥) → Takes T (atomic a) at w w w n next (Err GoalCountWrong)
  unfolding Takes node_act
  atomic_count a z = (not_one at _ (values_at w n.top n.count) (λ e. z (sym (length_values w n.top n.count) ∙ e)), refl)

  pub id_count : (n.count ≡ 1 → ⊥) → Takes T id at w w w n next (Err GoalCountWrong)
  unfolding Takes node_act
  id_count z = (not_one at _ (values_at w n.top n.count) (λ e. z (sym (length_values w n.top n.count) ∙ e)), refl)

  pub empty_count : (n.count ≡ 0 → ⊥) → Takes T empty at w w w n next (Err GoalCountWrong)
  unfolding Takes node_act
  empty_count z = (some_node at _ (values_at w n.top n.count) (λ e. z (sym (length_values w n.top n.count) ∙ e)), refl)

-- ---- an atomic

-- the look-up by the numbers that the code read
pub found_by : (T : Table) (a : RuleName) (γ : Goal) (x y : ℕ) → a.0 ≡ x → γ.0 ≡ y → find_rule T a γ ≡ find_rule T (rule_name x) (goal y)
found_by T a γ x y p q = λ i. find_rule T (record { 0 = p i }) (record { 0 = q i })

pub grown_is : (w w₁ w₂ w₃ : List ℕ) (n a f : ℕ) (table : List ℕ) (place count low : ℕ) → w₁ ≡ put_use w n a f count → w₂ ≡ put_opens w₁ f (goals_at table place count) → w₃ ≡ put_range w₂ low f count
    → w₃ ≡ grown w n a f (goals_at table place count) low
grown_is w w₁ w₂ w₃ n a f table place count low p q r = r ∙ rw (q, p, length-goals_at count table place)

pub kept-planted : (w : List ℕ) (i j next : ℕ) (h : List Goal) → i < next → next + length h ≤ most_nodes → Kept w (planted w i j next h) index_end cells_end
kept-planted w i j next h l m =
    let u = put_use w i j next (length h) in
    kept_both w u (put_opens u next h) (cell_place i) (cell_place i + 8) (cell_place next) (cell_place (next + length h)) index_end cells_end (kept_use w i j next (length h)) (kept_opens h u next)
    (omega arith) (omega arith) (omega arith) (omega arith)

module _ (T : Table) (a : RuleName) (at : ℕ) (w : List ℕ) (n : Next) (next : ℕ) where
  abbrev A₀ : List Cell
  A₀ = cells_of w next

  abbrev pub node : ℕ
  node = word w n.top

  abbrev pub goal_here : Goal
  goal_here = goal (word w (cell_place node))

  -- the goal of the node that is taken
  goal_there : node < next → goal_of (cell_at A₀ node) ≡ goal_here
  goal_there h = ap goal_of (cell_of next w node h) ∙ goal_in w (cell_place node)

  module _ (one : n.count ≡ 1) (nodeFits : (node < next) × (next + 8 ≤ most_nodes)) where
    there : node < next
    there = nodeFits.0

    looked_up_lem : act_in T (atomic a) at w n next ≡ use_found a at A₀ node (find_rule T a goal_here)
    unfolding node_act on_one_value use_node
    looked_up_lem =
        let l : node < length A₀ = omega (arith, length_cells next w index_end) in
        let m : length A₀ + 7 < most_nodes = omega (arith, nodeFits.1, length_cells next w index_end) in
        rw (one_value w n.top n.count one, lt-ltb node (length A₀) l, lt-ltb (length A₀ + 7) most_nodes m, goal_there there)

    pub atomic_missing : find_rule T a goal_here ≡ none → Takes T (atomic a) at w w w n next (Err RuleMissing)
    unfolding Takes use_found
    atomic_missing e = (looked_up_lem ∙ ap (use_found a at A₀ node) e, refl)

    module _ (number : ℕ) (h : List Goal) (found : find_rule T a goal_here ≡ some (found_rule number h)) (few : length h ≤ 8) (room : LeafRoom w n 1) where
      abbrev k : ℕ
      k = length h

      abbrev w₁ : List ℕ
      w₁ = put_use w node a.0 next k

      abbrev w₂ : List ℕ
      w₂ = put_opens w₁ next h

      abbrev w₃ : List ℕ
      w₃ = put_range w₂ n.low next k

      l₁ : length w₁ ≡ length w
      l₁ = length_use w node a.0 next k

      l₂ : length w₂ ≡ length w
      l₂ = length_opens h w₁ next ∙ l₁

      kept_cells : Kept w w₂ index_end cells_end
      kept_cells = kept-planted w node a.0 next h there (omega (arith, nodeFits))

      same_values : values_at w₂ n.top n.count ≡ values_at w n.top n.count
      same_values = values_below w w₂ index_end cells_end n.top n.count kept_cells (omega (arith, room.below))

      kept_stacks : Kept w₂ w₃ n.low (n.top + n.count * 2)
      kept_stacks =
          kept_both w₂ w₃ w₃ n.low (n.low + k * 2) n.low (n.low + k * 2) n.low (n.top + n.count * 2) (kept_range k w₂ n.low next) (kept_same w₃ n.low (n.low + k * 2))
          (omega arith) (omega arith) (omega (arith, room.apart)) (omega (arith, room.apart))

      made_cells : cells_of w₃ (next + k) ≡ set A₀ node (use_cell a goal_here next k) ++ map open_cell h
      made_cells =
          cells_above w₂ w₃ n.low (n.top + n.count * 2) (next + k) kept_stacks (omega (arith, room.below))
          ∙ cells_opens h w₁ next (omega (arith, nodeFits, room.space, l₁))
          ∙ ap (λ (B : List Cell). B ++ map open_cell h) (cells_use w node a.0 next k (omega (arith, nodeFits, room.space)) next there)

      made_nodes : values_at w₃ n.low k ≡ range next k
      made_nodes = nodes_range k w₂ n.low next (omega (arith, room.apart, room.below, room.space, l₂))

      outcome : act_in T (atomic a) at w n next ≡ gives (out (cells_of w₃ (next + k)) (values_at w₃ n.low k))
      unfolding use_found
      outcome =
          looked_up_lem ∙ ap (use_found a at A₀ node) found
          ∙ rw (goal_there there, length_cells next w index_end, made_cells, made_nodes)

      abbrev Gave : (v w' : List ℕ) → (c : ℕ) → Type 0
      Gave v w' c = Acted (node_act T) A₀ (cells_of w' (next + c)) v w' (placed n at) (atomic a) c 1

      grown_gives : Gave w₂ w₃ k
      unfolding atomics
      grown_gives = record { comes = ap (node_act T (atomic a) at A₀) same_values ∙ outcome; used_is = refl; few = omega (arith, one); kept = kept_stacks }

      -- the same in the code's words
      pub atomic_gives : (w' : List ℕ) (i j : ℕ) → i ≡ node → j ≡ a.0 → w' ≡ grown w i j next h n.low → (c : ℕ) → length h ≡ c → Takes T (atomic a) at w (planted w i j next h) w' n next (Ok (record { given = c; used = 1; next = next + c }))
      unfolding Takes
      atomic_gives w' i j p q made c l =
          subst (Gave (planted w i j next h) w') l
          (subst (λ (v : List ℕ). Gave (planted w i j next h) v k) (sym made)
          (subst₂ (λ (x y : ℕ). Gave (planted w x y next h) (grown w x y next h n.low) k) (sym p) (sym q) grown_gives))

-- ---- an id

pub id_gives : (T : Table) (at : ℕ) (w w' : List ℕ) (n : Next) (next v : ℕ) → LeafRoom w n 0 → n.count ≡ 1 → v ≡ word w n.top → w' ≡ put_word w n.low v → Takes T id at w w w' n next (Ok (record { given = 1; used = 0; next = next }))
unfolding Takes node_act on_one_value atomics
id_gives T at w w' n next v room one e made = rw made (record {
  comes = rw (cells_above w x n.low (n.top + n.count * 2) next k (omega (arith, room.below)), one_value w n.top n.count one, one_value x n.low 1 refl, word_same w n.low v (omega (arith, room.apart, room.below, room.space)), e);
  used_is = refl;
  few = omega (arith, one);
  kept = k;
})
  where
    x : List ℕ
    x = put_word w n.low v

    k : Kept w x n.low (n.top + n.count * 2)
    k = kept_put w n.low v n.low (n.top + n.count * 2) (omega arith) (omega (arith, room.apart, one))

-- ---- empty

pub empty_gives : (T : Table) (at : ℕ) (w : List ℕ) (n : Next) (next : ℕ) → n.count ≡ 0 → Takes T empty at w w w n next (Ok (record { given = 0; used = 0; next = next }))
unfolding Takes node_act on_no_node atomics goals_at
empty_gives T at w n next z = record { comes = rw z; used_is = refl; few = omega arith; kept = kept_same w n.low (n.top + n.count * 2) }

-- ---- by the tag

-- no term without inner terms that is none of the three can take its nodes
module _ (T : Table) (at : ℕ) (w : List ℕ) (n : Next) (next : ℕ) (s : List ℕ) where
  pub other_refused : (get_or s at 0 ≡ 16 → ⊥) → (get_or s at 0 ≡ 17 → ⊥) → (get_or s at 0 ≡ 21 → ⊥) → Leaf s at → (t : Term) → Stands s at t → Takes T t at w w w n next (Err GoalCountWrong)
  unfolding Takes node_act tag_of
  other_refused a b c l (atomic x) st = absurd (a (known s at (atomic x) st).tag_is)
  other_refused a b c l id st = absurd (b (known s at id st).tag_is)
  other_refused a b c l (label x t) st = absurd (l.0 (known s at (label x t) st).tag_is)
  other_refused a b c l (sequence t u) st = absurd (l.1 (known s at (sequence t u) st).tag_is)
  other_refused a b c l (tensor t u) st = absurd (l.2 (known s at (tensor t u) st).tag_is)
  other_refused a b c l empty st = absurd (c (known s at empty st).tag_is)
  other_refused a b c l (alternation t u) st = (refl, refl)
  other_refused a b c l (assert γ) st = (refl, refl)
  other_refused a b c l (defined x) st = (refl, refl)

  -- an atomic by the name that stands in the file
  abbrev named : RuleName
  named = rule_name (word s (at + 3))

  node_fits : (a : RuleName) → Fitting T (atomic a) at w n next → NodeRoom w n next
  unfolding node_act on_one_value use_node
  node_fits a f one = go (ltb (word w n.top) (length (cells_of w next))) (ltb (length (cells_of w next) + 7) most_nodes) refl refl
    where
      go : (b c : Bool) → ltb (word w n.top) (length (cells_of w next)) ≡ b → ltb (length (cells_of w next) + 7) most_nodes ≡ c → (word w n.top < next) × (next + 8 ≤ most_nodes)
      go true true p q = (omega (arith, ltb-true (word w n.top) (length (cells_of w next)) p, length_cells next w index_end), omega (arith, ltb-true (length (cells_of w next) + 7) most_nodes q, length_cells next w index_end))
      go true false p q = absurd (f (rw (one_value w n.top n.count one, p, q)))
      go false c p q = absurd (f (rw (one_value w n.top n.count one, p)))

  pub record AtomicReady : Type 0 where
    pub inside : at + 4 < length s
    pub room : LeafRoom w n 1
    pub node_room : NodeRoom w n next

  pub some_atomic : get_or s at 0 ≡ 16 → (t : Term) → Stands s at t → LeafRoom w n (atomics t) → Fitting T t at w n next → AtomicReady
  unfolding atomics
  some_atomic e t st r f =
      by_tag s at (λ t. LeafRoom w n (atomics t) → Fitting T t at w n next → AtomicReady) 16
      (λ a v r f. record { inside = omega (arith, v.inside); room = r; node_room = node_fits a f }) e t st r f

  pub some_id : get_or s at 0 ≡ 17 → (t : Term) → Stands s at t → LeafRoom w n (atomics t) → LeafRoom w n 0
  unfolding atomics
  some_id e t st r = by_tag s at (λ t. LeafRoom w n (atomics t) → LeafRoom w n 0) 17 (λ r. r) e t st r

  module _ (v w' : List ℕ) (r : std.Result Taken Cause) where
    pub atomic_takes : get_or s at 0 ≡ 16 → Takes T (atomic named) at w v w' n next r → (t : Term) → Stands s at t → Takes T t at w v w' n next r
    atomic_takes e k = by_tag s at (λ t. Takes T t at w v w' n next r) 16 (λ a y. subst (λ (x : ℕ). Takes T (atomic (rule_name x)) at w v w' n next r) y.value_is k) e

    pub id_takes : get_or s at 0 ≡ 17 → Takes T id at w v w' n next r → (t : Term) → Stands s at t → Takes T t at w v w' n next r
    id_takes e k = by_tag s at (λ t. Takes T t at w v w' n next r) 17 k e

    pub empty_takes : get_or s at 0 ≡ 21 → Takes T empty at w v w' n next r → (t : Term) → Stands s at t → Takes T t at w v w' n next r
    empty_takes e k = by_tag s at (λ t. Takes T t at w v w' n next r) 21 k e
