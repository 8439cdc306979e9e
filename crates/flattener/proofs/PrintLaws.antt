-- Stores in a row, and the entry of a node: what was stored one after the other is a block of bytes stored at once.
-- Assumes nothing.
use mathlib.Core.Path.{◌≡◌, refl, sym, ap, ap₂, ◌∙◌}
use mathlib.Core.List.{List, [], ◌∷◌, ◌++◌}
use Prim.Native.Nat.{ℕ, zero, suc, ◌+◌, ◌*◌, ◌-◌, ◌/◌, ◌%◌, ◌≤◌}
use native.Mathlib.Omega.{arith}
use lib.ListN.{length, set, take, drop, length-set}
use lib.Seq.{sets, sets-eq, paste, take_at}
use Rattle.words.specs.Word.{word, put_word}
use Rattle.words.specs.Kept.{Kept}
use Rattle.words.proofs.WordLaws.{length-put_word}
use Rattle.words.proofs.KeptLaws.{kept_same, kept_both}
use Rattle.format.specs.declared.values.RuleName.{RuleName}
use Rattle.format.specs.declared.values.Goal.{Goal}
use Rattle.format.specs.Values.{rule_name, goal}
use Rattle.format.specs.Goals.{goals_at}
use Rattle.format.specs.Encoding.{Bytes, word_bytes, goal_bytes, goal_list_bytes}
use Rattle.format.proofs.GoalsLaws.{length-goals_at}
use Rattle.format.proofs.GoalBytes.{length-goal_bytes, goals_bytes}
use Rattle.files.specs.Derivations.{use_entry, open_entry, entry_bytes}
use Rattle.hitac.proofs.Nodes.{Cell, open_cell, use_cell, premise_nodes, range}
use Rattle.input_arities.specs.Layout.{stack_end}
use Rattle.walks.specs.Values.{values_at}
use Rattle.walks.proofs.ValueLaws.{values_append, values_above}
use Rattle.nodes.specs.Space.{cell_place, cells_end, cell_from, cell_in, put_range}
use Rattle.nodes.proofs.RowLaws.{kept_range, nodes_range}
use Rattle.flattener.specs.Prints.{top_cell, cell_entry, NodePrinted}

-- blocks one behind the other
pub sets_append : (a b l : List ℕ) (i : ℕ) → sets l i (a ++ b) ≡ sets (sets l i a) (i + length a) b
sets_append [] b l i = ap (λ (k : ℕ). sets l k b) (omega arith)
sets_append (x ∷ a) b l i = sets_append a b (set l i x) (suc i) ∙ ap (λ (k : ℕ). sets (sets (set l i x) (suc i) a) k b) (omega arith)

-- a value stored is its two bytes
pub sets_word : (l : List ℕ) (at v : ℕ) → put_word l at v ≡ sets l at (word_bytes v)
unfolding put_word
sets_word l at v = let e : at + 1 ≡ suc at = omega arith in ap (λ (k : ℕ). set (set l at (v / 256)) k (v % 256)) e

-- a block behind others that were stored
pub then : (l l₁ l₂ a b : List ℕ) (i j : ℕ) → l₁ ≡ sets l i a → l₂ ≡ sets l₁ j b → j ≡ i + length a → l₂ ≡ sets l i (a ++ b)
then l l₁ l₂ a b i j p q e = q ∙ ap₂ (λ (m : List ℕ) (k : ℕ). sets m k b) p e ∙ sym (sets_append a b l i)

-- goals that stand in a file, copied as they are
goals_copied : (l file : List ℕ) (at place k : ℕ) → Bytes file → place + k * 2 ≤ length file → at + k * 2 ≤ length l → paste l at (drop place file) (k * 2) ≡ sets l at (goal_bytes (goals_at file place k))
goals_copied l file at place k bytes inside room =
    let z = goal_bytes (goals_at file place k) in
    let n : length z ≡ k * 2 = length-goal_bytes (goals_at file place k) ∙ ap (λ (j : ℕ). j * 2) (length-goals_at k file place) in
    let stands : take (k * 2) (drop place file) ≡ z = ap (take (k * 2)) (goals_bytes file bytes k place inside) ∙ take_at z (drop (place + k * 2) file) (k * 2) n in
    ap₂ (λ (y : List ℕ) (j : ℕ). take at l ++ y ++ drop (at + j) l) stands (sym n) ∙ sym (sets-eq z l at (omega (arith, n)))

-- the list of the roots
pub roots_stored : (o o₁ o₂ o₃ file : List ℕ) (place count : ℕ) → Bytes file → place + count * 2 ≤ length file → 3 + count * 2 ≤ length o
    → o₁ ≡ set o 0 3 → o₂ ≡ put_word o₁ 1 (count * 2) → o₃ ≡ paste o₂ 3 (drop place file) (count * 2) → o₃ ≡ sets o 0 (goal_list_bytes (goals_at file place count))
roots_stored o o₁ o₂ o₃ file place count bytes inside room p q r =
    let n : count * 2 ≡ length (goal_bytes (goals_at file place count)) = sym (length-goal_bytes (goals_at file place count) ∙ ap (λ (k : ℕ). k * 2) (length-goals_at count file place)) in
    let kept : length o₂ ≡ length o = ap length q ∙ length-put_word o₁ 1 (count * 2) ∙ ap length p ∙ length-set o 0 3 in
    r ∙ goals_copied o₂ file 3 place count bytes inside (omega (arith, kept))
    ∙ ap (λ (l : List ℕ). sets l 3 (goal_bytes (goals_at file place count))) (q ∙ ap₂ (λ (l : List ℕ) (k : ℕ). put_word l 1 k) p n ∙ sets_word (set o 0 3) 1 (length (goal_bytes (goals_at file place count))))

-- an open leaf and a use
pub open_stored : (o o₁ o₂ o₃ : List ℕ) (at : ℕ) (γ : Goal) → o₁ ≡ set o at 33 → o₂ ≡ put_word o₁ (at + 1) 2 → o₃ ≡ put_word o₂ (at + 3) γ.0 → o₃ ≡ sets o at (entry_bytes (open_entry γ))
unfolding entry_bytes
open_stored o o₁ o₂ o₃ at γ p q r =
    then o o₂ o₃ (33 ∷ word_bytes 2) (word_bytes γ.0) at (at + 3) (then o o₁ o₂ (33 ∷ []) (word_bytes 2) at (at + 1) p (q ∙ sets_word o₁ (at + 1) 2) (omega arith)) (r ∙ sets_word o₂ (at + 3) γ.0) (omega arith)

pub use_stored : (o o₁ o₂ o₃ o₄ : List ℕ) (at : ℕ) (a : RuleName) (γ : Goal) → o₁ ≡ set o at 32 → o₂ ≡ put_word o₁ (at + 1) 4 → o₃ ≡ put_word o₂ (at + 3) a.0 → o₄ ≡ put_word o₃ (at + 5) γ.0 → o₄ ≡ sets o at (entry_bytes (use_entry a γ))
unfolding entry_bytes
use_stored o o₁ o₂ o₃ o₄ at a γ p q r s =
    then o o₃ o₄ (32 ∷ word_bytes 4 ++ word_bytes a.0) (word_bytes γ.0) at (at + 5)
    (then o o₂ o₃ (32 ∷ word_bytes 4) (word_bytes a.0) at (at + 3) (then o o₁ o₂ (32 ∷ []) (word_bytes 4) at (at + 1) p (q ∙ sets_word o₁ (at + 1) 4) (omega arith)) (r ∙ sets_word o₂ (at + 3) a.0) (omega arith))
    (s ∙ sets_word o₃ (at + 5) γ.0) (omega arith)

-- ---- a cell by its last value

pub cell_open : (w : List ℕ) (at : ℕ) → word w (at + 6) ≡ 0 → cell_in w at ≡ open_cell (goal (word w at))
unfolding cell_in cell_from
cell_open w at e = ap (cell_from (word w at) (word w (at + 2)) (word w (at + 4))) e

pub cell_use : (w : List ℕ) (at k : ℕ) → word w (at + 6) ≡ suc k → cell_in w at ≡ use_cell (rule_name (word w (at + 2))) (goal (word w at)) (word w (at + 4)) k
unfolding cell_in cell_from
cell_use w at k e = ap (cell_from (word w at) (word w (at + 2)) (word w (at + 4))) e

-- ---- the node on top of the stack

pub range_length : (f c : ℕ) → length (range f c) ≡ c
range_length f zero = refl
range_length f (suc c) = ap suc (range_length (suc f) c)

pub open_there : (w : List ℕ) (top n v : ℕ) → n ≡ word w top → v ≡ word w (cell_place n + 6) → v ≡ 0 → top_cell w top ≡ open_cell (goal (word w (cell_place n)))
open_there w top n v e f z = rw (← e) (cell_open w (cell_place n) (sym f ∙ z))

pub use_there : (w : List ℕ) (top n v : ℕ) → n ≡ word w top → v ≡ word w (cell_place n + 6) → (v ≡ 0 → ⊥) → top_cell w top ≡ use_cell (rule_name (word w (cell_place n + 2))) (goal (word w (cell_place n))) (word w (cell_place n + 4)) (v - 1)
use_there w top n v e f z = rw (← e) (cell_use w (cell_place n) (v - 1) (sym f ∙ omega (arith, z)))

-- printed as an open leaf
pub printed_open : (w : List ℕ) (top at : ℕ) (o o' : List ℕ) (γ : Goal) (x : ℕ) → γ.0 ≡ x → top_cell w top ≡ open_cell (goal x) → o' ≡ sets o at (entry_bytes (open_entry γ))
    → NodePrinted w w top at o o' (record { top = top + 2; at = at + 5 })
unfolding entry_bytes
printed_open w top at o o' γ x g e p =
    let q : open_cell γ ≡ top_cell w top = (λ i. open_cell (record { 0 = g i })) ∙ sym e in
    record {
      out_is = p ∙ ap (λ (c : Cell). sets o at (cell_entry c)) q;
      at_is = ap (λ (c : Cell). at + length (cell_entry c)) q;
      kept = kept_same w 0 stack_end;
      top_is = ap (λ (c : Cell). top + 2 + length (premise_nodes c) * 2) (sym q) ∙ omega arith;
      pending = λ m. ap (λ (c : Cell). values_at w (top + 2) (length (premise_nodes c) + m)) (sym q) ∙ ap (values_at w (top + 2)) (omega arith) ∙ ap (λ (c : Cell). premise_nodes c ++ values_at w (top + 2) m) q;
    }

-- printed as a use, its premises put in its place
module _ (w : List ℕ) (top at : ℕ) (o o' : List ℕ) (a : RuleName) (γ : Goal) (f k above y x : ℕ) (an : a.0 ≡ y) (gn : γ.0 ≡ x) (here : top_cell w top ≡ use_cell (rule_name y) (goal x) f k)
    (p : o' ≡ sets o at (entry_bytes (use_entry a γ))) (w' : List ℕ) (pushed : w' ≡ put_range w above f k) (above-is : above + k * 2 ≡ top + 2) (inside : top + 2 ≤ stack_end) (within : cells_end ≤ length w) where
  abbrev made : Cell
  made = use_cell a γ f k

  same : made ≡ top_cell w top
  same = (λ i. use_cell (record { 0 = an i }) (record { 0 = gn i }) f k) ∙ sym here

  abbrev v : List ℕ
  v = put_range w above f k

  kept_v : Kept w v above (above + k * 2)
  kept_v = kept_range k w above f

  count_is : length (premise_nodes made) ≡ k
  count_is = range_length f k

  all_pending : (m : ℕ) → values_at v above (k + m) ≡ range f k ++ values_at w (top + 2) m
  all_pending m =
      values_append k m v above
      ∙ ap₂ (λ (i j : List ℕ). i ++ j) (nodes_range k w above f (omega arith))
      (values_above w v above (above + k * 2) (above + k * 2) m kept_v (omega arith) ∙ ap (λ (q : ℕ). values_at w q m) above-is)

  pub printed_use : NodePrinted w w' top at o o' (record { top = above; at = at + 7 })
  unfolding entry_bytes
  printed_use = rw pushed (record {
    out_is = p ∙ ap (λ (c : Cell). sets o at (cell_entry c)) same;
    at_is = ap (λ (c : Cell). at + length (cell_entry c)) same;
    kept = kept_both w v v above (above + k * 2) above (above + k * 2) 0 stack_end kept_v (kept_same v above (above + k * 2)) (omega arith) (omega arith) (omega arith) (omega arith);
    top_is = ap (λ (c : Cell). above + length (premise_nodes c) * 2) (sym same) ∙ ap (λ (q : ℕ). above + q * 2) count_is ∙ above-is;
    pending = λ m. ap (λ (c : Cell). values_at v above (length (premise_nodes c) + m)) (sym same) ∙ ap (λ (q : ℕ). values_at v above (q + m)) count_is ∙ all_pending m ∙ ap (λ (c : Cell). premise_nodes c ++ values_at w (top + 2) m) same;
  })
