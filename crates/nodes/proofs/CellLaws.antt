-- Cells in bytes: one read, one made a use, open goals added behind them. By induction over their number.
-- Assumes nothing.
use mathlib.Core.Path.{◌≡◌, refl, sym, ap, ap₂, ◌∙◌}
use mathlib.Core.Logic.{◌⊎◌, inl, inr, ⊎_elim}
use mathlib.Core.List.{List, [], ◌∷◌, ◌++◌, map, append_assoc, append-nil}
use Prim.Native.Nat.{ℕ, zero, suc, ◌+◌, ◌*◌, ◌≤◌, ◌<◌}
use native.Mathlib.Omega.{arith}
use lib.ListN.{length, get_or, set, length-set}
use lib.Seq.{ext_get_or, get_or-set_same, get_or-set_other}
use Rattle.words.specs.Word.{word, put_word}
use Rattle.words.specs.Kept.{Kept}
use Rattle.words.proofs.WordLaws.{length-put_word, word_same, word_other}
use Rattle.words.proofs.KeptLaws.{kept_put, kept_same, kept_both}
use Rattle.format.specs.declared.values.Goal.{Goal}
use Rattle.format.specs.Values.{rule_name, goal}
use Rattle.hitac.proofs.Nodes.{Cell, open_cell, use_cell, no_cell, cell_at, goal_of}
use Rattle.walks.specs.Layout.{index_end}
use Rattle.nodes.specs.Space.{cell_place, cell_from, cell_in, cells_from, cells_of, put_use, put_opens}

goal_from : (g a f m : ℕ) → goal_of (cell_from g a f m) ≡ goal g
unfolding cell_from
goal_from g a f zero = refl
goal_from g a f (suc c) = refl

pub goal_in : (s : List ℕ) (at : ℕ) → goal_of (cell_in s at) ≡ goal (word s at)
unfolding cell_in
goal_in s at = goal_from (word s at) (word s (at + 2)) (word s (at + 4)) (word s (at + 6))

pub length_cells : (k : ℕ) (s : List ℕ) (at : ℕ) → length (cells_from s at k) ≡ k
unfolding cells_from
length_cells zero s at = refl
length_cells (suc k) s at = ap suc (length_cells k s (at + 8))

-- how two numbers compare
pub compared : (j n : ℕ) → (j ≡ n) ⊎ ((j < n) ⊎ (n < j))
compared zero zero = inl refl
compared zero (suc n) = inr (inl (omega arith))
compared (suc j) zero = inr (inr (omega arith))
compared (suc j) (suc n) = ⊎_elim (λ e. inl (ap suc e)) (λ d. inr (⊎_elim (λ (l : j < n). inl (omega arith)) (λ (l : n < j). inr (omega arith)) d)) (compared j n)

pub differ : {j n : ℕ} → (j < n) ⊎ (n < j) → j ≡ n → ⊥
differ (inl l) e = omega arith
differ (inr l) e = omega arith

-- the cell of a node
cell_from_lem : (k : ℕ) (s : List ℕ) (at n : ℕ) → n < k → cell_at (cells_from s at k) n ≡ cell_in s (at + n * 8)
unfolding cells_from
cell_from_lem zero s at n h = absurd (omega arith)
cell_from_lem (suc k) s at zero h = ap (cell_in s) (omega arith)
cell_from_lem (suc k) s at (suc n) h =
    let e : at + 8 + n * 8 ≡ at + suc n * 8 = omega arith in
    cell_from_lem k s (at + 8) n (omega arith) ∙ ap (cell_in s) e

pub cell_of : (k : ℕ) (s : List ℕ) (n : ℕ) → n < k → cell_at (cells_of s k) n ≡ cell_in s (cell_place n)
cell_of k s n h = cell_from_lem k s index_end n h

-- the same bytes are the same cells
same_word : (s s' : List ℕ) (at : ℕ) → get_or s at 0 ≡ get_or s' at 0 → get_or s (at + 1) 0 ≡ get_or s' (at + 1) 0 → word s at ≡ word s' at
unfolding word
same_word s s' at p q = ap₂ (λ (x y : ℕ). x * 256 + y) p q

abbrev SameFrom : List ℕ → List ℕ → (from to : ℕ) → Type 0
SameFrom s s' from to = (i : ℕ) → from ≤ i → i < to → get_or s i 0 ≡ get_or s' i 0

same_cell : (s s' : List ℕ) (at : ℕ) → SameFrom s s' at (at + 8) → cell_in s at ≡ cell_in s' at
unfolding cell_in
same_cell s s' at h =
    let a = same_word s s' at (h at (omega arith) (omega arith)) (h (at + 1) (omega arith) (omega arith)) in
    let b = same_word s s' (at + 2) (h (at + 2) (omega arith) (omega arith)) (h (at + 2 + 1) (omega arith) (omega arith)) in
    let c = same_word s s' (at + 4) (h (at + 4) (omega arith) (omega arith)) (h (at + 4 + 1) (omega arith) (omega arith)) in
    let d = same_word s s' (at + 6) (h (at + 6) (omega arith) (omega arith)) (h (at + 6 + 1) (omega arith) (omega arith)) in
    λ i. cell_from (a i) (b i) (c i) (d i)

same_cells_from : (k : ℕ) (s s' : List ℕ) (at : ℕ) → SameFrom s s' at (at + k * 8) → cells_from s at k ≡ cells_from s' at k
unfolding cells_from
same_cells_from zero s s' at h = refl
same_cells_from (suc k) s s' at h =
    ap₂ (λ (x : Cell) (l : List Cell). x ∷ l) (same_cell s s' at (λ i a b. h i a (omega arith))) (same_cells_from k s s' (at + 8) (λ i a b. h i (omega arith) (omega arith)))

-- the first cells, where only bytes behind them change, or bytes before all cells
pub cells_below : (w w' : List ℕ) (low high k : ℕ) → Kept w w' low high → cell_place k ≤ low → cells_of w' k ≡ cells_of w k
cells_below w w' low high k p h = same_cells_from k w' w index_end (λ i a b. p.below i (omega arith))

pub cells_above : (w w' : List ℕ) (low high k : ℕ) → Kept w w' low high → high ≤ index_end → cells_of w' k ≡ cells_of w k
cells_above w w' low high k p h = same_cells_from k w' w index_end (λ i a b. p.above i (omega arith))

cells_append : (j k : ℕ) (s : List ℕ) (at : ℕ) → cells_from s at (j + k) ≡ cells_from s at j ++ cells_from s (at + j * 8) k
unfolding cells_from
cells_append zero k s at =
    let e : zero + k ≡ k = omega arith in
    let f : at ≡ at + zero * 8 = omega arith in
    ap₂ (cells_from s) f e
cells_append (suc j) k s at =
    let e : suc j + k ≡ suc (j + k) = omega arith in
    let f : at + 8 + j * 8 ≡ at + suc j * 8 = omega arith in
    ap (cells_from s at) e
    ∙ ap {B = List Cell} (λ l. cell_in s at ∷ l) (cells_append j k s (at + 8))
    ∙ ap (λ (q : ℕ). cell_in s at ∷ cells_from s (at + 8) j ++ cells_from s q k) f

-- ---- a use

module _ (s : List ℕ) (n a f c : ℕ) where
  abbrev one : List ℕ
  one = put_word s (cell_place n + 2) a

  abbrev two : List ℕ
  two = put_word one (cell_place n + 4) f

  pub length_use : length (put_use s n a f c) ≡ length s
  unfolding put_use
  length_use = length-put_word two (cell_place n + 6) (c + 1) ∙ length-put_word one (cell_place n + 4) f ∙ length-put_word s (cell_place n + 2) a

  pub kept_use : Kept s (put_use s n a f c) (cell_place n) (cell_place n + 8)
  unfolding put_use
  kept_use =
      kept_both s two (put_use s n a f c) (cell_place n) (cell_place n + 8) (cell_place n) (cell_place n + 8) (cell_place n) (cell_place n + 8)
      (kept_both s one two (cell_place n) (cell_place n + 8) (cell_place n) (cell_place n + 8) (cell_place n) (cell_place n + 8) (kept_put s (cell_place n + 2) a (cell_place n) (cell_place n + 8) (omega arith) (omega arith)) (kept_put one (cell_place n + 4) f (cell_place n) (cell_place n + 8) (omega arith) (omega arith)) (omega arith) (omega arith) (omega arith) (omega arith))
      (kept_put two (cell_place n + 6) (c + 1) (cell_place n) (cell_place n + 8) (omega arith) (omega arith)) (omega arith) (omega arith) (omega arith) (omega arith)

  module _ (inside : cell_place n + 8 ≤ length s) where
    use_here : cell_in (put_use s n a f c) (cell_place n) ≡ use_cell (rule_name a) (goal (word s (cell_place n))) f c
    unfolding put_use cell_in cell_from
    use_here =
        let l₁ = length-put_word s (cell_place n + 2) a in
        let l₂ = length-put_word one (cell_place n + 4) f in
        let g : word (put_use s n a f c) (cell_place n) ≡ word s (cell_place n) =
        word_other two (cell_place n + 6) (c + 1) (cell_place n) (inl (omega arith)) ∙ word_other one (cell_place n + 4) f (cell_place n) (inl (omega arith)) ∙ word_other s (cell_place n + 2) a (cell_place n) (inl (omega arith)) in
        let p : word (put_use s n a f c) (cell_place n + 2) ≡ a =
        word_other two (cell_place n + 6) (c + 1) (cell_place n + 2) (inl (omega arith)) ∙ word_other one (cell_place n + 4) f (cell_place n + 2) (inl (omega arith)) ∙ word_same s (cell_place n + 2) a (omega arith) in
        let q : word (put_use s n a f c) (cell_place n + 4) ≡ f = word_other two (cell_place n + 6) (c + 1) (cell_place n + 4) (inl (omega arith)) ∙ word_same one (cell_place n + 4) f (omega arith) in
        let r : word (put_use s n a f c) (cell_place n + 6) ≡ c + 1 = word_same two (cell_place n + 6) (c + 1) (omega arith) in
        let t : c + 1 ≡ suc c = omega arith in
        λ i. cell_from (g i) (p i) (q i) ((r ∙ t) i)

    -- a cell that lies beside it
    beside : (k j : ℕ) → j < k → (j < n) ⊎ (n < j) → cell_at (cells_of (put_use s n a f c) k) j ≡ cell_at (cells_of s k) j
    beside k j h (inl l) =
        cell_of k (put_use s n a f c) j h ∙ same_cell (put_use s n a f c) s (cell_place j) (λ i p q. kept_use.below i (omega arith)) ∙ sym (cell_of k s j h)
    beside k j h (inr l) =
        cell_of k (put_use s n a f c) j h ∙ same_cell (put_use s n a f c) s (cell_place j) (λ i p q. kept_use.above i (omega arith)) ∙ sym (cell_of k s j h)

    abbrev made : Cell
    made = use_cell (rule_name a) (goal (word s (cell_place n))) f c

    each : (k : ℕ) → n < k → (j : ℕ) → j < k → (j ≡ n) ⊎ ((j < n) ⊎ (n < j)) → cell_at (cells_of (put_use s n a f c) k) j ≡ cell_at (set (cells_of s k) n made) j
    each k l j h (inl e) =
        let b : n < length (cells_of s k) = omega (arith, length_cells k s index_end) in
        rw e (cell_of k (put_use s n a f c) n l ∙ use_here ∙ sym (get_or-set_same (cells_of s k) n made no_cell b))
    each k l j h (inr d) = beside k j h d ∙ sym (get_or-set_other (cells_of s k) n j made no_cell (differ d))

    pub cells_use : (k : ℕ) → n < k → cells_of (put_use s n a f c) k ≡ set (cells_of s k) n made
    cells_use k l =
        ext_get_or no_cell (cells_of (put_use s n a f c) k) (set (cells_of s k) n made)
        (length_cells k (put_use s n a f c) index_end ∙ sym (length-set (cells_of s k) n made ∙ length_cells k s index_end))
        (λ j h. each k l j (omega (arith, length_cells k (put_use s n a f c) index_end)) (compared j n))

-- ---- open goals

module _ (s : List ℕ) (n v : ℕ) where
  abbrev opened : List ℕ
  opened = put_word (put_word s (cell_place n) v) (cell_place n + 6) 0

  length-opened : length opened ≡ length s
  length-opened = length-put_word (put_word s (cell_place n) v) (cell_place n + 6) 0 ∙ length-put_word s (cell_place n) v

  kept-opened : Kept s opened (cell_place n) (cell_place n + 8)
  kept-opened =
      kept_both s (put_word s (cell_place n) v) opened (cell_place n) (cell_place n + 8) (cell_place n) (cell_place n + 8) (cell_place n) (cell_place n + 8)
      (kept_put s (cell_place n) v (cell_place n) (cell_place n + 8) (omega arith) (omega arith)) (kept_put (put_word s (cell_place n) v) (cell_place n + 6) 0 (cell_place n) (cell_place n + 8) (omega arith) (omega arith)) (omega arith) (omega arith) (omega arith) (omega arith)

  opened-here : cell_place n + 8 ≤ length s → cell_in opened (cell_place n) ≡ open_cell (goal v)
  unfolding cell_in cell_from
  opened-here h =
      let g : word opened (cell_place n) ≡ v = word_other (put_word s (cell_place n) v) (cell_place n + 6) 0 (cell_place n) (inl (omega arith)) ∙ word_same s (cell_place n) v (omega arith) in
      let m : word opened (cell_place n + 6) ≡ 0 = word_same (put_word s (cell_place n) v) (cell_place n + 6) 0 (omega (arith, length-put_word s (cell_place n) v)) in
      λ i. cell_from (g i) (word opened (cell_place n + 2)) (word opened (cell_place n + 4)) (m i)

  cells_opened : cell_place n + 8 ≤ length s → cells_of opened (suc n) ≡ cells_of s n ++ (open_cell (goal v) ∷ [])
  unfolding cells_from
  cells_opened h =
      let e : suc n ≡ n + 1 = omega arith in
      ap (cells_from opened index_end) e
      ∙ cells_append n 1 opened index_end
      ∙ ap₂ (λ (l : List Cell) (x : Cell). l ++ (x ∷ [])) (cells_below s opened (cell_place n) (cell_place n + 8) n kept-opened (omega arith)) (opened-here h)

pub length_opens : (g : List Goal) (s : List ℕ) (n : ℕ) → length (put_opens s n g) ≡ length s
unfolding put_opens
length_opens [] s n = refl
length_opens (γ ∷ g) s n = length_opens g (opened s n γ.0) (suc n) ∙ length-opened s n γ.0

pub kept_opens : (g : List Goal) (s : List ℕ) (n : ℕ) → Kept s (put_opens s n g) (cell_place n) (cell_place (n + length g))
unfolding put_opens
kept_opens [] s n = kept_same s (cell_place n) (cell_place (n + 0))
kept_opens (γ ∷ g) s n =
    kept_both s (opened s n γ.0) (put_opens (opened s n γ.0) (suc n) g) (cell_place n) (cell_place n + 8) (cell_place (suc n)) (cell_place (suc n + length g)) (cell_place n) (cell_place (n + suc (length g)))
    (kept-opened s n γ.0) (kept_opens g (opened s n γ.0) (suc n)) (omega arith) (omega arith) (omega arith) (omega arith)

pub cells_opens : (g : List Goal) (s : List ℕ) (n : ℕ) → cell_place (n + length g) ≤ length s → cells_of (put_opens s n g) (n + length g) ≡ cells_of s n ++ map open_cell g
unfolding put_opens
cells_opens [] s n h = let e : n + 0 ≡ n = omega arith in ap (cells_from s index_end) e ∙ sym (append-nil (cells_of s n))
cells_opens (γ ∷ g) s n h =
    let e : n + suc (length g) ≡ suc n + length g = omega arith in
    ap (cells_from (put_opens (opened s n γ.0) (suc n) g) index_end) e
    ∙ cells_opens g (opened s n γ.0) (suc n) (omega (arith, length-opened s n γ.0))
    ∙ ap (λ (l : List Cell). l ++ map open_cell g) (cells_opened s n γ.0 (omega arith))
    ∙ append_assoc (cells_of s n) (open_cell γ ∷ []) (map open_cell g)
