-- The depth-first pass: what is written and what the nodes on the stack still show make the whole, and no more nodes wait than entries are left.
-- Assumes nothing.
use mathlib.Core.Path.{◌≡◌, refl, sym, ap, ap₂, subst, ◌∙◌}
use mathlib.Core.List.{List, [], ◌∷◌, ◌++◌, append-nil, append_assoc}
use Prim.Native.Nat.{ℕ, zero, suc, ◌+◌, ◌*◌, ◌≤◌, ◌<◌}
use native.Mathlib.Omega.{arith}
use native.Mathlib.Nat.{suc-add}
use lib.ListN.{length, length-append}
use lib.Seq.{sets, length-sets}
use Rattle.words.specs.Word.{word}
use Rattle.format.specs.Goals.{goals_at}
use Rattle.files.specs.Derivations.{Entry, entries_bytes}
use Rattle.hitac.proofs.Nodes.{Cell, open_cell, use_cell, cell_at, premise_nodes, range, node_entries}
use Rattle.input_arities.specs.Layout.{stack_end}
use Rattle.walks.specs.Layout.{index_end}
use Rattle.walks.specs.Values.{values_at}
use Rattle.walks.proofs.ValueLaws.{length_values}
use Rattle.nodes.specs.Space.{cells_of, put_range, Below}
use Rattle.nodes.proofs.RowLaws.{length_range, kept_range, nodes_range}
use Rattle.nodes.proofs.CellLaws.{length_cells, cell_of, cells_above}
use Rattle.flattener.specs.declared.print.Printed.{Printed}
use Rattle.flattener.specs.Prints.{top_cell, first_premise, cell_entry, Closed, forest_entries, PrintReady, NodePrinted, Printable}
use Rattle.flattener.proofs.PrintLaws.{range_length, sets_append}

below_append : (b : ℕ) (ns ms : List ℕ) → Below b ns → Below b ms → Below b (ns ++ ms)
unfolding Below
below_append b [] ms p q = q
below_append b (n ∷ ns) ms p q = (p.0, below_append b ns ms p.1 q)

pub below_range : (b f c : ℕ) → f + c ≤ b → Below b (range f c)
unfolding Below
below_range b f zero h = tt
below_range b f (suc c) h = (omega arith, below_range b (suc f) c (omega arith))

-- the premises of one of the cells
closed_at : (b : ℕ) (A : List Cell) (n : ℕ) → n < length A → Closed b A → (first_premise (cell_at A n) + length (premise_nodes (cell_at A n)) ≤ b) × Below b (premise_nodes (cell_at A n))
unfolding Closed Below
closed_at b [] n h c = absurd (omega arith)
closed_at b (open_cell γ ∷ A) zero h c = (omega arith, tt)
closed_at b (use_cell a γ f k ∷ A) zero h c = (omega (arith, c.0, range_length f k), below_range b f k c.0)
closed_at b (open_cell γ ∷ A) (suc n) h c = closed_at b A n (omega arith) c
closed_at b (use_cell a γ f k ∷ A) (suc n) h c = closed_at b A n (omega arith) c.1

-- as many entries as nodes, if the fuel lasts
entries_most : (A : List Cell) (k j : ℕ) (ns : List ℕ) → j ≤ k → j ≤ length ns → j ≤ length (node_entries k A ns)
unfolding node_entries
entries_most A k zero ns h l = omega arith
entries_most A zero (suc j) ns h l = absurd (omega arith)
entries_most A (suc k) (suc j) [] h l = absurd (omega arith)
entries_most A (suc k) (suc j) (n ∷ ns) h l =
    let p = premise_nodes (cell_at A n) in
    let e = entries_most A k j (p ++ ns) (omega arith) (omega (arith, length-append p ns)) in
    omega arith

-- what is left shows everything that still waits
abbrev pub Whole : List Cell → (left : ℕ) → List ℕ → Type 0
Whole A left ns = (j : ℕ) → node_entries (left + j) A ns ≡ node_entries left A ns

waiting : (A : List Cell) (left : ℕ) (ns : List ℕ) → Whole A left ns → length (node_entries left A ns) ≡ left → length ns ≤ left
waiting A left ns w c = omega (arith, entries_most A (left + length ns) (length ns) ns (omega arith) (omega arith), ap length (w (length ns)), c)

-- one node printed
module _ (A : List Cell) (l n : ℕ) (ns : List ℕ) where
  abbrev tail_of : List Entry → List Entry
  tail_of [] = []
  tail_of (e ∷ es) = es

  whole_next : Whole A (suc l) (n ∷ ns) → Whole A l (premise_nodes (cell_at A n) ++ ns)
  unfolding node_entries
  whole_next w j = ap tail_of (ap (λ (k : ℕ). node_entries k A (n ∷ ns)) (sym (suc-add l j)) ∙ w j)

  count_next : length (node_entries (suc l) A (n ∷ ns)) ≡ suc l → length (node_entries l A (premise_nodes (cell_at A n) ++ ns)) ≡ l
  unfolding node_entries
  count_next c = omega (arith, c)

  bytes_next : entries_bytes (node_entries (suc l) A (n ∷ ns)) ≡ cell_entry (cell_at A n) ++ entries_bytes (node_entries l A (premise_nodes (cell_at A n) ++ ns))
  unfolding node_entries entries_bytes
  bytes_next = refl

-- The state of the pass: the bytes written, and so many nodes on the stack.
pub record Running (w₀ o₀ : List ℕ) (roots nodes at₀ : ℕ) (w o : List ℕ) (top at left : ℕ) : Type 0 where
  pub written : List ℕ
  pub pending : ℕ
  pub cells_are : cells_of w nodes ≡ cells_of w₀ nodes
  pub space : length w ≡ length w₀
  pub stack_end_lem : top + pending * 2 ≡ stack_end
  pub fewer : left ≤ nodes
  pub inside : Below nodes (values_at w top pending)
  pub whole : Whole (cells_of w₀ nodes) left (values_at w top pending)
  pub count : length (node_entries left (cells_of w₀ nodes) (values_at w top pending)) ≡ left
  pub out_is : o ≡ sets o₀ at₀ written
  pub at_is : at ≡ at₀ + length written
  pub all_is : written ++ entries_bytes (node_entries left (cells_of w₀ nodes) (values_at w top pending)) ≡ entries_bytes (forest_entries w₀ roots nodes)

-- the roots are put on the stack: the cells are as they were
module _ (w w' : List ℕ) (roots nodes at room top : ℕ) (p : Printable w roots nodes at room) (e : top + roots * 2 ≡ stack_end) (pushed : w' ≡ put_range w top 0 roots) where
  abbrev x : List ℕ
  x = put_range w top 0 roots

  pushed-length : length w' ≡ length w
  pushed-length = ap length pushed ∙ length_range roots w top 0

  pub pushed_cells : cells_of w' nodes ≡ cells_of w nodes
  pushed_cells = ap (λ (l : List ℕ). cells_of l nodes) pushed ∙ cells_above w x top (top + roots * 2) nodes (kept_range roots w top 0) (omega arith)

  pub pushed_roots : values_at w' top roots ≡ range 0 roots
  pushed_roots = ap (λ (q : List ℕ). values_at q top roots) pushed ∙ nodes_range roots w top 0 (omega (arith, p.within))

  pub printable_still : Printable w' roots nodes at room
  printable_still =
      let s = sym pushed_cells in
      record {
        few = p.few;
        closed = subst (Closed nodes) s p.closed;
        whole = subst (λ (A : List Cell). (j : ℕ) → node_entries (nodes + j) A (range 0 roots) ≡ node_entries nodes A (range 0 roots)) s p.whole;
        count = subst (λ (A : List Cell). length (node_entries nodes A (range 0 roots)) ≡ nodes) s p.count;
        roots_there = p.roots_there;
        fits = subst (λ (A : List Cell). at + length (entries_bytes (node_entries nodes A (range 0 roots))) ≤ room) s p.fits;
        within = omega (arith, p.within, pushed-length);
      }

module _ (w₀ o₀ : List ℕ) (roots nodes at₀ : ℕ) (p : Printable w₀ roots nodes at₀ (length o₀)) where
  abbrev B : List Cell
  B = cells_of w₀ nodes

  abbrev State : List ℕ → List ℕ → ℕ → ℕ → ℕ → Type 0
  State w o top at left = Running w₀ o₀ roots nodes at₀ w o top at left

  -- the roots are on the stack
  pub pass_begins : (top : ℕ) → top + roots * 2 ≡ stack_end → values_at w₀ top roots ≡ range 0 roots → State w₀ o₀ top at₀ nodes
  pass_begins top e s = record {
    written = [];
    pending = roots;
    cells_are = refl;
    space = refl;
    stack_end_lem = e;
    fewer = omega arith;
    inside = subst (Below nodes) (sym s) (below_range nodes 0 roots (omega (arith, p.roots_there)));
    whole = subst (Whole B nodes) (sym s) p.whole;
    count = ap (λ (ns : List ℕ). length (node_entries nodes B ns)) s ∙ p.count;
    out_is = refl;
    at_is = omega arith;
    all_is = ap (λ (ns : List ℕ). entries_bytes (node_entries nodes B ns)) s;
  }

  module _ (w o : List ℕ) (top at : ℕ) where
    abbrev n : ℕ
    n = word w top

    abbrev rest : ℕ → List ℕ
    rest m = values_at w (top + 2) m

    -- a state in which entries are left has a node on top of its stack
    record Topped (l : ℕ) : Type 0 where
      written : List ℕ
      m : ℕ
      cells_are : cells_of w nodes ≡ cells_of w₀ nodes
      space : length w ≡ length w₀
      stack_end_lem : top + 2 + m * 2 ≡ stack_end
      there : n < nodes
      inside : Below nodes (rest m)
      cell_is : top_cell w top ≡ cell_at B n
      whole : Whole B l (premise_nodes (cell_at B n) ++ rest m)
      count : length (node_entries l B (premise_nodes (cell_at B n) ++ rest m)) ≡ l
      out_is : o ≡ sets o₀ at₀ written
      at_is : at ≡ at₀ + length written
      all_is : written ++ (cell_entry (cell_at B n) ++ entries_bytes (node_entries l B (premise_nodes (cell_at B n) ++ rest m))) ≡ entries_bytes (forest_entries w₀ roots nodes)

    cell_there : cells_of w nodes ≡ cells_of w₀ nodes → n < nodes → top_cell w top ≡ cell_at B n
    cell_there e h = sym (cell_of nodes w n h) ∙ ap (λ (A : List Cell). cell_at A n) e

    topped : (l pending : ℕ) (s : State w o top at (suc l)) → s.pending ≡ pending → Topped l
    unfolding goals_at Below node_entries
    topped l zero s e =
        let c : length (node_entries (suc l) B (values_at w top 0)) ≡ suc l = subst (λ (k : ℕ). length (node_entries (suc l) B (values_at w top k)) ≡ suc l) e s.count in
        absurd (omega (arith, c))
    topped l (suc m) s e =
        let i : Below nodes (n ∷ rest m) = subst (λ (k : ℕ). Below nodes (values_at w top k)) e s.inside in
        let a : s.written ++ entries_bytes (node_entries (suc l) B (n ∷ rest m)) ≡ entries_bytes (forest_entries w₀ roots nodes) =
        subst (λ (k : ℕ). s.written ++ entries_bytes (node_entries (suc l) B (values_at w top k)) ≡ entries_bytes (forest_entries w₀ roots nodes)) e s.all_is in
        record {
          written = s.written;
          m = m;
          cells_are = s.cells_are;
          space = s.space;
          stack_end_lem = omega (arith, s.stack_end_lem, e);
          there = i.0;
          inside = i.1;
          cell_is = cell_there s.cells_are i.0;
          whole = whole_next B l n (rest m) (subst (λ (k : ℕ). Whole B (suc l) (values_at w top k)) e s.whole);
          count = count_next B l n (rest m) (subst (λ (k : ℕ). length (node_entries (suc l) B (values_at w top k)) ≡ suc l) e s.count);
          out_is = s.out_is;
          at_is = s.at_is;
          all_is = ap (λ (x : List ℕ). s.written ++ x) (sym (bytes_next B l n (rest m))) ∙ a;
        }

    module _ (l left : ℕ) (left_is : left ≡ suc l) (state : State w o top at left) where
      t : Topped l
      t = let s : State w o top at (suc l) = subst (State w o top at) left_is state in topped l s.pending s refl

      premises : (first_premise (cell_at B n) + length (premise_nodes (cell_at B n)) ≤ nodes) × Below nodes (premise_nodes (cell_at B n))
      premises = closed_at nodes B n (omega (arith, t.there, length_cells nodes w₀ index_end)) p.closed

      -- no more nodes wait than entries are left, so there is room for the premises
      waits : (length (premise_nodes (cell_at B n)) + t.m) * 2 ≤ stack_end
      waits =
          let ps = premise_nodes (cell_at B n) in
          let q = rest t.m in
          omega (arith, waiting B l (ps ++ q) t.whole t.count, length-append ps q, length_values w (top + 2) t.m, state.fewer, p.few)

      sizes : length t.written + length (cell_entry (cell_at B n)) ≤ length (entries_bytes (forest_entries w₀ roots nodes))
      sizes =
          let x = cell_entry (cell_at B n) in
          let y = entries_bytes (node_entries l B (premise_nodes (cell_at B n) ++ rest t.m)) in
          omega (arith, ap length t.all_is, length-append t.written (x ++ y), length-append x y)

      pub node_ready : PrintReady w top at (length o)
      node_ready =
          let e = ap (λ (c : Cell). length (premise_nodes c)) t.cell_is in
          record {
            node_there = omega (arith, t.there, p.few);
            on_stack = omega (arith, t.stack_end_lem);
            within = omega (arith, t.space, p.within);
            entry_fits = omega (arith, sizes, t.at_is, p.fits, ap (λ (c : Cell). length (cell_entry c)) t.cell_is, ap length t.out_is, length-sets o₀ at₀ t.written);
            premises_fit = omega (arith, waits, t.stack_end_lem, e);
            premises_there = omega (arith, premises.0, p.few, e, ap first_premise t.cell_is);
          }

      pub pass_goes_on : (w' o' : List ℕ) (r : Printed) → length w' ≡ length w → NodePrinted w w' top at o o' r → State w' o' r.top r.at l
      pass_goes_on w' o' r same d =
          let c = cell_at B n in
          let ps = premise_nodes c in
          let k = length ps in
          let e = t.cell_is in
          let s : values_at w' r.top (k + t.m) ≡ ps ++ rest t.m =
          subst (λ (x : Cell). values_at w' r.top (length (premise_nodes x) + t.m) ≡ premise_nodes x ++ rest t.m) e (d.pending t.m) in
          record {
            written = t.written ++ cell_entry c;
            pending = k + t.m;
            cells_are = cells_above w w' 0 stack_end nodes d.kept (omega arith) ∙ t.cells_are;
            space = same ∙ t.space;
            stack_end_lem = omega (arith, d.top_is, ap (λ (x : Cell). length (premise_nodes x)) e, t.stack_end_lem);
            fewer = omega (arith, state.fewer);
            inside = subst (Below nodes) (sym s) (below_append nodes ps (rest t.m) premises.1 t.inside);
            whole = subst (Whole B l) (sym s) t.whole;
            count = ap (λ (ns : List ℕ). length (node_entries l B ns)) s ∙ t.count;
            out_is = d.out_is ∙ ap (λ (x : Cell). sets o at (cell_entry x)) e ∙ ap₂ (λ (x : List ℕ) (i : ℕ). sets x i (cell_entry c)) t.out_is t.at_is ∙ sym (sets_append t.written (cell_entry c) o₀ at₀);
            at_is = omega (arith, d.at_is, ap (λ (x : Cell). length (cell_entry x)) e, t.at_is, length-append t.written (cell_entry c));
            all_is = ap (λ (ns : List ℕ). t.written ++ cell_entry c ++ entries_bytes (node_entries l B ns)) s ∙ append_assoc t.written (cell_entry c) (entries_bytes (node_entries l B (ps ++ rest t.m))) ∙ t.all_is;
          }

    pub pass_ends : (left : ℕ) → left ≡ 0 → State w o top at left → o ≡ sets o₀ at₀ (entries_bytes (forest_entries w₀ roots nodes))
    unfolding node_entries entries_bytes
    pass_ends left z s =
        let a : s.written ++ [] ≡ entries_bytes (forest_entries w₀ roots nodes) = subst (λ (k : ℕ). s.written ++ entries_bytes (node_entries k B (values_at w top s.pending)) ≡ entries_bytes (forest_entries w₀ roots nodes)) z s.all_is in
        s.out_is ∙ ap (sets o₀ at₀) (sym (append-nil s.written) ∙ a)
