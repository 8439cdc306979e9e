-- The walk of a proof from its stated goals as the first nodes: it can begin, and what it comes to is what the entry flatten comes to.
-- Assumes nothing.
use Rattle.std.specs.Prelude.{Ok, Err}
use Rattle.std.specs.Prelude as std
use Rattle.format.specs.declared.refusals.Refusal.{Refusal}
use Rattle.format.specs.declared.refusals.Cause.TheVariants.{RemainingDiffer}
use mathlib.Core.Path.{◌≡◌, sym, subst, ap, ap₂, ◌∙◌}
use mathlib.Core.Bool.{Bool, true, false}
use mathlib.Core.Logic.{inl, inr}
use mathlib.Core.List.{List, [], map}
use Prim.Native.Nat.{ℕ, ◌+◌, ◌*◌, ◌-◌, ◌≤◌}
use native.Mathlib.Omega.{arith}
use lib.ListN.{length, length-map}
use Rattle.words.specs.Kept.{Kept}
use Rattle.format.specs.declared.values.Goal.{Goal}
use Rattle.format.specs.Limits.{most_bytes}
use Rattle.format.specs.Refusals.{number}
use Rattle.format.specs.Results.{Result, gives, and_then}
use Rattle.format.specs.Goals.{goals_at}
use Rattle.format.proofs.GoalsLaws.{length-goals_at}
use Rattle.format.proofs.ResultLaws.{same_value}
use Rattle.tables.specs.Tables.{Table}
use Rattle.files.specs.declared.proofs.ProofParts.{ProofParts}
use Rattle.files.specs.Proofs.{Proof, read_proof_fields, term_place, remaining_place}
use Rattle.files.specs.Shapes.{parts_of}
use Rattle.hitac.specs.Hiproofs.{atomics}
use Rattle.hitac.specs.Premises.{Finds}
use Rattle.hitac.specs.Walk.{walk}
use Rattle.hitac.proofs.TermBounds.{atomics-fields}
use Rattle.hitac.proofs.WalkValidates.{finds_agrees, walk→validates}
use Rattle.hitac.proofs.Nodes.{Cell, open_cell, range, NodeWalk, node_walk}
use Rattle.answers.specs.Answers as answer
use Rattle.entries.specs.LentSpace.{write_out}
use Rattle.entries.specs.Check.{same_goals, remaining_are, checked}
use Rattle.entries.proofs.SameGoals.{same_equal}
use Rattle.input_arities.specs.Layout.{stack_end, frames_end}
use Rattle.input_arities.specs.Arities.{Noted}
use Rattle.input_arities.proofs.ArityLaws.{ahead_kept}
use Rattle.input_arities.proofs.ProofLaws.{Small, standing, small, term_room}
use Rattle.walks.specs.Layout.{index_end}
use Rattle.walks.specs.Values.{values_at}
use Rattle.walks.specs.Walks.{Out, walk_of}
use Rattle.walks.specs.Loops.{Aim, Begins, start_of}
use Rattle.walks.proofs.LeafLaws.{aim_of, begun}
use Rattle.nodes.specs.declared.walk.Walked.{Walked}
use Rattle.nodes.specs.Space.{most_nodes, cell_place, cells_end, cells_from, cells_of, put_opens, put_range, Below, goals_in}
use Rattle.nodes.specs.NodeActs.{node_act}
use Rattle.nodes.specs.Walks.{Walkable, Ends}
use Rattle.nodes.proofs.RowLaws.{length_range, kept_range, nodes_range}
use Rattle.nodes.proofs.CellLaws.{length_cells, cells_above, length_opens, kept_opens, cells_opens}
use Rattle.walks.specs.SameIndex.{SameIndex}
use Rattle.walks.proofs.IndexLaws.{indexed_still}
use Rattle.flattener.specs.Forests.{TableReady, forest_cells, Accepted, written, flattened}
use Rattle.flattener.proofs.GrowthLaws.{Carry, carry_new, grows}
use Rattle.flattener.proofs.AgreeLaws.{Agrees, agrees, agreed_refused, agreed_gives, walked_cells}
use Rattle.flattener.proofs.RemainingLaws.{carried, below_later}
use Rattle.flattener.proofs.FlattenLaws.{outcome_of}

-- a file reads as one proof, which has these parts
pub same_parts : (s : List ℕ) (p p' : Proof) (q : ProofParts) → read_proof_fields s ≡ gives p → parts_of p ≡ q → read_proof_fields s ≡ gives p' → parts_of p' ≡ q
same_parts s p p' q e h e' = subst (λ (x : Proof). parts_of x ≡ q) (same_value (sym e ∙ e')) h

abbrev top : ProofParts → ℕ
top q = stack_end - q.goals * 2

-- the arities were noted, the stated goals made the first cells, and their nodes put at the end of the stacks
pub record Started (T : Table) (p : Proof) (table : List ℕ) (first : ℕ) (s : List ℕ) (q : ProofParts) (w₀ w₁ w₂ w : List ℕ) : Type 0 where
  pub ready : TableReady T table first w₀
  pub reads : read_proof_fields s ≡ gives p
  pub parts_are : parts_of p ≡ q
  pub space : cells_end ≤ length w₀
  pub noted : Noted w₀ w₁ p.term
  pub same_length : length w₁ ≡ length w₀
  pub opened : w₂ ≡ put_opens w₁ 0 (goals_at s 3 q.goals)
  pub pushed : w ≡ put_range w₂ (top q) 0 q.goals

module _ (T : Table) (p : Proof) (table : List ℕ) (first : ℕ) (s : List ℕ) (q : ProofParts) (w₀ w₁ w₂ w : List ℕ) (x : Started T p table first s q w₀ w₁ w₂ w) where
  sizes : Small s q
  sizes = small s p x.reads q x.parts_are

  abbrev goals : ℕ
  goals = q.goals

  goals_are : goals ≡ length p.goals
  unfolding parts_of
  goals_are = ap (λ (y : ProofParts). y.goals) (sym x.parts_are)

  term_is : q.term ≡ term_place p
  unfolding parts_of
  term_is = ap (λ (y : ProofParts). y.term) (sym x.parts_are)

  the_goals : goals_at s 3 goals ≡ p.goals
  the_goals = ap (goals_at s 3) goals_are ∙ sym (standing s p x.reads).goals_stand.goals_are

  -- ---- the work space

  length₂ : length w₂ ≡ length w₀
  length₂ = ap length x.opened ∙ length_opens (goals_at s 3 goals) w₁ 0 ∙ x.same_length

  pub length_started : length w ≡ length w₀
  length_started = ap length x.pushed ∙ length_range goals w₂ (top q) 0 ∙ length₂

  kept_cells : Kept w₁ w₂ index_end cells_end
  kept_cells =
      let g = goals_at s 3 goals in
      let k : Kept w₁ w₂ (cell_place 0) (cell_place (0 + length g)) = subst (λ (l : List ℕ). Kept w₁ l (cell_place 0) (cell_place (0 + length g))) (sym x.opened) (kept_opens g w₁ 0) in
      record { below = λ i h. k.below i (omega arith); above = λ i h. k.above i (omega (arith, length-goals_at goals s 3, sizes.goals)) }

  kept_row : Kept w₂ w 0 stack_end
  kept_row =
      let k : Kept w₂ w (top q) (top q + goals * 2) = subst (λ (l : List ℕ). Kept w₂ l (top q) (top q + goals * 2)) (sym x.pushed) (kept_range goals w₂ (top q) 0) in
      record { below = λ i h. k.below i (omega arith); above = λ i h. k.above i (omega (arith, sizes.goals)) }

  cells_first : cells_of w goals ≡ map open_cell p.goals
  unfolding cells_from
  cells_first =
      let g = goals_at s 3 goals in
      let n : 0 + length g ≡ goals = omega (arith, length-goals_at goals s 3) in
      cells_above w₂ w 0 stack_end goals kept_row (omega arith)
      ∙ ap (λ (l : List ℕ). cells_of l goals) x.opened
      ∙ ap (cells_of (put_opens w₁ 0 g)) (sym n)
      ∙ cells_opens g w₁ 0 (omega (arith, n, sizes.goals, x.space, x.same_length))
      ∙ ap (map open_cell) the_goals

  nodes_first : values_at w (top q) goals ≡ range 0 (length p.goals)
  nodes_first = ap (λ (l : List ℕ). values_at l (top q) goals) x.pushed ∙ nodes_range goals w₂ (top q) 0 (omega (arith, sizes.goals, x.space, length₂)) ∙ ap (range 0) goals_are

  same_index : SameIndex w₀ w
  same_index i a b = kept_row.above i (omega arith) ∙ kept_cells.below i (omega arith) ∙ x.noted.kept.above i (omega arith)

  -- ---- the walk begins

  abbrev pub aim : Aim Cell
  aim = aim_of (node_act T) p.term q.term (cells_of w goals) (values_at w (top q) goals) (standing s p x.reads).few_fields

  abbrev walked_nodes : NodeWalk
  walked_nodes = node_walk T p.term (map open_cell p.goals) (range 0 (length p.goals))

  first_carry : Carry (map open_cell p.goals) (range 0 (length p.goals)) p.goals
  first_carry = carry_new [] p.goals

  agreed : Agrees walked_nodes (walk T p.term (term_place p) p.goals) aim.result
  agreed =
      let e = agrees T x.ready.few p.term (term_place p) (map open_cell p.goals) (range 0 (length p.goals)) p.goals
      (omega (arith, length-map p.goals open_cell, goals_are, sizes.goals, atomics-fields p.term, (standing s p x.reads).few_fields)) first_carry in
      subst (λ (y : Result (Out Cell)). Agrees walked_nodes (walk T p.term (term_place p) p.goals) y)
      (sym (λ i. walk_of (node_act T) p.term (term_is i) (cells_first i) (nodes_first i))) e

  pub begins : Begins (node_act T) aim (cells_of w goals) s w (start_of q.term goals)
  begins =
      let r = term_room s p x.reads q x.parts_are w (omega (arith, x.space, length_started)) in
      begun (node_act T) (cells_of w goals) s w p.term q.term goals (standing s p x.reads).few_fields r.stands
      (ahead_kept w₂ w 0 stack_end frames_end _ kept_row (inl (omega arith)) (ahead_kept w₁ w₂ index_end cells_end frames_end _ kept_cells (inr (omega arith)) x.noted.ahead))
      sizes.goals

  pub walkable : Walkable T aim table first s w
  walkable = record {
    table_stands = x.ready.stands;
    indexed = indexed_still table first w₀ w length_started same_index x.ready.indexed;
    sound = λ c k e. (agreed_refused walked_nodes (walk T p.term (term_place p) p.goals) aim.result c k agreed e).1;
    file = sizes.file;
    space = omega (arith, x.space, length_started);
  }

  -- ---- the walk ended

  module _ (w₃ : List ℕ) (r : std.Result Walked Refusal) (ends : Ends aim s w₃ r) (same : length w₃ ≡ length w) where
    pub ends_refused : (f : Refusal) → r ≡ Err f → (o : List ℕ) → (flattened T p o ≡ outcome_of (answer.refusal (number f.cause) 2 f.place 0) o) × (f.place ≤ most_bytes)
    unfolding Ends checked and_then write_out
    ends_refused f t o =
        let z = subst (Ends aim s w₃) t ends in
        let e = (agreed_refused walked_nodes (walk T p.term (term_place p) p.goals) aim.result f.cause f.place agreed z.0).0 in
        (rw e, omega (arith, z.1, sizes.file))

    module _ (shown : Walked) (t : r ≡ Ok shown) where
      record Gave : Type 0 where
        h : List Goal
        walks : walk T p.term (term_place p) p.goals ≡ gives h
        cells : cells_of w₃ shown.nodes ≡ forest_cells T p
        those : goals_in w₃ (values_at w₃ 0 shown.given) ≡ h
        below : Below shown.nodes (values_at w₃ 0 shown.given)
        many : shown.nodes ≤ most_nodes
        uses_are : shown.uses ≡ atomics p.term
        few : shown.given * 2 ≤ stack_end

      gave : Gave
      unfolding Ends
      gave =
          let z = subst (Ends aim s w₃) t ends in
          let (h, e, o) = agreed_gives walked_nodes (walk T p.term (term_place p) p.goals) aim.result _ agreed z.0 in
          let c : cells_of w₃ shown.nodes ≡ forest_cells T p = ap (λ (y : Out Cell). y.made) o in
          let v : values_at w₃ 0 shown.given ≡ walked_nodes.nodes = ap (λ (y : Out Cell). y.values) o in
          let g = grows T (walk→validates T (Finds T) (finds_agrees T) p.term (term_place p) p.goals e) (map open_cell p.goals) first_carry in
          let d = carried w₃ shown.nodes (subst (λ (A : List Cell). Carry A (values_at w₃ 0 shown.given) h) (sym c) (subst (λ (ns : List ℕ). Carry (forest_cells T p) ns h) (sym v) g.carry)) in
          let m = walked_cells T x.ready.few p.term (term_place p) (map open_cell p.goals) first_carry e in
          record {
            h = h;
            walks = e;
            cells = c;
            those = d.0;
            below = d.1;
            many = omega (arith, m, length_cells shown.nodes w₃ index_end, ap length c, length-map p.goals open_cell, goals_are, sizes.goals, atomics-fields p.term, (standing s p x.reads).few_fields);
            uses_are = z.1;
            few = z.2;
          }

      -- what is asked for comparing the goals
      pub nodes_below : Below most_nodes (values_at w₃ 0 shown.given) × (shown.given * 2 ≤ stack_end) × (cells_end ≤ length w₃) × (q.rest + 3 + q.remaining * 2 ≤ length s)
      nodes_below = (below_later shown.nodes most_nodes gave.many (values_at w₃ 0 shown.given) gave.below, gave.few, omega (arith, same, length_started, x.space), sizes.remaining_inside)

      abbrev Compared : Bool → Type 0
      Compared b = same_goals (goals_in w₃ (values_at w₃ 0 shown.given)) (goals_at s (q.rest + 3) q.remaining) ≡ b

      compared : (b : Bool) → Compared b → same_goals gave.h p.remaining ≡ b
      unfolding parts_of
      compared b f =
          ap₂ same_goals (sym gave.those) ((standing s p x.reads).remaining_stand.goals_are ∙ ap (λ (y : ProofParts). goals_at s (y.rest + 3) y.remaining) x.parts_are) ∙ f

      pub ends_accepted : Compared true → Accepted T p s w₃ q shown.uses shown.nodes
      ends_accepted f = record {
        reads = x.reads;
        parts_are = x.parts_are;
        walks = gave.walks ∙ ap gives (same_equal gave.h p.remaining (compared true f));
        uses_are = gave.uses_are;
        cells = gave.cells;
        within = omega (arith, same, length_started, x.space);
      }

      pub ends_written : Compared true → (o : List ℕ) → flattened T p o ≡ written T p o
      unfolding checked and_then remaining_are
      ends_written f o = rw (gave.walks, compared true f)

      pub ends_other : Compared false → (o : List ℕ) → (flattened T p o ≡ outcome_of (answer.refusal (number RemainingDiffer) 2 q.rest 0) o) × (q.rest ≤ most_bytes)
      unfolding checked and_then remaining_are write_out parts_of
      ends_other f o =
          let e : remaining_place p ≡ q.rest = ap (λ (y : ProofParts). y.rest) x.parts_are in
          (rw (gave.walks, compared false f, e), omega (arith, sizes.remaining_inside, sizes.file))
