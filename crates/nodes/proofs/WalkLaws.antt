-- The nodes of a walk act as the walk wants of its leaves: the shared walk's laws say where it stands, and the cells and the index are kept.
-- Assumes nothing.
use Rattle.std.specs.Prelude.{Ok, Err}
use mathlib.Core.Path.{◌≡◌, sym, subst, ◌∙◌}
use mathlib.Core.List.{List}
use Prim.Native.Nat.{ℕ, ◌+◌, ◌≤◌}
use native.Mathlib.Omega.{arith}
use lib.ListN.{length}
use Rattle.words.specs.Word.{word}
use Rattle.words.specs.Kept.{Kept}
use Rattle.format.specs.declared.refusals.Cause.{Cause}
use Rattle.format.specs.declared.refusals.Cause.TheVariants.{InputTooLong}
use Rattle.format.specs.Refusals.{number}
use Rattle.format.specs.Results.{refused}
use Rattle.format.specs.Terms.{Term}
use Rattle.format.specs.Standing.{Stands}
use Rattle.format.proofs.StandsLaws.{known}
use Rattle.tables.specs.Tables.{Table}
use Rattle.hitac.specs.Hiproofs.{atomics}
use Rattle.hitac.proofs.Nodes.{Cell}
use Rattle.input_arities.specs.Layout.{frames_end}
use Rattle.walks.specs.declared.state.Next.{Next}
use Rattle.walks.specs.Layout.{index_end}
use Rattle.walks.specs.SameIndex.{SameIndex}
use Rattle.walks.specs.Leaves.{Still, LeafTurned}
use Rattle.walks.specs.Loops.{Aim, Roomy, Begins, placed, Leaf, Acted, Turned}
use Rattle.walks.proofs.IndexLaws.{indexed_still}
use Rattle.walks.proofs.LeafLaws.{leaf_refused, leaf_gave, begins-behind}
use Rattle.nodes.specs.declared.leaf.Taken.{Taken}
use Rattle.nodes.specs.Space.{cells_end, cells_of}
use Rattle.nodes.specs.NodeActs.{node_act}
use Rattle.nodes.specs.Leaves.{LeafRoom, Fitting, Takes}
use Rattle.nodes.specs.Walks.{Walkable, nodes_ready}
use Rattle.nodes.proofs.CellLaws.{cells_above}

-- nodes are ready wherever the stacks and the frames alone were written
module _ (table : List ℕ) (first : ℕ) (T : Table) (x : Aim Cell) (s w : List ℕ) (k : Walkable T x table first s w) where
  pub roomy : Roomy s w
  roomy = record { file = k.file; space = omega (arith, k.space) }

  walkable_still : (w' : List ℕ) → length w' ≡ length w → SameIndex w w' → Walkable T x table first s w'
  walkable_still w' e i = record {
    table_stands = k.table_stands;
    indexed = indexed_still table first w w' e i k.indexed;
    sound = k.sound;
    file = k.file;
    space = omega (arith, k.space);
  }

pub nodes_still : (table : List ℕ) (first next : ℕ) (T : Table) (x : Aim Cell) (s w : List ℕ) → Walkable T x table first s w → Still (nodes_ready table first next T x) (cells_of w next) s w
nodes_still table first next T x s w k w' e z = (walkable_still table first T x s w k w' e (λ i a b. z.above i (omega arith)), sym (cells_above w w' 0 frames_end next z (omega arith)))

-- a term without inner terms
module _ (table : List ℕ) (first next : ℕ) (T : Table) (x : Aim Cell) (A : List Cell) (s w : List ℕ) (y : nodes_ready table first next T x A s w) (n : Next) (at : ℕ) (b₀ : Begins (node_act T) x A s w (placed n at)) (l : Leaf s at) where
  abbrev A₀ : List Cell
  A₀ = cells_of w next

  abbrev pub here : Begins (node_act T) x A₀ s w (placed n at)
  here = subst (λ (B : List Cell). Begins (node_act T) x B s w (placed n at)) y.1 b₀

  leaf_inside : at ≤ length s
  leaf_inside = omega (arith, (known s at here.0 here.2.stands).inside)

  pub leaf_room : LeafRoom w n (atomics here.0)
  leaf_room = record { apart = omega (arith, here.2.room); below = here.2.below; space = y.0.space }

  pub leaf-fits : Fitting T here.0 at w n next
  unfolding Turned number
  leaf-fits e = omega (arith, y.0.sound InputTooLong at (leaf_refused (node_act T) x A₀ s w (placed n at) here l InputTooLong at leaf_inside e w at).0)

  pub leaf-stops : (v w' : List ℕ) (c : Cause) → Takes T here.0 at w v w' n next (Err c) → x.result ≡ refused c at
  unfolding Takes Turned
  leaf-stops v w' c t = (leaf_refused (node_act T) x A₀ s w (placed n at) here l c at leaf_inside t.0 w at).0

  -- it gave, after cells were written
  module _ (v w' : List ℕ) (long : length w' ≡ length w) (in_cells : Kept w v index_end cells_end) (r : Taken) (t : (t : Term) → Stands s at t → Takes T t at w v w' n next (Ok r)) where
    b₁ : Begins (node_act T) x A₀ s v (placed n at)
    b₁ = begins-behind (node_act T) x A₀ s w (placed n at) here v index_end cells_end in_cells (omega arith)

    acted : Acted (node_act T) A₀ (cells_of w' r.next) v w' (placed n at) b₁.0 r.given r.used
    unfolding Takes
    acted = t b₁.0 b₁.2.stands

    pub leaf_gives : LeafTurned (nodes_ready table first r.next T x) (node_act T) x s w' n at (Ok (record { given = r.given; uses = r.used }))
    unfolding LeafTurned
    leaf_gives =
        let k = walkable_still table first T x s w y.0 w' long (λ i p q. acted.kept.above i (omega (arith, here.2.below)) ∙ in_cells.below i (omega arith)) in
        let g = leaf_gave (node_act T) x A₀ s v (placed n at) b₁ l (cells_of w' r.next) w' r.given r.used acted (at + 3 + word s (at + 1)) (omega (arith, (known s at b₁.0 b₁.2.stands).length_is)) in (
          cells_of w' r.next,
          g.0,
          g.1,
          nodes_still table first r.next T x s w' k,
        )
