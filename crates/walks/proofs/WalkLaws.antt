-- A step of the walk at any leaves: what `Steps` says of the shared parts of it, with leaves that are ready, is what the walk goes on from.
-- Assumes nothing.
use native.Mathlib.Omega.{arith}
use Rattle.std.specs.Prelude.{Ok, Err}
use Rattle.std.specs.Prelude as std
use mathlib.Core.Path.{◌≡◌, sym, subst, ◌∙◌}
use mathlib.Core.List.{List}
use Prim.Native.Nat.{ℕ, ◌+◌, ◌≤◌}
use lib.ListN.{length}
use Rattle.words.specs.Word.{word}
use Rattle.words.proofs.KeptLaws.{kept_both}
use Rattle.format.specs.declared.refusals.Refusal.{Refusal}
use Rattle.walks.specs.declared.state.Turn.{Turn}
use Rattle.walks.specs.Walks.{Act}
use Rattle.walks.specs.Loops.{Aim, Gave, Turned, Steps}
use Rattle.walks.specs.Leaves.{Still, Goes}
use Rattle.walks.proofs.LeafLaws.{turned-later}

module _ {C : Type 0} (ready : List C → (s w : List ℕ) → Type 0) (act : Act C) (x : Aim C) (s : List ℕ) where
  -- the next term is behind an earlier place too
  pub goes_later : (w : List ℕ) (at at' : ℕ) (r : std.Result Turn Refusal) → at' ≤ at → Goes ready act x s w at r → Goes ready act x s w at' r
  unfolding Goes
  goes_later w at at' (Err e) h g = g
  goes_later w at at' (Ok t) h g = (g.0, turned-later act x g.0 s w at at' (Ok t) h g.1, g.2)

-- a term that gave, at the place that the code computed from its length
pub leaf_behind : {C : Type 0} (act : Act C) (x : Aim C) (A : List C) (s w : List ℕ) (at len low given end frames arity uses : ℕ) → len ≡ word s (at + 1) → Gave act x A s w (at + 3 + word s (at + 1)) low given end frames arity uses → Gave act x A s w (at + 3 + len) low given end frames arity uses
leaf_behind act x A s w at len low given end frames arity uses e g = subst (λ (i : ℕ). Gave act x A s w (at + 3 + i) low given end frames arity uses) (sym e) g

module _ {C : Type 0} (ready : List C → (s w : List ℕ) → Type 0) (act : Act C) (x : Aim C) (A : List C) (s w w' : List ℕ) (long : length w' ≡ length w) (y : Still ready A s w) where
  -- a step that wrote on the stacks and the frames alone
  pub steps_go : (at at' : ℕ) (r : std.Result Turn Refusal) → at' ≤ at → Steps act x A s w w' at r → Goes ready act x s w' at' r
  unfolding Goes Turned
  steps_go at at' (Err e) h z = z.turned
  steps_go at at' (Ok t) h z = (A, turned-later act x A s w' at at' (Ok t) h z.turned, λ w'' e k. y w'' (e ∙ long) (kept_both w w' w'' _ _ _ _ _ _ z.kept k (omega arith) (omega arith) (omega arith) (omega arith)))
