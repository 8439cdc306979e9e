-- A walk from its beginning to its end: what holds between its turns.
-- Assumes nothing.
use Prim.Native.Nat.{ℕ, ◌+◌, ◌≤◌, ◌<◌}
use mathlib.Core.Path.{◌≡◌, refl, ◌∙◌}
use mathlib.Core.List.{List, [], ◌∷◌}
use native.Mathlib.Omega.{arith}
use lib.ListN.{length, get_or}
use Rattle.tables.specs.Tables.{Table}
use Rattle.arity_notes.specs.Regions.{definitions_place}
use Rattle.arity_notes.specs.declared.walk.Walk.{Walk}
use Rattle.arity_notes.specs.Waits.{Wait, StackAt}
use Rattle.arity_notes.specs.Asked.{Turn, asks, tells, turn_weight, stack_weight, Standing, Told}
use Rattle.arity_notes.specs.Cells.{cell, unwalked}
use Rattle.arity_notes.specs.Walks.{Mode, Walking, Given, Turns, Ended, Walks}

module _ (bytes : List ℕ) (first : ℕ) (src : List ℕ) (base : ℕ) (w₀ : List ℕ) (from : Walk) where
  -- where a walk stands that began there, with so many turns left
  pub record Since (m : Mode) (T : Table) (w : List ℕ) (s : Walk) (left : ℕ) : Type 0 where
    pub turn : Turn
    pub stack : List Wait
    pub walking : Walking m T bytes first src base w s turn stack
    pub fewer : turn_weight turn + stack_weight stack + unwalked w T.definitions < left
    pub grows : (d : ℕ) → d < 65536 → cell w d ≡ 0 → cell w₀ d ≡ 0
    pub beyond : (i : ℕ) → definitions_place ≤ i → get_or w i 0 ≡ get_or w₀ i 0

  pub record Between (w : List ℕ) (s : Walk) (left : ℕ) : Type 0 where
    pub same_length : length w ≡ length w₀
    pub since : (m : Mode) (T : Table) (c : Turn) (k : List Wait) → Walking m T bytes first src base w₀ from c k → Since m T w s left

  pub between_start : Between w₀ from 65537
  between_start = record {
    same_length = refl;
    since = λ m T c k q. record { turn = c; stack = k; walking = q; fewer = omega (arith, q.few); grows = λ d h e. e; beyond = λ i h. refl };
  }

  module _ (g : Given bytes first src base w₀ from) (w : List ℕ) (s : Walk) (left : ℕ) (b : Between w s left) where
    here : Since g.mode g.table w s left
    here = b.since g.mode g.table g.turn g.stack g.walking

    pub between_given : Given bytes first src base w s
    between_given = record { mode = g.mode; table = g.table; turn = here.turn; stack = here.stack; walking = here.walking }

    pub between_left : 0 < left
    between_left = omega (arith, here.fewer)

    pub between_next : (v : List ℕ) (r : Walk) → length v ≡ length w → Turns bytes first src base w s v r → (less : ℕ) → less + 1 ≡ left → Between v r less
    between_next v r l f less e = record {
      same_length = l ∙ b.same_length;
      since = λ m T c k q.
          let x = b.since m T c k q in
          let y = f m T x.turn x.stack x.walking in
          record {
            turn = y.turn;
            stack = y.stack;
            walking = y.walking;
            fewer = omega (arith, x.fewer, y.less, e);
            grows = λ d h z. x.grows d h (y.grows d h z);
            beyond = λ i h. y.beyond i h ∙ x.beyond i h;
          };
    }

    pub walk_ends : s.top ≡ 0 → Walks bytes first src base w₀ from w
    unfolding StackAt Standing Told
    walk_ends e m T c k q =
        let x = b.since m T c k q in
        go x.turn x.stack x.walking x.grows x.beyond
      where
        go : (d : Turn) (j : List Wait) → Walking m T bytes first src base w s d j → ((n : ℕ) → n < 65536 → cell w n ≡ 0 → cell w₀ n ≡ 0) → ((i : ℕ) → definitions_place ≤ i → get_or w i 0 ≡ get_or w₀ i 0) → Ended m T bytes first src base w₀ w
        go (asks at t) [] y u v = absurd y.standing
        go (asks at t) (x ∷ j) y u v = absurd (omega (arith, e, y.stack.1))
        go (tells end a) [] y u v = record { turn = tells end a; mode_is = y.mode_is; told = tt; cells = y.cells; indexed = y.indexed; same_length = b.same_length; grows = u; beyond = v }
        go (tells end a) (x ∷ j) y u v = absurd (omega (arith, e, y.stack.1))
