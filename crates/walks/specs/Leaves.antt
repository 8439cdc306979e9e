-- The walk as one loop, for any way in which the terms without inner terms act by a table: what a term, a step and the whole walk come to. `ready A s w` says that they act so in the work space w, with A made so far.
use Rattle.std.specs.Prelude.{ℕ, ◌+◌, ◌*◌, ◌≤◌, ◌≡◌, List, length, Ok, Err}
use Rattle.std.specs.Prelude as std
use Rattle.words.specs.Word.{word}
use Rattle.words.specs.Kept.{Kept}
use Rattle.format.specs.Limits.{most_bytes}
use Rattle.format.specs.declared.refusals.Cause.{Cause}
use Rattle.format.specs.declared.refusals.Refusal.{Refusal}
use Rattle.format.specs.Results.{gives, refused}
use Rattle.input_arities.specs.Layout.{stack_end, frames_end}
use Rattle.walks.specs.declared.state.Next.{Next}
use Rattle.walks.specs.declared.state.Ended.{Ended}
use Rattle.walks.specs.declared.state.Turn.{Turn}
use Rattle.walks.specs.Values.{values_at}
use Rattle.walks.specs.Walks.{out, Act}
use Rattle.walks.specs.Loops.{Aim, Gave, Turned}

-- ready also once the stacks and the frames alone are written from there on
abbrev pub Still : {C : Type 0} → (List C → (s w : List ℕ) → Type 0) → List C → (s w : List ℕ) → Type 0
Still ready A s w = (w' : List ℕ) → length w' ≡ length w → Kept w w' 0 frames_end → ready A s w'

-- how a term without inner terms ended that left the work space w: refused; or it gave, and ends where its length says
unfoldable pub LeafTurned : {C : Type 0} → (List C → (s w : List ℕ) → Type 0) → Act C → Aim C → (s w : List ℕ) → Next → (at : ℕ) → std.Result Ended Cause → Type 0
LeafTurned ready act x s w n at (Err c) = x.result ≡ refused c at
LeafTurned {C = C} ready act x s w n at (Ok e) =
    (A : List C) × Gave act x A s w (at + 3 + word s (at + 1)) n.low e.given (n.top + n.count * 2) n.frames n.arity (n.uses + e.uses) × (n.uses + e.uses ≤ most_bytes) × Still ready A s w

-- how a step ended, at a term that is not before the place `at`
unfoldable pub Goes : {C : Type 0} → (List C → (s w : List ℕ) → Type 0) → Act C → Aim C → (s w : List ℕ) → (at : ℕ) → std.Result Turn Refusal → Type 0
Goes ready act x s w at (Err e) = (x.result ≡ refused e.cause e.place) × (e.place ≤ length s)
Goes {C = C} ready act x s w at (Ok t) = (A : List C) × Turned act x A s w at (Ok t) × Still ready A s w

-- how the whole walk ended
unfoldable pub Ends : {C : Type 0} → (List C → (s w : List ℕ) → Type 0) → Aim C → (s w : List ℕ) → std.Result Ended Refusal → Type 0
Ends ready x s w (Err e) = (x.result ≡ refused e.cause e.place) × (e.place ≤ length s)
Ends {C = C} ready x s w (Ok e) = (A : List C) × (x.result ≡ gives (out A (values_at w 0 e.given))) × (e.uses ≡ x.uses) × (e.given * 2 ≤ stack_end) × ready A s w
