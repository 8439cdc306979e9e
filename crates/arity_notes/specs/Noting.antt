-- What a walk over a term notes: the left arities of the tensors whose arities it asks for. Others stand within labels and in the right terms of sequences.
use Rattle.std.specs.Prelude.{ℕ, ◌+◌, ◌≤◌, ◌<◌, ◌≡◌, List, [], ◌∷◌, ◌⊎◌, get_or}
use Rattle.format.specs.Terms.{Term, atomic, id, label, sequence, tensor, empty, alternation, assert, defined, size}
use Rattle.tables.specs.Tables.{Table}
use Rattle.input_arities.specs.Threads.{slot}
use Rattle.arities.specs.Layout.{frames_end}
use Rattle.arities.specs.Arities.{arities}
use Rattle.arity_notes.specs.Notes.{NotedLeft}
use Rattle.arity_notes.specs.Waits.{Wait, for_left, for_right, for_body, for_root}
use Rattle.arity_notes.specs.Asked.{Known, Turn, asks, tells}
use Rattle.arity_notes.specs.Cells.{AllKnown}

-- of the term at a place
unfoldable pub AskedNoted : List ℕ → (base : ℕ) → Known → (at : ℕ) → Term → Type 0
AskedNoted w base f at (atomic a) = Unit {0}
AskedNoted w base f at id = Unit {0}
AskedNoted w base f at (label l t) = Unit {0}
AskedNoted w base f at (sequence t u) = AskedNoted w base f (at + 3) t
AskedNoted w base f at (tensor t u) = NotedLeft w base f (at + 3 + size t) t × AskedNoted w base f (at + 3) t × AskedNoted w base f (at + 3 + size t) u
AskedNoted w base f at empty = Unit {0}
AskedNoted w base f at (alternation t u) = AskedNoted w base f (at + 3) t × AskedNoted w base f (at + 3 + size t) u
AskedNoted w base f at (assert γ) = Unit {0}
AskedNoted w base f at (defined n) = Unit {0}

-- what is still to be noted of the terms that wait, and of the one that is asked
unfoldable pub StackAhead : List ℕ → (base : ℕ) → Known → List Wait → Type 0
StackAhead w base f [] = Unit {0}
StackAhead w base f (for_left b at t u ∷ k) = NotedLeft w base f (at + 3 + size t) t × AskedNoted w base f (at + 3 + size t) u × StackAhead w base f k
StackAhead w base f (for_right b o ∷ k) = StackAhead w base f k
StackAhead w base f (for_body d ∷ k) = StackAhead w base f k
StackAhead w base f (for_root ∷ k) = StackAhead w base f k

unfoldable pub TurnAhead : List ℕ → (base : ℕ) → Known → Turn → Type 0
TurnAhead w base f (asks at t) = AskedNoted w base f at t
TurnAhead w base f (tells end a) = Unit {0}

-- from where on notes are still to be made, and where the term of the turn ends
unfoldable pub turn_low : Turn → ℕ
turn_low (asks at t) = at + 3
turn_low (tells end a) = end

unfoldable pub turn_end : Turn → ℕ
turn_end (asks at t) = at + size t
turn_end (tells end a) = end

-- the right terms that are still to be asked stand one behind the other from a place on, up to the end of all; no body waits
unfoldable pub Beyond : (from limit : ℕ) → List Wait → Type 0
Beyond p limit [] = p ≤ limit
Beyond p limit (for_left b at t u ∷ k) = (p ≤ at + 3 + size t) × Beyond (at + 3 + size t + size u) limit k
Beyond p limit (for_right b o ∷ k) = Beyond p limit k
Beyond p limit (for_body d ∷ k) = ⊥
Beyond p limit (for_root ∷ k) = Beyond p limit k

-- A walk that notes the tensors of a root, the term at a place; w₀ is the work space at its beginning. Notes from the turn's place on are still to be made:
-- whatever they will be, if those ahead are right, all are.
pub record Noting (T : Table) (base from : ℕ) (root : Term) (w₀ w : List ℕ) (c : Turn) (k : List Wait) : Type 0 where
  pub known : AllKnown T w
  pub beyond : Beyond (turn_end c) (from + size root) k
  pub low : from + 3 ≤ turn_low c
  pub small : from + size root < 65536
  pub pending : (v : List ℕ) → ((i : ℕ) → base ≤ i → i < base + slot (turn_low c) → get_or v i 0 ≡ get_or w i 0) → TurnAhead v base (arities T) c → StackAhead v base (arities T) k
      → AskedNoted v base (arities T) from root
  pub kept : (i : ℕ) → frames_end ≤ i → (i < base + slot (from + 3)) ⊎ (base + slot (from + size root) ≤ i) → get_or w i 0 ≡ get_or w₀ i 0
