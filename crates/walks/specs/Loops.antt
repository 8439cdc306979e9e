-- Where a walk stands: the whole walk comes to what the terms that wait make of the current term's walk. What was made so far is passed on as it is; where it lies is for each user of the walk to say.
use Rattle.std.specs.Prelude.{ℕ, ◌+◌, ◌*◌, ◌-◌, ◌≤◌, ◌≡◌, List, length, get_or, Ok, Err}
use Rattle.std.specs.Prelude as std
use Rattle.words.specs.Kept.{Kept}
use Rattle.format.specs.Limits.{most_bytes, most_term_fields}
use Rattle.format.specs.declared.refusals.Refusal.{Refusal}
use Rattle.format.specs.Results.{Result, gives, refused}
use Rattle.format.specs.Terms.{Term, size, fields}
use Rattle.format.specs.Standing.{Stands}
use Rattle.hitac.specs.Hiproofs.{atomics}
use Rattle.input_arities.specs.Layout.{stack_end, frames_end, arities_end}
use Rattle.input_arities.specs.Arities.{arities, Ahead}
use Rattle.walks.specs.declared.state.Next.{Next}
use Rattle.walks.specs.declared.state.Turn.{Turn}
use Rattle.walks.specs.declared.state.Turn.TheVariants as U
use Rattle.walks.specs.Values.{values_at}
use Rattle.walks.specs.Walks.{Out, out, Act, walk_of}
use Rattle.walks.specs.Waiting.{Waiting, resumed, pending, later, weight}
use Rattle.walks.specs.Shows.{Shown}

-- what the whole walk is to come to, and its atomic fields
pub record Aim (C : Type 0) : Type 0 where
  pub result : Result (Out C)
  pub uses : ℕ
  pub few : uses ≤ most_bytes

-- places of the file fit into 16 bits, and there is room for stacks, frames and arities
pub record Roomy (s w : List ℕ) : Type 0 where
  pub file : length s ≤ most_bytes
  pub space : arities_end ≤ length w

-- a term is to begin, and those terms wait
pub record BeginsWith {C : Type 0} (act : Act C) (x : Aim C) (A : List C) (s w : List ℕ) (n : Next) (t : Term) (f : List Waiting) : Type 0 where
  pub same : x.result ≡ resumed act f (walk_of act t n.at A (values_at w n.top n.count))
  pub stands : Stands s n.at t
  pub ahead : Ahead w n.arity (arities t (later f))
  pub room : n.low + 14 * (atomics t + pending f) ≤ n.top
  pub below : n.top + n.count * 2 ≤ stack_end
  pub shown : Shown s w n.frames (n.at + size t) n.low (n.top + n.count * 2) f
  pub counted : n.uses + (atomics t + pending f) ≡ x.uses
  pub depth : weight f + fields t ≤ most_term_fields

abbrev pub Begins : {C : Type 0} → Act C → Aim C → List C → List ℕ → List ℕ → Next → Type 0
Begins act x A s w n = (t : Term) × (f : List Waiting) × BeginsWith act x A s w n t f

-- a term that ends at the place `at` took the values before `end` and gave so many from `low` on, and those terms wait
pub record GaveWith {C : Type 0} (act : Act C) (x : Aim C) (A : List C) (s w : List ℕ) (at low given end frames arity uses : ℕ) (f : List Waiting) : Type 0 where
  pub same : x.result ≡ resumed act f (gives (out A (values_at w low given)))
  pub ahead : Ahead w arity (later f)
  pub room : low + given * 2 + 14 * pending f ≤ end
  pub below : end ≤ stack_end
  pub shown : Shown s w frames at low end f
  pub counted : uses + pending f ≡ x.uses
  pub depth : weight f + 1 ≤ most_term_fields

abbrev pub Gave : {C : Type 0} → Act C → Aim C → List C → List ℕ → List ℕ → (at low given end frames arity uses : ℕ) → Type 0
Gave act x A s w at low given end frames arity uses = (f : List Waiting) × GaveWith act x A s w at low given end frames arity uses f

-- the term at another place is to begin, with all else the same: how a term is named without the labels around it
abbrev pub placed : Next → (at : ℕ) → Next
placed n at = record { at = at; count = n.count; low = n.low; top = n.top; frames = n.frames; arity = n.arity; uses = n.uses }

-- the walk's first term, on so many values, with nothing begun
abbrev pub start_of : (at count : ℕ) → Next
start_of at count = record { at = at; count = count; low = 0; top = stack_end - count * 2; frames = stack_end; arity = frames_end; uses = 0 }

-- a field with a tag that is no label's, no sequence's and no tensor's
abbrev pub Leaf : List ℕ → (at : ℕ) → Type 0
Leaf s at = (get_or s at 0 ≡ 18 → ⊥) × (get_or s at 0 ≡ 19 → ⊥) × (get_or s at 0 ≡ 20 → ⊥)

-- A term acted in a work space w, with A made so far, and left w' and A': so many values given, at most seven more than taken for an atomic, and so many uses.
pub record Acted {C : Type 0} (act : Act C) (A A' : List C) (w w' : List ℕ) (n : Next) (t : Term) (given used : ℕ) : Type 0 where
  pub comes : act t n.at A (values_at w n.top n.count) ≡ gives (out A' (values_at w' n.low given))
  pub used_is : used ≡ atomics t
  pub few : given ≤ n.count + 7 * used
  pub kept : Kept w w' n.low (n.top + n.count * 2)

-- how a step ended that left the work space w: refused in the file, at the walk's end, or at the next term, which is not before the place `at`
unfoldable pub Turned : {C : Type 0} → Act C → Aim C → List C → List ℕ → List ℕ → (at : ℕ) → std.Result Turn Refusal → Type 0
Turned act x A s w at (Err e) = (x.result ≡ refused e.cause e.place) × (e.place ≤ length s)
Turned act x A s w at (Ok (U.Begin n)) = Begins act x A s w n × (at ≤ n.at)
Turned act x A s w at (Ok (U.Ended e)) = (x.result ≡ gives (out A (values_at w 0 e.given))) × (e.uses ≡ x.uses) × (e.given * 2 ≤ stack_end)

-- a step that wrote on the stacks and the frames alone
pub record Steps {C : Type 0} (act : Act C) (x : Aim C) (A : List C) (s w w' : List ℕ) (at : ℕ) (r : std.Result Turn Refusal) : Type 0 where
  pub turned : Turned act x A s w' at r
  pub kept : Kept w w' 0 frames_end
