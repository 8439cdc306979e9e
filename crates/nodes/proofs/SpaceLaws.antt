-- Turns of the loops that store nodes: what is stored and what is left make the whole.
-- Assumes nothing.
use mathlib.Core.Path.{◌≡◌}
use mathlib.Core.List.{List}
use Prim.Native.Nat.{ℕ, suc, ◌+◌}
use Rattle.words.specs.Word.{word, put_word}
use Rattle.format.specs.Goals.{goals_at}
use Rattle.nodes.specs.Space.{cell_place, put_opens, put_range}

pub range_moved : (s : List ℕ) (at f k at' f' k' : ℕ) → at ≡ at' → f ≡ f' → k ≡ k' → put_range s at f k ≡ put_range s at' f' k'
range_moved s at f k at' f' k' p q r = λ i. put_range s (p i) (q i) (r i)

pub range_turn : (s s' : List ℕ) (at f k at' f' k' : ℕ) → s' ≡ put_word s at f → at + 2 ≡ at' → suc f ≡ f' → k ≡ suc k' → put_range s at f k ≡ put_range s' at' f' k'
unfolding put_range
range_turn s s' at f k at' f' k' e p q r = rw (r, e, ← p, ← q)

pub range_end : (s : List ℕ) (at f k : ℕ) → k ≡ 0 → put_range s at f k ≡ s
unfolding put_range
range_end s at f k e = rw e

pub opens_moved : (s file : List ℕ) (n place k n' place' k' : ℕ) → n ≡ n' → place ≡ place' → k ≡ k' → put_opens s n (goals_at file place k) ≡ put_opens s n' (goals_at file place' k')
opens_moved s file n place k n' place' k' p q r = λ i. put_opens s (p i) (goals_at file (q i) (r i))

pub opens_turn : (s s₁ s' file : List ℕ) (n place k v n' k' : ℕ) → v ≡ word file place → s₁ ≡ put_word s (cell_place n) v → s' ≡ put_word s₁ (cell_place n + 6) 0 → suc n ≡ n' → (place' : ℕ) → place + 2 ≡ place' → k ≡ suc k'
    → put_opens s n (goals_at file place k) ≡ put_opens s' n' (goals_at file place' k')
unfolding put_opens goals_at
opens_turn s s₁ s' file n place k v n' k' e f g p place' q r = rw (r, g, f, e, ← p, ← q)

pub opens_end : (s file : List ℕ) (n place k : ℕ) → k ≡ 0 → put_opens s n (goals_at file place k) ≡ s
unfolding put_opens goals_at
opens_end s file n place k e = rw e
