-- A walk that notes: each turn leaves fewer notes ahead, and those that it has made stay.
-- Assumes nothing.
use Prim.Native.Nat.{ℕ, ◌+◌, ◌≤◌, ◌<◌}
use mathlib.Core.Path.{◌≡◌, sym, subst, ◌∙◌}
use mathlib.Core.List.{List, [], ◌∷◌}
use mathlib.Core.Option.{Option}
use mathlib.Core.Logic.{◌⊎◌, inl, inr}
use native.Mathlib.Omega.{arith}
use lib.ListN.{get_or}
use Rattle.words.specs.Word.{word}
use Rattle.format.specs.Terms.{Term, size}
use Rattle.tables.specs.Tables.{Table}
use Rattle.evaluation.specs.TacticArity.{arity_in}
use Rattle.input_arities.specs.Threads.{slot}
use Rattle.input_arities.proofs.ThreadLaws.{slot_rises, slot_apart}
use Rattle.tactics.proofs.MemoryLaws.{same_word}
use Rattle.arities.specs.Layout.{frames_end, space_end}
use Rattle.arities.specs.Arities.{arity_code, arities}
use Rattle.arity_notes.specs.Notes.{NotedLeft}
use Rattle.arity_notes.specs.Waits.{Both, Wait, for_left, for_right, for_body, for_root}
use Rattle.arity_notes.specs.Asked.{Known, Turn, asks, tells}
use Rattle.arity_notes.specs.Noting.{AskedNoted, StackAhead, TurnAhead, turn_low, turn_end, Beyond, Noting}
use Rattle.arity_notes.proofs.CellLaws.{known_same}

-- from an earlier place on
pub beyond_from : (k : List Wait) (p q limit : ℕ) → p ≤ q → Beyond q limit k → Beyond p limit k
unfolding Beyond
beyond_from [] p q limit l b = omega (arith, l, b)
beyond_from (for_left b at t u ∷ k) p q limit l h = (omega (arith, l, h.0), h.1)
beyond_from (for_right b o ∷ k) p q limit l h = beyond_from k p q limit l h
beyond_from (for_body d ∷ k) p q limit l h = h
beyond_from (for_root ∷ k) p q limit l h = beyond_from k p q limit l h

-- the place is not behind the end of all
pub beyond_limit : (k : List Wait) (p limit : ℕ) → Beyond p limit k → p ≤ limit
unfolding Beyond
beyond_limit [] p limit h = h
beyond_limit (for_left b at t u ∷ k) p limit h = omega (arith, h.0, beyond_limit k _ limit h.1)
beyond_limit (for_right b o ∷ k) p limit h = beyond_limit k p limit h
beyond_limit (for_body d ∷ k) p limit h = absurd h
beyond_limit (for_root ∷ k) p limit h = beyond_limit k p limit h

module _ (T : Table) (base from : ℕ) (root : Term) (w₀ : List ℕ) (low : space_end ≤ base) where
  -- a turn that makes no note, and writes only before the notes and the numbers
  module _ (w v : List ℕ) (same : (i : ℕ) → frames_end ≤ i → get_or v i 0 ≡ get_or w i 0) (c e : Turn) (k j : List Wait) (n : Noting T base from root w₀ w c k) where
    pub quiet : Beyond (turn_end e) (from + size root) j → turn_low c ≤ turn_low e
        → ((x : List ℕ) → TurnAhead x base (arities T) e → StackAhead x base (arities T) j → TurnAhead x base (arities T) c × StackAhead x base (arities T) k)
        → Noting T base from root w₀ v e j
    quiet b l f = record {
      known = known_same w v (λ i x y. same i x) T n.known;
      beyond = b;
      low = omega (arith, n.low, l);
      small = n.small;
      pending = λ x h t s.
          let y = f x t s in
          n.pending x (λ i p q. h i p (omega (arith, q, slot_rises (turn_low c) (turn_low e) l)) ∙ same i (omega (arith, p, low))) y.0 y.1;
      kept = λ i p q. same i p ∙ n.kept i p q;
    }

  -- the left term of a tensor or an alternation told its arity, which is noted
  module _ (w v : List ℕ) (end r at : ℕ) (a : Known → Option ℕ) (b : Both) (t u : Term) (k : List Wait) (o : Option ℕ) (n : Noting T base from root w₀ w (tells end a) (for_left b at t u ∷ k)) (r-is : r ≡ at + 3 + size t) where
    pub note_room : 3 ≤ size u → (r + 3 ≤ from + size root) × (end ≤ r) × (from + 3 ≤ r)
    unfolding Beyond turn_end turn_low
    note_room z =
        let x = n.beyond in
        let y = beyond_limit k _ _ x.1 in
        (omega (arith, y, z, r-is), omega (arith, x.0, r-is), omega (arith, n.low, x.0, r-is))

    pub noting : 3 ≤ size u → ((i : ℕ) → frames_end ≤ i → (i < base + slot r) ⊎ (base + slot r + 2 ≤ i) → get_or v i 0 ≡ get_or w i 0) → word v (base + slot r) ≡ arity_code (arity_in (arities T) t)
        → Noting T base from root w₀ v (asks r u) (for_right b o ∷ k)
    unfolding Beyond turn_end turn_low StackAhead TurnAhead
    noting z same note =
        let room = note_room z in
        record {
          known = known_same w v (λ i x y. same i x (inl (omega (arith, y, low)))) T n.known;
          beyond = subst (λ (p : ℕ). Beyond (p + size u) (from + size root) k) (sym r-is) n.beyond.1;
          low = omega (arith, room.2);
          small = n.small;
          pending = λ x h p s.
              let apart = slot_apart r (r + 3) (omega arith) in
              let below = slot_rises end r room.1 in
              let here : word x (base + slot r) ≡ word v (base + slot r) = same_word v x base (base + slot (r + 3)) (base + slot r) (λ i l m. h i l m) (omega arith) (omega (arith, apart)) in
              n.pending x (λ i l m. h i l (omega (arith, m, below, apart)) ∙ same i (omega (arith, l, low)) (inl (omega (arith, m, below)))) tt
              (subst (λ (y : ℕ). NotedLeft x base (arities T) y t) r-is (here ∙ note), subst (λ (y : ℕ). AskedNoted x base (arities T) y u) r-is p, s);
          kept = λ i l q. same i l (outside room i q) ∙ n.kept i l q;
        }
      where
        outside : (r + 3 ≤ from + size root) × (end ≤ r) × (from + 3 ≤ r) → (i : ℕ) → (i < base + slot (from + 3)) ⊎ (base + slot (from + size root) ≤ i) → (i < base + slot r) ⊎ (base + slot r + 2 ≤ i)
        outside room i (inl p) = inl (omega (arith, p, slot_rises (from + 3) r room.2))
        outside room i (inr p) = inr (omega (arith, p, slot_apart r (from + size root) room.0))
