-- The two bytes of each tactic number: what they tell, and what a write leaves of them.
-- Assumes nothing.
use Prim.Native.Nat.{ℕ, zero, suc, ◌+◌, ◌*◌, ◌-◌, ◌≤◌, ◌<◌}
use mathlib.Core.Path.{◌≡◌, refl, sym, ap, subst, ◌∙◌}
use mathlib.Core.Bool.{Bool, true, false, cond}
use mathlib.Core.List.{List, [], ◌∷◌}
use mathlib.Core.Option.{Option, none, some, none-ne-some}
use mathlib.Core.Logic.{◌⊎◌, inl, inr}
use native.Mathlib.Omega.{arith}
use native.Mathlib.Decide.{ℕ_discrete, dec_lt}
use lib.Dec.{ltb}
use lib.ListN.{length}
use borrow.Author.Tests.{ltb-true, lt-ltb, eqb-true}
use Rattle.words.specs.Word.{put_word}
use Rattle.words.proofs.WordLaws.{word_same, word_other}
use Rattle.format.specs.declared.values.TacticNo.{TacticNo}
use Rattle.format.specs.Values.{tactic_no}
use Rattle.format.specs.Terms.{Term, size}
use Rattle.tables.specs.Tables.{Definition, Table}
use Rattle.tables.specs.Lookup.{same_tactic, find_body_in}
use Rattle.tactics.specs.Memory.{Same}
use Rattle.tactics.proofs.MemoryLaws.{same_word}
use Rattle.arities.specs.Layout.{frames_end, space_end}
use Rattle.arity_notes.specs.Regions.{regions_end}
use Rattle.arities.specs.Arities.{arity_code, arities}
use Rattle.arity_notes.specs.Waits.{Wait, for_body, Walked}
use Rattle.arity_notes.specs.Asked.{Asked}
use Rattle.arity_notes.specs.Cells.{cell, Cell, unknown, walked, found, Cells, AllKnown, if_unknown, unwalked}
use Rattle.arity_notes.proofs.CycleLaws.{cycle_none}

-- a write apart from them leaves them
module _ (w v : List ℕ) (same : Same frames_end space_end w v) where
  pub cell_same : (d : ℕ) → d < 65536 → cell v d ≡ cell w d
  cell_same d h = same_word w v frames_end space_end (frames_end + d * 2) same (omega arith) (omega (arith, h))

  pub cells_same : (T : Table) (k : List Wait) → Cells T w k → Cells T v k
  cells_same T k c d h = go (c d h)
    where
      go : Cell T w k d → Cell T v k d
      go (unknown e) = unknown (cell_same d h ∙ e)
      go (walked e p) = walked (cell_same d h ∙ e) p
      go (found e) = found (cell_same d h ∙ e)

  pub unwalked_same : (ds : List Definition) → unwalked v ds ≡ unwalked w ds
  unfolding unwalked
  unwalked_same [] = refl
  unwalked_same (x ∷ xs) = go (ltb x.tactic.0 65536) refl (unwalked_same xs)
    where
      go : (t : Bool) → ltb x.tactic.0 65536 ≡ t → unwalked v xs ≡ unwalked w xs
          → cond t (if_unknown (cell v x.tactic.0) (size x.body)) 0 + unwalked v xs ≡ cond t (if_unknown (cell w x.tactic.0) (size x.body)) 0 + unwalked w xs
      go true q ih = ap (λ (c : ℕ). if_unknown c (size x.body) + unwalked v xs) (cell_same x.tactic.0 (ltb-true x.tactic.0 65536 q)) ∙ ap (λ (y : ℕ). if_unknown (cell w x.tactic.0) (size x.body) + y) ih
      go false q ih = ap (λ (y : ℕ). 0 + y) ih

  pub known_same : (T : Table) → AllKnown T w → AllKnown T v
  known_same T a d h e = a d h (sym (cell_same d h) ∙ e)

-- other terms that wait, with the same bodies
pub cells_stack : (T : Table) (w : List ℕ) (k j : List Wait) → ((d : ℕ) → Walked d k → Walked d j) → Cells T w k → Cells T w j
cells_stack T w k j f c d h = go (c d h)
  where
    go : Cell T w k d → Cell T w j d
    go (unknown e) = unknown e
    go (walked e p) = walked e (f d p)
    go (found e) = found e

-- a tactic that is known tells its arity
pub cell_tells : (T : Table) (w : List ℕ) (k : List Wait) (d : TacticNo) → d.0 < 65536 → Cells T w k → Asked T (λ f. f d) k → (n : ℕ) → n ≡ cell w d.0 → (n ≡ 0 → ⊥) → n - 1 ≡ arity_code (arities T d)
cell_tells T w k d h c a n e z = go (c d.0 h)
  where
    go : Cell T w k d.0 → n - 1 ≡ arity_code (arities T d)
    go (unknown p) = absurd (z (e ∙ p))
    go (walked p q) =
        let x : arities T d ≡ none = cycle_none T k d a q in
        let y : n - 1 ≡ 0 = omega (arith, e, p) in
        y ∙ ap arity_code (sym x)
    go (found p) = omega (arith, e, p)

abbrev body_size : Option Term → ℕ
body_size none = 0
body_size (some t) = size t

-- the body of a tactic of which nothing is known begins
module _ (w : List ℕ) (d : ℕ) (h : d < 65536) (space : regions_end ≤ length w) where
  pub put-here : (n : ℕ) → cell (put_word w (frames_end + d * 2) n) d ≡ n
  put-here n = word_same w (frames_end + d * 2) n (omega (arith, h, space))

  pub put_other : (n e : ℕ) → (e ≡ d → ⊥) → cell (put_word w (frames_end + d * 2) n) e ≡ cell w e
  put_other n e x = word_other w (frames_end + d * 2) n (frames_end + e * 2) apart
    where
      apart : (frames_end + e * 2 + 1 < frames_end + d * 2) ⊎ (frames_end + d * 2 + 1 < frames_end + e * 2)
      apart = go (dec_lt e d)
        where
          go : Dec (e < d) → (frames_end + e * 2 + 1 < frames_end + d * 2) ⊎ (frames_end + d * 2 + 1 < frames_end + e * 2)
          go (yes p) = inl (omega (arith, p))
          go (no p) = let q : d < e = differs p in inr (omega (arith, q))
            where
              differs : (e < d → ⊥) → d < e
              differs p = case (dec_lt d e)
                where
                  case : Dec (d < e) → d < e
                  case (yes q) = q
                  case (no q) = absurd (x (omega (arith, p, q)))

  pub cells_begun : (T : Table) (k : List Wait) → Cells T w k → Cells T (put_word w (frames_end + d * 2) 1) (for_body (tactic_no d) ∷ k)
  unfolding Walked
  cells_begun T k c e l = go (ℕ_discrete e d)
    where
      v : List ℕ
      v = put_word w (frames_end + d * 2) 1

      other : (e ≡ d → ⊥) → Cell T w k e → Cell T v (for_body (tactic_no d) ∷ k) e
      other x (unknown p) = unknown (put_other 1 e x ∙ p)
      other x (walked p q) = walked (put_other 1 e x ∙ p) (inr q)
      other x (found p) = found (put_other 1 e x ∙ p)

      go : Dec (e ≡ d) → Cell T v (for_body (tactic_no d) ∷ k) e
      go (yes p) = walked (ap (cell v) p ∙ put-here 1) (inl p)
      go (no x) = other x (c e l)

  pub cells_learnt : (T : Table) (k : List Wait) (n : ℕ) → n ≡ suc (arity_code (arities T (tactic_no d))) → Cells T w (for_body (tactic_no d) ∷ k) → Cells T (put_word w (frames_end + d * 2) n) k
  unfolding Walked
  cells_learnt T k n q c e l = go (ℕ_discrete e d)
    where
      v : List ℕ
      v = put_word w (frames_end + d * 2) n

      still : (e ≡ d → ⊥) → cell v e ≡ 1 → Walked e (for_body (tactic_no d) ∷ k) → Cell T v k e
      still x p (inl y) = absurd (x y)
      still x p (inr y) = walked p y

      other : (e ≡ d → ⊥) → Cell T w (for_body (tactic_no d) ∷ k) e → Cell T v k e
      other x (unknown p) = unknown (put_other n e x ∙ p)
      other x (walked p y) = still x (put_other n e x ∙ p) y
      other x (found p) = found (put_other n e x ∙ p)

      go : Dec (e ≡ d) → Cell T v k e
      go (yes p) = found (ap (cell v) p ∙ put-here n ∙ q ∙ ap (λ (i : ℕ). suc (arity_code (arities T (tactic_no i)))) (sym p))
      go (no x) = other x (c e l)

  -- what is known stays known
  pub put_grows : (n : ℕ) → (n ≡ 0 → ⊥) → (e : ℕ) → cell (put_word w (frames_end + d * 2) n) e ≡ 0 → cell w e ≡ 0
  put_grows n z e p = go (ℕ_discrete e d)
    where
      go : Dec (e ≡ d) → cell w e ≡ 0
      go (yes q) = absurd (z (sym (put-here n) ∙ ap (cell (put_word w (frames_end + d * 2) n)) (sym q) ∙ p))
      go (no x) = sym (put_other n e x) ∙ p

  -- there is no more to walk than before
  put_one : (n : ℕ) → (n ≡ 0 → ⊥) → (e s : ℕ) → if_unknown (cell (put_word w (frames_end + d * 2) n) e) s ≤ if_unknown (cell w e) s
  unfolding if_unknown
  put_one n z e s = go (cell (put_word w (frames_end + d * 2) n) e) refl
    where
      go : (c : ℕ) → cell (put_word w (frames_end + d * 2) n) e ≡ c → if_unknown c s ≤ if_unknown (cell w e) s
      go zero p = let q : cell w e ≡ 0 = put_grows n z e p in subst (λ (c : ℕ). s ≤ if_unknown c s) (sym q) (omega arith)
      go (suc c) p = omega arith

  if_le : (t : Bool) (a b : ℕ) → a ≤ b → cond t a 0 ≤ cond t b 0
  if_le true a b l = l
  if_le false a b l = omega arith

  pub put-unwalked : (n : ℕ) → (n ≡ 0 → ⊥) → (ds : List Definition) → unwalked (put_word w (frames_end + d * 2) n) ds ≤ unwalked w ds
  unfolding unwalked
  put-unwalked n z [] = omega arith
  put-unwalked n z (x ∷ xs) = omega (arith, if_le (ltb x.tactic.0 65536) _ _ (put_one n z x.tactic.0 (size x.body)), put-unwalked n z xs)

  -- a body that begins is walked
  none_left : (n : ℕ) → (n ≡ 0 → ⊥) → (b : Bool) (e s : ℕ) → e ≡ d → cond b (if_unknown (cell (put_word w (frames_end + d * 2) n) e) s) 0 ≤ 0
  unfolding if_unknown
  none_left n z false e s p = omega arith
  none_left n z true e s p = go n z (ap (cell (put_word w (frames_end + d * 2) n)) p ∙ put-here n)
    where
      go : (m : ℕ) → (m ≡ 0 → ⊥) → cell (put_word w (frames_end + d * 2) n) e ≡ m → if_unknown (cell (put_word w (frames_end + d * 2) n) e) s ≤ 0
      go zero y q = absurd (y refl)
      go (suc m) y q = subst (λ (c : ℕ). if_unknown c s ≤ 0) (sym q) (omega arith)

  all_here : cell w d ≡ 0 → (e s : ℕ) → e ≡ d → cond (ltb e 65536) (if_unknown (cell w e) s) 0 ≡ s
  unfolding if_unknown
  all_here c e s p =
      ap (λ (b : Bool). cond b (if_unknown (cell w e) s) 0) (lt-ltb e 65536 (omega (arith, p, h)))
      ∙ ap (λ (x : ℕ). if_unknown x s) (ap (cell w) p ∙ c)

  pub begun-unwalked : cell w d ≡ 0 → (n : ℕ) → (n ≡ 0 → ⊥) → (ds : List Definition) (t : Term) → find_body_in ds (tactic_no d) ≡ some t → unwalked (put_word w (frames_end + d * 2) n) ds + size t ≤ unwalked w ds
  unfolding unwalked find_body_in
  begun-unwalked e n z [] t b = absurd (none-ne-some t b)
  begun-unwalked e n z (x ∷ xs) t b = go (same_tactic (tactic_no d) x.tactic) refl b (λ b'. begun-unwalked e n z xs t b')
    where
      v : List ℕ
      v = put_word w (frames_end + d * 2) n

      go : (y : Bool) → same_tactic (tactic_no d) x.tactic ≡ y → cond y (some x.body) (find_body_in xs (tactic_no d)) ≡ some t → (find_body_in xs (tactic_no d) ≡ some t → unwalked v xs + size t ≤ unwalked w xs)
          → cond (ltb x.tactic.0 65536) (if_unknown (cell v x.tactic.0) (size x.body)) 0 + unwalked v xs + size t ≤ cond (ltb x.tactic.0 65536) (if_unknown (cell w x.tactic.0) (size x.body)) 0 + unwalked w xs
      go true q f ih =
          let p : x.tactic.0 ≡ d = sym (eqb-true d x.tactic.0 q) in
          let s : size x.body ≡ size t = ap body_size f in
          omega (arith, s, none_left n z (ltb x.tactic.0 65536) x.tactic.0 (size x.body) p, all_here e x.tactic.0 (size x.body) p, put-unwalked n z xs)
      go false q f ih = omega (arith, ih f, if_le (ltb x.tactic.0 65536) _ _ (put_one n z x.tactic.0 (size x.body)))
