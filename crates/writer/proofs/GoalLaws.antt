-- Goals written value by value, and a field whose contents were written first. By induction over what was written, and by the first three bytes.
-- Assumes nothing.
use Prim.Native.Nat.{ℕ, suc, ◌+◌, ◌*◌, ◌-◌, ◌/◌, ◌%◌, ◌≤◌}
use mathlib.Core.Path.{◌≡◌, refl, sym, ap, ◌∙◌}
use mathlib.Core.List.{List, [], ◌∷◌, ◌++◌}
use native.Mathlib.Numerals.{add-one, add-two}
use native.Mathlib.Omega.{arith}
use lib.ListN.{length, set, take, drop}
use lib.Seq.{paste, take_at, drop-drop}
use borrow.Rule.Slice.PartMut.{put_mid}
use Rattle.words.specs.Word.{put_word}
use Rattle.format.specs.declared.values.Goal.{Goal}
use Rattle.format.specs.Goals.{goals_at}
use Rattle.format.specs.Encoding.{Bytes, word_bytes, field_bytes, goal_bytes, goal_list_bytes}
use Rattle.format.proofs.GoalBytes.{length-goal_bytes, goals_bytes}
use Rattle.format.proofs.GoalsLaws.{length-goals_at}
use Rattle.writer.specs.Fields.{header}
use Rattle.writer.proofs.Lent.{placed, put-placed}

-- two bytes stored behind what was written
stored : (z o : List ℕ) (a b : ℕ) → length z + 2 ≤ length o → set (set (z ++ drop (length z) o) (length z) a) (suc (length z)) b ≡ (z ++ (a ∷ b ∷ [])) ++ drop (suc (suc (length z))) o
stored [] [] a b h = absurd (omega arith)
stored [] (x ∷ []) a b h = absurd (omega arith)
stored [] (x ∷ y ∷ o) a b h = refl
stored (x ∷ z) [] a b h = absurd (omega arith)
stored (x ∷ z) (y ∷ o) a b h = ap {B = List ℕ} (λ l. x ∷ l) (stored z o a b (omega arith))

put_next : (z o : List ℕ) (v : ℕ) → length z + 2 ≤ length o → put_word (z ++ drop (length z) o) (length z) v ≡ (z ++ word_bytes v) ++ drop (length z + 2) o
unfolding put_word
put_next z o v h = rw (add-one (length z), add-two (length z)) (stored z o (v / 256) (v % 256) h)

goal_bytes-append : (g h : List Goal) → goal_bytes (g ++ h) ≡ goal_bytes g ++ goal_bytes h
unfolding goal_bytes
goal_bytes-append [] h = refl
goal_bytes-append (γ ∷ g) h = ap {B = List ℕ} (λ l. word_bytes γ.0 ++ l) (goal_bytes-append g h)

one_goal_lem : (γ : Goal) → goal_bytes (γ ∷ []) ≡ word_bytes γ.0
unfolding goal_bytes
one_goal_lem γ = refl

-- one goal more
pub goals_next : (g : List Goal) (γ : Goal) (o out : List ℕ) (len : ℕ) → len ≡ length g * 2 → len + 2 ≤ length o → out ≡ goal_bytes g ++ drop len o
    → put_word out len γ.0 ≡ goal_bytes (g ++ (γ ∷ [])) ++ drop (len + 2) o
goals_next g γ o out len e h b =
    let l : len ≡ length (goal_bytes g) = e ∙ sym (length-goal_bytes g) in
    let h' : length (goal_bytes g) + 2 ≤ length o = omega arith in
    rw (b, goal_bytes-append g (γ ∷ []), one_goal_lem γ, l) (put_next (goal_bytes g) o γ.0 h')

-- behind a header and more
past_header : (m a b c : ℕ) (o : List ℕ) → drop (3 + m) (a ∷ b ∷ c ∷ drop 3 o) ≡ drop (3 + m) o
past_header m a b c o = let e : 3 + m ≡ suc (suc (suc m)) = omega arith in ap (λ (j : ℕ). drop j (a ∷ b ∷ c ∷ drop 3 o)) e ∙ drop-drop m 3 o

-- a list of goals that stand in a file, copied as they are behind the list's header
pub list_copied : (o o₁ o₂ s : List ℕ) (from k : ℕ) → Bytes s → from + k * 2 ≤ length s → 3 + k * 2 ≤ length o → o₁ ≡ header 3 (k * 2) ++ drop 3 o → o₂ ≡ paste o₁ 3 (drop from s) (k * 2)
    → o₂ ≡ goal_list_bytes (goals_at s from k) ++ drop (3 + k * 2) o
list_copied o o₁ o₂ s from k bytes inside room p q =
    let z = goal_bytes (goals_at s from k) in
    let n : length z ≡ k * 2 = length-goal_bytes (goals_at s from k) ∙ ap (λ (j : ℕ). j * 2) (length-goals_at k s from) in
    let stands : take (k * 2) (drop from s) ≡ z = ap (take (k * 2)) (goals_bytes s bytes k from inside) ∙ take_at z (drop (from + k * 2) s) (k * 2) n in
    q ∙ rw (p, stands, ← n) (ap {B = List ℕ} (λ (l : List ℕ). header 3 (length z) ++ (z ++ l)) (past_header (length z) 3 (length z / 256) (length z % 256) o))

-- a field: its contents behind three bytes, then its header

pub field_bytes_lem : (tag n : ℕ) (z o o1 o2 l : List ℕ) → n ≡ length z → 3 + n ≤ length o → l ≡ z ++ drop n (take (length o - 3) (drop 3 o)) → o1 ≡ put_mid 3 (length o - 3) o l
    → o2 ≡ header tag n ++ drop 3 o1 → o2 ≡ field_bytes tag z ++ drop (3 + n) o
field_bytes_lem tag n z o o1 o2 l e h b p q =
    let a : o1 ≡ placed 3 o z = p ∙ put-placed 3 n o l z e b in
    q ∙ rw (a, e) (go o (omega arith))
  where
    go : (o : List ℕ) → 3 + length z ≤ length o → header tag (length z) ++ drop 3 (placed 3 o z) ≡ field_bytes tag z ++ drop (3 + length z) o
    go [] h = absurd (omega arith)
    go (a ∷ []) h = absurd (omega arith)
    go (a ∷ b ∷ []) h = absurd (omega arith)
    go (a ∷ b ∷ c ∷ r) h =
        let e : 3 + length z ≡ suc (suc (suc (length z))) = omega arith in
        rw e refl
