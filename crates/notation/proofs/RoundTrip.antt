-- What is written is short enough to be read, and is read back.
-- Assumes nothing.
use mathlib.Core.Path.{◌≡◌, refl}
use mathlib.Core.Bool.{Bool, true, false, cond}
use mathlib.Core.List.{List, [], ◌∷◌, ◌++◌}
use Prim.Native.Nat.{ℕ, zero, suc, ◌+◌, ◌*◌, ◌≤◌, ◌<◌, ◌/◌, ◌%◌}
use native.Mathlib.Omega.{arith}
use lib.Dec.{ltb}
use lib.ListN.{length, length-append}
use borrow.Author.Tests.{ltb-true, lt-ltb}
use Rattle.format.specs.Limits.{most_term_fields}
use Rattle.format.specs.Results.{gives}
use Rattle.format.specs.Terms.{Term, atomic, id, label, sequence, tensor, empty, alternation, assert, defined, fields}
use Rattle.format.specs.Encoding.{TermValues}
use Rattle.notation.specs.Marks.{Sign, semicolon, bar, star, Leaf, rule_leaf, id_leaf, empty_leaf, goal_leaf, tactic_leaf, Mark, leaf, label_mark, sign, opening, closing}
use Rattle.notation.specs.Written.{rank, chain, bracketed_if, marks_of, digits, decimal, mark_bytes, text_of, written}
use Rattle.notation.specs.Parse.{parse}
use Rattle.notation.proofs.WrittenText.{written-reads}
use Rattle.notation.proofs.ParseLaws.{reads_text_lem}

digits_few : (m n : ℕ) → length (digits m n) ≤ m
unfolding digits
digits_few zero n = omega arith
digits_few (suc m) n = go (ltb n 10) (digits_few m (n / 10))
  where
    go : (c : Bool) → length (digits m (n / 10)) ≤ m → length (cond c ((48 + n) ∷ []) (digits m (n / 10) ++ ((48 + n % 10) ∷ []))) ≤ suc m
    go true h = omega arith
    go false h = omega (arith, length-append (digits m (n / 10)) ((48 + n % 10) ∷ []))

pub decimal_few : (n : ℕ) → length (decimal n) ≤ 5
unfolding decimal
decimal_few n = digits_few 5 n

pub text_append : (ms ns : List Mark) → length (text_of (ms ++ ns)) ≡ length (text_of ms) + length (text_of ns)
unfolding text_of
text_append [] ns = omega arith
text_append (m ∷ ms) ns = omega (arith, length-append (mark_bytes m) (text_of (ms ++ ns)), length-append (mark_bytes m) (text_of ms), text_append ms ns)

one_mark : (m : Mark) (ms : List Mark) → length (text_of (m ∷ ms)) ≡ length (mark_bytes m) + length (text_of ms)
unfolding text_of
one_mark m ms = length-append (mark_bytes m) (text_of ms)

leaf_few : (w : Leaf) → length (mark_bytes (leaf w)) ≤ 6
unfolding mark_bytes
leaf_few (rule_leaf n) = omega (arith, decimal_few n)
leaf_few id_leaf = omega arith
leaf_few empty_leaf = omega arith
leaf_few (goal_leaf n) = omega (arith, decimal_few n)
leaf_few (tactic_leaf n) = omega (arith, decimal_few n)

-- two bytes more, for brackets, where a sign may be looser than `binds` or follow
unfoldable extra : (binds : ℕ) → (followed : Bool) → ℕ
extra b true = 2
extra b false = cond (ltb 0 b) 2 0

extra_most : (b : ℕ) (f : Bool) → extra b f ≤ 2
unfolding extra
extra_most b true = omega arith
extra_most b false = go (ltb 0 b)
  where
    go : (c : Bool) → cond c 2 0 ≤ 2
    go true = omega arith
    go false = omega arith

extra_loose : (b : ℕ) (f : Bool) → 0 < b → extra b f ≡ 2
unfolding extra
extra_loose b true h = refl
extra_loose b false h = rw (lt-ltb 0 b h) refl

extra_none : extra 0 false ≡ 0
unfolding extra
extra_none = refl

one_leaf_few : (w : Leaf) → length (text_of (leaf w ∷ [])) ≤ 6
unfolding text_of
one_leaf_few w = omega (arith, leaf_few w, one_mark (leaf w) [])

bracketed_length : (ms : List Mark) → length (text_of (opening ∷ (ms ++ (closing ∷ [])))) ≡ 2 + length (text_of ms)
unfolding text_of mark_bytes
bracketed_length ms = omega (arith, text_append ms (closing ∷ []))

bracketed_few : (b : ℕ) (f : Bool) (n : ℕ) (ms : List Mark) → length (text_of (bracketed_if f (label_mark n ∷ ms))) ≤ 7 + length (text_of ms) + extra b f
unfolding bracketed_if mark_bytes extra
bracketed_few b true n ms = omega (arith, bracketed_length (label_mark n ∷ ms), one_mark (label_mark n) ms, decimal_few n, length-append (decimal n) (93 ∷ []))
bracketed_few b false n ms = omega (arith, one_mark (label_mark n) ms, decimal_few n, length-append (decimal n) (93 ∷ []))

chain_few : (s : Sign) (b : ℕ) (f : Bool) (L : List Mark) (R : Bool → List Mark) (l r : ℕ) → length (text_of L) ≤ l → ((g : Bool) → length (text_of (R g)) ≤ r) → length (text_of (chain s b f L R)) ≤ 3 + l + r + extra b f
unfolding chain mark_bytes
chain_few s b f L R l r h k = go (ltb (rank s) b) refl
  where
    go : (c : Bool) → ltb (rank s) b ≡ c → length (text_of (cond c (opening ∷ ((L ++ (sign s ∷ R false)) ++ (closing ∷ []))) (L ++ (sign s ∷ R f)))) ≤ 3 + l + r + extra b f
    go true e =
        let x = extra_loose b f (omega (arith, ltb-true (rank s) b e)) in
        omega (arith, bracketed_length (L ++ (sign s ∷ R false)), text_append L (sign s ∷ R false), one_mark (sign s) (R false), k false)
    go false e = omega (arith, text_append L (sign s ∷ R f), one_mark (sign s) (R f), k f)

-- of one part of a chain, by the law for the whole
part_few : (n k : ℕ) (b : ℕ) (f : Bool) → n + 1 ≤ 7 * k + extra b f → n ≤ 7 * k + 1
part_few n k b f h = omega (arith, extra_most b f)

-- seven bytes for each field, less one: a label has seven, a sign three and at most two pairs of brackets, a leaf six, and there is one leaf more than signs
marks_few : (t : Term) (b : ℕ) (f : Bool) → length (text_of (marks_of t b f)) + 1 ≤ 7 * fields t + extra b f
unfolding marks_of fields
marks_few (atomic a) b f = omega (arith, one_leaf_few (rule_leaf a.0))
marks_few id b f = omega (arith, one_leaf_few id_leaf)
marks_few (label l t) b f = omega (arith, bracketed_few b f l.0 (marks_of t 0 false), marks_few t 0 false, extra_none)
marks_few (sequence t u) b f = omega (arith, chain_few semicolon b f (marks_of t 1 true) (marks_of u 0) (7 * fields t + 1) (7 * fields u + 1) (part_few _ _ 1 true (marks_few t 1 true)) (λ g. part_few _ _ 0 g (marks_few u 0 g)))
marks_few (tensor t u) b f = omega (arith, chain_few star b f (marks_of t 3 true) (marks_of u 2) (7 * fields t + 1) (7 * fields u + 1) (part_few _ _ 3 true (marks_few t 3 true)) (λ g. part_few _ _ 2 g (marks_few u 2 g)))
marks_few empty b f = omega (arith, one_leaf_few empty_leaf)
marks_few (alternation t u) b f = omega (arith, chain_few bar b f (marks_of t 2 true) (marks_of u 1) (7 * fields t + 1) (7 * fields u + 1) (part_few _ _ 2 true (marks_few t 2 true)) (λ g. part_few _ _ 1 g (marks_few u 1 g)))
marks_few (assert γ) b f = omega (arith, one_leaf_few (goal_leaf γ.0))
marks_few (defined n) b f = omega (arith, one_leaf_few (tactic_leaf n.0))

-- so the text of a term within the limits has at most 28,671 bytes
pub written-length : (t : Term) → length (written t) + 1 ≤ 7 * fields t
unfolding written
written-length t = omega (arith, marks_few t 0 false, extra_none)

-- what is written from a term is read back as that term
pub round_trip : (t : Term) → TermValues t → fields t ≤ most_term_fields → parse (written t) ≡ gives t
round_trip t v h = reads_text_lem (written t) t (omega (arith, written-length t)) (written-reads t v) v h
