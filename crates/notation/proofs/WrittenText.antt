-- The text written for a term reads as the term, and no pair of its brackets can be left out.
-- Assumes nothing.
use mathlib.Core.Path.{◌≡◌, refl, sym, ap, ◌∙◌, subst}
use mathlib.Core.Bool.{Bool, true, false, cond}
use mathlib.Core.List.{List, [], ◌∷◌, ◌++◌}
use Prim.Native.Nat.{ℕ, zero, suc, ◌+◌, ◌*◌, ◌-◌, ◌<◌, ◌/◌, ◌%◌}
use native.Mathlib.Omega.{arith}
use lib.Dec.{ltb, eqb}
use lib.ListN.{length}
use borrow.Author.Tests.{ltb-true, ne_eqb}
use Rattle.format.specs.Terms.{Term, atomic, id, label, sequence, tensor, empty, alternation, assert, defined}
use Rattle.format.specs.Encoding.{TermValues}
use Rattle.notation.specs.Letters.{IsDigit, left_round, right_round}
use Rattle.notation.specs.Marks.{Sign, semicolon, bar, star, rule_leaf, id_leaf, empty_leaf, goal_leaf, tactic_leaf, Mark, leaf, label_mark, sign, opening, closing, Digits, no_more, more, Number, number, Spells, rule, identity, nothing, assertion, tactic, labelling, between, opens, closes, Spelled, ends, blanked, marked}
use Rattle.notation.specs.Grammar.{ReadsAs}
use Rattle.notation.specs.Passing.{MarkValue, MarkValues}
use Rattle.notation.specs.Written.{rank, chain, bracketed_if, marks_of, digits, decimal, mark_bytes, text_of, written}
use Rattle.notation.proofs.WrittenLaws.{marks_read, fewest}

abbrev pub tens : ℕ → ℕ
tens zero = 1
tens (suc m) = 10 * tens m

digits_then : {v n b : ℕ} {ds : List ℕ} → IsDigit b → Digits v ds n → Digits v (ds ++ (b ∷ [])) (n * 10 + (b - 48))
digits_then d no_more = more d no_more
digits_then d (more c p) = more c (digits_then d p)

pub number_then : {n b : ℕ} {ds : List ℕ} → IsDigit b → Number ds n → Number (ds ++ (b ∷ [])) (n * 10 + (b - 48))
number_then d (number c p) = number c (digits_then d p)

one_digit : (n : ℕ) → n < 10 → Number ((48 + n) ∷ []) n
one_digit n h = number {b = 48 + n} (omega arith) (subst (λ (v : ℕ). Digits (48 + n - 48) [] v) (back n) no_more)
  where
    back : (n : ℕ) → 48 + n - 48 ≡ n
    back n = omega arith

-- the digits written for a number are a number of that value
pub digits_number : (m n : ℕ) → n < tens (suc m) → Number (digits (suc m) n) n
unfolding digits
digits_number zero n h = subst (λ (c : Bool). Number (cond c ((48 + n) ∷ []) ((48 + n % 10) ∷ [])) n) (sym (small n h)) (one_digit n (omega arith))
  where
    small : (n : ℕ) → n < 10 → ltb n 10 ≡ true
    small n h = borrow.Author.Tests.lt-ltb n 10 h
digits_number (suc m) n h = go (ltb n 10) refl (digits_number m (n / 10) (omega arith))
  where
    back : (n : ℕ) → n / 10 * 10 + (48 + n % 10 - 48) ≡ n
    back n = omega arith

    go : (c : Bool) → ltb n 10 ≡ c → Number (digits (suc m) (n / 10)) (n / 10) → Number (cond c ((48 + n) ∷ []) (digits (suc m) (n / 10) ++ ((48 + n % 10) ∷ []))) n
    go true e p = one_digit n (ltb-true n 10 e)
    go false e p = subst (λ (v : ℕ). Number (digits (suc m) (n / 10) ++ ((48 + n % 10) ∷ [])) v) (back n) (number_then {b = 48 + n % 10} (omega arith) p)

pub decimal-number : (n : ℕ) → n < 65536 → Number (decimal n) n
unfolding decimal
decimal-number n h = digits_number 4 n (omega arith)

pub values_join : (ms ns : List Mark) → MarkValues ms → MarkValues ns → MarkValues (ms ++ ns)
values_join [] ns p q = q
values_join (m ∷ ms) ns p q = (p.0, values_join ms ns p.1 q)

chain_values : (s : Sign) (b : ℕ) (f : Bool) (L : List Mark) (R : Bool → List Mark) → MarkValues L → ((g : Bool) → MarkValues (R g)) → MarkValues (chain s b f L R)
unfolding chain MarkValue
chain_values s b f L R p q = go (ltb (rank s) b)
  where
    go : (c : Bool) → MarkValues (cond c (opening ∷ ((L ++ (sign s ∷ R false)) ++ (closing ∷ []))) (L ++ (sign s ∷ R f)))
    go true = (tt, values_join (L ++ (sign s ∷ R false)) (closing ∷ []) (values_join L (sign s ∷ R false) p (tt, q false)) (tt, tt))
    go false = values_join L (sign s ∷ R f) p (tt, q f)

bracketed_values : (f : Bool) (ms : List Mark) → MarkValues ms → MarkValues (bracketed_if f ms)
unfolding bracketed_if MarkValue
bracketed_values true ms p = (tt, values_join ms (closing ∷ []) p (tt, tt))
bracketed_values false ms p = p

pub marks_values : (t : Term) (b : ℕ) (f : Bool) → TermValues t → MarkValues (marks_of t b f)
unfolding marks_of TermValues MarkValue
marks_values (atomic a) b f v = (v, tt)
marks_values id b f v = (tt, tt)
marks_values (label l t) b f v = bracketed_values f (label_mark l.0 ∷ marks_of t 0 false) (v.0, marks_values t 0 false v.1)
marks_values (sequence t u) b f v = chain_values semicolon b f (marks_of t 1 true) (marks_of u 0) (marks_values t 1 true v.0) (λ g. marks_values u 0 g v.1)
marks_values (tensor t u) b f v = chain_values star b f (marks_of t 3 true) (marks_of u 2) (marks_values t 3 true v.0) (λ g. marks_values u 2 g v.1)
marks_values empty b f v = (tt, tt)
marks_values (alternation t u) b f v = chain_values bar b f (marks_of t 2 true) (marks_of u 1) (marks_values t 2 true v.0) (λ g. marks_values u 1 g v.1)
marks_values (assert γ) b f v = (v, tt)
marks_values (defined n) b f v = (v, tt)

mark_spelled : {s : List ℕ} {ms : List Mark} (m : Mark) → MarkValue m → Spelled s ms → Spelled (mark_bytes m ++ s) (m ∷ ms)
unfolding mark_bytes MarkValue
mark_spelled (leaf (rule_leaf n)) v p = marked (rule (decimal-number n v)) p
mark_spelled (leaf id_leaf) v p = marked identity p
mark_spelled (leaf empty_leaf) v p = marked nothing p
mark_spelled (leaf (goal_leaf n)) v p = marked (assertion (decimal-number n v)) p
mark_spelled (leaf (tactic_leaf n)) v p = marked (tactic (decimal-number n v)) p
mark_spelled (label_mark n) v p = marked (labelling (decimal-number n v)) p
mark_spelled (sign s) v p = blanked (marked (between s) (blanked p))
mark_spelled opening v p = marked opens p
mark_spelled closing v p = marked closes p

pub text_spelled : (ms : List Mark) → MarkValues ms → Spelled (text_of ms) ms
unfolding text_of
text_spelled [] v = ends
text_spelled (m ∷ ms) v = mark_spelled m v.0 (text_spelled ms v.1)

-- "Text written from a term reads as that term"
pub written-reads : (t : Term) → TermValues t → ReadsAs (written t) t
unfolding written
written-reads t v = let r = marks_read t in record { marks = marks_of t 0 false; end = r.0; spelled = text_spelled (marks_of t 0 false) (marks_values t 0 false v); read = r.1 }

-- 1 for the first byte of a mark
unfoldable first : ℕ → ℕ
first b =
    cond (eqb b 97) 1 (cond (eqb b 105) 1 (cond (eqb b 91) 1 (cond (eqb b 59) 1 (cond (eqb b 124) 1 (cond (eqb b 42) 1 (cond (eqb b 60) 1 (cond (eqb b 63) 1 (cond (eqb b 84) 1 (cond (eqb b 40) 1 (cond (eqb b 41) 1 0))))))))))

-- the number of bytes with which marks begin
unfoldable heads : List ℕ → ℕ
heads [] = 0
heads (b ∷ s) = first b + heads s

heads-append : (s r : List ℕ) → heads (s ++ r) ≡ heads s + heads r
unfolding heads
heads-append [] r = omega arith
heads-append (b ∷ s) r = omega (arith, heads-append s r)

first_digit : (b : ℕ) → IsDigit b → first b ≡ 0
unfolding first
first_digit b d =
    rw (ne_eqb b 97 (omega arith), ne_eqb b 105 (omega arith), ne_eqb b 91 (omega arith), ne_eqb b 59 (omega arith), ne_eqb b 124 (omega arith), ne_eqb b 42 (omega arith), ne_eqb b 60 (omega arith), ne_eqb b 63 (omega arith), ne_eqb b 84 (omega arith), ne_eqb b 40 (omega arith), ne_eqb b 41 (omega arith))

digits-heads : {v n : ℕ} {ds : List ℕ} → Digits v ds n → heads ds ≡ 0
unfolding heads
digits-heads no_more = refl
digits-heads (more {b = b} d p) = omega (arith, first_digit b d, digits-heads p)

number-heads : {n : ℕ} {ds : List ℕ} → Number ds n → heads ds ≡ 0
unfolding heads
number-heads (number {b = b} d p) = omega (arith, first_digit b d, digits-heads p)

spells_heads : {m : Mark} {w : List ℕ} → Spells m w → heads w ≡ 1
unfolding heads first
spells_heads (rule n) = omega (arith, number-heads n)
spells_heads identity = refl
spells_heads nothing = refl
spells_heads (assertion n) = omega (arith, number-heads n)
spells_heads (tactic n) = omega (arith, number-heads n)
spells_heads (labelling {ds = ds} n) = omega (arith, number-heads n, heads-append ds (93 ∷ []))
spells_heads (between semicolon) = refl
spells_heads (between bar) = refl
spells_heads (between star) = refl
spells_heads opens = refl
spells_heads closes = refl

spelled_heads : {s : List ℕ} {ms : List Mark} → Spelled s ms → heads s ≡ length ms
unfolding heads first
spelled_heads ends = refl
spelled_heads (blanked p) = omega (arith, spelled_heads p)
spelled_heads (marked {w = w} {s = s} m p) = omega (arith, spelled_heads p, spells_heads m, heads-append w s)

marks_of_lem : (t : Term) → TermValues t → heads (written t) ≡ length (marks_of t 0 false)
unfolding written
marks_of_lem t v = spelled_heads (text_spelled (marks_of t 0 false) (marks_values t 0 false v))

-- "brackets only where leaving them out would read as another term": without an opening bracket and a closing one behind it, the written text does not read as the term
pub brackets_needed : (t : Term) (a b c : List ℕ) → TermValues t → written t ≡ a ++ (left_round ∷ (b ++ (right_round ∷ c))) → ReadsAs (a ++ (b ++ c)) t → ⊥
unfolding heads first
brackets_needed t a b c v e r =
    let w = written-reads t v in
    let n : heads (written t) ≡ heads a + suc (heads b + suc (heads c)) = ap heads e ∙ heads-append a (left_round ∷ (b ++ (right_round ∷ c))) ∙ omega (arith, heads-append b (right_round ∷ c)) in
    omega (arith, spelled_heads r.spelled, heads-append a (b ++ c), heads-append b c, fewest r.read, marks_of_lem t v)
