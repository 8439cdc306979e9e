-- The marks written for a term read as that term, and no marks that read as it are fewer.
-- Assumes nothing.
use mathlib.Core.Path.{◌≡◌, refl, ap, ◌∙◌, subst}
use mathlib.Core.Bool.{Bool, true, false, cond}
use mathlib.Core.List.{List, [], ◌∷◌, ◌++◌}
use Prim.Native.Nat.{ℕ, zero, suc, ◌+◌, ◌≤◌}
use native.Mathlib.Omega.{arith}
use lib.Dec.{ltb}
use lib.ListN.{length, length-append}
use borrow.Author.Tests.{ltb-true, ltb-false, le-ltb}
use Rattle.format.specs.Terms.{Term, atomic, id, label, sequence, tensor, empty, alternation, assert, defined}
use Rattle.notation.specs.Marks.{Sign, semicolon, bar, star, Leaf, rule_leaf, id_leaf, empty_leaf, goal_leaf, tactic_leaf, Mark, leaf, label_mark, sign, opening, closing, leaf_term, label_term, sign_term}
use Rattle.notation.specs.Grammar.{Level, sequences, alternations, tensors, operand, End, closed, opened, Reads, one_leaf, brackets, labelled, one_operand, with_star, one_tensor, with_bar, one_alternation, with_semicolon}
use Rattle.notation.specs.Written.{rank, chain, bracketed_if, marks_of}
use Rattle.notation.proofs.FromRightLaws.{rank_of}

abbrev pub level_at : ℕ → Level
level_at zero = sequences
level_at (suc zero) = alternations
level_at (suc (suc zero)) = tensors
level_at (suc (suc (suc n))) = operand

-- what a sign does not follow may end in a label
abbrev Ends : Bool → End → Type 0
Ends true e = e ≡ closed
Ends false e = Unit {0}

record Writes (b : ℕ) (f : Bool) (ms : List Mark) (t : Term) : Type 0 where
  end : End
  ends : Ends f end
  reads : Reads (level_at b) end ms t

any_level : {e : End} {ms : List Mark} {t : Term} (b : ℕ) → Reads operand e ms t → Reads (level_at b) e ms t
any_level zero r = one_alternation (one_tensor (one_operand r))
any_level (suc zero) r = one_tensor (one_operand r)
any_level (suc (suc zero)) r = one_operand r
any_level (suc (suc (suc n))) r = r

looser_level : {e : End} {ms : List Mark} {t : Term} (s : Sign) (b : ℕ) → b ≤ rank s → Reads (level_at (rank s)) e ms t → Reads (level_at b) e ms t
looser_level semicolon zero h r = r
looser_level semicolon (suc b) h r = absurd (omega arith)
looser_level bar zero h r = one_alternation r
looser_level bar (suc zero) h r = r
looser_level bar (suc (suc b)) h r = absurd (omega arith)
looser_level star zero h r = one_alternation (one_tensor r)
looser_level star (suc zero) h r = one_tensor r
looser_level star (suc (suc zero)) h r = r
looser_level star (suc (suc (suc b))) h r = absurd (omega arith)

pub join_reads : {e : End} {ms ns : List Mark} {t u : Term} (s : Sign) → Reads (level_at (suc (rank s))) closed ms t → Reads (level_at (rank s)) e ns u → Reads (level_at (rank s)) e (ms ++ (sign s ∷ ns)) (sign_term s t u)
join_reads semicolon p q = with_semicolon p q
join_reads bar p q = with_bar p q
join_reads star p q = with_star p q

closed-reads : {b : ℕ} {ms : List Mark} {t : Term} (w : Writes b true ms t) → Reads (level_at b) closed ms t
closed-reads {b} {ms} {t} w = subst (λ (e : End). Reads (level_at b) e ms t) w.ends w.reads

any_ends : (f : Bool) → Ends f closed
any_ends true = refl
any_ends false = tt

leaf_writes : (w : Leaf) (b : ℕ) (f : Bool) → Writes b f (leaf w ∷ []) (leaf_term w)
leaf_writes w b f = record { end = closed; ends = any_ends f; reads = any_level b (one_leaf w) }

bracketed_writes : {ms : List Mark} {t : Term} (n b : ℕ) (f : Bool) → Writes 0 false ms t → Writes b f (bracketed_if f (label_mark n ∷ ms)) (label_term n t)
unfolding bracketed_if
bracketed_writes n b true w = record { end = closed; ends = refl; reads = any_level b (brackets (one_alternation (one_tensor (one_operand (labelled n w.reads))))) }
bracketed_writes n b false w = record { end = opened; ends = tt; reads = any_level b (labelled n w.reads) }

chain_writes : {L : List Mark} {t u : Term} (s : Sign) (b : ℕ) (f : Bool) (R : Bool → List Mark) → Writes (suc (rank s)) true L t → ((g : Bool) → Writes (rank s) g (R g) u) → Writes b f (chain s b f L R) (sign_term s t u)
unfolding chain
chain_writes {L} {t} {u} s b f R p q = go (ltb (rank s) b) refl
  where
    go : (c : Bool) → ltb (rank s) b ≡ c → Writes b f (cond c (opening ∷ ((L ++ (sign s ∷ R false)) ++ (closing ∷ []))) (L ++ (sign s ∷ R f))) (sign_term s t u)
    go true h = record { end = closed; ends = any_ends f; reads = any_level b (brackets (looser_level s 0 (omega arith) (join_reads s (closed-reads p) (q false).reads))) }
    go false h = record { end = (q f).end; ends = (q f).ends; reads = looser_level s b (ltb-false (rank s) b h) (join_reads s (closed-reads p) (q f).reads) }

marks_write : (t : Term) (b : ℕ) (f : Bool) → Writes b f (marks_of t b f) t
unfolding marks_of
marks_write (atomic a) b f = leaf_writes (rule_leaf a.0) b f
marks_write id b f = leaf_writes id_leaf b f
marks_write (label l t) b f = bracketed_writes l.0 b f (marks_write t 0 false)
marks_write (sequence t u) b f = chain_writes semicolon b f (marks_of u 0) (marks_write t 1 true) (marks_write u 0)
marks_write (tensor t u) b f = chain_writes star b f (marks_of u 2) (marks_write t 3 true) (marks_write u 2)
marks_write empty b f = leaf_writes empty_leaf b f
marks_write (alternation t u) b f = chain_writes bar b f (marks_of u 1) (marks_write t 2 true) (marks_write u 1)
marks_write (assert γ) b f = leaf_writes (goal_leaf γ.0) b f
marks_write (defined n) b f = leaf_writes (tactic_leaf n.0) b f

-- the marks written for a term read as that term
pub marks_read : (t : Term) → (e : End) × Reads sequences e (marks_of t 0 false) t
marks_read t = let w = marks_write t 0 false in (w.end, w.reads)

-- how many marks a chain has, in brackets and without
chain_in : (s : Sign) (b : ℕ) (f : Bool) (L : List Mark) (R : Bool → List Mark) → ltb (rank s) b ≡ true → length (chain s b f L R) ≡ 3 + (length L + length (R false))
unfolding chain
chain_in s b f L R h =
    ap (λ (c : Bool). length (cond c (opening ∷ ((L ++ (sign s ∷ R false)) ++ (closing ∷ []))) (L ++ (sign s ∷ R f)))) h
    ∙ ap suc (length-append (L ++ (sign s ∷ R false)) (closing ∷ []))
    ∙ omega (arith, length-append L (sign s ∷ R false))

chain-out : (s : Sign) (b : ℕ) (f : Bool) (L : List Mark) (R : Bool → List Mark) → ltb (rank s) b ≡ false → length (chain s b f L R) ≡ 1 + (length L + length (R f))
unfolding chain
chain-out s b f L R h =
    ap (λ (c : Bool). length (cond c (opening ∷ ((L ++ (sign s ∷ R false)) ++ (closing ∷ []))) (L ++ (sign s ∷ R f)))) h
    ∙ omega (arith, length-append L (sign s ∷ R f))

bracketed_in : (ms : List Mark) → length (bracketed_if true ms) ≡ 2 + length ms
unfolding bracketed_if
bracketed_in ms = omega (arith, length-append ms (closing ∷ []))

-- how the number of marks grows with what is asked of them
record Grows (M : ℕ → Bool → List Mark) : Type 0 where
  followed : (b : ℕ) → length (M b false) ≤ length (M b true)
  at_most : (b : ℕ) → length (M b true) ≤ 2 + length (M b false)
  bound : (a b : ℕ) (f : Bool) → a ≤ b → length (M a f) ≤ length (M b f)
  bracketed : (b : ℕ) (f : Bool) → length (M b f) ≤ 2 + length (M 0 false)

leaf_grows : (w : Leaf) → Grows (λ b f. leaf w ∷ [])
leaf_grows w = record { followed = λ b. omega arith; at_most = λ b. omega arith; bound = λ a b f h. omega arith; bracketed = λ b f. omega arith }

bracketed_grows : (ms : List Mark) → Grows (λ b f. bracketed_if f ms)
unfolding bracketed_if
bracketed_grows ms = record { followed = λ b. omega (arith, bracketed_in ms); at_most = λ b. omega (arith, bracketed_in ms); bound = λ a b f h. omega arith; bracketed = most }
  where
    most : (b : ℕ) (f : Bool) → length (bracketed_if f ms) ≤ 2 + length ms
    most b true = omega (arith, bracketed_in ms)
    most b false = omega arith

chain_grows : (s : Sign) (L : List Mark) (R : Bool → List Mark) → length (R false) ≤ length (R true) → length (R true) ≤ 2 + length (R false) → Grows (λ b f. chain s b f L R)
chain_grows s L R lo hi = record { followed = λ b. followed b (ltb (rank s) b) refl; at_most = λ b. most b (ltb (rank s) b) refl; bound = λ a b f h. bound a b f h (ltb (rank s) a) (ltb (rank s) b) refl refl; bracketed = λ b f. bracketed b f (ltb (rank s) b) refl }
  where
    followed : (b : ℕ) (c : Bool) → ltb (rank s) b ≡ c → length (chain s b false L R) ≤ length (chain s b true L R)
    followed b true e = omega (arith, chain_in s b true L R e, chain_in s b false L R e)
    followed b false e = omega (arith, chain-out s b true L R e, chain-out s b false L R e)

    most : (b : ℕ) (c : Bool) → ltb (rank s) b ≡ c → length (chain s b true L R) ≤ 2 + length (chain s b false L R)
    most b true e = omega (arith, chain_in s b true L R e, chain_in s b false L R e)
    most b false e = omega (arith, chain-out s b true L R e, chain-out s b false L R e)

    few : (f : Bool) → length (R f) ≤ 2 + length (R false)
    few true = hi
    few false = omega arith

    bound : (a b : ℕ) (f : Bool) → a ≤ b → (c d : Bool) → ltb (rank s) a ≡ c → ltb (rank s) b ≡ d → length (chain s a f L R) ≤ length (chain s b f L R)
    bound a b f h true true e k = omega (arith, chain_in s a f L R e, chain_in s b f L R k)
    bound a b f h true false e k = absurd (omega (arith, ltb-true (rank s) a e, ltb-false (rank s) b k))
    bound a b f h false true e k = omega (arith, chain-out s a f L R e, chain_in s b f L R k, few f)
    bound a b f h false false e k = omega (arith, chain-out s a f L R e, chain-out s b f L R k)

    none_below : ltb (rank s) 0 ≡ false
    none_below = le-ltb (rank s) 0 (omega arith)

    bracketed : (b : ℕ) (f : Bool) (c : Bool) → ltb (rank s) b ≡ c → length (chain s b f L R) ≤ 2 + length (chain s 0 false L R)
    bracketed b f true e = omega (arith, chain_in s b f L R e, chain-out s 0 false L R none_below)
    bracketed b f false e = omega (arith, chain-out s b f L R e, chain-out s 0 false L R none_below, few f)

marks_grow : (t : Term) → Grows (marks_of t)
unfolding marks_of
marks_grow (atomic a) = leaf_grows (rule_leaf a.0)
marks_grow id = leaf_grows id_leaf
marks_grow (label l t) = bracketed_grows (label_mark l.0 ∷ marks_of t 0 false)
marks_grow (sequence t u) = chain_grows semicolon (marks_of t 1 true) (marks_of u 0) ((marks_grow u).followed 0) ((marks_grow u).at_most 0)
marks_grow (tensor t u) = chain_grows star (marks_of t 3 true) (marks_of u 2) ((marks_grow u).followed 2) ((marks_grow u).at_most 2)
marks_grow empty = leaf_grows empty_leaf
marks_grow (alternation t u) = chain_grows bar (marks_of t 2 true) (marks_of u 1) ((marks_grow u).followed 1) ((marks_grow u).at_most 1)
marks_grow (assert γ) = leaf_grows (goal_leaf γ.0)
marks_grow (defined n) = leaf_grows (tactic_leaf n.0)

abbrev is_closed : End → Bool
is_closed closed = true
is_closed opened = false

at_first : (t : Term) (e : End) → length (marks_of t 0 false) ≤ length (marks_of t 0 (is_closed e))
at_first t closed = (marks_grow t).followed 0
at_first t opened = omega arith

chain_few : (s : Sign) (f : Bool) (L : List Mark) (R : Bool → List Mark) (ms ns : List Mark) → length L ≤ length ms → length (R f) ≤ length ns → length (chain s (rank s) f L R) ≤ length (ms ++ (sign s ∷ ns))
chain_few s f L R ms ns h k = omega (arith, chain-out s (rank s) f L R (le-ltb (rank s) (rank s) (omega arith)), length-append ms (sign s ∷ ns))

-- leaf marks, whatever is asked
leaf_few : (w : Leaf) → length (marks_of (leaf_term w) 3 true) ≤ 1
unfolding marks_of
leaf_few (rule_leaf n) = omega arith
leaf_few id_leaf = omega arith
leaf_few empty_leaf = omega arith
leaf_few (goal_leaf n) = omega arith
leaf_few (tactic_leaf n) = omega arith

fewest_at : {l : Level} {e : End} {ms : List Mark} {t : Term} → Reads l e ms t → length (marks_of t (rank_of l) (is_closed e)) ≤ length ms
unfolding marks_of bracketed_if
fewest_at (one_leaf w) = leaf_few w
fewest_at (brackets {e = e} {ms = ms} {t = t} p) = omega (arith, fewest_at p, (marks_grow t).bracketed 3 true, at_first t e, length-append ms (closing ∷ []))
fewest_at (labelled n {e = e} {t = t} p) = omega (arith, fewest_at p, at_first t e)
fewest_at (one_operand {e = e} {t = t} p) = omega (arith, fewest_at p, (marks_grow t).bound 2 3 (is_closed e) (omega arith))
fewest_at (with_star {e = e} {ms = ms} {ns = ns} {t = t} {u = u} p q) = chain_few star (is_closed e) (marks_of t 3 true) (marks_of u 2) ms ns (fewest_at p) (fewest_at q)
fewest_at (one_tensor {e = e} {t = t} p) = omega (arith, fewest_at p, (marks_grow t).bound 1 2 (is_closed e) (omega arith))
fewest_at (with_bar {e = e} {ms = ms} {ns = ns} {t = t} {u = u} p q) = chain_few bar (is_closed e) (marks_of t 2 true) (marks_of u 1) ms ns (fewest_at p) (fewest_at q)
fewest_at (one_alternation {e = e} {t = t} p) = omega (arith, fewest_at p, (marks_grow t).bound 0 1 (is_closed e) (omega arith))
fewest_at (with_semicolon {e = e} {ms = ms} {ns = ns} {t = t} {u = u} p q) = chain_few semicolon (is_closed e) (marks_of t 1 true) (marks_of u 0) ms ns (fewest_at p) (fewest_at q)

-- marks that read as a term are no fewer than those written for it
pub fewest : {e : End} {ms : List Mark} {t : Term} → Reads sequences e ms t → length (marks_of t 0 false) ≤ length ms
fewest {e} {ms} {t} p = omega (arith, fewest_at p, at_first t e)
