-- Marks that pass from an operand due to one read, with every bracket closed, have a reading; and the marks of a reading pass so.
-- Assumes nothing.
use mathlib.Core.Path.{◌≡◌, refl, sym, ap, ◌∙◌, subst}
use mathlib.Core.Bool.{Bool, true, false}
use mathlib.Core.List.{List, [], ◌∷◌, ◌++◌, append_assoc, append-nil}
use Prim.Native.Nat.{ℕ, zero, suc, ◌+◌, ◌≤◌, ◌<◌}
use native.Mathlib.Omega.{arith}
use lib.Dec.{leb}
use borrow.Author.Tests.{leb-true, leb-false}
use Rattle.format.specs.Terms.{Term, fields, size}
use Rattle.format.specs.Encoding.{TermValues}
use Rattle.notation.specs.Marks.{Sign, semicolon, bar, star, Leaf, rule_leaf, id_leaf, empty_leaf, goal_leaf, tactic_leaf, Mark, leaf, label_mark, sign, opening, closing, leaf_term, label_term, sign_term}
use Rattle.notation.specs.Grammar.{Level, sequences, End, closed, opened, Reads, one_leaf, brackets, labelled, one_operand, with_star, one_tensor, with_bar, one_alternation, with_semicolon}
use Rattle.notation.specs.Written.{rank}
use Rattle.notation.specs.Passing.{Passes, rests, past_leaf, past_label, past_sign, past_opening, past_closing, mark_fields, field_marks, mark_size, sizes, MarkValue, MarkValues}
use Rattle.notation.proofs.WrittenLaws.{level_at, join_reads}
use Rattle.notation.proofs.WrittenText.{values_join}

pub pass_append : {a b c : Bool} {n m k : ℕ} {ms ns : List Mark} → Passes a n ms b m → Passes b m ns c k → Passes a n (ms ++ ns) c k
pass_append rests q = q
pass_append (past_leaf p) q = past_leaf (pass_append p q)
pass_append (past_label p) q = past_label (pass_append p q)
pass_append (past_sign p) q = past_sign (pass_append p q)
pass_append (past_opening p) q = past_opening (pass_append p q)
pass_append (past_closing p) q = past_closing (pass_append p q)

pub reads_pass : {l : Level} {e : End} {ms : List Mark} {t : Term} → Reads l e ms t → (n : ℕ) → Passes true n ms false n
reads_pass (one_leaf w) n = past_leaf rests
reads_pass (brackets p) n = past_opening (pass_append (reads_pass p (suc n)) (past_closing rests))
reads_pass (labelled l p) n = past_label (reads_pass p n)
reads_pass (one_operand p) n = reads_pass p n
reads_pass (with_star p q) n = pass_append (reads_pass p n) (past_sign (reads_pass q n))
reads_pass (one_tensor p) n = reads_pass p n
reads_pass (with_bar p q) n = pass_append (reads_pass p n) (past_sign (reads_pass q n))
reads_pass (one_alternation p) n = reads_pass p n
reads_pass (with_semicolon p q) n = pass_append (reads_pass p n) (past_sign (reads_pass q n))

down : {e : End} {ms : List Mark} {t : Term} (l : ℕ) → Reads (level_at (suc l)) e ms t → Reads (level_at l) e ms t
down zero r = one_alternation r
down (suc zero) r = one_tensor r
down (suc (suc zero)) r = one_operand r
down (suc (suc (suc l))) r = r

lower : {e : End} {ms : List Mark} {t : Term} (l r : ℕ) → r ≤ l → Reads (level_at l) e ms t → Reads (level_at r) e ms t
lower {e} {ms} {t} zero r h x = let z : 0 ≡ r = omega arith in subst (λ (n : ℕ). Reads (level_at n) e ms t) z x
lower {e} {ms} {t} (suc l) r h x = go (leb r l) refl (λ k. lower l r k (down l x))
  where
    same : l < r → suc l ≡ r
    same k = omega arith

    go : (c : Bool) → leb r l ≡ c → (r ≤ l → Reads (level_at r) e ms t) → Reads (level_at r) e ms t
    go true k f = f (leb-true r l k)
    go false k f = subst (λ (n : ℕ). Reads (level_at n) e ms t) (same (leb-false r l k)) x

-- what ends in a label has no sign behind it
abbrev Ok : End → ℕ → Type 0
Ok closed b = Unit {0}
Ok opened b = b ≡ 0

-- what stands behind an operand, with n brackets to close; b is 0 where no sign comes first, else one more than the sign's rank
data Rest : (n b : ℕ) → List Mark → Type 0 where
  stop : Rest 0 0 []
  close : {n b : ℕ} {k : List Mark} → Rest n b k → Rest (suc n) 0 (closing ∷ k)
  go_on : {n b : ℕ} {e : End} {ns k : List Mark} {u : Term} (s : Sign) → Reads (level_at (rank s)) e ns u → Rest n b k → b ≤ rank s → Ok e b → Rest n (suc (rank s)) (sign s ∷ (ns ++ k))

-- a term of level l at the beginning of marks, and what stands behind it
record Part (l n : ℕ) (ms : List Mark) : Type 0 where
  first : List Mark
  behind : List Mark
  end : End
  term : Term
  bound : ℕ
  splits : ms ≡ first ++ behind
  reads : Reads (level_at l) end first term
  rest : Rest n bound behind
  ok : Ok end bound

-- one that reaches as far as signs at least as tight as l go
record Longest (l n : ℕ) (ms : List Mark) : Type 0 where
  part : Part l n ms
  stops : part.bound ≤ l

must_close : {l : Level} {xs : List Mark} {t : Term} (b : ℕ) (e : End) → Ok e (suc b) → Reads l e xs t → Reads l closed xs t
must_close b closed o p = p
must_close b opened o p = absurd (omega arith)

collect : {n b : ℕ} {k : List Mark} (r l : ℕ) {e : End} {xs : List Mark} {t : Term} → r ≤ l → b ≤ l → Reads (level_at l) e xs t → Rest n b k → Ok e b → Longest r n (xs ++ k)
collect r l {e} {xs} {t} h i p stop o = record { part = record { first = xs; behind = []; end = e; term = t; bound = 0; splits = refl; reads = lower l r h p; rest = stop; ok = o }; stops = omega arith }
collect r l {e} {xs} {t} h i p (close {k = k} q) o = record { part = record { first = xs; behind = closing ∷ k; end = e; term = t; bound = 0; splits = refl; reads = lower l r h p; rest = close q; ok = o }; stops = omega arith }
collect {n} r l {e} {xs} {t} h i p (go_on {b = b} {e = d} {ns = ns} {k = k} {u = u} s q rest j w) o =
    choice (leb r (rank s)) refl
    (λ g. collect r (rank s) g j (join_reads s (lower l (suc (rank s)) i (must_close (rank s) e o p)) q) rest w)
  where
    regroup : (xs ++ (sign s ∷ ns)) ++ k ≡ xs ++ (sign s ∷ (ns ++ k))
    regroup = append_assoc xs (sign s ∷ ns) k

    choice : (c : Bool) → leb r (rank s) ≡ c → (r ≤ rank s → Longest r n ((xs ++ (sign s ∷ ns)) ++ k)) → Longest r n (xs ++ (sign s ∷ (ns ++ k)))
    choice true g f = subst (λ (m : List Mark). Longest r n m) regroup (f (leb-true r (rank s) g))
    choice false g f = record { part = record { first = xs; behind = sign s ∷ (ns ++ k); end = e; term = t; bound = suc (rank s); splits = refl; reads = lower l r h p; rest = go_on s q rest j w; ok = o }; stops = leb-false r (rank s) g }

-- a bracket closes next
record Closing (n : ℕ) (k : List Mark) : Type 0 where
  bound : ℕ
  behind : List Mark
  is : k ≡ closing ∷ behind
  rest : Rest n bound behind

closes_next : {m b : ℕ} {k : List Mark} (n : ℕ) → Rest m b k → m ≡ suc n → b ≤ 0 → Closing n k
closes_next n stop e h = absurd (omega arith)
closes_next n (close {n = i} {b = b} {k = k} r) e h = let z : i ≡ n = omega arith in record { bound = b; behind = k; is = refl; rest = subst (λ (x : ℕ). Rest x b k) z r }
closes_next n (go_on s q r j w) e h = absurd (omega arith)

-- nothing is left
ends_there : {m b : ℕ} {k : List Mark} → Rest m b k → m ≡ 0 → b ≤ 0 → k ≡ []
ends_there stop e h = refl
ends_there (close r) e h = absurd (omega arith)
ends_there (go_on s q r j w) e h = absurd (omega arith)

longest : {n : ℕ} {ms : List Mark} (r : ℕ) → r ≤ 3 → Part 3 n ms → Longest r n ms
longest {n} {ms} r h p = subst (λ (m : List Mark). Longest r n m) (sym p.splits) (collect r 3 h (bounded p.rest) p.reads p.rest p.ok)
  where
    rank_most : (s : Sign) → rank s ≤ 2
    rank_most semicolon = omega arith
    rank_most bar = omega arith
    rank_most star = omega arith

    bounded : {n b : ℕ} {k : List Mark} → Rest n b k → b ≤ 3
    bounded stop = omega arith
    bounded (close r) = omega arith
    bounded (go_on s q r j w) = omega (arith, rank_most s)

-- the marks behind an operand, at a sign
some_rest : {n : ℕ} {ms : List Mark} (s : Sign) → Longest (rank s) n ms → (b : ℕ) × Rest n b (sign s ∷ ms)
some_rest {n} {ms} s l =
    let p = l.part in
    (suc (rank s), subst (λ (m : List Mark). Rest n (suc (rank s)) (sign s ∷ m)) (sym p.splits) (go_on s p.reads p.rest l.stops p.ok))

rank_small : (s : Sign) → rank s ≤ 3
rank_small semicolon = omega arith
rank_small bar = omega arith
rank_small star = omega arith

label_part : {n : ℕ} {ms : List Mark} (l : ℕ) → Longest 0 n ms → Part 3 n (label_mark l ∷ ms)
label_part {n} {ms} l x =
    let p = x.part in
    record { first = label_mark l ∷ p.first; behind = p.behind; end = opened; term = label_term l p.term; bound = p.bound; splits = ap {B = List Mark} (λ m. label_mark l ∷ m) p.splits; reads = labelled l p.reads; rest = p.rest; ok = none_left x.stops }
  where
    none_left : x.part.bound ≤ 0 → x.part.bound ≡ 0
    none_left h = omega arith

bracket_part : {n : ℕ} {ms : List Mark} → Longest 0 (suc n) ms → Part 3 n (opening ∷ ms)
bracket_part {n} {ms} x =
    let p = x.part in
    let c = closes_next n p.rest refl x.stops in
    record {
      first = opening ∷ (p.first ++ (closing ∷ []));
      behind = c.behind;
      end = closed;
      term = p.term;
      bound = c.bound;
      splits = ap {B = List Mark} (λ m. opening ∷ m) (p.splits ∙ ap (λ (m : List Mark). p.first ++ m) c.is ∙ sym (append_assoc p.first (closing ∷ []) c.behind));
      reads = brackets p.reads;
      rest = c.rest;
      ok = tt;
    }

-- where an operand was read, what stands behind it; where one is due, that operand and what stands behind it
abbrev After : Bool → (n : ℕ) → List Mark → Type 0
After true n ms = Part 3 n ms
After false n ms = (b : ℕ) × Rest n b ms

after_end : (d : Bool) (n : ℕ) → d ≡ false → n ≡ 0 → After d n []
after_end d n e h = subst (λ (x : Bool). After x n []) (sym e) (subst (λ (x : ℕ). After false x []) (sym h) (0, stop))

pass_after : {d e : Bool} {n m : ℕ} {ms : List Mark} → Passes d n ms e m → e ≡ false → m ≡ 0 → After d n ms
pass_after {d} {n = n} rests p q = after_end d n p q
pass_after (past_leaf {w = w} {ms = ms} f) p q = let r = pass_after f p q in record { first = leaf w ∷ []; behind = ms; end = closed; term = leaf_term w; bound = r.0; splits = refl; reads = one_leaf w; rest = r.1; ok = tt }
pass_after (past_label {l = l} f) p q = label_part l (longest 0 (omega arith) (pass_after f p q))
pass_after (past_sign {s = s} f) p q = some_rest s (longest (rank s) (rank_small s) (pass_after f p q))
pass_after (past_opening f) p q = bracket_part (longest 0 (omega arith) (pass_after f p q))
pass_after (past_closing f) p q = let r = pass_after f p q in (0, close r.1)

-- a reading of marks
pub record Reading (ms : List Mark) : Type 0 where
  pub end : End
  pub term : Term
  pub reads : Reads sequences end ms term

pub pass_reads : {ms : List Mark} → Passes true 0 ms false 0 → Reading ms
pass_reads {ms} f =
    let x = longest 0 (omega arith) (pass_after f refl refl) in
    let p = x.part in
    let none_left : p.behind ≡ [] = ends_there p.rest refl x.stops in
    let is : ms ≡ p.first = p.splits ∙ ap (λ (m : List Mark). p.first ++ m) none_left ∙ append-nil p.first in
    record { end = p.end; term = p.term; reads = subst (λ (m : List Mark). Reads sequences p.end m p.term) (sym is) p.reads }

-- a term has the fields, the bytes and the values of its marks
fields_join : (s : Sign) (t u : Term) → fields (sign_term s t u) ≡ 1 + fields t + fields u
unfolding fields
fields_join semicolon t u = refl
fields_join bar t u = refl
fields_join star t u = refl

pub size-sign_term : (s : Sign) (t u : Term) → size (sign_term s t u) ≡ 3 + size t + size u
unfolding size
size-sign_term semicolon t u = refl
size-sign_term bar t u = refl
size-sign_term star t u = refl

pub field_marks_append : (ms ns : List Mark) → field_marks (ms ++ ns) ≡ field_marks ms + field_marks ns
unfolding field_marks
field_marks_append [] ns = omega arith
field_marks_append (m ∷ ms) ns = omega (arith, field_marks_append ms ns)

pub sizes-append : (ms ns : List Mark) → sizes (ms ++ ns) ≡ sizes ms + sizes ns
unfolding sizes
sizes-append [] ns = omega arith
sizes-append (m ∷ ms) ns = omega (arith, sizes-append ms ns)

leaf_fields : (w : Leaf) → fields (leaf_term w) ≡ 1
unfolding fields
leaf_fields (rule_leaf n) = refl
leaf_fields id_leaf = refl
leaf_fields empty_leaf = refl
leaf_fields (goal_leaf n) = refl
leaf_fields (tactic_leaf n) = refl

pub leaf-size_lem : (w : Leaf) → size (leaf_term w) ≡ mark_size (leaf w)
unfolding size mark_size
leaf-size_lem (rule_leaf n) = refl
leaf-size_lem id_leaf = refl
leaf-size_lem empty_leaf = refl
leaf-size_lem (goal_leaf n) = refl
leaf-size_lem (tactic_leaf n) = refl

sign_fields : (s : Sign) (ms ns : List Mark) → field_marks (ms ++ (sign s ∷ ns)) ≡ 1 + field_marks ms + field_marks ns
unfolding field_marks mark_fields
sign_fields s ms ns = omega (arith, field_marks_append ms (sign s ∷ ns))

sign_sizes : (s : Sign) (ms ns : List Mark) → sizes (ms ++ (sign s ∷ ns)) ≡ 3 + sizes ms + sizes ns
unfolding sizes mark_size
sign_sizes s ms ns = omega (arith, sizes-append ms (sign s ∷ ns))

pub reads-fields : {l : Level} {e : End} {ms : List Mark} {t : Term} → Reads l e ms t → field_marks ms ≡ fields t
unfolding field_marks mark_fields fields
reads-fields (one_leaf w) = omega (arith, leaf_fields w)
reads-fields (brackets {ms = ms} p) = omega (arith, reads-fields p, field_marks_append ms (closing ∷ []))
reads-fields (labelled n p) = omega (arith, reads-fields p)
reads-fields (one_operand p) = reads-fields p
reads-fields (with_star {ms = ms} {ns = ns} p q) = omega (arith, reads-fields p, reads-fields q, sign_fields star ms ns)
reads-fields (one_tensor p) = reads-fields p
reads-fields (with_bar {ms = ms} {ns = ns} p q) = omega (arith, reads-fields p, reads-fields q, sign_fields bar ms ns)
reads-fields (one_alternation p) = reads-fields p
reads-fields (with_semicolon {ms = ms} {ns = ns} p q) = omega (arith, reads-fields p, reads-fields q, sign_fields semicolon ms ns)

pub reads-size : {l : Level} {e : End} {ms : List Mark} {t : Term} → Reads l e ms t → sizes ms ≡ size t
unfolding sizes mark_size size
reads-size (one_leaf w) = omega (arith, leaf-size_lem w)
reads-size (brackets {ms = ms} p) = omega (arith, reads-size p, sizes-append ms (closing ∷ []))
reads-size (labelled n p) = omega (arith, reads-size p)
reads-size (one_operand p) = reads-size p
reads-size (with_star {ms = ms} {ns = ns} p q) = omega (arith, reads-size p, reads-size q, sign_sizes star ms ns)
reads-size (one_tensor p) = reads-size p
reads-size (with_bar {ms = ms} {ns = ns} p q) = omega (arith, reads-size p, reads-size q, sign_sizes bar ms ns)
reads-size (one_alternation p) = reads-size p
reads-size (with_semicolon {ms = ms} {ns = ns} p q) = omega (arith, reads-size p, reads-size q, sign_sizes semicolon ms ns)

values_first : (ms ns : List Mark) → MarkValues (ms ++ ns) → MarkValues ms
values_first [] ns v = tt
values_first (m ∷ ms) ns v = (v.0, values_first ms ns v.1)

values_last : (ms ns : List Mark) → MarkValues (ms ++ ns) → MarkValues ns
values_last [] ns v = v
values_last (m ∷ ms) ns v = values_last ms ns v.1

pub reads_values : {l : Level} {e : End} {ms : List Mark} {t : Term} → Reads l e ms t → MarkValues ms → TermValues t
unfolding MarkValue TermValues
reads_values (one_leaf (rule_leaf n)) v = v.0
reads_values (one_leaf id_leaf) v = tt
reads_values (one_leaf empty_leaf) v = tt
reads_values (one_leaf (goal_leaf n)) v = v.0
reads_values (one_leaf (tactic_leaf n)) v = v.0
reads_values (brackets {ms = ms} p) v = reads_values p (values_first ms (closing ∷ []) v.1)
reads_values (labelled n p) v = (v.0, reads_values p v.1)
reads_values (one_operand p) v = reads_values p v
reads_values (with_star {ms = ms} {ns = ns} p q) v = (reads_values p (values_first ms (sign star ∷ ns) v), reads_values q (values_last ms (sign star ∷ ns) v).1)
reads_values (one_tensor p) v = reads_values p v
reads_values (with_bar {ms = ms} {ns = ns} p q) v = (reads_values p (values_first ms (sign bar ∷ ns) v), reads_values q (values_last ms (sign bar ∷ ns) v).1)
reads_values (one_alternation p) v = reads_values p v
reads_values (with_semicolon {ms = ms} {ns = ns} p q) v = (reads_values p (values_first ms (sign semicolon ∷ ns) v), reads_values q (values_last ms (sign semicolon ∷ ns) v).1)

pub values_read : {l : Level} {e : End} {ms : List Mark} {t : Term} → Reads l e ms t → TermValues t → MarkValues ms
unfolding MarkValue TermValues
values_read (one_leaf (rule_leaf n)) v = (v, tt)
values_read (one_leaf id_leaf) v = (tt, tt)
values_read (one_leaf empty_leaf) v = (tt, tt)
values_read (one_leaf (goal_leaf n)) v = (v, tt)
values_read (one_leaf (tactic_leaf n)) v = (v, tt)
values_read (brackets {ms = ms} p) v = (tt, values_join ms (closing ∷ []) (values_read p v) (tt, tt))
values_read (labelled n p) v = (v.0, values_read p v.1)
values_read (one_operand p) v = values_read p v
values_read (with_star {ms = ms} {ns = ns} p q) v = values_join ms (sign star ∷ ns) (values_read p v.0) (tt, values_read q v.1)
values_read (one_tensor p) v = values_read p v
values_read (with_bar {ms = ms} {ns = ns} p q) v = values_join ms (sign bar ∷ ns) (values_read p v.0) (tt, values_read q v.1)
values_read (one_alternation p) v = values_read p v
values_read (with_semicolon {ms = ms} {ns = ns} p q) v = values_join ms (sign semicolon ∷ ns) (values_read p v.0) (tt, values_read q v.1)
