-- What the scan of a text comes to is what is met in it: a term within the limits, 36, 37 or 5.
-- Assumes nothing.
use mathlib.Core.Path.{◌≡◌, refl, sym, ap, ◌∙◌, subst}
use mathlib.Core.Bool.{Bool, true, false, cond}
use mathlib.Core.List.{List, [], ◌∷◌, ◌++◌, append_assoc, append-nil}
use Prim.Native.Nat.{ℕ, suc, ◌+◌, ◌*◌, ◌-◌, ◌≤◌, ◌<◌}
use native.Mathlib.Omega.{arith}
use lib.Dec.{leb, ltb, eqb}
use lib.ListN.{length}
use borrow.Author.Tests.{ltb-true, ltb-false, leb-true, leb-false, eqb-true, eqb-false}
use Rattle.format.specs.Limits.{most_term_fields}
use Rattle.format.specs.declared.refusals.Cause.{Cause}
use Rattle.format.specs.declared.refusals.Cause.TheVariants.{LimitPassed, TextWrong, ValueTooLarge}
use Rattle.format.specs.Results.{Result, gives, refused, and_then}
use Rattle.format.specs.Terms.{fields, size}
use Rattle.notation.specs.Scans.{Mode}
use Rattle.notation.specs.Scans as M
use Rattle.notation.specs.Scans.{Scan}
use Rattle.notation.specs.Letters.{IsDigit, is_digit}
use Rattle.notation.specs.Marks.{Sign, semicolon, bar, star, Leaf, rule_leaf, id_leaf, empty_leaf, goal_leaf, tactic_leaf, Mark, leaf, sign, closing, sign_byte, no_more, Number, number, Spells, rule, identity, nothing, assertion, tactic, labelling, between, opens, closes, Spelled, ends, blanked}
use Rattle.notation.specs.Passing.{Passes, rests, past_leaf, past_label, past_sign, past_opening, past_closing, mark_fields, field_marks, mark_size, sizes, MarkValue, MarkValues}
use Rattle.notation.specs.Meets.{Viable, NoDigit, Unrefused, Numbered, of_rule, of_goal, of_tactic, of_label, head_of, Large, LastOf, FieldAt, a_leaf, a_label, a_sign, Full, Fits}
use Rattle.notation.specs.Scans.{most_value, scanned, completes, begins_numbered, is_sign, on_due, on_had, leaf_ends, on_digits, label_ends, on_label_digits, on_begun, on_label_begun, on_half, step_in, finished, end_in, scan}
use Rattle.notation.proofs.WrittenText.{values_join, number_then}
use Rattle.notation.proofs.PassingLaws.{pass_append, pass_reads, reads-fields, reads-size, reads_values, field_marks_append, sizes-append}
use Rattle.notation.proofs.ScanLaws.{mode_of, Kept, kept_more}
use Rattle.notation.proofs.ViableLaws.{spelled_append, spelled_then, pass_viable, viable_prefix}

-- whole marks, as the scan stands behind them
pub record Whole (q : List ℕ) (d : Bool) (n f z : ℕ) : Type 0 where
  pub marks : List Mark
  pub spelled : Spelled q marks
  pub passes : Passes true 0 marks d n
  pub values : MarkValues marks
  pub counts : field_marks marks ≡ f
  pub few : f ≤ most_term_fields
  pub bytes : sizes marks ≡ z

unrefused_of : {q : List ℕ} {d : Bool} {n f z : ℕ} → Whole q d n f z → Unrefused q d f
unrefused_of {n = n} w = record { marks = w.marks; depth = n; spelled = w.spelled; passes = w.passes; values = w.values; counts = w.counts; few = w.few }

whole_viable : {q : List ℕ} {d : Bool} {n f z : ℕ} → Whole q d n f z → Viable q
whole_viable {d = d} w = pass_viable d w.spelled w.passes

-- one mark more
whole_then : {q w : List ℕ} {d d' : Bool} {n n' f z : ℕ} {m : Mark} → Whole q d n f z → Spells m w → Passes d n (m ∷ []) d' n' → MarkValue m → f + mark_fields m ≤ most_term_fields → Whole (q ++ w) d' n' (f + mark_fields m) (z + mark_size m)
unfolding field_marks sizes
whole_then {m = m} w x fl v h = record {
  marks = w.marks ++ (m ∷ []);
  spelled = spelled_then w.spelled x;
  passes = pass_append w.passes fl;
  values = values_join w.marks (m ∷ []) w.values (v, tt);
  counts = let c = w.counts in omega (arith, field_marks_append w.marks (m ∷ []));
  few = h;
  bytes = let c = w.bytes in omega (arith, sizes-append w.marks (m ∷ []));
}

-- a blank more
whole_blank : {q : List ℕ} {d : Bool} {n f z : ℕ} → Whole q d n f z → Whole (q ++ (32 ∷ [])) d n f z
whole_blank {q} w = record
    { marks = w.marks; spelled = subst (λ (l : List Mark). Spelled (q ++ (32 ∷ [])) l) (append-nil w.marks) (spelled_append w.spelled (blanked ends)); passes = w.passes; values = w.values; counts = w.counts; few = w.few; bytes = w.bytes }

part_viable : {q : List ℕ} {d d' : Bool} {n n' f z : ℕ} {m : Mark} (part rest : List ℕ) → Whole q d n f z → Spells m (part ++ rest) → Passes d n (m ∷ []) d' n' → Viable (q ++ part)
part_viable {q} {d' = d'} part rest w x fl = viable_prefix (q ++ part) rest (subst Viable (sym (append_assoc q part rest)) (pass_viable d' (spelled_then w.spelled x) (pass_append w.passes fl)))

-- the words with a number
pub data Valued : Type 0 where
  rulish : Valued
  goalish : Valued
  tacticish : Valued

abbrev pub kind_of : Valued → Numbered
kind_of rulish = of_rule
kind_of goalish = of_goal
kind_of tacticish = of_tactic

abbrev pub leaf_of : Valued → ℕ → Leaf
leaf_of rulish = rule_leaf
leaf_of goalish = goal_leaf
leaf_of tacticish = tactic_leaf

valued_spells : {n : ℕ} {ds : List ℕ} (κ : Valued) → Number ds n → Spells (leaf (leaf_of κ n)) (head_of (kind_of κ) ∷ ds)
valued_spells rulish p = rule p
valued_spells goalish p = assertion p
valued_spells tacticish p = tactic p

valued_value : (κ : Valued) (n : ℕ) → n < 65536 → MarkValue (leaf (leaf_of κ n))
unfolding MarkValue
valued_value rulish n h = h
valued_value goalish n h = h
valued_value tacticish n h = h

valued_size : (κ : Valued) (n : ℕ) → mark_size (leaf (leaf_of κ n)) ≡ 5
unfolding mark_size
valued_size rulish n = refl
valued_size goalish n = refl
valued_size tacticish n = refl

valued_last : (κ : Valued) (n : ℕ) (r : List ℕ) → NoDigit r → LastOf (leaf (leaf_of κ n)) r
valued_last rulish n r h = h
valued_last goalish n r h = h
valued_last tacticish n r h = h

-- a part of a mark behind whole marks
pub record Inside (part p : List ℕ) (k n f z : ℕ) : Type 0 where
  pub before : List ℕ
  pub is : p ≡ before ++ part
  pub whole : Whole before true n f z
  pub mark : k ≡ length before

pub record InLeaf (c : ℕ) (p : List ℕ) (k n f z : ℕ) : Type 0 where
  pub kind : Valued
  pub digits : List ℕ
  pub value : ℕ
  pub numbered : Number digits value
  pub kept : Kept value c
  pub inside : Inside (head_of (kind_of kind) ∷ digits) p k n f z

pub record InLabel (c : ℕ) (p : List ℕ) (k n f z : ℕ) : Type 0 where
  pub digits : List ℕ
  pub value : ℕ
  pub numbered : Number digits value
  pub kept : Kept value c
  pub inside : Inside (91 ∷ digits) p k n f z

-- the scan stands behind p
abbrev pub StandsIn : Mode → (k n f z : ℕ) → List ℕ → Type 0
StandsIn M.due k n f z p = Whole p true n f z
StandsIn M.had k n f z p = Whole p false n f z
StandsIn M.begun k n f z p = (κ : Valued) × Inside (head_of (kind_of κ) ∷ []) p k n f z
StandsIn M.label_begun k n f z p = Inside (91 ∷ []) p k n f z
StandsIn (M.in_digits c) k n f z p = InLeaf c p k n f z
StandsIn (M.in_label_digits c) k n f z p = InLabel c p k n f z
StandsIn M.half_id k n f z p = Inside (105 ∷ []) p k n f z
StandsIn M.half_empty k n f z p = Inside (60 ∷ []) p k n f z

abbrev pub Stands : Scan → List ℕ → Type 0
Stands τ p = StandsIn τ.mode τ.mark τ.depth τ.fields τ.size p

inside_viable : {part p : List ℕ} {k n f z n' : ℕ} {d' : Bool} {m : Mark} (rest : List ℕ) → Inside part p k n f z → Spells m (part ++ rest) → Passes true n (m ∷ []) d' n' → Viable p
inside_viable {part} rest i x fl = subst Viable (sym i.is) (part_viable part rest i.whole x fl)

zero_digit : IsDigit 48
zero_digit = omega arith

pub stands_viable : (m : Mode) (k n f z : ℕ) (p : List ℕ) → StandsIn m k n f z p → Viable p
stands_viable M.due k n f z p w = whole_viable w
stands_viable M.had k n f z p w = whole_viable w
stands_viable M.begun k n f z p w = inside_viable (48 ∷ []) w.1 (valued_spells w.0 (number zero_digit no_more)) (past_leaf rests)
stands_viable M.label_begun k n f z p w = inside_viable (48 ∷ 93 ∷ []) w (labelling (number zero_digit no_more)) (past_label rests)
stands_viable (M.in_digits c) k n f z p w = inside_viable [] w.inside (subst (λ (l : List ℕ). Spells (leaf (leaf_of w.kind w.value)) l) (sym (append-nil (head_of (kind_of w.kind) ∷ w.digits))) (valued_spells w.kind w.numbered)) (past_leaf rests)
stands_viable (M.in_label_digits c) k n f z p w = inside_viable (93 ∷ []) w.inside (labelling w.numbered) (past_label rests)
stands_viable M.half_id k n f z p w = inside_viable (100 ∷ []) w identity (past_leaf rests)
stands_viable M.half_empty k n f z p w = inside_viable (62 ∷ []) w nothing (past_leaf rests)

-- a refusal at the byte behind p, or at the end
pub data Refusal (text p : List ℕ) : Cause → ℕ → Type 0 where
  is_wrong : Refusal text p TextWrong (length p)
  is_large : {x : ℕ} → Large text x → Refusal text p ValueTooLarge x
  is_full : {x : ℕ} → Full text x → Refusal text p LimitPassed x

abbrev pub StepOk : (text p : List ℕ) (b : ℕ) → Result Scan → Type 0
StepOk text p b (gives τ) = Stands τ (p ++ (b ∷ []))
StepOk text p b (refused c x) = Refusal text p c x

pub branch : (P : Result Scan → Type 0) (c : Bool) (x y : Result Scan) → (c ≡ true → P x) → (c ≡ false → P y) → P (cond c x y)
branch P true x y f g = f refl
branch P false x y f g = g refl

field_one : {d : Bool} {m : Mark} → FieldAt d m → mark_fields m ≡ 1
unfolding mark_fields
field_one a_leaf = refl
field_one a_label = refl
field_one a_sign = refl

pub digit_is : (b : ℕ) → is_digit b ≡ true → IsDigit b
unfolding is_digit
digit_is b e = go (ltb b 48) refl e
  where
    go : (c : Bool) → ltb b 48 ≡ c → cond c false (ltb b 58) ≡ true → IsDigit b
    go true h k = let z : ◌≡◌ {A = Bool} false true = k in absurd (no_way z)
      where
        no_way : false ≡ true → ⊥
        no_way h = let z : ◌≡◌ {A = ℕ} 0 1 = cc in omega arith
    go false h k = (ltb-false b 48 h, ltb-true b 58 k)

test_of : {P : Type 0} (c : Bool) (x y : Bool) → (c ≡ true → P) → (c ≡ false → y ≡ true → P) → cond c x y ≡ true → P
test_of true x y f g h = f refl
test_of false x y f g h = g refl h

sign_of : (b : ℕ) → is_sign b ≡ true → (s : Sign) × (b ≡ sign_byte s)
unfolding is_sign
sign_of b e = test_of (eqb b 59) true _ (λ h. (semicolon, eqb-true b 59 h)) (λ h. test_of (eqb b 124) true _ (λ i. (bar, eqb-true b 124 i)) (λ i j. (star, eqb-true b 42 j))) e

numbered_of : (b : ℕ) → begins_numbered b ≡ true → (κ : Valued) × (b ≡ head_of (kind_of κ))
unfolding begins_numbered
numbered_of b e = test_of (eqb b 97) true _ (λ h. (rulish, eqb-true b 97 h)) (λ h. test_of (eqb b 63) true _ (λ i. (goalish, eqb-true b 63 i)) (λ i j. (tacticish, eqb-true b 84 j))) e

-- a mark is complete: 5, or whole marks
complete_ok : (text : List ℕ) (P : Result Scan → Type 0) {before w : List ℕ} {d d' : Bool} {n f z : ℕ} {m : Mark} (rest : List ℕ) (md : Mode) (k place : ℕ) (bytes : ℕ)
    → text ≡ before ++ (w ++ rest) → Whole before d n f z → Spells m w → FieldAt d m → MarkValue m → LastOf m rest → Passes d n (m ∷ []) d' n → place ≡ length before → mark_size m ≡ bytes
    → (Whole (before ++ w) d' n (f + 1) (z + bytes) → P (gives (scanned (mode_of d') k n (f + 1) (z + bytes)))) → (Full text place → P (refused LimitPassed place))
    → P (completes (mode_of d') place bytes (scanned md k n f z))
unfolding completes
complete_ok text P {before} {w} {d} {d'} {n} {f} {z} {m} rest md k place bytes is wh sp fa v la fl pl sz yes-ok no_Ok =
    branch P (leb most_term_fields f) _ _
    (λ e. let few = wh.few in let at_most : f ≡ most_term_fields = omega (arith, leb-true most_term_fields f e) in
    no_Ok (record { before = before; mark = m; bytes = w; rest = rest; due = d; is = is; unrefused = subst (λ (c : ℕ). Unrefused before d c) at_most (unrefused_of wh); spells = sp; field = fa; value = v; last = la; viable = pass_viable d' (spelled_then wh.spelled sp) (pass_append wh.passes fl); place = pl }))
    (λ e. yes-ok (subst (λ (c : ℕ). Whole (before ++ w) d' n (f + c) (z + bytes)) (field_one fa) (subst (λ (c : ℕ). Whole (before ++ w) d' n (f + mark_fields m) (z + c)) sz (whole_then wh sp fl v (omega (arith, leb-false most_term_fields f e, field_one fa))))))

inside_more : {part p : List ℕ} {k n f z : ℕ} (b : ℕ) → Inside part p k n f z → Inside (part ++ (b ∷ [])) (p ++ (b ∷ [])) k n f z
inside_more {part} b i = record { before = i.before; is = ap (λ (l : List ℕ). l ++ (b ∷ [])) i.is ∙ append_assoc i.before part (b ∷ []); whole = i.whole; mark = i.mark }

first_inside : {p : List ℕ} {n f z : ℕ} (b c : ℕ) → b ≡ c → Whole p true n f z → Inside (c ∷ []) (p ++ (b ∷ [])) (length p) n f z
first_inside {p} b c e w = record { before = p; is = ap (λ (x : ℕ). p ++ (x ∷ [])) e; whole = w; mark = refl }

module _ (text p : List ℕ) (b : ℕ) (s : List ℕ) (is : text ≡ p ++ (b ∷ s)) where
  blank_ok : {d : Bool} {n f z : ℕ} → b ≡ 32 → Whole p d n f z → Whole (p ++ (b ∷ [])) d n f z
  blank_ok {d} {n} {f} {z} e w = subst (λ (x : ℕ). Whole (p ++ (x ∷ [])) d n f z) (sym e) (whole_blank w)

  mark_ok : {d d' : Bool} {n n' f z : ℕ} {m : Mark} (c : ℕ) → b ≡ c → Spells m (c ∷ []) → Passes d n (m ∷ []) d' n' → MarkValue m → mark_fields m ≡ 0 → mark_size m ≡ 0 → Whole p d n f z → Whole (p ++ (b ∷ [])) d' n' f z
  mark_ok {d} {d'} {n} {n'} {f} {z} {m} c e x fl v one no_bytes w =
      subst (λ (y : ℕ). Whole (p ++ (y ∷ [])) d' n' f z) (sym e)
      (subst (λ (y : ℕ). Whole (p ++ (c ∷ [])) d' n' y z) (plain f one)
      (subst (λ (y : ℕ). Whole (p ++ (c ∷ [])) d' n' (f + mark_fields m) y) (plain z no_bytes) (whole_then w x fl v (let h = w.few in omega arith))))
    where
      plain : {i : ℕ} (a : ℕ) → i ≡ 0 → a + i ≡ a
      plain a e = omega arith

  had_ok : {n f z : ℕ} (md : Mode) (k : ℕ) → Whole p false n f z → StepOk text p b (on_had (scanned md k n f z) (length p) b)
  unfolding on_had MarkValue mark_size mark_fields
  had_ok {n} {f} {z} md k w =
      branch (StepOk text p b) (eqb b 32) _ _ (λ e. blank_ok (eqb-true b 32 e) w) (λ e.
      branch (StepOk text p b) (is_sign b) _ _ (λ h. let x = sign_of b h in
      complete_ok text (StepOk text p b) s md k (length p) 3 is w (subst (λ (y : ℕ). Spells (sign x.0) (y ∷ [])) (sym x.1) (between x.0)) a_sign tt tt (past_sign rests) refl refl (λ y. y) (λ y. is_full y)) (λ h.
      branch (StepOk text p b) (eqb b 41) _ _ (λ i.
      branch (StepOk text p b) (eqb n 0) _ _ (λ j. is_wrong) (λ j. mark_ok 41 (eqb-true b 41 i) closes (subst (λ (y : ℕ). Passes false y (closing ∷ []) false (n - 1)) (back (eqb-false n 0 j)) (past_closing rests)) tt refl refl w)) (λ i.
      is_wrong)))
    where
      back : (n ≡ 0 → ⊥) → suc (n - 1) ≡ n
      back h = omega (arith, h)

  due_ok : {n f z : ℕ} (md : Mode) (k : ℕ) → Whole p true n f z → StepOk text p b (on_due (scanned md k n f z) (length p) b)
  unfolding on_due MarkValue mark_size mark_fields
  due_ok {n} {f} {z} md k w =
      branch (StepOk text p b) (eqb b 32) _ _ (λ e. blank_ok (eqb-true b 32 e) w) (λ e.
      branch (StepOk text p b) (begins_numbered b) _ _ (λ h. let x = numbered_of b h in (x.0, first_inside b (head_of (kind_of x.0)) x.1 w)) (λ h.
      branch (StepOk text p b) (eqb b 105) _ _ (λ i. first_inside b 105 (eqb-true b 105 i) w) (λ i.
      branch (StepOk text p b) (eqb b 60) _ _ (λ i. first_inside b 60 (eqb-true b 60 i) w) (λ i.
      branch (StepOk text p b) (eqb b 91) _ _ (λ i. first_inside b 91 (eqb-true b 91 i) w) (λ i.
      branch (StepOk text p b) (eqb b 40) _ _ (λ i. subst (λ (y : ℕ). Whole (p ++ (b ∷ [])) true y f z) (one n) (mark_ok 40 (eqb-true b 40 i) opens (past_opening rests) tt refl refl w)) (λ i.
      is_wrong))))))
    where
      one : (n : ℕ) → suc n ≡ n + 1
      one n = omega arith

split_is : {text part p : List ℕ} {k n f z : ℕ} (r : List ℕ) → text ≡ p ++ r → (i : Inside part p k n f z) → text ≡ i.before ++ (part ++ r)
split_is {part = part} r is i = is ∙ ap (λ (l : List ℕ). l ++ r) i.is ∙ append_assoc i.before part r

-- the last digit of a leaf was read: 37, 5, or the leaf
leaf_ends_ok : (text p r : List ℕ) → text ≡ p ++ r → NoDigit r → (Q : Result Scan → Type 0) (next : Scan → Result Scan) (c k n f z : ℕ) → InLeaf c p k n f z
    → ((x : Cause) (y : ℕ) → Refusal text p x y → Q (refused x y)) → (Whole p false n (f + 1) (z + 5) → Q (next (scanned M.had k n (f + 1) (z + 5))))
    → Q (and_then (leaf_ends c (scanned (M.in_digits c) k n f z)) next)
unfolding leaf_ends and_then
leaf_ends_ok text p r is nd Q next c k n f z w no_Ok yes-ok =
    let i = w.inside in
    let here = i.mark in
    branch (λ x. Q (and_then x next)) (ltb most_value c) _ _
    (λ e. no_Ok ValueTooLarge (k + 1) (is_large (record {
      before = i.before;
      kind = kind_of w.kind;
      digits = w.digits;
      rest = r;
      value = w.value;
      count = f;
      is = split_is r is i;
      unrefused = unrefused_of i.whole;
      numbered = w.numbered;
      over = w.kept.over (ltb-true most_value c e);
      last = nd;
      viable = subst Viable i.is (stands_viable (M.in_digits c) k n f z p w);
      place = omega arith;
    })))
    (λ e. let same : c ≡ w.value = w.kept.same (ltb-false most_value c e) in
    complete_ok text (λ x. Q (and_then x next)) r (M.in_digits c) k k 5 (split_is r is i) i.whole (valued_spells w.kind w.numbered) a_leaf (valued_value w.kind w.value (omega (arith, ltb-false most_value c e))) (valued_last w.kind w.value r nd) (past_leaf rests) here (valued_size w.kind w.value)
    (λ x. yes-ok (subst (λ (l : List ℕ). Whole l false n (f + 1) (z + 5)) (sym i.is) x))
    (λ x. no_Ok LimitPassed k (is_full x)))

module _ (text p : List ℕ) (b : ℕ) (s : List ℕ) (is : text ≡ p ++ (b ∷ s)) where
  refusal_ok : (x : Cause) (y : ℕ) → Refusal text p x y → StepOk text p b (refused x y)
  refusal_ok x y r = r

  digits_ok : (c k n f z : ℕ) → InLeaf c p k n f z → StepOk text p b (on_digits c (scanned (M.in_digits c) k n f z) (length p) b)
  unfolding on_digits
  digits_ok c k n f z w =
      branch (StepOk text p b) (is_digit b) _ _
      (λ e. record { kind = w.kind; digits = w.digits ++ (b ∷ []); value = w.value * 10 + (b - 48); numbered = number_then (digit_is b e) w.numbered; kept = kept_more w.value c b w.kept; inside = inside_more b w.inside })
      (λ e. leaf_ends_ok text p (b ∷ s) is e (StepOk text p b) (λ τ. on_had τ (length p) b) c k n f z w refusal_ok (λ x. had_ok text p b s is M.had k x))

  label_digits_ok : (c k n f z : ℕ) → InLabel c p k n f z → StepOk text p b (on_label_digits c (scanned (M.in_label_digits c) k n f z) (length p) b)
  unfolding on_label_digits label_ends MarkValue mark_size
  label_digits_ok c k n f z w =
      let i = w.inside in
      let here = i.mark in
      branch (StepOk text p b) (is_digit b) _ _
      (λ e. record { digits = w.digits ++ (b ∷ []); value = w.value * 10 + (b - 48); numbered = number_then (digit_is b e) w.numbered; kept = kept_more w.value c b w.kept; inside = inside_more b i })
      (λ e. branch (StepOk text p b) (ltb most_value c) _ _
      (λ o. is_large (record {
        before = i.before;
        kind = of_label;
        digits = w.digits;
        rest = b ∷ s;
        value = w.value;
        count = f;
        is = split_is (b ∷ s) is i;
        unrefused = unrefused_of i.whole;
        numbered = w.numbered;
        over = w.kept.over (ltb-true most_value c o);
        last = e;
        viable = subst Viable i.is (stands_viable (M.in_label_digits c) k n f z p w);
        place = omega arith;
      }))
      (λ o. let same : c ≡ w.value = w.kept.same (ltb-false most_value c o) in
      branch (StepOk text p b) (eqb b 93) _ _
      (λ h. complete_ok text (StepOk text p b) s (M.in_label_digits c) k k 5 (label_is w.digits i (eqb-true b 93 h)) i.whole (labelling w.numbered) a_label (omega (arith, ltb-false most_value c o)) tt (past_label rests) here refl
      (λ x. subst (λ (l : List ℕ). Whole l true n (f + 1) (z + 5)) (label_before w.digits i (eqb-true b 93 h)) x) (λ x. is_full x))
      (λ h. is_wrong)))
    where
      label_is : {k n f z : ℕ} (ds : List ℕ) (i : Inside (91 ∷ ds) p k n f z) → b ≡ 93 → text ≡ i.before ++ ((91 ∷ (ds ++ (93 ∷ []))) ++ s)
      label_is ds i e = split_is (b ∷ s) is i ∙ ap (λ (x : ℕ). i.before ++ (91 ∷ (ds ++ (x ∷ s)))) e ∙ ap (λ (l : List ℕ). i.before ++ (91 ∷ l)) (sym (append_assoc ds (93 ∷ []) s))

      label_before : {k n f z : ℕ} (ds : List ℕ) (i : Inside (91 ∷ ds) p k n f z) → b ≡ 93 → i.before ++ (91 ∷ (ds ++ (93 ∷ []))) ≡ p ++ (b ∷ [])
      label_before ds i e = ap (λ (x : ℕ). i.before ++ (91 ∷ (ds ++ (x ∷ [])))) (sym e) ∙ sym (append_assoc i.before (91 ∷ ds) (b ∷ [])) ∙ ap (λ (l : List ℕ). l ++ (b ∷ [])) (sym i.is)

  -- a mark of two bytes
  half_ok : (h c : ℕ) (w : Leaf) (md : Mode) (k n f z : ℕ) → Spells (leaf w) (h ∷ c ∷ []) → MarkValue (leaf w) → LastOf (leaf w) s → mark_size (leaf w) ≡ 3 → Inside (h ∷ []) p k n f z
      → StepOk text p b (cond (eqb b c) (completes M.had k 3 (scanned md k n f z)) (refused TextWrong (length p)))
  half_ok h c w md k n f z sp v la sz i =
      branch (StepOk text p b) (eqb b c) _ _
      (λ e. complete_ok text (StepOk text p b) s md k k 3 (split_is (b ∷ s) is i ∙ ap (λ (x : ℕ). i.before ++ (h ∷ x ∷ s)) (eqb-true b c e)) i.whole sp a_leaf v la (past_leaf rests) i.mark sz
      (λ x. subst (λ (l : List ℕ). Whole l false n (f + 1) (z + 3)) (ap (λ (x : ℕ). i.before ++ (h ∷ x ∷ [])) (sym (eqb-true b c e)) ∙ sym (append_assoc i.before (h ∷ []) (b ∷ [])) ∙ ap (λ (l : List ℕ). l ++ (b ∷ [])) (sym i.is)) x) (λ x. is_full x))
      (λ e. is_wrong)

  pub step_ok : (m : Mode) (k n f z : ℕ) → StandsIn m k n f z p → StepOk text p b (step_in m (scanned m k n f z) (length p) b)
  unfolding step_in on_begun on_label_begun on_half MarkValue mark_size
  step_ok M.due k n f z w = due_ok text p b s is M.due k w
  step_ok M.had k n f z w = had_ok text p b s is M.had k w
  step_ok M.begun k n f z w =
      branch (StepOk text p b) (is_digit b) _ _
      (λ e. record { kind = w.0; digits = b ∷ []; value = b - 48; numbered = number (digit_is b e) no_more; kept = record { over = λ h. h; same = λ h. refl }; inside = inside_more b w.1 })
      (λ e. is_wrong)
  step_ok M.label_begun k n f z w =
      branch (StepOk text p b) (is_digit b) _ _
      (λ e. record { digits = b ∷ []; value = b - 48; numbered = number (digit_is b e) no_more; kept = record { over = λ h. h; same = λ h. refl }; inside = inside_more b w })
      (λ e. is_wrong)
  step_ok (M.in_digits c) k n f z w = digits_ok c k n f z w
  step_ok (M.in_label_digits c) k n f z w = label_digits_ok c k n f z w
  step_ok M.half_id k n f z w = half_ok 105 100 id_leaf M.half_id k n f z identity tt tt refl w
  step_ok M.half_empty k n f z w = half_ok 60 62 empty_leaf M.half_empty k n f z nothing tt tt refl w

-- at the end: a term within the limits, with its size
pub record FitsIn (text : List ℕ) (f z : ℕ) : Type 0 where
  pub fits : Fits text
  pub fields_are : f ≡ fields fits.term
  pub size_is : z ≡ size fits.term

abbrev pub EndOk : (text p : List ℕ) → Result Scan → Type 0
EndOk text p (gives τ) = FitsIn text τ.fields τ.size
EndOk text p (refused c x) = Refusal text p c x

finished_ok : (text p : List ℕ) → text ≡ p ++ [] → (md : Mode) (k n f z : ℕ) → Whole p false n f z → EndOk text p (finished (scanned md k n f z) (length p))
unfolding finished
finished_ok text p is md k n f z w =
    branch (EndOk text p) (eqb n 0) _ _
    (λ e. fits (eqb-true n 0 e))
    (λ e. is_wrong)
  where
    fits : n ≡ 0 → FitsIn text f z
    fits e =
        let r = pass_reads (subst (λ (y : ℕ). Passes true 0 w.marks false y) e w.passes) in
        let c = w.counts in let few = w.few in let by = w.bytes in
        record {
          fits = record { term = r.term; reads = record { marks = w.marks; end = r.end; spelled = subst (λ (l : List ℕ). Spelled l w.marks) (sym (is ∙ append-nil p)) w.spelled; read = r.reads }; values = reads_values r.reads w.values; few = omega (arith, reads-fields r.reads) };
          fields_are = omega (arith, reads-fields r.reads);
          size_is = omega (arith, reads-size r.reads);
        }

pub end_ok : (text p : List ℕ) → text ≡ p ++ [] → (m : Mode) (k n f z : ℕ) → StandsIn m k n f z p → EndOk text p (end_in m (scanned m k n f z) (length p))
unfolding end_in
end_ok text p is M.due k n f z w = is_wrong
end_ok text p is M.had k n f z w = finished_ok text p is M.had k n f z w
end_ok text p is M.begun k n f z w = is_wrong
end_ok text p is M.label_begun k n f z w = is_wrong
end_ok text p is (M.in_digits c) k n f z w = leaf_ends_ok text p [] is tt (EndOk text p) (λ τ. finished τ (length p)) c k n f z w (λ x y r. r) (λ x. finished_ok text p is M.had k n (f + 1) (z + 5) x)
end_ok text p is (M.in_label_digits c) k n f z w =
    let i = w.inside in
    let here = i.mark in
    branch (EndOk text p) (ltb most_value c) _ _
    (λ o. is_large (record {
      before = i.before;
      kind = of_label;
      digits = w.digits;
      rest = [];
      value = w.value;
      count = f;
      is = split_is [] is i;
      unrefused = unrefused_of i.whole;
      numbered = w.numbered;
      over = w.kept.over (ltb-true most_value c o);
      last = tt;
      viable = subst Viable i.is (stands_viable (M.in_label_digits c) k n f z p w);
      place = omega arith;
    }))
    (λ o. is_wrong)
end_ok text p is M.half_id k n f z w = is_wrong
end_ok text p is M.half_empty k n f z w = is_wrong
