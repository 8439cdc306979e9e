-- The scan answers 0 exactly for the texts that read as a term within the limits, 37 and 5 exactly where they are met first, and 36 at the first byte after which no text of the notation can follow.
-- Assumes nothing.
use mathlib.Core.Path.{◌≡◌, refl, sym, ap, ◌∙◌, subst}
use mathlib.Core.Bool.{Bool}
use mathlib.Core.List.{List, [], ◌∷◌, ◌++◌, append_assoc}
use Prim.Native.Nat.{ℕ, ◌+◌, ◌<◌}
use native.Mathlib.Omega.{arith}
use lib.ListN.{length, length-append}
use Rattle.format.specs.Limits.{most_term_fields}
use Rattle.format.specs.declared.refusals.Cause.{Cause}
use Rattle.format.specs.declared.refusals.Cause.TheVariants.{LimitPassed, TextWrong, ValueTooLarge}
use Rattle.format.specs.Results.{Result, gives, refused, and_then}
use Rattle.notation.specs.Scans as M
use Rattle.notation.specs.Scans.{Scan}
use Rattle.notation.specs.Letters.{is_digit}
use Rattle.notation.specs.Marks.{Mark, ends, Spells}
use Rattle.notation.specs.Grammar.{ReadsAs}
use Rattle.notation.specs.Passing.{rests, field_marks, sizes, mark_fields}
use Rattle.notation.specs.Meets.{Viable, NoDigit, Unrefused, Numbered, of_rule, of_goal, of_tactic, of_label, head_of, Large, LastOf, FieldAt, a_leaf, a_label, a_sign, Full, Wrong}
use Rattle.notation.specs.Scans.{most_value, scanned, start, on_begun, on_label_begun, on_half, step_in, step, end_in, at_end, scan, on_due, begins_numbered}
use Rattle.notation.proofs.TextLaws.{spells_start}
use Rattle.notation.proofs.ScanLaws.{mode_of, kept_under, number-scan, label_number-scan, digits_over, label_over, Passed, passes, too_large, too_many, leaf-scan, label_scan, sign_scan, Along, through, large, full, scan_along}
use Rattle.notation.proofs.ViableLaws.{reads_not_wrong}
use Rattle.notation.proofs.MeetLaws.{Stands, stands_viable, Refusal, is_wrong, is_large, is_full, StepOk, step_ok, FitsIn, EndOk, end_ok}

-- what is met
pub data Verdict (text : List ℕ) : Cause → ℕ → Type 0 where
  wrong : {x : ℕ} → Wrong text x → Verdict text TextWrong x
  over : {x : ℕ} → Large text x → Verdict text ValueTooLarge x
  fulls : {x : ℕ} → Full text x → Verdict text LimitPassed x

abbrev pub Told : (text : List ℕ) → Result Scan → Type 0
Told text (gives τ) = FitsIn text τ.fields τ.size
Told text (refused c x) = Verdict text c x

length_one : (p : List ℕ) (b : ℕ) → length (p ++ (b ∷ [])) ≡ length p + 1
length_one p b = length-append p (b ∷ [])

-- at the end
end_told : (text p : List ℕ) (τ : Scan) → text ≡ p ++ [] → Stands τ p → ((s : List ℕ) → scan start 0 (p ++ s) ≡ scan τ (length p) s) → Told text (scan τ (length p) [])
unfolding scan at_end
end_told text p τ is st reach = go (end_in τ.mode τ (length p)) refl (end_ok text p is τ.mode τ.mark τ.depth τ.fields τ.size st)
  where
    go : (x : Result Scan) → end_in τ.mode τ (length p) ≡ x → EndOk text p x → Told text x
    go (gives σ) e ok = ok
    go (refused c y) e ok = by ok e
      where
        by : {c : Cause} {y : ℕ} → Refusal text p c y → end_in τ.mode τ (length p) ≡ refused c y → Verdict text c y
        by is_wrong e = wrong (record {
          before = p;
          rest = [];
          is = is;
          place = refl;
          viable = stands_viable τ.mode τ.mark τ.depth τ.fields τ.size p st;
          no_more = λ b s h v. let z : ◌≡◌ {A = ℕ} 0 1 = cc in omega arith;
          no_end = λ h t r. reads_not_wrong (length p) (subst (λ (l : List ℕ). ReadsAs l t) is r) (reach [] ∙ e);
        })
        by (is_large x) e = over x
        by (is_full x) e = fulls x

-- at a byte
byte_told : (text p : List ℕ) (b : ℕ) (s : List ℕ) (τ : Scan) → text ≡ p ++ (b ∷ s) → Stands τ p → ((r : List ℕ) → scan start 0 (p ++ r) ≡ scan τ (length p) r)
    → ((σ : Scan) → Stands σ (p ++ (b ∷ [])) → ((r : List ℕ) → scan start 0 ((p ++ (b ∷ [])) ++ r) ≡ scan σ (length (p ++ (b ∷ []))) r) → Told text (scan σ (length (p ++ (b ∷ []))) s))
    → Told text (scan τ (length p) (b ∷ s))
unfolding scan step and_then
byte_told text p b s τ is st reach next = go (step_in τ.mode τ (length p) b) refl (step_ok text p b s is τ.mode τ.mark τ.depth τ.fields τ.size st)
  where
    reached : (σ : Scan) → step_in τ.mode τ (length p) b ≡ gives σ → (r : List ℕ) → scan start 0 ((p ++ (b ∷ [])) ++ r) ≡ scan σ (length (p ++ (b ∷ []))) r
    reached σ e r =
        ap (scan start 0) (append_assoc p (b ∷ []) r)
        ∙ reach (b ∷ r)
        ∙ ap (λ (x : Result Scan). and_then x (λ ρ. scan ρ (length p + 1) r)) e
        ∙ ap (λ (i : ℕ). scan σ i r) (sym (length_one p b))

    go : (x : Result Scan) → step_in τ.mode τ (length p) b ≡ x → StepOk text p b x → Told text (and_then x (λ ρ. scan ρ (length p + 1) s))
    go (gives σ) e ok = subst (λ (i : ℕ). Told text (scan σ i s)) (length_one p b) (next σ ok (reached σ e))
    go (refused c y) e ok = by ok e
      where
        by : {c : Cause} {y : ℕ} → Refusal text p c y → step_in τ.mode τ (length p) b ≡ refused c y → Verdict text c y
        by is_wrong e = wrong (record {
          before = p;
          rest = b ∷ s;
          is = is;
          place = refl;
          viable = stands_viable τ.mode τ.mark τ.depth τ.fields τ.size p st;
          no_more = λ b' s' h v.
              let same : b ≡ b' = cc in
              let w : Viable (p ++ (b ∷ [])) = subst (λ (x : ℕ). Viable (p ++ (x ∷ []))) (sym same) v in
              reads_not_wrong (length p) (subst (λ (l : List ℕ). ReadsAs l w.term) (append_assoc p (b ∷ []) w.more) w.reads) (reach (b ∷ w.more) ∙ ap (λ (x : Result Scan). and_then x (λ ρ. scan ρ (length p + 1) w.more)) e);
          no_end = λ h t r. let z : ◌≡◌ {A = ℕ} 0 1 = cc in omega arith;
        })
        by (is_large x) e = over x
        by (is_full x) e = fulls x

scan-told : (text s p : List ℕ) (τ : Scan) → text ≡ p ++ s → Stands τ p → ((r : List ℕ) → scan start 0 (p ++ r) ≡ scan τ (length p) r) → Told text (scan τ (length p) s)
scan-told text [] p τ is st reach = end_told text p τ is st reach
scan-told text (b ∷ s) p τ is st reach = byte_told text p b s τ is st reach (λ σ ok r. scan-told text s (p ++ (b ∷ [])) σ (is ∙ sym (append_assoc p (b ∷ []) s)) ok r)

-- what the scan of a text comes to is met in it
pub text_told : (text : List ℕ) → Told text (scan start 0 text)
unfolding field_marks sizes
text_told text = scan-told text text [] start refl (record { marks = []; spelled = ends; passes = rests; values = tt; counts = refl; few = omega arith; bytes = refl }) (λ r. refl)

-- whole marks in which nothing is met are passed
unrefused_scan : {q : List ℕ} {d : Bool} {n : ℕ} (c : Unrefused q d n) (r : List ℕ) → NoDigit r → (k z : ℕ) × (scan start 0 (q ++ r) ≡ scan (scanned (mode_of d) k c.depth n z) (length q) r)
unrefused_scan {q} {d} {n} c r h = go (scan_along c.spelled c.passes 0 0 0 0 r h)
  where
    plain : (i : ℕ) → 0 + i ≡ i
    plain i = omega arith

    go : Along c.marks 0 (scan start 0 (q ++ r)) (λ j. scan (scanned (mode_of d) j c.depth (0 + field_marks c.marks) (0 + sizes c.marks)) (0 + length q) r) → (k z : ℕ) × (scan start 0 (q ++ r) ≡ scan (scanned (mode_of d) k c.depth n z) (length q) r)
    go (through k e) = (k, 0 + sizes c.marks, e ∙ ap (λ (f : ℕ). scan (scanned (mode_of d) k c.depth f (0 + sizes c.marks)) (0 + length q) r) (plain (field_marks c.marks) ∙ c.counts) ∙ ap (λ (i : ℕ). scan (scanned (mode_of d) k c.depth n (0 + sizes c.marks)) i r) (plain (length q)))
    go (large p e v) = absurd (v c.values)
    go (full p e v) = let few = c.few in let counts = c.counts in absurd (v (omega arith))

head_start : (κ : Numbered) (s : List ℕ) → NoDigit (head_of κ ∷ s)
unfolding is_digit
head_start of_rule s = refl
head_start of_goal s = refl
head_start of_tactic s = refl
head_start of_label s = refl

over_scan : (κ : Numbered) (k d f z at v : ℕ) (ds r : List ℕ) → Rattle.notation.specs.Marks.Number ds v → most_value < v → NoDigit r → scan (scanned M.due k d f z) at (head_of κ ∷ (ds ++ r)) ≡ refused ValueTooLarge (at + 1)
unfolding scan step step_in on_begun on_label_begun on_half on_due begins_numbered and_then
over_scan of_rule k d f z at v ds r p h nd = let x = number-scan p at d f z (at + 1) r in x.2 ∙ digits_over x.0 at d f z (at + 1 + length ds) r nd (kept_under v x.0 x.1 h)
over_scan of_goal k d f z at v ds r p h nd = let x = number-scan p at d f z (at + 1) r in x.2 ∙ digits_over x.0 at d f z (at + 1 + length ds) r nd (kept_under v x.0 x.1 h)
over_scan of_tactic k d f z at v ds r p h nd = let x = number-scan p at d f z (at + 1) r in x.2 ∙ digits_over x.0 at d f z (at + 1 + length ds) r nd (kept_under v x.0 x.1 h)
over_scan of_label k d f z at v ds r p h nd = let x = label_number-scan p at d f z (at + 1) r in x.2 ∙ label_over x.0 at d f z (at + 1 + length ds) r nd (kept_under v x.0 x.1 h)

-- 37, where it is met first
pub large_scan : {text : List ℕ} {p : ℕ} → Large text p → scan start 0 text ≡ refused ValueTooLarge p
large_scan {text} {p} x =
    let c = unrefused_scan x.unrefused (head_of x.kind ∷ (x.digits ++ x.rest)) (head_start x.kind (x.digits ++ x.rest)) in
    ap (scan start 0) x.is ∙ c.2 ∙ over_scan x.kind c.0 x.unrefused.depth x.count c.1 (length x.before) x.value x.digits x.rest x.numbered x.over x.last ∙ ap (refused ValueTooLarge) (sym x.place)

passed_full : {m : Mark} {at : ℕ} {x : Result Scan} {next : ℕ → Result Scan} → Rattle.notation.specs.Passing.MarkValue m → mark_fields m ≡ 1 → Passed m most_term_fields at x next → x ≡ refused LimitPassed at
passed_full v one (passes k e few) = absurd (let h : most_term_fields < most_term_fields = few (omega arith) in omega arith)
passed_full v one (too_large e no_value) = absurd (no_value v)
passed_full v one (too_many e h) = e

full_at : {d : Bool} {m : Mark} {w : List ℕ} → FieldAt d m → Spells m w → Rattle.notation.specs.Passing.MarkValue m → (r : List ℕ) → LastOf m r → (k n z at : ℕ) → scan (scanned (mode_of d) k n most_term_fields z) at (w ++ r) ≡ refused LimitPassed at
unfolding mark_fields
full_at a_leaf sp v r la k n z at = passed_full v refl (leaf-scan sp k n most_term_fields z at r la)
full_at a_label sp v r la k n z at = passed_full v refl (label_scan sp k n most_term_fields z at r)
full_at a_sign sp v r la k n z at = passed_full v refl (sign_scan sp k n most_term_fields z at r)

-- 5, where it is met first
pub full_scan : {text : List ℕ} {p : ℕ} → Full text p → scan start 0 text ≡ refused LimitPassed p
full_scan {text} {p} x =
    let c = unrefused_scan x.unrefused (x.bytes ++ x.rest) (spells_start x.spells x.rest) in
    ap (scan start 0) x.is ∙ c.2 ∙ full_at x.field x.spells x.value x.rest x.last c.0 x.unrefused.depth c.1 (length x.before) ∙ ap (refused LimitPassed) (sym x.place)
