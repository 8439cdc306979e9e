-- What the reading of a text comes to, and when.
-- Assumes nothing.
use mathlib.Core.Path.{◌≡◌, refl, sym, ap, ◌∙◌, subst}
use mathlib.Core.Bool.{Bool, true, false, cond}
use mathlib.Core.List.{List, [], ◌∷◌, ◌++◌, append_assoc}
use mathlib.Core.Option.{Option, none, some}
use Prim.Native.Nat.{ℕ, ◌≤◌, ◌<◌}
use native.Mathlib.Omega.{arith}
use lib.Dec.{ltb}
use lib.ListN.{length, length-append}
use borrow.Author.Tests.{ltb-true, ltb-false, lt-ltb, le-ltb}
use Rattle.format.specs.Inputs.{of_size}
use Rattle.format.specs.Limits.{most_bytes, most_term_fields}
use Rattle.format.specs.declared.refusals.Cause.{Cause}
use Rattle.format.specs.declared.refusals.Cause.TheVariants.{InputTooLong, LimitPassed, TextWrong, ValueTooLarge}
use Rattle.format.specs.Results.{Result, gives, refused, and_then}
use Rattle.format.specs.Terms.{Term, fields}
use Rattle.format.specs.Encoding.{TermValues}
use Rattle.notation.specs.Scans.{Scan}
use Rattle.notation.specs.Grammar.{ReadsAs}
use Rattle.notation.specs.MarksIn.{marks_in}
use Rattle.notation.specs.FromRight.{state_of, term_of}
use Rattle.notation.specs.Meets.{Viable, head_of, Large, Full, Wrong, Fits}
use Rattle.notation.specs.Scans.{start, scan}
use Rattle.notation.specs.Parse.{term_found, parse}
use Rattle.notation.proofs.TextLaws.{text_term}
use Rattle.notation.proofs.ViableLaws.{viable_prefix, fits-scan}
use Rattle.notation.proofs.ReaderLaws.{Verdict, wrong, over, fulls, Told, text_told, large_scan, full_scan}

-- of two beginnings of one list the longer one goes on where the shorter one ends
longer : (a r a' r' : List ℕ) → a ++ r ≡ a' ++ r' → length a < length a' → (b : ℕ) × (x : List ℕ) × (r ≡ b ∷ (x ++ r')) × (a' ≡ a ++ (b ∷ x))
longer [] r [] r' e h = absurd (omega arith)
longer [] r (c ∷ a') r' e h = (c, a', e, refl)
longer (b ∷ a) r [] r' e h = absurd (omega arith)
longer (b ∷ a) r (c ∷ a') r' e h =
    let tails : a ++ r ≡ a' ++ r' = cc in
    let heads : b ≡ c = cc in
    let x = longer a r a' r' tails (omega arith) in
    (x.0, x.1, x.2, cons (x.0 ∷ x.1) heads x.3)
  where
    cons : (y : List ℕ) → b ≡ c → a' ≡ a ++ y → c ∷ a' ≡ b ∷ (a ++ y)
    cons y p q = cc

not_before : {text : List ℕ} {p q : ℕ} → Wrong text p → Wrong text q → p < q → ⊥
not_before {text} {p} {q} x y h =
    let e = x.place in let f = y.place in
    let l = longer x.before x.rest y.before y.rest (sym x.is ∙ y.is) (omega arith) in
    x.no_more l.0 (l.1 ++ y.rest) l.2 (viable_prefix (x.before ++ (l.0 ∷ [])) l.1 (subst Viable (l.3 ∙ sym (append_assoc x.before (l.0 ∷ []) l.1)) y.viable))

-- 36 has one place
pub one_place : {text : List ℕ} {p q : ℕ} → Wrong text p → Wrong text q → p ≡ q
one_place {text} {p} {q} x y = go (ltb p q) refl (ltb q p) refl
  where
    go : (c : Bool) → ltb p q ≡ c → (d : Bool) → ltb q p ≡ d → p ≡ q
    go true e d f = absurd (not_before x y (ltb-true p q e))
    go false e true f = absurd (not_before y x (ltb-true q p f))
    go false e false f = omega (arith, ltb-false p q e, ltb-false q p f)

-- where 36 is, no term is read
wrong_unread : {text : List ℕ} {p : ℕ} {t : Term} → Wrong text p → ReadsAs text t → ⊥
wrong_unread {text} {p} {t} x r = go x.rest refl
  where
    go : (s : List ℕ) → x.rest ≡ s → ⊥
    go [] e = x.no_end e t r
    go (b ∷ s) e = x.no_more b s e (record { more = s; term = t; reads = subst (λ (l : List ℕ). ReadsAs l t) (x.is ∙ ap (λ (l : List ℕ). x.before ++ l) e ∙ sym (append_assoc x.before (b ∷ []) s)) r })

-- 36, where neither 37 nor 5 is met before
pub wrong_scan : {text : List ℕ} {p : ℕ} → Wrong text p → ((q : ℕ) → Large text q → ⊥) → ((q : ℕ) → Full text q → ⊥) → scan start 0 text ≡ refused TextWrong p
wrong_scan {text} {p} x no-large no-full = go (scan start 0 text) refl (text_told text)
  where
    by : {c : Cause} {q : ℕ} → Verdict text c q → ◌≡◌ {A = Result Scan} (refused c q) (refused TextWrong p)
    by (wrong {x = q} w) = ap (refused TextWrong) (one_place w x)
    by (over {x = q} l) = absurd (no-large q l)
    by (fulls {x = q} l) = absurd (no-full q l)

    go : (y : Result Scan) → scan start 0 text ≡ y → Told text y → y ≡ refused TextWrong p
    go (gives σ) e f = absurd (wrong_unread x f.fits.reads)
    go (refused c q) e v = by v

-- the reading of a text of at most 65,535 bytes
sized : {A : Type 0} (s : List ℕ) (x : Result A) → length s ≤ most_bytes → of_size s x ≡ x
sized {A} s x h = ap (λ (c : Bool). cond {A = Result A} c (refused InputTooLong 0) x) (le-ltb most_bytes (length s) h)

-- 0 with t, exactly if the text reads as t and t is within the limits
pub reads_text_lem : (s : List ℕ) (t : Term) → length s ≤ most_bytes → ReadsAs s t → TermValues t → fields t ≤ most_term_fields → parse s ≡ gives t
unfolding parse and_then term_found
reads_text_lem s t h r v f =
    let x = fits-scan (record { term = t; reads = r; values = v; few = f }) in
    sized s _ h ∙ ap (λ (y : Result Scan). and_then y (λ σ. term_found (length s) (term_of (state_of (marks_in s))))) x.1 ∙ ap (term_found (length s)) (text_term r)

pub text_reads : (s : List ℕ) (t : Term) → parse s ≡ gives t → (length s ≤ most_bytes) × ReadsAs s t × TermValues t × (fields t ≤ most_term_fields)
unfolding parse and_then term_found
text_reads s t e = size_go (ltb most_bytes (length s)) refl e
  where
    found : (f : Fits s) (o : Option Term) → term_of (state_of (marks_in s)) ≡ o → term_found (length s) o ≡ gives t → f.term ≡ t
    found f none p q = let z : ◌≡◌ {A = ℕ} 0 1 = cc in absurd (omega arith)
    found f (some u) p q = let a = text_term f.reads in cc

    go : (y : Result Scan) → Told s y → and_then y (λ σ. term_found (length s) (term_of (state_of (marks_in s)))) ≡ gives t → ReadsAs s t × TermValues t × (fields t ≤ most_term_fields)
    go (gives σ) x q = let f = x.fits in subst (λ (u : Term). ReadsAs s u × TermValues u × (fields u ≤ most_term_fields)) (found f (term_of (state_of (marks_in s))) refl q) (f.reads, f.values, f.few)
    go (refused c p) x q = let z : ◌≡◌ {A = ℕ} 0 1 = cc in absurd (omega arith)

    size_go : (c : Bool) → ltb most_bytes (length s) ≡ c → cond c (refused InputTooLong 0) (and_then (scan start 0 s) (λ σ. term_found (length s) (term_of (state_of (marks_in s))))) ≡ gives t → (length s ≤ most_bytes) × ReadsAs s t × TermValues t × (fields t ≤ most_term_fields)
    size_go true h q = let z : ◌≡◌ {A = ℕ} 0 1 = cc in absurd (omega arith)
    size_go false h q = let x = go (scan start 0 s) (text_told s) q in (ltb-false most_bytes (length s) h, x.0, x.1, x.2)

-- 36, 37 and 5 of the reading: exactly where they are met
pub reads_large : (s : List ℕ) (p : ℕ) → length s ≤ most_bytes → Large s p → parse s ≡ refused ValueTooLarge p
unfolding parse and_then
reads_large s p h x = sized s _ h ∙ ap (λ (y : Result Scan). and_then y (λ σ. term_found (length s) (term_of (state_of (marks_in s))))) (large_scan x)

pub reads_full : (s : List ℕ) (p : ℕ) → length s ≤ most_bytes → Full s p → parse s ≡ refused LimitPassed p
unfolding parse and_then
reads_full s p h x = sized s _ h ∙ ap (λ (y : Result Scan). and_then y (λ σ. term_found (length s) (term_of (state_of (marks_in s))))) (full_scan x)

pub reads_wrong : (s : List ℕ) (p : ℕ) → length s ≤ most_bytes → Wrong s p → ((q : ℕ) → Large s q → ⊥) → ((q : ℕ) → Full s q → ⊥) → parse s ≡ refused TextWrong p
unfolding parse and_then
reads_wrong s p h x a b = sized s _ h ∙ ap (λ (y : Result Scan). and_then y (λ σ. term_found (length s) (term_of (state_of (marks_in s))))) (wrong_scan x a b)

pub text_refused : (s : List ℕ) (c : Cause) (p : ℕ) → length s ≤ most_bytes → parse s ≡ refused c p → Verdict s c p
unfolding parse and_then term_found
text_refused s c p h e = go (scan start 0 s) (text_told s) (sym (sized s _ h) ∙ e)
  where
    same : {a b : Cause} {i j : ℕ} → ◌≡◌ {A = Result Term} (refused a i) (refused b j) → Verdict s a i → Verdict s b j
    same {a} {b} {i} {j} q v = let x : a ≡ b = cc in let y : i ≡ j = cc in subst (λ (k : Cause). Verdict s k j) x (subst (λ (k : ℕ). Verdict s a k) y v)

    go : (y : Result Scan) → Told s y → and_then y (λ σ. term_found (length s) (term_of (state_of (marks_in s)))) ≡ refused c p → Verdict s c p
    go (gives σ) x q = let f = text_term x.fits.reads in let z : ◌≡◌ {A = Result Term} (gives x.fits.term) (refused c p) = ap (term_found (length s)) (sym f) ∙ q in let k : ◌≡◌ {A = ℕ} 0 1 = cc in absurd (omega arith)
    go (refused a i) x q = same q x

-- a text that is too long
pub too_long : (s : List ℕ) → most_bytes < length s → parse s ≡ refused InputTooLong 0
unfolding parse
too_long s h = rw (lt-ltb most_bytes (length s) h)

-- what is met is met within the text or at its end
pub verdict_place : {text : List ℕ} {c : Cause} {x : ℕ} → Verdict text c x → x ≤ length text
verdict_place (wrong w) = let e = w.place in let l = ap length w.is in omega (arith, length-append w.before w.rest)
verdict_place (over w) = let e = w.place in let l = ap length w.is in omega (arith, length-append w.before (head_of w.kind ∷ (w.digits ++ w.rest)))
verdict_place (fulls w) = let e = w.place in let l = ap length w.is in omega (arith, length-append w.before (w.bytes ++ w.rest))
