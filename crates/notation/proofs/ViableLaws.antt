-- Bytes that a text of the notation can begin with; and the scan of a text of the notation.
-- Assumes nothing.
use mathlib.Core.Path.{◌≡◌, sym, subst}
use mathlib.Core.Bool.{Bool, true, false}
use mathlib.Core.List.{List, [], ◌∷◌, ◌++◌, append_assoc, append-nil}
use Prim.Native.Nat.{ℕ, zero, suc, ◌+◌, ◌≤◌}
use native.Mathlib.Omega.{arith}
use lib.ListN.{replicate}
use Rattle.format.specs.Limits.{most_term_fields}
use Rattle.format.specs.declared.refusals.Cause.TheVariants.{TextWrong}
use Rattle.format.specs.Results.{gives, refused}
use Rattle.format.specs.Terms.{Term, fields, size}
use Rattle.notation.specs.Scans as M
use Rattle.notation.specs.Marks.{Mark, leaf, id_leaf, closing, Spells, identity, closes, Spelled, ends, blanked, marked}
use Rattle.notation.specs.Grammar.{ReadsAs}
use Rattle.notation.specs.Passing.{Passes, rests, past_leaf, past_closing, field_marks}
use Rattle.notation.specs.Meets.{Viable, Fits}
use Rattle.notation.specs.Scans.{scanned, start, finished, end_in, at_end, scan}
use Rattle.notation.proofs.PassingLaws.{pass_append, reads_pass, pass_reads, reads-fields, reads-size, values_read}
use Rattle.notation.proofs.ScanLaws.{Along, through, large, full, scan_along}

pub spelled_append : {p s : List ℕ} {ms ns : List Mark} → Spelled p ms → Spelled s ns → Spelled (p ++ s) (ms ++ ns)
spelled_append ends q = q
spelled_append (blanked p) q = blanked (spelled_append p q)
spelled_append {s = s} {ns = ns} (marked {m = m} {w = w} {s = r} {ms = ms} x p) q = subst (λ (l : List ℕ). Spelled l (m ∷ (ms ++ ns))) (sym (append_assoc w r s)) (marked x (spelled_append p q))

pub spelled_then : {p w : List ℕ} {ms : List Mark} {m : Mark} → Spelled p ms → Spells m w → Spelled (p ++ w) (ms ++ (m ∷ []))
spelled_then {p} {w} {ms} {m} q x = subst (λ (l : List ℕ). Spelled (p ++ l) (ms ++ (m ∷ []))) (append-nil w) (spelled_append q (marked x ends))

closings : (n : ℕ) → Spelled (replicate n 41) (replicate n closing)
closings zero = ends
closings (suc n) = marked closes (closings n)

closings_pass : (n : ℕ) → Passes false n (replicate n closing) false 0
closings_pass zero = rests
closings_pass (suc n) = past_closing (closings_pass n)

pub pass_viable : {p : List ℕ} {ms : List Mark} {n : ℕ} (d : Bool) → Spelled p ms → Passes true 0 ms d n → Viable p
pass_viable {p} {ms} {n} true q f =
    let r = pass_reads (pass_append f (past_leaf {w = id_leaf} (closings_pass n))) in
    record { more = 105 ∷ 100 ∷ replicate n 41; term = r.term; reads = record { marks = ms ++ (leaf id_leaf ∷ replicate n closing); end = r.end; spelled = spelled_append q (marked identity (closings n)); read = r.reads } }
pass_viable {p} {ms} {n} false q f =
    let r = pass_reads (pass_append f (closings_pass n)) in
    record { more = replicate n 41; term = r.term; reads = record { marks = ms ++ replicate n closing; end = r.end; spelled = spelled_append q (closings n); read = r.reads } }

pub viable_prefix : (p s : List ℕ) → Viable (p ++ s) → Viable p
viable_prefix p s v = record { more = s ++ v.more; term = v.term; reads = subst (λ (l : List ℕ). ReadsAs l v.term) (append_assoc p s v.more) v.reads }

-- the scan of a text that reads as a term: the term's fields and bytes, or a refusal that is not 36
pub reads_along : {text : List ℕ} {t : Term} (r : ReadsAs text t) → Along r.marks 0 (scan start 0 text) (λ k. gives (scanned M.had k 0 (fields t) (size t)))
unfolding scan at_end end_in finished
reads_along {text} {t} r =
    subst (λ (l : List ℕ). Along r.marks 0 (scan start 0 l) (λ k. gives (scanned M.had k 0 (fields t) (size t)))) (append-nil text)
    (subst (λ (f : ℕ). Along r.marks 0 (scan start 0 (text ++ [])) (λ k. gives (scanned M.had k 0 f (size t)))) (plain (reads-fields r.read))
    (subst (λ (z : ℕ). Along r.marks 0 (scan start 0 (text ++ [])) (λ k. gives (scanned M.had k 0 (0 + field_marks r.marks) z))) (plain (reads-size r.read))
    (scan_along r.spelled (reads_pass r.read 0) 0 0 0 0 [] tt)))
  where
    plain : {a b : ℕ} → a ≡ b → 0 + a ≡ b
    plain e = omega arith

-- a text within the limits is scanned to its end
pub fits-scan : {text : List ℕ} (x : Fits text) → (k : ℕ) × (scan start 0 text ≡ gives (scanned M.had k 0 (fields x.term) (size x.term)))
fits-scan {text} x = go (reads_along x.reads)
  where
    go : Along x.reads.marks 0 (scan start 0 text) (λ k. gives (scanned M.had k 0 (fields x.term) (size x.term))) → (k : ℕ) × (scan start 0 text ≡ gives (scanned M.had k 0 (fields x.term) (size x.term)))
    go (through k e) = (k, e)
    go (large p e v) = absurd (v (values_read x.reads.read x.values))
    go (full p e v) = let few : fields x.term ≤ most_term_fields = x.few in absurd (v (omega (arith, reads-fields x.reads.read)))

-- no text of the notation is refused with 36
pub reads_not_wrong : {text : List ℕ} {t : Term} (p : ℕ) → ReadsAs text t → scan start 0 text ≡ refused TextWrong p → ⊥
reads_not_wrong {text} {t} p r e = go (reads_along r)
  where
    go : Along r.marks 0 (scan start 0 text) (λ k. gives (scanned M.had k 0 (fields t) (size t))) → ⊥
    go (through k h) = let z : ◌≡◌ {A = ℕ} 0 1 = cc in omega arith
    go (large q h v) = let z : ◌≡◌ {A = ℕ} 0 1 = cc in omega arith
    go (full q h v) = let z : ◌≡◌ {A = ℕ} 0 1 = cc in omega arith
