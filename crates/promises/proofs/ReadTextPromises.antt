-- The promises about texts that are read, from the laws of the notation.
-- Assumes nothing.
use mathlib.Core.Path.{◌≡◌, refl, sym, ap, ◌∙◌, subst}
use mathlib.Core.Bool.{Bool, true, false, cond}
use mathlib.Core.Logic.{◌↔◌, ◌⊎◌, inl, inr}
use mathlib.Core.List.{List, []}
use Prim.Native.Nat.{ℕ, ◌≤◌, ◌<◌}
use native.Mathlib.Omega.{arith}
use native.Mathlib.Decide.{dec_lt}
use lib.ListN.{length}
use borrow.Author.Tests.{lt-ltb, le-ltb}
use Rattle.format.specs.Limits.{most_bytes}
use Rattle.format.specs.declared.refusals.Cause.{Cause}
use Rattle.format.specs.declared.refusals.Cause.TheVariants.{InputTooLong, LimitPassed, TextWrong, ValueTooLarge}
use Rattle.format.specs.Refusals.{number}
use Rattle.format.specs.Results.{Result, gives, refused}
use Rattle.format.proofs.ResultLaws.{number_positive, same_cause}
use Rattle.format.specs.Terms.{Term}
use Rattle.format.specs.Encoding.{term_bytes}
use Rattle.notation.specs.Grammar.{ReadsAs}
use Rattle.notation.specs.Meets.{Wrong, Large, Full}
use Rattle.notation.specs.Parse.{parse}
use Rattle.notation.proofs.TextLaws.{one_reading}
use Rattle.notation.proofs.ReaderLaws.{Verdict, wrong, over, fulls}
use Rattle.notation.proofs.ParseLaws.{reads_text_lem, text_reads, reads_large, reads_full, reads_wrong, text_refused, verdict_place, too_long}
use Rattle.answers.specs.declared.Answer.{Answer}
use Rattle.answers.specs.Answers as answer
use Rattle.entries.specs.Outcomes as outcomes
use Rattle.entries.specs.Outcomes.{Outcome, success, in_file, done, other_file}
use Rattle.entries.specs.LentSpace.{Written, write_out, write_in}
use Rattle.entries.specs.Texts.{read_text_work, read_text_outcome, read_text}
use Rattle.promises.specs.Ended.{InOther}
use Rattle.promises.specs.WriteProofPromises.{wrote}
use Rattle.promises.specs.ReadTextPromises.{TextReads, One-reading, ReadsText, ReadText-reads, RefusesText, ReadText-refuses, ReadText-too-long, ReadTextRefuses, EndsText, ReadText-ends}
use Rattle.promises.proofs.LentLaws.{ends_written, other_file_lem}
use Rattle.promises.proofs.OutcomeLaws.{Comes, comes_done, comes_other, comes_own, written_ends}

pub one_reading_only : One-reading
one_reading_only text t u p q = one_reading p q

-- 29
unbegun : (text work out : List ℕ) → length work < read_text_work → (read_text text work out).answer ≡ answer.refusal 29 0 0 0
unfolding read_text write_in number
unbegun text work out h = rw (lt-ltb (length work) read_text_work h)

-- the call, by what the text reads as
module _ (text work out : List ℕ) (enough : read_text_work ≤ length work) where
  call : (r : Result Term) → parse text ≡ r → read_text text work out ≡ write_out work out (in_file other_file r (λ t. done (term_bytes t)))
  unfolding read_text read_text_outcome write_in
  call r e = rw (le-ltb (length work) read_text_work enough, e)

  fits : (t : Term) → length (term_bytes t) ≤ length out → write_out work out (done (term_bytes t)) ≡ wrote (term_bytes t) work out
  unfolding write_out
  fits t h = rw (le-ltb (length out) (length (term_bytes t)) h)

  too_short : (t : Term) → length out < length (term_bytes t) → (write_out work out (done (term_bytes t))).answer ≡ answer.refusal 26 0 0 0
  unfolding write_out number
  too_short t h = rw (lt-ltb (length out) (length (term_bytes t)) h)

  refuses : (c : Cause) (p : ℕ) → (write_out work out (outcomes.refusal c other_file p 0)).answer ≡ answer.refusal (number c) 2 p 0
  unfolding write_out
  refuses c p = refl

  answer_of : (r : Result Term) → parse text ≡ r → (read_text text work out).answer ≡ (write_out work out (in_file other_file r (λ t. done (term_bytes t)))).answer
  answer_of r e = ap (λ (x : Written). x.answer) (call r e)

  written : (t : Term) → TextReads text t → length (term_bytes t) ≤ length out → read_text text work out ≡ wrote (term_bytes t) work out
  written t x h = call (gives t) (reads_text_lem text t x.short x.reads x.values x.few) ∙ fits t h

  only : (read_text text work out).answer.number ≡ 0 → (t : Term) × TextReads text t × (length (term_bytes t) ≤ length out)
  only z = go (parse text) refl
    where
      by_room : (t : Term) → parse text ≡ gives t → Dec (length out < length (term_bytes t)) → (u : Term) × TextReads text u × (length (term_bytes u) ≤ length out)
      by_room t e (yes h) = absurd (omega (arith, z, ap (λ (a : Answer). a.number) (answer_of (gives t) e ∙ too_short t h)))
      by_room t e (no h) = let x = text_reads text t e in (t, record { short = x.0; reads = x.1; values = x.2; few = x.3 }, omega arith)

      go : (r : Result Term) → parse text ≡ r → (t : Term) × TextReads text t × (length (term_bytes t) ≤ length out)
      go (gives t) e = by_room t e (dec_lt (length out) (length (term_bytes t)))
      go (refused c p) e = absurd (omega (arith, z, ap (λ (a : Answer). a.number) (answer_of (refused c p) e ∙ refuses c p), number_positive c))

  -- a refusal in the text is one of its reading
  from_refusal : (n p : ℕ) → (n ≡ 0 → ⊥) → (read_text text work out).answer ≡ answer.refusal n 2 p 0 → (c : Cause) × (parse text ≡ refused c p) × (number c ≡ n)
  from_refusal n p positive h = go (parse text) refl
    where
      by_room : (t : Term) → parse text ≡ gives t → Dec (length out < length (term_bytes t)) → (c : Cause) × (parse text ≡ refused c p) × (number c ≡ n)
      by_room t e (yes k) = absurd (let z : ◌≡◌ {A = ℕ} 2 0 = ap (λ (a : Answer). a.file) (sym h ∙ answer_of (gives t) e ∙ too_short t k) in omega arith)
      by_room t e (no k) = absurd (positive (ap (λ (a : Answer). a.number) (sym h ∙ answer_of (gives t) e ∙ ap (λ (x : Written). x.answer) (fits t (omega arith)))))

      go : (r : Result Term) → parse text ≡ r → (c : Cause) × (parse text ≡ refused c p) × (number c ≡ n)
      go (gives t) e = by_room t e (dec_lt (length out) (length (term_bytes t)))
      go (refused c q) e =
          let m : answer.refusal (number c) 2 q 0 ≡ answer.refusal n 2 p 0 = sym (answer_of (refused c q) e ∙ refuses c q) ∙ h in
          (c, e ∙ ap (refused c) (ap (λ (a : Answer). a.place) m), ap (λ (a : Answer). a.number) m)

  to_refusal : (c : Cause) (p : ℕ) → parse text ≡ refused c p → (read_text text work out).answer ≡ answer.refusal (number c) 2 p 0
  to_refusal c p e = answer_of (refused c p) e ∙ refuses c p

pub read_text-reads : ReadText-reads
read_text-reads text work out h = record {
  written = written text work out h;
  only = only text work out h;
  no_room = λ t x k. answer_of text work out h (gives t) (reads_text_lem text t x.short x.reads x.values x.few) ∙ too_short text work out h t k;
}

first_number : number InputTooLong ≡ 1
unfolding number
first_number = refl

pub read_text_too_long : ReadText-too-long
read_text_too_long text work out h l = to_refusal text work out h InputTooLong 0 (too_long text l) ∙ ap (λ (n : ℕ). answer.refusal n 2 0 0) first_number

-- what each of the three is met as
module _ (text work out : List ℕ) (p : ℕ) (h : read_text_work ≤ length work) (l : length text ≤ 65535) where
  as_large : (c : Cause) → Verdict text c p → number c ≡ 37 → Large text p
  unfolding number
  as_large c (wrong w) e = absurd (omega arith)
  as_large c (over w) e = w
  as_large c (fulls w) e = absurd (omega arith)

  as_full : (c : Cause) → Verdict text c p → number c ≡ 5 → Full text p
  unfolding number
  as_full c (wrong w) e = absurd (omega arith)
  as_full c (over w) e = absurd (omega arith)
  as_full c (fulls w) e = w

  as_wrong : (c : Cause) → Verdict text c p → number c ≡ 36 → Wrong text p
  unfolding number
  as_wrong c (wrong w) e = w
  as_wrong c (over w) e = absurd (omega arith)
  as_wrong c (fulls w) e = absurd (omega arith)

  -- one text has one refusal
  other_cause : (c d : Cause) (q : ℕ) → parse text ≡ refused c p → parse text ≡ refused d q → number c ≡ number d
  other_cause c d q e f = let m : ◌≡◌ {A = Result Term} (refused c p) (refused d q) = sym e ∙ f in ap number (same_cause m)

  numbers : (number ValueTooLarge ≡ 37) × (number LimitPassed ≡ 5) × (number TextWrong ≡ 36)
  unfolding number
  numbers = (refl, refl, refl)

  refuses_text : RefusesText text work out p
  refuses_text = record {
    large = (
      λ e. let x = from_refusal text work out h 37 p (λ z. omega (arith, z)) e in as_large x.0 (text_refused text x.0 p l x.1) x.2,
      λ w. to_refusal text work out h ValueTooLarge p (reads_large text p l w) ∙ ap (λ (n : ℕ). answer.refusal n 2 p 0) numbers.0,
    );
    full = (
      λ e. let x = from_refusal text work out h 5 p (λ z. omega (arith, z)) e in as_full x.0 (text_refused text x.0 p l x.1) x.2,
      λ w. to_refusal text work out h LimitPassed p (reads_full text p l w) ∙ ap (λ (n : ℕ). answer.refusal n 2 p 0) numbers.1,
    );
    wrong = (
      λ e.
          let x = from_refusal text work out h 36 p (λ z. omega (arith, z)) e in (
            as_wrong x.0 (text_refused text x.0 p l x.1) x.2,
            λ q w. omega (arith, x.2, numbers.0, other_cause x.0 ValueTooLarge q x.1 (reads_large text q l w)),
            λ q w. omega (arith, x.2, numbers.1, other_cause x.0 LimitPassed q x.1 (reads_full text q l w)),
          ),
      λ w. to_refusal text work out h TextWrong p (reads_wrong text p l w.0 w.1 w.2) ∙ ap (λ (n : ℕ). answer.refusal n 2 p 0) numbers.2,
    );
  }

pub read_text_refuses : ReadText-refuses
read_text_refuses text work out p h l = refuses_text text work out p h l

-- demand 1
own : (text : List ℕ) (c : Cause) (p : ℕ) → Verdict text c p → Comes {A = List ℕ} [] text (ReadTextRefuses text) (outcomes.refusal c other_file p 0)
unfolding number
own text c p (wrong w) = comes_own TextWrong p (inl refl, verdict_place (wrong w))
own text c p (over w) = comes_own ValueTooLarge p (inr refl, verdict_place (over w))
own text c p (fulls w) = comes_other LimitPassed p (omega arith) (omega arith) (verdict_place (fulls w))

long : (text : List ℕ) → Comes {A = List ℕ} [] text (ReadTextRefuses text) (outcomes.refusal InputTooLong other_file 0 0)
unfolding number
long text = comes_other InputTooLong 0 (omega arith) (omega arith) (omega arith)

comes_text : (text : List ℕ) → Comes [] text (ReadTextRefuses text) (read_text_outcome text)
unfolding read_text_outcome
comes_text text = by_size (dec_lt most_bytes (length text))
  where
    by_parse : length text ≤ most_bytes → (r : Result Term) → parse text ≡ r → Comes [] text (ReadTextRefuses text) (in_file other_file r (λ t. done (term_bytes t)))
    by_parse l (gives t) e = comes_done (term_bytes t)
    by_parse l (refused c p) e = own text c p (text_refused text c p l e)

    by_size : Dec (most_bytes < length text) → Comes [] text (ReadTextRefuses text) (in_file other_file (parse text) (λ t. done (term_bytes t)))
    by_size (yes h) = rw (too_long text h) (long text)
    by_size (no h) = by_parse (omega arith) (parse text) refl

-- no number of a field: 29, 26, 0, 1, or what is met
unfielded : (text : List ℕ) (c : Cause) (p : ℕ) → Verdict text c p → 2 ≤ number c → number c ≤ 4 → ⊥
unfolding number
unfielded text c p (wrong w) l m = omega arith
unfielded text c p (over w) l m = omega arith
unfielded text c p (fulls w) l m = omega arith

no_field : (text work out : List ℕ) → 2 ≤ (read_text text work out).answer.number → (read_text text work out).answer.number ≤ 4 → ⊥
no_field text work out = by_work (dec_lt (length work) read_text_work)
  where
    by_room : (h : read_text_work ≤ length work) (t : Term) → parse text ≡ gives t → Dec (length out < length (term_bytes t)) → 2 ≤ (read_text text work out).answer.number → (read_text text work out).answer.number ≤ 4 → ⊥
    by_room h t e (yes k) l m = omega (arith, l, m, ap (λ (a : Answer). a.number) (answer_of text work out h (gives t) e ∙ too_short text work out h t k))
    by_room h t e (no k) l m = omega (arith, l, m, ap (λ (a : Answer). a.number) (answer_of text work out h (gives t) e ∙ ap (λ (x : Written). x.answer) (fits text work out h t (omega arith))))

    refused_with : (h : read_text_work ≤ length work) (c : Cause) (p : ℕ) → parse text ≡ refused c p → Dec (most_bytes < length text) → 2 ≤ number c → number c ≤ 4 → ⊥
    refused_with h c p e (yes k) l m = let q : ◌≡◌ {A = Result Term} (refused InputTooLong 0) (refused c p) = sym (too_long text k) ∙ e in omega (arith, l, first_number, ap number (same_cause q))
    refused_with h c p e (no k) l m = unfielded text c p (text_refused text c p (omega arith) e) l m

    by_parse : (h : read_text_work ≤ length work) (r : Result Term) → parse text ≡ r → 2 ≤ (read_text text work out).answer.number → (read_text text work out).answer.number ≤ 4 → ⊥
    by_parse h (gives t) e l m = by_room h t e (dec_lt (length out) (length (term_bytes t))) l m
    by_parse h (refused c p) e l m = let n = ap (λ (a : Answer). a.number) (to_refusal text work out h c p e) in refused_with h c p e (dec_lt most_bytes (length text)) (omega (arith, l, n)) (omega (arith, m, n))

    by_work : Dec (length work < read_text_work) → 2 ≤ (read_text text work out).answer.number → (read_text text work out).answer.number ≤ 4 → ⊥
    by_work (yes h) l m = omega (arith, l, m, ap (λ (a : Answer). a.number) (unbegun text work out h))
    by_work (no h) l m = by_parse (omega arith) (parse text) refl l m

pub read_text_ends : ReadText-ends
unfolding read_text read_text_outcome
read_text_ends text work out = record {
  ends = ends_written [] text work out (InOther (ReadTextRefuses text)) read_text_work (read_text_outcome text) (written_ends (comes_text text));
  no_table = other_file_lem read_text_work work out (parse text) term_bytes;
  no_field = no_field text work out;
}
