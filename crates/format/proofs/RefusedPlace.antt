-- Where readings are refused: a header and a goal list at their own place, a term at one from its own to the end of what encloses it; with a number from 2 to 5.
-- Assumes nothing.
use mathlib.Core.Path.{◌≡◌, refl}
use mathlib.Core.Bool.{Bool, true, false, cond}
use mathlib.Core.List.{List}
use Prim.Native.Nat.{ℕ, zero, suc, ◌+◌, ◌/◌, ◌≤◌}
use native.Mathlib.Omega.{arith}
use lib.Dec.{eqb, ltb, leb}
use lib.ListN.{length, get_or}
use Rattle.words.specs.Word.{word}
use Rattle.format.specs.Limits.{most_goals, most_term_fields}
use Rattle.format.specs.Refusals.{Cause, number, FieldTorn, TagNotAllowed, LimitPassed, LengthWrong}
use Rattle.format.specs.Results.{Result, gives, refused, and_then}
use Rattle.format.specs.Tags.{kind_of, least_of, inner_of, length_fits, hiproof_kind, tactic_kind, goal_list_kind}
use Rattle.format.specs.Headers.{Header, header, header_at}
use Rattle.format.specs.Goals.{ParsedGoals, goals_of, read_goals}
use Rattle.format.specs.Terms.{Term}
use Rattle.format.specs.ReadTerms.{ParsedTerm, closed, contents, term_of, read_term}
use Rattle.format.proofs.HeaderLaws.{is_field}
use Rattle.format.proofs.ReadLaw.{read_gives}

-- a refusal of reading, at a place from low to high
pub record Refusal (low high : ℕ) (c : Cause) (p : ℕ) : Type 0 where
  pub above : low ≤ p
  pub below : p ≤ high
  pub least : 2 ≤ number c
  pub most : number c ≤ 5

unfoldable pub RefusedWithin : {A : Type 0} → (low high : ℕ) → Result A → Type 0
RefusedWithin low high (refused c p) = Refusal low high c p
RefusedWithin low high (gives a) = Unit {0}

here : (A : Type 0) (at : ℕ) (c : Cause) → 2 ≤ number c → number c ≤ 5 → RefusedWithin {A = A} at at (refused c at)
unfolding RefusedWithin
here A at c l m = record { above = omega arith; below = omega arith; least = l; most = m }

module _ {A : Type 0} where
  pub further : (low high more less : ℕ) → less ≤ low → high ≤ more → (x : Result A) → RefusedWithin low high x → RefusedWithin less more x
  unfolding RefusedWithin
  further low high more less l m (refused c p) r = record { above = omega (arith, r); below = omega (arith, r); least = r.least; most = r.most }
  further low high more less l m (gives a) r = tt

  either : (low high : ℕ) (b : Bool) (x y : Result A) → RefusedWithin low high x → RefusedWithin low high y → RefusedWithin low high (cond b x y)
  either low high true x y p q = p
  either low high false x y p q = q

  value : (low high : ℕ) (a : A) → RefusedWithin low high (gives a)
  unfolding RefusedWithin
  value low high a = tt

module _ {A B : Type 0} where
  -- two steps
  pub steps : (low high : ℕ) (x : Result A) (next : A → Result B) → RefusedWithin low high x → ((a : A) → x ≡ gives a → RefusedWithin low high (next a)) → RefusedWithin low high (and_then x next)
  unfolding and_then RefusedWithin
  steps low high (gives a) next r h = h a refl
  steps low high (refused c p) next r h = r

-- a header is refused at its own place
pub header_place : (s : List ℕ) (at end low high : ℕ) (full : Bool) → RefusedWithin at at (header_at s at end low high full)
unfolding header_at number
header_place s at end low high full =
    let t = get_or s at 0 in
    let l = word s (at + 1) in
    let torn = here Header at FieldTorn (omega arith) (omega arith) in
    let tag = here Header at TagNotAllowed (omega arith) (omega arith) in
    let limit = here Header at LimitPassed (omega arith) (omega arith) in
    let wrong = here Header at LengthWrong (omega arith) (omega arith) in
    either at at (ltb end (at + 3)) _ _ torn
    (either at at (ltb (kind_of t) low) _ _ tag
    (either at at (ltb high (kind_of t)) _ _ tag
    (either at at full _ _ limit
    (either at at (ltb end (at + 3 + l)) _ _ torn
    (either at at (length_fits t l) _ _ (value at at (header t l)) wrong)))))

-- a goal list is refused at its own place
pub goals_place : (s : List ℕ) (at end : ℕ) → RefusedWithin at at (read_goals s at end)
unfolding read_goals goals_of number
goals_place s at end =
    steps at at _ _ (header_place s at end goal_list_kind goal_list_kind false) (λ h e.
    either at at (ltb most_goals (h.len / 2)) _ _ (here ParsedGoals at LimitPassed (omega arith) (omega arith)) (value at at _))

module _ (s : List ℕ) (high : ℕ) (rec : ℕ → ℕ → ℕ → Result ParsedTerm)
    (ahead : (at end n : ℕ) → end ≤ length s → (r : ParsedTerm) → rec at end n ≡ gives r → (at ≤ r.next) × (r.next ≤ end))
    (ih : (at end n : ℕ) → at ≤ end → end ≤ length s → RefusedWithin at end (rec at end n)) where
  closed_place : (at end : ℕ) (t : Term) (next n : ℕ) → at ≤ end → RefusedWithin at end (closed at end t next n)
  unfolding closed number
  closed_place at end t next n l = either at end (eqb next end) _ _ (value at end _) (further at at end at (omega arith) l _ (here ParsedTerm at LengthWrong (omega arith) (omega arith)))

  contents_place : (at tag close n k : ℕ) → at + 3 + least_of tag ≤ close → close ≤ length s → RefusedWithin at close (contents rec s at tag close n k)
  unfolding contents
  contents_place at tag close n zero m f = value at close _
  contents_place at tag close n (suc zero) m f =
      steps at close _ _ (further (at + 3 + least_of tag) close close at (omega arith) (omega arith) _ (ih _ close n m f)) (λ t e. closed_place at close _ t.next t.count (omega arith))
  contents_place at tag close n (suc (suc k)) m f =
      steps at close _ _ (further (at + 3 + least_of tag) close close at (omega arith) (omega arith) _ (ih _ close n m f)) (λ t e.
      let a = ahead _ close n f t e in
      steps at close _ _ (further t.next close close at (omega (arith, a)) (omega arith) _ (ih t.next close t.count a.1 f)) (λ u q.
      closed_place at close _ u.next u.count (omega arith)))

  header_read : (at end n : ℕ) → at ≤ end → end ≤ length s → (h : Header) → header_at s at end hiproof_kind high (leb most_term_fields n) ≡ gives h → RefusedWithin at end (term_of rec s at n h)
  unfolding term_of
  header_read at end n l fit h e =
      let i = is_field s at end hiproof_kind high (leb most_term_fields n) h.tag h.len e in
      further at (at + 3 + h.len) end at (omega arith) i.contents _ (contents_place at h.tag (at + 3 + h.len) (n + 1) (inner_of h.tag) (omega (arith, i.least)) (omega (arith, i.contents)))

ahead : (d : ℕ) (s : List ℕ) (high : ℕ) → high ≤ tactic_kind → (at end n : ℕ) → end ≤ length s → (r : ParsedTerm) → read_term d s high at end n ≡ gives r → (at ≤ r.next) × (r.next ≤ end)
ahead d s high top at end n fit r e = let l = read_gives d s high top at end n fit r e in (omega (arith, l.next_is), l.within)

-- a term is refused at a place from its own to the end of what encloses it
pub term_place_lem : (d : ℕ) (s : List ℕ) (high : ℕ) → high ≤ tactic_kind → (at end n : ℕ) → at ≤ end → end ≤ length s → RefusedWithin at end (read_term d s high at end n)
unfolding read_term number
term_place_lem zero s high top at end n l fit = further at at end at (omega arith) l _ (here ParsedTerm at FieldTorn (omega arith) (omega arith))
term_place_lem (suc d) s high top at end n l fit =
    steps at end _ _ (further at at end at (omega arith) l _ (header_place s at end hiproof_kind high (leb most_term_fields n)))
    (header_read s high (read_term d s high) (ahead d s high top) (term_place_lem d s high top) at end n l fit)
