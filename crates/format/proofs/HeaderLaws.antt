-- What a header that is no refusal says of its field, and which fields are read: by the tests of `header_at`, one after the other.
-- Assumes nothing.
use mathlib.Core.Path.{◌≡◌, refl, sym, ap}
use mathlib.Core.Bool.{Bool, true, false, cond}
use mathlib.Core.List.{List}
use Rattle.std.specs.Prelude.{Ok}
use Prim.Native.Nat.{ℕ, ◌+◌, ◌≤◌, ◌%◌}
use native.Mathlib.Omega.{arith}
use lib.Dec.{eqb, ltb}
use lib.ListN.{get_or}
use borrow.Author.Tests.{ltb-false, le-ltb, eqb-true, eq-eqb}
use Rattle.words.specs.Word.{word}
use Rattle.format.specs.Refusals.{FieldTorn, TagNotAllowed, LimitPassed, LengthWrong}
use Rattle.format.specs.Results.{Result, gives, refused, told}
use Rattle.format.specs.Tags.{kind_of, least_of, most_of, inner_of, length_fits}
use Rattle.format.specs.Headers.{Header, header, header_at}
use Rattle.format.specs.Shapes.{header_shape}
use Rattle.format.proofs.ResultLaws.{passed, kept, same_value, same_answered}

pub record IsField (s : List ℕ) (at end low high : ℕ) (full : Bool) (tag len : ℕ) : Type 0 where
  pub header-fits : at + 3 ≤ end
  pub above : low ≤ kind_of tag
  pub below : kind_of tag ≤ high
  pub room : full ≡ false
  pub contents : at + 3 + len ≤ end
  pub least : least_of tag ≤ len
  pub most : len ≤ most_of tag
  pub whole : inner_of tag ≡ 0 → len % 2 ≡ 0
  pub the_tag : tag ≡ get_or s at 0
  pub the_length : len ≡ word s (at + 1)

-- what a length that fits passed
none_of : (b c : Bool) → cond b false c ≡ true → (b ≡ false) × (c ≡ true)
none_of true c e = (sym e, cc)
none_of false c e = (refl, e)

where_even : (t n : ℕ) → cond (eqb (inner_of t) 0) (eqb (n % 2) 0) true ≡ true → inner_of t ≡ 0 → n % 2 ≡ 0
where_even t n e z = eqb-true (n % 2) 0 (rw (eq-eqb (inner_of t) 0 z) at e)

pub is_field : (s : List ℕ) (at end low high : ℕ) (full : Bool) (tag len : ℕ) → header_at s at end low high full ≡ gives (header tag len) → IsField s at end low high full tag len
unfolding header_at length_fits
is_field s at end low high full tag len e =
    let t = get_or s at 0 in
    let l = word s (at + 1) in
    let e1 = passed (ltb end (at + 3)) FieldTorn at _ e in
    let e2 = passed (ltb (kind_of t) low) TagNotAllowed at _ e1.1 in
    let e3 = passed (ltb high (kind_of t)) TagNotAllowed at _ e2.1 in
    let e4 = passed full LimitPassed at _ e3.1 in
    let e5 = passed (ltb end (at + 3 + l)) FieldTorn at _ e4.1 in
    let e6 = kept (length_fits t l) LengthWrong at (gives (header t l)) e5.1 in
    let e7 = none_of (ltb l (least_of t)) _ e6.0 in
    let e8 = none_of (ltb (most_of t) l) _ e7.1 in
    let q = same_value e6.1 in
    let q0 : tag ≡ t = sym (ap (λ (h : Header). h.tag) q) in
    let q1 : len ≡ l = sym (ap (λ (h : Header). h.len) q) in
    let l5 = ltb-false _ _ e5.0 in
    record {
      header-fits = ltb-false _ _ e1.0;
      above = rw q0 (ltb-false _ _ e2.0);
      below = rw q0 (ltb-false _ _ e3.0);
      room = e4.0;
      contents = rw q1 l5;
      least = rw (q0, q1) (ltb-false _ _ e7.0);
      most = rw (q0, q1) (ltb-false _ _ e8.0);
      whole = rw (q0, q1) (where_even t l e8.1);
      the_tag = q0;
      the_length = q1;
    }

-- contents without inner terms that are whole values pass the test of their length
even_fits : (t n : ℕ) → (inner_of t ≡ 0 → n % 2 ≡ 0) → cond (eqb (inner_of t) 0) (eqb (n % 2) 0) true ≡ true
even_fits t n h = go (eqb (inner_of t) 0) refl
  where
    go : (b : Bool) → eqb (inner_of t) 0 ≡ b → cond b (eqb (n % 2) 0) true ≡ true
    go true e = eq-eqb (n % 2) 0 (h (eqb-true _ _ e))
    go false e = refl

-- a field that fits here is one
pub field_at : (s : List ℕ) (at end low high : ℕ) (full : Bool) (tag len : ℕ) → get_or s at 0 ≡ tag → word s (at + 1) ≡ len → at + 3 + len ≤ end
    → low ≤ kind_of tag → kind_of tag ≤ high → full ≡ false → least_of tag ≤ len → len ≤ most_of tag → (inner_of tag ≡ 0 → len % 2 ≡ 0)
    → header_at s at end low high full ≡ gives (header tag len)
unfolding header_at length_fits
field_at s at end low high full tag len et el e l h f z m w =
    simp (et, el, le-ltb end (at + 3) (omega arith), le-ltb _ _ l, le-ltb _ _ h, f, le-ltb _ _ e, le-ltb _ _ z, le-ltb _ _ m, even_fits tag len w)

-- a header that the code tells as a field is that field
pub told-field : (x : Result Header) (tag len : ℕ) → header_shape x ≡ Ok (record { tag = tag; len = len }) → x ≡ gives (header tag len)
unfolding header_shape told
told-field (gives h) tag len e =
    let same = same_answered e in
    λ i. gives (record { tag = (same i).tag; len = (same i).len })
told-field (refused c p) tag len e = cc
