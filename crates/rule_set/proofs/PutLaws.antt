-- A number is put into a set: its bit is set, no other bit is, and the count is one more. Where its bit is set already, the bytes as they stand are those of the set with it.
-- Assumes nothing.
use mathlib.Core.Path.{◌≡◌, refl, sym, ap, ◌∙◌}
use mathlib.Core.Bool.{Bool, true, false}
use mathlib.Core.Logic.{◌⊎◌, inl, inr}
use mathlib.Core.List.{List, ◌∷◌}
use Prim.Native.Nat.{ℕ, ◌+◌, ◌/◌, ◌%◌, ◌^◌, ◌≤◌, ◌<◌}
use native.Mathlib.Omega.{arith}
use lib.Dec.{eqb}
use lib.ListN.{length, get_or, set, length-set}
use lib.Seq.{get_or-set_same, get_or-set_other}
use borrow.Author.Tests.{eqb-true, eqb-false}
use Rattle.words.specs.Word.{word, put_word}
use Rattle.words.specs.Kept.{Kept}
use Rattle.words.proofs.WordLaws.{word_same, length-put_word}
use Rattle.words.proofs.KeptLaws.{kept_put, word_above}
use Rattle.rule_set.specs.Different.{among}
use Rattle.rule_set.specs.Layout.{set_bits, bits_room, set_room}
use Rattle.rule_set.specs.Sets.{bit_of, holds, RuleSet}
use Rattle.rule_set.proofs.AmongLaws.{among_head, among-past, among_again, among_cases}
use Rattle.rule_set.proofs.DifferentLaws.{different_new}
use Rattle.rule_set.proofs.BitLaws.{bit_set, bit_other}
use Rattle.rule_set.proofs.SetLaws.{byte_of, held, not_held, set_same}

-- its bit is set already
pub put_old : (w : List ℕ) (base m : ℕ) → m < set_bits → bit_of (byte_of w base m) (m % 8) ≡ 1 → (ns : List ℕ) → RuleSet w base ns → RuleSet w base (m ∷ ns)
put_old w base m few e ns s =
    let there : among m ns ≡ true = sym (s.bits m few) ∙ held w base m e in
    set_same w base ns (m ∷ ns) (λ n. sym (among_again n m ns there)) s

-- its bit is set now: v is the work space with the count stored, x the power of the bit
module _ (w v : List ℕ) (base m count x : ℕ) (few : m < set_bits) (room : base + set_room ≤ length w) (is : v ≡ put_word w (base + bits_room) count) (power : x ≡ 2 ^ (m % 8)) where
  abbrev after : List ℕ
  after = set v (base + m / 8) (byte_of w base m + x)

  long : length v ≡ length w
  long = ap length is ∙ length-put_word w (base + bits_room) count

  own_byte : byte_of after base m ≡ byte_of w base m + 2 ^ (m % 8)
  own_byte = get_or-set_same v (base + m / 8) (byte_of w base m + x) 0 (omega (arith, long)) ∙ ap (λ (y : ℕ). byte_of w base m + y) power

  other_byte : (i : ℕ) → i < base + bits_room → (i ≡ base + m / 8 → ⊥) → get_or after i 0 ≡ get_or w i 0
  other_byte i l apart =
      get_or-set_other v (base + m / 8) i (byte_of w base m + x) 0 apart
      ∙ ap (λ (y : List ℕ). get_or y i 0) is
      ∙ (kept_put w (base + bits_room) count (base + bits_room) (base + set_room) (omega arith) (omega arith)).below i l

  after_count : word after (base + bits_room) ≡ count
  after_count = word_above v after base (base + bits_room) here (base + bits_room) (omega arith) ∙ ap (λ (y : List ℕ). word y (base + bits_room)) is ∙ word_same w (base + bits_room) count (omega arith)
    where
      here : Kept v after base (base + bits_room)
      here = record {
        below = λ i h. get_or-set_other v (base + m / 8) i (byte_of w base m + x) 0 (omega arith);
        above = λ i h. get_or-set_other v (base + m / 8) i (byte_of w base m + x) 0 (omega arith);
      }

  pub put-kept : Kept w after base (base + set_room)
  put-kept = record {
    below = λ i h. other_byte i (omega arith) (omega arith);
    above = λ i h. get_or-set_other v (base + m / 8) i (byte_of w base m + x) 0 (omega arith) ∙ ap (λ (y : List ℕ). get_or y i 0) is ∙ (kept_put w (base + bits_room) count base (base + set_room) (omega arith) (omega arith)).above i h;
  }

  module _ (unset : bit_of (byte_of w base m) (m % 8) ≡ 0) where
    own_bit : holds after base m ≡ true
    own_bit = held after base m (ap (λ (b : ℕ). bit_of b (m % 8)) own_byte ∙ bit_set (byte_of w base m) (m % 8) unset)

    other_bit : (n : ℕ) → n < set_bits → (n ≡ m → ⊥) → holds after base n ≡ holds w base n
    unfolding holds
    other_bit n l apart = ap (λ (b : ℕ). eqb b 1) (go (eqb (n / 8) (m / 8)) refl)
      where
        go : (t : Bool) → eqb (n / 8) (m / 8) ≡ t → bit_of (byte_of after base n) (n % 8) ≡ bit_of (byte_of w base n) (n % 8)
        go true e =
            let q = eqb-true (n / 8) (m / 8) e in
            ap (λ (i : ℕ). bit_of (get_or after (base + i) 0) (n % 8)) q
            ∙ ap (λ (b : ℕ). bit_of b (n % 8)) own_byte
            ∙ bit_other (byte_of w base m) (m % 8) (n % 8) unset (λ r. apart (omega arith))
            ∙ sym (ap (λ (i : ℕ). bit_of (get_or w (base + i) 0) (n % 8)) q)
        go false e = let h = eqb-false (n / 8) (m / 8) e in ap (λ (b : ℕ). bit_of b (n % 8)) (other_byte (base + n / 8) (omega arith) (λ r. h (omega arith)))

    pub put_new : (c : ℕ) → c ≡ word w (base + bits_room) → count ≡ c + 1 → (ns : List ℕ) → RuleSet w base ns → RuleSet after base (m ∷ ns)
    put_new c told more ns s = record {
      room = omega (arith, long, length-set v (base + m / 8) (byte_of w base m + x));
      bits = λ n l. bit n l (eqb n m) refl;
      counted = after_count ∙ omega (arith, s.counted, different_new m ns (sym (s.bits m few) ∙ not_held w base m unset));
      below = λ n h. small n (among_cases n m ns h);
    }
      where
        bit : (n : ℕ) → n < set_bits → (t : Bool) → eqb n m ≡ t → holds after base n ≡ among n (m ∷ ns)
        bit n l true e = let q = eqb-true n m e in ap (holds after base) q ∙ own_bit ∙ sym (among_head n m ns q)
        bit n l false e = let h = eqb-false n m e in other_bit n l h ∙ s.bits n l ∙ sym (among-past n m ns h)

        small : (n : ℕ) → (n ≡ m) ⊎ (among n ns ≡ true) → n < set_bits
        small n (inl e) = omega arith
        small n (inr h) = s.below n h
