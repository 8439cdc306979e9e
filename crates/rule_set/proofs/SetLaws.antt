-- A set of rule numbers in bytes: whether it holds a number is said by one bit, it is the set of any list of the same numbers, and its count is at most that of the rules.
-- Assumes nothing.
use mathlib.Core.Path.{◌≡◌, ◌∙◌}
use mathlib.Core.Bool.{true, false}
use mathlib.Core.List.{List, [], ◌∷◌, ◌++◌}
use Prim.Native.Nat.{ℕ, ◌+◌, ◌/◌, ◌%◌, ◌≤◌}
use native.Mathlib.Omega.{arith}
use lib.ListN.{get_or}
use borrow.Author.Tests.{eq-eqb, ne_eqb}
use Rattle.words.specs.Word.{word}
use Rattle.rule_set.specs.Different.{among}
use Rattle.rule_set.specs.Layout.{set_bits, bits_room}
use Rattle.rule_set.specs.Sets.{bit_of, holds, RuleSet}
use Rattle.rule_set.proofs.AmongLaws.{among_turned}
use Rattle.rule_set.proofs.DifferentLaws.{different_same, different_below}

-- the byte of a number
abbrev pub byte_of : List ℕ → (base n : ℕ) → ℕ
byte_of w base n = get_or w (base + n / 8) 0

module _ (w : List ℕ) (base n : ℕ) where
  pub held : bit_of (byte_of w base n) (n % 8) ≡ 1 → holds w base n ≡ true
  unfolding holds
  held e = eq-eqb (bit_of (byte_of w base n) (n % 8)) 1 e

  pub not_held : bit_of (byte_of w base n) (n % 8) ≡ 0 → holds w base n ≡ false
  unfolding holds
  not_held e = ne_eqb (bit_of (byte_of w base n) (n % 8)) 1 (omega arith)

module _ (w : List ℕ) (base : ℕ) where
  pub set_same : (ms ns : List ℕ) → ((n : ℕ) → among n ms ≡ among n ns) → RuleSet w base ms → RuleSet w base ns
  set_same ms ns same s = record {
    room = s.room;
    bits = λ n l. s.bits n l ∙ same n;
    counted = s.counted ∙ different_same ms ns same;
    below = λ n h. s.below n (same n ∙ h);
  }

  -- the numbers in the order in which they were put
  pub set-turned : (n : ℕ) (ns : List ℕ) → RuleSet w base (n ∷ ns) → RuleSet w base (ns ++ (n ∷ []))
  set-turned n ns = set_same (n ∷ ns) (ns ++ (n ∷ [])) (λ k. among_turned k n ns)

  pub set_few : (ns : List ℕ) → RuleSet w base ns → word w (base + bits_room) ≤ set_bits
  set_few ns s = omega (arith, s.counted, different_below ns set_bits s.below)
