-- The set in a work space stays where its bytes stay: what callers that write elsewhere need.
-- Assumes nothing.
use mathlib.Core.Path.{◌≡◌, ap, ap₂, ◌∙◌}
use mathlib.Core.List.{List}
use Prim.Native.Nat.{ℕ, ◌+◌, ◌*◌, ◌/◌, ◌%◌, ◌≤◌, ◌<◌}
use native.Mathlib.Omega.{arith}
use lib.Dec.{eqb}
use lib.ListN.{length, get_or}
use Rattle.words.specs.Word.{word}
use Rattle.words.specs.Kept.{Kept}
use Rattle.rule_set.specs.Layout.{bits_room, set_room}
use Rattle.rule_set.specs.Sets.{bit_of, holds, RuleSet}

module _ (w w' : List ℕ) (base : ℕ) (ns : List ℕ) where
  holds_kept : (n : ℕ) → get_or w' (base + n / 8) 0 ≡ get_or w (base + n / 8) 0 → holds w' base n ≡ holds w base n
  unfolding holds
  holds_kept n e = ap (λ (b : ℕ). eqb (bit_of b (n % 8)) 1) e

  count_kept : ((i : ℕ) → base ≤ i → i < base + set_room → get_or w' i 0 ≡ get_or w i 0) → word w' (base + bits_room) ≡ word w (base + bits_room)
  unfolding word
  count_kept same = ap₂ (λ (a b : ℕ). a * 256 + b) (same (base + bits_room) (omega arith) (omega arith)) (same (base + bits_room + 1) (omega arith) (omega arith))

  pub set-kept : length w ≤ length w' → ((i : ℕ) → base ≤ i → i < base + set_room → get_or w' i 0 ≡ get_or w i 0) → RuleSet w base ns → RuleSet w' base ns
  set-kept size same s = record {
    room = omega (arith, s.room);
    bits = λ n l. holds_kept n (same (base + n / 8) (omega arith) (omega arith)) ∙ s.bits n l;
    counted = count_kept same ∙ s.counted;
    below = s.below;
  }

  module _ (low high : ℕ) (size : length w' ≡ length w) (k : Kept w w' low high) where
    -- a write before the set
    pub set_before : high ≤ base → RuleSet w base ns → RuleSet w' base ns
    set_before h = set-kept (omega arith) (λ i a b. k.above i (omega arith))
