-- The set of the rule numbers met so far, in a part of the work space: a bit for each number, and the count of the bits set.
use Rattle.std.specs.Prelude.{ℕ, ◌+◌, ◌/◌, ◌%◌, ◌^◌, ◌≤◌, ◌<◌, ◌≡◌, Bool, true, List, eqb, length, get_or}
use Rattle.words.specs.Word.{word}
use Rattle.rule_set.specs.Different.{among, different}
use Rattle.rule_set.specs.Layout.{set_bits, bits_room, set_room}

-- a bit of a byte, the lowest being bit 0
unfoldable pub bit_of : (byte k : ℕ) → ℕ
bit_of b k = b / 2 ^ k % 2

-- the bit of a number is set
unfoldable pub holds : List ℕ → (base n : ℕ) → Bool
holds w base n = eqb (bit_of (get_or w (base + n / 8) 0) (n % 8)) 1

-- the set of these numbers stands from a place on
pub record RuleSet (w : List ℕ) (base : ℕ) (ns : List ℕ) : Type 0 where
  pub room : base + set_room ≤ length w
  pub bits : (n : ℕ) → n < set_bits → holds w base n ≡ among n ns
  pub counted : word w (base + bits_room) ≡ different ns
  pub below : (n : ℕ) → among n ns ≡ true → n < set_bits
