-- Both values of a key as one number: it says the key, and is what the bytes of a field give.
-- Assumes nothing.
use mathlib.Core.Path.{◌≡◌, refl, sym, ap, ap₂, ◌∙◌}
use mathlib.Core.Bool.{Bool, true, false}
use mathlib.Core.List.{List}
use Prim.Native.Nat.{ℕ, ◌+◌, ◌*◌, ◌/◌, ◌%◌, ◌<◌}
use native.Mathlib.Omega.{arith}
use lib.Dec.{eqb}
use lib.ListN.{get_or}
use borrow.Author.Tests.{eqb-true, eqb-false}
use Rattle.words.specs.Word.{word}
use Rattle.tables.specs.declared.repeats.Repeat.TheVariants as K
use Rattle.tables.specs.declared.repeats.Repeat.{Repeat}
use Rattle.index.specs.Nodes.{low}
use Rattle.index.specs.Keys.{second_of, is_key, joined_of}
use Rattle.index.proofs.KeyLaws.{never, key_says, key_if}

-- two numbers from their sum, where one is counted in 256s or 65,536s and the other is less
parts_256 : (p q r t : ℕ) → p < 256 → r < 256 → p + q * 256 ≡ r + t * 256 → (p ≡ r) × (q ≡ t)
parts_256 p q r t l m e =
    let a : (p + q * 256) % 256 ≡ p = omega arith in
    let b : (r + t * 256) % 256 ≡ r = omega arith in
    let c : p ≡ r = sym a ∙ ap (λ (k : ℕ). k % 256) e ∙ b in
    (c, omega (arith, c))

parts_65536 : (p q r t : ℕ) → p < 65536 → r < 65536 → p + q * 65536 ≡ r + t * 65536 → (p ≡ r) × (q ≡ t)
parts_65536 p q r t l m e =
    let a : (p + q * 65536) % 65536 ≡ p = omega arith in
    let b : (r + t * 65536) % 65536 ≡ r = omega arith in
    let c : p ≡ r = sym a ∙ ap (λ (k : ℕ). k % 65536) e ∙ b in
    (c, omega (arith, c))

-- one key for each number
exchanged_says : (v a : ℕ) → v < 65536 → a < 65536 → v / 256 + v % 256 * 256 ≡ a / 256 + a % 256 * 256 → v ≡ a
exchanged_says v a l m e = let p = parts_256 (v / 256) (v % 256) (a / 256) (a % 256) (omega arith) (omega arith) e in omega (arith, p.0, p.1)

joined_says : (v x a b : ℕ) → v < 65536 → x < 65536 → a < 65536 → b < 65536 → joined_of v x ≡ joined_of a b → (v ≡ a) × (x ≡ b)
unfolding joined_of
joined_says v x a b l m n o e =
    let p = parts_65536 (v / 256 + v % 256 * 256) (x / 256 + x % 256 * 256) (a / 256 + a % 256 * 256) (b / 256 + b % 256 * 256) (omega arith) (omega arith) e in
    (exchanged_says v a l n p.0, exchanged_says x b m o p.1)

module _ (s : List ℕ) (bytes : (i : ℕ) → get_or s i 0 < 256) where
  word_small : (k : ℕ) → word s k < 65536
  unfolding word
  word_small k = omega (arith, bytes k, bytes (k + 1))

  -- the bytes of a value the other way round
  exchanged : (k : ℕ) → low s k ≡ word s k / 256 + word s k % 256 * 256
  unfolding word low
  exchanged k = omega (arith, bytes (k + 1))

  second_small : (kind : Repeat) (at : ℕ) → second_of kind s at < 65536
  unfolding second_of
  second_small K.Rule at = word_small (at + 5)
  second_small K.PremiseCount at = omega arith
  second_small K.Tactic at = omega arith
  second_small K.Label at = omega arith

  -- a rule has a second value, another field none
  pub rule_joined : (at a b : ℕ) → a ≡ low s (at + 3) → b ≡ low s (at + 5) → a + b * 65536 ≡ joined_of (word s (at + 3)) (second_of K.Rule s at)
  unfolding joined_of second_of
  rule_joined at a b p q = ap₂ (λ (x y : ℕ). x + y * 65536) (p ∙ exchanged (at + 3)) (q ∙ exchanged (at + 5))

  pub other_joined : (kind : Repeat) (at : ℕ) → (kind ≡ K.Rule → ⊥) → (a : ℕ) → a ≡ low s (at + 3) → a ≡ joined_of (word s (at + 3)) (second_of kind s at)
  unfolding joined_of second_of
  other_joined K.Rule at h a p = absurd (h refl)
  other_joined K.PremiseCount at h a p = omega (arith, p, exchanged (at + 3))
  other_joined K.Tactic at h a p = omega (arith, p, exchanged (at + 3))
  other_joined K.Label at h a p = omega (arith, p, exchanged (at + 3))

  module _ (kind : Repeat) (at : ℕ) where
    pub joined_key : (v x a b : ℕ) → v < 65536 → x < 65536 → a ≡ joined_of v x → b ≡ joined_of (word s (at + 3)) (second_of kind s at) → eqb a b ≡ is_key kind s v x at
    joined_key v x a b l m p q = go (eqb a b) refl (is_key kind s v x at) refl
      where
        go : (t : Bool) → eqb a b ≡ t → (u : Bool) → is_key kind s v x at ≡ u → t ≡ u
        go true e true f = refl
        go false e false f = refl
        go true e false f =
            let k = joined_says v x (word s (at + 3)) (second_of kind s at) l m (word_small (at + 3)) (second_small kind at) (sym p ∙ eqb-true a b e ∙ q) in
            never (is_key kind s v x at) (key_if kind s v x at k.0 k.1) f
        go false e true f =
            let k = key_says kind s v x at f in
            absurd (eqb-false a b e (p ∙ ap₂ joined_of k.0 k.1 ∙ sym q))
