-- The bits of a byte: to add the power of a bit that is 0 sets it, changes no other and carries nothing out of the byte. By the digits, the lowest first.
-- Assumes nothing.
use mathlib.Core.Path.{◌≡◌, refl, sym, ap, ◌∙◌}
use Prim.Native.Nat.{ℕ, zero, suc, ◌+◌, ◌-◌, ◌/◌, ◌%◌, ◌^◌, ◌<◌}
use native.Mathlib.Nat.{pow-succ', div-one, div-div-eq-div-mul}
use native.Mathlib.Omega.{arith}
use Rattle.rule_set.specs.Sets.{bit_of}

-- the lowest bit, and the others as those of half the number
bit_zero : (b : ℕ) → bit_of b 0 ≡ b % 2
unfolding bit_of
bit_zero b = ap (λ (x : ℕ). x % 2) (div-one b)

bit_suc : (b k : ℕ) → bit_of b (suc k) ≡ bit_of (b / 2) k
unfolding bit_of
bit_suc b k = ap (λ (x : ℕ). x % 2) (ap (λ (x : ℕ). b / x) (pow-succ' 2 k) ∙ sym (div-div-eq-div-mul b 2 (2 ^ k)))

half-sum : (b k : ℕ) → (b + 2 ^ suc k) / 2 ≡ b / 2 + 2 ^ k
half-sum b k = omega (arith, pow-succ' 2 k)

-- 0 has no bit that is set
pub bit_none : (k : ℕ) → bit_of 0 k ≡ 0
bit_none zero = bit_zero 0
bit_none (suc k) = bit_suc 0 k ∙ bit_none k

pub bit_set : (b k : ℕ) → bit_of b k ≡ 0 → bit_of (b + 2 ^ k) k ≡ 1
bit_set b zero h = bit_zero (b + 1) ∙ omega (arith, bit_zero b)
bit_set b (suc k) h = bit_suc (b + 2 ^ suc k) k ∙ ap (λ (x : ℕ). bit_of x k) (half-sum b k) ∙ bit_set (b / 2) k (sym (bit_suc b k) ∙ h)

pub bit_other : (b k j : ℕ) → bit_of b k ≡ 0 → (j ≡ k → ⊥) → bit_of (b + 2 ^ k) j ≡ bit_of b j
bit_other b zero zero h apart = absurd (apart refl)
bit_other b zero (suc j) h apart =
    let same : (b + 1) / 2 ≡ b / 2 = omega (arith, bit_zero b) in
    bit_suc (b + 1) j ∙ ap (λ (x : ℕ). bit_of x j) same ∙ sym (bit_suc b j)
bit_other b (suc k) zero h apart = omega (arith, bit_zero (b + 2 ^ suc k), bit_zero b, pow-succ' 2 k)
bit_other b (suc k) (suc j) h apart =
    bit_suc (b + 2 ^ suc k) j
    ∙ ap (λ (x : ℕ). bit_of x j) (half-sum b k)
    ∙ bit_other (b / 2) k j (sym (bit_suc b k) ∙ h) (λ e. apart (ap suc e))
    ∙ sym (bit_suc b j)

-- of m bits
fits : (b k m : ℕ) → k < m → b < 2 ^ m → bit_of b k ≡ 0 → b + 2 ^ k < 2 ^ m
fits b k zero l s h = absurd (omega arith)
fits b zero (suc m) l s h = omega (arith, bit_zero b, pow-succ' 2 m)
fits b (suc k) (suc m) l s h =
    let s' : b / 2 < 2 ^ m = omega (arith, pow-succ' 2 m) in
    let ih = fits (b / 2) k m (omega arith) s' (sym (bit_suc b k) ∙ h) in
    omega (arith, ih, pow-succ' 2 m, pow-succ' 2 k)

pub bit_fits : (b k : ℕ) → k < 8 → b < 256 → bit_of b k ≡ 0 → b + 2 ^ k < 256
bit_fits b k l s h = fits b k 8 l s h

-- the highest bit of a byte shifted down to a bit
pub shifted : (k : ℕ) → k < 8 → 128 / 2 ^ (7 - k) ≡ 2 ^ k
shifted zero l = refl
shifted (suc zero) l = refl
shifted (suc (suc zero)) l = refl
shifted (suc (suc (suc zero))) l = refl
shifted (suc (suc (suc (suc zero)))) l = refl
shifted (suc (suc (suc (suc (suc zero))))) l = refl
shifted (suc (suc (suc (suc (suc (suc zero)))))) l = refl
shifted (suc (suc (suc (suc (suc (suc (suc zero))))))) l = refl
shifted (suc (suc (suc (suc (suc (suc (suc (suc k)))))))) l = absurd (omega arith)
