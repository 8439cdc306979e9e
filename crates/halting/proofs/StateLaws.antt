-- A saved state is contents and zeros: it is the same as saved bytes if these begin with the contents and all others are zero.
-- Assumes nothing.
use Prim.Native.Nat.{ℕ, ◌-◌, ◌≤◌}
use mathlib.Core.Path.{◌≡◌, refl, sym, ap, ◌∙◌}
use mathlib.Core.Bool.{Bool, true, false, ◌&&◌}
use mathlib.Core.List.{List, [], ◌∷◌, ◌++◌}
use native.Mathlib.Omega.{arith}
use lib.Dec.{eqb}
use lib.ListN.{length, take, drop, replicate, length-drop, take-append-drop}
use lib.Seq.{length-take-le}
use Rattle.std.specs.Cmp.Lexicographic.{pointwise}
use Rattle.entries.specs.SavedState.{saved_size}
use Rattle.entries.specs.Halting.{same_bytes}
use Rattle.entries.proofs.SavedStateLaws.{zeros_length}
use Rattle.arities.specs.Layout.{space_end}
use Rattle.halting.specs.SavedBytes.{EndsAt, saved_bytes, all_zero}
use Rattle.halting.proofs.SameLaws.{other_size, pointwise_same}
use Rattle.halting.proofs.ZeroLaws.{and_assoc}

-- two lists of two parts each
same_parts : (a b c d : List ℕ) → length a ≡ length b → same_bytes (a ++ c) (b ++ d) ≡ (same_bytes a b && same_bytes c d)
unfolding same_bytes
same_parts [] [] c d e = refl
same_parts [] (y ∷ b) c d e = absurd (omega (arith, e))
same_parts (x ∷ a) [] c d e = absurd (omega (arith, e))
same_parts (x ∷ a) (y ∷ b) c d e = ap (λ (z : Bool). eqb x y && z) (same_parts a b c d (omega (arith, e))) ∙ sym (and_assoc (eqb x y) (same_bytes a b) (same_bytes c d))

same_zeros : (s : List ℕ) → same_bytes (replicate (length s) 0) s ≡ all_zero s
unfolding same_bytes all_zero
same_zeros [] = refl
same_zeros (x ∷ s) = ap (λ (z : Bool). eqb 0 x && z) (same_zeros s)

module _ (w : List ℕ) (end : ℕ) (saved : List ℕ) (ends : EndsAt end) (inside : end ≤ length w) where
  abbrev n : ℕ
  n = end - space_end

  abbrev contents : List ℕ
  contents = take n (drop space_end w)

  contents-length : length contents ≡ n
  contents-length = length-take-le n (drop space_end w) (omega (arith, length-drop space_end w, ends.above))

  pub size_end : (r : Bool) → (length saved ≡ saved_size → ⊥) → r ≡ false → r ≡ same_bytes (saved_bytes w end) saved
  size_end r h e = e ∙ sym (other_size (saved_bytes w end) saved (λ q. h (q ∙ zeros_length saved_size contents (omega (arith, contents-length, ends.within)))))

  module _ (size : length saved ≡ saved_size) where
    -- the saved bytes that are compared with the contents
    abbrev front : List ℕ
    front = take n saved

    pub front_length : length front ≡ n
    front_length = length-take-le n saved (omega (arith, size, ends.within))

    both : same_bytes (saved_bytes w end) saved ≡ (same_bytes contents front && all_zero (drop n saved))
    both =
        let z : saved_size - length contents ≡ length (drop n saved) = omega (arith, length-drop n saved, size, contents-length) in
        ap (same_bytes (saved_bytes w end)) (sym (take-append-drop n saved))
        ∙ same_parts contents front (replicate (saved_size - length contents) 0) (drop n saved) (contents-length ∙ sym front_length)
        ∙ ap (λ (b : Bool). same_bytes contents front && b) (ap (λ (j : ℕ). same_bytes (replicate j 0) (drop n saved)) z ∙ same_zeros (drop n saved))

    module _ (x : Bool) (told : x ≡ pointwise eqb contents front) where
      compared : same_bytes (saved_bytes w end) saved ≡ (x && all_zero (drop n saved))
      compared = both ∙ ap (λ (b : Bool). b && all_zero (drop n saved)) (sym (told ∙ pointwise_same contents front))

      pub same_end : x ≡ true → (r : Bool) → r ≡ all_zero (drop n saved) → r ≡ same_bytes (saved_bytes w end) saved
      same_end e r t = t ∙ sym (compared ∙ ap (λ (b : Bool). b && all_zero (drop n saved)) e)

      pub other_end : x ≡ false → x ≡ same_bytes (saved_bytes w end) saved
      other_end e = e ∙ sym (compared ∙ ap (λ (b : Bool). b && all_zero (drop n saved)) e)
