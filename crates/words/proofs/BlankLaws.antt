-- A part of a list of bytes that was lent, cleared and given back.
-- Assumes nothing.
use Rattle.std.proofs.Common.{◌≡◌, ℕ, ◌+◌, ◌-◌, ◌≤◌, List, length, replicate, get_or, refl, arith, ◌∙◌, ap}
use Rattle.std.proofs.lemmas.List.{get_or-replicate, length-replicate}
use Rattle.std.proofs.lemmas.Slice.{put_mid-paste}
use borrow.Rule.Slice.PartMut.{put_mid, mid_of, mid_len}
use Rattle.words.specs.Blank.{Blank}
use Rattle.words.proofs.Copy.{paste_below, paste_inside, paste_above}

-- the part from a to e, lent and given back as ys
pub blank_part : (a e n : ℕ) (w ys : List ℕ) → e ≡ a + n → e ≤ length w → ys ≡ replicate (length (mid_of a (e - a) w)) 0 → Blank w (put_mid a (e - a) w ys) a n
blank_part a e n w ys q room is =
    let whole : length ys ≡ n = ap length is ∙ length-replicate (length (mid_of a (e - a) w)) 0 ∙ omega (arith, mid_len a e w room) in
    let enough : n ≤ length ys = omega (arith, whole) in
    rw (put_mid-paste a (e - a) w ys ys n refl (omega arith) (omega (arith, whole))) (record {
      zeros = λ i h k. paste_inside w ys a n (omega arith) enough i (i - a) (omega arith) (omega arith) ∙ ap (λ (x : List ℕ). get_or x (i - a) 0) is ∙ get_or-replicate (length (mid_of a (e - a) w)) (i - a) 0 0 (omega (arith, mid_len a e w room));
      kept = record {
        below = λ i h. paste_below w ys a n i h (omega arith);
        above = λ i h. paste_above w ys a n (omega arith) enough i (omega arith);
      };
    })
