-- One field more behind an outline in work space, and what a write elsewhere leaves of one.
-- Assumes nothing.
use Prim.Native.Nat.{ℕ, ◌+◌, ◌≤◌}
use mathlib.Core.Path.{◌≡◌, sym, ap, ◌∙◌}
use mathlib.Core.List.{List, ◌∷◌, ◌++◌}
use native.Mathlib.Omega.{arith}
use lib.ListN.{length, take, drop, length-append, take-append-drop}
use lib.Seq.{length-take-le, take_at, get_or-take, ext_get_or}
use Rattle.format.specs.Encoding.{word_bytes}
use Rattle.tactics.specs.Memory.{Same}
use Rattle.tactics.specs.Numbers.{put_header}
use Rattle.tactics.proofs.FileLaws.{Written, header-written}

pub take-kept : (w v : List ℕ) (n : ℕ) → Same 0 n w v → length v ≡ length w → n ≤ length w → take n v ≡ take n w
take-kept w v n h len inside =
    let a : length (take n v) ≡ n = length-take-le n v (omega arith) in
    let b : length (take n w) ≡ n = length-take-le n w inside in
    ext_get_or 0 (take n v) (take n w) (a ∙ sym b) (λ i l. get_or-take n v i 0 (omega arith) ∙ h i (omega arith) (omega arith) ∙ sym (get_or-take n w i 0 (omega arith)))

module _ (w : List ℕ) (n tag v : ℕ) where
  pub append-field : n + 3 ≤ length w → take (n + 3) (put_header w n tag v) ≡ take n w ++ (tag ∷ word_bytes v)
  append-field h =
      let before : length (take n w) ≡ n = length-take-le n w (omega arith) in
      let begun : Written w (take n w) w = record { all = sym (take-append-drop n w) ∙ ap (λ (j : ℕ). take n w ++ drop j w) (sym before); room = omega arith } in
      let more : Written w (take n w ++ tag ∷ word_bytes v) (put_header w n tag v) = header-written w (take n w) w n tag v begun before h in
      let both : length (take n w ++ tag ∷ word_bytes v) ≡ n + 3 = length-append (take n w) (tag ∷ word_bytes v) ∙ omega arith in
      ap (take (n + 3)) more.all ∙ take_at (take n w ++ tag ∷ word_bytes v) _ (n + 3) both
