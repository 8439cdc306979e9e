-- A set is made empty: its count is 0, and all bytes of its bits.
-- Assumes nothing.
use mathlib.Core.Path.{◌≡◌, sym, ap, ◌∙◌}
use mathlib.Core.List.{List, []}
use Prim.Native.Nat.{ℕ, ◌+◌, ◌/◌, ◌%◌, ◌≤◌}
use native.Mathlib.Omega.{arith}
use lib.ListN.{length}
use Rattle.words.specs.Word.{word, put_word}
use Rattle.words.specs.Kept.{Kept}
use Rattle.words.specs.Blank.{Blank}
use Rattle.words.proofs.WordLaws.{word_same}
use Rattle.words.proofs.KeptLaws.{kept_put, kept_both, word_above}
use Rattle.rule_set.specs.Different.{among}
use Rattle.rule_set.specs.Layout.{bits_room, set_room}
use Rattle.rule_set.specs.Sets.{bit_of, RuleSet}
use Rattle.rule_set.proofs.AmongLaws.{both, among_none}
use Rattle.rule_set.proofs.DifferentLaws.{different_none}
use Rattle.rule_set.proofs.BitLaws.{bit_none}
use Rattle.rule_set.proofs.SetLaws.{not_held}

-- the count stored, then all bits cleared
module _ (w w₀ w' : List ℕ) (base : ℕ) (is : w₀ ≡ put_word w (base + bits_room) 0) (room : base + set_room ≤ length w) (size : length w' ≡ length w) (c : Blank w₀ w' base bits_room) where
  pub empty_set : RuleSet w' base []
  empty_set = record {
    room = omega arith;
    bits = λ n l. not_held w' base n (ap (λ (b : ℕ). bit_of b (n % 8)) (c.zeros (base + n / 8) (omega arith) (omega arith)) ∙ bit_none (n % 8)) ∙ sym (among_none n);
    counted =
        word_above w₀ w' base (base + bits_room) c.kept (base + bits_room) (omega arith)
        ∙ ap (λ (x : List ℕ). word x (base + bits_room)) is
        ∙ word_same w (base + bits_room) 0 (omega arith)
        ∙ sym different_none;
    below = λ n h. absurd (both (among n []) h (among_none n));
  }

  pub empty_kept : Kept w w' base (base + set_room)
  empty_kept =
      kept_both w (put_word w (base + bits_room) 0) w' base (base + set_room) base (base + bits_room) base (base + set_room)
      (kept_put w (base + bits_room) 0 base (base + set_room) (omega arith) (omega arith))
      (rw (sym is) c.kept)
      (omega arith) (omega arith) (omega arith) (omega arith)
