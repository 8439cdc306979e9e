-- The header that the code answers is `header_at`'s, for each `return`: by the tests that led there, over plain values, since a test is rewritten sooner here than among all that is known at a `return`.
-- Assumes nothing.
use mathlib.Core.Path.{◌≡◌}
use mathlib.Core.Bool.{Bool, true, false}
use mathlib.Core.List.{List}
use Rattle.std.specs.Prelude.{Ok}
use Prim.Native.Nat.{ℕ, ◌+◌, ◌≤◌, ◌<◌}
use lib.ListN.{get_or}
use borrow.Author.Tests.{le-ltb, lt-ltb}
use Rattle.words.specs.Word.{word}
use Rattle.format.specs.Refusals.{FieldTorn, TagNotAllowed, LimitPassed, LengthWrong}
use Rattle.format.specs.Results.{told, refused_at}
use Rattle.format.specs.Tags.{kind_of, length_fits}
use Rattle.format.specs.Headers.{header_at}
use Rattle.format.specs.Shapes.{header_shape}

module _ (s : List ℕ) (at end low high : ℕ) (full : Bool) where
  pub torn : end < at + 3 → refused_at FieldTorn at ≡ header_shape (header_at s at end low high full)
  unfolding header_at header_shape told
  torn short = simp (lt-ltb end (at + 3) short)

  module _ (fits : at + 3 ≤ end) (kind : ℕ) (kind_is : kind ≡ kind_of (get_or s at 0)) where
    pub kind_below : kind < low → refused_at TagNotAllowed at ≡ header_shape (header_at s at end low high full)
    unfolding header_at header_shape told
    kind_below below = simp (le-ltb end (at + 3) fits, ← kind_is, lt-ltb kind low below)

    module _ (least : low ≤ kind) where
      pub kind_above : high < kind → refused_at TagNotAllowed at ≡ header_shape (header_at s at end low high full)
      unfolding header_at header_shape told
      kind_above above = simp (le-ltb end (at + 3) fits, ← kind_is, le-ltb kind low least, lt-ltb high kind above)

      module _ (most : kind ≤ high) where
        pub too_many : full ≡ true → refused_at LimitPassed at ≡ header_shape (header_at s at end low high full)
        unfolding header_at header_shape told
        too_many e = simp (le-ltb end (at + 3) fits, ← kind_is, le-ltb kind low least, le-ltb high kind most, e)

        module _ (room : full ≡ false) (len : ℕ) (len_is : len ≡ word s (at + 1)) where
          pub contents_torn : end < at + 3 + len → refused_at FieldTorn at ≡ header_shape (header_at s at end low high full)
          unfolding header_at header_shape told
          contents_torn short = simp (le-ltb end (at + 3) fits, ← kind_is, le-ltb kind low least, le-ltb high kind most, room, ← len_is, lt-ltb end (at + 3 + len) short)

          module _ (contents : at + 3 + len ≤ end) (right : Bool) (right_is : right ≡ length_fits (get_or s at 0) len) where
            pub field_there : right ≡ true → Ok (record { tag = get_or s at 0; len = len }) ≡ header_shape (header_at s at end low high full)
            unfolding header_at header_shape told
            field_there e = simp (le-ltb end (at + 3) fits, ← kind_is, le-ltb kind low least, le-ltb high kind most, room, ← len_is, le-ltb end (at + 3 + len) contents, ← right_is, e)

            pub length_not_right : right ≡ false → refused_at LengthWrong at ≡ header_shape (header_at s at end low high full)
            unfolding header_at header_shape told
            length_not_right e = simp (le-ltb end (at + 3) fits, ← kind_is, le-ltb kind low least, le-ltb high kind most, room, ← len_is, le-ltb end (at + 3 + len) contents, ← right_is, e)
