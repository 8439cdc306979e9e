-- A frame is read back where it was stored: each value is behind the ones stored before it.
-- Assumes nothing.
use Prim.Native.Nat.{ℕ, ◌+◌, ◌<◌}
use mathlib.Core.Path.{◌≡◌, ◌∙◌}
use mathlib.Core.List.{List}
use native.Mathlib.Omega.{arith}
use lib.ListN.{length}
use Rattle.words.specs.Word.{word, put_word}
use Rattle.words.proofs.WordLaws.{word_same}
use Rattle.tactics.specs.Memory.{Same, Only}
use Rattle.tactics.specs.Numbers.{triple, put_triple}
use Rattle.tactics.proofs.MemoryLaws.{only_then, only_wider, only_word, same_word}
use Rattle.tactics.proofs.NumberLaws.{same_triple, only_triple, triple_same}
use Rattle.frames.specs.declared.Frame.{Frame}
use Rattle.frames.specs.Frames.{frame_at, put_frame}

module _ (w : List ℕ) (at : ℕ) (f : Frame) (room : at + 18 < length w) where
  abbrev w₁ : List ℕ
  w₁ = put_word w at f.kind

  abbrev w₂ : List ℕ
  w₂ = put_word w₁ (at + 2) f.file

  abbrev w₃ : List ℕ
  w₃ = put_word w₂ (at + 4) f.at

  abbrev w₄ : List ℕ
  w₄ = put_word w₃ (at + 6) f.count

  abbrev w₅ : List ℕ
  w₅ = put_triple w₄ (at + 8) f.start

  abbrev w₆ : List ℕ
  w₆ = put_triple w₅ (at + 11) f.mark

  abbrev w₇ : List ℕ
  w₇ = put_word w₆ (at + 14) f.held

  abbrev w₈ : List ℕ
  w₈ = put_triple w₇ (at + 16) f.arena

  o₁ : Only at (at + 2) w w₁
  o₁ = only_word w at f.kind

  o₂ : Only (at + 2) (at + 4) w₁ w₂
  o₂ = only_wider (at + 2) (at + 2 + 2) _ _ w₁ w₂ (only_word w₁ (at + 2) f.file) (omega arith) (omega arith)

  o₃ : Only (at + 4) (at + 6) w₂ w₃
  o₃ = only_wider (at + 4) (at + 4 + 2) _ _ w₂ w₃ (only_word w₂ (at + 4) f.at) (omega arith) (omega arith)

  o₄ : Only (at + 6) (at + 8) w₃ w₄
  o₄ = only_wider (at + 6) (at + 6 + 2) _ _ w₃ w₄ (only_word w₃ (at + 6) f.count) (omega arith) (omega arith)

  o₅ : Only (at + 8) (at + 11) w₄ w₅
  o₅ = only_wider (at + 8) (at + 8 + 3) _ _ w₄ w₅ (only_triple w₄ (at + 8) f.start) (omega arith) (omega arith)

  o₆ : Only (at + 11) (at + 14) w₅ w₆
  o₆ = only_wider (at + 11) (at + 11 + 3) _ _ w₅ w₆ (only_triple w₅ (at + 11) f.mark) (omega arith) (omega arith)

  o₇ : Only (at + 14) (at + 16) w₆ w₇
  o₇ = only_wider (at + 14) (at + 14 + 2) _ _ w₆ w₇ (only_word w₆ (at + 14) f.held) (omega arith) (omega arith)

  o₈ : Only (at + 16) (at + 19) w₇ w₈
  o₈ = only_wider (at + 16) (at + 16 + 3) _ _ w₇ w₈ (only_triple w₇ (at + 16) f.arena) (omega arith) (omega arith)

  pub only_frame : Only at (at + 19) w (put_frame w at f)
  unfolding put_frame
  only_frame =
      only_then at (at + 19) w w₁ _ (only_wider at (at + 2) at (at + 19) w w₁ o₁ (omega arith) (omega arith))
      (only_then at (at + 19) w₁ w₂ _ (only_wider (at + 2) (at + 4) at (at + 19) w₁ w₂ o₂ (omega arith) (omega arith))
      (only_then at (at + 19) w₂ w₃ _ (only_wider (at + 4) (at + 6) at (at + 19) w₂ w₃ o₃ (omega arith) (omega arith))
      (only_then at (at + 19) w₃ w₄ _ (only_wider (at + 6) (at + 8) at (at + 19) w₃ w₄ o₄ (omega arith) (omega arith))
      (only_then at (at + 19) w₄ w₅ _ (only_wider (at + 8) (at + 11) at (at + 19) w₄ w₅ o₅ (omega arith) (omega arith))
      (only_then at (at + 19) w₅ w₆ _ (only_wider (at + 11) (at + 14) at (at + 19) w₅ w₆ o₆ (omega arith) (omega arith))
      (only_then at (at + 19) w₆ w₇ _ (only_wider (at + 14) (at + 16) at (at + 19) w₆ w₇ o₇ (omega arith) (omega arith))
      (only_wider (at + 16) (at + 19) at (at + 19) w₇ w₈ o₈ (omega arith) (omega arith))))))))

  late₇ : Same 0 (at + 16) w₇ w₈
  late₇ = λ i l h. o₈.kept.below i h

  late₆ : Same 0 (at + 14) w₆ w₈
  late₆ = λ i l h. late₇ i l (omega arith) ∙ o₇.kept.below i h

  late₅ : Same 0 (at + 11) w₅ w₈
  late₅ = λ i l h. late₆ i l (omega arith) ∙ o₆.kept.below i h

  late₄ : Same 0 (at + 8) w₄ w₈
  late₄ = λ i l h. late₅ i l (omega arith) ∙ o₅.kept.below i h

  late₃ : Same 0 (at + 6) w₃ w₈
  late₃ = λ i l h. late₄ i l (omega arith) ∙ o₄.kept.below i h

  late₂ : Same 0 (at + 4) w₂ w₈
  late₂ = λ i l h. late₃ i l (omega arith) ∙ o₃.kept.below i h

  late₁ : Same 0 (at + 2) w₁ w₈
  late₁ = λ i l h. late₂ i l (omega arith) ∙ o₂.kept.below i h

  n₁ : length w₁ ≡ length w
  n₁ = o₁.same_length

  n₂ : length w₂ ≡ length w
  n₂ = o₂.same_length ∙ n₁

  n₃ : length w₃ ≡ length w
  n₃ = o₃.same_length ∙ n₂

  n₄ : length w₄ ≡ length w
  n₄ = o₄.same_length ∙ n₃

  n₅ : length w₅ ≡ length w
  n₅ = o₅.same_length ∙ n₄

  n₆ : length w₆ ≡ length w
  n₆ = o₆.same_length ∙ n₅

  n₇ : length w₇ ≡ length w
  n₇ = o₇.same_length ∙ n₆

  -- a frame is read back where it was stored
  pub frame_same : frame_at (put_frame w at f) at ≡ f
  unfolding frame_at put_frame
  frame_same =
      let e₁ : word w₈ at ≡ f.kind = same_word w₁ w₈ 0 (at + 2) at late₁ (omega arith) (omega arith) ∙ word_same w at f.kind (omega arith) in
      let e₂ : word w₈ (at + 2) ≡ f.file = same_word w₂ w₈ 0 (at + 4) (at + 2) late₂ (omega arith) (omega arith) ∙ word_same w₁ (at + 2) f.file (omega (arith, n₁)) in
      let e₃ : word w₈ (at + 4) ≡ f.at = same_word w₃ w₈ 0 (at + 6) (at + 4) late₃ (omega arith) (omega arith) ∙ word_same w₂ (at + 4) f.at (omega (arith, n₂)) in
      let e₄ : word w₈ (at + 6) ≡ f.count = same_word w₄ w₈ 0 (at + 8) (at + 6) late₄ (omega arith) (omega arith) ∙ word_same w₃ (at + 6) f.count (omega (arith, n₃)) in
      let e₅ : triple w₈ (at + 8) ≡ f.start = same_triple w₅ w₈ 0 (at + 11) (at + 8) late₅ (omega arith) (omega arith) ∙ triple_same w₄ (at + 8) f.start (omega (arith, n₄)) in
      let e₆ : triple w₈ (at + 11) ≡ f.mark = same_triple w₆ w₈ 0 (at + 14) (at + 11) late₆ (omega arith) (omega arith) ∙ triple_same w₅ (at + 11) f.mark (omega (arith, n₅)) in
      let e₇ : word w₈ (at + 14) ≡ f.held = same_word w₇ w₈ 0 (at + 16) (at + 14) late₇ (omega arith) (omega arith) ∙ word_same w₆ (at + 14) f.held (omega (arith, n₆)) in
      let e₈ : triple w₈ (at + 16) ≡ f.arena = triple_same w₇ (at + 16) f.arena (omega (arith, n₇)) in
      λ i. record { kind = e₁ i; file = e₂ i; at = e₃ i; count = e₄ i; start = e₅ i; mark = e₆ i; held = e₇ i; arena = e₈ i }
