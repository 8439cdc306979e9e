-- The whole of the writing: how it begins, that a term is due until the file ends, and that then the text is written.
-- Assumes nothing.
use mathlib.Core.Path.{◌≡◌, refl, sym, ap, ◌∙◌}
use mathlib.Core.Bool.{false}
use mathlib.Core.List.{List, [], append-nil}
use Prim.Native.Nat.{ℕ, ◌≤◌, ◌<◌}
use native.Mathlib.Omega.{arith}
use lib.ListN.{length, take}
use lib.Seq.{length-take-le}
use Rattle.format.specs.Terms.{Term}
use Rattle.format.proofs.StandsLaws.{known}
use Rattle.files.specs.Standing.{TermFileStands}
use Rattle.notation.specs.Written.{written}
use Rattle.notation.proofs.RoundTrip.{written-length}
use Rattle.text_writer.specs.declared.writing.Writing.{Writing}
use Rattle.text_writer.specs.Spelling.{text_in}
use Rattle.text_writer.specs.Stack.{Frame, Stacked, rest_text, rest_fields, RightsStand}
use Rattle.text_writer.specs.Writing.{most_frames, writing_room, Due, Going, due, over}

-- the whole: nothing is written
module _ (s w : List ℕ) (t : Term) (st : TermFileStands s t) (room : writing_room ≤ length w) where
  pub start_law : Going s (written t) w (record { at = 0; len = 0; top = 0; binds = 0; followed = false })
  unfolding written text_in rest_text rest_fields RightsStand Stacked
  start_law = due t [] (record {
    held = record { room = room; short = omega (arith, written-length t, st.few_fields); within = omega arith; text = append-nil (written t); height = refl; stacked = tt };
    file = st.short;
    stands = st.term_stands;
    rights = omega (arith, st.end_is);
    few = omega (arith, st.few_fields);
  })

-- a term is due as long as the file has not ended
pub still_due : (s whole w : List ℕ) (x : Writing) → Going s whole w x → x.at < length s → (t : Term) × (fs : List Frame) × Due s whole w most_frames x t fs
still_due s whole w x (due t fs d) h = (t, fs, d)
still_due s whole w x (over o) h = absurd (omega (arith, o.at_end, h))

-- and then the text is written
pub end_law : (s whole w : List ℕ) (x : Writing) → Going s whole w x → length s ≤ x.at → (x.len ≡ length whole) × (take x.len w ≡ whole)
end_law s whole w x (due t fs d) h = let k = known s x.at t d.stands in absurd (omega (arith, k.inside, k.three, h))
end_law s whole w x (over o) h = (sym (length-take-le x.len w o.within) ∙ ap length o.text, o.text)
