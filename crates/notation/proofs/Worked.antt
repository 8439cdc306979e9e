-- The worked lines hold: each is computed.
-- Assumes nothing.
use mathlib.Core.Path.{refl}
use Rattle.format.specs.Results.{and_then}
use Rattle.notation.specs.Letters.{is_digit}
use Rattle.notation.specs.Written.{chain, bracketed_if, marks_of, digits, decimal, mark_bytes, text_of, written}
use Rattle.notation.specs.MarksIn.{number_in, mark_at, with_mark, marks_in}
use Rattle.notation.specs.FromRight.{reduced_term, reduced_frames, unbracket, on_mark, state_of, whole_of, term_of}
use Rattle.notation.specs.Scans.{completes, begins_numbered, is_sign, on_due, on_had, digit_more, leaf_ends, on_digits, label_ends, on_label_digits, on_begun, on_label_begun, on_half, step_in, step, finished, end_in, at_end, scan}
use Rattle.notation.specs.Parse.{term_found, parse}
use Rattle.notation.specs.Worked.{Holds, AllHold, no_more, ◌&◌, worked_lines}

pub worked : AllHold worked_lines
unfolding and_then is_digit chain bracketed_if marks_of digits decimal mark_bytes text_of written number_in mark_at with_mark marks_in reduced_term reduced_frames unbracket on_mark state_of whole_of term_of completes begins_numbered is_sign on_due on_had digit_more leaf_ends on_digits label_ends on_label_digits on_begun on_label_begun on_half step_in step finished end_in at_end scan term_found parse Holds worked_lines
worked = refl & refl & refl & refl & refl & refl & refl & refl & refl & refl & refl & refl & refl & refl & refl & refl & refl & refl & refl & refl & refl & refl & refl & refl & refl & refl & refl & refl & refl & refl & refl & refl & refl & refl & refl & refl & refl & refl & refl & no_more
