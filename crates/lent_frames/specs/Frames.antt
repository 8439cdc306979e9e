-- Document 02, P1: the frames that a maker lends.
use Rattle.lent_frames.specs.declared.LentFrame.{LentFrame}

-- a frame that is all zero
abbrev pub no_frame : LentFrame
no_frame = record { term = 0; goals = 0; count = 0; stage = 0 }
