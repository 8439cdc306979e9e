-- The regions of the work space, one behind the other: the hiproof so far, the goals, the terms that wait, which grow downwards, and the arities by
-- tactic number. The first and the third grow with the steps that a run may take, the second with the fields that it may hold.
use Rattle.std.specs.Prelude.{ℕ, ◌+◌, ◌*◌}
use Rattle.format.specs.Limits.{most_steps, most_held}

-- every term begun leaves at most five bytes of its own
abbrev pub output_end : ℕ
output_end = 5 * most_steps

-- Room for the job's 256 goals, for the goals that each held field gave, at most eight, and for a list that is being joined: see `Sizes` of the machine's Shows.
abbrev pub goals_end : ℕ
goals_end = output_end + 512 + 16 * most_held + 512

-- every term begun leaves at most one frame
abbrev pub frames_end : ℕ
frames_end = goals_end + 19 * most_steps

-- two bytes for each tactic number
abbrev pub space_end : ℕ
space_end = frames_end + 2 * 65536
