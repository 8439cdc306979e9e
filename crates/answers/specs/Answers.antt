-- Document 01, "What the bytes bring about": "Every answer has number (0 for success), file (1 table, 2 the other, 0 neither), place .. and steps".
-- A success adds the bytes written or the counts. What does not apply is 0.
use Rattle.std.specs.Prelude.{ℕ}
use Rattle.answers.specs.declared.Answer.{Answer}
use Rattle.answers.specs.declared.File.{File}
use Rattle.answers.specs.declared.File.TheVariants as F

abbrev pub file_number : File → ℕ
file_number F.Neither = 0
file_number F.Table = 1
file_number F.Other = 2

abbrev pub refusal : (number file place steps : ℕ) → Answer
refusal n f p k = record { number = n; file = f; place = p; steps = k; length = 0; fields = 0; uses = 0; remaining = 0; rules = 0; goals = 0; longest = 0; tactic = 0 }

-- the success of a checker: term fields, uses, remaining goals and different rules
abbrev pub counted : (fields uses remaining rules : ℕ) → Answer
counted t u o d = record { number = 0; file = 0; place = 0; steps = 0; length = 0; fields = t; uses = u; remaining = o; rules = d; goals = 0; longest = 0; tactic = 0 }

-- the success of an entry that writes: the bytes written, and the terms begun
abbrev pub wrote : (length steps : ℕ) → Answer
wrote n k = record { number = 0; file = 0; place = 0; steps = k; length = n; fields = 0; uses = 0; remaining = 0; rules = 0; goals = 0; longest = 0; tactic = 0 }
