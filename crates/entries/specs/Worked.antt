-- Document 01, "A table and its edges": the starred lines, and one line for each refusal and some edges, over bytes. `proofs/Worked.antt` proves them.
use Rattle.std.specs.Prelude.{ℕ, zero, suc, true, false, List, [], ◌∷◌, ◌++◌, replicate}
use Rattle.format.specs.declared.refusals.Cause.TheVariants.{InputTooLong, FieldTorn, TagNotAllowed, LengthWrong, LimitPassed, RuleRepeated, PremiseCountDiffers, TacticRedefined, LabelRepeated, GoalCountWrong, RemainingDiffer, JoinedTooLong, TacticFailed, BudgetSpent, BudgetTooLarge, EntryWrong, GoalsPending, EntriesTooMany, TextWrong, NoEvaluation, HeightOutside}
use Rattle.format.specs.Results.{refused}
use Rattle.format.specs.Values.{goal}
use Rattle.format.specs.Terms.{id, alternation}
use Rattle.files.specs.Proofs.{Proof, proof_bytes}
use Rattle.files.specs.Jobs.{Job, job_bytes}
use Rattle.files.specs.Derivations.{open_entry}
use Rattle.search.specs.Worked.{beside}
use Rattle.answers.specs.Answers as answer
use Rattle.entries.specs.Outcomes.{success, refusal, done, table_file, other_file, no_file}
use Rattle.entries.specs.LentSpace.{Counts}
use Rattle.entries.specs.Lines.{Line, of_bytes, checks, checks_as, flattens, checks_flat, writes, writes_of, runs, runs_into, runs_with, searches, searches_into, searches_with, checks_with, prints, reads_text, writes_text}

abbrev pub counts : (fields uses remaining rules : ℕ) → Counts
counts t u o d = record { fields = t; uses = u; remaining = o; rules = d }

-- "Table A: rule 1 on 10 gives 20, 30; rule 2 on 20 and rule 3 on 30 give none", and its four tactics
abbrev pub table_a : List ℕ
table_a = 1 ∷ 0 ∷ 8 ∷ 0 ∷ 1 ∷ 0 ∷ 10 ∷ 0 ∷ 20 ∷ 0 ∷ 30 ∷ 1 ∷ 0 ∷ 4 ∷ 0 ∷ 2 ∷ 0 ∷ 20 ∷ 1 ∷ 0 ∷ 4 ∷ 0 ∷ 3 ∷ 0 ∷ 30 ∷ 2 ∷ 0 ∷ 26 ∷ 0 ∷ 1 ∷ 18 ∷ 0 ∷ 21 ∷ 0 ∷ 1 ∷ 19 ∷ 0 ∷ 16 ∷ 16 ∷ 0 ∷ 2 ∷ 0 ∷ 1 ∷ 20 ∷ 0 ∷ 8 ∷ 16 ∷ 0 ∷ 2 ∷ 0 ∷ 2 ∷ 17 ∷ 0 ∷ 0 ∷ 2 ∷ 0 ∷ 12 ∷ 0 ∷ 2 ∷ 18 ∷ 0 ∷ 7 ∷ 0 ∷ 2 ∷ 16 ∷ 0 ∷ 2 ∷ 0 ∷ 3 ∷ 2 ∷ 0 ∷ 31 ∷ 0 ∷ 3 ∷ 22 ∷ 0 ∷ 26 ∷ 19 ∷ 0 ∷ 10 ∷ 23 ∷ 0 ∷ 2 ∷ 0 ∷ 30 ∷ 24 ∷ 0 ∷ 2 ∷ 0 ∷ 2 ∷ 19 ∷ 0 ∷ 10 ∷ 24 ∷ 0 ∷ 2 ∷ 0 ∷ 1 ∷ 24 ∷ 0 ∷ 2 ∷ 0 ∷ 3 ∷ 2 ∷ 0 ∷ 19 ∷ 0 ∷ 4 ∷ 22 ∷ 0 ∷ 14 ∷ 20 ∷ 0 ∷ 8 ∷ 17 ∷ 0 ∷ 0 ∷ 24 ∷ 0 ∷ 2 ∷ 0 ∷ 4 ∷ 21 ∷ 0 ∷ 0 ∷ []

-- ([1](1 ; (2 ⊗ id))) ; (id ; [2]3) on goal 10, none remaining
abbrev pub proof_t3 : List ℕ
proof_t3 = 3 ∷ 0 ∷ 2 ∷ 0 ∷ 10 ∷ 19 ∷ 0 ∷ 40 ∷ 18 ∷ 0 ∷ 21 ∷ 0 ∷ 1 ∷ 19 ∷ 0 ∷ 16 ∷ 16 ∷ 0 ∷ 2 ∷ 0 ∷ 1 ∷ 20 ∷ 0 ∷ 8 ∷ 16 ∷ 0 ∷ 2 ∷ 0 ∷ 2 ∷ 17 ∷ 0 ∷ 0 ∷ 19 ∷ 0 ∷ 13 ∷ 17 ∷ 0 ∷ 0 ∷ 18 ∷ 0 ∷ 7 ∷ 0 ∷ 2 ∷ 16 ∷ 0 ∷ 2 ∷ 0 ∷ 3 ∷ 3 ∷ 0 ∷ 0 ∷ []

-- 1 on 10, 2 on 20, 3 on 30
abbrev pub flat_t3 : List ℕ
flat_t3 = 3 ∷ 0 ∷ 2 ∷ 0 ∷ 10 ∷ 32 ∷ 0 ∷ 4 ∷ 0 ∷ 1 ∷ 0 ∷ 10 ∷ 32 ∷ 0 ∷ 4 ∷ 0 ∷ 2 ∷ 0 ∷ 20 ∷ 32 ∷ 0 ∷ 4 ∷ 0 ∷ 3 ∷ 0 ∷ 30 ∷ []

-- 1 ; (2 ⊗ 3) on goal 10, none remaining
abbrev pub proof_back : List ℕ
proof_back = 3 ∷ 0 ∷ 2 ∷ 0 ∷ 10 ∷ 19 ∷ 0 ∷ 18 ∷ 16 ∷ 0 ∷ 2 ∷ 0 ∷ 1 ∷ 20 ∷ 0 ∷ 10 ∷ 16 ∷ 0 ∷ 2 ∷ 0 ∷ 2 ∷ 16 ∷ 0 ∷ 2 ∷ 0 ∷ 3 ∷ 3 ∷ 0 ∷ 0 ∷ []

-- "With tactics 5 = (2 ⊗ T5) | empty and 6 = (3 ⊗ T6) | empty"
abbrev pub table_t5 : List ℕ
table_t5 = table_a ++ (2 ∷ 0 ∷ 21 ∷ 0 ∷ 5 ∷ 22 ∷ 0 ∷ 16 ∷ 20 ∷ 0 ∷ 10 ∷ 16 ∷ 0 ∷ 2 ∷ 0 ∷ 2 ∷ 24 ∷ 0 ∷ 2 ∷ 0 ∷ 5 ∷ 21 ∷ 0 ∷ 0 ∷ 2 ∷ 0 ∷ 21 ∷ 0 ∷ 6 ∷ 22 ∷ 0 ∷ 16 ∷ 20 ∷ 0 ∷ 10 ∷ 16 ∷ 0 ∷ 2 ∷ 0 ∷ 3 ∷ 24 ∷ 0 ∷ 2 ∷ 0 ∷ 6 ∷ 21 ∷ 0 ∷ 0 ∷ [])

-- T5 ⊗ T6 on 20, 20, 30
abbrev pub job_t5_t6 : List ℕ
job_t5_t6 = 3 ∷ 0 ∷ 6 ∷ 0 ∷ 20 ∷ 0 ∷ 20 ∷ 0 ∷ 30 ∷ 20 ∷ 0 ∷ 10 ∷ 24 ∷ 0 ∷ 2 ∷ 0 ∷ 5 ∷ 24 ∷ 0 ∷ 2 ∷ 0 ∷ 6 ∷ []

-- (2 ⊗ (2 ⊗ empty)) ⊗ (3 ⊗ empty) on 20, 20, 30, none remaining
abbrev pub proof_t5_t6 : List ℕ
proof_t5_t6 = 3 ∷ 0 ∷ 6 ∷ 0 ∷ 20 ∷ 0 ∷ 20 ∷ 0 ∷ 30 ∷ 20 ∷ 0 ∷ 30 ∷ 20 ∷ 0 ∷ 16 ∷ 16 ∷ 0 ∷ 2 ∷ 0 ∷ 2 ∷ 20 ∷ 0 ∷ 8 ∷ 16 ∷ 0 ∷ 2 ∷ 0 ∷ 2 ∷ 21 ∷ 0 ∷ 0 ∷ 20 ∷ 0 ∷ 8 ∷ 16 ∷ 0 ∷ 2 ∷ 0 ∷ 3 ∷ 21 ∷ 0 ∷ 0 ∷ 3 ∷ 0 ∷ 0 ∷ []

-- rule 4 on 40 gives eight times 40; rule 5 on 50 gives 10, 20, 50
abbrev pub table_b : List ℕ
table_b = 1 ∷ 0 ∷ 20 ∷ 0 ∷ 4 ∷ 0 ∷ 40 ∷ 0 ∷ 40 ∷ 0 ∷ 40 ∷ 0 ∷ 40 ∷ 0 ∷ 40 ∷ 0 ∷ 40 ∷ 0 ∷ 40 ∷ 0 ∷ 40 ∷ 0 ∷ 40 ∷ 1 ∷ 0 ∷ 10 ∷ 0 ∷ 5 ∷ 0 ∷ 50 ∷ 0 ∷ 10 ∷ 0 ∷ 20 ∷ 0 ∷ 50 ∷ []

-- rule 4 so many times side by side, each leaving eight goals; and the same as the left of an alternation
unfoldable pub side_by_side : ℕ → List ℕ
side_by_side zero = []
side_by_side (suc n) = proof_bytes (record { goals = replicate (suc n) (goal 40); term = beside n; remaining = replicate 256 (goal 40) })

unfoldable pub side_by_side_or : ℕ → List ℕ
side_by_side_or zero = []
side_by_side_or (suc n) = job_bytes (record { goals = replicate (suc n) (goal 40); term = alternation (beside n) id })

-- "Starred ones are proved.", and with them the label case that P5 changes, which has no star
unfoldable pub starred_lines : List Line
starred_lines =
    -- "T3 on 10, budget 19: proof ([1](1 ; (2 ⊗ id))) ; (id ; [2]3), none remaining, 19 steps"
    runs table_a (3 ∷ 0 ∷ 2 ∷ 0 ∷ 10 ∷ 24 ∷ 0 ∷ 2 ∷ 0 ∷ 3 ∷ []) 19 (success proof_t3 19)
    -- "a file of 51 bytes"
    ∷ of_bytes proof_t3 51
    -- "Budget 18: 24 after 18."
    ∷ runs table_a (3 ∷ 0 ∷ 2 ∷ 0 ∷ 10 ∷ 24 ∷ 0 ∷ 2 ∷ 0 ∷ 3 ∷ []) 18 (refusal BudgetSpent no_file 0 18)
    -- "Its flat uses: 1 on 10, 2 on 20, 3 on 30."
    ∷ flattens table_a proof_t3 (done flat_t3)
    -- "Written back: 1 ; (2 ⊗ 3), 5 term fields."
    ∷ writes table_a flat_t3 (done proof_back)
    -- its term fields, uses, remaining goals and rules
    ∷ checks table_a proof_back (done (counts 5 3 0 3))
    -- "T4 on no goals: empty, 4 steps."
    ∷ runs table_a (3 ∷ 0 ∷ 0 ∷ 24 ∷ 0 ∷ 2 ∷ 0 ∷ 4 ∷ []) 4 (success (3 ∷ 0 ∷ 0 ∷ 21 ∷ 0 ∷ 0 ∷ 3 ∷ 0 ∷ 0 ∷ []) 4)
    -- "On two: id ⊗ (id ⊗ empty), 12 steps."
    ∷ runs table_a (3 ∷ 0 ∷ 4 ∷ 0 ∷ 10 ∷ 0 ∷ 20 ∷ 24 ∷ 0 ∷ 2 ∷ 0 ∷ 4 ∷ []) 12 (success (3 ∷ 0 ∷ 4 ∷ 0 ∷ 10 ∷ 0 ∷ 20 ∷ 20 ∷ 0 ∷ 12 ∷ 17 ∷ 0 ∷ 0 ∷ 20 ∷ 0 ∷ 6 ∷ 17 ∷ 0 ∷ 0 ∷ 21 ∷ 0 ∷ 0 ∷ 3 ∷ 0 ∷ 4 ∷ 0 ∷ 10 ∷ 0 ∷ 20 ∷ []) 12)
    -- "(id | 2) ; empty on 20: 23 after 4 steps."
    ∷ runs table_a (3 ∷ 0 ∷ 2 ∷ 0 ∷ 20 ∷ 19 ∷ 0 ∷ 14 ∷ 22 ∷ 0 ∷ 8 ∷ 17 ∷ 0 ∷ 0 ∷ 16 ∷ 0 ∷ 2 ∷ 0 ∷ 2 ∷ 21 ∷ 0 ∷ 0 ∷ []) 4096 (refusal TacticFailed no_file 0 4)
    -- "Proof with goal 10 and term 2: 20 at 5."
    ∷ checks_as table_a (3 ∷ 0 ∷ 2 ∷ 0 ∷ 10 ∷ 16 ∷ 0 ∷ 2 ∷ 0 ∷ 2 ∷ 3 ∷ 0 ∷ 0 ∷ []) (answer.refusal 20 2 5 0)
    -- document 02, P5: "The starred lines with 20 at 11 and at 5 for the nested tensor become 34 and 35", which are "id ⊗ id on 10: 20 at 11"
    ∷ checks_as table_a (3 ∷ 0 ∷ 2 ∷ 0 ∷ 10 ∷ 20 ∷ 0 ∷ 6 ∷ 17 ∷ 0 ∷ 0 ∷ 17 ∷ 0 ∷ 0 ∷ 3 ∷ 0 ∷ 2 ∷ 0 ∷ 10 ∷ []) (answer.refusal 34 2 11 0)
    -- and "(id ⊗ id) ⊗ id on 10: 20 at 5"
    ∷ checks_as table_a (3 ∷ 0 ∷ 2 ∷ 0 ∷ 10 ∷ 20 ∷ 0 ∷ 12 ∷ 20 ∷ 0 ∷ 6 ∷ 17 ∷ 0 ∷ 0 ∷ 17 ∷ 0 ∷ 0 ∷ 17 ∷ 0 ∷ 0 ∷ 3 ∷ 0 ∷ 2 ∷ 0 ∷ 10 ∷ []) (answer.refusal 35 2 5 0)
    -- "the unstarred label case becomes 34", "[1]empty on 10: 20 at 10"
    ∷ checks_as table_a (3 ∷ 0 ∷ 2 ∷ 0 ∷ 10 ∷ 18 ∷ 0 ∷ 5 ∷ 0 ∷ 1 ∷ 21 ∷ 0 ∷ 0 ∷ 3 ∷ 0 ∷ 0 ∷ []) (answer.refusal 34 2 10 0)
    ∷ []

-- One line for each refusal, and edges that the readings settle.
unfoldable pub edge_lines : List Line
edge_lines =
    -- the first proof above
    checks table_a proof_t3 (done (counts 11 3 0 3))
    -- "For the first proof above it prints `accepted fields 11 uses 3 open 0`"; document 02, P6: "gains `rules 3` at its end"
    ∷ prints table_a proof_t3 true (97 ∷ 99 ∷ 99 ∷ 101 ∷ 112 ∷ 116 ∷ 101 ∷ 100 ∷ 32 ∷ 102 ∷ 105 ∷ 101 ∷ 108 ∷ 100 ∷ 115 ∷ 32 ∷ 49 ∷ 49 ∷ 32 ∷ 117 ∷ 115 ∷ 101 ∷ 115 ∷ 32 ∷ 51 ∷ 32 ∷ 111 ∷ 112 ∷ 101 ∷ 110 ∷ 32 ∷ 48 ∷ 32 ∷ 114 ∷ 117 ∷ 108 ∷ 101 ∷ 115 ∷ 32 ∷ 51 ∷ 10 ∷ [])
    -- "every refusal is printed like that of goal 10 with term 2, `refused 20 file 2 place 5`"
    ∷ prints table_a (3 ∷ 0 ∷ 2 ∷ 0 ∷ 10 ∷ 16 ∷ 0 ∷ 2 ∷ 0 ∷ 2 ∷ 3 ∷ 0 ∷ 0 ∷ []) true (114 ∷ 101 ∷ 102 ∷ 117 ∷ 115 ∷ 101 ∷ 100 ∷ 32 ∷ 50 ∷ 48 ∷ 32 ∷ 102 ∷ 105 ∷ 108 ∷ 101 ∷ 32 ∷ 50 ∷ 32 ∷ 112 ∷ 108 ∷ 97 ∷ 99 ∷ 101 ∷ 32 ∷ 53 ∷ 10 ∷ [])
    -- the right derivation that the flattener wrote
    ∷ checks_flat table_a flat_t3 (done (counts 0 3 0 3))
    -- 1: 65,536 bytes, before anything is read
    ∷ checks (replicate 65536 0) [] (refusal InputTooLong table_file 0 0)
    -- the table's 1 to 9 come before the other file's length is looked at
    ∷ checks (1 ∷ []) (replicate 65536 0) (refusal FieldTorn table_file 0 0)
    -- 2: two bytes where a field could begin
    ∷ checks (1 ∷ 0 ∷ 4 ∷ 0 ∷ 1 ∷ 0 ∷ 1 ∷ 1 ∷ 0 ∷ []) [] (refusal FieldTorn table_file 7 0)
    -- 2: no field where one must begin
    ∷ checks_flat table_a [] (refusal FieldTorn other_file 0 0)
    -- 2: an inner term that is missing is torn at its own place
    ∷ runs [] (3 ∷ 0 ∷ 0 ∷ 19 ∷ 0 ∷ 3 ∷ 17 ∷ 0 ∷ 0 ∷ []) 1 (refusal FieldTorn other_file 9 0)
    -- 3: a rule behind a definition
    ∷ checks (2 ∷ 0 ∷ 5 ∷ 0 ∷ 1 ∷ 17 ∷ 0 ∷ 0 ∷ 1 ∷ 0 ∷ 4 ∷ 0 ∷ 1 ∷ 0 ∷ 1 ∷ []) [] (refusal TagNotAllowed table_file 8 0)
    -- 3: a defined tactic in a proof
    ∷ checks [] (3 ∷ 0 ∷ 2 ∷ 0 ∷ 10 ∷ 19 ∷ 0 ∷ 8 ∷ 17 ∷ 0 ∷ 0 ∷ 24 ∷ 0 ∷ 2 ∷ 0 ∷ 1 ∷ 3 ∷ 0 ∷ 0 ∷ []) (refusal TagNotAllowed other_file 11 0)
    -- 4: a rule with nine premises
    ∷ checks (1 ∷ 0 ∷ 22 ∷ 0 ∷ 0 ∷ 0 ∷ 0 ∷ 0 ∷ 0 ∷ 0 ∷ 0 ∷ 0 ∷ 0 ∷ 0 ∷ 0 ∷ 0 ∷ 0 ∷ 0 ∷ 0 ∷ 0 ∷ 0 ∷ 0 ∷ 0 ∷ 0 ∷ 0 ∷ []) [] (refusal LengthWrong table_file 0 0)
    -- 4: a rule of odd length
    ∷ checks (1 ∷ 0 ∷ 5 ∷ 0 ∷ 0 ∷ 0 ∷ 0 ∷ 0 ∷ []) [] (refusal LengthWrong table_file 0 0)
    -- 4: bytes left behind an inner term, at the enclosing field
    ∷ checks [] (3 ∷ 0 ∷ 2 ∷ 0 ∷ 10 ∷ 18 ∷ 0 ∷ 6 ∷ 0 ∷ 1 ∷ 17 ∷ 0 ∷ 0 ∷ 0 ∷ []) (refusal LengthWrong other_file 5 0)
    -- 4: bytes left behind the last field, at the first of them
    ∷ checks [] (3 ∷ 0 ∷ 0 ∷ 21 ∷ 0 ∷ 0 ∷ 3 ∷ 0 ∷ 0 ∷ 0 ∷ []) (refusal LengthWrong other_file 9 0)
    -- 5: 257 goals in a list
    ∷ checks [] (3 ∷ 2 ∷ 2 ∷ replicate 514 0) (refusal LimitPassed other_file 0 0)
    -- 4 before 5: an odd length of more than 256 goals
    ∷ checks [] (3 ∷ 2 ∷ 3 ∷ replicate 515 0) (refusal LengthWrong other_file 0 0)
    -- 6: at the second of two equal rules
    ∷ checks (1 ∷ 0 ∷ 4 ∷ 0 ∷ 1 ∷ 0 ∷ 1 ∷ 1 ∷ 0 ∷ 4 ∷ 0 ∷ 2 ∷ 0 ∷ 2 ∷ 1 ∷ 0 ∷ 4 ∷ 0 ∷ 1 ∷ 0 ∷ 1 ∷ []) [] (refusal RuleRepeated table_file 14 0)
    -- 6 before 7, though its place is higher
    ∷ checks (1 ∷ 0 ∷ 4 ∷ 0 ∷ 1 ∷ 0 ∷ 1 ∷ 1 ∷ 0 ∷ 6 ∷ 0 ∷ 1 ∷ 0 ∷ 2 ∷ 0 ∷ 3 ∷ 1 ∷ 0 ∷ 4 ∷ 0 ∷ 2 ∷ 0 ∷ 2 ∷ 1 ∷ 0 ∷ 4 ∷ 0 ∷ 2 ∷ 0 ∷ 2 ∷ []) [] (refusal RuleRepeated table_file 23 0)
    -- 7: the first rule with another count
    ∷ checks (1 ∷ 0 ∷ 4 ∷ 0 ∷ 1 ∷ 0 ∷ 1 ∷ 1 ∷ 0 ∷ 6 ∷ 0 ∷ 1 ∷ 0 ∷ 2 ∷ 0 ∷ 3 ∷ 1 ∷ 0 ∷ 4 ∷ 0 ∷ 1 ∷ 0 ∷ 3 ∷ []) [] (refusal PremiseCountDiffers table_file 7 0)
    -- 8: at the second definition
    ∷ checks (1 ∷ 0 ∷ 4 ∷ 0 ∷ 1 ∷ 0 ∷ 1 ∷ 2 ∷ 0 ∷ 5 ∷ 0 ∷ 1 ∷ 17 ∷ 0 ∷ 0 ∷ 2 ∷ 0 ∷ 5 ∷ 0 ∷ 1 ∷ 17 ∷ 0 ∷ 0 ∷ []) [] (refusal TacticRedefined table_file 15 0)
    -- 9: a label twice in one body
    ∷ checks (2 ∷ 0 ∷ 15 ∷ 0 ∷ 1 ∷ 18 ∷ 0 ∷ 10 ∷ 0 ∷ 5 ∷ 18 ∷ 0 ∷ 5 ∷ 0 ∷ 5 ∷ 17 ∷ 0 ∷ 0 ∷ []) [] (refusal LabelRepeated table_file 10 0)
    -- 9: a label of an earlier body, at the label
    ∷ checks (2 ∷ 0 ∷ 10 ∷ 0 ∷ 1 ∷ 18 ∷ 0 ∷ 5 ∷ 0 ∷ 5 ∷ 17 ∷ 0 ∷ 0 ∷ 2 ∷ 0 ∷ 16 ∷ 0 ∷ 2 ∷ 19 ∷ 0 ∷ 11 ∷ 17 ∷ 0 ∷ 0 ∷ 18 ∷ 0 ∷ 5 ∷ 0 ∷ 5 ∷ 17 ∷ 0 ∷ 0 ∷ []) [] (refusal LabelRepeated table_file 24 0)
    -- 20: one goal, and no rule of that name at all
    ∷ checks_as table_a (3 ∷ 0 ∷ 2 ∷ 0 ∷ 10 ∷ 16 ∷ 0 ∷ 2 ∷ 0 ∷ 9 ∷ 3 ∷ 0 ∷ 0 ∷ []) (answer.refusal 20 2 5 0)
    -- 34 before 20: an atomic that no rule has the name of, on two goals
    ∷ checks_as table_a (3 ∷ 0 ∷ 4 ∷ 0 ∷ 10 ∷ 0 ∷ 10 ∷ 16 ∷ 0 ∷ 2 ∷ 0 ∷ 9 ∷ 3 ∷ 0 ∷ 0 ∷ []) (answer.refusal 34 2 7 0)
    -- 34: an empty on two goals
    ∷ checks_as [] (3 ∷ 0 ∷ 4 ∷ 0 ∷ 10 ∷ 0 ∷ 10 ∷ 21 ∷ 0 ∷ 0 ∷ 3 ∷ 0 ∷ 0 ∷ []) (answer.refusal 34 2 7 0)
    -- 34: a label on no goal
    ∷ checks_as [] (3 ∷ 0 ∷ 0 ∷ 18 ∷ 0 ∷ 5 ∷ 0 ∷ 1 ∷ 21 ∷ 0 ∷ 0 ∷ 3 ∷ 0 ∷ 0 ∷ []) (answer.refusal 34 2 3 0)
    -- 35: a tensor on no goal
    ∷ checks_as [] (3 ∷ 0 ∷ 0 ∷ 20 ∷ 0 ∷ 6 ∷ 17 ∷ 0 ∷ 0 ∷ 17 ∷ 0 ∷ 0 ∷ 3 ∷ 0 ∷ 0 ∷ []) (answer.refusal 35 2 3 0)
    -- a sequence has neither 34 nor 35: (id ⊗ id) ; id on one goal, at the second id
    ∷ checks_as [] (3 ∷ 0 ∷ 2 ∷ 0 ∷ 10 ∷ 19 ∷ 0 ∷ 12 ∷ 20 ∷ 0 ∷ 6 ∷ 17 ∷ 0 ∷ 0 ∷ 17 ∷ 0 ∷ 0 ∷ 17 ∷ 0 ∷ 0 ∷ 3 ∷ 0 ∷ 0 ∷ []) (answer.refusal 34 2 14 0)
    -- 34 before 20: an atomic that no rule has the name of, on no goal
    ∷ checks_as [] (3 ∷ 0 ∷ 0 ∷ 16 ∷ 0 ∷ 2 ∷ 0 ∷ 9 ∷ 3 ∷ 0 ∷ 0 ∷ []) (answer.refusal 34 2 3 0)
    -- 34: a label on two goals
    ∷ checks_as [] (3 ∷ 0 ∷ 4 ∷ 0 ∷ 10 ∷ 0 ∷ 10 ∷ 18 ∷ 0 ∷ 5 ∷ 0 ∷ 1 ∷ 17 ∷ 0 ∷ 0 ∷ 3 ∷ 0 ∷ 0 ∷ []) (answer.refusal 34 2 7 0)
    -- goals too many for a tensor are 34 at a term of its right part: id ⊗ id on three
    ∷ checks_as [] (3 ∷ 0 ∷ 6 ∷ 0 ∷ 10 ∷ 0 ∷ 10 ∷ 0 ∷ 10 ∷ 20 ∷ 0 ∷ 6 ∷ 17 ∷ 0 ∷ 0 ∷ 17 ∷ 0 ∷ 0 ∷ 3 ∷ 0 ∷ 0 ∷ []) (answer.refusal 34 2 15 0)
    -- 35 before the left part is walked: (9 ⊗ id) ⊗ id on one goal, where the walk of 9 would be 20
    ∷ checks_as [] (3 ∷ 0 ∷ 2 ∷ 0 ∷ 10 ∷ 20 ∷ 0 ∷ 14 ∷ 20 ∷ 0 ∷ 8 ∷ 16 ∷ 0 ∷ 2 ∷ 0 ∷ 9 ∷ 17 ∷ 0 ∷ 0 ∷ 17 ∷ 0 ∷ 0 ∷ 3 ∷ 0 ∷ 0 ∷ []) (answer.refusal 35 2 5 0)
    -- the flattener refuses for the same cause
    ∷ flattens [] (3 ∷ 0 ∷ 0 ∷ 17 ∷ 0 ∷ 0 ∷ 3 ∷ 0 ∷ 0 ∷ []) (refusal GoalCountWrong other_file 3 0)
    -- a label inside a tensor takes one goal
    ∷ checks table_a (3 ∷ 0 ∷ 4 ∷ 0 ∷ 20 ∷ 0 ∷ 30 ∷ 20 ∷ 0 ∷ 15 ∷ 18 ∷ 0 ∷ 7 ∷ 0 ∷ 7 ∷ 16 ∷ 0 ∷ 2 ∷ 0 ∷ 2 ∷ 16 ∷ 0 ∷ 2 ∷ 0 ∷ 3 ∷ 3 ∷ 0 ∷ 0 ∷ []) (done (counts 4 2 0 2))
    -- 21: the remaining goals in another order
    ∷ checks [] (3 ∷ 0 ∷ 4 ∷ 0 ∷ 10 ∷ 0 ∷ 20 ∷ 20 ∷ 0 ∷ 6 ∷ 17 ∷ 0 ∷ 0 ∷ 17 ∷ 0 ∷ 0 ∷ 3 ∷ 0 ∷ 4 ∷ 0 ∷ 20 ∷ 0 ∷ 10 ∷ []) (refusal RemainingDiffer other_file 16 0)
    -- 22: "Rule 4 on 40 giving eight times 40: 32 side by side pass, 33 get 22", at the outermost tensor
    ∷ checks table_b (side_by_side 32) (done (counts 63 32 256 1))
    ∷ checks table_b (side_by_side 33) (refusal JoinedTooLong other_file 69 0)
    -- 22 in a run: file and place 0; it does not move on to an alternative
    ∷ runs table_b (side_by_side_or 33) 4096 (refusal JoinedTooLong no_file 0 66)
    -- 23: "T5 ⊗ T6 on 20, 20, 30: 23 after 1 step"
    ∷ runs table_t5 job_t5_t6 4096 (refusal TacticFailed no_file 0 1)
    -- 24 before the first step
    ∷ runs [] (3 ∷ 0 ∷ 0 ∷ 21 ∷ 0 ∷ 0 ∷ []) 0 (refusal BudgetSpent no_file 0 0)
    -- 25: "Budget 4,096 runs; 4,097 is 25", which P12 makes 16,384 and 16,385; before any reading
    ∷ runs [] (3 ∷ 0 ∷ 0 ∷ 21 ∷ 0 ∷ 0 ∷ []) 16384 (success (3 ∷ 0 ∷ 0 ∷ 21 ∷ 0 ∷ 0 ∷ 3 ∷ 0 ∷ 0 ∷ []) 1)
    ∷ runs (1 ∷ []) [] 16385 (refusal BudgetTooLarge no_file 0 0)
    -- 26: one byte too few; the steps are those of the whole run
    ∷ runs_into [] (3 ∷ 0 ∷ 0 ∷ 21 ∷ 0 ∷ 0 ∷ []) 1 (7 ∷ []) (replicate 8 7) (record { answer = answer.refusal 26 0 0 1; work = 0 ∷ []; out = replicate 8 7 })
    -- a success leaves the bytes past its result untouched; all twelve numbers of the answer
    ∷ runs_into [] (3 ∷ 0 ∷ 0 ∷ 21 ∷ 0 ∷ 0 ∷ []) 1 (7 ∷ []) (replicate 11 7) (record { answer = record { number = 0; file = 0; place = 0; steps = 1; length = 9; fields = 0; uses = 0; remaining = 0; rules = 0; goals = 0; longest = 0; tactic = 0 }; work = 0 ∷ []; out = 3 ∷ 0 ∷ 0 ∷ 21 ∷ 0 ∷ 0 ∷ 3 ∷ 0 ∷ 0 ∷ 7 ∷ 7 ∷ [] })
    -- 27: an entry that does not carry the first pending goal
    ∷ checks_flat table_a (3 ∷ 0 ∷ 4 ∷ 0 ∷ 20 ∷ 0 ∷ 30 ∷ 32 ∷ 0 ∷ 4 ∷ 0 ∷ 3 ∷ 0 ∷ 30 ∷ 32 ∷ 0 ∷ 4 ∷ 0 ∷ 2 ∷ 0 ∷ 20 ∷ []) (refusal EntryWrong other_file 7 0)
    -- 27: goals pending at the end
    ∷ checks_flat table_a (3 ∷ 0 ∷ 2 ∷ 0 ∷ 10 ∷ 32 ∷ 0 ∷ 4 ∷ 0 ∷ 1 ∷ 0 ∷ 10 ∷ 32 ∷ 0 ∷ 4 ∷ 0 ∷ 2 ∷ 0 ∷ 20 ∷ []) (refusal GoalsPending other_file 19 0)
    -- 28: "2,048 entries are written back; 2,049 is 28"
    ∷ writes_of (record { rules = []; definitions = [] }) (record { roots = []; entries = replicate 2049 (open_entry (goal 1)) }) (refused EntriesTooMany 0)
    -- 29: one byte of work space is too little, and stays as it was
    ∷ checks_with [] [] (7 ∷ []) (record { answer = answer.refusal 29 0 0 0; work = 7 ∷ [] })
    -- 29 before 25
    ∷ runs_with [] [] 16385 (7 ∷ []) (7 ∷ []) (record { answer = answer.refusal 29 0 0 0; work = 7 ∷ []; out = 7 ∷ [] })
    -- a use with three premises written back: tensors lean right
    ∷ writes table_b (3 ∷ 0 ∷ 2 ∷ 0 ∷ 50 ∷ 32 ∷ 0 ∷ 4 ∷ 0 ∷ 5 ∷ 0 ∷ 50 ∷ 33 ∷ 0 ∷ 2 ∷ 0 ∷ 10 ∷ 33 ∷ 0 ∷ 2 ∷ 0 ∷ 20 ∷ 33 ∷ 0 ∷ 2 ∷ 0 ∷ 50 ∷ []) (done (3 ∷ 0 ∷ 2 ∷ 0 ∷ 50 ∷ 19 ∷ 0 ∷ 20 ∷ 16 ∷ 0 ∷ 2 ∷ 0 ∷ 5 ∷ 20 ∷ 0 ∷ 12 ∷ 17 ∷ 0 ∷ 0 ∷ 20 ∷ 0 ∷ 6 ∷ 17 ∷ 0 ∷ 0 ∷ 17 ∷ 0 ∷ 0 ∷ 3 ∷ 0 ∷ 6 ∷ 0 ∷ 10 ∷ 0 ∷ 20 ∷ 0 ∷ 50 ∷ []))
    -- no roots are written back as empty
    ∷ writes [] (3 ∷ 0 ∷ 0 ∷ []) (done (3 ∷ 0 ∷ 0 ∷ 21 ∷ 0 ∷ 0 ∷ 3 ∷ 0 ∷ 0 ∷ []))
    ∷ []

-- document 02, P7: a proof file of no bytes, the nine bytes that mean the same, and files of no bytes that are still refused
abbrev pub no_goals_proof : List ℕ
no_goals_proof = 3 ∷ 0 ∷ 0 ∷ 21 ∷ 0 ∷ 0 ∷ 3 ∷ 0 ∷ 0 ∷ []

-- `accepted fields 1 uses 0 open 0 rules 0`
abbrev pub no_bytes_line : List ℕ
no_bytes_line = 97 ∷ 99 ∷ 99 ∷ 101 ∷ 112 ∷ 116 ∷ 101 ∷ 100 ∷ 32 ∷ 102 ∷ 105 ∷ 101 ∷ 108 ∷ 100 ∷ 115 ∷ 32 ∷ 49 ∷ 32 ∷ 117 ∷ 115 ∷ 101 ∷ 115 ∷ 32 ∷ 48 ∷ 32 ∷ 111 ∷ 112 ∷ 101 ∷ 110 ∷ 32 ∷ 48 ∷ 32 ∷ 114 ∷ 117 ∷ 108 ∷ 101 ∷ 115 ∷ 32 ∷ 48 ∷ 10 ∷ []

-- `refused 2 file 2 place 0`
abbrev pub unopened_line : List ℕ
unopened_line = 114 ∷ 101 ∷ 102 ∷ 117 ∷ 115 ∷ 101 ∷ 100 ∷ 32 ∷ 50 ∷ 32 ∷ 102 ∷ 105 ∷ 108 ∷ 101 ∷ 32 ∷ 50 ∷ 32 ∷ 112 ∷ 108 ∷ 97 ∷ 99 ∷ 101 ∷ 32 ∷ 48 ∷ 10 ∷ []

unfoldable pub no_byte_lines : List Line
no_byte_lines =
    -- "accepted, with one term field and no use"
    checks table_a [] (done (counts 1 0 0 0))
    ∷ checks table_a no_goals_proof (done (counts 1 0 0 0))
    -- "One or two bytes are still 2."
    ∷ checks table_a (3 ∷ []) (refusal FieldTorn other_file 0 0)
    ∷ checks table_a (3 ∷ 0 ∷ []) (refusal FieldTorn other_file 0 0)
    -- "Flattening it writes an empty goal list.", which is written back as the nine bytes
    ∷ flattens table_a [] (done (3 ∷ 0 ∷ 0 ∷ []))
    ∷ flattens table_a no_goals_proof (done (3 ∷ 0 ∷ 0 ∷ []))
    ∷ writes table_a (3 ∷ 0 ∷ 0 ∷ []) (done no_goals_proof)
    -- jobs and flat files must begin with a goal list, as before
    ∷ runs table_a [] 4096 (refusal FieldTorn other_file 0 0)
    ∷ writes table_a [] (refusal FieldTorn other_file 0 0)
    -- the check program, with a proof.hip of no bytes
    ∷ prints table_a [] true no_bytes_line
    -- and with one that cannot be opened, whatever stands in its buffer, "the table's refusals coming first": `refused 2 file 1 place 0`
    ∷ prints table_a proof_t3 false unopened_line
    ∷ prints (1 ∷ []) proof_t3 false (114 ∷ 101 ∷ 102 ∷ 117 ∷ 115 ∷ 101 ∷ 100 ∷ 32 ∷ 50 ∷ 32 ∷ 102 ∷ 105 ∷ 108 ∷ 101 ∷ 32 ∷ 49 ∷ 32 ∷ 112 ∷ 108 ∷ 97 ∷ 99 ∷ 101 ∷ 32 ∷ 48 ∷ 10 ∷ [])
    ∷ []

-- document 02, P6: rule 1 on 10, rule 1 on 20 and rule 2 on 20, which give none
abbrev pub table_r : List ℕ
table_r = 1 ∷ 0 ∷ 4 ∷ 0 ∷ 1 ∷ 0 ∷ 10 ∷ 1 ∷ 0 ∷ 4 ∷ 0 ∷ 1 ∷ 0 ∷ 20 ∷ 1 ∷ 0 ∷ 4 ∷ 0 ∷ 2 ∷ 0 ∷ 20 ∷ []

unfoldable pub rule_lines : List Line
rule_lines =
    -- "different rules" are different rule fields: one name on two goals is two rules
    checks table_r (3 ∷ 0 ∷ 4 ∷ 0 ∷ 10 ∷ 0 ∷ 20 ∷ 20 ∷ 0 ∷ 10 ∷ 16 ∷ 0 ∷ 2 ∷ 0 ∷ 1 ∷ 16 ∷ 0 ∷ 2 ∷ 0 ∷ 1 ∷ 3 ∷ 0 ∷ 0 ∷ []) (done (counts 3 2 0 2))
    ∷ checks_flat table_r (3 ∷ 0 ∷ 4 ∷ 0 ∷ 10 ∷ 0 ∷ 20 ∷ 32 ∷ 0 ∷ 4 ∷ 0 ∷ 1 ∷ 0 ∷ 10 ∷ 32 ∷ 0 ∷ 4 ∷ 0 ∷ 1 ∷ 0 ∷ 20 ∷ []) (done (counts 0 2 0 2))
    -- the same rule twice is one
    ∷ checks table_r (3 ∷ 0 ∷ 4 ∷ 0 ∷ 10 ∷ 0 ∷ 10 ∷ 20 ∷ 0 ∷ 10 ∷ 16 ∷ 0 ∷ 2 ∷ 0 ∷ 1 ∷ 16 ∷ 0 ∷ 2 ∷ 0 ∷ 1 ∷ 3 ∷ 0 ∷ 0 ∷ []) (done (counts 3 2 0 1))
    -- `accepted fields 3 uses 2 open 0 rules 1`
    ∷ prints table_r (3 ∷ 0 ∷ 4 ∷ 0 ∷ 10 ∷ 0 ∷ 10 ∷ 20 ∷ 0 ∷ 10 ∷ 16 ∷ 0 ∷ 2 ∷ 0 ∷ 1 ∷ 16 ∷ 0 ∷ 2 ∷ 0 ∷ 1 ∷ 3 ∷ 0 ∷ 0 ∷ []) true (97 ∷ 99 ∷ 99 ∷ 101 ∷ 112 ∷ 116 ∷ 101 ∷ 100 ∷ 32 ∷ 102 ∷ 105 ∷ 101 ∷ 108 ∷ 100 ∷ 115 ∷ 32 ∷ 51 ∷ 32 ∷ 117 ∷ 115 ∷ 101 ∷ 115 ∷ 32 ∷ 50 ∷ 32 ∷ 111 ∷ 112 ∷ 101 ∷ 110 ∷ 32 ∷ 48 ∷ 32 ∷ 114 ∷ 117 ∷ 108 ∷ 101 ∷ 115 ∷ 32 ∷ 49 ∷ 10 ∷ [])
    -- all twelve numbers of an answer
    ∷ checks_as table_r (3 ∷ 0 ∷ 4 ∷ 0 ∷ 10 ∷ 0 ∷ 10 ∷ 20 ∷ 0 ∷ 10 ∷ 16 ∷ 0 ∷ 2 ∷ 0 ∷ 1 ∷ 16 ∷ 0 ∷ 2 ∷ 0 ∷ 1 ∷ 3 ∷ 0 ∷ 0 ∷ []) (record { number = 0; file = 0; place = 0; steps = 0; length = 0; fields = 3; uses = 2; remaining = 0; rules = 1; goals = 0; longest = 0; tactic = 0 })
    -- two rules in turn are two: 1 ⊗ (2 ⊗ (1 ⊗ 2)) on 10, 20, 10, 20
    ∷ checks table_r (3 ∷ 0 ∷ 8 ∷ 0 ∷ 10 ∷ 0 ∷ 20 ∷ 0 ∷ 10 ∷ 0 ∷ 20 ∷ 20 ∷ 0 ∷ 26 ∷ 16 ∷ 0 ∷ 2 ∷ 0 ∷ 1 ∷ 20 ∷ 0 ∷ 18 ∷ 16 ∷ 0 ∷ 2 ∷ 0 ∷ 2 ∷ 20 ∷ 0 ∷ 10 ∷ 16 ∷ 0 ∷ 2 ∷ 0 ∷ 1 ∷ 16 ∷ 0 ∷ 2 ∷ 0 ∷ 2 ∷ 3 ∷ 0 ∷ 0 ∷ []) (done (counts 7 4 0 2))
    ∷ checks_flat table_r (3 ∷ 0 ∷ 8 ∷ 0 ∷ 10 ∷ 0 ∷ 20 ∷ 0 ∷ 10 ∷ 0 ∷ 20 ∷ 32 ∷ 0 ∷ 4 ∷ 0 ∷ 1 ∷ 0 ∷ 10 ∷ 32 ∷ 0 ∷ 4 ∷ 0 ∷ 2 ∷ 0 ∷ 20 ∷ 32 ∷ 0 ∷ 4 ∷ 0 ∷ 1 ∷ 0 ∷ 10 ∷ 32 ∷ 0 ∷ 4 ∷ 0 ∷ 2 ∷ 0 ∷ 20 ∷ []) (done (counts 0 4 0 2))
    -- an open leaf has no rule
    ∷ checks_flat table_r (3 ∷ 0 ∷ 4 ∷ 0 ∷ 10 ∷ 0 ∷ 30 ∷ 32 ∷ 0 ∷ 4 ∷ 0 ∷ 1 ∷ 0 ∷ 10 ∷ 33 ∷ 0 ∷ 2 ∷ 0 ∷ 30 ∷ []) (done (counts 0 1 1 1))
    -- a walk that is refused has no count, though it looked up a rule: 1 ⊗ 2 on 10, 10
    ∷ checks_as table_r (3 ∷ 0 ∷ 4 ∷ 0 ∷ 10 ∷ 0 ∷ 10 ∷ 20 ∷ 0 ∷ 10 ∷ 16 ∷ 0 ∷ 2 ∷ 0 ∷ 1 ∷ 16 ∷ 0 ∷ 2 ∷ 0 ∷ 2 ∷ 3 ∷ 0 ∷ 0 ∷ []) (record { number = 20; file = 2; place = 15; steps = 0; length = 0; fields = 0; uses = 0; remaining = 0; rules = 0; goals = 0; longest = 0; tactic = 0 })
    ∷ []

-- document 02, P8: the body of tactic 3 of table A as text and as a term file, and what is refused
abbrev pub body_t3 : List ℕ
body_t3 = 22 ∷ 0 ∷ 26 ∷ 19 ∷ 0 ∷ 10 ∷ 23 ∷ 0 ∷ 2 ∷ 0 ∷ 30 ∷ 24 ∷ 0 ∷ 2 ∷ 0 ∷ 2 ∷ 19 ∷ 0 ∷ 10 ∷ 24 ∷ 0 ∷ 2 ∷ 0 ∷ 1 ∷ 24 ∷ 0 ∷ 2 ∷ 0 ∷ 3 ∷ []

-- `(?30 ; T2) | (T1 ; T3)`
abbrev pub text_t3 : List ℕ
text_t3 = 40 ∷ 63 ∷ 51 ∷ 48 ∷ 32 ∷ 59 ∷ 32 ∷ 84 ∷ 50 ∷ 41 ∷ 32 ∷ 124 ∷ 32 ∷ 40 ∷ 84 ∷ 49 ∷ 32 ∷ 59 ∷ 32 ∷ 84 ∷ 51 ∷ 41 ∷ []

unfoldable pub text_lines : List Line
text_lines =
    reads_text text_t3 (done body_t3)
    ∷ writes_text body_t3 (done text_t3)
    -- no bytes: 36 at the end, 2 where the field must begin
    ∷ reads_text [] (refusal TextWrong other_file 0 0)
    ∷ writes_text [] (refusal FieldTorn other_file 0 0)
    -- a byte behind the term
    ∷ writes_text (17 ∷ 0 ∷ 0 ∷ 0 ∷ []) (refusal LengthWrong other_file 3 0)
    -- a goal list in front
    ∷ writes_text (3 ∷ 0 ∷ 0 ∷ 17 ∷ 0 ∷ 0 ∷ []) (refusal TagNotAllowed other_file 0 0)
    ∷ []

-- document 02, P13: T5 ⊗ T6, which no run proves, and what is refused
unfoldable pub search_lines : List Line
search_lines =
    -- "At height 10 it finds T5 ⊗ T6 on 20, 20, 30 where the machine fails"
    searches table_t5 job_t5_t6 10 4096 (success proof_t5_t6 56)
    -- "A found proof .. validates and flattens like any other": 2 on 20, 2 on 20, 3 on 30
    ∷ checks table_t5 proof_t5_t6 (done (counts 9 3 0 2))
    ∷ flattens table_t5 proof_t5_t6 (done (3 ∷ 0 ∷ 6 ∷ 0 ∷ 20 ∷ 0 ∷ 20 ∷ 0 ∷ 30 ∷ 32 ∷ 0 ∷ 4 ∷ 0 ∷ 2 ∷ 0 ∷ 20 ∷ 32 ∷ 0 ∷ 4 ∷ 0 ∷ 2 ∷ 0 ∷ 20 ∷ 32 ∷ 0 ∷ 4 ∷ 0 ∷ 3 ∷ 0 ∷ 30 ∷ []))
    ∷ searches table_t5 job_t5_t6 10 55 (refusal BudgetSpent no_file 0 55)
    ∷ searches table_t5 job_t5_t6 9 64 (refusal NoEvaluation no_file 0 64)
    -- 24 comes behind the reading of both files
    ∷ searches [] [] 1 0 (refusal FieldTorn other_file 0 0)
    ∷ searches [] (3 ∷ 0 ∷ 2 ∷ 0 ∷ 1 ∷ 17 ∷ 0 ∷ 0 ∷ []) 1 0 (refusal BudgetSpent no_file 0 0)
    -- 25, then 42, then the files; heights 1 and 64 are the last inside
    ∷ searches (1 ∷ []) [] 0 4097 (refusal BudgetTooLarge no_file 0 0)
    ∷ searches (1 ∷ []) [] 0 4096 (refusal HeightOutside no_file 0 0)
    ∷ searches (1 ∷ []) [] 65 4096 (refusal HeightOutside no_file 0 0)
    ∷ searches (1 ∷ []) [] 1 4096 (refusal FieldTorn table_file 0 0)
    ∷ searches (1 ∷ []) [] 64 4096 (refusal FieldTorn table_file 0 0)
    -- 26: one byte too few; the steps are those of the whole search
    ∷ searches_into [] (3 ∷ 0 ∷ 0 ∷ 21 ∷ 0 ∷ 0 ∷ []) 1 1 (7 ∷ []) (replicate 8 7) (record { answer = answer.refusal 26 0 0 1; work = 0 ∷ []; out = replicate 8 7 })
    ∷ searches_into [] (3 ∷ 0 ∷ 0 ∷ 21 ∷ 0 ∷ 0 ∷ []) 1 1 (7 ∷ []) (replicate 10 7) (record { answer = answer.wrote 9 1; work = 0 ∷ []; out = 3 ∷ 0 ∷ 0 ∷ 21 ∷ 0 ∷ 0 ∷ 3 ∷ 0 ∷ 0 ∷ 7 ∷ [] })
    -- 29 before 25 and 42
    ∷ searches_with [] [] 0 4097 (7 ∷ []) (7 ∷ []) (record { answer = answer.refusal 29 0 0 0; work = 7 ∷ []; out = 7 ∷ [] })
    ∷ []
