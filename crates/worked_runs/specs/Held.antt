-- Document 02, P12: runs of more than 4,096 steps, with as many held fields as there may be and with one more. `proofs/Held.antt` proves the lines.
use Rattle.std.specs.Prelude.{ℕ, zero, suc, List, [], ◌∷◌, ◌++◌, replicate}
use Rattle.format.specs.declared.refusals.Cause.TheVariants.{JoinedTooLong, TacticFailed, BudgetSpent, FieldsTooMany}
use Rattle.format.specs.Values.{goal, label_of, tactic_no}
use Rattle.format.specs.Terms.{Term, id, label, sequence, tensor, empty, alternation, defined}
use Rattle.files.specs.Proofs.{Proof, proof_bytes}
use Rattle.files.specs.Jobs.{Job, job_bytes}
use Rattle.search.specs.Worked.{beside}
use Rattle.entries.specs.Outcomes.{success, refusal, no_file}
use Rattle.entries.specs.Lines.{Line, runs}

-- tactic 0 is id, and each further one is the one before it twice: Tn ; Tn
unfoldable pub doublings : (last : ℕ) → List ℕ
doublings zero = 2 ∷ 0 ∷ 5 ∷ 0 ∷ 0 ∷ 17 ∷ 0 ∷ 0 ∷ []
doublings (suc n) = doublings n ++ (2 ∷ 0 ∷ 15 ∷ 0 ∷ suc n ∷ 19 ∷ 0 ∷ 10 ∷ 24 ∷ 0 ∷ 2 ∷ 0 ∷ n ∷ 24 ∷ 0 ∷ 2 ∷ 0 ∷ n ∷ [])

-- rule 4 on 40 gives eight times 40; tactics 0 to 11
abbrev pub table_c : List ℕ
table_c = (1 ∷ 0 ∷ 20 ∷ 0 ∷ 4 ∷ 0 ∷ 40 ∷ 0 ∷ 40 ∷ 0 ∷ 40 ∷ 0 ∷ 40 ∷ 0 ∷ 40 ∷ 0 ∷ 40 ∷ 0 ∷ 40 ∷ 0 ∷ 40 ∷ 0 ∷ 40 ∷ []) ++ doublings 11

abbrev pub tactic : ℕ → Term
tactic n = defined (tactic_no n)

-- what it leaves: 1, 3, 7 .. and, of T11, 4,095 fields, after 2, 6, 14 .. and 8,190 steps
unfoldable pub doubled : ℕ → Term
doubled zero = id
doubled (suc n) = sequence (doubled n) (doubled n)

-- a job on goal 40, and a proof of it with that goal remaining
abbrev pub job_on40 : Term → List ℕ
job_on40 t = job_bytes (record { goals = goal 40 ∷ []; term = t })

abbrev pub proof_on40 : Term → List ℕ
proof_on40 s = proof_bytes (record { goals = goal 40 ∷ []; term = s; remaining = goal 40 ∷ [] })

-- a term that leaves 4,033 fields, and with one label more 4,034, after 8,059 and 8,060 steps
abbrev pub fields4033 : Term
fields4033 = sequence (tactic 10) (sequence (tactic 9) (sequence (tactic 8) (sequence (tactic 7) (sequence (tactic 6) (label (label_of 1) (label (label_of 2) (tactic 5)))))))

unfoldable pub held_lines : List Line
held_lines =
    -- 4,096 fields may be held: [1]T11
    runs table_c (job_on40 (label (label_of 1) (tactic 11))) 16384 (success (proof_on40 (label (label_of 1) (doubled 11))) 8191)
    -- "a finished term that makes the held fields more than 4,096": T11 ; id, at the sequence; 40 with the last step of the budget, 24 with one step less
    ∷ runs table_c (job_on40 (sequence (tactic 11) id)) 8192 (refusal FieldsTooMany no_file 0 8192)
    ∷ runs table_c (job_on40 (sequence (tactic 11) id)) 8191 (refusal BudgetSpent no_file 0 8191)
    -- "with no alternative tried"
    ∷ runs table_c (job_on40 (alternation (sequence (tactic 11) id) id)) 16384 (refusal FieldsTooMany no_file 0 8193)
    -- "fields of a failed alternative are no longer held", and an alternation leaves no field: (T11 ; empty) | [1]T11, with the last step of the largest budget
    ∷ runs table_c (job_on40 (alternation (sequence (tactic 11) empty) (label (label_of 1) (tactic 11)))) 16384 (success (proof_on40 (label (label_of 1) (doubled 11))) 16384)
    -- terms that have begun count nothing: [1](T11 ; empty) fails
    ∷ runs table_c (job_on40 (label (label_of 1) (sequence (tactic 11) empty))) 16384 (refusal TacticFailed no_file 0 8193)
    -- "after 22 at the same term": 4,033 fields beside 63, on 33 goals, leave 257 goals and would leave 4,097 fields
    ∷ runs table_c (job_bytes (record { goals = replicate 33 (goal 40); term = tensor fields4033 (beside 31) })) 16384 (refusal JoinedTooLong no_file 0 8123)
    -- and one field more is 40 in the right part, before that 22
    ∷ runs table_c (job_bytes (record { goals = replicate 33 (goal 40); term = tensor (label (label_of 3) fields4033) (beside 31) })) 16384 (refusal FieldsTooMany no_file 0 8124)
    ∷ []
