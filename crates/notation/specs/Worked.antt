-- P8: worked lines over bytes, one for each kind of mark, of binding, of bracket and of refusal. `proofs/Worked.antt` proves them.
use Rattle.std.specs.Prelude.{ℕ, ◌≡◌, List, [], ◌∷◌}
use Rattle.format.specs.declared.refusals.Cause.{Cause}
use Rattle.format.specs.declared.refusals.Cause.TheVariants.{LimitPassed, TextWrong, ValueTooLarge}
use Rattle.format.specs.Results.{gives, refused}
use Rattle.format.specs.Values.{rule_name, goal, label_of, tactic_no}
use Rattle.format.specs.Terms.{Term, atomic, id, label, sequence, tensor, empty, alternation, assert, defined}
use Rattle.notation.specs.Written.{written}
use Rattle.notation.specs.Scans as S
use Rattle.notation.specs.Parse.{parse}

-- a text and the term that it reads as, or its refusal; what is met in the bytes behind 4,096 marks that make fields; a term and its text
pub data Line : Type 0 where
  reads : (text : List ℕ) → Term → Line
  refuses : (text : List ℕ) → Cause → (place : ℕ) → Line
  meets : (rest : List ℕ) → Cause → (place : ℕ) → Line
  writes : Term → (text : List ℕ) → Line

unfoldable pub Holds : Line → Type 0
Holds (reads s t) = parse s ≡ gives t
Holds (refuses s c p) = parse s ≡ refused c p
Holds (meets s c p) = S.scan (S.scanned S.due 0 0 4096 0) 0 s ≡ refused c p
Holds (writes t s) = written t ≡ s

-- every line of a list holds
infixr 5 ◌&◌
pub data AllHold : List Line → Type 0 where
  no_more : AllHold []
  ◌&◌ : {l : Line} {ls : List Line} → Holds l → AllHold ls → AllHold (l ∷ ls)

unfoldable pub worked_lines : List Line
worked_lines =
    -- `a1 * [3]a2 ; a3`: "a label reaches as far right as its bracket allows"
    reads (97 ∷ 49 ∷ 32 ∷ 42 ∷ 32 ∷ 91 ∷ 51 ∷ 93 ∷ 97 ∷ 50 ∷ 32 ∷ 59 ∷ 32 ∷ 97 ∷ 51 ∷ []) (tensor (atomic (rule_name 1)) (label (label_of 3) (sequence (atomic (rule_name 2)) (atomic (rule_name 3)))))
    -- `a1 * ([3]a2) ; a3`
    ∷ reads (97 ∷ 49 ∷ 32 ∷ 42 ∷ 32 ∷ 40 ∷ 91 ∷ 51 ∷ 93 ∷ 97 ∷ 50 ∷ 41 ∷ 32 ∷ 59 ∷ 32 ∷ 97 ∷ 51 ∷ []) (sequence (tensor (atomic (rule_name 1)) (label (label_of 3) (atomic (rule_name 2)))) (atomic (rule_name 3)))
    -- `[1]a1 ; a2 * id`
    ∷ reads (91 ∷ 49 ∷ 93 ∷ 97 ∷ 49 ∷ 32 ∷ 59 ∷ 32 ∷ 97 ∷ 50 ∷ 32 ∷ 42 ∷ 32 ∷ 105 ∷ 100 ∷ []) (label (label_of 1) (sequence (atomic (rule_name 1)) (tensor (atomic (rule_name 2)) id)))
    -- `([1]id) * [2]id | <>`
    ∷ reads (40 ∷ 91 ∷ 49 ∷ 93 ∷ 105 ∷ 100 ∷ 41 ∷ 32 ∷ 42 ∷ 32 ∷ 91 ∷ 50 ∷ 93 ∷ 105 ∷ 100 ∷ 32 ∷ 124 ∷ 32 ∷ 60 ∷ 62 ∷ []) (tensor (label (label_of 1) id) (label (label_of 2) (alternation id empty)))
    -- `a1;a2;a3`: "a chain of the same sign groups to the right"; signs need no blanks
    ∷ reads (97 ∷ 49 ∷ 59 ∷ 97 ∷ 50 ∷ 59 ∷ 97 ∷ 51 ∷ []) (sequence (atomic (rule_name 1)) (sequence (atomic (rule_name 2)) (atomic (rule_name 3))))
    -- `a1 | a2 ; a3 | a4 * a5`: "Tensor binds tightest, then alternation, then sequence"
    ∷ reads (97 ∷ 49 ∷ 32 ∷ 124 ∷ 32 ∷ 97 ∷ 50 ∷ 32 ∷ 59 ∷ 32 ∷ 97 ∷ 51 ∷ 32 ∷ 124 ∷ 32 ∷ 97 ∷ 52 ∷ 32 ∷ 42 ∷ 32 ∷ 97 ∷ 53 ∷ []) (sequence (alternation (atomic (rule_name 1)) (atomic (rule_name 2))) (alternation (atomic (rule_name 3)) (tensor (atomic (rule_name 4)) (atomic (rule_name 5)))))
    -- `(a1 | a2) * (a3 ; a4)`
    ∷ reads (40 ∷ 97 ∷ 49 ∷ 32 ∷ 124 ∷ 32 ∷ 97 ∷ 50 ∷ 41 ∷ 32 ∷ 42 ∷ 32 ∷ 40 ∷ 97 ∷ 51 ∷ 32 ∷ 59 ∷ 32 ∷ 97 ∷ 52 ∷ 41 ∷ []) (tensor (alternation (atomic (rule_name 1)) (atomic (rule_name 2))) (sequence (atomic (rule_name 3)) (atomic (rule_name 4))))
    -- `  ?007  `: "The reader takes leading zeros."
    ∷ reads (32 ∷ 32 ∷ 63 ∷ 48 ∷ 48 ∷ 55 ∷ 32 ∷ 32 ∷ []) (assert (goal 7))
    -- `((T65535))`
    ∷ reads (40 ∷ 40 ∷ 84 ∷ 54 ∷ 53 ∷ 53 ∷ 51 ∷ 53 ∷ 41 ∷ 41 ∷ []) (defined (tactic_no 65535))
    -- ``: "or the end if it comes early"
    ∷ refuses [] TextWrong 0
    -- `(id`
    ∷ refuses (40 ∷ 105 ∷ 100 ∷ []) TextWrong 3
    -- `id;`
    ∷ refuses (105 ∷ 100 ∷ 59 ∷ []) TextWrong 3
    -- `[1]`
    ∷ refuses (91 ∷ 49 ∷ 93 ∷ []) TextWrong 3
    -- `a 1`: no blank stands inside a mark
    ∷ refuses (97 ∷ 32 ∷ 49 ∷ []) TextWrong 1
    -- `ix`: at the byte, not at the beginning of its mark
    ∷ refuses (105 ∷ 120 ∷ []) TextWrong 1
    -- `<id`
    ∷ refuses (60 ∷ 105 ∷ 100 ∷ []) TextWrong 1
    -- `[1x`
    ∷ refuses (91 ∷ 49 ∷ 120 ∷ []) TextWrong 2
    -- `id id`
    ∷ refuses (105 ∷ 100 ∷ 32 ∷ 105 ∷ 100 ∷ []) TextWrong 3
    -- `id)`
    ∷ refuses (105 ∷ 100 ∷ 41 ∷ []) TextWrong 2
    -- `*id`
    ∷ refuses (42 ∷ 105 ∷ 100 ∷ []) TextWrong 0
    -- `A1`
    ∷ refuses (65 ∷ 49 ∷ []) TextWrong 0
    -- `a1(tab)`
    ∷ refuses (97 ∷ 49 ∷ 9 ∷ []) TextWrong 2
    -- `a65536x`: "37, a value over 65,535, at its first digit, when its last digit is read"
    ∷ refuses (97 ∷ 54 ∷ 53 ∷ 53 ∷ 51 ∷ 54 ∷ 120 ∷ []) ValueTooLarge 1
    -- `[65536x`
    ∷ refuses (91 ∷ 54 ∷ 53 ∷ 53 ∷ 51 ∷ 54 ∷ 120 ∷ []) ValueTooLarge 1
    -- `[65536`
    ∷ refuses (91 ∷ 54 ∷ 53 ∷ 53 ∷ 51 ∷ 54 ∷ []) ValueTooLarge 1
    -- `id;a00065536`
    ∷ refuses (105 ∷ 100 ∷ 59 ∷ 97 ∷ 48 ∷ 48 ∷ 48 ∷ 54 ∷ 53 ∷ 53 ∷ 51 ∷ 54 ∷ []) ValueTooLarge 4
    -- `a1x`: the mark is complete with its last digit
    ∷ meets (97 ∷ 49 ∷ 120 ∷ []) LimitPassed 0
    -- `a70000`: "after any 37"
    ∷ meets (97 ∷ 55 ∷ 48 ∷ 48 ∷ 48 ∷ 48 ∷ []) ValueTooLarge 1
    -- `ix`: "once complete"
    ∷ meets (105 ∷ 120 ∷ []) TextWrong 1
    -- `[1x`
    ∷ meets (91 ∷ 49 ∷ 120 ∷ []) TextWrong 2
    -- `((id`: brackets make no field
    ∷ meets (40 ∷ 40 ∷ 105 ∷ 100 ∷ []) LimitPassed 2
    -- `a1 * ([3]a2) ; a3`: "round the label itself if it would reach too far"
    ∷ writes (sequence (tensor (atomic (rule_name 1)) (label (label_of 3) (atomic (rule_name 2)))) (atomic (rule_name 3))) (97 ∷ 49 ∷ 32 ∷ 42 ∷ 32 ∷ 40 ∷ 91 ∷ 51 ∷ 93 ∷ 97 ∷ 50 ∷ 41 ∷ 32 ∷ 59 ∷ 32 ∷ 97 ∷ 51 ∷ [])
    -- `a1 * [3]a2 ; a3`
    ∷ writes (tensor (atomic (rule_name 1)) (label (label_of 3) (sequence (atomic (rule_name 2)) (atomic (rule_name 3))))) (97 ∷ 49 ∷ 32 ∷ 42 ∷ 32 ∷ 91 ∷ 51 ∷ 93 ∷ 97 ∷ 50 ∷ 32 ∷ 59 ∷ 32 ∷ 97 ∷ 51 ∷ [])
    -- `([1]id) * [2]id | <>`
    ∷ writes (tensor (label (label_of 1) id) (label (label_of 2) (alternation id empty))) (40 ∷ 91 ∷ 49 ∷ 93 ∷ 105 ∷ 100 ∷ 41 ∷ 32 ∷ 42 ∷ 32 ∷ 91 ∷ 50 ∷ 93 ∷ 105 ∷ 100 ∷ 32 ∷ 124 ∷ 32 ∷ 60 ∷ 62 ∷ [])
    -- `([1][2]id) ; id`: nested labels get one pair
    ∷ writes (sequence (label (label_of 1) (label (label_of 2) id)) id) (40 ∷ 91 ∷ 49 ∷ 93 ∷ 91 ∷ 50 ∷ 93 ∷ 105 ∷ 100 ∷ 41 ∷ 32 ∷ 59 ∷ 32 ∷ 105 ∷ 100 ∷ [])
    -- `(a1 ; a2) ; a3`
    ∷ writes (sequence (sequence (atomic (rule_name 1)) (atomic (rule_name 2))) (atomic (rule_name 3))) (40 ∷ 97 ∷ 49 ∷ 32 ∷ 59 ∷ 32 ∷ 97 ∷ 50 ∷ 41 ∷ 32 ∷ 59 ∷ 32 ∷ 97 ∷ 51 ∷ [])
    -- `a1 ; a2 ; a3`
    ∷ writes (sequence (atomic (rule_name 1)) (sequence (atomic (rule_name 2)) (atomic (rule_name 3)))) (97 ∷ 49 ∷ 32 ∷ 59 ∷ 32 ∷ 97 ∷ 50 ∷ 32 ∷ 59 ∷ 32 ∷ 97 ∷ 51 ∷ [])
    -- `(a1 | a2) | (a3 ; a4)`
    ∷ writes (alternation (alternation (atomic (rule_name 1)) (atomic (rule_name 2))) (sequence (atomic (rule_name 3)) (atomic (rule_name 4)))) (40 ∷ 97 ∷ 49 ∷ 32 ∷ 124 ∷ 32 ∷ 97 ∷ 50 ∷ 41 ∷ 32 ∷ 124 ∷ 32 ∷ 40 ∷ 97 ∷ 51 ∷ 32 ∷ 59 ∷ 32 ∷ 97 ∷ 52 ∷ 41 ∷ [])
    -- `(id * <>) * (?0 | T65535)`
    ∷ writes (tensor (tensor id empty) (alternation (assert (goal 0)) (defined (tactic_no 65535)))) (40 ∷ 105 ∷ 100 ∷ 32 ∷ 42 ∷ 32 ∷ 60 ∷ 62 ∷ 41 ∷ 32 ∷ 42 ∷ 32 ∷ 40 ∷ 63 ∷ 48 ∷ 32 ∷ 124 ∷ 32 ∷ 84 ∷ 54 ∷ 53 ∷ 53 ∷ 51 ∷ 53 ∷ 41 ∷ [])
    ∷ []
