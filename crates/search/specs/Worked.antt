-- Document 02, P13, "Free choice with a way back": worked lines, over terms. `proofs/Worked.antt` computes them.
use Rattle.std.specs.Prelude.{ℕ, zero, suc, ◌≡◌, List, [], ◌∷◌, replicate}
use Rattle.format.specs.declared.values.Goal.{Goal}
use Rattle.format.specs.Values.{rule_name, goal, label_of, tactic_no}
use Rattle.format.specs.Terms.{Term, atomic, id, label, sequence, tensor, empty, alternation, assert, defined}
use Rattle.tables.specs.Tables.{Table}
use Rattle.search.specs.Answer.{Searched, proved, exhausted, spent, search}

-- document 01, "A table and its edges": rule 1 on 10 gives 20, 30; rule 2 on 20 and rule 3 on 30 give none; rule 4 on 40 gives eight times 40;
-- "tactics 5 = (2 ⊗ T5) | empty and 6 = (3 ⊗ T6) | empty"
abbrev pub table_t5and4 : Table
table_t5and4 = record {
  rules =
      record { name = rule_name 1; goal = goal 10; premises = goal 20 ∷ goal 30 ∷ [] }
      ∷ record { name = rule_name 2; goal = goal 20; premises = [] }
      ∷ record { name = rule_name 3; goal = goal 30; premises = [] }
      ∷ record { name = rule_name 4; goal = goal 40; premises = replicate 8 (goal 40) }
      ∷ [];
  definitions =
      record { tactic = tactic_no 5; body = alternation (tensor (atomic (rule_name 2)) (defined (tactic_no 5))) empty }
      ∷ record { tactic = tactic_no 6; body = alternation (tensor (atomic (rule_name 3)) (defined (tactic_no 6))) empty }
      ∷ [];
}

-- a search in that table and what it comes to
pub data Line : Type 0 where
  searches : (height budget : ℕ) → Term → List Goal → Searched → Line

unfoldable pub Holds : Line → Type 0
Holds (searches h b t g r) = search table_t5and4 h b t g ≡ r

-- every line of a list holds
infixr 5 ◌&◌
pub data AllHold : List Line → Type 0 where
  no_more : AllHold []
  ◌&◌ : {l : Line} {ls : List Line} → Holds l → AllHold ls → AllHold (l ∷ ls)

-- rule 4 side by side, one more than so often
unfoldable pub beside : ℕ → Term
beside zero = atomic (rule_name 4)
beside (suc n) = tensor (atomic (rule_name 4)) (beside n)

unfoldable pub lines : List Line
lines =
    -- "At height 10 it finds T5 ⊗ T6 on 20, 20, 30": after 56 steps
    searches 10 4096 (tensor (defined (tactic_no 5)) (defined (tactic_no 6))) (goal 20 ∷ goal 20 ∷ goal 30 ∷ []) (proved (tensor (tensor (atomic (rule_name 2)) (tensor (atomic (rule_name 2)) empty)) (tensor (atomic (rule_name 3)) empty)) [] 56)
    -- found with the last step of the budget; one less, and the budget ends before it is known
    ∷ searches 10 56 (tensor (defined (tactic_no 5)) (defined (tactic_no 6))) (goal 20 ∷ goal 20 ∷ goal 30 ∷ []) (proved (tensor (tensor (atomic (rule_name 2)) (tensor (atomic (rule_name 2)) empty)) (tensor (atomic (rule_name 3)) empty)) [] 56)
    ∷ searches 10 55 (tensor (defined (tactic_no 5)) (defined (tactic_no 6))) (goal 20 ∷ goal 20 ∷ goal 30 ∷ []) (spent 55)
    -- "None is begun below depth h": at height 9 there is none, which is known after 64 steps, and not before
    ∷ searches 9 64 (tensor (defined (tactic_no 5)) (defined (tactic_no 6))) (goal 20 ∷ goal 20 ∷ goal 30 ∷ []) (exhausted 64)
    ∷ searches 9 63 (tensor (defined (tactic_no 5)) (defined (tactic_no 6))) (goal 20 ∷ goal 20 ∷ goal 30 ∷ []) (spent 63)
    -- a leaf is one rule high, and a label, an alternation and a defined tactic are one higher each than what is inside
    ∷ searches 1 1 id (goal 20 ∷ []) (proved id (goal 20 ∷ []) 1)
    ∷ searches 1 4096 (label (label_of 1) id) (goal 20 ∷ []) (exhausted 1)
    ∷ searches 2 4096 (label (label_of 1) id) (goal 20 ∷ []) (proved (label (label_of 1) id) (goal 20 ∷ []) 2)
    ∷ searches 1 4096 (alternation id id) (goal 20 ∷ []) (exhausted 1)
    ∷ searches 2 4096 (alternation (atomic (rule_name 9)) id) (goal 20 ∷ []) (proved id (goal 20 ∷ []) 3)
    ∷ searches 2 4096 (defined (tactic_no 5)) [] (exhausted 2)
    ∷ searches 3 4096 (defined (tactic_no 5)) [] (proved empty [] 4)
    -- a term that may not begin is not waited for: no 24 at a budget that is spent
    ∷ searches 1 1 (label (label_of 1) id) (goal 20 ∷ []) (exhausted 1)
    -- 24 before the first step
    ∷ searches 1 0 id (goal 20 ∷ []) (spent 0)
    -- "left alternative first"
    ∷ searches 5 4096 (alternation id (atomic (rule_name 2))) (goal 20 ∷ []) (proved id (goal 20 ∷ []) 2)
    -- the right term begins as soon as the left has one evaluation: (id | id) ; (id | id)
    ∷ searches 5 4096 (sequence (alternation id id) (alternation id id)) (goal 20 ∷ []) (proved (sequence id id) (goal 20 ∷ []) 5)
    -- and nothing more is begun once the whole has one
    ∷ searches 5 4096 (alternation (atomic (rule_name 9)) (alternation id id)) (goal 20 ∷ []) (proved id (goal 20 ∷ []) 4)
    ∷ searches 5 4096 (label (label_of 1) (alternation id (atomic (rule_name 2)))) (goal 20 ∷ []) (proved (label (label_of 1) id) (goal 20 ∷ []) 3)
    -- "going back when a later term fails": (id | 2) ; empty
    ∷ searches 5 4096 (sequence (alternation id (atomic (rule_name 2))) empty) (goal 20 ∷ []) (proved (sequence (atomic (rule_name 2)) empty) [] 6)
    -- "first or again": the right part is begun for each evaluation of the left, though it failed before
    ∷ searches 5 4096 (sequence (alternation id id) (atomic (rule_name 9))) (goal 20 ∷ []) (exhausted 6)
    ∷ searches 5 4096 (tensor (alternation id id) (atomic (rule_name 9))) (goal 20 ∷ goal 30 ∷ []) (exhausted 12)
    -- "first or again": the right part is begun again, though it was found before
    ∷ searches 5 4096 (sequence (sequence (alternation id id) id) (atomic (rule_name 9))) (goal 20 ∷ []) (exhausted 9)
    ∷ searches 5 4096 (sequence (tensor (alternation id id) id) (atomic (rule_name 9))) (goal 20 ∷ goal 30 ∷ []) (exhausted 15)
    -- a label and an assertion are taken up without a step
    ∷ searches 5 4096 (sequence (label (label_of 1) (alternation id id)) (atomic (rule_name 9))) (goal 20 ∷ []) (exhausted 7)
    ∷ searches 5 4096 (sequence (assert (goal 20)) (atomic (rule_name 9))) (goal 20 ∷ []) (exhausted 3)
    -- "shortest left part of a split first": empty ⊗ id, not id ⊗ empty
    ∷ searches 5 4096 (tensor (alternation id empty) (alternation id empty)) (goal 20 ∷ []) (proved (tensor empty id) (goal 20 ∷ []) 6)
    -- every split is tried: id is begun on no goal, then on one
    ∷ searches 5 4096 (tensor id empty) (goal 20 ∷ []) (proved (tensor id empty) (goal 20 ∷ []) 4)
    -- a term that cannot take its goals fails after one step, and nothing inside it is begun
    ∷ searches 5 4096 (label (label_of 1) id) (goal 20 ∷ goal 30 ∷ []) (exhausted 1)
    ∷ searches 5 4096 (defined (tactic_no 9)) (goal 20 ∷ []) (exhausted 1)
    ∷ searches 5 4096 (assert (goal 30)) (goal 20 ∷ []) (exhausted 1)
    ∷ searches 5 4096 (atomic (rule_name 2)) (goal 30 ∷ []) (exhausted 1)
    ∷ searches 5 4096 id [] (exhausted 1)
    ∷ searches 5 4096 empty (goal 20 ∷ []) (exhausted 1)
    -- document 01: "assert leaves id"
    ∷ searches 5 4096 (assert (goal 20)) (goal 20 ∷ []) (proved id (goal 20 ∷ []) 1)
    -- "every list at most 256 goals": 33 times eight goals are no evaluation, and the search goes on to its end; 22 is not among its answers
    ∷ searches 64 4096 (beside 31) (replicate 32 (goal 40)) (proved (beside 31) (replicate 256 (goal 40)) 94)
    ∷ searches 64 4096 (beside 32) (replicate 33 (goal 40)) (exhausted 625)
    -- the search goes on behind a list over 256, where a run has 22
    ∷ searches 64 4096 (alternation (beside 32) (tensor id (tensor id (beside 30)))) (replicate 33 (goal 40)) (proved (tensor id (tensor id (beside 30))) (replicate 250 (goal 40)) 723)
    ∷ []
