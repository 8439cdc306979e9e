-- The answer of the call that a case tells, by its entry's definition.
use Rattle.std.specs.Prelude.{ℕ, List, cond, eqb}
use Rattle.answers.specs.declared.Answer.{Answer}
use Rattle.entries.specs.Check.{check, flatten}
use Rattle.entries.specs.CheckFlat.{check_flat, write_proof}
use Rattle.entries.specs.Run.{run_tactic}
use Rattle.entries.specs.Search.{search_tactic}
use Rattle.entries.specs.Texts.{read_text, write_text}
use Rattle.replay.specs.declared.records.Case.{Case}

abbrev pub answer_of : Case → (table other work out : List ℕ) → Answer
answer_of c t s w o =
    cond (eqb c.entry 1) (check t s w).answer
    (cond (eqb c.entry 4) (check_flat t s w).answer
    (cond (eqb c.entry 3) (flatten t s w o).answer
    (cond (eqb c.entry 2) (run_tactic t s c.budget w o).answer
    (cond (eqb c.entry 8) (search_tactic t s c.height c.budget w o).answer
    (cond (eqb c.entry 6) (read_text s w o).answer
    (cond (eqb c.entry 7) (write_text s w o).answer
    (write_proof t s w o).answer))))))
