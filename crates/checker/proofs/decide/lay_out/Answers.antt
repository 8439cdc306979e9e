-- `decide::lay_out` meets its contract: the set is made empty, the arities are noted, the goals are copied.
-- Assumes nothing.
use native.Mathlib.Omega.{arith}
use Rattle.input_arities.proofs.ProofLaws.{small, term_room}
use Rattle.checker.proofs.DecideLaws.{laid_out}
use Rattle.checker.proofs.decide.lay_out.Goals as goal

pub note_arities-requires : goal.note_arities-requires
note_arities-requires c = (c.requires.0.0.term, term_room _ _ c.requires.0.1 _ c.requires.0.2 _ (omega (arith, c.requires.1, c.make_empty.auto.w)))

pub overflow_mul-size : goal.overflow_mul-size
overflow_mul-size c = omega (arith, (small _ _ c.requires.0.1 _ c.requires.0.2).goals)

pub overflow_sub-size : goal.overflow_sub-size
overflow_sub-size c = omega (arith, (small _ _ c.requires.0.1 _ c.requires.0.2).goals)

pub copy_in-requires : goal.copy_in-requires
copy_in-requires c =
    let z = small _ _ c.requires.0.1 _ c.requires.0.2 in
    (z.goals_inside, omega (arith, z.goals, c.requires.1, c.make_empty.auto.w, c.note_arities.auto.work))

pub returns : goal.returns
returns c = λ p e is.
    laid_out _ p e _ is _ _ c.copy_in.ensures (omega (arith, c.requires.1, c.make_empty.auto.w, c.note_arities.auto.work)) _ _ c.make_empty.ensures.kept c.make_empty.ensures.empty
    (c.note_arities.ensures p.term (term_room _ _ e _ is _ (omega (arith, c.requires.1, c.make_empty.auto.w)))) c.note_arities.auto.work c.copy_in.auto.dst
