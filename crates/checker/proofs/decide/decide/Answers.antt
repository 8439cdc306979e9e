-- `decide::decide` meets its contract: the walk's answer, and whether its goals are those stated, say which answer it is.
-- Assumes nothing.
use mathlib.Core.Path.{sym, ◌∙◌}
use native.Mathlib.Omega.{arith}
use Rattle.input_arities.proofs.ProofLaws.{small, term_there}
use Rattle.walks.proofs.IndexLaws.{indexed_still}
use Rattle.checker.proofs.DecideLaws.{same-proof, walking, decides_refused, decides_bound, decides_rules, decides_accepted, decides_other}
use Rattle.checker.proofs.decide.decide.Goals as goal

pub lay_out-requires : goal.lay_out-requires
lay_out-requires c = (c.requires.1, c.requires.2)

pub walk-requires : goal.walk-requires
walk-requires c =
    let (p, e, is) = c.requires.1 in
    let l = c.lay_out.ensures p e is in (
      c.requires.0,
      (p.term, l.ready),
      record { file = (small _ _ e _ is).file; space = omega (arith, c.requires.2, c.lay_out.auto.work) },
      record { index = indexed_still _ _ _ _ c.lay_out.auto.work l.index_kept c.requires.3.index },
      l.empty,
    )

pub refused-requires : goal.refused-requires
refused-requires c =
    let (p, e, is) = c.requires.1 in
    let w = walking c.requires.0.0 _ _ _ p _ _ _ _ _ e is (c.lay_out.ensures p e is) c.walk.ensures c.requires.0.1 in
    ((decides_refused _ _ _ _ _ _ _ w _ c.in-Err.is).1, omega arith)

pub returns-in-Err : goal.returns-in-Err
returns-in-Err c = λ T p' st e'.
    let (p, e, is) = c.requires.1 in
    let w = walking T _ _ _ p _ _ _ _ _ e is (c.lay_out.ensures p e is) c.walk.ensures st in
    same-proof _ _ p' T _ e e' (c.refused.ensures ∙ sym (decides_refused _ _ _ _ _ _ _ w _ c.in-Err.is).0)

pub overflow_add-rest : goal.overflow_add-rest
overflow_add-rest c = omega (arith, small _ _ c.requires.1.1 _ c.requires.1.2)

pub same_goals-requires : goal.same_goals-requires
same_goals-requires c =
    let (p, e, is) = c.requires.1 in
    let w = walking c.requires.0.0 _ _ _ p _ _ _ _ _ e is (c.lay_out.ensures p e is) c.walk.ensures c.requires.0.1 in
    (omega (arith, decides_bound _ _ _ _ _ _ _ w _ c.in-Ok.is, c.requires.2, c.walk.auto.work, c.lay_out.auto.work), (small _ _ e _ is).remaining_inside)

-- these are the stated ones
pub count_fields-fields-requires : goal.count_fields-fields-requires
count_fields-fields-requires c = let t = term_there _ _ c.requires.1.1 _ c.requires.1.2 in (c.requires.1.0.term, t.0, t.1)

pub size_of-rules-requires : goal.size_of-rules-requires
size_of-rules-requires c =
    let (p, e, is) = c.requires.1 in
    let w = walking c.requires.0.0 _ _ _ p _ _ _ _ _ e is (c.lay_out.ensures p e is) c.walk.ensures c.requires.0.1 in
    (_, decides_rules _ _ _ _ _ _ _ w _ c.in-Ok.is)

pub counted-requires : goal.counted-requires
counted-requires c =
    let (p, e, is) = c.requires.1 in
    let t = term_there _ _ e _ is in
    let w = walking c.requires.0.0 _ _ _ p _ _ _ _ _ e is (c.lay_out.ensures p e is) c.walk.ensures c.requires.0.1 in
    let a = (decides_accepted _ _ _ _ _ _ _ w _ c.in-Ok.is (sym c.same_goals.ensures ∙ c.if-same_goals.true) _ _ (c.count_fields-fields.ensures p.term t.0 t.1) (c.size_of-rules.ensures.size _ (decides_rules _ _ _ _ _ _ _ w _ c.in-Ok.is))).1 in
    (a.0, a.1, a.2, omega (arith, c.size_of-rules.ensures.few))

pub returns-then-same_goals : goal.returns-then-same_goals
returns-then-same_goals c = λ T p' st e'.
    let (p, e, is) = c.requires.1 in
    let t = term_there _ _ e _ is in
    let w = walking T _ _ _ p _ _ _ _ _ e is (c.lay_out.ensures p e is) c.walk.ensures st in
    same-proof _ _ p' T _ e e'
    (c.counted.ensures ∙ sym (decides_accepted _ _ _ _ _ _ _ w _ c.in-Ok.is (sym c.same_goals.ensures ∙ c.if-same_goals.true) _ _ (c.count_fields-fields.ensures p.term t.0 t.1) (c.size_of-rules.ensures.size _ (decides_rules _ _ _ _ _ _ _ w _ c.in-Ok.is))).0)

-- these are others
pub refused-requires-in-Ok : goal.refused-requires-in-Ok
refused-requires-in-Ok c =
    let (p, e, is) = c.requires.1 in
    let w = walking c.requires.0.0 _ _ _ p _ _ _ _ _ e is (c.lay_out.ensures p e is) c.walk.ensures c.requires.0.1 in
    ((decides_other _ _ _ _ _ _ _ w _ c.in-Ok.is (sym c.same_goals.ensures ∙ c.if-same_goals.false)).1, omega arith)

pub returns-else-same_goals : goal.returns-else-same_goals
returns-else-same_goals c = λ T p' st e'.
    let (p, e, is) = c.requires.1 in
    let w = walking T _ _ _ p _ _ _ _ _ e is (c.lay_out.ensures p e is) c.walk.ensures st in
    same-proof _ _ p' T _ e e' (c.refused-in-Ok.ensures ∙ sym (decides_other _ _ _ _ _ _ _ w _ c.in-Ok.is (sym c.same_goals.ensures ∙ c.if-same_goals.false)).0)
